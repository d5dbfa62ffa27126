-- Laws of the search over a stream's places: what a loop over them does turn by turn.
use Rattle.std.proofs.Common.{◌≡◌, ℕ, zero, suc, ◌+◌, ◌-◌, ◌<◌, ◌≤◌, Bool, true, false, cond, sym, refl, ap, ◌∙◌, ⊎_elim, eq-or-lt_of_le, add-one, add-zero, arith, not, ltb, ltb-true, ltb-false}
use Rattle.std.proofs.lemmas.Bool.Decides.{nat_tests}
use Rattle.std.proofs.lemmas.Option.{none-some}
use Rattle.std.specs.Prelude.{None, Some, List, [], ◌∷◌, length, get_or, nat_lt, nat_le, is_some, is_none, unwrap_or, position}
use Rattle.std.specs.Option.{option_or}
use Rattle.std.specs.List.{position_or_len}
use Rattle.streams.specs.declared.state.StreamState.{StreamState}
use Rattle.streams.specs.Places.{first_from, first_place, some_place, place_of, place_between, is_held, place_for}

-- what is left of k places behind i, as a search from i on counts it
pub left_of : (k i : ℕ) → i < k → k - i ≡ suc (k - (i + 1))
left_of k i h = omega arith

pub left_suc : (i : ℕ) → i < 16 → 16 - i ≡ suc (16 - (i + 1))
left_suc i h = left_of 16 i h

-- a search of k places that has come to i without success has still the same answer
unfoldable pub Open : (ℕ → Bool) → ℕ → ℕ → Type 0
Open t k i = (i ≤ k) × (first_from t (k - i) i ≡ first_from t k 0)

pub open_start : (t : ℕ → Bool) (k : ℕ) → Open t k 0
unfolding Open
open_start t k = let e : k - 0 ≡ k = omega arith in (omega arith, ap (λ (m : ℕ). first_from t m 0) e)

module _ (t : ℕ → Bool) (k i : ℕ) where
  pub open_end : Open t k i → k ≤ i → k ≡ first_from t k 0
  unfolding first_from Open
  open_end o h =
      let e : i ≡ k = omega arith in
      let z : k - i ≡ 0 = omega arith in
      sym e ∙ (rw z at o.1)

  pub open_hit : Open t k i → i < k → t i ≡ true → i ≡ first_from t k 0
  unfolding first_from Open
  open_hit o h e = (rw (left_of k i h, e) at o.1)

  pub open_miss : Open t k i → i < k → t i ≡ false → Open t k (i + 1)
  unfolding first_from Open
  open_miss o h e = (omega arith, rw (add-one i) (rw (left_of k i h, e, add-one i) at o.1))

-- a test doesn't both hold and fail
pub never : {b : Bool} → b ≡ true → b ≡ false → ⊥
never p q = let z : ◌≡◌ {A = ℕ} 0 1 = cc in omega arith

-- what the answer of a search says of the test, where k places are searched from i on
found_at : (t : ℕ → Bool) (i k m : ℕ) (b : Bool) → t i ≡ b → (m < suc i + k → t m ≡ true) → cond b i m < i + suc k → t (cond b i m) ≡ true
found_at t i k m true e f h = e
found_at t i k m false e f h = f (omega arith)

before_at : (t : ℕ → Bool) (i m j : ℕ) (b : Bool) → t i ≡ b → (suc i ≤ j → j < m → t j ≡ false) → i ≤ j → j < cond b i m → t j ≡ false
before_at t i m j true e f h l = absurd (omega arith)
before_at t i m j false e f h l = ⊎_elim (λ same. rw (← same) e) (λ less. f less l) (eq-or-lt_of_le h)

most_at : (i k m : ℕ) (b : Bool) → m ≤ suc i + k → cond b i m ≤ i + suc k
most_at i k m true h = omega arith
most_at i k m false h = omega arith

module _ (t : ℕ → Bool) where
  pub found_from : (k i : ℕ) → first_from t k i < i + k → t (first_from t k i) ≡ true
  unfolding first_from
  found_from zero i h = absurd (omega arith)
  found_from (suc k) i h = found_at t i k (first_from t k (suc i)) (t i) refl (found_from k (suc i)) h

  pub before_from : (k i j : ℕ) → i ≤ j → j < first_from t k i → t j ≡ false
  unfolding first_from
  before_from zero i j h l = absurd (omega arith)
  before_from (suc k) i j h l = before_at t i (first_from t k (suc i)) j (t i) refl (before_from k (suc i) j) h l

  pub least_from : (k i : ℕ) → i ≤ first_from t k i
  unfolding first_from
  least_from zero i = omega arith
  least_from (suc k) i = by (t i) (least_from k (suc i))
    where
      by : (b : Bool) → suc i ≤ first_from t k (suc i) → i ≤ cond b i (first_from t k (suc i))
      by true h = omega arith
      by false h = omega arith

  pub most_from : (k i : ℕ) → first_from t k i ≤ i + k
  unfolding first_from
  most_from zero i = omega arith
  most_from (suc k) i = most_at i k (first_from t k (suc i)) (t i) (most_from k (suc i))

  pub first_most_lem : first_place t ≤ 16
  unfolding first_place
  first_most_lem = most_from 16 0

  pub first_found : first_place t < 16 → t (first_place t) ≡ true
  unfolding first_place
  first_found h = found_from 16 0 h

  pub first_before : (j : ℕ) → j < first_place t → t j ≡ false
  unfolding first_place
  first_before j h = before_from 16 0 j (omega arith) h

  -- the first place is the only one of its kind
  pub first_is : (p : ℕ) → p < 16 → t p ≡ true → ((j : ℕ) → j < p → t j ≡ false) → first_place t ≡ p
  first_is p h e f =
      let low : first_place t < p → ⊥ = λ l. never (first_found (omega arith)) (f (first_place t) l) in
      let high : p < first_place t → ⊥ = λ l. never e (first_before p l) in
      omega (arith, low, high)

-- two tests that agree at each place have one answer
pub agree_from : (t u : ℕ → Bool) (k i : ℕ) → ((j : ℕ) → i ≤ j → j < i + k → t j ≡ u j) → first_from t k i ≡ first_from u k i
unfolding first_from
agree_from t u zero i f = refl
agree_from t u (suc k) i f =
    rw (f i (omega arith) (omega arith), agree_from t u k (suc i) (λ j h l. f j (omega arith) (omega arith)))

pub first_agree : (t u : ℕ → Bool) → ((j : ℕ) → j < 16 → t j ≡ u j) → first_place t ≡ first_place u
unfolding first_place
first_agree t u f = agree_from t u 16 0 (λ j h l. f j l)

pub first_none : (t : ℕ → Bool) → ((j : ℕ) → j < 16 → t j ≡ false) → first_place t ≡ 16
first_none t f =
    let low : first_place t < 16 → ⊥ = λ l. never (first_found t l) (f (first_place t) l) in
    omega (arith, low, first_most_lem t)

-- ---- the places as items of a list

-- a search by place that tests the items of a list comes to the first item that passes
first_item : {X : Type 0} (t : ℕ → Bool) (p : X → Bool) (d : X) (xs : List X) (i : ℕ) → ((j : ℕ) → j < length xs → t (i + j) ≡ p (get_or xs j d)) → first_from t (length xs) i ≡ i + position_or_len p xs
unfolding first_from
first_item t p d [] i f = omega arith
first_item t p d (x ∷ xs) i f =
    let here : t i ≡ p x = (rw (add-zero i) at (f 0 (omega arith))) in
    let behind = first_item t p d xs (suc i) (λ j h. let e : i + suc j ≡ suc i + j = omega arith in (rw e at (f (suc j) (omega arith)))) in
    rw (here, behind) (by (p x) (position_or_len p xs))
  where
    by : (b : Bool) (m : ℕ) → cond b i (suc i + m) ≡ i + cond (not b) (1 + m) 0
    by true m = omega arith
    by false m = omega arith

-- what `position` answers of a list of sixteen
pub position_placed : {X : Type 0} (t : ℕ → Bool) (p : X → Bool) (d : X) (xs : List X) → length xs ≡ 16 → ((j : ℕ) → j < 16 → t j ≡ p (get_or xs j d)) → position p xs ≡ some_place (first_place t)
unfolding first_place
position_placed t p d xs e f =
    let i = first_item t p d xs 0 (λ j h. let z : 0 + j ≡ j = omega arith in rw z (f j (omega (arith, e)))) in
    let same : position_or_len p xs ≡ first_from t 16 0 = omega (arith, (rw e at i)) in
    rw (same, e) refl

module _ (q : ℕ) where
  pub is_placed : is_some (some_place q) ≡ nat_lt q 16
  is_placed = grind (arith, nat_tests)

  pub none_placed : is_none (some_place q) ≡ nat_le 16 q
  none_placed = grind (arith, nat_tests)

  pub placed : (p : ℕ) → some_place q ≡ Some p → (q < 16) × (q ≡ p)
  placed p e = by (ltb q 16) refl e
    where
      by : (b : Bool) → ltb q 16 ≡ b → cond b (Some q) None ≡ Some p → (q < 16) × (q ≡ p)
      by true l e = (ltb-true q 16 l, cc)
      by false l e = absurd (none-some p e)

  pub unplaced : some_place q ≡ None → 16 ≤ q
  unplaced e = by (ltb q 16) refl e
    where
      by : (b : Bool) → ltb q 16 ≡ b → cond b (Some q) None ≡ None → 16 ≤ q
      by true l e = absurd (none-some q (sym e))
      by false l e = ltb-false q 16 l

pub placed_or : (t : ℕ → Bool) → unwrap_or (some_place (first_place t)) 16 ≡ first_place t
placed_or t = let most = first_most_lem t in grind (arith, nat_tests)

-- the place of a number that is held, else the first free one
pub placed_for : (s : StreamState) (n : ℕ) → option_or (some_place (place_of s n)) (some_place (place_between s 0 0)) ≡ some_place (place_for s n)
unfolding place_for is_held
placed_for s n = by (ltb (place_of s n) 16) refl
  where
    by : (b : Bool) → ltb (place_of s n) 16 ≡ b → option_or (cond b (Some (place_of s n)) None) (some_place (place_between s 0 0)) ≡ some_place (cond b (place_of s n) (place_between s 0 0))
    by true e = rw e
    by false e = refl
