-- Which id a new session gets: it was not live, and "full" is never said too early.
use Prim.Native.Nat.{ℕ, zero, suc, ◌+◌, ◌-◌, ◌<◌, ◌≤◌}
use mathlib.Core.Path.{◌≡◌, refl, sym, ap, ◌∙◌}
use mathlib.Core.Logic.{◌≢◌}
use mathlib.Core.Bool.{Bool, true, false, cond}
use mathlib.Core.List.{List}
use native.Mathlib.Omega.{arith}
use borrow.Author.Tests.{lt-ltb, le-ltb, leb-true, leb-false, eqb-true, eqb-false, ne_eqb}
use lib.Dec.{eqb, leb}
use lib.ListN.{length}
use Rattle.codec.specs.Answers.{Answer, gives, refused_as, number_in}
use Rattle.sessions.specs.Answers.{created_answer}
use Rattle.sessions.specs.Table.{is_free}
use Rattle.sessions.specs.Opening.{after, live_from, live_of, free_from, free_of, chosen_of, created_of}
use Rattle.sessions.proofs.Reached.{created_when}

module _ (rows : List (List ℕ)) where
  -- ---- the id that is found

  after_in : (b : Bool) (i : ℕ) → eqb i 255 ≡ b → 1 ≤ i → i ≤ 255 → (1 ≤ cond b 1 (i + 1)) × (cond b 1 (i + 1) ≤ 255)
  after_in true i e a b = (omega arith, omega arith)
  after_in false i e a b = let q : i ≢ 255 = eqb-false i 255 e in (omega arith, omega (arith, q))

  -- what is found is 0, or an id from 1 to 255 that is not live
  found_free : (n i : ℕ) → 1 ≤ i → i ≤ 255 → free_from (is_free rows) i n ≢ 0 → (is_free rows (free_from (is_free rows) i n) ≡ true) × (1 ≤ free_from (is_free rows) i n) × (free_from (is_free rows) i n ≤ 255)
  unfolding free_from
  found_free zero i a b h = absurd (h refl)
  found_free (suc n) i a b h = by (λ q. let s = after_in (eqb i 255) i refl a b in found_free n (after i) s.0 s.1 q) (is_free rows i) refl h
    where
      by : (free_from (is_free rows) (after i) n ≢ 0 → (is_free rows (free_from (is_free rows) (after i) n) ≡ true) × (1 ≤ free_from (is_free rows) (after i) n) × (free_from (is_free rows) (after i) n ≤ 255))
          → (f : Bool) → is_free rows i ≡ f → cond f i (free_from (is_free rows) (after i) n) ≢ 0
          → (is_free rows (cond f i (free_from (is_free rows) (after i) n)) ≡ true) × (1 ≤ cond f i (free_from (is_free rows) (after i) n)) × (cond f i (free_from (is_free rows) (after i) n) ≤ 255)
      by ih true e q = (e, a, b)
      by ih false e q = ih q

  -- ---- where none is found all are live

  -- the id that comes k steps after i
  abbrev later : ℕ → ℕ → ℕ
  later i zero = i
  later i (suc k) = later (after i) k

  none_free : (n i k : ℕ) → 1 ≤ i → i ≤ 255 → free_from (is_free rows) i n ≡ 0 → k < n → is_free rows (later i k) ≡ false
  unfolding free_from
  none_free zero i k a b e h = let z : ⊥ = omega arith in absurd z
  none_free (suc n) i k a b e h = by k h (λ m q z. let s = after_in (eqb i 255) i refl a b in none_free n (after i) m s.0 s.1 z q) (is_free rows i) refl e
    where
      by : (k : ℕ) → k < suc n → ((m : ℕ) → m < n → free_from (is_free rows) (after i) n ≡ 0 → is_free rows (later (after i) m) ≡ false)
          → (f : Bool) → is_free rows i ≡ f → cond f i (free_from (is_free rows) (after i) n) ≡ 0 → is_free rows (later i k) ≡ false
      by k h ih true p z = let o : ⊥ = omega arith in absurd o
      by zero h ih false p z = p
      by (suc m) h ih false p z = ih m (omega arith) z

  -- k steps up, round past 255
  later_up : (k i : ℕ) → 1 ≤ i → i + k ≤ 255 → later i k ≡ i + k
  later_up zero i a h = omega arith
  later_up (suc k) i a h = rw (ne_eqb i 255 (λ e. omega arith)) (later_up k (i + 1) (omega arith) (omega arith) ∙ omega arith)

  later_round : (k i : ℕ) → 1 ≤ i → i ≤ 255 → 255 < i + k → i + k ≤ 510 → later i k ≡ i + k - 255
  later_round zero i a b h l = let z : ⊥ = omega arith in absurd z
  later_round (suc k) i a b h l = by (eqb i 255) refl (λ q. later_round k (i + 1) (omega arith) (omega (arith, q)) (omega arith) (omega arith)) (λ q. later_up k 1 (omega arith) (omega (arith, q)))
    where
      by : (f : Bool) → eqb i 255 ≡ f → (i ≢ 255 → later (i + 1) k ≡ i + 1 + k - 255) → (i ≡ 255 → later 1 k ≡ 1 + k) → later (cond f 1 (i + 1)) k ≡ i + suc k - 255
      by true e f g = let q : i ≡ 255 = eqb-true i 255 e in g q ∙ omega arith
      by false e f g = f (eqb-false i 255 e) ∙ omega arith

  -- so each id is reached
  all_live : (i : ℕ) → 1 ≤ i → i ≤ 255 → free_from (is_free rows) i 255 ≡ 0 → (j : ℕ) → 1 ≤ j → j ≤ 255 → is_free rows j ≡ false
  all_live i a b e j c d = by (leb i j) refl
    where
      by : (f : Bool) → leb i j ≡ f → is_free rows j ≡ false
      by true q =
          let w : i ≤ j = leb-true i j q in
          let u : i + (j - i) ≡ j = omega arith in
          ap (is_free rows) (sym (later_up (j - i) i a (omega arith) ∙ u)) ∙ none_free 255 i (j - i) a b e (omega arith)
      by false q =
          let w : j < i = leb-false i j q in
          let u : i + (j + 255 - i) - 255 ≡ j = omega arith in
          ap (is_free rows) (sym (later_round (j + 255 - i) i a b (omega arith) (omega arith) ∙ u)) ∙ none_free 255 i (j + 255 - i) a b e (omega arith)

  count_all : (n i : ℕ) → ((j : ℕ) → i ≤ j → j < i + n → is_free rows j ≡ false) → live_from (is_free rows) i n ≡ n
  unfolding live_from
  count_all zero i h = refl
  count_all (suc n) i h = rw (h i (omega arith) (omega arith), count_all n (suc i) (λ j a b. h j (omega arith) (omega arith))) (omega arith)

  -- with fewer than 255 live there is a free id
  pub free_left : (next : ℕ) → 1 ≤ next → next ≤ 255 → live_of rows < 255 → free_of rows next ≢ 0
  unfolding live_of free_of
  free_left next a b h e = let c : live_from (is_free rows) 1 255 ≡ 255 = count_all 255 1 (λ j c d. all_live next a b e j c (omega arith)) in omega arith

  pub found_by_lem : (next : ℕ) → 1 ≤ next → next ≤ 255 → free_of rows next ≢ 0 → (is_free rows (free_of rows next) ≡ true) × (1 ≤ free_of rows next) × (free_of rows next ≤ 255)
  unfolding free_of
  found_by_lem next a b n = found_free 255 next a b n

  -- ---- create_session

  module _ (streams : List (List ℕ)) (max next : ℕ) (long : 256 ≤ length rows) (store : 2048 ≤ length streams) (max≤ : max ≤ 255) (low : 1 ≤ next) (high : next ≤ 255) where
    abbrev pub answer : Answer (ℕ × ℕ)
    answer = created_answer (created_of rows streams max next)

    is_chosen : created_of rows streams max next ≡ chosen_of rows max next
    is_chosen = created_when rows streams max next long store max≤ (omega arith)

    -- an id that was not live, and the pointer goes on from there
    pub record Fresh : Type 0 where
      pub id : ℕ
      pub chosen : answer ≡ gives (id, after id)
      pub not_live : is_free rows id ≡ true
      pub least : 1 ≤ id
      pub most : id ≤ 255

    pub opens_when : live_of rows < max → Fresh
    unfolding chosen_of
    opens_when h =
        let n = free_left next low high (omega arith) in
        let f = found_by_lem next low high n in
        record {
          id = free_of rows next;
          chosen = ap created_answer is_chosen ∙ rw (lt-ltb (live_of rows) max h, ne_eqb (free_of rows next) 0 n) refl;
          not_live = f.0;
          least = f.1;
          most = f.2;
        }

    -- 6, "`max_clients` sessions live": exactly when at least that many are
    pub full_exactly : (max ≤ live_of rows → answer ≡ refused_as 6 0) × (answer ≡ refused_as 6 0 → max ≤ live_of rows)
    unfolding chosen_of
    full_exactly = (λ h. ap created_answer is_chosen ∙ rw (le-ltb (live_of rows) max h) refl, λ e. only e (leb max (live_of rows)) refl)
      where
        only : answer ≡ refused_as 6 0 → (b : Bool) → leb max (live_of rows) ≡ b → max ≤ live_of rows
        only e true q = leb-true max (live_of rows) q
        only e false q =
            let z : ◌≡◌ {A = ℕ} 0 6 = sym (ap number_in (opens_when (leb-false max (live_of rows) q)).chosen) ∙ ap number_in e in
            absurd (omega arith)
