-- The week's minutes as the code keeps them, and the search through them, a minute further.
use Prim.Native.Nat.{ℕ, zero, suc, ◌+◌, ◌*◌, ◌/◌, ◌%◌, ◌<◌, ◌≤◌}
use mathlib.Core.Path.{◌≡◌, refl, sym, ap, ◌∙◌}
use mathlib.Core.Bool.{Bool, true, false, cond, not}
use mathlib.Core.List.{List, [], ◌∷◌, ◌++◌}
use native.Mathlib.Omega.{arith}
use borrow.Author.Tests.{le-leb, lt-leb, leb-true, ltb-false}
use lib.Dec.{eqb, ltb, leb}
use lib.ListN.{length, get_or, take, drop, set, length-append, length-drop, drop_of_length-le}
use lib.Seq.{length-take-le}
use mathlib.Core.List.{append-nil}
use Rattle.hours.specs.Windows.{Window, week_minutes, is_open}
use Rattle.hours.specs.Week.{is_minute, open_byte, minutes_from, kept_hours, open_in, minute_after, first_open_from}
use Rattle.std.proofs.lemmas.Bool.{false≢true}
use Rattle.std.specs.Prelude.{Some}

-- ---- what is a minute of the week

pub is_minute_lem : (day minute : ℕ) → is_minute day minute ≡ true → (day ≤ 6) × (minute ≤ 1439)
is_minute_lem day minute e = go (ltb 6 day) refl e
  where
    go : (b : Bool) → ltb 6 day ≡ b → cond b false (leb minute 1439) ≡ true → (day ≤ 6) × (minute ≤ 1439)
    go true p q = absurd (false≢true q)
    go false p q = (ltb-false 6 day p, leb-true minute 1439 q)

-- ---- the store, a minute further

pub length_minutes : (ws : List Window) (i n : ℕ) → length (minutes_from ws i n) ≡ n
unfolding minutes_from
length_minutes ws i zero = refl
length_minutes ws i (suc n) = ap suc (length_minutes ws (suc i) n)

module _ (ws : List Window) where
  -- the byte of a minute of the week
  abbrev pub byte_of : ℕ → ℕ
  byte_of k = open_byte (is_open ws (k / 1440) (k % 1440))

  -- the first n minutes are kept
  unfoldable pub kept_until : ℕ → List ℕ → List ℕ
  kept_until n hours = minutes_from ws 0 n ++ drop n hours

  pub kept_none : (hours : List ℕ) → hours ≡ kept_until 0 hours
  unfolding kept_until minutes_from
  kept_none hours = refl

  one_more : (i n k : ℕ) (hours : List ℕ) → n < length hours → k ≡ i + n
      → set (minutes_from ws i n ++ drop n hours) n (byte_of k) ≡ minutes_from ws i (suc n) ++ drop (suc n) hours
  unfolding minutes_from
  one_more i n k [] h e = let z : ⊥ = omega arith in absurd z
  one_more i zero k (y ∷ hours) h e = let z : k ≡ i = omega arith in ap (λ (j : ℕ). byte_of j ∷ hours) z
  one_more i (suc n) k (y ∷ hours) h e = ap (λ (t : List ℕ). byte_of i ∷ t) (one_more (suc i) n k hours (omega arith) (omega arith))

  pub kept_more : (n : ℕ) (hours : List ℕ) → n < length hours → set (kept_until n hours) n (byte_of n) ≡ kept_until (n + 1) hours
  unfolding kept_until
  kept_more n hours h =
      let e : suc n ≡ n + 1 = omega arith in
      one_more 0 n n hours h (omega arith) ∙ ap (λ (k : ℕ). minutes_from ws 0 k ++ drop k hours) e

  pub length_kept : (n : ℕ) (hours : List ℕ) → n ≤ length hours → length (kept_until n hours) ≡ length hours
  unfolding kept_until
  length_kept n hours h = rw (length-append (minutes_from ws 0 n) (drop n hours), length_minutes ws 0 n, length-drop n hours) (omega arith)

  pub kept_week : (hours : List ℕ) → week_minutes ≤ length hours → kept_until week_minutes hours ≡ kept_hours ws hours
  unfolding kept_until kept_hours
  kept_week hours h = sym (ap (λ (b : Bool). cond b (minutes_from ws 0 week_minutes ++ drop week_minutes hours) hours) (le-leb week_minutes (length hours) h))

  -- the same of the week's part alone, before what stands behind it
  pub kept_front : (hours : List ℕ) → week_minutes ≤ length hours → kept_until week_minutes (take week_minutes hours) ++ drop week_minutes hours ≡ kept_hours ws hours
  unfolding kept_until
  kept_front hours h =
      let none : drop week_minutes (take week_minutes hours) ≡ [] = drop_of_length-le (take week_minutes hours) {i = week_minutes} (omega (arith, length-take-le week_minutes hours h)) in
      rw (none, append-nil) (kept_week hours h)

  pub kept_short : (hours : List ℕ) → length hours < week_minutes → hours ≡ kept_hours ws hours
  unfolding kept_hours
  kept_short hours h = sym (ap (λ (b : Bool). cond b (minutes_from ws 0 week_minutes ++ drop week_minutes hours) hours) (lt-leb week_minutes (length hours) h))

-- ---- one minute looked up

pub look_up : (hours : List ℕ) (day minute : ℕ) (b : Bool) → is_minute day minute ≡ b → open_in hours day minute ≡ cond b (not (eqb (get_or hours (1440 * day + minute) 0) 0)) false
unfolding open_in
look_up hours day minute b e = ap (λ (x : Bool). cond x (not (eqb (get_or hours (1440 * day + minute) 0) 0)) false) e

-- ---- the search, a minute further

module _ (opens : ℕ → ℕ → Bool) (t : ℕ × ℕ) where
  pub search_by : (m n : ℕ) → n ≡ suc m → (b : Bool) → opens t.0 t.1 ≡ b → first_open_from opens t n ≡ cond b (Some t) (first_open_from opens (minute_after t) m)
  unfolding first_open_from
  search_by m n e b o = ap (λ (k : ℕ). first_open_from opens t k) e ∙ ap (λ (x : Bool). cond x (Some t) (first_open_from opens (minute_after t) m)) o
