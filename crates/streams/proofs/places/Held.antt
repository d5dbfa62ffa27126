-- What a place holds, and which place is chosen for a number.
use Rattle.std.specs.Prelude.{None, Some}
use Rattle.std.proofs.Common.{◌≡◌, ℕ, ◌-◌, ◌<◌, ◌≤◌, Bool, true, false, cond, eqb, ltb, leb, get_or, sym, refl, ◌∙◌, arith, ltb-false, ltb-true, lt-ltb, eq-eqb, ne_eqb, eqb-true, leb-true}
use borrow.Author.Tests.{eqb-false}
use Rattle.streams.specs.declared.state.StreamState.{StreamState}
use Rattle.streams.specs.Places.{first_place, holds, within, holds_at, length_at, place_of, place_between, is_held, place_for}
use Rattle.streams.specs.View.{held_by, present}
use Rattle.streams.proofs.places.Laws.{never, first_found, first_before, first_most_lem}

-- one place: its number, its length, and a number that is asked for
module _ (number len n : ℕ) where
  pub holds_free : len ≡ 0 → holds number len n ≡ false
  unfolding holds
  holds_free e = rw (eq-eqb len 0 e)

  pub holds_other : (number ≡ n → ⊥) → holds number len n ≡ false
  unfolding holds
  holds_other h = rw (ne_eqb number n h) (either (eqb len 0))
    where
      either : (t : Bool) → cond t false false ≡ false
      either true = refl
      either false = refl

  holds_true : holds number len n ≡ true → (1 ≤ len) × (number ≡ n)
  unfolding holds
  holds_true e = by (eqb len 0) refl e
    where
      by : (t : Bool) → eqb len 0 ≡ t → cond t false (eqb number n) ≡ true → (1 ≤ len) × (number ≡ n)
      by true z h = absurd (never h refl)
      by false z h = (omega (arith, eqb-false len 0 z), eqb-true number n h)

pub holds_nonzero : (number len n : ℕ) → holds number len n ≡ true → 1 ≤ len
holds_nonzero number len n e = (holds_true number len n e).0

pub holds_number_lem : (number len n : ℕ) → holds number len n ≡ true → number ≡ n
holds_number_lem number len n e = (holds_true number len n e).1

-- a length between 0 and 0 is 0, as that of a free place
pub within_zero : (len : ℕ) → within len 0 0 ≡ true → len ≡ 0
unfolding within
within_zero len e = by (ltb len 0) e
  where
    by : (t : Bool) → cond t false (leb len 0) ≡ true → len ≡ 0
    by true h = absurd (never h refl)
    by false h = omega (arith, leb-true len 0 h)

module _ (s : StreamState) (n : ℕ) where
  -- a number that is held has a place, and one that isn't is at None
  pub held_low : is_held s n ≡ true → place_of s n < 16
  unfolding is_held
  held_low e = ltb-true (place_of s n) 16 e

  pub free_place : is_held s n ≡ false → place_of s n ≡ 16
  unfolding is_held place_of
  free_place e = omega (arith, ltb-false (first_place (holds_at s n)) 16 e, first_most_lem (holds_at s n))

  pub held_there : place_of s n < 16 → holds_at s n (place_of s n) ≡ true
  unfolding place_of
  held_there h = first_found (holds_at s n) h

  pub held_before : (j : ℕ) → j < place_of s n → holds_at s n j ≡ false
  unfolding place_of
  held_before j h = first_before (holds_at s n) j h

  -- a place that holds n shows that n is held
  pub held_anywhere : (i : ℕ) → i < 16 → holds_at s n i ≡ true → is_held s n ≡ true
  unfolding is_held
  held_anywhere i h e =
      let some-place : i < place_of s n → ⊥ = λ l. never e (held_before i l) in
      lt-ltb (place_of s n) 16 (omega (arith, some-place))

  -- what is read of the message under n, by its place
  module _ {A : Type 0} (read : ℕ → ℕ → A) where
    pub read_at : (q : ℕ) → place_of s n ≡ q → q < 16 → held_by read s n ≡ Some (read q (get_or s.lengths q 0 - 1))
    unfolding held_by is_held
    read_at q e h = rw (e, lt-ltb q 16 h)

    pub read_none : place_of s n ≡ 16 → held_by read s n ≡ None
    unfolding held_by is_held
    read_none e = rw e

    pub read_present : present (held_by read s n) ≡ is_held s n
    unfolding held_by
    read_present = by (is_held s n) _
      where
        by : (b : Bool) (x : A) → present (cond b (Some x) None) ≡ b
        by true x = refl
        by false x = refl

  -- the place for n: no place before it holds n, and it holds no other number
  pub record ChosenFor (p : ℕ) : Type 0 where
    pub before : (j : ℕ) → j < p → holds_at s n j ≡ false
    pub other : (m : ℕ) → (m ≡ n → ⊥) → holds_at s m p ≡ false

  number_at : (p : ℕ) → place_of s n ≡ p → p < 16 → get_or s.numbers p 0 ≡ n
  unfolding holds_at
  number_at p q h = holds_number_lem (get_or s.numbers p 0) (get_or s.lengths p 0) n (rw q at (held_there (rw q h)))

  free_there : (p : ℕ) → place_between s 0 0 ≡ p → p < 16 → get_or s.lengths p 0 ≡ 0
  unfolding place_between length_at
  free_there p q h = within_zero (get_or s.lengths p 0) (rw q at (first_found (length_at s 0 0) (rw q h)))

  chosen_by : (t : Bool) (p : ℕ) → is_held s n ≡ t → cond t (place_of s n) (place_between s 0 0) ≡ p → p < 16 → ChosenFor p
  unfolding holds_at
  chosen_by true p e q h = record {
    before = λ j l. held_before j (omega arith);
    other = λ m k. holds_other (get_or s.numbers p 0) (get_or s.lengths p 0) m (λ z. k (sym z ∙ number_at p q h));
  }
  chosen_by false p e q h = record {
    before = λ j l. held_before j (omega (arith, free_place e));
    other = λ m k. holds_free (get_or s.numbers p 0) (get_or s.lengths p 0) m (free_there p q h);
  }

  pub chosen : (p : ℕ) → place_for s n ≡ p → p < 16 → ChosenFor p
  unfolding place_for
  chosen p e h = chosen_by (is_held s n) p refl e h
