-- Two states that agree at their sixteen places hold the same messages, and are sound together.
use Rattle.std.specs.Prelude.{Some}
use Rattle.std.proofs.Common.{◌≡◌, ℕ, ◌-◌, ◌<◌, ◌≤◌, Bool, true, false, ltb, length, get_or, sym, refl, ap, ◌∙◌, arith, ltb-false, ltb-true}
use lib.ListN.{get_or-eq_default}
use Rattle.streams.specs.declared.state.StreamState.{StreamState}
use Rattle.streams.specs.Places.{holds_at, place_of, is_held}
use Rattle.streams.specs.View.{Sound, held_by}
use Rattle.streams.proofs.places.Laws.{first_agree}
use Rattle.streams.proofs.places.Held.{held_low, free_place, read_at, read_none}

abbrev pub Agree : StreamState → StreamState → Type 0
Agree t s = (j : ℕ) → j < 16 → (get_or t.numbers j 0 ≡ get_or s.numbers j 0) × (get_or t.lengths j 0 ≡ get_or s.lengths j 0)

module _ (s t : StreamState) (same : Agree t s) where
  holds_same : (n j : ℕ) → j < 16 → holds_at t n j ≡ holds_at s n j
  unfolding holds_at
  holds_same n j h = rw ((same j h).0, (same j h).1)

  place_same : (n : ℕ) → place_of t n ≡ place_of s n
  unfolding place_of
  place_same n = first_agree (holds_at t n) (holds_at s n) (holds_same n)

  module _ {A : Type 0} (read : ℕ → ℕ → A) (n : ℕ) where
    pub same_held : held_by read t n ≡ held_by read s n
    same_held = by (is_held s n) refl
      where
        q : ℕ
        q = place_of s n

        by : (b : Bool) → is_held s n ≡ b → held_by read t n ≡ held_by read s n
        by true e =
            let l = held_low s n e in
            read_at t n read q (place_same n) l ∙ ap (λ (len : ℕ). Some (read q (len - 1))) (same q l).1 ∙ sym (read_at s n read q refl l)
        by false e = read_none t n read (place_same n ∙ free_place s n e) ∙ sym (read_none s n read (free_place s n e))

  -- a state has sixteen places, and past them no length
  pub same_sound : Sound s → length t.numbers ≡ 16 → length t.lengths ≡ 16 → Sound t
  same_sound d a b = record {
    numbers_count = a;
    lengths_count = b;
    short = λ i. small i (ltb i 16) refl;
    once = λ n i j hi hj x y. d.once n i j hi hj (sym (holds_same n i hi) ∙ x) (sym (holds_same n j hj) ∙ y);
  }
    where
      small : (i : ℕ) (c : Bool) → ltb i 16 ≡ c → get_or t.lengths i 0 ≤ 1025
      small i true e = rw (same i (ltb-true i 16 e)).1 (d.short i)
      small i false e = rw (get_or-eq_default t.lengths 0 {n = i} (rw b (ltb-false i 16 e))) (omega arith)
