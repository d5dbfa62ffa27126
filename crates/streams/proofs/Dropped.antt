-- What an ACKNACK leaves held: exactly the numbers that don't come before its first one.
use Rattle.std.specs.Prelude.{None, Some}
use Rattle.std.proofs.Common.{◌≡◌, ℕ, zero, suc, ◌+◌, ◌-◌, ◌<◌, Bool, true, false, cond, eqb, ltb, length, get_or, sym, refl, ap, ◌∙◌, le_of_suc-le-suc, not-suc-le-zero, add-zero, arith, eqb-true}
use borrow.Author.Tests.{eqb-false}
use Rattle.streams.specs.declared.state.StreamState.{StreamState}
use Rattle.streams.specs.Sequence.{seq_lt}
use Rattle.streams.specs.Places.{holds, holds_at, place_of, is_held}
use Rattle.streams.specs.Acknowledged.{kept_length, kept_at, list_from, sixteen, drop_before}
use Rattle.streams.specs.View.{held_by}
use Rattle.streams.proofs.places.Laws.{first_none, first_agree}
use Rattle.streams.proofs.places.Held.{holds_free, holds_other, holds_number_lem, held_low, free_place, held_there, read_at, read_none}

-- the sixteen values of a function
pub listed_at : (f : ℕ → ℕ) (k i j : ℕ) → j < k → get_or (list_from f k i) j 0 ≡ f (i + j)
unfolding list_from
listed_at f zero i j h = absurd (not-suc-le-zero h)
listed_at f (suc k) i zero h = ap f (sym (add-zero i))
listed_at f (suc k) i (suc j) h = listed_at f k (suc i) j (le_of_suc-le-suc h) ∙ ap f (omega arith)

listed_length : (f : ℕ → ℕ) (k i : ℕ) → length (list_from f k i) ≡ k
unfolding list_from
listed_length f zero i = refl
listed_length f (suc k) i = ap suc (listed_length f k (suc i))

pub sixteen_at : (f : ℕ → ℕ) (j : ℕ) → j < 16 → get_or (sixteen f) j 0 ≡ f j
unfolding sixteen
sixteen_at f j h = listed_at f 16 0 j h ∙ ap f (omega arith)

pub sixteen_length : (f : ℕ → ℕ) → length (sixteen f) ≡ 16
unfolding sixteen
sixteen_length f = listed_length f 16 0

-- a place still holds m where it held m and m doesn't come before `first`
holds_kept : (number len first m : ℕ) → holds number (kept_length number len first) m ≡ cond (seq_lt m first) false (holds number len m)
unfolding kept_length
holds_kept number len first m = by (eqb number m) refl
  where
    same : (t : Bool) → holds m (cond t 0 len) m ≡ cond t false (holds m len m)
    same true = holds_free m 0 m refl
    same false = refl

    none_of : (t : Bool) → false ≡ cond t false false
    none_of true = refl
    none_of false = refl

    by : (t : Bool) → eqb number m ≡ t → holds number (cond (seq_lt number first) 0 len) m ≡ cond (seq_lt m first) false (holds number len m)
    by true e = rw (eqb-true number m e) (same (seq_lt m first))
    by false e =
        let h = eqb-false number m e in
        holds_other number (cond (seq_lt number first) 0 len) m h ∙ rw (holds_other number len m h) (none_of (seq_lt m first))

module _ (s : StreamState) (first : ℕ) where
  pub kept_at_lem : (m j : ℕ) → j < 16 → holds_at (drop_before s first) m j ≡ cond (seq_lt m first) false (holds_at s m j)
  unfolding holds_at drop_before kept_at
  kept_at_lem m j h = rw (sixteen_at (kept_at s first) j h) (holds_kept (get_or s.numbers j 0) (get_or s.lengths j 0) first m)

  module _ (m : ℕ) where
    place_dropped : seq_lt m first ≡ true → place_of (drop_before s first) m ≡ 16
    unfolding place_of
    place_dropped e = first_none (holds_at (drop_before s first) m) (λ j h. kept_at_lem m j h ∙ rw e)

    place_kept : seq_lt m first ≡ false → place_of (drop_before s first) m ≡ place_of s m
    unfolding place_of
    place_kept e = first_agree (holds_at (drop_before s first) m) (holds_at s m) (λ j h. kept_at_lem m j h ∙ rw e)

    length_kept : seq_lt m first ≡ false → place_of s m < 16 → get_or (drop_before s first).lengths (place_of s m) 0 ≡ get_or s.lengths (place_of s m) 0
    unfolding drop_before kept_at kept_length holds_at
    length_kept e h =
        let q = place_of s m in
        let number : get_or s.numbers q 0 ≡ m = holds_number_lem (get_or s.numbers q 0) (get_or s.lengths q 0) m (held_there s m h) in
        sixteen_at (kept_at s first) q h ∙ rw (number, e)

    -- "`process_acknack` drops held numbers before `first_unacked_seq`", and no others
    pub dropped : is_held (drop_before s first) m ≡ cond (seq_lt m first) false (is_held s m)
    unfolding is_held
    dropped = by (seq_lt m first) refl
      where
        by : (t : Bool) → seq_lt m first ≡ t → ltb (place_of (drop_before s first) m) 16 ≡ cond t false (ltb (place_of s m) 16)
        by true e = rw (place_dropped e)
        by false e = rw (place_kept e)

    module _ {A : Type 0} (read : ℕ → ℕ → A) where
      pub acknowledged : held_by read (drop_before s first) m ≡ cond (seq_lt m first) None (held_by read s m)
      acknowledged = by (seq_lt m first) (is_held s m) refl refl
        where
          by : (t u : Bool) → seq_lt m first ≡ t → is_held s m ≡ u → held_by read (drop_before s first) m ≡ cond t None (held_by read s m)
          by true u e k = read_none (drop_before s first) m read (place_dropped e)
          by false false e k = read_none (drop_before s first) m read (place_kept e ∙ free_place s m k) ∙ sym (read_none s m read (free_place s m k))
          by false true e k =
              let l = held_low s m k in
              read_at (drop_before s first) m read (place_of s m) (place_kept e) l
              ∙ ap (λ (len : ℕ). Some (read (place_of s m) (len - 1))) (length_kept e l)
              ∙ sym (read_at s m read (place_of s m) refl l)
