-- Laws of bytes against ranges: a character at a place, a byte at a time; and well-formed bytes, a character at a time.
use Prim.Native.Nat.{ℕ, suc, ◌+◌, ◌-◌, ◌≤◌, ◌<◌}
use mathlib.Core.Path.{◌≡◌, refl, sym, ◌∙◌, subst}
use mathlib.Core.Bool.{Bool, true, false, cond, ◌&&◌}
use mathlib.Core.List.{List, [], ◌∷◌}
use native.Mathlib.Omega.{arith}
use lib.ListN.{get_or, length, drop}
use lib.Seq.{drop-cons, drop-drop}
use Rattle.codec.specs.Text.{Range, tail, table, in_range, never, behind_first, well_from, fits, len_behind, character_len, tails, ranges_of}
use Rattle.codec.specs.declared.text.Wait.{Wait}
use Rattle.codec.proofs.text.Laws.{in_range_lem, below_range, above_range, none_in, false_true, bounds, none_left, some_left}

and_right : (x y : Bool) → (x && y) ≡ true → y ≡ true
and_right true y e = e
and_right false y e = absurd (false_true e)

and_true : (x : Bool) → (x && true) ≡ x
and_true true = refl
and_true false = refl

-- ---- the bytes behind a first one, a range at a time

fits_more : (s : List ℕ) (at behind : ℕ) (r : Range) (rs : List Range) → at < length s → suc at ≡ behind → fits (r ∷ rs) (drop at s) ≡ (in_range r (get_or s at 0) && fits rs (drop behind s))
fits_more s at behind r rs h e = rw (drop-cons s at 0 h, e)

-- `w` is what a character at `at` still needs, and its bytes are there
module _ (s : List ℕ) (at : ℕ) (w : Wait) (high : w.need ≤ 3) (there : at + w.need < length s) where
  pub fits_none : w.need ≡ 0 → true ≡ fits (ranges_of w) (drop (at + 1) s)
  fits_none e = rw (none_left w e)

  module _ (low : 1 ≤ w.need) where
    fits_next : fits (ranges_of w) (drop (at + 1) s) ≡ (in_range (bounds w) (get_or s (at + 1) 0) && fits (tails (w.need - 1)) (drop (at + 2) s))
    fits_next = rw (some_left w low high) (fits_more s (at + 1) (at + 2) (bounds w) (tails (w.need - 1)) (omega arith) (omega arith))

    pub fits_below : get_or s (at + 1) 0 < w.low → false ≡ fits (ranges_of w) (drop (at + 1) s)
    fits_below h = sym (fits_next ∙ rw (below_range (bounds w) (get_or s (at + 1) 0) h))

    pub fits_above : w.high < get_or s (at + 1) 0 → false ≡ fits (ranges_of w) (drop (at + 1) s)
    fits_above h = sym (fits_next ∙ rw (above_range (bounds w) (get_or s (at + 1) 0) h))

    -- the next byte is within its range: the others are tails
    module _ (l : w.low ≤ get_or s (at + 1) 0) (h : get_or s (at + 1) 0 ≤ w.high) where
      fits_tails : fits (ranges_of w) (drop (at + 1) s) ≡ fits (tails (w.need - 1)) (drop (at + 2) s)
      fits_tails = fits_next ∙ rw (in_range_lem (bounds w) (get_or s (at + 1) 0) (l, h))

      pub fits_one : w.need ≡ 1 → true ≡ fits (ranges_of w) (drop (at + 1) s)
      fits_one e = sym (fits_tails ∙ rw e)

      pub fits_two : 2 ≤ w.need → fits (ranges_of w) (drop (at + 1) s) ≡ (in_range tail (get_or s (at + 2) 0) && fits (tails (w.need - 2)) (drop (at + 3) s))
      fits_two k =
          let e : w.need - 1 ≡ suc (w.need - 2) = omega arith in
          fits_tails ∙ rw e (fits_more s (at + 2) (at + 3) tail (tails (w.need - 2)) (omega arith) (omega arith))

      pub fits_three : w.need ≡ 3 → in_range tail (get_or s (at + 2) 0) ≡ true → fits (ranges_of w) (drop (at + 1) s) ≡ in_range tail (get_or s (at + 3) 0)
      fits_three e t =
          fits_two (omega arith) ∙ rw (t, e) (fits_more s (at + 3) (at + 4) tail [] (omega arith) (omega arith) ∙ and_true (in_range tail (get_or s (at + 3) 0)))

-- ---- the first character of bytes

pub len_here : (s : List ℕ) (at : ℕ) → at < length s → character_len (drop at s) ≡ len_behind (behind_first table (get_or s at 0)) (drop (at + 1) s)
len_here s at h = let e : suc at ≡ at + 1 = omega arith in rw (drop-cons s at 0 h, e)

pub never_fits : (s : List ℕ) → fits never s ≡ false
never_fits [] = refl
never_fits (b ∷ s) = rw (none_in b)

fits_long : (rs : List Range) (s : List ℕ) → fits rs s ≡ true → length rs ≤ length s
fits_long [] s e = omega arith
fits_long (r ∷ rs) [] e = absurd (false_true e)
fits_long (r ∷ rs) (b ∷ s) e = let h = fits_long rs s (and_right (in_range r b) (fits rs s) e) in omega arith

pub fits_short : (rs : List Range) (s : List ℕ) → length s < length rs → fits rs s ≡ false
fits_short rs s h = by (fits rs s) refl
  where
    by : (x : Bool) → fits rs s ≡ x → x ≡ false
    by true e = let k = fits_long rs s e in absurd (omega arith)
    by false e = refl

len_by : (rs : List Range) (b : ℕ) (s : List ℕ) (x : Bool) → fits rs s ≡ x → cond x (suc (length rs)) 0 ≤ length (b ∷ s)
len_by rs b s true e = let h = fits_long rs s e in omega arith
len_by rs b s false e = omega arith

pub len_within : (s : List ℕ) → character_len s ≤ length s
len_within [] = omega arith
len_within (b ∷ s) = len_by (behind_first table b) b s (fits (behind_first table b) s) refl

-- ---- well-formed bytes, a character at a time

pub never_well : (s : List ℕ) → well_from never s ≡ false
never_well [] = refl
never_well (b ∷ s) = rw (none_in b) (never_well s)

fits_well : (rs : List Range) (s : List ℕ) → well_from rs s ≡ cond (fits rs s) (well_from [] (drop (length rs) s)) false
fits_well [] s = refl
fits_well (r ∷ rs) [] = refl
fits_well (r ∷ rs) (b ∷ s) = by (in_range r b) (fits_well rs s)
  where
    by : (x : Bool) → well_from rs s ≡ cond (fits rs s) (well_from [] (drop (length rs) s)) false
        → well_from (cond x rs never) s ≡ cond (x && fits rs s) (well_from [] (drop (length rs) s)) false
    by true e = e
    by false e = never_well s

-- none begins: the bytes are not well-formed; else as well-formed as what stands behind it
len_well : (b : ℕ) (s : List ℕ)
    → (character_len (b ∷ s) ≡ 0 → well_from [] (b ∷ s) ≡ false)
    × ((character_len (b ∷ s) ≡ 0 → ⊥) → well_from [] (b ∷ s) ≡ well_from [] (drop (character_len (b ∷ s)) (b ∷ s)))
len_well b s = by (behind_first table b) (fits (behind_first table b) s) refl
  where
    by : (rs : List Range) (x : Bool) → fits rs s ≡ x
        → (cond x (suc (length rs)) 0 ≡ 0 → well_from rs s ≡ false)
        × ((cond x (suc (length rs)) 0 ≡ 0 → ⊥) → well_from rs s ≡ well_from [] (drop (cond x (suc (length rs)) 0) (b ∷ s)))
    by rs true e = (λ z. absurd (omega arith), λ n. fits_well rs s ∙ rw e)
    by rs false e = (λ z. fits_well rs s ∙ rw e, λ n. absurd (n refl))

module _ (s : List ℕ) (at n : ℕ) (h : at < length s) (e : n ≡ character_len (drop at s)) where
  pub well_stops : n ≡ 0 → well_from [] (drop at s) ≡ false
  well_stops z =
      subst (λ (l : List ℕ). character_len l ≡ 0 → well_from [] l ≡ false) (sym (drop-cons s at 0 h)) (len_well (get_or s at 0) (drop (suc at) s)).0 (sym e ∙ z)

  pub well_goes_on : (n ≡ 0 → ⊥) → well_from [] (drop at s) ≡ well_from [] (drop (at + n) s)
  well_goes_on z =
      subst (λ (l : List ℕ). (character_len l ≡ 0 → ⊥) → well_from [] l ≡ well_from [] (drop (character_len l) l)) (sym (drop-cons s at 0 h)) (len_well (get_or s at 0) (drop (suc at) s)).1 (λ q. z (e ∙ q))
      ∙ rw (← e, drop-drop n at s)

-- what a character needs, by its cases
pub ruleset fit_laws = (fits_none, fits_one, fits_two, fits_three, fits_below, fits_above)
