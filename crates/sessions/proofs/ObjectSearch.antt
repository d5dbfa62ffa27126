-- The search for an object's number in any row, duplicates included: step by step, and that it ends at the last record in use.
use Prim.Native.Nat.{ℕ, zero, suc, ◌<◌, ◌≤◌}
use mathlib.Core.Path.{◌≡◌, refl, sym, ap, subst}
use mathlib.Core.Logic.{◌≢◌}
use mathlib.Core.Bool.{Bool, true, false, cond}
use mathlib.Core.List.{List}
use native.Mathlib.Omega.{arith}
use borrow.Author.Tests.{eqb-true, eqb-false, leb-true, leb-false}
use lib.Dec.{leb}
use lib.ListN.{get_or, length, take}
use lib.Seq.{length-take-le}
use Rattle.std.proofs.lemmas.List.{get_or-take}
use Rattle.codec.specs.declared.submessages.ObjectNumber.{ObjectNumber}
use Rattle.sessions.specs.Objects.{blank, is_numbered, object_place, LastOf}
use Rattle.sessions.specs.declared.objects.Object.{Object}
use Rattle.std.specs.Prelude.{None, Option, Some}

-- a place below a number
abbrev pub Under : ℕ → Option ℕ → Type 0
Under used (Some i) = i < used
Under used None = Unit {0}

module _ (row : List Object) (n : ObjectNumber) where
  abbrev hit : ℕ → Bool
  hit i = is_numbered (get_or row i blank) n

  -- ---- it ends at the last record in use with that number, and nowhere if there is none

  pub search_last : (used : ℕ) → LastOf row used n (object_place row used n)
  search_last zero = λ j h. let z : ⊥ = omega arith in absurd z
  search_last (suc i) = by (hit i) refl (object_place row i n) (search_last i)
    where
      -- if the record at i doesn't have the number, one below i + 1 that has it is below i
      below : (get_or row i blank).number.0 ≢ n.0 → (j : ℕ) → j < suc i → (j < i → (get_or row j blank).number.0 ≢ n.0) → (get_or row j blank).number.0 ≢ n.0
      below q j h f = at (leb i j) refl
        where
          at : (b : Bool) → leb i j ≡ b → (get_or row j blank).number.0 ≢ n.0
          at true e = let w : j ≡ i = let v : i ≤ j = leb-true i j e in omega arith in rw w q
          at false e = f (leb-false i j e)

      by : (b : Bool) → hit i ≡ b → (p : Option ℕ) → LastOf row i n p → LastOf row (suc i) n (cond b (Some i) p)
      by true e p l = (omega arith, eqb-true (get_or row i blank).number.0 n.0 e, λ j a c. let z : ⊥ = omega arith in absurd z)
      by false e (Some k) l = (let w = l.0 in omega arith, l.1, λ j a c. below (eqb-false (get_or row i blank).number.0 n.0 e) j c (l.2 j a))
      by false e None l = λ j c. below (eqb-false (get_or row i blank).number.0 n.0 e) j c (l j)

  -- and at no other place
  pub search_only : (used : ℕ) (p : Option ℕ) → LastOf row used n p → p ≡ object_place row used n
  search_only used p l = one p (object_place row used n) l (search_last used)
    where
      one : (p q : Option ℕ) → LastOf row used n p → LastOf row used n q → p ≡ q
      one (Some i) (Some k) l m = by (leb i k) refl (leb k i) refl
        where
          by : (a : Bool) → leb i k ≡ a → (b : Bool) → leb k i ≡ b → Some i ≡ Some k
          by true a true b = let u = leb-true i k a in let v = leb-true k i b in let w : i ≡ k = omega arith in ap Some w
          by true a false b = absurd (l.2 k (leb-false k i b) m.0 m.1)
          by false a b d = absurd (m.2 i (leb-false i k a) l.0 l.1)
      one (Some i) None l m = absurd (m i l.0 l.1)
      one None (Some k) l m = absurd (l k m.0 m.1)
      one None None l m = refl

  -- so the last of the records in use is the place
  pub last_in_use : (used : ℕ) → used ≤ length row → (p : Option ℕ) → LastOf (take used row) (length (take used row)) n p → p ≡ object_place row used n
  last_in_use used h p l = search_only used p (moved p (rw (length-take-le used row h) at l))
    where
      same : (j : ℕ) → j < used → get_or (take used row) j blank ≡ get_or row j blank
      same j k = get_or-take used row j blank k

      moved : (q : Option ℕ) → LastOf (take used row) used n q → LastOf row used n q
      moved (Some i) m = (m.0, rw (same i m.0) at m.1, λ j a b. rw (same j b) at (m.2 j a b))
      moved None m = λ j k. rw (same j k) at (m j k)

  -- a record that is found is in use
  pub place_under : (used : ℕ) → Under used (object_place row used n)
  place_under used = by (object_place row used n) (search_last used)
    where
      by : (p : Option ℕ) → LastOf row used n p → Under used p
      by (Some i) l = l.0
      by None l = tt

  pub in_use : (used i : ℕ) → Some i ≡ object_place row used n → i < used
  in_use used i e = subst (Under used) (sym e) (place_under used)
