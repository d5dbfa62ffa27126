-- Laws of the numbers that have come: how many are different, and which body each slot holds then.
use Prim.Native.Nat.{ℕ, zero, suc, ◌≤◌, ◌<◌}
use mathlib.Core.Path.{◌≡◌, refl, sym, ap, ◌∙◌}
use mathlib.Core.Bool.{Bool, true, false, cond, not, ◌||◌, ◌&&◌, or_assoc, or-false}
use mathlib.Core.List.{List, [], ◌∷◌, ◌++◌}
use native.Mathlib.Omega.{arith}
use borrow.Author.Tests.{le-ltb, eqb-true, eqb-false}
use lib.Dec.{ltb, eqb}
use lib.ListN.{get_or, length, take}
use lib.Seq.{take-suc, take-length}
use Rattle.codec.specs.Inserts.{Slot, free, holds, held_in, last_of, came, different, pieces}

-- one number more
pub came_more : (k : ℕ) (nrs : List ℕ) (nr : ℕ) → came k (nrs ++ (nr ∷ [])) ≡ (came k nrs || eqb nr k)
unfolding came
came_more k [] nr = or-false (eqb nr k)
came_more k (n ∷ more) nr = ap (λ (t : Bool). eqb n k || t) (came_more k more nr) ∙ sym (or_assoc (eqb n k) (came k more) (eqb nr k))

-- counting those below n
most_step : (t : Bool) (d n : ℕ) → d ≤ n → cond t (suc d) d ≤ suc n
most_step true d n h = omega arith
most_step false d n h = omega arith

pub different_most : (n : ℕ) (nrs : List ℕ) → different n nrs ≤ n
unfolding different
different_most zero nrs = omega arith
different_most (suc n) nrs = most_step (came n nrs) (different n nrs) n (different_most n nrs)

pub different_all : (n : ℕ) (nrs : List ℕ) → ((k : ℕ) → k < n → came k nrs ≡ true) → different n nrs ≡ n
unfolding different
different_all zero nrs all = refl
different_all (suc n) nrs all = rw (all n (omega arith)) (ap suc (different_all n nrs (λ k h. all k (omega arith))))

less_step : (n k : ℕ) (nrs : List ℕ) → k < suc n → came k nrs ≡ false → (k < n → different n nrs < n) → (t : Bool) → eqb k n ≡ t
    → cond (came n nrs) (suc (different n nrs)) (different n nrs) < suc n
less_step n k nrs h gone more true e = let z : k ≡ n = eqb-true k n e in rw (← z) (rw gone (rw z (omega (arith, different_most n nrs))))
less_step n k nrs h gone more false e =
    let z = eqb-false k n e in
    let d = more (omega arith) in
    most_below (came n nrs) (different n nrs) n d
  where
    most_below : (t : Bool) (d n : ℕ) → d < n → cond t (suc d) d < suc n
    most_below true d n h = omega arith
    most_below false d n h = omega arith

pub different_less : (n : ℕ) (nrs : List ℕ) (k : ℕ) → k < n → came k nrs ≡ false → different n nrs < n
unfolding different
different_less zero nrs k h gone = absurd (omega arith)
different_less (suc n) nrs k h gone = less_step n k nrs h gone (λ below. different_less n nrs k below gone) (eqb k n) refl

-- the slots that hold a body are those whose number has come
held_snoc : (v : List Slot) (b : List ℕ) (t : Bool) → held_in (v ++ (cond t (holds b) free ∷ [])) ≡ cond t (suc (held_in v)) (held_in v)
unfolding held_in
held_snoc [] b true = refl
held_snoc [] b false = refl
held_snoc (free ∷ more) b t = held_snoc more b t
held_snoc (holds x ∷ more) b true = ap suc (held_snoc more b true)
held_snoc (holds x ∷ more) b false = ap suc (held_snoc more b false)

module _ (bs : List (List ℕ)) (v : List Slot) (nrs : List ℕ) (so : (k : ℕ) → k < length v → get_or v k free ≡ cond (came k nrs) (holds (get_or bs k [])) free) where
  held_first : (n : ℕ) → n ≤ length v → held_in (take n v) ≡ different n nrs
  unfolding different held_in
  held_first zero h = refl
  held_first (suc n) h =
      rw (take-suc v n free (omega arith), so n (omega arith), held_snoc (take n v) (get_or bs n []) (came n nrs), held_first n (omega arith))

  pub held_different : held_in v ≡ different (length v) nrs
  held_different = rw (take-length v) at (held_first (length v) (omega arith))

-- what slot k holds after fragments of one cut
module _ (width : ℕ) (bs : List (List ℕ)) (k : ℕ) (fits : length (get_or bs k []) ≤ width) where
  piece_slot : (nr : ℕ) (s : Slot) (t : Bool) → eqb nr k ≡ t
      → cond (t && not (ltb width (length (get_or bs nr [])))) (holds (get_or bs nr [])) s ≡ cond t (holds (get_or bs k [])) s
  piece_slot nr s true e = let z : nr ≡ k = eqb-true nr k e in rw (z, le-ltb width (length (get_or bs k [])) fits)
  piece_slot nr s false e = refl

  stays_step : (more : List ℕ) (t : Bool) → last_of width k (pieces bs more) (holds (get_or bs k [])) ≡ holds (get_or bs k [])
      → last_of width k (pieces bs more) (cond t (holds (get_or bs k [])) (holds (get_or bs k []))) ≡ holds (get_or bs k [])
  stays_step more true e = e
  stays_step more false e = e

  stays : (nrs : List ℕ) → last_of width k (pieces bs nrs) (holds (get_or bs k [])) ≡ holds (get_or bs k [])
  unfolding last_of pieces
  stays [] = refl
  stays (nr ∷ more) = ap (last_of width k (pieces bs more)) (piece_slot nr (holds (get_or bs k [])) (eqb nr k) refl) ∙ stays_step more (eqb nr k) (stays more)

  arrives_step : (more : List ℕ) (t : Bool) → last_of width k (pieces bs more) free ≡ cond (came k more) (holds (get_or bs k [])) free
      → last_of width k (pieces bs more) (cond t (holds (get_or bs k [])) free) ≡ cond (t || came k more) (holds (get_or bs k [])) free
  arrives_step more true e = stays more
  arrives_step more false e = e

  pub arrives : (nrs : List ℕ) → last_of width k (pieces bs nrs) free ≡ cond (came k nrs) (holds (get_or bs k [])) free
  unfolding last_of pieces came
  arrives [] = refl
  arrives (nr ∷ more) = ap (last_of width k (pieces bs more)) (piece_slot nr free (eqb nr k) refl) ∙ arrives_step more (eqb nr k) (arrives more)
