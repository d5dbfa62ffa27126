-- Laws of the slots that a store's entries describe: an insert sets one slot, and the count is the number of slots that hold a body.
use Prim.Native.Nat.{ℕ, zero, suc, ◌+◌, ◌*◌, ◌-◌, ◌≤◌, ◌<◌}
use mathlib.Core.Path.{◌≡◌, refl, sym, ap, ◌∙◌}
use mathlib.Core.Bool.{Bool, true, false, cond, not, true≢false}
use mathlib.Core.List.{List, [], ◌∷◌, ◌++◌, map, append_assoc}
use native.Mathlib.Nat.{zero-mul, zero-add, suc-mul, add_comm, add_assoc}
use native.Mathlib.Numerals.{add-one}
use native.Mathlib.Omega.{arith}
use borrow.Author.Tests.{ltb-false, le-ltb, ne_eqb, eqb-true}
use lib.ListN.{get_or, length, take, drop, set, replicate, length-drop}
use lib.Seq.{length-take-le, take-append_seam, take-append-le, drop-append-le, drop-append-add, take-take, take-add, drop-drop, drop_at}
use Rattle.codec.specs.Bytes.{put_at}
use Rattle.codec.specs.Reassembly.{is_free, is_past, any_of, grown, bodies_held}
use Rattle.codec.specs.Inserts.{Slot, free, holds, slots_of, held_in}
use Rattle.codec.proofs.reassembly.Laws.{neither, slot_ends}

-- parts of an output before, at and behind a write
module _ (out : List ℕ) (x : List ℕ) where
  pub take_put : take (length x) (put_at out 0 x) ≡ x
  unfolding put_at
  take_put = take-append_seam x (drop (0 + length x) out)

  pub drop_put : (n : ℕ) → length x ≤ n → drop n (put_at out 0 x) ≡ drop n out
  unfolding put_at
  drop_put n h =
      let e : n ≡ length x + (n - length x) = omega arith in
      rw e (rw (drop-append-add x (drop (0 + length x) out) (n - length x), zero-add (length x)) (drop-drop (n - length x) (length x) out))

  take_before : (n at : ℕ) → n ≤ at → at ≤ length out → take n (put_at out at x) ≡ take n out
  unfolding put_at
  take_before n at h room =
      let e = length-take-le at out room in
      rw (append_assoc (take at out) x (drop (at + length x) out), take-append-le n (take at out) (x ++ drop (at + length x) out) (omega arith)) (take-take n at out h)

  drop_before_lem : (n m : ℕ) → n + m ≤ length out → drop n (put_at out (n + m) x) ≡ put_at (drop n out) m x
  unfolding put_at
  drop_before_lem n m room =
      let e = length-take-le (n + m) out room in
      let f : drop n (take (n + m) out) ≡ take m (drop n out) = rw (take-add n m out) (drop_at (take n out) (take m (drop n out)) n (length-take-le n out (omega arith))) in
      let g : drop (n + m + length x) out ≡ drop (m + length x) (drop n out) = rw (add_assoc n m (length x)) (sym (drop-drop (m + length x) n out)) in
      rw (append_assoc (take (n + m) out) x (drop (n + m + length x) out), drop-append-le n (take (n + m) out) (x ++ drop (n + m + length x) out) (omega arith), f, g) (sym (append_assoc (take m (drop n out)) x (drop (m + length x) (drop n out))))

pub held_most : (v : List Slot) → held_in v ≤ length v
unfolding held_in
held_most [] = omega arith
held_most (free ∷ more) = let h = held_most more in omega arith
held_most (holds body ∷ more) = let h = held_most more in omega arith

pub length_slots : (width : ℕ) (slots es : List ℕ) → length (slots_of width slots es) ≡ length es
unfolding slots_of
length_slots width slots [] = refl
length_slots width slots (held ∷ more) = ap suc (length_slots width (drop width slots) more)

module _ (width : ℕ) (body : List ℕ) (small : length body ≤ width) where
  -- an entry that an insert writes is within the width
  pub within_set : (es : List ℕ) (nr : ℕ) → any_of (is_past width) es ≡ false → any_of (is_past width) (set es nr (length body + 1)) ≡ false
  unfolding any_of
  within_set [] nr e = refl
  within_set (held ∷ more) zero e = rw (le-ltb (width + 1) (length body + 1) (omega arith)) (neither (is_past width held) (any_of (is_past width) more) e).1
  within_set (held ∷ more) (suc nr) e =
      let t = neither (is_past width held) (any_of (is_past width) more) e in
      rw t.0 (within_set more nr t.1)

  -- an insert sets its slot, and no other
  pub slots_set : (slots es : List ℕ) (nr : ℕ) → nr < length es → length es * width ≤ length slots → any_of (is_past width) es ≡ false
      → slots_of width (put_at slots (nr * width) body) (set es nr (length body + 1)) ≡ set (slots_of width slots es) nr (holds body)
  unfolding slots_of any_of
  slots_set slots [] nr h there e = absurd (omega arith)
  slots_set slots (held ∷ more) zero h there e =
      let n : length body + 1 - 1 ≡ length body = omega arith in
      rw (zero-mul width, ne_eqb (length body + 1) 0 (omega arith), n, take_put slots body, drop_put slots body width small)
  slots_set slots (held ∷ more) (suc nr) h there e =
      let t = neither (is_past width held) (any_of (is_past width) more) e in
      let own = ltb-false (width + 1) held t.0 in
      let m = suc-mul (length more) width in
      let ends = slot_ends nr (length more) width (omega arith) in
      let d = length-drop width slots in
      let at : suc nr * width ≡ width + nr * width = suc-mul nr width ∙ add_comm (nr * width) width in
      rw (at, take_before slots body (held - 1) (width + nr * width) (omega arith) (omega arith), drop_before_lem slots body width (nr * width) (omega arith))
      (ap (λ (v : List Slot). cond (is_free held) free (holds (take (held - 1) slots)) ∷ v) (slots_set (drop width slots) more nr (omega arith) (omega arith) t.1))

-- the count grows only if the slot was free
grown_suc : (n held : ℕ) (t : Bool) → suc (cond t (n + 1) n) ≡ cond t (suc n + 1) (suc n)
grown_suc n held true = omega arith
grown_suc n held false = refl

module _ (width : ℕ) (body : List ℕ) where
  held_here : (b : List ℕ) (v : List Slot) (t : Bool)
      → suc (held_in v) ≡ cond t (held_in (cond t free (holds b) ∷ v) + 1) (held_in (cond t free (holds b) ∷ v))
  unfolding held_in
  held_here b v true = sym (add-one (held_in v))
  held_here b v false = refl

  held_behind : (b : List ℕ) (v w : List Slot) (held : ℕ) (t : Bool) → held_in w ≡ grown (held_in v) held
      → held_in (cond t free (holds b) ∷ w) ≡ grown (held_in (cond t free (holds b) ∷ v)) held
  unfolding held_in grown
  held_behind b v w held true e = e
  held_behind b v w held false e = ap suc e ∙ grown_suc (held_in v) held (is_free held)

  pub held_set : (slots es : List ℕ) (nr : ℕ) → nr < length es
      → held_in (set (slots_of width slots es) nr (holds body)) ≡ grown (held_in (slots_of width slots es)) (get_or es nr 0)
  unfolding slots_of grown held_in
  held_set slots [] nr h = absurd (omega arith)
  held_set slots (held ∷ more) zero h = held_here (take (held - 1) slots) (slots_of width (drop width slots) more) (is_free held)
  held_set slots (held ∷ more) (suc nr) h =
      held_behind (take (held - 1) slots) (slots_of width (drop width slots) more) (set (slots_of width (drop width slots) more) nr (holds body)) (get_or more nr 0) (is_free held)
      (held_set (drop width slots) more nr (omega arith))

-- whether a slot holds a body
unfoldable pub is_held : Slot → Bool
is_held free = false
is_held (holds body) = true

held_or_free : (b : List ℕ) (t : Bool) → is_held (cond t free (holds b)) ≡ not t
unfolding is_held
held_or_free b true = refl
held_or_free b false = refl

pub held_entry : (width : ℕ) (slots es : List ℕ) (k : ℕ) → k < length es → is_held (get_or (slots_of width slots es) k free) ≡ not (is_free (get_or es k 0))
unfolding slots_of
held_entry width slots [] k h = absurd (omega arith)
held_entry width slots (held ∷ more) zero h = held_or_free (take (held - 1) slots) (is_free held)
held_entry width slots (held ∷ more) (suc k) h = held_entry width (drop width slots) more k (omega arith)

-- the body of a slot, none where it is free
unfoldable pub body_in : Slot → List ℕ
body_in free = []
body_in (holds body) = body

body_of_entry : (slots : List ℕ) (held : ℕ) (t : Bool) → is_free held ≡ t
    → take (held - 1) slots ≡ body_in (cond t free (holds (take (held - 1) slots)))
unfolding body_in
body_of_entry slots held true e = let z : held ≡ 0 = eqb-true held 0 e in rw z
body_of_entry slots held false e = refl

-- what an assembly joins: the slots' bodies
pub bodies_of_slots : (width : ℕ) (slots es : List ℕ) → bodies_held width slots es ≡ map body_in (slots_of width slots es)
unfolding bodies_held slots_of
bodies_of_slots width slots [] = refl
bodies_of_slots width slots (held ∷ more) =
    rw (← body_of_entry slots held (is_free held) refl)
    (ap (λ (bs : List (List ℕ)). take (held - 1) slots ∷ bs) (bodies_of_slots width (drop width slots) more))

-- where every slot holds a body none is free
all_held_step : (b : List ℕ) (v : List Slot) (n : ℕ) (t : Bool) → length v ≡ n → held_in (cond t free (holds b) ∷ v) ≡ suc n
    → (t ≡ false) × (held_in v ≡ n)
unfolding held_in
all_held_step b v n true l e = let m = held_most v in absurd (omega arith)
all_held_step b v n false l e = (refl, omega arith)

pub all_held : (width : ℕ) (slots es : List ℕ) → held_in (slots_of width slots es) ≡ length es → any_of is_free es ≡ false
unfolding slots_of any_of
all_held width slots [] e = refl
all_held width slots (held ∷ more) e =
    let t = all_held_step (take (held - 1) slots) (slots_of width (drop width slots) more) (length more) (is_free held) (length_slots width (drop width slots) more) e in
    rw t.0 (all_held width (drop width slots) more t.1)

-- and where none is free every slot holds one
counted_step : (b : List ℕ) (v : List Slot) (n : ℕ) → held_in v ≡ n → (t : Bool) → t ≡ false → held_in (cond t free (holds b) ∷ v) ≡ suc n
unfolding held_in
counted_step b v n e true z = absurd (true≢false z)
counted_step b v n e false z = ap suc e

pub none_free : (width : ℕ) (slots es : List ℕ) → any_of is_free es ≡ false → held_in (slots_of width slots es) ≡ length es
unfolding slots_of any_of held_in
none_free width slots [] e = refl
none_free width slots (held ∷ more) e =
    let t = neither (is_free held) (any_of is_free more) e in
    counted_step (take (held - 1) slots) (slots_of width (drop width slots) more) (length more) (none_free width (drop width slots) more t.1) (is_free held) t.0

-- a new store: no slot holds a body
pub none_held : (width n : ℕ) (slots : List ℕ) → held_in (slots_of width slots (replicate n 0)) ≡ 0
unfolding slots_of held_in
none_held width zero slots = refl
none_held width (suc n) slots = none_held width n (drop width slots)

pub all_free : (width n : ℕ) (slots : List ℕ) (k : ℕ) → get_or (slots_of width slots (replicate n 0)) k free ≡ free
unfolding slots_of
all_free width zero slots k = refl
all_free width (suc n) slots zero = refl
all_free width (suc n) slots (suc k) = all_free width n (drop width slots) k

pub none_past : (width n : ℕ) → any_of (is_past width) (replicate n 0) ≡ false
unfolding any_of
none_past width zero = refl
none_past width (suc n) = rw (le-ltb (width + 1) 0 (omega arith)) (none_past width n)
