-- A Topic's two strings lie within its body, and so within the datagram.
use Prim.Native.Nat.{ℕ, ◌+◌, ◌≤◌}
use mathlib.Core.Path.{◌≡◌, refl}
use mathlib.Core.Bool.{Bool, true, false, cond}
use mathlib.Core.List.{List, []}
use native.Mathlib.Omega.{arith}
use borrow.Author.Tests.{leb-true}
use lib.Dec.{leb}
use lib.ListN.{length, take, drop, length-drop}
use lib.Seq.{length-take-le}
use Rattle.codec.specs.Reading.{part_of}
use Rattle.codec.specs.Strings.{string_at}
use Rattle.codec.specs.declared.layouts.Span.{Span}
use Rattle.codec.proofs.strings.Theorems.{string_given}
use Rattle.std.specs.Prelude.{Ok}

-- a part that is not empty ends within its list
pub part_within : (s : List ℕ) (x : Span) → 1 ≤ length (part_of s x) → x.start + length (part_of s x) ≤ length s
unfolding part_of
part_within s x h = go (leb (x.start + x.len) (length s)) refl h
  where
    part : Bool → List ℕ
    part b = cond b (take x.len (drop x.start s)) []

    go : (b : Bool) → leb (x.start + x.len) (length s) ≡ b → 1 ≤ length (part b) → x.start + length (part b) ≤ length s
    go true e h =
        let w = leb-true (x.start + x.len) (length s) e in
        let a = length-drop x.start s in
        let b = length-take-le x.len (drop x.start s) (omega (arith, a, w)) in
        omega (arith, b, w)
    go false e h = omega (arith, h)

-- a string that is read starts behind its length, and ends within its list
pub string_within : (s : List ℕ) (at : ℕ) (x : Span) → string_at s at ≡ Ok x → (2 ≤ x.start) × (x.start + x.len ≤ length s)
string_within s at x e =
    let g = string_given s at x e in
    rw g.own (omega arith, g.whole)
