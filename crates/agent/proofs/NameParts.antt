-- The two strings behind a Topic's CREATE: as parts of the datagram they are the bytes that the rules read from the body.
use Prim.Native.Nat.{ℕ, zero, suc, ◌+◌, ◌≤◌}
use mathlib.Core.Path.{◌≡◌, refl, sym, ap, ◌∙◌}
use mathlib.Core.Bool.{Bool, true, false, cond}
use mathlib.Core.List.{List, [], ◌∷◌}
use native.Mathlib.Omega.{arith}
use borrow.Author.Tests.{le-leb, leb-true}
use lib.Dec.{leb}
use lib.ListN.{length, take, drop, length-drop}
use lib.Seq.{length-take-le, take-take, drop-drop}
use Rattle.codec.specs.Reading.{part_of}
use Rattle.codec.specs.Strings.{string_at}
use Rattle.codec.specs.declared.layouts.Span.{Span}
use Rattle.moves.specs.Names.{placed_in, type_after, name_then, names_in}
use Rattle.agent.specs.RulesObjects.{Names, type_behind, names_from, names_of}
use Rattle.moves.proofs.Strings.{string_within}
use Rattle.std.specs.Prelude.{Err, None, Ok, Result, Some, Option}
use Rattle.codec.specs.declared.refusals.Refusal.{Refusal}

-- ---- a part of a part

take_within : {A : Type 0} (k at n : ℕ) (l : List A) → at + k ≤ n → take k (drop at (take n l)) ≡ take k (drop at l)
take_within k zero n l h = take-take k n l (omega arith)
take_within k (suc at) zero l h = let z : ⊥ = omega arith in absurd z
take_within k (suc at) (suc n) [] h = refl
take_within k (suc at) (suc n) (x ∷ l) h = take_within k at n l (omega arith)

pub part_placed : (d : List ℕ) (body x : Span) → 1 ≤ x.start → x.start + x.len ≤ length (part_of d body) → part_of d (placed_in body x) ≡ part_of (part_of d body) x
unfolding part_of
part_placed d body x low h = by (leb (body.start + body.len) (length d)) refl h
  where
    by : (b : Bool) → leb (body.start + body.len) (length d) ≡ b → x.start + x.len ≤ length (cond b (take body.len (drop body.start d)) [])
        → part_of d (placed_in body x) ≡ part_of (cond b (take body.len (drop body.start d)) []) x
    by true e h =
        let fits : body.start + body.len ≤ length d = leb-true (body.start + body.len) (length d) e in
        let long : length (take body.len (drop body.start d)) ≡ body.len = length-take-le body.len (drop body.start d) (rw (length-drop body.start d) (omega arith)) in
        let in_body : x.start + x.len ≤ body.len = rw long at h in
        rw (le-leb (body.start + x.start + x.len) (length d) (omega arith), le-leb (x.start + x.len) (length (take body.len (drop body.start d))) h)
        (ap (take x.len) (sym (drop-drop x.start body.start d)) ∙ sym (take_within x.len x.start body.len (drop body.start d) in_body))
    by false e h = let z : ⊥ = omega arith in absurd z

-- ---- the names

abbrev pub bytes_of : List ℕ → Option (Span × Span) → Option Names
bytes_of d (Some (name, type)) = Some (record { name = part_of d name; type = part_of d type })
bytes_of d None = None

pub names_same : (d : List ℕ) (body : Span) → bytes_of d (names_in d body) ≡ names_of (part_of d body)
unfolding names_in names_of
names_same d body = go (string_at (part_of d body) 0) refl
  where
    behind : (x : Span) → string_at (part_of d body) 0 ≡ Ok x → (r : Result Span Refusal) → string_at (part_of d body) (x.start + x.len) ≡ r → bytes_of d (type_after body x r) ≡ type_behind (part_of d body) x r
    behind x e (Err r) f = refl
    behind x e (Ok y) f =
        let a = string_within (part_of d body) 0 x e in
        let b = string_within (part_of d body) (x.start + x.len) y f in
        λ i. Some (record { name = part_placed d body x (omega (arith, a.0)) a.1 i; type = part_placed d body y (omega (arith, b.0)) b.1 i })

    go : (r : Result Span Refusal) → string_at (part_of d body) 0 ≡ r → bytes_of d (name_then d body r) ≡ names_from (part_of d body) r
    go (Err r) e = refl
    go (Ok x) e = behind x e (string_at (part_of d body) (x.start + x.len)) refl
