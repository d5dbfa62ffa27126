-- `datagram::read_full` meets its contract: a turn reads on behind the bytes that are there.
use Rattle.std.proofs.Common.{◌≡◌, ℕ, ◌+◌, ◌≤◌, List, ◌++◌, length, take, rules, sym, ap, ◌∙◌, subst, length-take-le}
use Rattle.std.proofs.Math.Seq.{take-append-add}
use Rattle.std.proofs.lemmas.List.{take-append-le}
use Rattle.std.specs.Io.KnownBytes.{Consumes}
use Rattle.std.proofs.KnownBytes.{Consumes-trans}
use Rattle.datagram.proofs.read_full.Goals as goal

-- of a list whose part from a on is `part` and what follows it, the first a + m elements
filled : (a m : ℕ) (xs part rest : List ℕ) → a ≤ length xs → m ≤ length part → take (a + m) (take a xs ++ (part ++ rest)) ≡ take a xs ++ take m part
filled a m xs part rest within fits =
    subst (λ (n : ℕ). take (n + m) (take a xs ++ (part ++ rest)) ≡ take a xs ++ take m part) (length-take-le a xs within)
    (take-append-add (take a xs) (part ++ rest) m ∙ ap (λ (l : List ℕ). take a xs ++ l) (take-append-le m part rest fits))

pub loop-n-preserved : goal.loop-n-preserved
loop-n-preserved g c =
    let more = c.in_ok-more.ensures in
    let first = filled c.loop-n.n c.in_ok-more.more c.loop-n.place c.read.new.buf _ c.loop-n.invariant.0 more.bound.0 in
    (search rules, subst (Consumes _ _) (sym first) (Consumes-trans _ _ _ _ _ c.loop-n.invariant.1 more.bytes.0))
