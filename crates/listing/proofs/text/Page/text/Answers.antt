-- `listing::text::Page::text` meets its contract. The invariant: the bytes so far are there.
use Rattle.std.proofs.Common.{arith, add-one}
use Rattle.std.proofs.Math.Seq.{take-suc}
use Rattle.listing.proofs.text.Laws.{adds_none, adds_then}
use Rattle.listing.proofs.text.Page.text.Goals as goal

pub loop-b-init : goal.loop-b-init
loop-b-init c = adds_none _

pub loop-b-preserved : goal.loop-b-preserved
loop-b-preserved c =
    let l = c.loop-b in
    rw (add-one l.b-index, take-suc c.args.text.now l.b-index 0 (omega arith)) (adds_then l.invariant c.byte.ensures)
