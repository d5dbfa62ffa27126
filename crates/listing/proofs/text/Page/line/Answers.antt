-- `listing::text::Page::line` meets its contract. The invariant: the numbers so far stand behind the word.
use Rattle.std.proofs.Common.{arith, add-one}
use Rattle.listing.proofs.text.Laws.{adds_none, adds_then, fields_more, line_end}
use Rattle.listing.proofs.text.Page.line.Goals as goal

pub loop-n-init : goal.loop-n-init
loop-n-init c = adds_none _

pub loop-n-preserved : goal.loop-n-preserved
loop-n-preserved c =
    let l = c.loop-n in
    rw (add-one l.n-index, fields_more c.args.numbers.now l.n-index (omega arith)) (adds_then l.invariant (adds_then c.byte.ensures c.decimal.ensures))

pub returns : goal.returns
returns c =
    let l = c.loop-n in
    rw (← line_end c.args.word.now c.args.numbers.now l.n-index (omega arith)) (adds_then c.text.ensures (adds_then l.invariant c.byte-2.ensures))
