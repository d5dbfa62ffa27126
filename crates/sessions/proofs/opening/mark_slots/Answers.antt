-- `sessions::opening::mark_slots` meets its contract.
use Rattle.std.proofs.Common.{ap, sym, ◌*◌, ◌+◌, ◌-◌, ◌∙◌, arith}
use Rattle.sessions.specs.Opening.{marked_from}
use Rattle.sessions.proofs.Slots.{marked_more, marked_none}
use Rattle.sessions.proofs.opening.mark_slots.Goals as goal

pub loop-k-preserved : goal.loop-k-preserved
loop-k-preserved c = let l = c.loop-k in
    let rows = c.args.sessions.now in
    ap (marked_from rows (255 - 5 * (l.k + 1)) (5 * (l.k + 1) + 1)) c.mark_five.ensures
    ∙ marked_more rows 5 (255 - 5 * (l.k + 1)) (5 * l.k + 1) (5 * (l.k + 1) + 1) (255 - 5 * l.k) l.taken (omega arith) (omega arith) ∙ l.invariant

pub returns : goal.returns
returns c = let l = c.loop-k in
    sym (marked_none c.args.sessions.now (255 - 5 * l.k) (5 * l.k + 1) l.taken (omega arith)) ∙ l.invariant
