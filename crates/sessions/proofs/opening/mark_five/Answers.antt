-- `sessions::opening::mark_five` meets its contract.
use Rattle.std.proofs.Common.{ap, sym, ◌+◌, ◌-◌, ◌∙◌, arith}
use Rattle.sessions.specs.Opening.{marked_from}
use Rattle.sessions.proofs.Slots.{free_marked, marked_more, marked_none}
use Rattle.sessions.proofs.opening.mark_five.Goals as goal

pub returns-then-marks-eq0 : goal.returns-then-marks-eq0
returns-then-marks-eq0 c = let a = c.args in
    free_marked a.sessions.now 5 a.id a.taken.now (c.marks.ensures c.if-marks-eq0.true)

pub loop-i-preserved : goal.loop-i-preserved
unfolding marked_from
loop-i-preserved c = let l = c.loop-i in
    let a = c.args in
    ap (marked_from a.sessions.now (5 - (l.i + 1)) (a.id + (l.i + 1))) c.mark.ensures
    ∙ marked_more a.sessions.now 1 (5 - (l.i + 1)) (a.id + l.i) (a.id + (l.i + 1)) (5 - l.i) l.taken (omega arith) (omega arith) ∙ l.invariant

pub returns : goal.returns
returns c = let l = c.loop-i in
    sym (marked_none c.args.sessions.now (5 - l.i) (c.args.id + l.i) l.taken (omega arith)) ∙ l.invariant
