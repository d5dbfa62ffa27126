-- `sessions::sweep::count_five` meets its contract: where no id is live, none goes.
use Rattle.std.proofs.Common.{arith}
use Rattle.sessions.proofs.sweep.Laws.{free_stay}
use Rattle.sessions.proofs.sweep.count_five.Goals as goal

pub returns-then-marks-eq0 : goal.returns-then-marks-eq0
returns-then-marks-eq0 c = let a = c.args in
    (omega (arith, free_stay a.sessions.now a.time a.timeout_ms a.id 5 (c.marks.ensures c.if-marks-eq0.true)), omega arith)
