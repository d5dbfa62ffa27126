-- `cwire::parsing::put_rows` meets its contract. The invariant: the rows written and what is left make the whole (`Going`).
use Rattle.std.proofs.Common.{◌-◌, length}
use Rattle.cwire.proofs.parsing.Laws.{Going}
use Rattle.cwire.proofs.parsing.put_rows.Given as goal

abbrev pub invariant-loop-here : goal.invariant-loop-here
invariant-loop-here l = Going l.s l.initial.rows l.rows l.n l.here

abbrev pub decreases-loop-here : goal.decreases-loop-here
decreases-loop-here l = length l.s - l.here
