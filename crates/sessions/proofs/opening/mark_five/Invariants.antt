-- What is marked from the next id on is what is marked from the start.
use Rattle.std.proofs.Common.{◌≡◌, ◌+◌, ◌-◌}
use Rattle.sessions.specs.Opening.{marked_from}
use Rattle.sessions.proofs.opening.mark_five.Given as goal

abbrev pub invariant-loop-i : goal.invariant-loop-i
invariant-loop-i l = marked_from l.sessions (5 - l.i) (l.id + l.i) l.taken ≡ marked_from l.sessions 5 l.id l.initial.taken
