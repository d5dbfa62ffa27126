-- What is marked from the next five ids on is what is marked from the start.
use Rattle.std.proofs.Common.{◌≡◌, ◌+◌, ◌-◌, ◌*◌}
use Rattle.sessions.specs.Opening.{marked_from}
use Rattle.sessions.proofs.opening.mark_slots.Given as goal

abbrev pub invariant-loop-k : goal.invariant-loop-k
invariant-loop-k l = marked_from l.sessions (255 - 5 * l.k) (5 * l.k + 1) l.taken ≡ marked_from l.sessions 255 1 l.initial.taken
