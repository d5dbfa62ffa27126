-- Whether the lengths left are short, and none of those before them was over.
use Rattle.std.proofs.Common.{◌≡◌, false}
use Rattle.sessions.proofs.limits.Laws.{long_at, within_from}
use Rattle.sessions.proofs.limits.lengths_short.Given as goal

abbrev pub invariant-loop-length : goal.invariant-loop-length
invariant-loop-length l = within_from (long_at l.length-items) l.over l.length-index ≡ within_from (long_at l.length-items) false 0
