-- `streams::received::missing` meets its contract: the bits below `bit` are in the bitmap, and the others are still to come.
use Rattle.streams.proofs.received.Laws.{Reached}
use Rattle.streams.proofs.received.missing.Given as goal

abbrev pub invariant-loop-bit : goal.invariant-loop-bit
invariant-loop-bit l = Reached l.expected l.first l.last l.bitmap l.bit
