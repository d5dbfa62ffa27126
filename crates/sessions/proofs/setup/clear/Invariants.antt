-- The records before the index are cleared.
use Rattle.sessions.specs.Setup.{cleared}
use Rattle.std.proofs.Common.{◌≡◌}
use Rattle.sessions.proofs.setup.clear.Given as goal

abbrev pub invariant-loop-record : goal.invariant-loop-record
invariant-loop-record g l = l.record-items ≡ cleared l.record-index l.nothing l.initial.record-items
