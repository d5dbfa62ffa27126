-- `agent::dry::put_back` meets its contract. The invariant: the first `i` entries are copied.
use Rattle.std.proofs.Common.{◌≡◌}
use Rattle.std.proofs.Math.Seq.{paste}
use Rattle.agent.proofs.dry.put_back.Given as goal

abbrev pub invariant-loop-i : goal.invariant-loop-i
invariant-loop-i g l = l.store ≡ paste l.initial.store l.b.start l.line l.i
