-- `agent::dry::keep` meets its contract. The invariant: the first `i` entries are copied.
use Rattle.std.proofs.Common.{◌≡◌, drop}
use Rattle.std.proofs.Math.Seq.{paste}
use Rattle.agent.proofs.dry.keep.Given as goal

abbrev pub invariant-loop-i : goal.invariant-loop-i
invariant-loop-i g l = l.line ≡ paste l.initial.line 0 (drop l.b.start l.store) l.i
