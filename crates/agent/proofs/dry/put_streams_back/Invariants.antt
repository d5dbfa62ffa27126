-- `agent::dry::put_streams_back` meets its contract. The invariant: the first `k` copies are put back.
use Rattle.std.proofs.Common.{[], ◌≡◌}
use Rattle.agent.specs.Dry.{same, stream_spot, restored}
use Rattle.agent.proofs.dry.put_streams_back.Given as goal

abbrev pub invariant-loop-k : goal.invariant-loop-k
invariant-loop-k l = l.streams ≡ restored same [] (stream_spot l.id) l.k l.rows l.initial.streams
