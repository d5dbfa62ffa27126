-- `agent::dry::keep_streams` meets its contract. The invariant: the first `k` copies are made.
use Rattle.std.proofs.Common.{[], ◌≡◌}
use Rattle.agent.specs.Dry.{same, stream_spot, copied}
use Rattle.agent.proofs.dry.keep_streams.Given as goal

abbrev pub invariant-loop-k : goal.invariant-loop-k
invariant-loop-k l = l.rows ≡ copied same [] (stream_spot l.id) l.k l.streams l.initial.rows
