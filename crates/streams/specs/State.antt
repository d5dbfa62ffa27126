-- The state of one stream: "number, next to send, expected, held messages".
use Rattle.std.specs.Prelude.{ℕ, cond, replicate, ◌==◌}
use Rattle.streams.specs.declared.state.StreamKind.{StreamKind}
use Rattle.streams.specs.declared.state.StreamKind.TheVariants.{BestEffort, Reliable}
use Rattle.streams.specs.declared.state.StreamState.{StreamState}

-- "Best effort (stream 0)"; every other stream is reliable
abbrev pub stream_kind : ℕ → StreamKind
stream_kind id = cond (id == 0) BestEffort Reliable

-- a stream that was just opened: both numbers 0, and nothing held
abbrev pub new_stream : ℕ → StreamState
new_stream id = record { stream_id = id; next_send_seq = 0; next_recv_seq = 0; numbers = replicate 16 0; lengths = replicate 16 0 }
