-- What a stream has received: the number it expects, and the ACKNACK that asks for what is missing.
use Rattle.std.specs.Prelude.{ℕ, zero, suc, ◌+◌, ◌^◌, true, false, cond, ◌==◌}
use Rattle.codec.specs.declared.submessages.AcknackPayload.{AcknackPayload}
use Rattle.streams.specs.declared.state.StreamState.{StreamState}
use Rattle.streams.specs.declared.received.Received.{Received}
use Rattle.streams.specs.Sequence.{plus, seq_lt}

-- "`make_acknack(first, last)` visits bits 0 to 15, number n = expected + bit."
-- "A bit is set unless n differs from expected and `seq_lt(n, first)`."
unfoldable pub bit_value : ℕ → ℕ → ℕ → ℕ → ℕ
bit_value expected first n bit = cond (n == expected) (2 ^ bit) (cond (seq_lt n first) 0 (2 ^ bit))

-- "It ends at the first n with `seq_lt(last, n)`": the bits from one on, k of them
unfoldable pub bitmap_from : ℕ → ℕ → ℕ → ℕ → ℕ → ℕ
bitmap_from expected first last zero bit = 0
bitmap_from expected first last (suc k) bit =
    cond (seq_lt last (plus expected bit)) 0
    (bit_value expected first (plus expected bit) bit + bitmap_from expected first last k (suc bit))

unfoldable pub bitmap_of : ℕ → ℕ → ℕ → ℕ
bitmap_of expected first last = bitmap_from expected first last 16 0

unfoldable pub acknack_of : StreamState → ℕ → ℕ → AcknackPayload
acknack_of s first last = record { first_unacked_seq = s.next_recv_seq; nack_bitmap = bitmap_of s.next_recv_seq first last }

-- the same stream, expecting n
unfoldable pub expecting : StreamState → ℕ → StreamState
expecting s n =
    record { stream_id = s.stream_id; next_send_seq = s.next_send_seq; next_recv_seq = n; numbers = s.numbers; lengths = s.lengths }

-- "Best effort (stream 0) .. accepts all numbers. A reliable stream accepts only the expected one; after 65,535 comes 0."
unfoldable pub received_of : StreamState → ℕ → Received
received_of s n =
    cond (s.stream_id == 0) (record { accepted = true; state = s })
    (cond (n == s.next_recv_seq) (record { accepted = true; state = expecting s (plus n 1) })
    (record { accepted = false; state = s }))
