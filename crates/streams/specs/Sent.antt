-- What a stream has sent: the next number, and the messages held until they are acknowledged.
use Rattle.std.specs.Prelude.{ℕ, ◌+◌, ◌-◌, ◌*◌, cond, not, List, [], length, take, drop, ◌==◌, nat_le, nat_lt, slice_index, slice_set, Err, None, Ok, Result, Some, Option}
use Rattle.codec.specs.Bytes.{put_at}
use Rattle.codec.specs.Answers.{Answer, gives, refusal}
use Rattle.codec.specs.declared.refusals.Refusal.TheVariants.{OverLimit, StoreFull}
use Rattle.streams.specs.declared.state.StreamState.{StreamState}
use Rattle.streams.specs.declared.sent.Allocated.{Allocated}
use Rattle.streams.specs.declared.sent.Recorded.{Recorded}
use Rattle.streams.specs.Sequence.{plus}
use Rattle.streams.specs.Places.{place_of, in_limits, place_for}
use Rattle.codec.specs.declared.refusals.Refusal.{Refusal}

-- the number to send next, and the stream with the one behind it; "after 65,535 comes 0"
unfoldable pub alloc_of : StreamState → Allocated
alloc_of s =
    record {
      seq = s.next_send_seq;
      state =
          record { stream_id = s.stream_id; next_send_seq = plus s.next_send_seq 1; next_recv_seq = s.next_recv_seq; numbers = s.numbers; lengths = s.lengths };
    }

-- "A stream holds 16 unacknowledged messages of up to 1,024 bytes": a lent buffer is at least that long
abbrev pub need : ℕ
need = 16384

-- Where a message of `len` bytes goes that is sent under n.
-- "Best effort (stream 0) records nothing, never gives 14": nothing of the buffer and of the places is looked at.
-- 16, "lent store under its documented need, or tables altered past a limit"; then 14, "17th held number; message over 1,024".
-- What is recorded is a finished message and no payload or string: 12 was given, if at all, where it was written.
unfoldable pub slot_for : StreamState → ℕ → ℕ → ℕ → Result (Option ℕ) Refusal
slot_for s n len room =
    cond (s.stream_id == 0) (Ok None)
    (cond (nat_lt room need) (Err OverLimit)
    (cond (not (in_limits s)) (Err OverLimit)
    (cond (nat_lt 1024 len) (Err StoreFull)
    (cond (nat_le 16 (place_for s n)) (Err StoreFull)
    (Ok (Some (place_for s n)))))))

-- the stream that holds n, of `len` bytes, at a place
unfoldable pub with_message : StreamState → ℕ → ℕ → ℕ → StreamState
with_message s place n len =
    record { stream_id = s.stream_id; next_send_seq = s.next_send_seq; next_recv_seq = s.next_recv_seq; numbers = slice_set s.numbers place n; lengths = slice_set s.lengths place (len + 1) }

-- a refusal changes no state, and no byte of the buffer
unfoldable pub record_at : Result (Option ℕ) Refusal → StreamState → ℕ → ℕ → StreamState
record_at (Ok (Some place)) s n len = with_message s place n len
record_at (Ok None) s n len = s
record_at (Err r) s n len = s

unfoldable pub record_of : StreamState → ℕ → ℕ → ℕ → Recorded
record_of s n len room = record { slot = slot_for s n len room; state = record_at (slot_for s n len room) s n len }

unfoldable pub bytes_at : Result (Option ℕ) Refusal → List ℕ → List ℕ → List ℕ
bytes_at (Ok (Some place)) message buffer = put_at buffer (place * 1024) message
bytes_at (Ok None) message buffer = buffer
bytes_at (Err r) message buffer = buffer

unfoldable pub record_bytes : StreamState → ℕ → List ℕ → List ℕ → List ℕ
record_bytes s n message buffer = bytes_at (slot_for s n (length message) (length buffer)) message buffer

-- the answer in document 01's numbers and values: the place, or none on best effort
abbrev pub slot_answer : Result (Option ℕ) Refusal → Answer (Option ℕ)
slot_answer (Ok (Some place)) = gives (Some place)
slot_answer (Ok None) = gives None
slot_answer (Err r) = refusal r

-- where the message n lies, and how long it is; 16 as above, of the one length that is used
unfoldable pub held_of : StreamState → ℕ → ℕ → Result (Option (ℕ × ℕ)) Refusal
held_of s n room =
    cond (nat_lt room need) (Err OverLimit)
    (cond (nat_le 16 (place_of s n)) (Ok None)
    (cond (nat_lt 1025 (slice_index s.lengths (place_of s n))) (Err OverLimit)
    (Ok (Some ((place_of s n), (slice_index s.lengths (place_of s n) - 1))))))

-- the message of a place as that part of the buffer
abbrev pub bytes_in : List ℕ → ℕ → ℕ → List ℕ
bytes_in buffer place len = take len (drop (place * 1024) buffer)

-- or an empty part, where there is none
unfoldable pub held_bytes : Result (Option (ℕ × ℕ)) Refusal → List ℕ → List ℕ
held_bytes (Ok (Some (place, len))) buffer = bytes_in buffer place len
held_bytes (Ok None) buffer = []
held_bytes (Err r) buffer = []

-- the place and the number of bytes, or none where the number isn't held
abbrev pub held_answer : Result (Option (ℕ × ℕ)) Refusal → Answer (Option (ℕ × ℕ))
held_answer (Ok (Some (place, len))) = gives (Some (place, len))
held_answer (Ok None) = gives None
held_answer (Err r) = refusal r
