-- What an ACKNACK acknowledges and asks for, and the HEARTBEAT that says what is still held.
use Rattle.std.specs.Prelude.{ℕ, zero, suc, ◌-◌, ◌/◌, ◌%◌, ◌^◌, ◌≤◌, Bool, false, cond, List, [], ◌∷◌, ◌++◌, length, replicate, ◌==◌, count_ones, nat_lt, slice_index}
use Rattle.codec.specs.declared.submessages.HeartbeatPayload.{HeartbeatPayload}
use Rattle.streams.specs.declared.state.StreamState.{StreamState}
use Rattle.streams.specs.declared.acknowledged.Acknowledged.{Acknowledged}
use Rattle.streams.specs.Sequence.{plus, minus, seq_lt}
use Rattle.streams.specs.Places.{is_held}

-- "`process_acknack` drops held numbers before `first_unacked_seq`": their places are free, of length 0
unfoldable pub kept_length : ℕ → ℕ → ℕ → ℕ
kept_length number len first = cond (seq_lt number first) 0 len

unfoldable pub kept_at : StreamState → ℕ → ℕ → ℕ
kept_at s first i = kept_length (slice_index s.numbers i) (slice_index s.lengths i) first

-- the values of a function at k places from i on
unfoldable pub list_from : (ℕ → ℕ) → ℕ → ℕ → List ℕ
list_from f zero i = []
list_from f (suc k) i = f i ∷ list_from f k (suc i)

unfoldable pub sixteen : (ℕ → ℕ) → List ℕ
sixteen f = list_from f 16 0

unfoldable pub drop_before : StreamState → ℕ → StreamState
drop_before s first =
    record { stream_id = s.stream_id; next_send_seq = s.next_send_seq; next_recv_seq = s.next_recv_seq; numbers = s.numbers; lengths = sixteen (kept_at s first) }

-- whether a bit is set
abbrev pub bit_of : ℕ → ℕ → Bool
bit_of bitmap bit = bitmap / 2 ^ bit % 2 == 1

-- "then lists those still held whose bit is set, in bit order": the numbers of k bits from one on
unfoldable pub wanted : StreamState → ℕ → ℕ → ℕ → Bool
wanted s first bitmap bit = cond (bit_of bitmap bit) (is_held s (plus first bit)) false

unfoldable pub repeats_from : StreamState → ℕ → ℕ → ℕ → ℕ → List ℕ
repeats_from s first bitmap zero bit = []
repeats_from s first bitmap (suc k) bit =
    cond (wanted s first bitmap bit) (plus first bit ∷ repeats_from s first bitmap k (suc bit)) (repeats_from s first bitmap k (suc bit))

unfoldable pub repeats : StreamState → ℕ → ℕ → List ℕ
repeats s first bitmap = repeats_from s first bitmap 16 0

-- sixteen numbers, the list first and 0 behind it
unfoldable pub padded : List ℕ → List ℕ
padded l = l ++ replicate (16 - length l) 0

-- document 02, W5: "the stream layer's answer gives how many messages the bitmap asks for and how many were repeated"
unfoldable pub repeats_of : StreamState → ℕ → ℕ → Acknowledged
repeats_of s first bitmap =
    record { state = s; asked = count_ones bitmap; repeats = padded (repeats s first bitmap); count = length (repeats s first bitmap) }

-- first what is acknowledged is dropped, then what is still held is listed
unfoldable pub acknowledge : StreamState → ℕ → ℕ → Acknowledged
acknowledge s first bitmap = repeats_of (drop_before s first) first bitmap

-- document 01: "count of ones of the 16-bit nack bitmap, an upper bound for the repeats"
pub record UpperBound (a : Acknowledged) : Type 0 where
  pub repeats_most : a.count ≤ a.asked
  pub asked_most : a.asked ≤ 16

-- document 02, W2: "the greatest forward distance to the next to send": that of one more place, or the greatest so far; a free place has none
unfoldable pub further : ℕ → ℕ → ℕ → ℕ → ℕ
further next best number len = cond (len == 0) best (cond (nat_lt best (minus next number)) (minus next number) best)

-- the greatest distance of k places from i on, given the greatest so far
unfoldable pub furthest_from : StreamState → ℕ → ℕ → ℕ → ℕ
furthest_from s best zero i = best
furthest_from s best (suc k) i = furthest_from s (further s.next_send_seq best (slice_index s.numbers i) (slice_index s.lengths i)) k (suc i)

-- "The first number becomes the held one" at that distance; "or the next to send if none is held", which is at distance 0
unfoldable pub first_unacked : StreamState → ℕ
first_unacked s = minus s.next_send_seq (furthest_from s 0 16 0)

-- "and as last the number before the next to send"
unfoldable pub heartbeat_of : StreamState → HeartbeatPayload
heartbeat_of s = record { first_unacked_seq = first_unacked s; last_seq = minus s.next_send_seq 1 }
