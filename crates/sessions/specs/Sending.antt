-- Held messages over the lent tables, document 02, W5: "On streams other than 0 each DATA reply now takes the next send sequence in its header and is
-- held"; what is asked for again is read back "byte for byte".
use Rattle.std.specs.Prelude.{ℕ, ◌+◌, ◌-◌, ◌*◌, Bool, false, cond, List, [], ◌++◌, eqb, leb, length, take, drop, Err, None, Ok, Option, Result, Some}
use Rattle.streams.specs.Sent.{alloc_of, slot_for, record_of, record_bytes, held_of, held_bytes}
use Rattle.streams.specs.declared.state.StreamState.{StreamState}
use Rattle.streams.specs.declared.sent.Recorded.{Recorded}
use Rattle.sessions.specs.Need.{stream_bytes, slot_bytes}
use Rattle.sessions.specs.Table.{session_at}
use Rattle.sessions.specs.Streams.{stream_at, keep_stream, first_stream}
use Rattle.sessions.specs.SessionStreams.{stream_place}
use Rattle.sessions.specs.declared.sending.Stretch.{Stretch}
use Rattle.sessions.specs.declared.session_streams.StreamPlace.{StreamPlace}
use Rattle.sessions.specs.declared.session_streams.StreamPlace.TheVariants.{Have, Add, Full, NotLive}
use Rattle.codec.specs.declared.refusals.Refusal.{Refusal}

-- ---- where the buffer of a stream stands, by its session's slot and its place among the session's streams

-- the first place is stream 0's, which has none; nor has a slot that the store is too short for
abbrev pub has_buffer : ℕ → ℕ → ℕ → Bool
has_buffer slot k held = cond (eqb k 0) false (cond (leb slot 255) (leb (slot_bytes * slot + stream_bytes * k) held) false)

abbrev pub stretch_of : ℕ → ℕ → ℕ → Stretch
stretch_of slot k held =
    cond (has_buffer slot k held)
    (record { start = slot_bytes * slot + stream_bytes * (k - 1); end = slot_bytes * slot + stream_bytes * k })
    (record { start = 0; end = 0 })

abbrev pub room_of : Stretch → ℕ
room_of b = b.end - b.start

-- the buffer, and the store with another in its place
unfoldable pub buffer_in : List ℕ → Stretch → List ℕ
buffer_in held b = take (room_of b) (drop b.start held)

unfoldable pub with_buffer : List ℕ → Stretch → List ℕ → List ℕ
with_buffer held b buffer = take b.start held ++ (buffer ++ drop (room_of b) (drop b.start held))

-- ---- a DATA reply that is held: what `record_sent` answers for it under the stream's next number

abbrev pub next_slot : StreamState → ℕ → ℕ → Result (Option ℕ) Refusal
next_slot s len room = slot_for s s.next_send_seq len room

abbrev pub stretch_at : List (List ℕ) → ℕ → ℕ → ℕ → Stretch
stretch_at sessions held id k = stretch_of (session_at sessions id).slot k held

-- the same of the stream of that number; none where it is not open
abbrev pub stretch_by : Result StreamPlace Refusal → List (List ℕ) → ℕ → ℕ → Stretch
stretch_by (Ok (Have k)) sessions held id = stretch_at sessions held id k
stretch_by (Ok (Add k)) sessions held id = record { start = 0; end = 0 }
stretch_by (Ok Full) sessions held id = record { start = 0; end = 0 }
stretch_by (Ok NotLive) sessions held id = record { start = 0; end = 0 }
stretch_by (Err r) sessions held id = record { start = 0; end = 0 }

unfoldable pub buffer_stretch : List (List ℕ) → List (List ℕ) → ℕ → ℕ → ℕ → Stretch
buffer_stretch sessions streams held id n = stretch_by (stream_place sessions streams id n) sessions held id

abbrev pub data_slot_at : Result StreamPlace Refusal → List (List ℕ) → List (List ℕ) → ℕ → ℕ → ℕ → Result (Option ℕ) Refusal
data_slot_at (Ok (Have k)) sessions streams held id len = next_slot (stream_at streams (first_stream id + k)) len (room_of (stretch_at sessions held id k))
data_slot_at (Ok (Add k)) sessions streams held id len = (Ok None)
data_slot_at (Ok Full) sessions streams held id len = (Ok None)
data_slot_at (Ok NotLive) sessions streams held id len = (Ok None)
data_slot_at (Err r) sessions streams held id len = Err r

unfoldable pub data_slot : List (List ℕ) → List (List ℕ) → ℕ → ℕ → ℕ → ℕ → Result (Option ℕ) Refusal
data_slot sessions streams held id n len = data_slot_at (stream_place sessions streams id n) sessions streams held id len

-- where it is recorded the number is taken; else nothing changes
abbrev pub sent_row : Result (Option ℕ) Refusal → List (List ℕ) → ℕ → StreamState → List (List ℕ)
sent_row (Ok (Some i)) streams at s = keep_stream streams at (alloc_of s).state
sent_row (Ok None) streams at s = streams
sent_row (Err r) streams at s = streams

abbrev pub kept_sent : List (List ℕ) → ℕ → Recorded → List (List ℕ)
kept_sent streams at r = sent_row r.slot streams at r.state

-- the rows where the stream of row `at` sends a message, and the store
abbrev pub sent_rows : List (List ℕ) → ℕ → ℕ → ℕ → List (List ℕ)
sent_rows streams at len room = let s = stream_at streams at in kept_sent streams at (record_of s s.next_send_seq len room)

abbrev pub sent_bytes : List ℕ → Stretch → StreamState → List ℕ → List ℕ
sent_bytes held b s message = with_buffer held b (record_bytes s s.next_send_seq message (buffer_in held b))

abbrev pub sent_streams_at : Result StreamPlace Refusal → List (List ℕ) → List (List ℕ) → List ℕ → ℕ → List ℕ → List (List ℕ)
sent_streams_at (Ok (Have k)) sessions streams held id message =
    sent_rows streams (first_stream id + k) (length message) (room_of (stretch_at sessions (length held) id k))
sent_streams_at (Ok (Add k)) sessions streams held id message = streams
sent_streams_at (Ok Full) sessions streams held id message = streams
sent_streams_at (Ok NotLive) sessions streams held id message = streams
sent_streams_at (Err r) sessions streams held id message = streams

abbrev pub sent_held_at : Result StreamPlace Refusal → List (List ℕ) → List (List ℕ) → List ℕ → ℕ → List ℕ → List ℕ
sent_held_at (Ok (Have k)) sessions streams held id message =
    sent_bytes held (stretch_at sessions (length held) id k) (stream_at streams (first_stream id + k)) message
sent_held_at (Ok (Add k)) sessions streams held id message = held
sent_held_at (Ok Full) sessions streams held id message = held
sent_held_at (Ok NotLive) sessions streams held id message = held
sent_held_at (Err r) sessions streams held id message = held

unfoldable pub sent_streams : List (List ℕ) → List (List ℕ) → List ℕ → ℕ → ℕ → List ℕ → List (List ℕ)
sent_streams sessions streams held id n message = sent_streams_at (stream_place sessions streams id n) sessions streams held id message

unfoldable pub sent_held : List (List ℕ) → List (List ℕ) → List ℕ → ℕ → ℕ → List ℕ → List ℕ
sent_held sessions streams held id n message = sent_held_at (stream_place sessions streams id n) sessions streams held id message

-- ---- a message that is held, as that part of the store; none is an empty part

abbrev pub message_at : Result StreamPlace Refusal → List (List ℕ) → List (List ℕ) → List ℕ → ℕ → ℕ → List ℕ
message_at (Ok (Have k)) sessions streams held id seq =
    let buffer = buffer_in held (stretch_at sessions (length held) id k) in
    held_bytes (held_of (stream_at streams (first_stream id + k)) seq (length buffer)) buffer
message_at (Ok (Add k)) sessions streams held id seq = []
message_at (Ok Full) sessions streams held id seq = []
message_at (Ok NotLive) sessions streams held id seq = []
message_at (Err r) sessions streams held id seq = []

unfoldable pub message_of : List (List ℕ) → List (List ℕ) → List ℕ → ℕ → ℕ → ℕ → List ℕ
message_of sessions streams held id n seq = message_at (stream_place sessions streams id n) sessions streams held id seq
