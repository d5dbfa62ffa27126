-- "The agent's documented need is at most 1,048,576 × (`max_clients` + 1) bytes in all, records counted by their fields."
use Rattle.std.specs.Prelude.{ℕ, ◌+◌, ◌-◌, ◌*◌, Bool, false, cond, leb, Err, Ok, Result}
use Rattle.codec.specs.declared.refusals.Refusal.TheVariants.{OverLimit}
use Rattle.sessions.specs.declared.need.Need.{Need}
use Rattle.codec.specs.declared.refusals.Refusal.{Refusal}

-- "A session holds 32 objects and 8 streams, stream 0 included."
abbrev pub most_objects : ℕ
most_objects = 32

abbrev pub most_streams : ℕ
most_streams = 8

-- a row for each id, 0 to 255, and one for each stream and object that a session may hold
abbrev pub sessions_need : ℕ
sessions_need = 256

abbrev pub streams_need : ℕ
streams_need = sessions_need * most_streams

abbrev pub objects_need : ℕ
objects_need = sessions_need * most_objects

-- "A stream holds 16 unacknowledged messages of up to 1,024 bytes", and "Best effort (stream 0) records nothing": the bytes of one client, and of all
abbrev pub stream_bytes : ℕ
stream_bytes = 16 * 1024

abbrev pub slot_bytes : ℕ
slot_bytes = (most_streams - 1) * stream_bytes

abbrev pub held_need : ℕ → ℕ
held_need max = slot_bytes * max

-- W6: "A session has one store of 64 fragments with bodies up to 512 bytes": its slots, a length of 4 bytes for each, and one place for rebuilt bytes
abbrev pub most_fragments : ℕ
most_fragments = 64

abbrev pub most_body : ℕ
most_body = 512

abbrev pub store_bytes : ℕ
store_bytes = most_fragments * most_body

abbrev pub parts_need : ℕ → ℕ
parts_need max = store_bytes * max

abbrev pub lengths_need : ℕ → ℕ
lengths_need max = most_fragments * max

abbrev pub rebuilt_need : ℕ
rebuilt_need = store_bytes

-- W8: "Each weekday, 0 to 6" has "minutes of the day": a byte for each minute of the week
abbrev pub hours_need : ℕ
hours_need = 7 * 1440

-- a session is eight numbers of 8 bytes, a stream 35 numbers of 2 bytes, an object 2 + 1 + 1 + 4 + 2 bytes
abbrev pub need_of : ℕ → Need
need_of max =
    record { sessions = sessions_need; streams = streams_need; objects = objects_need; held = held_need max; parts = parts_need max; lengths = lengths_need max; rebuilt = rebuilt_need; hours = hours_need; bytes = sessions_need * (8 * 8) + streams_need * (35 * 2) + objects_need * (2 + 1 + 1 + 4 + 2) + rebuilt_need + hours_need + held_need max + parts_need max + 4 * lengths_need max }

-- 16: "`max_clients` over 255"
unfoldable pub needed_for : ℕ → Result Need Refusal
needed_for max = cond (leb max 255) (Ok (need_of max)) (Err OverLimit)

abbrev pub fragments_fit : ℕ → ℕ → ℕ → ℕ → Bool
fragments_fit parts lengths rebuilt max = cond (leb (parts_need max) parts) (cond (leb (lengths_need max) lengths) (leb rebuilt_need rebuilt) false) false

-- 16, "`max_clients` over 255, lent store under its documented need", of all seven stores of the sessions
unfoldable pub stores_fit : ℕ → ℕ → ℕ → ℕ → ℕ → ℕ → ℕ → ℕ → Bool
stores_fit sessions streams objects held parts lengths rebuilt max =
    cond (leb max 255)
    (cond (leb sessions_need sessions) (cond (leb streams_need streams) (cond (leb objects_need objects) (cond (leb (held_need max) held) (fragments_fit parts lengths rebuilt max) false) false) false) false)
    false
