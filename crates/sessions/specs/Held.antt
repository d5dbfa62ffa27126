-- The bytes of held messages, by slot: "16 unacknowledged messages of up to 1,024 bytes" for each of a session's streams but stream 0.
use Rattle.std.specs.Prelude.{ℕ, ◌-◌, ◌*◌, cond, List, [], eqb, take, drop}
use Rattle.sessions.specs.Need.{stream_bytes, slot_bytes}
use Rattle.sessions.specs.declared.table.ClientSession.{ClientSession}

-- the part of a slot
unfoldable pub slot_part : List ℕ → ℕ → List ℕ
slot_part held slot = take slot_bytes (drop (slot_bytes * slot) held)

-- the part of a session, by its slot; one that is not live has none
abbrev pub held_part : List ℕ → ClientSession → List ℕ
held_part held s = cond (eqb s.live 0) [] (slot_part held s.slot)

-- the buffer of the stream at a place among its session's: stream 0 has place 0 and no buffer
unfoldable pub buffer_at : List ℕ → ℕ → List ℕ
buffer_at part k = cond (eqb k 0) [] (take stream_bytes (drop (stream_bytes * (k - 1)) part))
