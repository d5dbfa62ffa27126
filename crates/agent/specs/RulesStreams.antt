-- HEARTBEAT and ACKNACK, on the tables of a session that was just touched. `stream` is the header's.
use Rattle.std.specs.Prelude.{ℕ, cond, List, [], ◌∷◌, eqb, Option, None, Some}
use Rattle.streams.specs.Received.{bitmap_of}
use Rattle.streams.specs.View.{repeated_in}
use Rattle.isolation.specs.Rules.{Bytes, done}
use Rattle.sessions.specs.View.{KeptStream, Local, stream_in}
use Rattle.agent.specs.Local.{opening, acknowledging}
use Rattle.moves.specs.Replies.{acknack_bytes}
use Rattle.agent.specs.RulesObjects.{Move}

-- "HEARTBEAT answers ACKNACK": `make_acknack` of its stream; "A ninth stream gets no reply."
abbrev pub acknack_from : ℕ → ℕ → ℕ → Option KeptStream → List Bytes
acknack_from session first last (Some k) = acknack_bytes session k.number k.expected (bitmap_of k.expected first last) ∷ []
acknack_from session first last None = []

abbrev pub on_heartbeat : ℕ → ℕ → ℕ → Local → Move
on_heartbeat stream first last l = let o = opening stream l in done o (acknack_from o.id first last (stream_in o.streams stream))

-- W5: "An ACKNACK is answered by the listed messages, byte for byte, in bit order", on streams other than 0
abbrev pub repeats_from : ℕ → ℕ → ℕ → Option KeptStream → List Bytes
repeats_from stream first bitmap None = []
repeats_from stream first bitmap (Some k) = cond (eqb stream 0) [] (repeated_in k.held first bitmap)

abbrev pub on_acknack : ℕ → ℕ → ℕ → Local → Move
on_acknack stream first bitmap l =
    let o = acknowledging stream first (opening stream l) in done o (repeats_from stream first bitmap (stream_in o.streams stream))
