-- 16 of one session: "Given others, a call still answers, or refuses as 16, right after 15, where a count, length or place in them exceeds its limit."
use Rattle.std.specs.Prelude.{ℕ, Bool, true, false, cond, not, List, eqb, leb, ltb, get_or, length, Err, Ok, Result}
use Rattle.codec.specs.declared.refusals.Refusal.TheVariants.{OverLimit}
use Rattle.sessions.specs.Need.{most_objects, most_streams, most_fragments, stores_fit}
use Rattle.sessions.specs.Sending.{room_of}
use Rattle.sessions.specs.Fragments.{parts_stretch, fragments_over, own_lengths}
use Rattle.streams.specs.Places.{first_place, within, in_limits}
use Rattle.sessions.specs.Table.{session_at}
use Rattle.sessions.specs.SessionStreams.{stream_place, state_at}
use Rattle.sessions.specs.declared.objects.Object.{Object}
use Rattle.sessions.specs.declared.table.ClientSession.{ClientSession}
use Rattle.codec.specs.declared.refusals.Refusal.{Refusal}

-- "A session holds 32 objects and 8 streams, stream 0 included."
abbrev pub counts_kept : ClientSession → Bool
counts_kept s = cond (leb s.objects most_objects) (leb s.streams most_streams) false

-- W5: a live session's slot is one of `max_clients`
abbrev pub slot_kept : ClientSession → ℕ → Bool
slot_kept s max = cond (eqb s.live 0) true (ltb s.slot max)

-- a length past that of 1,024 bytes, as `in_limits` looks at each of a stream's sixteen
abbrev pub over_long : ℕ → Bool
over_long len = within len 1026 65535

abbrev pub lengths_short : List ℕ → Bool
lengths_short lengths = leb 16 (first_place (λ i. over_long (get_or lengths i 0)))

-- "messages of up to 1,024 bytes", of what the stream of that number holds; stream 0 holds nothing
abbrev pub lengths_kept : List (List ℕ) → List (List ℕ) → ℕ → ℕ → Bool
lengths_kept sessions streams id n = cond (eqb n 0) true (in_limits (state_at (stream_place sessions streams id n) streams id))

-- W6: "A session has one store of 64 fragments with bodies up to 512 bytes"
abbrev pub fragments_kept : ClientSession → ℕ → List ℕ → Bool
fragments_kept s parts lengths =
    cond (eqb s.total 0) (eqb s.received 0)
    (cond (leb s.total most_fragments) (cond (leb s.received s.total) (not (fragments_over s parts lengths)) false) false)

abbrev pub store_kept : List (List ℕ) → ℕ → List ℕ → ℕ → Bool
store_kept sessions parts lengths id =
    let s = session_at sessions id in fragments_kept s (room_of (parts_stretch s parts)) (own_lengths sessions lengths id)

abbrev pub rows_kept : List (List ℕ) → List (List ℕ) → ℕ → List ℕ → ℕ → ℕ → ℕ → Bool
rows_kept sessions streams parts lengths max id n =
    let s = session_at sessions id in
    cond (counts_kept s) (cond (slot_kept s max) (cond (store_kept sessions parts lengths id) (lengths_kept sessions streams id n) false) false) false

abbrev pub limits_from : List (List ℕ) → List (List ℕ) → ℕ → List ℕ → ℕ → ℕ → ℕ → Result (Unit {0}) Refusal
limits_from sessions streams parts lengths max id n = cond (rows_kept sessions streams parts lengths max id n) (Ok tt) (Err OverLimit)

-- the stores; of the session that a call names, live or not, the counts and the fragments; and the stream that it names
unfoldable pub limits_of : List (List ℕ) → List (List ℕ) → List Object → ℕ → ℕ → List ℕ → ℕ → ℕ → ℕ → ℕ → Result (Unit {0}) Refusal
limits_of sessions streams objects held parts lengths rebuilt max id n =
    cond (stores_fit (length sessions) (length streams) (length objects) held parts (length lengths) rebuilt max)
    (limits_from sessions streams parts lengths max id n) (Err OverLimit)
