-- The fragments of a session over the lent stores (document 02, W6): slots and lengths lie by the session's slot, as `ReassemblyBuffer` has them, and
-- the bytes that a fragment completes are assembled in their own place.
use Rattle.std.specs.Prelude.{ℕ, suc, ◌*◌, Bool, true, false, cond, List, eqb, leb, length, Err, Ok, Result}
use Rattle.codec.specs.Reassembly.{over_limit, new_of, new_lengths, insert_of, insert_slots, insert_lengths, assemble_of, assemble_out}
use Rattle.codec.specs.declared.reassembly.ReassemblyBuffer.{ReassemblyBuffer}
use Rattle.codec.specs.declared.refusals.Refusal.TheVariants.{OverLimit}
use Rattle.sessions.specs.Need.{most_fragments, most_body, store_bytes}
use Rattle.sessions.specs.Table.{session_at, keep_session, named_of}
use Rattle.sessions.specs.FragmentStore.{allowed}
use Rattle.sessions.specs.Sending.{buffer_in, with_buffer}
use Rattle.sessions.specs.declared.fragments.Gathered.{Gathered}
use Rattle.sessions.specs.declared.fragments.Gathered.TheVariants.{Nothing, Held, Whole}
use Rattle.sessions.specs.declared.sending.Stretch.{Stretch}
use Rattle.sessions.specs.declared.table.ClientSession.{ClientSession}
use Rattle.codec.specs.declared.refusals.Refusal.{Refusal}

-- ---- where a slot's part of a store stands: `width` entries for each slot; none where the store is too short for it

abbrev pub slot_stretch : ℕ → ℕ → ℕ → Stretch
slot_stretch width slot store =
    cond (cond (leb slot 255) (leb (width * suc slot) store) false)
    (record { start = width * slot; end = width * suc slot })
    (record { start = 0; end = 0 })

abbrev pub parts_stretch : ClientSession → ℕ → Stretch
parts_stretch s parts = slot_stretch store_bytes s.slot parts

abbrev pub lengths_stretch : ClientSession → ℕ → Stretch
lengths_stretch s lengths = slot_stretch most_fragments s.slot lengths

-- ---- the session's store

abbrev pub buffer_with : ℕ → ℕ → ReassemblyBuffer
buffer_with total received = record { total_fragments = total; received_count = received; width = most_body }

-- the one that a fragment goes into: "A fragment with another total empties the store first."
abbrev pub kept_store : ClientSession → ℕ → Result ReassemblyBuffer Refusal
kept_store s total = cond (leb s.received most_fragments) (Ok (buffer_with total s.received)) (Err OverLimit)

unfoldable pub store_for : ClientSession → ℕ → List ℕ → List ℕ → Result ReassemblyBuffer Refusal
store_for s total parts lengths = cond (eqb s.total total) (kept_store s total) (new_of total most_body parts lengths)

unfoldable pub lengths_for : ClientSession → ℕ → List ℕ → List ℕ → List ℕ
lengths_for s total parts lengths = cond (eqb s.total total) lengths (new_lengths total most_body parts lengths)

-- 16 of it: "or tables altered past a limit"
abbrev pub fragments_over : ClientSession → ℕ → List ℕ → Bool
fragments_over s parts lengths = over_limit (buffer_with s.total s.received) parts lengths

-- ---- a fragment, over the session's own part of the stores: what it comes to, and what it leaves

-- "When the last missing number comes, .. the rebuilt bytes": in their place, or kept as it is where they cannot be assembled
abbrev pub assembled_as : Result ℕ Refusal → ReassemblyBuffer → Gathered
assembled_as (Ok n) b = Whole n
assembled_as (Err r) b = Held b

abbrev pub gathered_by : Result (ReassemblyBuffer × Bool) Refusal → List ℕ → List ℕ → List ℕ → Gathered
gathered_by (Ok (b, all)) parts lengths rebuilt = cond all (assembled_as (assemble_of b parts lengths rebuilt) b) (Held b)
gathered_by (Err r) parts lengths rebuilt = Nothing

abbrev pub rebuilt_by : Result (ReassemblyBuffer × Bool) Refusal → List ℕ → List ℕ → List ℕ → List ℕ
rebuilt_by (Ok (b, all)) parts lengths rebuilt = cond all (assemble_out b parts lengths rebuilt) rebuilt
rebuilt_by (Err r) parts lengths rebuilt = rebuilt

abbrev pub gathered_with : Result ReassemblyBuffer Refusal → List ℕ → List ℕ → List ℕ → ℕ → List ℕ → Gathered
gathered_with (Ok b) parts lengths rebuilt nr body =
    gathered_by (insert_of b parts lengths nr body) (insert_slots b parts lengths nr body) (insert_lengths b parts lengths nr body) rebuilt
gathered_with (Err r) parts lengths rebuilt nr body = Nothing

abbrev pub parts_with : Result ReassemblyBuffer Refusal → List ℕ → List ℕ → ℕ → List ℕ → List ℕ
parts_with (Ok b) parts lengths nr body = insert_slots b parts lengths nr body
parts_with (Err r) parts lengths nr body = parts

abbrev pub lengths_with : Result ReassemblyBuffer Refusal → List ℕ → List ℕ → ℕ → List ℕ → List ℕ
lengths_with (Ok b) parts lengths nr body = insert_lengths b parts lengths nr body
lengths_with (Err r) parts lengths nr body = lengths

abbrev pub rebuilt_with : Result ReassemblyBuffer Refusal → List ℕ → List ℕ → List ℕ → ℕ → List ℕ → List ℕ
rebuilt_with (Ok b) parts lengths rebuilt nr body =
    rebuilt_by (insert_of b parts lengths nr body) (insert_slots b parts lengths nr body) (insert_lengths b parts lengths nr body) rebuilt
rebuilt_with (Err r) parts lengths rebuilt nr body = rebuilt

unfoldable pub gathered_in : ClientSession → List ℕ → List ℕ → List ℕ → ℕ → ℕ → List ℕ → Gathered
gathered_in s parts lengths rebuilt nr total body =
    gathered_with (store_for s total parts lengths) parts (lengths_for s total parts lengths) rebuilt nr body

unfoldable pub parts_after : ClientSession → List ℕ → List ℕ → ℕ → ℕ → List ℕ → List ℕ
parts_after s parts lengths nr total body = parts_with (store_for s total parts lengths) parts (lengths_for s total parts lengths) nr body

unfoldable pub lengths_after : ClientSession → List ℕ → List ℕ → ℕ → ℕ → List ℕ → List ℕ
lengths_after s parts lengths nr total body = lengths_with (store_for s total parts lengths) parts (lengths_for s total parts lengths) nr body

unfoldable pub rebuilt_after : ClientSession → List ℕ → List ℕ → List ℕ → ℕ → ℕ → List ℕ → List ℕ
rebuilt_after s parts lengths rebuilt nr total body =
    rebuilt_with (store_for s total parts lengths) parts (lengths_for s total parts lengths) rebuilt nr body

-- the session with its store: "When the last missing number comes, the store is emptied"
abbrev pub stored_session : ClientSession → ℕ → ℕ → ClientSession
stored_session s total received =
    record { live = s.live; client_key = s.client_key; last_activity = s.last_activity; objects = s.objects; streams = s.streams; slot = s.slot; total = total; received = received }

abbrev pub gathered_session : ClientSession → Gathered → ClientSession
gathered_session s Nothing = s
gathered_session s (Held b) = stored_session s b.total_fragments b.received_count
gathered_session s (Whole n) = stored_session s 0 0

-- ---- over the lent stores: a fragment that is allowed, of a session that is live; any other changes nothing

abbrev pub is_live : Result Bool Refusal → Bool
is_live (Ok true) = true
is_live (Ok false) = false
is_live (Err r) = false

abbrev pub takes : List (List ℕ) → ℕ → ℕ → ℕ → ℕ → Bool
takes sessions id nr total len = cond (is_live (named_of sessions id)) (allowed nr total len) false

abbrev pub own_parts : List (List ℕ) → List ℕ → ℕ → List ℕ
own_parts sessions parts id = buffer_in parts (parts_stretch (session_at sessions id) (length parts))

abbrev pub own_lengths : List (List ℕ) → List ℕ → ℕ → List ℕ
own_lengths sessions lengths id = buffer_in lengths (lengths_stretch (session_at sessions id) (length lengths))

unfoldable pub gathered : List (List ℕ) → List ℕ → List ℕ → List ℕ → ℕ → ℕ → ℕ → List ℕ → Gathered
gathered sessions parts lengths rebuilt id nr total body =
    cond (takes sessions id nr total (length body))
    (gathered_in (session_at sessions id) (own_parts sessions parts id) (own_lengths sessions lengths id) rebuilt nr total body)
    Nothing

unfoldable pub gathered_rows : List (List ℕ) → List ℕ → List ℕ → List ℕ → ℕ → ℕ → ℕ → List ℕ → List (List ℕ)
gathered_rows sessions parts lengths rebuilt id nr total body =
    cond (takes sessions id nr total (length body))
    (keep_session sessions id (gathered_session (session_at sessions id) (gathered sessions parts lengths rebuilt id nr total body)))
    sessions

unfoldable pub gathered_parts : List (List ℕ) → List ℕ → List ℕ → ℕ → ℕ → ℕ → List ℕ → List ℕ
gathered_parts sessions parts lengths id nr total body =
    cond (takes sessions id nr total (length body))
    (with_buffer parts (parts_stretch (session_at sessions id) (length parts)) (parts_after (session_at sessions id) (own_parts sessions parts id) (own_lengths sessions lengths id) nr total body))
    parts

unfoldable pub gathered_lengths : List (List ℕ) → List ℕ → List ℕ → ℕ → ℕ → ℕ → List ℕ → List ℕ
gathered_lengths sessions parts lengths id nr total body =
    cond (takes sessions id nr total (length body))
    (with_buffer lengths (lengths_stretch (session_at sessions id) (length lengths)) (lengths_after (session_at sessions id) (own_parts sessions parts id) (own_lengths sessions lengths id) nr total body))
    lengths

unfoldable pub gathered_rebuilt : List (List ℕ) → List ℕ → List ℕ → List ℕ → ℕ → ℕ → ℕ → List ℕ → List ℕ
gathered_rebuilt sessions parts lengths rebuilt id nr total body =
    cond (takes sessions id nr total (length body))
    (rebuilt_after (session_at sessions id) (own_parts sessions parts id) (own_lengths sessions lengths id) rebuilt nr total body)
    rebuilt
