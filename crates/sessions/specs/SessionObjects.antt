-- The objects of a session, by its id: 32 records a session, in one lent store.
use Rattle.std.specs.Prelude.{ℕ, ◌+◌, ◌*◌, List, [], ◌∷◌, ◌++◌, length, take, drop, Bool, Err, None, Ok, Option, Result, false, true}
use Rattle.codec.specs.declared.submessages.ObjectNumber.{ObjectNumber}
use Rattle.sessions.specs.Need.{most_objects, objects_need}
use Rattle.sessions.specs.Table.{session_at, keep_session, reached_of}
use Rattle.sessions.specs.Objects.{object_place, found_of, stored_of, stored_row}
use Rattle.sessions.specs.declared.objects.Object.{Object}
use Rattle.sessions.specs.declared.objects.Stored.{Stored}
use Rattle.sessions.specs.declared.objects.Stored.TheVariants as stored
use Rattle.sessions.specs.declared.table.ClientSession.{ClientSession}
use Rattle.codec.specs.declared.refusals.Refusal.{Refusal}

-- ---- a session's row

abbrev pub first_object : ℕ → ℕ
first_object id = most_objects * id

-- its records, and the store with others in their place
unfoldable pub object_row : List Object → ℕ → List Object
object_row objects id = take most_objects (drop (first_object id) objects)

unfoldable pub with_object_row : List Object → ℕ → List Object → List Object
with_object_row objects id row = take (first_object id) objects ++ (row ++ drop (first_object id + most_objects) objects)

-- how many are in use
abbrev pub used_of : List (List ℕ) → ℕ → ℕ
used_of sessions id = (session_at sessions id).objects

abbrev pub counted_session : ClientSession → ℕ → ClientSession
counted_session s n = record { live = s.live; client_key = s.client_key; last_activity = s.last_activity; objects = n; streams = s.streams; slot = s.slot; total = s.total; received = s.received }

abbrev pub keep_used : List (List ℕ) → ℕ → ℕ → List (List ℕ)
keep_used sessions id n = keep_session sessions id (counted_session (session_at sessions id) n)

-- "A session holds 32 objects", for each of 256 ids
unfoldable pub objects_named : List (List ℕ) → ℕ → ℕ → Result Bool Refusal
objects_named sessions objects id = reached_of sessions id (used_of sessions id) most_objects objects objects_need

-- ---- find; an id that is not live has no objects

abbrev pub found_by : Result Bool Refusal → List (List ℕ) → List Object → ℕ → ObjectNumber → Result (Option Object) Refusal
found_by (Ok true) sessions objects id n = found_of (object_row objects id) (object_place (object_row objects id) (used_of sessions id) n)
found_by (Ok false) sessions objects id n = (Ok None)
found_by (Err r) sessions objects id n = Err r

unfoldable pub found_object : List (List ℕ) → List Object → ℕ → ObjectNumber → Result (Option Object) Refusal
found_object sessions objects id n = found_by (objects_named sessions (length objects) id) sessions objects id n

-- ---- put

abbrev pub stored_by : Result Bool Refusal → List (List ℕ) → List Object → ℕ → Object → Result Stored Refusal
stored_by (Ok true) sessions objects id o = stored_of (object_row objects id) (used_of sessions id) o
stored_by (Ok false) sessions objects id o = (Ok stored.NotLive)
stored_by (Err r) sessions objects id o = Err r

unfoldable pub stored_object : List (List ℕ) → List Object → ℕ → Object → Result Stored Refusal
stored_object sessions objects id o = stored_by (objects_named sessions (length objects) id) sessions objects id o

abbrev pub stored_in : Result Bool Refusal → List (List ℕ) → List Object → ℕ → Object → List Object
stored_in (Ok true) sessions objects id o = with_object_row objects id (stored_row (object_row objects id) (used_of sessions id) o)
stored_in (Ok false) sessions objects id o = objects
stored_in (Err r) sessions objects id o = objects

unfoldable pub stored_objects : List (List ℕ) → List Object → ℕ → Object → List Object
stored_objects sessions objects id o = stored_in (objects_named sessions (length objects) id) sessions objects id o

-- the count that the answer gives is kept
abbrev pub keep_stored : List (List ℕ) → ℕ → Result Stored Refusal → List (List ℕ)
keep_stored sessions id (Ok (stored.Count n)) = keep_used sessions id n
keep_stored sessions id (Ok stored.Full) = sessions
keep_stored sessions id (Ok stored.NotLive) = sessions
keep_stored sessions id (Err r) = sessions
