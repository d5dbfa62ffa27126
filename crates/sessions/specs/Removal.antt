-- An object is taken out of its session's row, unless it has a dependant: W3, "DELETE of it .. keeps it".
use Rattle.std.specs.Prelude.{ℕ, ◌-◌, Bool, true, false, cond, List, eqb, get_or, set, length, Err, None, Ok, Option, Result, Some}
use Rattle.codec.specs.Submessages.{kind_byte}
use Rattle.codec.specs.declared.submessages.ObjectKind.TheVariants.{Participant, Topic}
use Rattle.codec.specs.declared.submessages.ObjectNumber.{ObjectNumber}
use Rattle.sessions.specs.Objects.{blank, object_place}
use Rattle.sessions.specs.SessionObjects.{object_row, with_object_row, used_of, keep_used, objects_named}
use Rattle.sessions.specs.View.{Entry, entry_of, listed, find_in, drop_in}
use Rattle.sessions.specs.Dependants.{dependant_in, has_dependant}
use Rattle.sessions.specs.declared.objects.Object.{Object}
use Rattle.sessions.specs.declared.objects.Taken.{Taken}
use Rattle.sessions.specs.declared.objects.Taken.TheVariants as taken
use Rattle.codec.specs.declared.refusals.Refusal.{Refusal}

-- ---- document 01's list of objects

abbrev pub remove_in : List Entry → ℕ → List Entry
remove_in es n = cond (has_dependant es (find_in es n)) es (drop_in es n)

-- ---- one row

-- the kinds that others may depend on
abbrev pub is_above : ℕ → Bool
is_above kind = cond (eqb kind (kind_byte Participant)) true (eqb kind (kind_byte Topic))

-- whether a record has a dependant among those in use
abbrev pub depended_in : List Object → ℕ → Object → Bool
depended_in row used o = dependant_in (listed used row) (entry_of o)

abbrev pub taken_of : List Object → ℕ → Option ℕ → Result Taken Refusal
taken_of row used (Some i) = cond (depended_in row used (get_or row i blank)) (Ok taken.Depended) (Ok (taken.Gone (get_or row i blank)))
taken_of row used None = (Ok taken.Nothing)

-- the last record in use moves into the place of the one that goes
abbrev pub removed_row : List Object → ℕ → Option ℕ → List Object
removed_row row used (Some i) = cond (depended_in row used (get_or row i blank)) row (set row i (get_or row (used - 1) blank))
removed_row row used None = row

-- ---- by the session's id; an id that is not live has no objects

abbrev pub taken_by : Result Bool Refusal → List (List ℕ) → List Object → ℕ → ObjectNumber → Result Taken Refusal
taken_by (Ok true) sessions objects id n = taken_of (object_row objects id) (used_of sessions id) (object_place (object_row objects id) (used_of sessions id) n)
taken_by (Ok false) sessions objects id n = (Ok taken.Nothing)
taken_by (Err r) sessions objects id n = Err r

unfoldable pub taken_object : List (List ℕ) → List Object → ℕ → ObjectNumber → Result Taken Refusal
taken_object sessions objects id n = taken_by (objects_named sessions (length objects) id) sessions objects id n

abbrev pub removed_in : Result Bool Refusal → List (List ℕ) → List Object → ℕ → ObjectNumber → List Object
removed_in (Ok true) sessions objects id n =
    with_object_row objects id (removed_row (object_row objects id) (used_of sessions id) (object_place (object_row objects id) (used_of sessions id) n))
removed_in (Ok false) sessions objects id n = objects
removed_in (Err r) sessions objects id n = objects

unfoldable pub removed_objects : List (List ℕ) → List Object → ℕ → ObjectNumber → List Object
removed_objects sessions objects id n = removed_in (objects_named sessions (length objects) id) sessions objects id n

abbrev pub keep_removed : List (List ℕ) → ℕ → Result Taken Refusal → List (List ℕ)
keep_removed sessions id (Ok (taken.Gone o)) = keep_used sessions id (used_of sessions id - 1)
keep_removed sessions id (Ok taken.Depended) = sessions
keep_removed sessions id (Ok taken.Nothing) = sessions
keep_removed sessions id (Err r) = sessions

-- whether a session's object has a dependant
abbrev pub depended_by : Result Bool Refusal → List (List ℕ) → List Object → ℕ → Object → Bool
depended_by (Ok true) sessions objects id o = depended_in (object_row objects id) (used_of sessions id) o
depended_by (Ok false) sessions objects id o = false
depended_by (Err r) sessions objects id o = false

unfoldable pub depended_object : List (List ℕ) → List Object → ℕ → Object → Bool
depended_object sessions objects id o = depended_by (objects_named sessions (length objects) id) sessions objects id o

-- the same of the object that was looked for, if it was found
abbrev pub depended_found : List (List ℕ) → List Object → ℕ → Result (Option Object) Refusal → Bool
depended_found sessions objects id (Ok (Some o)) = depended_object sessions objects id o
depended_found sessions objects id (Ok None) = false
depended_found sessions objects id (Err r) = false
