-- The objects of one session: a row of records, of which the first are in use.
use Rattle.std.specs.Prelude.{ℕ, zero, suc, ◌+◌, ◌<◌, ◌≡◌, ◌≢◌, Bool, cond, List, eqb, ltb, get_or, set, length, None, Ok, Option, Result, Some}
use Rattle.codec.specs.declared.submessages.ObjectNumber.{ObjectNumber}
use Rattle.sessions.specs.declared.objects.Handle.{Handle}
use Rattle.sessions.specs.declared.objects.Object.{Object}
use Rattle.sessions.specs.declared.objects.Stored.{Stored}
use Rattle.sessions.specs.declared.objects.Stored.TheVariants.{Count, Full}
use Rattle.codec.specs.declared.refusals.Refusal.{Refusal}

-- ---- one record

-- what stands past the end of a row
abbrev pub blank : Object
blank = record { number = record { 0 = 0 }; kind = 0; bridged = 0; handle = 0; parent = 0 }

-- An object that the bridge made, and "Publishers and Subscribers have no bridge handle"; W1: "every object record .. holds its CREATE's
-- parent number".
abbrev pub bridged_of : ObjectNumber → ℕ → Handle → ℕ → Object
bridged_of n k h p = record { number = n; kind = k; bridged = 1; handle = h.0; parent = p }

abbrev pub implicit_of : ObjectNumber → ℕ → ℕ → Object
implicit_of n k p = record { number = n; kind = k; bridged = 0; handle = 0; parent = p }

-- the handle, or none
abbrev pub handle_of : Object → Option Handle
handle_of o = cond (eqb o.bridged 0) None (Some (record { 0 = o.handle }))

-- ---- the row: the records in use are the first `used`

abbrev pub is_numbered : Object → ObjectNumber → Bool
is_numbered o n = eqb o.number.0 n.0

-- W4: "The search for an object number shall go down from the last record in use."
abbrev pub object_place : List Object → ℕ → ObjectNumber → Option ℕ
object_place row zero n = None
object_place row (suc i) n = cond (is_numbered (get_or row i blank) n) (Some i) (object_place row i n)

-- W4: "In any lent row within its limits it finds the last record in use with that number, and none exactly if there is none."
abbrev pub LastOf : List Object → ℕ → ObjectNumber → Option ℕ → Type 0
LastOf row used n (Some i) = (i < used) × ((get_or row i blank).number.0 ≡ n.0) × ((j : ℕ) → i < j → j < used → (get_or row j blank).number.0 ≢ n.0)
LastOf row used n None = (j : ℕ) → j < used → (get_or row j blank).number.0 ≢ n.0

abbrev pub found_of : List Object → Option ℕ → Result (Option Object) Refusal
found_of row (Some i) = Ok (Some (get_or row i blank))
found_of row None = (Ok None)

-- a record is stored "in place of one of that number", else behind the last
abbrev pub slot_of : Option ℕ → ℕ → ℕ
slot_of (Some i) used = i
slot_of None used = used

abbrev pub used_after : Option ℕ → ℕ → ℕ
used_after (Some i) used = used
used_after None used = used + 1

abbrev pub stored_of : List Object → ℕ → Object → Result Stored Refusal
stored_of row used o = cond (ltb (slot_of (object_place row used o.number) used) (length row)) (Ok (Count (used_after (object_place row used o.number) used))) (Ok Full)

abbrev pub stored_row : List Object → ℕ → Object → List Object
stored_row row used o = set row (slot_of (object_place row used o.number) used) o
