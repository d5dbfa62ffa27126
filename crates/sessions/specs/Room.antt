-- Room for an object: "A session holds 32 objects .. CREATE of a 33rd number answers ERR_RESOURCES before any lookup or call."; W3: the number of an
-- object that has a dependant isn't to be had, "after the count of objects and before any lookup".
use Rattle.std.specs.Prelude.{ℕ, Bool, cond, List, eqb, ltb, Err, None, Ok, Option, Result, Some}
use Rattle.codec.specs.declared.submessages.ObjectNumber.{ObjectNumber}
use Rattle.sessions.specs.Need.{most_objects}
use Rattle.sessions.specs.Table.{session_at}
use Rattle.sessions.specs.SessionObjects.{found_object}
use Rattle.sessions.specs.Removal.{depended_found}
use Rattle.sessions.specs.declared.objects.Object.{Object}
use Rattle.sessions.specs.declared.table.ClientSession.{ClientSession}
use Rattle.sessions.specs.declared.room.Room.{Room}
use Rattle.sessions.specs.declared.room.Room.TheVariants.{Free, Full, Depended, NotLive}
use Rattle.codec.specs.declared.refusals.Refusal.{Refusal}

-- a held number is listed "in place of one of that number", another needs a place of its own; an id that is not live has none
abbrev pub room_for : Result (Option Object) Refusal → Bool → ClientSession → Result Room Refusal
room_for (Ok (Some o)) depended s = cond depended (Ok Depended) (Ok Free)
room_for (Ok None) depended s = cond (eqb s.live 0) (Ok NotLive) (cond (ltb s.objects most_objects) (Ok Free) (Ok Full))
room_for (Err r) depended s = Err r

unfoldable pub room_of : List (List ℕ) → List Object → ℕ → ObjectNumber → Result Room Refusal
room_of sessions objects id n =
    let f = found_object sessions objects id n in room_for f (depended_found sessions objects id f) (session_at sessions id)
