-- Document 01: "Where an answer is an enum, a definition gives this paper's number and values for each of its cases, and the promises use
-- that definition." The answers of sessions. Where 01 has no number for a case ("No such session: no reply", a 33rd object, a ninth
-- stream), the case is a value, and no refusal.
use Rattle.std.specs.Prelude.{ℕ, Bool, true, false, Err, None, Ok, Result, Some, Option}
use Rattle.codec.specs.Answers.{Answer, gives, refusal}
use Rattle.streams.specs.declared.state.StreamState.{StreamState}
use Rattle.sessions.specs.declared.need.Need.{Need}
use Rattle.sessions.specs.declared.objects.Object.{Object}
use Rattle.sessions.specs.declared.objects.Handle.{Handle}
use Rattle.sessions.specs.declared.objects.Taken.{Taken}
use Rattle.sessions.specs.declared.objects.Taken.TheVariants as taken
use Rattle.sessions.specs.declared.objects.Stored.{Stored}
use Rattle.sessions.specs.declared.objects.Stored.TheVariants as stored
use Rattle.sessions.specs.declared.room.Room.{Room}
use Rattle.sessions.specs.declared.room.Room.TheVariants as room
use Rattle.sessions.specs.declared.session_streams.StreamOpened.{StreamOpened}
use Rattle.sessions.specs.declared.session_streams.StreamOpened.TheVariants as opened
use Rattle.sessions.specs.declared.session_streams.StreamNamed.{StreamNamed}
use Rattle.sessions.specs.declared.session_streams.StreamNamed.TheVariants as stream
use Rattle.sessions.specs.declared.session_streams.StreamRead.{StreamRead}
use Rattle.sessions.specs.declared.table.ClientSession.{ClientSession}
use Rattle.codec.specs.declared.refusals.Refusal.{Refusal}

-- ---- the stores

-- the id from which the first free one is looked for
abbrev pub set_up_answer : Result ℕ Refusal → Answer ℕ
set_up_answer (Ok next) = gives next
set_up_answer (Err r) = refusal r

-- rows, records and bytes
abbrev pub needed_answer : Result Need Refusal → Answer Need
needed_answer (Ok n) = gives n
needed_answer (Err r) = refusal r

-- within the limits there is nothing to give
abbrev pub limits_answer : Result (Unit {0}) Refusal → Answer (Unit {0})
limits_answer (Ok tt) = gives tt
limits_answer (Err r) = refusal r

-- ---- the table

-- the id, and the id from which the next free one is looked for
abbrev pub created_answer : Result (ℕ × ℕ) Refusal → Answer (ℕ × ℕ)
created_answer (Ok (id, next)) = gives (id, next)
created_answer (Err r) = refusal r

-- how many sessions are live
abbrev pub counted_answer : Result ℕ Refusal → Answer ℕ
counted_answer (Ok n) = gives n
counted_answer (Err r) = refusal r

-- whether the id is live
abbrev pub named_answer : Result Bool Refusal → Answer Bool
named_answer (Ok true) = gives true
named_answer (Ok false) = gives false
named_answer (Err r) = refusal r

-- the session, or none
abbrev pub got_answer : Result (Option ClientSession) Refusal → Answer (Option ClientSession)
got_answer (Ok (Some s)) = gives (Some s)
got_answer (Ok None) = gives None
got_answer (Err r) = refusal r

-- ---- objects

-- "handle or none"
abbrev pub handle_answer : Option Handle → Answer (Option ℕ)
handle_answer (Some h) = gives (Some h.0)
handle_answer None = gives None

-- the object, or none
abbrev pub found_answer : Result (Option Object) Refusal → Answer (Option Object)
found_answer (Ok (Some o)) = gives (Some o)
found_answer (Ok None) = gives None
found_answer (Err r) = refusal r

-- none where there is no such object; else the object, or none where another depends on it, which keeps it
abbrev pub taken_answer : Result Taken Refusal → Answer (Option (Option Object))
taken_answer (Ok (taken.Gone o)) = gives (Some (Some o))
taken_answer (Ok taken.Depended) = gives (Some None)
taken_answer (Ok taken.Nothing) = gives None
taken_answer (Err r) = refusal r

-- how many numbers are listed
abbrev pub listed_answer : Result ℕ Refusal → Answer ℕ
listed_answer (Ok n) = gives n
listed_answer (Err r) = refusal r

-- none where there is no session; else how many objects it has, or none where there is no place for another
abbrev pub stored_answer : Result Stored Refusal → Answer (Option (Option ℕ))
stored_answer (Ok (stored.Count n)) = gives (Some (Some n))
stored_answer (Ok stored.Full) = gives (Some None)
stored_answer (Ok stored.NotLive) = gives None
stored_answer (Err r) = refusal r

-- none where there is no session; else whether there is room, or none where another depends on the object of that number
abbrev pub room_answer : Result Room Refusal → Answer (Option (Option Bool))
room_answer (Ok room.Free) = gives (Some (Some true))
room_answer (Ok room.Full) = gives (Some (Some false))
room_answer (Ok room.Depended) = gives (Some None)
room_answer (Ok room.NotLive) = gives None
room_answer (Err r) = refusal r

-- ---- streams

-- none where there is no session; else whether the stream is open
abbrev pub opened_answer : Result StreamOpened Refusal → Answer (Option Bool)
opened_answer (Ok opened.Open) = gives (Some true)
opened_answer (Ok opened.Full) = gives (Some false)
opened_answer (Ok opened.NotLive) = gives None
opened_answer (Err r) = refusal r

abbrev pub stream_answer : Result StreamNamed Refusal → Answer (Option Bool)
stream_answer (Ok stream.Open) = gives (Some true)
stream_answer (Ok stream.NotOpen) = gives (Some false)
stream_answer (Ok stream.NotLive) = gives None
stream_answer (Err r) = refusal r

-- none where there is no session; else the stream, or none where it is not open
abbrev pub state_answer : Result StreamNamed Refusal → StreamState → Answer (Option (Option StreamState))
state_answer (Ok stream.Open) s = gives (Some (Some s))
state_answer (Ok stream.NotOpen) s = gives (Some None)
state_answer (Ok stream.NotLive) s = gives None
state_answer (Err r) s = refusal r

abbrev pub read_answer : StreamRead → Answer (Option (Option StreamState))
read_answer r = state_answer r.answer r.state
