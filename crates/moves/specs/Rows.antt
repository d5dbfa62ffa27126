-- What a submessage comes to and leaves, over the lent tables: what is fetched, what is stored, and the move.
use Rattle.std.specs.Prelude.{ℕ, Bool, true, false, cond, List, Err, Ok, Result}
use Rattle.codec.specs.declared.layouts.Span.{Span}
use Rattle.codec.specs.declared.submessages.ObjectKind.{ObjectKind}
use Rattle.codec.specs.declared.submessages.ObjectKind.TheVariants.{Participant, Topic, Publisher, Subscriber, DataWriter, DataReader}
use Rattle.codec.specs.declared.submessages.ObjectNumber.{ObjectNumber}
use Rattle.codec.specs.declared.submessages.StatusCode.TheVariants as status
use Rattle.codec.specs.declared.submessages.StatusCode.TheVariants.{ErrIncompatible, ErrResources}
use Rattle.codec.specs.declared.submessages.Submessage.{Submessage}
use Rattle.codec.specs.declared.submessages.Submessage.TheVariants as sub
use Rattle.sessions.specs.Objects.{implicit_of}
use Rattle.sessions.specs.SessionObjects.{found_object, stored_object, stored_objects, keep_stored}
use Rattle.sessions.specs.Removal.{taken_object, removed_objects, keep_removed}
use Rattle.sessions.specs.Room.{room_of}
use Rattle.sessions.specs.declared.objects.Object.{Object}
use Rattle.sessions.specs.declared.room.Room.{Room}
use Rattle.sessions.specs.declared.room.Room.TheVariants.{Free, Full, Depended, NotLive}
use Rattle.moves.specs.Names.{names_in}
use Rattle.moves.specs.Moves.{found_handle, parent_of, participant_move, topic_move, endpoint_move, write_move, delete_move}
use Rattle.moves.specs.RowsStreams.{opened_sessions, opened_rows, read_of, stream_move, stream_rows, read_move, read_sessions, read_rows}
use Rattle.moves.specs.declared.moves.Move.{Move}
use Rattle.moves.specs.declared.moves.Move.TheVariants.{Status, Silent}
use Rattle.moves.specs.declared.handle.Asked.{Asked}
use Rattle.moves.specs.declared.handle.Opening.{Opening}
use Rattle.moves.specs.declared.handle.Opening.TheVariants.{Client, Fragment, Other}
use Rattle.moves.specs.declared.handle.Group.{Group}
use Rattle.moves.specs.declared.handle.Group.TheVariants.{Creates, Deletes, Writes, Reads, Streams, Neither}
use Rattle.codec.specs.declared.refusals.Refusal.{Refusal}

-- what a submessage is handled over: the rows of sessions and streams, and the records of objects
pub record Rows : Type 0 where
  pub sessions : List (List ℕ)
  pub streams : List (List ℕ)
  pub objects : List Object

abbrev pub rows : List (List ℕ) → List (List ℕ) → List Object → Rows
rows sessions streams objects = record { sessions = sessions; streams = streams; objects = objects }

abbrev pub ok_move : ObjectNumber → Move
ok_move number = Status number status.Ok

-- ---- CREATE where there is room: only a Publisher or a Subscriber is listed, the others ask the bridge or fail

-- W1: "uses the Topic that its parent number names, and the Participant that this Topic's parent names"
abbrev pub endpoint_in : List (List ℕ) → List Object → ℕ → ObjectNumber → ℕ → ℕ → Move
endpoint_in s o id number kind parent =
    let topic = found_object s o id (record { 0 = parent }) in endpoint_move number kind parent topic (found_object s o id (parent_of topic))

abbrev pub create_move : ObjectKind → List (List ℕ) → List Object → List ℕ → ℕ → ObjectNumber → ℕ → Span → Move
create_move Participant s o d id number parent body = participant_move number parent
create_move Topic s o d id number parent body = topic_move number parent (names_in d body) (found_object s o id (record { 0 = parent }))
create_move Publisher s o d id number parent body = ok_move number
create_move Subscriber s o d id number parent body = ok_move number
create_move DataWriter s o d id number parent body = endpoint_in s o id number 5 parent
create_move DataReader s o d id number parent body = endpoint_in s o id number 6 parent

abbrev pub created_sessions : ObjectKind → List (List ℕ) → List Object → ℕ → ObjectNumber → ℕ → List (List ℕ)
created_sessions Participant s o id number parent = s
created_sessions Topic s o id number parent = s
created_sessions Publisher s o id number parent = keep_stored s id (stored_object s o id (implicit_of number 3 parent))
created_sessions Subscriber s o id number parent = keep_stored s id (stored_object s o id (implicit_of number 4 parent))
created_sessions DataWriter s o id number parent = s
created_sessions DataReader s o id number parent = s

abbrev pub created_objects : ObjectKind → List (List ℕ) → List Object → ℕ → ObjectNumber → ℕ → List Object
created_objects Participant s o id number parent = o
created_objects Topic s o id number parent = o
created_objects Publisher s o id number parent = stored_objects s o id (implicit_of number 3 parent)
created_objects Subscriber s o id number parent = stored_objects s o id (implicit_of number 4 parent)
created_objects DataWriter s o id number parent = o
created_objects DataReader s o id number parent = o

-- "CREATE of a 33rd number answers ERR_RESOURCES before any lookup or call."; W3: a CREATE of the number of an object that has a dependant "answers
-- ERR_INCOMPATIBLE without a bridge call and keeps it", "after the count of objects and before any lookup"
abbrev pub is_free : Result Room Refusal → Bool
is_free (Ok Free) = true
is_free (Ok Full) = false
is_free (Ok Depended) = false
is_free (Ok NotLive) = false
is_free (Err r) = false

abbrev pub no_room_move : ObjectNumber → Result Room Refusal → Move
no_room_move number (Ok Free) = Silent
no_room_move number (Ok Full) = Status number ErrResources
no_room_move number (Ok Depended) = Status number ErrIncompatible
no_room_move number (Ok NotLive) = Silent
no_room_move number (Err r) = Silent

abbrev pub room_move : Result Room Refusal → List (List ℕ) → List Object → List ℕ → ℕ → ObjectNumber → ObjectKind → ℕ → Span → Move
room_move r s o d id number kind parent body = cond (is_free r) (create_move kind s o d id number parent body) (no_room_move number r)

abbrev pub room_sessions : Result Room Refusal → List (List ℕ) → List Object → ℕ → ObjectNumber → ObjectKind → ℕ → List (List ℕ)
room_sessions r s o id number kind parent = cond (is_free r) (created_sessions kind s o id number parent) s

abbrev pub room_objects : Result Room Refusal → List (List ℕ) → List Object → ℕ → ObjectNumber → ObjectKind → ℕ → List Object
room_objects r s o id number kind parent = cond (is_free r) (created_objects kind s o id number parent) o

-- ---- what a submessage asks for, taken apart as the code does; what it doesn't have is zero

abbrev pub no_object : ObjectNumber
no_object = record { 0 = 0 }

abbrev pub blank_asked : Opening → Asked
blank_asked o = record { opening = o; group = Neither; key = 0; number = no_object; kind = Participant; parent = 0; hears = false; first = 0; second = 0 }

abbrev pub opens_with : ℕ → Asked
opens_with key = record { opening = Client; group = Neither; key = key; number = no_object; kind = Participant; parent = 0; hears = false; first = 0; second = 0 }

abbrev pub creates_as : ObjectNumber → ObjectKind → ℕ → Asked
creates_as number kind parent = record { opening = Other; group = Creates; key = 0; number = number; kind = kind; parent = parent; hears = false; first = 0; second = 0 }

abbrev pub names_one : Group → ObjectNumber → Asked
names_one group number = record { opening = Other; group = group; key = 0; number = number; kind = Participant; parent = 0; hears = false; first = 0; second = 0 }

-- a HEARTBEAT hears, an ACKNACK doesn't
abbrev pub on_stream : Bool → ℕ → ℕ → Asked
on_stream hears first second = record { opening = Other; group = Streams; key = 0; number = no_object; kind = Participant; parent = 0; hears = hears; first = first; second = second }

-- a FRAGMENT's number and total
abbrev pub fragment_of : ℕ → ℕ → Asked
fragment_of number total = record { opening = Fragment; group = Neither; key = 0; number = no_object; kind = Participant; parent = 0; hears = false; first = number; second = total }

abbrev pub asks_of : Submessage → Asked
asks_of (sub.CreateClient p) = opens_with p.client_key
asks_of (sub.Create p) = creates_as p.object_id p.kind p.parent_id
asks_of (sub.Delete p) = names_one Deletes p.object_id
asks_of (sub.WriteData p) = names_one Writes p.writer_id
asks_of (sub.ReadData p) = names_one Reads p.reader_id
asks_of (sub.Heartbeat p) = on_stream true p.first_unacked_seq p.last_seq
asks_of (sub.Acknack p) = on_stream false p.first_unacked_seq p.nack_bitmap
asks_of (sub.Status p) = blank_asked Other
asks_of (sub.Data p) = blank_asked Other
asks_of (sub.Fragment p) = fragment_of p.fragment_nr p.total_fragments

-- ---- all submessages but CREATE_CLIENT, by what they are about; `is_open`: whether their datagram's minute is open (W8)

abbrev pub handled_by : Bool → Group → Asked → Rows → List ℕ → ℕ → ℕ → Span → Move
handled_by is_open Creates q t d id n body =
    room_move (room_of t.sessions t.objects id q.number) t.sessions t.objects d id q.number q.kind q.parent body
handled_by is_open Deletes q t d id n body = delete_move q.number (taken_object t.sessions t.objects id q.number)
handled_by is_open Writes q t d id n body = write_move is_open q.number body (found_object t.sessions t.objects id q.number)
handled_by is_open Reads q t d id n body =
    read_move q.number (found_handle (found_object t.sessions t.objects id q.number)) t.sessions t.streams id n
handled_by is_open Streams q t d id n body =
    stream_move q.hears q.first q.second (read_of (opened_sessions t.sessions t.streams id n) (opened_rows t.sessions t.streams id n) id n)
handled_by is_open Neither q t d id n body = Silent

abbrev pub handled_move : Bool → Asked → Rows → List ℕ → ℕ → ℕ → Span → Move
handled_move is_open q t d id n body = handled_by is_open q.group q t d id n body

abbrev pub handled_in : Group → Asked → Rows → ℕ → ℕ → Rows
handled_in Creates q t id n =
    let room = room_of t.sessions t.objects id q.number in
    record { sessions = room_sessions room t.sessions t.objects id q.number q.kind q.parent; streams = t.streams; objects = room_objects room t.sessions t.objects id q.number q.kind q.parent }
handled_in Deletes q t id n =
    record { sessions = keep_removed t.sessions id (taken_object t.sessions t.objects id q.number); streams = t.streams; objects = removed_objects t.sessions t.objects id q.number }
handled_in Writes q t id n = t
handled_in Reads q t id n =
    let h = found_handle (found_object t.sessions t.objects id q.number) in
    record { sessions = read_sessions h t.sessions t.streams id n; streams = read_rows h t.sessions t.streams id n; objects = t.objects }
handled_in Streams q t id n =
    let s = opened_sessions t.sessions t.streams id n in
    let x = opened_rows t.sessions t.streams id n in
    record { sessions = s; streams = stream_rows q.hears q.first q.second s x id (read_of s x id n); objects = t.objects }
handled_in Neither q t id n = t

abbrev pub handled_rows : Asked → Rows → ℕ → ℕ → Rows
handled_rows q t id n = handled_in q.group q t id n
