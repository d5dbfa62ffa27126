-- What a submessage comes to, by value: from what the tables were found to hold.
use Rattle.std.specs.Prelude.{ℕ, Bool, cond, List, [], eqb, Err, None, Ok, Option, Result, Some}
use Rattle.codec.specs.declared.layouts.Span.{Span}
use Rattle.codec.specs.declared.submessages.AcknackPayload.{AcknackPayload}
use Rattle.codec.specs.declared.submessages.HeartbeatPayload.{HeartbeatPayload}
use Rattle.codec.specs.declared.submessages.ObjectNumber.{ObjectNumber}
use Rattle.codec.specs.declared.submessages.StatusCode.TheVariants as status
use Rattle.codec.specs.declared.submessages.StatusCode.TheVariants.{ErrUnknownRef, ErrInvalidData, ErrIncompatible, ErrResources}
use Rattle.streams.specs.Places.{is_full}
use Rattle.streams.specs.Received.{acknack_of}
use Rattle.sessions.specs.Objects.{handle_of}
use Rattle.sessions.specs.declared.objects.Taken.{Taken}
use Rattle.sessions.specs.declared.objects.Taken.TheVariants as taken
use Rattle.sessions.specs.declared.objects.Handle.{Handle}
use Rattle.sessions.specs.declared.session_streams.StreamNamed.{StreamNamed}
use Rattle.sessions.specs.declared.session_streams.StreamNamed.TheVariants as stream
use Rattle.sessions.specs.declared.session_streams.StreamRead.{StreamRead}
use Rattle.streams.specs.declared.state.StreamState.{StreamState}
use Rattle.moves.specs.Replies.{status_bytes, acknack_bytes}
use Rattle.moves.specs.declared.moves.Move.{Move}
use Rattle.moves.specs.declared.moves.Move.TheVariants.{Greets, Status, Acknack, Repeats, Calls, Silent}
use Rattle.moves.specs.declared.proxy.BridgeCall.{BridgeCall}
use Rattle.moves.specs.declared.proxy.BridgeCall.TheVariants.{CreateParticipant, CreateTopic, CreateWriter, CreateReader, WriteData, ReadData, DeleteEntity}
use Rattle.moves.specs.declared.proxy.Task.TheVariants.{Creating, Writing, Reading, Deleting}
use Rattle.sessions.specs.declared.objects.Object.{Object}
use Rattle.codec.specs.declared.refusals.Refusal.{Refusal}

-- the handle of an object, if it is there and has one
abbrev pub found_handle : Result (Option Object) Refusal → Option Handle
found_handle (Ok (Some o)) = handle_of o
found_handle (Ok None) = None
found_handle (Err r) = None

-- the same of an object "held with that kind"
abbrev pub handle_of_kind : Result (Option Object) Refusal → ℕ → Option Handle
handle_of_kind (Ok (Some o)) kind = cond (eqb o.kind kind) (handle_of o) None
handle_of_kind (Ok None) kind = None
handle_of_kind (Err r) kind = None

-- the object that an object's CREATE named as its parent; 0 where there is no such object
abbrev pub parent_of : Result (Option Object) Refusal → ObjectNumber
parent_of (Ok (Some o)) = record { 0 = o.parent }
parent_of (Ok None) = record { 0 = 0 }
parent_of (Err r) = record { 0 = 0 }

-- ---- CREATE

abbrev pub participant_move : ObjectNumber → ℕ → Move
participant_move number domain = Calls number (Creating 1 domain) (CreateParticipant domain)

-- W7: "A Topic whose strings are cut short or ill-formed answers ERR_INVALID_DATA without a call"
abbrev pub topic_named : ObjectNumber → ℕ → Handle → Option (Span × Span) → Move
topic_named number parent p (Some (name, type)) = Calls number (Creating 2 parent) (CreateTopic p name type)
topic_named number parent p None = Status number ErrInvalidData

abbrev pub topic_by : ObjectNumber → ℕ → Option (Span × Span) → Option Handle → Move
topic_by number parent names (Some p) = topic_named number parent p names
topic_by number parent names None = Status number ErrInvalidData

abbrev pub topic_move : ObjectNumber → ℕ → Option (Span × Span) → Result (Option Object) Refusal → Move
topic_move number parent names found = topic_by number parent names (found_handle found)

abbrev pub endpoint_call : ℕ → Handle → Handle → BridgeCall
endpoint_call kind p t = cond (eqb kind 5) (CreateWriter p t) (CreateReader p t)

abbrev pub endpoint_by : ObjectNumber → ℕ → ℕ → Handle → Option Handle → Move
endpoint_by number kind parent p (Some t) = Calls number (Creating kind parent) (endpoint_call kind p t)
endpoint_by number kind parent p None = Status number ErrInvalidData

abbrev pub endpoint_for : ObjectNumber → ℕ → ℕ → Option Handle → Option Handle → Move
endpoint_for number kind parent (Some p) t = endpoint_by number kind parent p t
endpoint_for number kind parent None t = Status number ErrInvalidData

-- W1: "If either isn't held with that kind, the answer is ERR_INVALID_DATA without a call."
abbrev pub endpoint_move : ObjectNumber → ℕ → ℕ → Result (Option Object) Refusal → Result (Option Object) Refusal → Move
endpoint_move number kind parent topic participant = endpoint_for number kind parent (handle_of_kind participant 1) (handle_of_kind topic 2)

-- ---- WRITE_DATA, READ_DATA, DELETE

-- W8: "WRITE_DATA to a known writer in a closed minute answers ERR_INCOMPATIBLE without a call"; `is_open`: whether its datagram's minute is open
abbrev pub write_by : Bool → ObjectNumber → Span → Option Handle → Move
write_by is_open number body (Some w) = cond is_open (Calls number Writing (WriteData w body)) (Status number ErrIncompatible)
write_by is_open number body None = Status number ErrUnknownRef

abbrev pub write_move : Bool → ObjectNumber → Span → Result (Option Object) Refusal → Move
write_move is_open number body f = write_by is_open number body (found_handle f)

abbrev pub read_call : ObjectNumber → Handle → Move
read_call number h = Calls number Reading (ReadData h)

-- W5, on a stream other than 0 as it is read behind its opening: "a ninth stream gets no reply and no call. With 16 held, it then answers
-- ERR_RESOURCES before the bridge is called."
abbrev pub read_on : Result StreamNamed Refusal → StreamState → ObjectNumber → Handle → Move
read_on (Ok stream.Open) s number h = cond (is_full s) (Status number ErrResources) (read_call number h)
read_on (Ok stream.NotOpen) s number h = Silent
read_on (Ok stream.NotLive) s number h = Silent
read_on (Err r) s number h = Silent

abbrev pub dropped_move : ObjectNumber → Option Handle → Move
dropped_move number (Some h) = Calls number Deleting (DeleteEntity h)
dropped_move number None = Status number status.Ok

-- W3: of an object that has a dependant, "ERR_INCOMPATIBLE without a bridge call"
abbrev pub delete_move : ObjectNumber → Result Taken Refusal → Move
delete_move number (Ok (taken.Gone o)) = dropped_move number (handle_of o)
delete_move number (Ok taken.Depended) = Status number ErrIncompatible
delete_move number (Ok taken.Nothing) = Status number ErrUnknownRef
delete_move number (Err r) = Status number ErrUnknownRef

-- ---- HEARTBEAT, on its stream as it is read behind its opening

abbrev pub heartbeat_on : Result StreamNamed Refusal → StreamState → HeartbeatPayload → Move
heartbeat_on (Ok stream.Open) s p = Acknack (acknack_of s p.first_unacked_seq p.last_seq)
heartbeat_on (Ok stream.NotOpen) s p = Silent
heartbeat_on (Ok stream.NotLive) s p = Silent
heartbeat_on (Err r) s p = Silent

abbrev pub heartbeat_move : StreamRead → HeartbeatPayload → Move
heartbeat_move r p = heartbeat_on r.answer r.state p

-- ---- ACKNACK, on its stream as it is read behind its opening: on a stream other than 0 it "is answered by the listed messages" (W5)

abbrev pub acknack_on : Result StreamNamed Refusal → StreamState → AcknackPayload → Move
acknack_on (Ok stream.Open) s p = cond (eqb s.stream_id 0) Silent (Repeats p)
acknack_on (Ok stream.NotOpen) s p = Silent
acknack_on (Ok stream.NotLive) s p = Silent
acknack_on (Err r) s p = Silent

-- ---- the reply, for the header's session and stream; what an ACKNACK repeats is read off the tables

abbrev pub move_bytes : ℕ → ℕ → Move → List ℕ
move_bytes session stream (Greets id code) = status_bytes id 0 0 code
move_bytes session stream (Status number code) = status_bytes session stream number.0 code
move_bytes session stream (Acknack p) = acknack_bytes session stream p.first_unacked_seq p.nack_bitmap
move_bytes session stream (Calls number task call) = []
move_bytes session stream (Repeats p) = []
move_bytes session stream Silent = []
