-- CREATE, DELETE, WRITE_DATA and READ_DATA, on the tables of a session that was just touched. `stream` is the header's.
use Rattle.std.specs.Prelude.{ℕ, ◌+◌, Bool, cond, List, [], ◌∷◌, eqb, leb, Err, Ok, Result, Option, None, Some}
use Rattle.codec.specs.Reading.{part_of}
use Rattle.codec.specs.Strings.{string_at}
use Rattle.codec.specs.Submessages.{kind_byte}
use Rattle.codec.specs.declared.layouts.Span.{Span}
use Rattle.codec.specs.declared.submessages.ObjectKind.{ObjectKind}
use Rattle.codec.specs.declared.submessages.ObjectKind.TheVariants.{Participant, Topic, Publisher, Subscriber, DataWriter, DataReader}
use Rattle.codec.specs.declared.submessages.StatusCode.{StatusCode}
use Rattle.codec.specs.declared.submessages.StatusCode.TheVariants as status
use Rattle.codec.specs.declared.submessages.StatusCode.TheVariants.{ErrUnknownRef, ErrInvalidData, ErrIncompatible, ErrResources}
use Rattle.isolation.specs.Rules.{Bytes, Outcome, done, calls}
use Rattle.streams.specs.View.{many_held}
use Rattle.sessions.specs.View.{Entry, KeptStream, Local, find_in, stream_in}
use Rattle.sessions.specs.Dependants.{dependant_in, has_dependant}
use Rattle.agent.specs.Local.{listing, dropping, full, handle_at, opening}
use Rattle.moves.specs.Calls.{Call, create_participant, create_topic, create_writer, create_reader, write_data, read_data, delete_entity, Task, creating, writing, reading, deleting, Pending}
use Rattle.moves.specs.Replies.{status_bytes}
use Rattle.agent.specs.Parents.{handles_named}
use Rattle.codec.specs.declared.refusals.Refusal.{Refusal}

-- "It replies, hands out one call and waits, or does neither."
abbrev pub Move : Type 0
Move = Outcome Local Bytes Call Pending

-- it replies STATUS for an object
abbrev pub says : ℕ → ℕ → StatusCode → Local → Move
says stream number code l = done l (status_bytes l.id stream number code ∷ [])

-- it hands out a call for an object, and keeps what the call is for
abbrev pub asks : ℕ → ℕ → Task → Call → Local → Move
asks stream number task call l = calls l [] call (record { stream = stream; number = number; task = task })

-- one thing with an object's handle, another where there is no such object or it has none
abbrev pub if_handle : Option ℕ → (ℕ → Move) → Move → Move
if_handle (Some h) with without = with h
if_handle None with without = without

abbrev pub if_handles : Option (ℕ × ℕ) → (ℕ → ℕ → Move) → Move → Move
if_handles (Some hs) with without = with hs.0 hs.1
if_handles None with without = without

-- ---- CREATE

-- "Topic: name and type are two strings"; W7: none where either is "cut short or ill-formed". Bytes behind them are ignored.
pub record Names : Type 0 where
  pub name : List ℕ
  pub type : List ℕ

abbrev pub type_behind : List ℕ → Span → Result Span Refusal → Option Names
type_behind body name (Ok type) = Some (record { name = part_of body name; type = part_of body type })
type_behind body name (Err r) = None

abbrev pub names_from : List ℕ → Result Span Refusal → Option Names
names_from body (Ok name) = type_behind body name (string_at body (name.start + name.len))
names_from body (Err r) = None

unfoldable pub names_of : List ℕ → Option Names
names_of body = names_from body (string_at body 0)

-- W7: "A Topic whose strings are cut short or ill-formed answers ERR_INVALID_DATA without a call"; "The parent's handle comes from any object of
-- that number."
abbrev pub create_named : Option Names → ℕ → ℕ → ℕ → Local → Move
create_named None stream number parent l = says stream number ErrInvalidData l
create_named (Some x) stream number parent l =
    if_handle (handle_at parent l)
    (λ p. asks stream number (creating (kind_byte Topic) parent) (create_topic p x.name x.type) l)
    (says stream number ErrInvalidData l)

-- W1: "If either isn't held with that kind, the answer is ERR_INVALID_DATA without a call."
abbrev pub create_with : ObjectKind → ℕ → ℕ → ℕ → (ℕ → ℕ → Call) → Local → Move
create_with kind stream number parent call l =
    if_handles (handles_named l.objects parent) (λ p t. asks stream number (creating (kind_byte kind) parent) (call p t) l) (says stream number ErrInvalidData l)

-- A CREATE of each object kind: "Publishers and Subscribers have no bridge handle."; "Within the object limit every failed CREATE answers ERR_INVALID_DATA and keeps an older object of that number."
abbrev pub create_for : ObjectKind → ℕ → ℕ → ℕ → List ℕ → Local → Move
create_for Participant stream number parent body l = asks stream number (creating (kind_byte Participant) parent) (create_participant parent) l
create_for Topic stream number parent body l = create_named (names_of body) stream number parent l
create_for Publisher stream number parent body l = says stream number status.Ok (listing number (kind_byte Publisher) None parent l)
create_for Subscriber stream number parent body l = says stream number status.Ok (listing number (kind_byte Subscriber) None parent l)
create_for DataWriter stream number parent body l = create_with DataWriter stream number parent create_writer l
create_for DataReader stream number parent body l = create_with DataReader stream number parent create_reader l

-- W3: a CREATE of the number of an object that has a dependant "answers ERR_INCOMPATIBLE without a bridge call and keeps it"
abbrev pub create_unless : Bool → ObjectKind → ℕ → ℕ → ℕ → List ℕ → Local → Move
create_unless depended kind stream number parent body l = cond depended (says stream number ErrIncompatible l) (create_for kind stream number parent body l)

-- "CREATE of a 33rd number answers ERR_RESOURCES before any lookup or call."; W3 "comes after the count of objects and before any lookup"
abbrev pub on_create : ObjectKind → ℕ → ℕ → ℕ → List ℕ → Local → Move
on_create kind stream number parent body l =
    cond (full number l) (says stream number ErrResources l)
    (create_unless (has_dependant l.objects (find_in l.objects number)) kind stream number parent body l)

-- ---- DELETE, WRITE_DATA and READ_DATA "take an object of any kind"; "unknown objects ERR_UNKNOWN_REF"

-- "DELETE drops its object before its call."; of a Publisher or Subscriber it "answers OK without a call"
abbrev pub drops : ℕ → ℕ → Option ℕ → Local → Move
drops stream number handle l = if_handle handle (λ h. asks stream number deleting (delete_entity h) (dropping number l)) (says stream number status.Ok (dropping number l))

-- W3: an object that has a dependant stays
abbrev pub delete_found : ℕ → ℕ → Option Entry → Local → Move
delete_found stream number None l = says stream number ErrUnknownRef l
delete_found stream number (Some e) l = cond (dependant_in l.objects e) (says stream number ErrIncompatible l) (drops stream number e.handle l)

abbrev pub on_delete : ℕ → ℕ → Local → Move
on_delete stream number l = delete_found stream number (find_in l.objects number) l

-- W8: "WRITE_DATA to a known writer in a closed minute answers ERR_INCOMPATIBLE without a call"
abbrev pub on_write : Bool → ℕ → ℕ → List ℕ → Local → Move
on_write is_open stream number body l =
    if_handle (handle_at number l)
    (λ h. cond is_open (asks stream number writing (write_data h body) l) (says stream number ErrIncompatible l))
    (says stream number ErrUnknownRef l)

-- W5: "With 16 held, it then answers ERR_RESOURCES before the bridge is called"; "a ninth stream gets no reply and no call"
abbrev pub read_on : ℕ → ℕ → ℕ → Option KeptStream → Local → Move
read_on stream number h None l = done l []
read_on stream number h (Some k) l = cond (leb 16 (many_held k.held)) (says stream number ErrResources l) (asks stream number reading (read_data h) l)

-- "On a stream other than 0, READ_DATA of a known reader opens it"
abbrev pub read_from : ℕ → ℕ → ℕ → Local → Move
read_from stream number h l =
    let o = opening stream l in
    cond (eqb stream 0) (asks stream number reading (read_data h) l) (read_on stream number h (stream_in o.streams stream) o)

-- "`max_samples` is unused"
abbrev pub on_read : ℕ → ℕ → Local → Move
on_read stream number l = if_handle (handle_at number l) (λ h. read_from stream number h l) (says stream number ErrUnknownRef l)
