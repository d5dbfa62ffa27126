-- The calls on the tables one behind the other, and what holds of all tables that they lead to.
use Rattle.std.specs.Prelude.{ℕ, ◌<◌, ◌≤◌, ◌≡◌, true, false, List, [], ◌∷◌, eqb, length, get_or, Result}
use Rattle.codec.specs.declared.submessages.ObjectNumber.{ObjectNumber}
use Rattle.streams.specs.State.{new_stream}
use Rattle.streams.specs.Sent.{alloc_of, record_of}
use Rattle.streams.specs.Oldest.{SixteenBits}
use Rattle.streams.specs.View.{Sound}
use Rattle.streams.specs.declared.state.StreamState.{StreamState}
use Rattle.codec.specs.Inserts.{Store}
use Rattle.codec.specs.Inserts as codec
use Rattle.sessions.specs.Need.{held_need, most_fragments, parts_need, lengths_need, rebuilt_need}
use Rattle.sessions.specs.Fragments.{buffer_with, gathered_rows, gathered_parts, gathered_lengths, gathered_rebuilt}
use Rattle.sessions.specs.Table.{session_at, is_free, touched_rows, ended_rows}
use Rattle.sessions.specs.Setup.{empty_sessions, empty_streams, empty_objects, set_up_of, leaves}
use Rattle.sessions.specs.Opening.{created_of, opened_rows, opened_streams}
use Rattle.sessions.specs.Sweep.{evicted_rows}
use Rattle.sessions.specs.SessionObjects.{stored_object, stored_objects, keep_stored}
use Rattle.sessions.specs.Removal.{taken_object, removed_objects, keep_removed}
use Rattle.sessions.specs.SessionStreams.{stream_place, opened_count, opened_in, written_in}
use Rattle.sessions.specs.Streams.{stream_of, stream_row}
use Rattle.sessions.specs.Sending.{sent_streams, sent_held}
use Rattle.sessions.specs.View.{Tables, Part, table_part, objects_shown, streams_shown, Distinct, object_numbers, stream_numbers}
use Rattle.sessions.specs.declared.objects.Object.{Object}
use Rattle.codec.specs.declared.refusals.Refusal.{Refusal}

-- ---- the tables behind each call, by the definitions that its contract cites; the other calls change none

abbrev pub with_sessions : Tables → List (List ℕ) → Tables
with_sessions t rows = record { sessions = rows; streams = t.streams; objects = t.objects; held = t.held; parts = t.parts; lengths = t.lengths; rebuilt = t.rebuilt }

abbrev pub set_up_tables : Result ℕ Refusal → Tables → Tables
set_up_tables r t =
    record { sessions = leaves r (empty_sessions t.sessions) t.sessions; streams = leaves r (empty_streams t.streams) t.streams; objects = leaves r (empty_objects t.objects) t.objects; held = t.held; parts = t.parts; lengths = t.lengths; rebuilt = t.rebuilt }

abbrev pub create_tables : Result (ℕ × ℕ) Refusal → Tables → ℕ → ℕ → Tables
create_tables c t key time = record { sessions = opened_rows c t.sessions key time; streams = opened_streams c t.streams; objects = t.objects; held = t.held; parts = t.parts; lengths = t.lengths; rebuilt = t.rebuilt }

abbrev pub put_tables : Tables → ℕ → Object → Tables
put_tables t id o =
    record { sessions = keep_stored t.sessions id (stored_object t.sessions t.objects id o); streams = t.streams; objects = stored_objects t.sessions t.objects id o; held = t.held; parts = t.parts; lengths = t.lengths; rebuilt = t.rebuilt }

abbrev pub drop_tables : Tables → ℕ → ObjectNumber → Tables
drop_tables t id n =
    record { sessions = keep_removed t.sessions id (taken_object t.sessions t.objects id n); streams = t.streams; objects = removed_objects t.sessions t.objects id n; held = t.held; parts = t.parts; lengths = t.lengths; rebuilt = t.rebuilt }

abbrev pub open_tables : Tables → ℕ → ℕ → Tables
open_tables t id n =
    record { sessions = opened_count (stream_place t.sessions t.streams id n) t.sessions id; streams = opened_in (stream_place t.sessions t.streams id n) t.streams id n; objects = t.objects; held = t.held; parts = t.parts; lengths = t.lengths; rebuilt = t.rebuilt }

abbrev pub write_tables : Tables → ℕ → StreamState → Tables
write_tables t id s =
    record { sessions = t.sessions; streams = written_in (stream_place t.sessions t.streams id s.stream_id) t.streams id s; objects = t.objects; held = t.held; parts = t.parts; lengths = t.lengths; rebuilt = t.rebuilt }

abbrev pub send_tables : Tables → ℕ → ℕ → List ℕ → Tables
send_tables t id n message =
    record { sessions = t.sessions; streams = sent_streams t.sessions t.streams t.held id n message; objects = t.objects; held = sent_held t.sessions t.streams t.held id n message; parts = t.parts; lengths = t.lengths; rebuilt = t.rebuilt }

abbrev pub gather_tables : Tables → ℕ → ℕ → ℕ → List ℕ → Tables
gather_tables t id nr total body =
    record { sessions = gathered_rows t.sessions t.parts t.lengths t.rebuilt id nr total body; streams = t.streams; objects = t.objects; held = t.held; parts = gathered_parts t.sessions t.parts t.lengths id nr total body; lengths = gathered_lengths t.sessions t.parts t.lengths id nr total body; rebuilt = gathered_rebuilt t.sessions t.parts t.lengths t.rebuilt id nr total body }

-- ---- calls one behind the other

pub data Call : Type 0 where
  -- the limit
  set_up : ℕ → Call
  -- the limit, the pointer, the key and the time
  create : ℕ → ℕ → ℕ → ℕ → Call
  -- an id, and the time
  touch : ℕ → ℕ → Call
  remove : ℕ → Call
  -- the time, the timeout and the lent output
  sweep : ℕ → ℕ → List ℕ → Call
  -- an id, and an object or its number
  put : ℕ → Object → Call
  delete : ℕ → ObjectNumber → Call
  -- an id, and a stream's number or state
  open_stream : ℕ → ℕ → Call
  write_stream : ℕ → StreamState → Call
  -- an id, a stream's number, and a message
  send : ℕ → ℕ → List ℕ → Call
  -- an id, and a fragment: its number, its total and its body
  gather : ℕ → ℕ → ℕ → List ℕ → Call

unfoldable pub after_call : Call → Tables → Tables
after_call (set_up max) t = set_up_tables (set_up_of (length t.sessions) (length t.streams) (length t.objects) (length t.held) (length t.parts) (length t.lengths) (length t.rebuilt) max) t
after_call (create max next key time) t = create_tables (created_of t.sessions t.streams max next) t key time
after_call (touch id time) t = with_sessions t (touched_rows t.sessions id time)
after_call (remove id) t = with_sessions t (ended_rows t.sessions id)
after_call (sweep time timeout out) t = with_sessions t (evicted_rows t.sessions time timeout out)
after_call (put id o) t = put_tables t id o
after_call (delete id n) t = drop_tables t id n
after_call (open_stream id n) t = open_tables t id n
after_call (write_stream id s) t = write_tables t id s
after_call (send id n message) t = send_tables t id n message
after_call (gather id nr total body) t = gather_tables t id nr total body

unfoldable pub after_calls : List Call → Tables → Tables
after_calls [] t = t
after_calls (c ∷ cs) t = after_calls cs (after_call c t)

-- ids and streams' numbers are of 8 bits, as the types of the arguments say; no limit is over the most for which bytes are lent; of a state
-- that is written back P is known
unfoldable pub Given : (StreamState → Type 0) → ℕ → Call → Type 0
Given P most (set_up max) = Unit {0}
Given P most (create max next key time) = (next < 256) × (max ≤ most)
Given P most (touch id time) = id < 256
Given P most (remove id) = id < 256
Given P most (sweep time timeout out) = Unit {0}
Given P most (put id o) = id < 256
Given P most (delete id n) = id < 256
Given P most (open_stream id n) = (id < 256) × (n < 256)
Given P most (write_stream id s) = (id < 256) × (s.stream_id < 256) × P s
Given P most (send id n message) = (id < 256) × (n < 256)
Given P most (gather id nr total body) = id < 256

unfoldable pub AllGiven : (StreamState → Type 0) → ℕ → List Call → Type 0
AllGiven P most [] = Unit {0}
AllGiven P most (c ∷ cs) = Given P most c × AllGiven P most cs

-- ---- what holds of all tables that calls lead to

-- `write_stream` takes any state, so the streams are as sound as what was written: P is what is known of every state that is written
-- back, if it holds of a stream just opened, of a row's stream where it holds of the one that was written, and of one that records a message of
-- any length under its next number, with any room and whatever is answered, and goes on by one
pub record Lasting (P : StreamState → Type 0) : Type 0 where
  pub opens : (n : ℕ) → P (new_stream n)
  pub reads : (s : StreamState) → P s → P (stream_of (stream_row s))
  pub sends : (s : StreamState) (len room : ℕ) → P s → P (alloc_of (record_of s s.next_send_seq len room).state).state

-- what lasts of the agent's streams: streams' own soundness, and that their numbers have 16 bits, as in memory, so that document 02's "16 held" can be counted
pub record SoundStream (s : StreamState) : Type 0 where
  pub sound : Sound s
  pub bits : SixteenBits s

-- the fragments of an id, live or not, as codec has a store
abbrev pub fragments_in : Part → Store
fragments_in p = record { buffer = buffer_with p.session.total p.session.received; slots = p.parts; lengths = p.lengths }

-- the part of an id, live or not: "A session holds 32 objects and 8 streams, stream 0 included", and no two have one number; a live one has
-- stream 0 at its first place, since `create_session` opens it; of its fragments codec's soundness holds, and one that is not live has none
pub record SoundPart (P : StreamState → Type 0) (p : Part) : Type 0 where
  pub few_objects : p.session.objects ≤ 32
  pub few_streams : p.session.streams ≤ 8
  pub objects_differ : Distinct (object_numbers (objects_shown p))
  pub streams_differ : Distinct (stream_numbers (streams_shown p))
  pub written : (k : ℕ) → k < p.session.streams → P (stream_of (get_or p.streams k []))
  pub few_fragments : p.session.total ≤ most_fragments
  pub fragments : codec.Sound (fragments_in p)
  pub fragments_gone : eqb p.session.live 0 ≡ true → p.session.total ≡ 0
  pub stream_zero : eqb p.session.live 0 ≡ false → (1 ≤ p.session.streams) × ((stream_of (get_or p.streams 0 [])).stream_id ≡ 0)

-- the slots of live sessions: each is below the most, and no two have one
pub record SoundSlots (most : ℕ) (rows : List (List ℕ)) : Type 0 where
  pub under : (id : ℕ) → id < 256 → is_free rows id ≡ false → (session_at rows id).slot < most
  pub differ : (i j : ℕ) → i < 256 → j < 256 → is_free rows i ≡ false → is_free rows j ≡ false → (session_at rows i).slot ≡ (session_at rows j).slot → i ≡ j

-- each store is as long as its documented need, and id 0 is not live
pub record SoundTables (P : StreamState → Type 0) (most : ℕ) (t : Tables) : Type 0 where
  pub sessions_need_lem : 256 ≤ length t.sessions
  pub streams_need_lem : 2048 ≤ length t.streams
  pub objects_need_lem : 8192 ≤ length t.objects
  pub held_need_lem : held_need most ≤ length t.held
  pub parts_need_lem : parts_need most ≤ length t.parts
  pub lengths_need_lem : lengths_need most ≤ length t.lengths
  pub rebuilt_need_lem : rebuilt_need ≤ length t.rebuilt
  pub zero_free : is_free t.sessions 0 ≡ true
  pub slots : SoundSlots most t.sessions
  pub each : (id : ℕ) → id < 256 → SoundPart P (table_part t id)

-- calls lead from tables to sound ones, and each store is as long as it was
pub record LeadsTo (P : StreamState → Type 0) (most : ℕ) (t t' : Tables) : Type 0 where
  pub sound : SoundTables P most t'
  pub sessions_length : length t'.sessions ≡ length t.sessions
  pub streams_length : length t'.streams ≡ length t.streams
  pub objects_length : length t'.objects ≡ length t.objects
  pub held_length : length t'.held ≡ length t.held
  pub parts_length : length t'.parts ≡ length t.parts
  pub lengths_length : length t'.lengths ≡ length t.lengths
  pub rebuilt_length : length t'.rebuilt ≡ length t.rebuilt
