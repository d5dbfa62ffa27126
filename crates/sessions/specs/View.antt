-- What the tables keep of a session, read as document 01's lists.
use Rattle.std.specs.Prelude.{ℕ, suc, ◌-◌, ◌<◌, ◌≡◌, Bool, true, false, cond, List, [], ◌∷◌, ◌++◌, map, eqb, ltb, length, take, drop, get_or, set, None, Some, Option}
use Rattle.streams.specs.Sent.{bytes_in}
use Rattle.streams.specs.View.{Kept, kept_of, fresh_of}
use Rattle.sessions.specs.Table.{session_at, elapsed_of}
use Rattle.sessions.specs.SessionObjects.{object_row}
use Rattle.sessions.specs.Streams.{stream_of, first_stream}
use Rattle.sessions.specs.Held.{held_part, buffer_at}
use Rattle.sessions.specs.Need.{most_body}
use Rattle.codec.specs.Inserts.{slots_of}
use Rattle.sessions.specs.FragmentStore.{FragmentStore, empty_store}
use Rattle.sessions.specs.Fragments.{own_parts, own_lengths}
use Rattle.sessions.specs.declared.objects.Object.{Object}
use Rattle.sessions.specs.declared.table.ClientSession.{ClientSession}

-- ---- what is lent

pub record Tables : Type 0 where
  pub sessions : List (List ℕ)
  pub streams : List (List ℕ)
  pub objects : List Object
  pub held : List ℕ
  pub parts : List ℕ
  pub lengths : List ℕ
  pub rebuilt : List ℕ

-- ---- one session

-- "a list of objects (number, kind, handle or none)"; W1: "every object record, the machine's too, holds its CREATE's parent number"
pub record Entry : Type 0 where
  pub number : ℕ
  pub kind : ℕ
  pub handle : Option ℕ
  pub parent : ℕ

abbrev pub entry_of : Object → Entry
entry_of o = record { number = o.number.0; kind = o.kind; handle = cond (eqb o.bridged 0) None (Some o.handle); parent = o.parent }

-- "a list of streams (number, next to send, expected, held messages)"; a held message is its bytes
abbrev pub KeptStream : Type 0
KeptStream = Kept (List ℕ)

-- a stream with its row and its buffer
abbrev pub stream_shown : List ℕ → List ℕ → KeptStream
stream_shown buffer w = kept_of (bytes_in buffer) (stream_of w)

-- "an id and what else the tables keep of its opening, a last activity, a list of objects .., a list of streams"; W6: "The machine for one session gains this store"
pub record Local : Type 0 where
  pub id : ℕ
  pub key : ℕ
  pub last : ℕ
  pub objects : List Entry
  pub streams : List KeptStream
  pub store : FragmentStore

-- "It starts with the id given, the opening datagram's time as last activity, no objects, and the streams that `create_session` opens."
abbrev pub start_of : ℕ → ℕ → ℕ → Local
start_of id key time = record { id = id; key = key; last = time; objects = []; streams = fresh_of 0 ∷ []; store = empty_store }

-- "Expired: now minus last activity (0 if the clock went back) exceeds the timeout."
abbrev pub expired : Local → ℕ → ℕ → Bool
expired l time timeout = ltb timeout (elapsed_of l.last time)

-- ---- the session's part of the tables

pub record Part : Type 0 where
  pub session : ClientSession
  pub objects : List Object
  pub streams : List (List ℕ)
  pub held : List ℕ
  pub parts : List ℕ
  pub lengths : List ℕ

unfoldable pub stream_rows : List (List ℕ) → ℕ → List (List ℕ)
stream_rows streams id = take 8 (drop (first_stream id) streams)

unfoldable pub listed : ℕ → List Object → List Entry
listed used row = map entry_of (take used row)

-- the streams in rows from place k on, each with its buffer
unfoldable pub shown_from : List ℕ → ℕ → List (List ℕ) → List KeptStream
shown_from held k [] = []
shown_from held k (w ∷ ws) = stream_shown (buffer_at held k) w ∷ shown_from held (suc k) ws

unfoldable pub opened : ℕ → List ℕ → List (List ℕ) → List KeptStream
opened used held rows = shown_from held 0 (take used rows)

abbrev pub table_part : Tables → ℕ → Part
table_part t id =
    record { session = session_at t.sessions id; objects = object_row t.objects id; streams = stream_rows t.streams id; held = held_part t.held (session_at t.sessions id); parts = own_parts t.sessions t.parts id; lengths = own_lengths t.sessions t.lengths id }

-- a session's objects, its streams, its fragments, and the session, or none where the id is not live
abbrev pub objects_shown : Part → List Entry
objects_shown p = listed p.session.objects p.objects

abbrev pub streams_shown : Part → List KeptStream
streams_shown p = opened p.session.streams p.held p.streams

abbrev pub store_shown : Part → FragmentStore
store_shown p = record { total = p.session.total; slots = slots_of most_body p.parts (take p.session.total p.lengths) }

abbrev pub session_shown : ℕ → Part → Local
session_shown id p = record { id = id; key = p.session.client_key; last = p.session.last_activity; objects = objects_shown p; streams = streams_shown p; store = store_shown p }

abbrev pub local_shown : ℕ → Part → Option Local
local_shown id p = cond (eqb p.session.live 0) None (Some (session_shown id p))

abbrev pub objects_of : Tables → ℕ → List Entry
objects_of t id = objects_shown (table_part t id)

abbrev pub streams_of : Tables → ℕ → List KeptStream
streams_of t id = streams_shown (table_part t id)

abbrev pub local_of : Tables → ℕ → Option Local
local_of t id = local_shown id (table_part t id)

-- ---- all sessions

abbrev pub absent : Option Local → Bool
absent None = true
absent (Some l) = false

-- a live session that is expired
abbrev pub lapsed : ℕ → ℕ → Option Local → Bool
lapsed time timeout None = false
lapsed time timeout (Some l) = expired l time timeout

-- which ids are free, and whose sessions are expired: the tests by which `live_from`, `free_from` and `expired_from` count, choose and list
abbrev pub free_ids : Tables → ℕ → Bool
free_ids t id = absent (local_of t id)

abbrev pub expired_at : Tables → ℕ → ℕ → ℕ → Bool
expired_at t time timeout id = lapsed time timeout (local_of t id)

-- ---- document 01's list of objects

abbrev pub blank_entry : Entry
blank_entry = record { number = 0; kind = 0; handle = None; parent = 0 }

-- the place of the first object of that number
abbrev pub one_past : Option ℕ → Option ℕ
one_past (Some i) = Some (suc i)
one_past None = None

abbrev pub place_in : List Entry → ℕ → Option ℕ
place_in [] n = None
place_in (e ∷ es) n = cond (eqb e.number n) (Some 0) (one_past (place_in es n))

abbrev pub held_at : List Entry → Option ℕ → Option Entry
held_at es (Some i) = Some (get_or es i blank_entry)
held_at es None = None

abbrev pub find_in : List Entry → ℕ → Option Entry
find_in es n = held_at es (place_in es n)

-- "lists its object .., in place of one of that number"
abbrev pub put_entry : List Entry → Option ℕ → Entry → List Entry
put_entry es (Some i) e = set es i e
put_entry es None e = es ++ (e ∷ [])

abbrev pub put_in : List Entry → Entry → List Entry
put_in es e = put_entry es (place_in es e.number) e

-- an object is dropped: the last one moves into its place
abbrev pub drop_at : List Entry → Option ℕ → List Entry
drop_at es (Some i) = take (length es - 1) (set es i (get_or es (length es - 1) blank_entry))
drop_at es None = es

abbrev pub drop_in : List Entry → ℕ → List Entry
drop_in es n = drop_at es (place_in es n)

-- ---- document 01's list of streams

-- the stream of a number
unfoldable pub stream_in : {A : Type 0} → List (Kept A) → ℕ → Option (Kept A)
stream_in [] n = None
stream_in (k ∷ ks) n = cond (eqb k.number n) (Some k) (stream_in ks n)

-- "A session holds .. 8 streams, stream 0 included": the stream of a number is opened where it is not; a ninth isn't
abbrev pub open_if : {A : Type 0} → Option (Kept A) → List (Kept A) → ℕ → List (Kept A)
open_if (Some k) ks n = ks
open_if None ks n = cond (ltb (length ks) 8) (ks ++ (fresh_of n ∷ [])) ks

abbrev pub open_in : {A : Type 0} → List (Kept A) → ℕ → List (Kept A)
open_in ks n = open_if (stream_in ks n) ks n

-- a stream is written back in the place of its number
unfoldable pub write_in : {A : Type 0} → List (Kept A) → Kept A → List (Kept A)
write_in [] k = []
write_in (x ∷ xs) k = cond (eqb x.number k.number) (k ∷ xs) (x ∷ write_in xs k)

-- ---- no two of a list have one number

unfoldable pub Distinct : List ℕ → Type 0
Distinct ns = (i j : ℕ) → i < length ns → j < length ns → get_or ns i 0 ≡ get_or ns j 0 → i ≡ j

abbrev pub object_numbers : List Entry → List ℕ
object_numbers es = map (λ (e : Entry). e.number) es

abbrev pub stream_numbers : {A : Type 0} → List (Kept A) → List ℕ
stream_numbers {A} ks = map (λ (k : Kept A). k.number) ks
