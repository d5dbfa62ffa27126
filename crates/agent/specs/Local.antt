-- What the rules do to the tables of the one-session machine: its id, key, last activity, objects, streams and fragments (sessions' `Local`).
use Rattle.std.specs.Prelude.{ℕ, Bool, false, List, leb, length, Option, None, Some}
use Rattle.streams.specs.View.{acknack_in, sent_in}
use Rattle.sessions.specs.FragmentStore.{FragmentStore}
use Rattle.sessions.specs.View.{Entry, KeptStream, Local, find_in, put_in, drop_in, stream_in, open_in, write_in}

-- "The time becomes the last activity"
abbrev pub touched : ℕ → Local → Local
touched time l = record { id = l.id; key = l.key; last = time; objects = l.objects; streams = l.streams; store = l.store }

-- ---- objects

abbrev pub with_objects : Local → List Entry → Local
with_objects l es = record { id = l.id; key = l.key; last = l.last; objects = es; streams = l.streams; store = l.store }

-- "lists its object with the handle returned or none, in place of one of that number", and (W1) with its CREATE's parent number
abbrev pub listing : ℕ → ℕ → Option ℕ → ℕ → Local → Local
listing number kind handle parent l = with_objects l (put_in l.objects (record { number = number; kind = kind; handle = handle; parent = parent }))

abbrev pub dropping : ℕ → Local → Local
dropping number l = with_objects l (drop_in l.objects number)

-- "A session holds 32 objects": a number that is not held finds no place
abbrev pub no_place : Option Entry → List Entry → Bool
no_place (Some e) es = false
no_place None es = leb 32 (length es)

abbrev pub full : ℕ → Local → Bool
full number l = no_place (find_in l.objects number) l.objects

-- the handle of an object, if it is there and has one: "as writer, reader or parent it counts as unknown"
abbrev pub entry_handle : Option Entry → Option ℕ
entry_handle None = None
entry_handle (Some e) = e.handle

-- "from any object of that number"
abbrev pub handle_at : ℕ → Local → Option ℕ
handle_at number l = entry_handle (find_in l.objects number)

-- ---- streams

abbrev pub with_streams : Local → List KeptStream → Local
with_streams l ss = record { id = l.id; key = l.key; last = l.last; objects = l.objects; streams = ss; store = l.store }

-- "both HEARTBEAT and ACKNACK open their stream"; "A session holds .. 8 streams, stream 0 included": a ninth isn't opened
abbrev pub opening : ℕ → Local → Local
opening n l = with_streams l (open_in l.streams n)

-- "`process_acknack` drops held numbers before `first_unacked_seq`", on the stream of that number, if it is open
abbrev pub acknowledged_by : ℕ → Option KeptStream → List KeptStream → List KeptStream
acknowledged_by first None ss = ss
acknowledged_by first (Some k) ss = write_in ss (acknack_in first k)

abbrev pub acknowledging : ℕ → ℕ → Local → Local
acknowledging n first l = with_streams l (acknowledged_by first (stream_in l.streams n) l.streams)

-- W5: a message "takes the next send sequence .. and is held", on its stream
abbrev pub sending : List ℕ → KeptStream → Local → Local
sending bytes k l = with_streams l (write_in l.streams (sent_in bytes k))

-- ---- fragments

abbrev pub with_store : Local → FragmentStore → Local
with_store l st = record { id = l.id; key = l.key; last = l.last; objects = l.objects; streams = l.streams; store = st }
