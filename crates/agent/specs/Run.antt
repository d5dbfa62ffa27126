-- A run over the lent tables: the submessages from a place of the datagram on, until a bridge call is handed out or the end.
use Rattle.std.specs.Prelude.{ℕ, zero, suc, ◌+◌, ◌-◌, Bool, true, false, cond, List, [], ◌∷◌, ◌++◌, map, ltb, length, Err, Ok, Result, Option, None, Some}
use Rattle.codec.specs.Bytes.{put_bytes}
use Rattle.codec.specs.Reading.{read_at, part_of}
use Rattle.codec.specs.Rebuilt.{rebuilt_of}
use Rattle.codec.specs.declared.submessages.AcknackPayload.{AcknackPayload}
use Rattle.codec.specs.declared.submessages.StatusCode.TheVariants as status
use Rattle.codec.specs.declared.submessages.StatusCode.TheVariants.{ErrResources}
use Rattle.streams.specs.Acknowledged.{repeats}
use Rattle.sessions.specs.Table.{named_of, touched_rows}
use Rattle.sessions.specs.Opening.{created_of}
use Rattle.sessions.specs.Sending.{message_of}
use Rattle.sessions.specs.Fragments.{gathered}
use Rattle.sessions.specs.Calls.{with_sessions, create_tables, gather_tables}
use Rattle.sessions.specs.declared.fragments.Gathered.{Gathered}
use Rattle.sessions.specs.declared.fragments.Gathered.TheVariants as gathered
use Rattle.sessions.specs.View.{Tables}
use Rattle.moves.specs.Moves.{move_bytes}
use Rattle.moves.specs.Rows.{Rows, rows, asks_of, blank_asked, handled_move, handled_rows}
use Rattle.moves.specs.RowsStreams.{read_of}
use Rattle.agent.specs.Lent.{rows_of, with_rows, rebuilt_part}
use Rattle.agent.specs.Step.{Reply, opened, replied, bytes_of}
use Rattle.moves.specs.declared.handle.Opening.{Opening}
use Rattle.moves.specs.declared.handle.Opening.TheVariants.{Client, Fragment, Other, Unread}
use Rattle.moves.specs.declared.moves.Move.{Move}
use Rattle.moves.specs.declared.moves.Move.TheVariants.{Greets, Status, Acknack, Repeats, Calls, Silent}
use Rattle.agent.specs.declared.turn.Frame.{Frame}
use Rattle.agent.specs.declared.turn.Ran.{Ran}
use Rattle.agent.specs.declared.turn.Stop.{Stop}
use Rattle.agent.specs.declared.turn.Taken.{Taken}
use Rattle.agent.specs.declared.turn.Stop.TheVariants as stop
use Rattle.codec.specs.declared.layouts.Cursor.{Cursor}
use Rattle.codec.specs.declared.refusals.Refusal.{Refusal}
use Rattle.codec.specs.declared.layouts.Span.{Span}
use Rattle.codec.specs.declared.submessages.Submessage.{Submessage}

-- ---- replies in the lent output, each written only where it fits

-- their bytes are counted on until the output has no room for them: so no count wraps, and 13 sees that they are too many
abbrev pub counted : ℕ → ℕ → ℕ → ℕ
counted room wrote n = cond (ltb room wrote) wrote (wrote + n)

unfoldable pub count_replies : ℕ → ℕ → List Reply → ℕ
count_replies room at [] = at
count_replies room at (r ∷ rs) = count_replies room (counted room at (length (bytes_of r))) rs

unfoldable pub put_replies : ℕ → List ℕ → ℕ → List Reply → List ℕ
put_replies room out at [] = out
put_replies room out at (r ∷ rs) = put_replies room (put_bytes out at (bytes_of r)) (counted room at (length (bytes_of r))) rs

-- ---- one submessage

-- what it leaves: the run so far, the tables, and its replies
pub record Turned : Type 0 where
  pub ran : Ran
  pub tables : Tables
  pub replies : List Reply

-- only a call ends the run
abbrev pub stop_of : Move → Stop
stop_of (Calls number task call) = stop.Call number task call
stop_of (Greets id code) = stop.Nothing
stop_of (Status number code) = stop.Nothing
stop_of (Acknack p) = stop.Nothing
stop_of (Repeats p) = stop.Nothing
stop_of Silent = stop.Nothing

abbrev pub settled : ℕ → ℕ → ℕ → Move → Ran
settled next at wrote m = record { next = next; at = at; wrote = wrote; stop = stop_of m }

-- CREATE_CLIENT: "with the new id and OK, or id 0 and ERR_RESOURCES"; the pointer goes on from the id taken
abbrev pub greeting : Result (ℕ × ℕ) Refusal → Move
greeting (Ok (id, next)) = Greets id status.Ok
greeting (Err r) = Greets 0 ErrResources

abbrev pub greeting_bytes : Result (ℕ × ℕ) Refusal → List ℕ
greeting_bytes c = move_bytes 0 0 (greeting c)

abbrev pub pointer_of : Result (ℕ × ℕ) Refusal → ℕ → ℕ
pointer_of (Ok (id, n)) next = n
pointer_of (Err r) next = next

abbrev pub id_opened : Result (ℕ × ℕ) Refusal → Option ℕ
id_opened (Ok (id, next)) = Some id
id_opened (Err r) = None

abbrev pub greeted : Frame → Ran → ℕ → Result (ℕ × ℕ) Refusal → Ran
greeted f r at c = settled (pointer_of c r.next) at (counted f.room r.wrote (length (greeting_bytes c))) (greeting c)

abbrev pub opening : Frame → Tables → Ran → ℕ → ℕ → Turned
opening f t r key at =
    let c = created_of t.sessions t.streams f.max_clients r.next in
    record { ran = greeted f r at c; tables = create_tables c t key f.moment.time; replies = opened (id_opened c) ∷ [] }

-- any other: "No such session: no reply. Otherwise the session is touched first with the datagram's time."
abbrev pub passed : Ran → ℕ → Ran
passed r at = record { next = r.next; at = at; wrote = r.wrote; stop = r.stop }

-- W5: "An ACKNACK is answered by the listed messages, byte for byte, in bit order": what its stream still holds of them
abbrev pub repeats_in : List (List ℕ) → List (List ℕ) → List ℕ → ℕ → ℕ → AcknackPayload → List (List ℕ)
repeats_in s x h id n p = map (message_of s x h id n) (repeats (read_of s x id n).state p.first_unacked_seq p.nack_bitmap)

abbrev pub replies_by : Frame → List (List ℕ) → List (List ℕ) → List ℕ → Move → List Reply
replies_by f s x h (Greets id code) = []
replies_by f s x h (Status number code) = replied f.session_id (move_bytes f.session_id f.stream_id (Status number code)) ∷ []
replies_by f s x h (Acknack p) = replied f.session_id (move_bytes f.session_id f.stream_id (Acknack p)) ∷ []
replies_by f s x h (Repeats p) = map (replied f.session_id) (repeats_in s x h f.session_id f.stream_id p)
replies_by f s x h (Calls number task call) = []
replies_by f s x h Silent = []

-- what a submessage leaves of the rows that it is handled over: the run so far, the rows, and its replies
pub record Acted : Type 0 where
  pub ran : Ran
  pub rows : Rows
  pub replies : List Reply

abbrev pub touched_in : Frame → Rows → Rows
touched_in f t = rows (touched_rows t.sessions f.session_id f.moment.time) t.streams t.objects

-- h: what is held of the messages sent
abbrev pub acted : Frame → Ran → ℕ → Move → Rows → List ℕ → Acted
acted f r at m t h =
    let rs = replies_by f t.sessions t.streams h m in
    record { ran = settled r.next at (count_replies f.room r.wrote rs) m; rows = t; replies = rs }

abbrev pub is_live : Result Bool Refusal → Bool
is_live (Ok true) = true
is_live (Ok false) = false
is_live (Err x) = false

-- what was read at a place, taken apart: what it asks for, its body, and the place behind it; where nothing was, the end
abbrev pub taken_of : Result (Submessage × Span × Cursor) Refusal → ℕ → Taken
taken_of (Ok (m, body, next)) len = record { asked = asks_of m; body = body; at = next.at }
taken_of (Err x) len = record { asked = blank_asked Unread; body = record { start = 0; len = 0 }; at = len }

abbrev pub delivered : Result Bool Refusal → Frame → Rows → List ℕ → List ℕ → Ran → Taken → Acted
delivered w f t h d r x =
    let u = touched_in f t in
    cond (is_live w)
    (acted f r x.at (handled_move f.moment.is_open x.asked u d f.session_id f.stream_id x.body) (handled_rows x.asked u f.session_id f.stream_id) h)
    (record { ran = passed r x.at; rows = u; replies = [] })

-- ---- rebuilt submessages (W6), in bytes that the check of rebuilt bytes let through: none of them opens a session or is a FRAGMENT

abbrev pub inside_by : Opening → Frame → Rows → List ℕ → List ℕ → Ran → Taken → Acted
inside_by Other f t h s r x = delivered (named_of t.sessions f.session_id) f t h s r x
inside_by Client f t h s r x = record { ran = passed r x.at; rows = t; replies = [] }
inside_by Fragment f t h s r x = record { ran = passed r x.at; rows = t; replies = [] }
inside_by Unread f t h s r x = record { ran = passed r x.at; rows = t; replies = [] }

unfoldable pub inside_turned : Frame → Rows → List ℕ → List ℕ → Ran → Acted
inside_turned f t h s r = let x = taken_of (read_at s r.at) (length s) in inside_by x.asked.opening f t h s r x

abbrev pub is_call : Stop → Bool
is_call stop.Nothing = false
is_call (stop.Call number task call) = true
is_call (stop.Inside number task call at end) = true

abbrev pub goes_on : ℕ → Ran → Bool
goes_on len r = cond (is_call r.stop) false (ltb r.at len)

unfoldable pub work_in : ℕ → Frame → List ℕ → List ℕ → Ran → Rows → Acted
work_in zero f h s r t = record { ran = r; rows = t; replies = [] }
work_in (suc left) f h s r t =
    cond (goes_on (length s) r)
    (let x = inside_turned f t h s r in let y = work_in left f h s x.ran x.rows in record { ran = y.ran; rows = y.rows; replies = x.replies ++ y.replies })
    (record { ran = r; rows = t; replies = [] })

-- all from the run's place on
unfoldable pub work_at : Frame → List ℕ → List ℕ → Ran → Rows → Acted
work_at f h s r t = work_in (length s - r.at) f h s r t

-- before the first of them, in their own bytes; and behind them, on in the datagram: a call that one of them handed out keeps the place behind it
abbrev pub entered_ran : Ran → Ran
entered_ran r = record { next = r.next; at = 0; wrote = r.wrote; stop = stop.Nothing }

abbrev pub inside_stop : Stop → ℕ → ℕ → Stop
inside_stop stop.Nothing at end = stop.Nothing
inside_stop (stop.Call number task call) at end = stop.Inside number task call at end
inside_stop (stop.Inside number task call a e) at end = stop.Inside number task call a e

abbrev pub left_ran : Ran → ℕ → ℕ → Ran
left_ran y end at = record { next = y.next; at = at; wrote = y.wrote; stop = inside_stop y.stop y.at end }

abbrev pub left_acted : Acted → ℕ → ℕ → Acted
left_acted y end at = record { ran = left_ran y.ran end at; rows = y.rows; replies = y.replies }

-- ---- a FRAGMENT: "When the last missing number comes, the store is emptied and the rebuilt bytes are read as submessages"; "On any of these no rebuilt
-- submessage takes effect, none is answered, and the datagram's later submessages are handled."

abbrev pub whole_len : Gathered → ℕ
whole_len gathered.Nothing = 0
whole_len (gathered.Held b) = 0
whole_len (gathered.Whole n) = n

-- s: the rebuilt bytes, n of them; at: the place behind the FRAGMENT in its datagram
abbrev pub left_by : Result ℕ Refusal → Frame → List ℕ → List ℕ → ℕ → Ran → ℕ → Rows → Acted
left_by (Ok k) f h s n r at t = left_acted (work_at f h s (entered_ran r) t) n at
left_by (Err x) f h s n r at t = record { ran = passed r at; rows = t; replies = [] }

abbrev pub with_acted : Tables → Acted → Turned
with_acted t a = record { ran = a.ran; tables = with_rows t a.rows; replies = a.replies }

abbrev pub whole_turned : Frame → Tables → ℕ → Ran → ℕ → Turned
whole_turned f t n r at = let s = rebuilt_part t.rebuilt n in with_acted t (left_by (rebuilt_of s) f t.held s n r at (rows_of t))

abbrev pub touched_tables : Frame → Tables → Tables
touched_tables f t = with_sessions t (touched_rows t.sessions f.session_id f.moment.time)

-- the stores with the FRAGMENT kept, and how many bytes it makes whole
abbrev pub gathers : Frame → Tables → List ℕ → Taken → Tables
gathers f t d x = gather_tables (touched_tables f t) f.session_id x.asked.first x.asked.second (part_of d x.body)

abbrev pub gathered_len : Frame → Tables → List ℕ → Taken → ℕ
gathered_len f t d x =
    let u = touched_tables f t in whole_len (gathered u.sessions u.parts u.lengths u.rebuilt f.session_id x.asked.first x.asked.second (part_of d x.body))

unfoldable pub fragment_turned : Frame → Tables → List ℕ → Ran → Taken → Turned
fragment_turned f t d r x =
    let u = touched_tables f t in
    let id = f.session_id in
    let nr = x.asked.first in
    let total = x.asked.second in
    let body = part_of d x.body in
    whole_turned f (gather_tables u id nr total body) (whole_len (gathered u.sessions u.parts u.lengths u.rebuilt id nr total body)) r x.at

-- ---- any submessage of a datagram

abbrev pub sub_turned : Opening → Frame → Tables → List ℕ → Ran → Taken → Turned
sub_turned Client f t d r x = opening f t r x.asked.key x.at
sub_turned Fragment f t d r x = fragment_turned f t d r x
sub_turned Other f t d r x = with_acted t (delivered (named_of t.sessions f.session_id) f (rows_of t) t.held d r x)
sub_turned Unread f t d r x = record { ran = passed r x.at; tables = t; replies = [] }

-- the datagram was checked before, so that a submessage is always read
abbrev pub turned_by : Result (Submessage × Span × Cursor) Refusal → Frame → Tables → List ℕ → Ran → Turned
turned_by p f t d r = let x = taken_of p (length d) in sub_turned x.asked.opening f t d r x

unfoldable pub turned : Frame → Tables → List ℕ → Ran → Turned
turned f t d r = turned_by (read_at d r.at) f t d r

-- ---- all of them

abbrev pub before : Turned → (Ran → Tables → Turned) → Turned
before x go = let y = go x.ran x.tables in record { ran = y.ran; tables = y.tables; replies = x.replies ++ y.replies }

unfoldable pub run_in : ℕ → Frame → List ℕ → Ran → Tables → Turned
run_in zero f d r t = record { ran = r; tables = t; replies = [] }
run_in (suc left) f d r t =
    cond (goes_on (length d) r) (before (turned f t d r) (λ r' t'. run_in left f d r' t')) (record { ran = r; tables = t; replies = [] })

-- each submessage takes bytes, so there are no more turns than bytes left
unfoldable pub run_at : Frame → List ℕ → Ran → Tables → Turned
run_at f d r t = run_in (length d - r.at) f d r t
