-- The host's calls over the lent tables: what the contracts of the entry points are equal to. That of the listing cites sessions' `list_of` and `list_out`, that of the first open minute hours' `first_open_of`.
use Rattle.std.specs.Prelude.{ℕ, zero, suc, ◌≡◌, ◌≤◌, ◌+◌, ◌-◌, ◌*◌, ◌/◌, Bool, true, false, cond, not, List, [], ◌++◌, eqb, leb, ltb, get_or, length, Err, None, Ok, Option, Result, Some}
use Rattle.codec.specs.Bytes.{word_at, put_at}
use Rattle.codec.specs.declared.refusals.Refusal.{Refusal}
use Rattle.codec.specs.declared.refusals.Refusal.TheVariants.{OutOfTurn, OverLimit, OutputTooShort}
use Rattle.codec.specs.declared.submessages.StatusCode.TheVariants as status
use Rattle.sessions.specs.Table.{session_at, got_of, named_of, ended_rows}
use Rattle.sessions.specs.Sweep.{evicted_of, evicted_out, evicted_rows}
use Rattle.sessions.specs.View.{Tables}
use Rattle.codec.specs.declared.submessages.ObjectNumber.{ObjectNumber}
use Rattle.sessions.specs.declared.objects.Object.{Object}
use Rattle.hours.specs.Windows.{Window, checked_of}
use Rattle.sessions.specs.Setup.{set_up_of}
use Rattle.agent.specs.Step.{Reply, joined_replies}
use Rattle.moves.specs.Rows.{Rows, rows, no_object}
use Rattle.agent.specs.Run.{Turned, Acted, before, run_at, work_at, left_acted, with_acted}
use Rattle.moves.specs.Answers.{keeps_of, says_of}
use Rattle.agent.specs.Lent.{lent, rows_of, with_rows, rebuilt_part}
use Rattle.agent.specs.Answered.{says_fits, sequence_of, says_bytes, answered_by, answered_sessions, answered_objects, answered_streams, answered_held}
use Rattle.agent.specs.Judge.{judge_of, record_sound}
use Rattle.agent.specs.declared.answers.Told.{Told}
use Rattle.moves.specs.declared.answers.Says.TheVariants as says
use Rattle.agent.specs.declared.state.Agent.{Agent}
use Rattle.agent.specs.declared.state.Given.{Given}
use Rattle.agent.specs.declared.judge.Input.{Input}
use Rattle.agent.specs.declared.judge.Input.TheVariants as input
use Rattle.agent.specs.declared.judge.Start.{Start}
use Rattle.agent.specs.declared.process.Outcome.{Outcome}
use Rattle.agent.specs.declared.process.Outcome.TheVariants.{Replied, Called}
use Rattle.agent.specs.declared.process.Processed.{Processed}
use Rattle.moves.specs.declared.proxy.Task.{Task}
use Rattle.moves.specs.declared.proxy.BridgeAnswer.{BridgeAnswer}
use Rattle.moves.specs.declared.proxy.BridgeAnswer.TheVariants.{Created, Done, Sample, NoSample, Failed}
use Rattle.agent.specs.declared.turn.Frame.{Frame}
use Rattle.agent.specs.declared.turn.Ran.{Ran}
use Rattle.agent.specs.declared.turn.Stop.{Stop}
use Rattle.agent.specs.declared.turn.Stop.TheVariants as stop
use Rattle.sessions.specs.declared.table.ClientSession.{ClientSession}
use Rattle.agent.specs.declared.state.Pending.{Pending}

-- ---- once nothing refuses it: the answer's part, if it is one, then the submessages behind it

abbrev pub begun_by : Option (ObjectNumber × Task × BridgeAnswer) → List (List ℕ) → List (List ℕ) → Frame → List ℕ → List Reply
begun_by None s x f sample = []
begun_by (Some (number, task, a)) s x f sample = answered_by (got_of s f.session_id) f (sequence_of s x f) sample number task a

abbrev pub begun_sessions : Option (ObjectNumber × Task × BridgeAnswer) → List (List ℕ) → List Object → Frame → List (List ℕ)
begun_sessions None s o f = s
begun_sessions (Some (number, task, a)) s o f = answered_sessions (got_of s f.session_id) (keeps_of number task a) s o f.session_id

abbrev pub begun_objects : Option (ObjectNumber × Task × BridgeAnswer) → List (List ℕ) → List Object → Frame → List Object
begun_objects None s o f = o
begun_objects (Some (number, task, a)) s o f = answered_objects (got_of s f.session_id) (keeps_of number task a) s o f.session_id

-- a DATA reply is held as it was sent
abbrev pub begun_bytes : ObjectNumber → Task → BridgeAnswer → List (List ℕ) → List (List ℕ) → Frame → List ℕ → List ℕ
begun_bytes number task a s x f sample = says_bytes (says_of task a) f (sequence_of s x f) number sample

abbrev pub begun_streams : Option (ObjectNumber × Task × BridgeAnswer) → List (List ℕ) → List (List ℕ) → List ℕ → Frame → List ℕ → List (List ℕ)
begun_streams None s x h f sample = x
begun_streams (Some (number, task, a)) s x h f sample = answered_streams (got_of s f.session_id) (says_of task a) f s x h (begun_bytes number task a s x f sample)

abbrev pub begun_held : Option (ObjectNumber × Task × BridgeAnswer) → List (List ℕ) → List (List ℕ) → List ℕ → Frame → List ℕ → List ℕ
begun_held None s x h f sample = h
begun_held (Some (number, task, a)) s x h f sample = answered_held (got_of s f.session_id) (says_of task a) f s x h (begun_bytes number task a s x f sample)

-- the same, as the code takes an answer apart
abbrev pub answers_now : Option (ObjectNumber × Task × BridgeAnswer) → Result (Option ClientSession) Refusal → Bool
answers_now None g = false
answers_now (Some (number, task, a)) (Ok (Some s)) = true
answers_now (Some (number, task, a)) (Ok None) = false
answers_now (Some (number, task, a)) (Err r) = false

abbrev pub told_by : Option (ObjectNumber × Task × BridgeAnswer) → Told
told_by None = record { keeps = None; says = says.Status status.Ok; number = no_object }
told_by (Some (number, task, a)) = record { keeps = keeps_of number task a; says = says_of task a; number = number }

abbrev pub rows_begun : Start → Rows → List ℕ → List ℕ → Rows
rows_begun x t h sample =
    rows (begun_sessions x.resumes t.sessions t.objects x.frame) (begun_streams x.resumes t.sessions t.streams h x.frame sample) (begun_objects x.resumes t.sessions t.objects x.frame)

abbrev pub held_begun : Start → Rows → List ℕ → List ℕ → List ℕ
held_begun x t h sample = begun_held x.resumes t.sessions t.streams h x.frame sample

abbrev pub with_held : Tables → List ℕ → Tables
with_held t h = lent t.sessions t.streams t.objects h t.parts t.lengths t.rebuilt

-- the stores behind the answer's part
abbrev pub begun : Start → Tables → List ℕ → Tables
begun x t sample = with_rows (with_held t (held_begun x (rows_of t) t.held sample)) (rows_begun x (rows_of t) t.held sample)

abbrev pub first_ran : Start → ℕ → Ran
first_ran x wrote = record { next = x.next; at = x.left_at; wrote = wrote; stop = stop.Nothing }

abbrev pub behind : List Reply → Acted → Acted
behind rs y = record { ran = y.ran; rows = y.rows; replies = rs ++ y.replies }

-- the answer's part, and the rebuilt submessages that waited for it (W6)
unfoldable pub resumed_acted : Start → Rows → List ℕ → List ℕ → List ℕ → Acted
resumed_acted x t h rebuilt sample =
    let rs = begun_by x.resumes t.sessions t.streams x.frame sample in
    behind rs
    (left_acted (work_at x.frame (held_begun x t h sample) (rebuilt_part rebuilt x.left_end) (first_ran x (length (joined_replies rs))) (rows_begun x t h sample)) x.left_end x.at)

abbrev pub resumed : Start → Tables → List ℕ → Turned
resumed x t sample = with_acted (with_held t (held_begun x (rows_of t) t.held sample)) (resumed_acted x (rows_of t) t.held t.rebuilt sample)

unfoldable pub performed : Start → Tables → List ℕ → List ℕ → Turned
performed x t d sample = before (resumed x t sample) (λ r t'. run_at x.frame d r t')

-- 12 and 14 have refused a longer sample
abbrev pub resumes_fit : Option (ObjectNumber × Task × BridgeAnswer) → ℕ → ℕ → Bool
resumes_fit None stream n = true
resumes_fit (Some (number, task, a)) stream n = says_fits (says_of task a) stream n

-- what has been asked before a call runs: 12 and 14, and that no count of replies wraps
pub record Prepared (x : Start) (sample : List ℕ) : Type 0 where
  pub sample_fits : resumes_fit x.resumes x.frame.stream_id (length sample) ≡ true
  pub room_counts : x.frame.room ≤ 9223372036854775807

-- and 16, of the stores of which a run on no output copies parts
pub record LongEnough (t : Tables) : Type 0 where
  pub sessions_long : 256 ≤ length t.sessions
  pub streams_long : 2048 ≤ length t.streams
  pub objects_long : 8192 ≤ length t.objects
  pub rebuilt_long : 32768 ≤ length t.rebuilt

-- ---- 13, last, and the answer to the host

-- the bound on what a call can reply, for 13: to the answer; 12 bytes to each submessage; and 16 messages of 1,024 bytes to each ACKNACK on a
-- stream other than 0. There are no more of these than submessages, so that they are counted only where the room wouldn't do for so many.
abbrev pub answer_most : BridgeAnswer → ℕ → ℕ
answer_most Sample n = cond (leb n 65533) (10 + n) 65543
answer_most (Created h) n = 11
answer_most Done n = 11
answer_most NoSample n = 11
answer_most Failed n = 11

abbrev pub first_most : Option (ObjectNumber × Task × BridgeAnswer) → ℕ → ℕ
first_most None n = 0
first_most (Some (number, task, a)) n = answer_most a n

abbrev pub one_of : ℕ → ℕ → ℕ
one_of id b = cond (eqb b id) 1 0

-- over the submessages from a place of the datagram on, by their headers: `one` takes the place of one and what those behind it come to, which is `none` at the end. "Submessage: id,
-- flags (a byte each), length (2), payload": the next begins behind the payload.
unfoldable pub headers_in : (ℕ → ℕ → ℕ) → ℕ → ℕ → List ℕ → ℕ → ℕ
headers_in one none zero d at = none
headers_in one none (suc left) d at = cond (ltb (length d) (at + 4)) none (one at (headers_in one none left d (at + 4 + word_at d (at + 2))))

abbrev pub headers_at : (ℕ → ℕ → ℕ) → ℕ → List ℕ → ℕ → ℕ
headers_at one none d at = headers_in one none (length d - at) d at

-- how many of an id there are from a place of the datagram on
abbrev pub ids_at : ℕ → List ℕ → ℕ → ℕ
ids_at id d at = headers_at (λ p n. one_of id (get_or d p 0) + n) 0 d at

-- 0x0E ACKNACK
abbrev pub asks_in : Start → List ℕ → ℕ
asks_in x d = cond (eqb x.frame.stream_id 0) 0 (ids_at 0x0E d x.at)

-- W6: rebuilt submessages are not bound: neither those that wait, nor what a FRAGMENT, 0x0F, may bring
abbrev pub unbound : Start → List ℕ → Bool
unbound x d = cond (eqb x.left_at x.left_end) (ltb 0 (ids_at 0x0F d x.at)) true

-- the total of the FRAGMENT at a place, "number (2), total (2), body" behind its header; more than any where another submessage stands, and 0 where the datagram ends before it
abbrev pub total_at : List ℕ → ℕ → ℕ
total_at d at = cond (eqb (get_or d at 0) 0x0F) (cond (ltb (length d) (at + 8)) 0 (word_at d (at + 6))) 65536

abbrev pub lesser : ℕ → ℕ → ℕ
lesser a b = cond (ltb b a) b a

-- the least total of the FRAGMENTs from a place of the datagram on, 65,536 if there are none
abbrev pub least_at : List ℕ → ℕ → ℕ
least_at d at = headers_at (λ p n. lesser (total_at d p) n) 65536 d at

-- how many fragments the header's session has received at most, once all FRAGMENTs of the datagram have come
abbrev pub received_most : Start → List (List ℕ) → List ℕ → ℕ
received_most x s d = (session_at s x.frame.session_id).received + ids_at 0x0F d x.at

-- none of them completes its message: even then these are fewer than the least of their totals
abbrev pub sparse : Start → List (List ℕ) → List ℕ → Bool
sparse x s d = cond (eqb (ids_at 0x0F d x.at) 0) true (ltb (received_most x s d) (least_at d x.at))

-- whether the call may handle rebuilt submessages
abbrev pub brings : Start → List (List ℕ) → List ℕ → Bool
brings x s d = cond (eqb x.left_at x.left_end) (not (sparse x s d)) true

abbrev pub bounded : ℕ → Start → ℕ → List ℕ → ℕ → Bool
bounded room x n d sample =
    let first = first_most x.resumes sample in
    let left = room - first in
    let most = (left - 12 * n) / 16384 in
    cond (ltb room first) false (cond (ltb (left / 12) n) false (cond (leb n most) true (leb (asks_in x d) most)))

abbrev pub roomy : ℕ → Start → List (List ℕ) → ℕ → List ℕ → ℕ → Bool
roomy room x s n d sample = cond (brings x s d) false (bounded room x n d sample)

abbrev pub needed_of : Bool → ℕ → ℕ
needed_of true n = 0
needed_of false n = n

abbrev pub outcome_of : Stop → ℕ → Result Outcome Refusal
outcome_of stop.Nothing wrote = Ok (Replied wrote)
outcome_of (stop.Call number task call) wrote = Ok (Called call wrote)
outcome_of (stop.Inside number task call a e) wrote = Ok (Called call wrote)

abbrev pub waits_of : Frame → Stop → ℕ → Option Pending
waits_of f stop.Nothing at = None
waits_of f (stop.Call number task call) at =
    Some (record { session_id = f.session_id; stream_id = f.stream_id; number = number; task = task; at = at; moment = f.moment; left_at = 0; left_end = 0 })
waits_of f (stop.Inside number task call a e) at =
    Some (record { session_id = f.session_id; stream_id = f.stream_id; number = number; task = task; at = at; moment = f.moment; left_at = a; left_end = e })

abbrev pub finished_of : Agent → Start → Ran → Processed
finished_of a x r =
    record { agent = record { max_clients = a.max_clients; timeout_ms = a.timeout_ms; next = r.next; waits = waits_of x.frame r.stop r.at }; outcome = outcome_of r.stop r.wrote }

-- what a call leaves: the record and the outcome, the tables, the lent output; and the replies in it, one by one
pub record Leaves : Type 0 where
  pub processed : Processed
  pub tables : Tables
  pub out : List ℕ
  pub replies : List Reply

-- a refusal changes no table and no lent byte
abbrev pub refused_of : Agent → Refusal → Processed
refused_of a r = record { agent = a; outcome = Err r }

abbrev pub refuse : Agent → Tables → List ℕ → Refusal → Leaves
refuse a t out r = record { processed = refused_of a r; tables = t; out = out; replies = [] }

abbrev pub finish : Agent → Tables → List ℕ → Start → Turned → Leaves
finish a t out x y =
    cond (ltb (length out) y.ran.wrote) (refuse a t out OutputTooShort)
    (record { processed = finished_of a x y.ran; tables = y.tables; out = put_at out 0 (joined_replies y.replies); replies = y.replies })

abbrev pub processed_by : Result (Start × ℕ) Refusal → Agent → Tables → List ℕ → List ℕ → List ℕ → Leaves
processed_by (Ok (x, n)) a t out d sample = finish a t out x (performed x t d sample)
processed_by (Err r) a t out d sample = refuse a t out r

unfoldable pub process_of : Agent → Tables → List ℕ → List ℕ → List ℕ → List ℕ → Input → Given → Leaves
process_of a t hours out d sample i given = processed_by (judge_of t hours d a i given (length sample) (length out)) a t out d sample

-- ---- the entry points

-- 16 of the sessions' stores, then 16 of the store of the week's minutes, then 19: "at set-up after 16"
abbrev pub set_up_by : Result ℕ Refusal → Result (Unit {0}) Refusal → Result ℕ Refusal
set_up_by (Ok next) (Ok tt) = Ok next
set_up_by (Ok next) (Err r) = Err r
set_up_by (Err r) w = Err r

abbrev pub set_up_judged : Tables → ℕ → List Window → ℕ → Result ℕ Refusal
set_up_judged t hours ws max =
    set_up_by (set_up_of (length t.sessions) (length t.streams) (length t.objects) (length t.held) (length t.parts) (length t.lengths) (length t.rebuilt) max) (checked_of hours ws)

abbrev pub set_up_as : Result ℕ Refusal → ℕ → ℕ → Result Agent Refusal
set_up_as (Ok next) max timeout = Ok (record { max_clients = max; timeout_ms = timeout; next = next; waits = None })
set_up_as (Err r) max timeout = Err r

abbrev pub incoming_of : Agent → Tables → List ℕ → List ℕ → List ℕ → Given → Leaves
incoming_of a t hours out d given = process_of a t hours out d [] input.Datagram given

-- an answer comes with nothing of the kind: its datagram's minute was looked up when it came
abbrev pub no_given : Given
no_given = record { time = 0; day = 0; minute = 0 }

abbrev pub answer_of : Agent → Tables → List ℕ → List ℕ → List ℕ → BridgeAnswer → Leaves
answer_of a t out d sample b = process_of a t [] out d sample (input.Answer b) no_given

-- 15, then 16 of the record: whether a removal or a sweep may run
abbrev pub idle_of : Option Pending → Agent → Result (Unit {0}) Refusal
idle_of None a = cond (record_sound a) (Ok tt) (Err OverLimit)
idle_of (Some p) a = Err OutOfTurn

abbrev pub removed_as : Result Bool Refusal → Result Bool Refusal
removed_as (Ok true) = (Ok true)
removed_as (Ok false) = (Ok false)
removed_as (Err r) = Err r

abbrev pub removed_by : Result (Unit {0}) Refusal → List (List ℕ) → ℕ → Result Bool Refusal
removed_by (Ok tt) s id = removed_as (named_of s id)
removed_by (Err r) s id = Err r

abbrev pub removed_rows : Result (Unit {0}) Refusal → List (List ℕ) → ℕ → List (List ℕ)
removed_rows (Ok tt) s id = ended_rows s id
removed_rows (Err r) s id = s

abbrev pub swept_by : Result (Unit {0}) Refusal → Agent → List (List ℕ) → ℕ → List ℕ → Result ℕ Refusal
swept_by (Ok tt) a s time out = evicted_of s time a.timeout_ms out
swept_by (Err r) a s time out = Err r

abbrev pub swept_rows : Result (Unit {0}) Refusal → Agent → List (List ℕ) → ℕ → List ℕ → List (List ℕ)
swept_rows (Ok tt) a s time out = evicted_rows s time a.timeout_ms out
swept_rows (Err r) a s time out = s

abbrev pub swept_out : Result (Unit {0}) Refusal → Agent → List (List ℕ) → ℕ → List ℕ → List ℕ
swept_out (Ok tt) a s time out = evicted_out s time a.timeout_ms out
swept_out (Err r) a s time out = out
