-- What refuses a datagram or an answer before it runs: "15 is checked first", 16 "right after 15", then W8's 20, then 1 to 5, then 12, then 14.
use Rattle.std.specs.Prelude.{ℕ, ◌+◌, Bool, true, false, cond, not, List, [], eqb, ltb, length, get_or, Err, None, Ok, Option, Result, Some}
use Rattle.codec.specs.Reading.{count_at, check_of}
use Rattle.codec.specs.Rebuilt.{rebuilt_at}
use Rattle.codec.specs.declared.header.MessageHeader.{MessageHeader}
use Rattle.codec.specs.declared.refusals.Refusal.TheVariants.{OutOfTurn, OverLimit, TooLong, StoreFull, NoSuchMinute}
use Rattle.sessions.specs.Limits.{limits_of}
use Rattle.sessions.specs.Sending.{data_slot}
use Rattle.sessions.specs.View.{Tables}
use Rattle.hours.specs.Windows.{week_minutes}
use Rattle.hours.specs.Week.{is_minute, open_in}
use Rattle.agent.specs.Brings.{moment_of}
use Rattle.agent.specs.Lent.{rebuilt_part}
use Rattle.moves.specs.Calls.{fits}
use Rattle.moves.specs.Proxy.{answer_as, task_as}
use Rattle.agent.specs.declared.state.Agent.{Agent}
use Rattle.agent.specs.declared.judge.Input.{Input}
use Rattle.agent.specs.declared.judge.Input.TheVariants as input
use Rattle.agent.specs.declared.state.Given.{Given}
use Rattle.agent.specs.declared.state.Moment.{Moment}
use Rattle.agent.specs.declared.state.Pending.{Pending}
use Rattle.agent.specs.declared.judge.Start.{Start}
use Rattle.agent.specs.declared.judge.Turn.{Turn}
use Rattle.agent.specs.declared.judge.Turn.TheVariants as turn
use Rattle.moves.specs.declared.proxy.BridgeAnswer.{BridgeAnswer}
use Rattle.moves.specs.declared.proxy.BridgeAnswer.TheVariants.{Created, Done, Sample, NoSample, Failed}
use Rattle.codec.specs.declared.refusals.Refusal.{Refusal}

-- ---- 15: "While a bridge call is open, datagrams .. are out of turn"; "answer, no call open", "or answer of another kind"

abbrev pub answers_of : Pending → BridgeAnswer → Result Turn Refusal
answers_of p a = cond (fits (task_as p.task) (answer_as a [])) (Ok (turn.Answer p a)) (Err OutOfTurn)

abbrev pub idle_turn : Input → Result Turn Refusal
idle_turn input.Datagram = (Ok turn.Datagram)
idle_turn (input.Answer a) = Err OutOfTurn

abbrev pub busy_turn : Pending → Input → Result Turn Refusal
busy_turn p input.Datagram = Err OutOfTurn
busy_turn p (input.Answer a) = answers_of p a

abbrev pub turn_of : Option Pending → Input → Result Turn Refusal
turn_of None i = idle_turn i
turn_of (Some p) i = busy_turn p i

-- ---- 16: of the record, the stores, and the rows of the session that the call names

abbrev pub session_of : List ℕ → Result Turn Refusal → ℕ
session_of d (Ok turn.Datagram) = get_or d 0 0
session_of d (Ok (turn.Answer p a)) = p.session_id
session_of d (Err r) = 0

-- and its stream
abbrev pub stream_of : List ℕ → Result Turn Refusal → ℕ
stream_of d (Ok turn.Datagram) = get_or d 1 0
stream_of d (Ok (turn.Answer p a)) = p.stream_id
stream_of d (Err r) = 0

abbrev pub record_sound : Agent → Bool
record_sound a = cond (ltb 255 a.max_clients) false (not (eqb a.next 0))

abbrev pub sound_of : Agent → Result (Unit {0}) Refusal → Bool
sound_of a (Ok tt) = record_sound a
sound_of a (Err r) = false

-- ---- 20: "weekday over 6 or minute over 1,439"; then 1 to 5. 16 comes before, of the store of the week's minutes too.

abbrev pub datagram_start : Agent → Moment → MessageHeader → ℕ → Start
datagram_start a moment h room =
    record { frame = record { max_clients = a.max_clients; moment = moment; session_id = h.session_id; stream_id = h.stream_id; room = room }; next = a.next; at = 4; left_at = 0; left_end = 0; resumes = None }

abbrev pub checked_judged : Agent → Moment → ℕ → Result (MessageHeader × ℕ) Refusal → Result (Start × ℕ) Refusal
checked_judged a moment room (Ok (h, n)) = Ok ((datagram_start a moment h room), n)
checked_judged a moment room (Err r) = Err r

abbrev pub minute_judged : List ℕ → List ℕ → Agent → Given → ℕ → Result (Start × ℕ) Refusal
minute_judged hours d a given room =
    cond (is_minute given.day given.minute) (checked_judged a (moment_of (open_in hours) given) room (check_of d)) (Err NoSuchMinute)

abbrev pub datagram_judged : List ℕ → List ℕ → Agent → Result (Unit {0}) Refusal → Given → ℕ → Result (Start × ℕ) Refusal
datagram_judged hours d a l given room =
    cond (sound_of a l) (cond (ltb (length hours) week_minutes) (Err OverLimit) (minute_judged hours d a given room)) (Err OverLimit)

-- ---- 12, "payload or string over 65,535 bytes": the DATA that a sample would need

abbrev pub too_long : BridgeAnswer → ℕ → Bool
too_long Sample n = ltb 65533 n
too_long (Created h) n = false
too_long Done n = false
too_long NoSample n = false
too_long Failed n = false

-- ---- 14, W5: "A reply that would be held is refused as 14 if over 1,024 bytes", its header of ten bytes counted; or what its stream has no place for

abbrev pub sample_slot : Pending → List (List ℕ) → List (List ℕ) → ℕ → ℕ → Result (Option ℕ) Refusal
sample_slot p s x held n =
    cond (eqb p.stream_id 0) (Ok None)
    (cond (ltb 1014 n) (Err StoreFull) (data_slot s x held p.session_id p.stream_id (10 + n)))

abbrev pub answer_slot : Pending → BridgeAnswer → List (List ℕ) → List (List ℕ) → ℕ → ℕ → Result (Option ℕ) Refusal
answer_slot p Sample s x held n = sample_slot p s x held n
answer_slot p (Created h) s x held n = (Ok None)
answer_slot p Done s x held n = (Ok None)
answer_slot p NoSample s x held n = (Ok None)
answer_slot p Failed s x held n = (Ok None)

abbrev pub slot_of : Result Turn Refusal → List (List ℕ) → List (List ℕ) → ℕ → ℕ → Result (Option ℕ) Refusal
slot_of (Ok (turn.Answer p b)) s x held n = answer_slot p b s x held n
slot_of (Ok turn.Datagram) s x held n = (Ok None)
slot_of (Err r) s x held n = (Ok None)

-- the submessages behind the call's own, in the datagram lent again, with the moment and the header that it had
abbrev pub answer_start : Agent → Pending → BridgeAnswer → ℕ → Start
answer_start a p b room =
    record { frame = record { max_clients = a.max_clients; moment = p.moment; session_id = p.session_id; stream_id = p.stream_id; room = room }; next = a.next; at = p.at; left_at = p.left_at; left_end = p.left_end; resumes = Some (p.number, p.task, b) }

abbrev pub placed_judged : Result (Option ℕ) Refusal → Result (Start × ℕ) Refusal → Result (Start × ℕ) Refusal
placed_judged (Ok (Some i)) j = j
placed_judged (Ok None) j = j
placed_judged (Err r) j = Err r

abbrev pub rest_judged : Agent → Pending → BridgeAnswer → ℕ → Result (Option ℕ) Refusal → ℕ → Result (MessageHeader × ℕ) Refusal → Result (Start × ℕ) Refusal
rest_judged a p b sample place room (Ok (h, n)) = cond (too_long b sample) (Err TooLong) (placed_judged place (Ok ((answer_start a p b room), n)))
rest_judged a p b sample place room (Err r) = Err OverLimit

abbrev pub header_of : Pending → MessageHeader
header_of p = record { session_id = p.session_id; stream_id = p.stream_id; sequence_nr = 0 }

-- W6: rebuilt bytes, at most 32,768, read from the call's place to their end too, and none of them was barred
abbrev pub is_read : Result ℕ Refusal → Bool
is_read (Ok n) = true
is_read (Err r) = false

abbrev pub left_kept : List ℕ → Pending → Bool
left_kept left p = cond (ltb 32768 p.left_end) false (cond (ltb (length left) p.left_at) false (is_read (rebuilt_at left p.left_at)))

-- "A datagram whose bridge call is open may be lent again with the answer": it reads from the call's place to its end, else 16
abbrev pub answer_judged : List ℕ → List ℕ → Agent → Result (Unit {0}) Refusal → Pending → BridgeAnswer → ℕ → Result (Option ℕ) Refusal → ℕ → Result (Start × ℕ) Refusal
answer_judged d rebuilt a l p b sample place room =
    cond (sound_of a l)
    (cond (left_kept (rebuilt_part rebuilt p.left_end) p)
    (cond (ltb (length d) p.at) (Err OverLimit) (rest_judged a p b sample place room (count_at (header_of p) d p.at)))
    (Err OverLimit))
    (Err OverLimit)

abbrev pub judged_by : List ℕ → List ℕ → List ℕ → Agent → Result (Unit {0}) Refusal → Result Turn Refusal → Given → ℕ → Result (Option ℕ) Refusal → ℕ → Result (Start × ℕ) Refusal
judged_by hours d rebuilt a l (Ok turn.Datagram) given sample place room = datagram_judged hours d a l given room
judged_by hours d rebuilt a l (Ok (turn.Answer p b)) given sample place room = answer_judged d rebuilt a l p b sample place room
judged_by hours d rebuilt a l (Err r) given sample place room = Err r

-- with the store of the week's minutes, what the host gives with a datagram, the length of a sample, and the output's
unfoldable pub judge_of : Tables → List ℕ → List ℕ → Agent → Input → Given → ℕ → ℕ → Result (Start × ℕ) Refusal
judge_of t hours d a i given sample room =
    let x = turn_of a.waits i in
    judged_by hours d t.rebuilt a (limits_of t.sessions t.streams t.objects (length t.held) (length t.parts) t.lengths (length t.rebuilt) a.max_clients (session_of d x) (stream_of d x)) x given sample (slot_of x t.sessions t.streams (length t.held) sample) room
