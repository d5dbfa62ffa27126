-- The agent that a host calls, as `isolation` speaks of one: the record and the lent tables, and what the entry points do to them, but for the listing and the question for the first open minute, which change nothing,
-- by the very definitions that their contracts cite.
use Rattle.std.specs.Prelude.{ℕ, ◌<◌, true, false, List, [], eqb, ltb, cond, length, take, Bool, Err, None, Ok, Result, Some, Option}
use Rattle.codec.specs.Bytes.{AllBytes}
use Rattle.codec.specs.Answers.{Answer, gives, refusal}
use Rattle.codec.specs.Refusals.{number_of, byte_of}
use Rattle.isolation.specs.Claim as claim
use Rattle.hours.specs.Windows.{Window, is_open}
use Rattle.hours.specs.Week.{kept_hours, open_in}
use Rattle.sessions.specs.Setup.{leaves}
use Rattle.sessions.specs.Calls.{with_sessions, set_up_tables}
use Rattle.sessions.specs.View.{Tables, Local, local_of}
use Rattle.moves.specs.Calls.{Pending as Asked}
use Rattle.moves.specs.Proxy.{call_as, answer_as, task_as}
use Rattle.agent.specs.Rules.{rules}
use Rattle.agent.specs.Step as step
use Rattle.agent.specs.Step.{Reply}
use Rattle.agent.specs.Claim.{host_call, result_of}
use Rattle.agent.specs.Lent.{rebuilt_part}
use Rattle.agent.specs.Place.{subs_at, ins_at}
use Rattle.agent.specs.Host.{Leaves, set_up_judged, set_up_as, incoming_of, answer_of, idle_of, removed_by, removed_rows, swept_by, swept_rows, swept_out}
use Rattle.agent.specs.declared.process.Outcome.{Outcome}
use Rattle.agent.specs.declared.process.Outcome.TheVariants.{Replied, Called}
use Rattle.moves.specs.declared.proxy.BridgeAnswer.{BridgeAnswer}
use Rattle.agent.specs.declared.state.Agent.{Agent}
use Rattle.agent.specs.declared.state.Given.{Given}
use Rattle.agent.specs.declared.state.Pending.{Pending}
use Rattle.codec.specs.declared.refusals.Refusal.{Refusal}

-- ---- the state: "Between calls the host keeps tables and lent stores as the last call left them", and the datagram whose call is open

pub record State : Type 0 where
  pub agent : Agent
  pub tables : Tables
  pub hours : List ℕ
  pub lent : List ℕ

-- ---- the host's calls: a datagram is bytes, an id is a byte; an answer comes with any data

pub data Event : Type 0 where
  datagram : Given → (bytes : List ℕ) → AllBytes bytes → Event
  answer : BridgeAnswer → (sample : List ℕ) → Event
  removal : (id : ℕ) → id < 256 → Event
  sweep : (time : ℕ) → Event

-- ---- what a call leaves

pub record Did : Type 0 where
  pub state : State
  pub out : List ℕ
  pub result : step.Result

-- the datagram of a call that is handed out is kept
abbrev pub lent_after : Result Outcome Refusal → List ℕ → List ℕ → List ℕ
lent_after (Ok (Called c n)) bytes old = bytes
lent_after (Ok (Replied n)) bytes old = old
lent_after (Err r) bytes old = old

-- the answer in document 01's numbers, with the replies one by one
abbrev pub result_by : List ℕ → List Reply → Result Outcome Refusal → step.Result
result_by d rs (Ok (Replied n)) = step.ran rs None
result_by d rs (Ok (Called c n)) = step.ran rs (Some (call_as d c))
result_by d rs (Err r) = step.refused (number_of r) (byte_of r)

-- the bytes that an open call shows parts of: the datagram's, or (W6) the rebuilt ones, in their place
abbrev pub call_bytes : Option Pending → List ℕ → List ℕ → List ℕ
call_bytes None d rebuilt = d
call_bytes (Some p) d rebuilt = cond (eqb p.left_end 0) d (rebuilt_part rebuilt p.left_end)

abbrev pub did_by : List ℕ → List ℕ → List ℕ → Leaves → Did
did_by hours d old x =
    let shown = call_bytes x.processed.agent.waits d x.tables.rebuilt in
    record { state = record { agent = x.processed.agent; tables = x.tables; hours = hours; lent = lent_after x.processed.outcome d old }; out = x.out; result = result_by shown x.replies x.processed.outcome }

abbrev pub removed_result : Result Bool Refusal → step.Result
removed_result (Ok true) = step.removed true
removed_result (Ok false) = step.removed false
removed_result (Err r) = step.refused (number_of r) (byte_of r)

-- the ids that stand in the output
abbrev pub swept_result : List ℕ → Result ℕ Refusal → step.Result
swept_result out (Ok n) = step.swept (take n out)
swept_result out (Err r) = step.refused (number_of r) (byte_of r)

abbrev pub with_rows : State → List (List ℕ) → State
with_rows st rows = record { agent = st.agent; tables = with_sessions st.tables rows; hours = st.hours; lent = st.lent }

unfoldable pub step_of : State → Event → List ℕ → Did
step_of st (datagram given bytes small) out = did_by st.hours bytes st.lent (incoming_of st.agent st.tables st.hours out bytes given)
step_of st (answer b sample) out = did_by st.hours st.lent st.lent (answer_of st.agent st.tables out st.lent sample b)
step_of st (removal id small) out =
    let i = idle_of st.agent.waits st.agent in
    record { state = with_rows st (removed_rows i st.tables.sessions id); out = out; result = removed_result (removed_by i st.tables.sessions id) }
step_of st (sweep time) out =
    let i = idle_of st.agent.waits st.agent in
    let o = swept_out i st.agent st.tables.sessions time out in
    record { state = with_rows st (swept_rows i st.agent st.tables.sessions time out); out = o; result = swept_result o (swept_by i st.agent st.tables.sessions time out) }

-- ---- as an agent of `isolation`

-- what the tables keep of an id's session: ids are bytes, and rows behind the 256th are never read
abbrev pub session_in : Tables → ℕ → Option Local
session_in t id = cond (ltb id 256) (local_of t id) None

abbrev pub opens_as : List ℕ → List ℕ → Option Pending → Option step.Open
opens_as d rebuilt None = None
opens_as d rebuilt (Some p) =
    let asked : Asked = record { stream = p.stream_id; number = p.number.0; task = task_as p.task } in
    let left = ins_at p.moment p.stream_id (rebuilt_part rebuilt p.left_end) p.left_at in
    Some (record { session = p.session_id; pending = record { asked = asked; left = left }; rest = subs_at p.moment p.stream_id d p.at })

-- the same state as the step over lists has it
abbrev pub agent_of : State → step.Agent
agent_of st =
    record { max = st.agent.max_clients; timeout = st.agent.timeout_ms; is_open = open_in st.hours; tables = record { next = st.agent.next; at = session_in st.tables }; waits = opens_as st.lent st.tables.rebuilt st.agent.waits }

abbrev pub event_of : Event → step.Event
event_of (datagram given bytes small) = step.datagram given bytes
event_of (answer b sample) = step.answer (answer_as b sample)
event_of (removal id small) = step.removal id
event_of (sweep time) = step.sweep time

pub record Hosted : Type 0 where
  pub event : Event
  pub out : List ℕ

-- what `setup` answers of tables, of the store of the week's minutes and of the windows that it takes, and what it leaves: "An empty agent is one just set up."
abbrev pub set_up_with : Tables → List ℕ → List Window → ℕ → ℕ → Result Agent Refusal
set_up_with t hours ws max timeout = set_up_as (set_up_judged t (length hours) ws max) max timeout

-- its answer in document 01's numbers
abbrev pub set_up_answer : Result Agent Refusal → Answer Agent
set_up_answer (Ok a) = gives a
set_up_answer (Err r) = refusal r

abbrev pub empty_of : Tables → List ℕ → List Window → ℕ → Agent → State
empty_of t hours ws max a =
    let s = set_up_judged t (length hours) ws max in
    record { agent = a; tables = set_up_tables s t; hours = leaves s (kept_hours ws hours) hours; lent = [] }

-- its rules go by the windows that set-up takes, as they are given
module _ (t : Tables) (hours : List ℕ) (ws : List Window) (max timeout : ℕ) (a : Agent) where
  abbrev pub agent : claim.Agent (rules (is_open ws) timeout)
  agent = record {
    State = State;
    Event = Hosted;
    empty = empty_of t hours ws max a;
    table = λ st. session_in st.tables;
    step = λ st e. let d = step_of st e.event e.out in (d.state, result_of (is_open ws) max timeout (opens_as d.state.lent d.state.tables.rebuilt d.state.agent.waits) d.result);
    host_call = λ e. host_call (is_open ws) max timeout (event_of e.event);
  }
