-- The exported calls, in the agent's own definitions: each is the agent's call on the agent that the record says.
use Rattle.std.specs.Prelude.{ℕ, cond, List, [], eqb, leb, length, Err, Ok, Result}
use Rattle.hours.specs.Windows.{windows_of}
use Rattle.hours.specs.Week.{kept_hours}
use Rattle.sessions.specs.Calls.{set_up_tables}
use Rattle.sessions.specs.Setup.{leaves}
use Rattle.sessions.specs.View.{Tables}
use Rattle.agent.specs.Host.{Leaves, process_of, set_up_judged, set_up_as, idle_of, removed_by, removed_rows, swept_by, swept_rows, swept_out}
use Rattle.agent.specs.declared.judge.Input.{Input}
use Rattle.agent.specs.declared.state.Given.{Given}
use Rattle.agent.specs.declared.judge.Input.TheVariants.{Datagram, Answer}
use Rattle.moves.specs.declared.proxy.BridgeAnswer.{BridgeAnswer}
use Rattle.moves.specs.declared.proxy.BridgeAnswer.TheVariants.{Created, Done, Sample, NoSample, Failed}
use Rattle.cabi.specs.Answers.{refused_as, outcome_as, removed_as, swept_as}
use Rattle.cabi.specs.Record.{record_at, agent_in, record_for, nothing_told, kept_in, records_after}
use Rattle.agent.specs.declared.state.Agent.{Agent}
use Rattle.codec.specs.declared.refusals.Refusal.{Refusal}
use Rattle.codec.specs.declared.refusals.Refusal.TheVariants.{OutOfTurn, OverLimit}

-- what a call leaves: its answer, the agent's record, the tables with the stores, the week's minutes, the lent output
pub record Left : Type 0 where
  pub answer : ℕ
  pub records : List (List ℕ)
  pub tables : Tables
  pub hours : List ℕ
  pub out : List ℕ

-- "a refused call changes no table and no lent byte"
abbrev pub refused_left : ℕ → List (List ℕ) → Tables → List ℕ → List ℕ → Left
refused_left why w t hours out = record { answer = why; records = w; tables = t; hours = hours; out = out }

-- ---- a datagram or an answer

-- 15, "answer of another kind", where the number names no input; 16 where no record is lent; else 0
abbrev pub bad_call : ℕ → ℕ → ℕ
bad_call records input = cond (leb input 5) (cond (eqb records 0) 16 0) 15

-- enum xrce_input: 0 a datagram, 1 created, 2 done, 3 a sample, 4 no sample, 5 failed
abbrev pub answer_in : ℕ → ℕ → BridgeAnswer
answer_in input handle =
    cond (eqb input 1) (Created (record { 0 = handle })) (cond (eqb input 2) Done (cond (eqb input 3) Sample (cond (eqb input 4) NoSample Failed)))

abbrev pub input_in : ℕ → ℕ → Input
input_in input handle = cond (eqb input 0) Datagram (Answer (answer_in input handle))

-- the input that the number names, or 15
abbrev pub input_named : ℕ → ℕ → Result Input Refusal
input_named input handle = cond (leb input 5) (Ok (input_in input handle)) (Err OutOfTurn)

-- the agent and its input, or why there is none: `bad_call` as a refusal
abbrev pub called : List (List ℕ) → ℕ → ℕ → Result (Agent × Input) Refusal
called w input handle = cond (leb input 5) (cond (eqb (length w) 0) (Err OverLimit) (Ok (agent_in (record_at w), input_in input handle))) (Err OutOfTurn)

-- a datagram comes with its time, weekday and minute (W8)
abbrev pub given_in : ℕ → ℕ → ℕ → Given
given_in time day minute = record { time = time; day = day; minute = minute }

abbrev pub processed_left : List (List ℕ) → List ℕ → Leaves → Left
processed_left w hours l = record { answer = outcome_as l.processed.outcome; records = records_after w l.processed; tables = l.tables; hours = hours; out = l.out }

unfoldable pub process_left : List (List ℕ) → Tables → List ℕ → List ℕ → List ℕ → List ℕ → ℕ → ℕ → ℕ → ℕ → ℕ → Left
process_left w t hours out d sample input time day minute handle =
    let why = bad_call (length w) input in
    cond (eqb why 0) (processed_left w hours (process_of (agent_in (record_at w)) t hours out d sample (input_in input handle) (given_in time day minute))) (refused_left why w t hours out)

-- ---- set-up

abbrev pub ready_records : List (List ℕ) → Result Agent Refusal → List (List ℕ)
ready_records w (Ok a) = kept_in w (record_for a) (nothing_told 0)
ready_records w (Err r) = w

abbrev pub ready_as : Result Agent Refusal → ℕ
ready_as (Ok a) = 0
ready_as (Err r) = refused_as r

-- what the windows open is kept until the next set-up (W8)
unfoldable pub set_up_left : List (List ℕ) → Tables → List ℕ → List (List ℕ) → ℕ → ℕ → Left
set_up_left w t hours windows max timeout =
    let s = set_up_judged t (length hours) (windows_of windows) max in
    cond (eqb (length w) 0) (refused_left 16 w t hours [])
    (record { answer = ready_as (set_up_as s max timeout); records = ready_records w (set_up_as s max timeout); tables = set_up_tables s t; hours = leaves s (kept_hours (windows_of windows) hours) hours; out = [] })

-- ---- a removal, and a sweep

abbrev pub remove_answer : List (List ℕ) → List (List ℕ) → ℕ → ℕ
remove_answer w s id = cond (eqb (length w) 0) 16 (removed_as (removed_by (idle_of (agent_in (record_at w)).waits (agent_in (record_at w))) s id))

abbrev pub remove_rows : List (List ℕ) → List (List ℕ) → ℕ → List (List ℕ)
remove_rows w s id = cond (eqb (length w) 0) s (removed_rows (idle_of (agent_in (record_at w)).waits (agent_in (record_at w))) s id)

abbrev pub sweep_answer : List (List ℕ) → List (List ℕ) → ℕ → List ℕ → ℕ
sweep_answer w s time out = cond (eqb (length w) 0) 16 (swept_as (swept_by (idle_of (agent_in (record_at w)).waits (agent_in (record_at w))) (agent_in (record_at w)) s time out))

abbrev pub sweep_rows : List (List ℕ) → List (List ℕ) → ℕ → List ℕ → List (List ℕ)
sweep_rows w s time out = cond (eqb (length w) 0) s (swept_rows (idle_of (agent_in (record_at w)).waits (agent_in (record_at w))) (agent_in (record_at w)) s time out)

abbrev pub sweep_out : List (List ℕ) → List (List ℕ) → ℕ → List ℕ → List ℕ
sweep_out w s time out = cond (eqb (length w) 0) out (swept_out (idle_of (agent_in (record_at w)).waits (agent_in (record_at w))) (agent_in (record_at w)) s time out)
