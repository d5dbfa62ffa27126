-- The agent's record as a C host keeps it: a row of twenty-two numbers, each in the place of its field of `struct xrce_agent`.
use Rattle.std.specs.Prelude.{ℕ, ◌%◌, Bool, true, false, cond, List, [], ◌∷◌, eqb, leb, length, get_or, set, Err, None, Ok, Option, Result, Some}
use Rattle.agent.specs.declared.process.Outcome.{Outcome}
use Rattle.agent.specs.declared.process.Outcome.TheVariants.{Replied, Called}
use Rattle.agent.specs.declared.process.Processed.{Processed}
use Rattle.moves.specs.declared.proxy.BridgeCall.{BridgeCall}
use Rattle.moves.specs.declared.proxy.BridgeCall.TheVariants.{CreateParticipant, CreateTopic, CreateWriter, CreateReader, WriteData, ReadData, DeleteEntity}
use Rattle.moves.specs.declared.proxy.Task.{Task}
use Rattle.moves.specs.declared.proxy.Task.TheVariants.{Creating, Writing, Reading, Deleting}
use Rattle.agent.specs.declared.state.Agent.{Agent}
use Rattle.agent.specs.declared.state.Moment.{Moment}
use Rattle.agent.specs.declared.state.Pending.{Pending}
use Rattle.cabi.specs.declared.record.Record.{Record}
use Rattle.cabi.specs.declared.told.Told.{Told}
use Rattle.codec.specs.declared.refusals.Refusal.{Refusal}
use Rattle.codec.specs.declared.refusals.Refusal.TheVariants.{OverLimit}

-- ---- the first fourteen numbers: the agent between two calls

abbrev pub record_of : List ℕ → Record
record_of w =
    record {
      max_clients = get_or w 0 0;
      timeout_ms = get_or w 1 0;
      next = get_or w 2 0;
      task = get_or w 3 0;
      kind = get_or w 4 0;
      parent = get_or w 5 0;
      session = get_or w 6 0;
      stream = get_or w 7 0;
      number = get_or w 8 0;
      at = get_or w 9 0;
      time = get_or w 10 0;
      is_open = get_or w 11 0;
      left_at = get_or w 12 0;
      left_end = get_or w 13 0;
    }

-- the host lends one record; past the end of the slice all is 0
abbrev pub record_at : List (List ℕ) → Record
record_at rows = record_of (get_or rows 0 [])

-- the open call: "0 none, 1 a CREATE's, 2 a WRITE_DATA's, 3 a READ_DATA's, 4 a DELETE's"
abbrev pub task_in : ℕ → ℕ → ℕ → Task
task_in n kind parent = cond (eqb n 1) (Creating (kind % 256) (parent % 65536)) (cond (eqb n 2) Writing (cond (eqb n 3) Reading Deleting))

-- its datagram's time, and whether that datagram's minute is open (W8): 1, and every other number is closed
abbrev pub moment_in : Record → Moment
moment_in r = record { time = r.time; is_open = eqb r.is_open 1 }

abbrev pub pending_in : Record → Pending
pending_in r =
    record {
      session_id = r.session % 256;
      stream_id = r.stream % 256;
      number = record { 0 = r.number % 65536 };
      task = task_in r.task r.kind r.parent;
      at = r.at;
      moment = moment_in r;
      left_at = r.left_at;
      left_end = r.left_end;
    }

abbrev pub waits_in : Record → Option Pending
waits_in r = cond (eqb r.task 0) None (Some (pending_in r))

-- 16, "altered past a limit": a number that its field can't have makes the id pointer 0, which the agent refuses so right after 15
abbrev pub in_range : Record → Bool
in_range r =
    cond (leb r.next 255)
    (cond (leb r.task 4)
    (cond (leb r.kind 255) (cond (leb r.session 255) (cond (leb r.stream 255) (cond (leb r.number 65535) (leb r.parent 65535) false) false) false) false) false)
    false

abbrev pub next_in : Record → ℕ
next_in r = cond (in_range r) (r.next % 256) 0

unfoldable pub agent_in : Record → Agent
agent_in r = record { max_clients = r.max_clients; timeout_ms = r.timeout_ms; next = next_in r; waits = waits_in r }

-- the agent that the first record says; 16 where none is lent
abbrev pub agent_at : List (List ℕ) → Result Agent Refusal
agent_at rows = cond (eqb (length rows) 0) (Err OverLimit) (Ok (agent_in (record_at rows)))

-- ---- the same numbers of an agent

abbrev pub task_number : Task → ℕ
task_number (Creating kind parent) = 1
task_number Writing = 2
task_number Reading = 3
task_number Deleting = 4

abbrev pub task_kind : Task → ℕ
task_kind (Creating kind parent) = kind
task_kind Writing = 0
task_kind Reading = 0
task_kind Deleting = 0

abbrev pub task_parent : Task → ℕ
task_parent (Creating kind parent) = parent
task_parent Writing = 0
task_parent Reading = 0
task_parent Deleting = 0

abbrev pub open_number : Bool → ℕ
open_number b = cond b 1 0

abbrev pub idle_record : ℕ → ℕ → ℕ → Record
idle_record max timeout next =
    record { max_clients = max; timeout_ms = timeout; next = next; task = 0; kind = 0; parent = 0; session = 0; stream = 0; number = 0; at = 0; time = 0; is_open = 0; left_at = 0; left_end = 0 }

abbrev pub open_record : ℕ → ℕ → ℕ → Pending → Record
open_record max timeout next p =
    record {
      max_clients = max;
      timeout_ms = timeout;
      next = next;
      task = task_number p.task;
      kind = task_kind p.task;
      parent = task_parent p.task;
      session = p.session_id;
      stream = p.stream_id;
      number = p.number.0;
      at = p.at;
      time = p.moment.time;
      is_open = open_number p.moment.is_open;
      left_at = p.left_at;
      left_end = p.left_end;
    }

abbrev pub record_by : Option Pending → ℕ → ℕ → ℕ → Record
record_by None max timeout next = idle_record max timeout next
record_by (Some p) max timeout next = open_record max timeout next p

unfoldable pub record_for : Agent → Record
record_for a = record_by a.waits a.max_clients a.timeout_ms a.next

-- ---- the other eight: what the last call told; what a bridge call doesn't name is 0

abbrev pub told : ℕ → ℕ → ℕ → ℕ → ℕ → ℕ → ℕ → ℕ → Told
told wrote call handle topic start len type-start type-len =
    record { wrote = wrote; call = call; handle = handle; topic = topic; start = start; len = len; type_start = type-start; type_len = type-len }

-- enum xrce_call, 1 to 7
abbrev pub call_told : BridgeCall → ℕ → Told
call_told (CreateParticipant domain) n = told n 1 domain 0 0 0 0 0
call_told (CreateTopic p name type) n = told n 2 p.0 0 name.start name.len type.start type.len
call_told (CreateWriter p t) n = told n 3 p.0 t.0 0 0 0 0
call_told (CreateReader p t) n = told n 4 p.0 t.0 0 0 0 0
call_told (WriteData h body) n = told n 5 h.0 0 body.start body.len 0 0
call_told (ReadData h) n = told n 6 h.0 0 0 0 0 0
call_told (DeleteEntity h) n = told n 7 h.0 0 0 0 0 0

unfoldable pub nothing_told : ℕ → Told
nothing_told n = told n 0 0 0 0 0 0 0

unfoldable pub told_of : Result Outcome Refusal → Told
told_of (Ok (Replied n)) = nothing_told n
told_of (Ok (Called call n)) = call_told call n
told_of (Err r) = nothing_told 0

-- ---- the whole row

abbrev pub row_of : Record → Told → List ℕ
row_of r t =
    r.max_clients ∷ r.timeout_ms ∷ r.next ∷ r.task ∷ r.kind ∷ r.parent ∷ r.session ∷ r.stream ∷ r.number ∷ r.at ∷ r.time
    ∷ r.is_open ∷ r.left_at ∷ r.left_end
    ∷ t.wrote ∷ t.call ∷ t.handle ∷ t.topic ∷ t.start ∷ t.len ∷ t.type_start ∷ t.type_len ∷ []

abbrev pub kept_in : List (List ℕ) → Record → Told → List (List ℕ)
kept_in rows r t = set rows 0 (row_of r t)

-- a refused call leaves the record as it was
abbrev pub is_refused : Result Outcome Refusal → Bool
is_refused (Ok o) = false
is_refused (Err r) = true

abbrev pub records_after : List (List ℕ) → Processed → List (List ℕ)
records_after rows p = cond (is_refused p.outcome) rows (kept_in rows (record_for p.agent) (told_of p.outcome))
