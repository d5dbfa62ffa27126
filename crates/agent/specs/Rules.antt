-- The rules of one session: document 01's one-session machine, as an instance of `isolation`'s rules; and its handles.
use Rattle.std.specs.Prelude.{ℕ, Bool, List, [], ◌∷◌, Option, None, Some}
use Rattle.isolation.specs.Rules.{Rules}
use Rattle.isolation.specs.Machine.{Action, handles, resumes, Handles}
use Rattle.sessions.specs.View.{Entry, Local, start_of, expired}
use Rattle.moves.specs.Calls.{Call, create_participant, create_topic, create_writer, create_reader, write_data, read_data, delete_entity, Answer, created, succeeded, sample, no_sample, failed, Task, creating, deleting, writing, reading as readingTask}
use Rattle.moves.specs.Replies.{client_bytes}
use Rattle.agent.specs.Brings.{Datagram, Opening, In, parse}
use Rattle.agent.specs.RulesFragments.{Pending, handle, resumed, began_by, began_behind}

-- ---- the rules

abbrev pub start : ℕ → Opening → Local
start id o = start_of id o.key o.time

-- W8: "The windows are fixed at set-up": `is_open` says of a weekday and a minute whether a window holds it
abbrev pub rules : (ℕ → ℕ → Bool) → ℕ → Rules
rules is_open timeout = record {
  Datagram = Datagram;
  Opening = Opening;
  In = In;
  Ans = Answer;
  Call = Call;
  Pending = Pending;
  Local = Local;
  parse = parse is_open;
  status = client_bytes;
  start = start;
  handle = handle;
  resume = resumed;
  expired = λ l now. expired l now timeout;
}

-- ---- handles: "every handle in its calls came from its own CREATE"

abbrev pub handles_in : Call → List ℕ
handles_in (create_participant domain) = []
handles_in (create_topic participant name type) = participant ∷ []
handles_in (create_writer participant topic) = participant ∷ topic ∷ []
handles_in (create_reader participant topic) = participant ∷ topic ∷ []
handles_in (write_data writer bytes) = writer ∷ []
handles_in (read_data reader) = reader ∷ []
handles_in (delete_entity entity) = entity ∷ []

-- the objects that have a handle, with it
abbrev pub held_as : ℕ → Option ℕ → List (ℕ × ℕ) → List (ℕ × ℕ)
held_as number None more = more
held_as number (Some h) more = (number, h) ∷ more

abbrev pub handles_held : List Entry → List (ℕ × ℕ)
handles_held [] = []
handles_held (e ∷ es) = held_as e.number e.handle (handles_held es)

-- a handle is granted by the answer `created` to a CREATE, and by nothing else
abbrev pub granted_by : Task → ℕ → Answer → List (ℕ × ℕ)
granted_by (creating kind parent) number (created h) = (number, h) ∷ []
granted_by (creating kind parent) number succeeded = []
granted_by (creating kind parent) number (sample d) = []
granted_by (creating kind parent) number no_sample = []
granted_by (creating kind parent) number failed = []
granted_by deleting number a = []
granted_by writing number a = []
granted_by readingTask number a = []

-- "the tables when the submessage at work began": of rebuilt ones, the one that hands out a call
abbrev pub began : (is_open : ℕ → ℕ → Bool) (timeout : ℕ) → Action (rules is_open timeout) → Local
began is_open timeout (handles l i) = began_by i.fields i l
began is_open timeout (resumes l p a) = began_behind l p a

abbrev pub handles_of : (is_open : ℕ → ℕ → Bool) (timeout : ℕ) → Handles (rules is_open timeout)
handles_of is_open timeout = record {
  Handle = ℕ;
  uses = handles_in;
  holds = λ l. handles_held l.objects;
  grants = λ p a. granted_by p.asked.task p.asked.number a;
  began = began is_open timeout;
}
