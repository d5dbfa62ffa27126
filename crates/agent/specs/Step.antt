-- The agent: a state, and what each call of the host does to it.
use Rattle.std.specs.Prelude.{ℕ, zero, suc, Bool, true, false, cond, List, [], ◌∷◌, ◌++◌, map, eqb, ltb, leb, length, Option, None, Some}
use Rattle.codec.specs.Bytes.{put_at}
use Rattle.codec.specs.Answers.{Answer as Read, gives, refused_as}
use Rattle.codec.specs.Grammar.{Said, reading}
use Rattle.codec.specs.declared.header.MessageHeader.{MessageHeader}
use Rattle.isolation.specs.Rules.{done, calls, Sub, opens, names}
use Rattle.hours.specs.Week.{is_minute}
use Rattle.sessions.specs.Opening.{after, live_from}
use Rattle.sessions.specs.Sweep.{expired_from}
use Rattle.streams.specs.View.{present, many_held}
use Rattle.sessions.specs.View.{KeptStream, Local, absent, expired, lapsed, stream_in}
use Rattle.moves.specs.Calls as calls
use Rattle.moves.specs.Calls.{Call, Answer, created, succeeded, sample, no_sample, failed, fits}
use Rattle.moves.specs.Replies.{client_bytes, data_bytes, data_payload}
use Rattle.agent.specs.Brings.{Opening, In, moment_of, message_from}
use Rattle.agent.specs.RulesFragments.{Pending, Working, handle, resumed}
use Rattle.agent.specs.Rules.{start}
use Rattle.agent.specs.declared.state.Given.{Given}

-- ---- the state

-- the sessions by id, and the pointer of `create_session`
pub record Tables : Type 0 where
  pub next : ℕ
  pub at : ℕ → Option Local

-- the open bridge call: the session that it is for, what is kept of its submessage, and its place in its datagram: what stands behind it
pub record Open : Type 0 where
  pub session : ℕ
  pub pending : Pending
  pub rest : List (Sub Opening In)

-- "Only `max_clients` and `session_timeout_ms`"; W8: which minutes of the week are open, "fixed at set-up"
pub record Agent : Type 0 where
  pub max : ℕ
  pub timeout : ℕ
  pub is_open : ℕ → ℕ → Bool
  pub tables : Tables
  pub waits : Option Open

-- ---- set-up: "An empty agent is one just set up."

abbrev pub empty_agent : ℕ → ℕ → (ℕ → ℕ → Bool) → Agent
empty_agent max timeout is_open = record { max = max; timeout = timeout; is_open = is_open; tables = record { next = 1; at = λ id. None }; waits = None }

-- ---- opening a session

-- the sessions with x for an id
abbrev pub with_id : ℕ → Option Local → (ℕ → Option Local) → ℕ → Option Local
with_id id x at i = cond (eqb i id) x (at i)

-- "the next free id": of n ids from i on the first that is not live
unfoldable pub next_free : (ℕ → Option Local) → ℕ → ℕ → Option ℕ
next_free at i zero = None
next_free at i (suc n) = elim (at i) [ None ↦ Some i | Some l ↦ next_free at (after i) n ]

-- 6, "`max_clients` sessions live", is none here: "Inside the agent, 6 becomes the STATUS reply above"
unfoldable pub chosen : ℕ → Tables → Option ℕ
chosen max t = cond (ltb (live_from (λ i. absent (t.at i)) 1 255) max) (next_free t.at t.next 255) None

-- "`create_session` takes the next free id, and its pointer goes on from there"
abbrev pub open_as : Opening → Tables → Option ℕ → Tables
open_as o t None = t
open_as o t (Some id) = record { next = after id; at = with_id id (Some (start id o)) t.at }

-- ---- running the submessages of a datagram

-- a reply: the STATUS that answers a CREATE_CLIENT, with the id opened or none; or the bytes that a session replies
pub data Reply : Type 0 where
  opened : Option ℕ → Reply
  replied : ℕ → List ℕ → Reply

abbrev pub bytes_of : Reply → List ℕ
bytes_of (opened x) = client_bytes x
bytes_of (replied id bytes) = bytes

-- what a run leaves: the tables, the replies in order, and the call handed out with what is open then, or none
pub record Ran : Type 0 where
  pub tables : Tables
  pub replies : List Reply
  pub stop : Option (Call × Open)

abbrev pub behind : List Reply → Ran → Ran
behind rs r = record { tables = r.tables; replies = rs ++ r.replies; stop = r.stop }

abbrev pub keep : ℕ → Local → Tables → Tables
keep id l t = record { next = t.next; at = with_id id (Some l) t.at }

-- a session's move: its replies and on with the rest, or its call, and the rest waits
abbrev pub act : ℕ → List (Sub Opening In) → Tables → Working → (Tables → Ran) → Ran
act id rest t (done l rs) go = behind (map (replied id) rs) (go (keep id l t))
act id rest t (calls l rs c p) go =
    record { tables = keep id l t; replies = map (replied id) rs; stop = Some (c, record { session = id; pending = p; rest = rest }) }

-- "No such session: no reply."
abbrev pub deliver : ℕ → List (Sub Opening In) → Tables → Option Local → (Local → Working) → (Tables → Ran) → Ran
deliver id rest t None rule go = go t
deliver id rest t (Some l) rule go = act id rest t (rule l) go

-- the submessages in order, until a bridge call is handed out or the end: "CREATE_CLIENT always opens a new session, whatever the key";
-- "The header's session id decides for every other submessage".
unfoldable pub run : ℕ → ℕ → List (Sub Opening In) → Tables → Ran
run max id [] t = record { tables = t; replies = []; stop = None }
run max id (opens o ∷ rest) t = behind (opened (chosen max t) ∷ []) (run max id rest (open_as o t (chosen max t)))
run max id (names i ∷ rest) t = deliver id rest t (t.at id) (λ l. handle l i) (λ t'. run max id rest t')

-- the answer to the open call, then the submessages behind it
abbrev pub continued : ℕ → Open → Answer → Tables → Ran
continued max w a t = deliver w.session w.rest t (t.at w.session) (λ l. resumed l w.pending a) (λ t'. run max w.session w.rest t')

-- ---- one call of the host

pub data Event : Type 0 where
  datagram : Given → (bytes : List ℕ) → Event
  answer : Answer → Event
  removal : (id : ℕ) → Event
  sweep : (time : ℕ) → Event

-- refused, with document 01's number and its byte; the replies in order and a bridge call or none; whether a session was removed; the ids that a sweep removed
pub data Result : Type 0 where
  refused : (number byte : ℕ) → Result
  ran : List Reply → Option Call → Result
  removed : Bool → Result
  swept : List ℕ → Result

-- what a call leaves, the lent output too
pub record Did : Type 0 where
  pub agent : Agent
  pub out : List ℕ
  pub result : Result

-- a refusal changes no table and no lent byte
abbrev pub refuse : Agent → List ℕ → ℕ → ℕ → Did
refuse st out number byte = record { agent = st; out = out; result = refused number byte }

-- 13, last: "lent output shorter than the result". Else the result stands at the start of the output, and what is behind it stays.
abbrev pub finish : Agent → List ℕ → Agent → List ℕ → Result → Did
finish st out st' bytes result =
    cond (ltb (length out) (length bytes)) (refuse st out 13 0)
    (record { agent = st'; out = put_at out 0 bytes; result = result })

unfoldable pub joined_replies : List Reply → List ℕ
joined_replies [] = []
joined_replies (r ∷ rs) = bytes_of r ++ joined_replies rs

abbrev pub call_of : Option (Call × Open) → Option Call
call_of None = None
call_of (Some x) = Some x.0

abbrev pub open_of : Option (Call × Open) → Option Open
open_of None = None
open_of (Some x) = Some x.1

abbrev pub with_tables : Agent → Tables → Option Open → Agent
with_tables st t w = record { max = st.max; timeout = st.timeout; is_open = st.is_open; tables = t; waits = w }

abbrev pub settle : Agent → List ℕ → Ran → Did
settle st out r = finish st out (with_tables st r.tables (open_of r.stop)) (joined_replies r.replies) (ran r.replies (call_of r.stop))

-- 1 to 5; "The first failure refuses the whole datagram."
abbrev pub begin : Agent → List ℕ → Given → Read (MessageHeader × List Said) → Did
begin st out given (refused_as number byte) = refuse st out number byte
begin st out given (gives x) = let m = message_from (moment_of st.is_open given) x.0 x.1 in settle st out (run st.max m.header m.subs st.tables)

-- 12, "payload or string over 65,535 bytes": the DATA that a sample would need
abbrev pub too_long : calls.Pending → Answer → Bool
too_long p (sample d) = ltb 65535 (length (data_payload p.number d))
too_long p (created h) = false
too_long p succeeded = false
too_long p no_sample = false
too_long p failed = false

-- 14, W5: "A reply that would be held is refused as 14 if over 1,024 bytes", its header counted; and 01's "17th held number": "A number recorded
-- again replaces its message"
abbrev pub crowded : Option KeptStream → Bool
crowded None = false
crowded (Some k) = cond (present (k.held k.next)) false (leb 16 (many_held k.held))

abbrev pub crowded_in : ℕ → Option Local → Bool
crowded_in stream None = false
crowded_in stream (Some l) = crowded (stream_in l.streams stream)

abbrev pub over_held : Open → Answer → Tables → Bool
over_held w (sample d) t =
    let stream = w.pending.asked.stream in
    cond (eqb stream 0) false
    (cond (ltb 1024 (length (data_bytes w.session stream 0 w.pending.asked.number d))) true (crowded_in stream (t.at w.session)))
over_held w (created h) t = false
over_held w succeeded t = false
over_held w no_sample t = false
over_held w failed t = false

abbrev pub is_live : Option Local → Bool
is_live None = false
is_live (Some l) = true

-- "a sweep when it is expired, ends it"
abbrev pub stays : ℕ → ℕ → Option Local → Option Local
stays timeout now None = None
stays timeout now (Some l) = cond (expired l now timeout) None (Some l)

-- "Sweeps list ids ascending."
unfoldable pub lapsed_ids : ℕ → ℕ → (ℕ → Option Local) → List ℕ
lapsed_ids timeout now at = expired_from (λ i. lapsed now timeout (at i)) 1 255

abbrev pub with_locals : Agent → (ℕ → Option Local) → Agent
with_locals st at = with_tables st (record { next = st.tables.next; at = at }) None

-- W8's 20, "weekday over 6 or minute over 1,439, after 15", and before 1 to 5. 15, first: "While a bridge call is open, datagrams, removals and sweeps are out of turn"; "answer, no call open", "or answer of another kind"
abbrev pub stepped : Option Open → Agent → Event → List ℕ → Did
stepped None st (datagram given bytes) out = cond (is_minute given.day given.minute) (begin st out given (reading bytes)) (refuse st out 20 0)
stepped None st (answer a) out = refuse st out 15 0
stepped None st (removal id) out = finish st out (with_locals st (with_id id None st.tables.at)) [] (removed (is_live (st.tables.at id)))
stepped None st (sweep now) out =
    let ids = lapsed_ids st.timeout now st.tables.at in
    finish st out (with_locals st (λ i. stays st.timeout now (st.tables.at i))) ids (swept ids)
stepped (Some w) st (datagram given bytes) out = refuse st out 15 0
stepped (Some w) st (answer a) out =
    cond (fits w.pending.asked.task a)
    (cond (too_long w.pending.asked a) (refuse st out 12 0)
    (cond (over_held w a st.tables) (refuse st out 14 0) (settle st out (continued st.max w a st.tables))))
    (refuse st out 15 0)
stepped (Some w) st (removal id) out = refuse st out 15 0
stepped (Some w) st (sweep now) out = refuse st out 15 0

unfoldable pub step : Agent → Event → List ℕ → Did
step st e out = stepped st.waits st e out
