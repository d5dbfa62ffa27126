-- What term 3 speaks of: the rules of one session, the host's calls, and an agent's answers.
use Rattle.std.specs.Prelude.{ℕ, Bool, List, Option}

-- "replies byte for byte"
abbrev pub Bytes : Type 0
Bytes = List ℕ

-- "It replies, hands out one call and waits, or does neither": the tables after a rule, and its replies in order; then it has ended
-- with its submessage, or it hands out a call and keeps something of the submessage until the answer.
pub data Outcome (Local Reply Call Pending : Type 0) : Type 0 where
  done : Local → List Reply → Outcome Local Reply Call Pending
  calls : Local → List Reply → Call → Pending → Outcome Local Reply Call Pending

-- "The header's session id decides for every other submessage": a submessage is CREATE_CLIENT, or one for the session that the header names.
pub data Sub (Opening In : Type 0) : Type 0 where
  opens : Opening → Sub Opening In
  names : In → Sub Opening In

-- "Header: session, stream (a byte each), sequence (2). Submessage: ..": a datagram read, its session id and its submessages in order
pub record Message (Opening In : Type 0) : Type 0 where
  pub header : ℕ
  pub subs : List (Sub Opening In)

-- The rules of one session. They are functions, and nothing is assumed of them: whatever rules come later fit.
pub record Rules : Type 1 where
  pub Datagram : Type 0  -- a datagram's bytes, with all that the host gives with them: the time
  pub Opening : Type 0  -- a CREATE_CLIENT, with its datagram's time
  pub In : Type 0  -- any other submessage, "with that header and its datagram's time"
  pub Ans : Type 0  -- what the bridge answers
  pub Call : Type 0  -- a bridge call, whole
  pub Pending : Type 0  -- what is kept of the submessage of an open call
  pub Local : Type 0  -- the tables of one session: "the session's own record", its objects, its streams
  pub parse : Datagram → Option (Message Opening In)  -- none: "stopped by 1 to 5"
  pub status : Option ℕ → Bytes  -- the STATUS that answers a CREATE_CLIENT, by the id opened: with it and OK, or with id 0 and ERR_RESOURCES
  pub start : ℕ → Opening → Local  -- "It starts with the id given, the opening datagram's time as last activity, no objects, and .."
  pub handle : Local → In → Outcome Local Bytes Call Pending  -- "The time becomes the last activity; then the rules above work on its lists alone."
  pub resume : Local → Pending → Ans → Outcome Local Bytes Call Pending  -- "The same rules give the reply."
  pub expired : Local → ℕ → Bool  -- "now minus last activity .. exceeds the timeout"

module _ (R : Rules) where
  -- "datagrams, bridge answers, removals and sweeps": a call of the host. An answer is to the open call of its tag; 01 has at most one call
  -- open, and its tag is 0.
  pub data Host : Type 0 where
    datagram : R.Datagram → Host
    answer : ℕ → R.Ans → Host
    removal : ℕ → Host  -- of an id
    sweep : ℕ → Host  -- at a time
    other : Host  -- a call that concerns no session: 01 has none

  -- "The STATUS that answers a CREATE_CLIENT is among no session's replies": a reply with its bytes is such a STATUS, by the id opened or none;
  -- or one of the session that the header names.
  pub data Out : Type 0 where
    opened : Option ℕ → Bytes → Out
    reply : ℕ → Bytes → Out

  -- "the agent hands out a call": its tag, which is not compared, the session that it is for, and the call
  pub record Asked : Type 0 where
    pub tag : ℕ
    pub session : ℕ
    pub call : R.Call

  -- An agent's answer: refused with a number; or the replies in order, and a bridge call or none.
  pub data Result : Type 0 where
    refused : ℕ → Result
    ran : List Out → Option Asked → Result
