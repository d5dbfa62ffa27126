-- The agent as `isolation` speaks of one: the host's calls, and an answer's replies by session.
use Rattle.std.specs.Prelude.{◌≡◌, ℕ, ◌≤◌, Bool, List, [], ◌∷◌, ◌++◌, map, length, Option, None, Some}
use Rattle.codec.specs.Bytes.{put_at}
use Rattle.isolation.specs.Rules as isolation
use Rattle.isolation.specs.Claim as claim
use Rattle.moves.specs.Calls.{Call}
use Rattle.moves.specs.Replies.{client_bytes}
use Rattle.agent.specs.Rules.{rules}
use Rattle.agent.specs.Step.{Open, Agent, empty_agent, Reply, opened, replied, Event, datagram, answer, removal, sweep, Result, refused, ran, removed, swept, step}

-- the host's call, with the lent output
pub record Hosted : Type 0 where
  pub event : Event
  pub out : List ℕ

module _ (is_open : ℕ → ℕ → Bool) (max timeout : ℕ) where
  abbrev pub host_call : Event → isolation.Host (rules is_open timeout)
  host_call (datagram given bytes) = isolation.datagram (record { given = given; bytes = bytes })
  host_call (answer a) = isolation.answer 0 a
  host_call (removal id) = isolation.removal id
  host_call (sweep now) = isolation.sweep now

  abbrev pub out_of : Reply → isolation.Out (rules is_open timeout)
  out_of (opened x) = isolation.opened x (client_bytes x)
  out_of (replied id bytes) = isolation.reply id bytes

  -- the session of the call handed out is that of the call then open
  abbrev pub asked_of : Option Open → Option Call → Option (isolation.Asked (rules is_open timeout))
  asked_of None c = None
  asked_of (Some w) None = None
  asked_of (Some w) (Some c) = Some (record { tag = 0; session = w.session; call = c })

  abbrev pub result_of : Option Open → Result → isolation.Result (rules is_open timeout)
  result_of w (refused number byte) = isolation.refused number
  result_of w (ran rs c) = isolation.ran (map out_of rs) (asked_of w c)
  result_of w (removed b) = isolation.ran [] None
  result_of w (swept ids) = isolation.ran [] None

  abbrev pub agent : claim.Agent (rules is_open timeout)
  agent = record {
    State = Agent;
    Event = Hosted;
    empty = empty_agent max timeout is_open;
    table = λ st. st.tables.at;
    step = λ st e. let d = step st e.event e.out in (d.agent, result_of d.agent.waits d.result);
    host_call = λ e. host_call e.event;
  }

  -- ---- no reply is hidden

  -- the bytes of an answer's replies, in order, the STATUSes too
  unfoldable pub out_bytes : List (isolation.Out (rules is_open timeout)) → List ℕ
  out_bytes [] = []
  out_bytes (isolation.opened x bytes ∷ os) = bytes ++ out_bytes os
  out_bytes (isolation.reply id bytes ∷ os) = bytes ++ out_bytes os

  -- the ids that a sweep lists, which are no replies
  abbrev pub ids_in : Result → List ℕ
  ids_in (refused number byte) = []
  ids_in (ran rs c) = []
  ids_in (removed b) = []
  ids_in (swept ids) = ids

  -- what a call writes into the lent output
  abbrev pub written_by : Agent → Hosted → List ℕ
  written_by st e = out_bytes (claim.outs_of (rules is_open timeout) (agent.step st e).1) ++ ids_in (step st e.event e.out).result

  -- The lent output after any call: the bytes of its replies in order, or a sweep's ids, for which it has room; then what stood there before.
  -- So each reply that term 3 speaks of is there whole, and nothing else is written. (A refused call has no replies.)
  abbrev pub Shown : Type 0
  Shown = (st : Agent) (e : Hosted) → (length (written_by st e) ≤ length e.out) × ((step st e.event e.out).out ≡ put_at e.out 0 (written_by st e))
