-- Term 3 for any agent over any rules: one claim about the whole list H of the host's calls, for every H.
use Rattle.std.specs.Option.{option_map}
use Rattle.std.specs.Prelude.{◌≡◌, ℕ, zero, suc, true, cond, List, [], ◌∷◌, ◌++◌, eqb, Option, None, Some}
use Rattle.isolation.specs.Rules.{Bytes, Sub, opens, names, Message, Rules, Host, datagram, answer, removal, sweep, other, Out, opened, reply, Asked, Result, refused, ran}
use Rattle.isolation.specs.Machine.{idle, Feed, submessages, answered, swept_at, removal_of_it, Moved, takes, Trace, trace, Handles, AllOwned}

-- "Term 3 is one claim about the whole list H": an agent, as that sees it: what a call of the host does to its state, and what it answers.
pub record Agent (R : Rules) : Type 1 where
  pub State : Type 0
  pub Event : Type 0  -- what the agent's host may do, with all that it brings, the lent output too
  pub empty : State  -- "An empty agent is one just set up."
  pub table : State → ℕ → Option R.Local  -- the tables of an id's session, if it is live
  pub step : State → Event → State × Result R
  pub host_call : Event → Host R  -- which of the host's calls that is: it looks at no state, so it has nothing that the host did not bring

module _ (R : Rules) where
  open R use {Opening, In, Call, Local, parse, status, start}

  -- "at most one open call with its submessage": the datagrams whose bridge call is open, by the call's tag, each from behind the last
  -- CREATE_CLIENT in it that was answered. They are read off the host's calls and the agent's answers, so that no agent says itself
  -- whose answer or whose CREATE_CLIENT it got.
  abbrev pub OpenCalls : Type 0
  OpenCalls = ℕ → Option (Message Opening In)

  -- the open calls with x for tag t
  abbrev pub update : ℕ → Option (Message Opening In) → OpenCalls → OpenCalls
  update t x b u = cond (eqb u t) x (b u)

  -- "the agent hands out a call, the host hands in the answer": the datagram that a host's call works on, which it brings or whose
  -- bridge call it answers; and the other open ones
  abbrev pub works_on : OpenCalls → Host R → Option (Message Opening In) × OpenCalls
  works_on b (datagram d) = (parse d, b)
  works_on b (answer t a) = (b t, update t None b)
  works_on b (removal i) = (None, b)
  works_on b (sweep now) = (None, b)
  works_on b other = (None, b)

  -- what stands behind the first CREATE_CLIENT
  abbrev pub behind_client : List (Sub Opening In) → List (Sub Opening In)
  behind_client [] = []
  behind_client (opens o ∷ ss) = ss
  behind_client (names i ∷ ss) = behind_client ss

  -- what stands behind the CREATE_CLIENTs that these replies answer
  abbrev pub past : List (Out R) → List (Sub Opening In) → List (Sub Opening In)
  past [] ss = ss
  past (opened x r ∷ os) ss = past os (behind_client ss)
  past (reply h r ∷ os) ss = past os ss

  -- "a refused bridge answer leaves the call open"
  abbrev pub open_after : OpenCalls → Host R → Result R → OpenCalls
  open_after b c (refused n) = b
  open_after b c (ran os None) = (works_on b c).1
  open_after b c (ran os (Some a)) = update a.tag (option_map (λ m. record { header = m.header; subs = past os m.subs }) (works_on b c).0) (works_on b c).1

  -- "every later submessage but CREATE_CLIENT"
  abbrev pub but_clients : List (Sub Opening In) → List In
  but_clients [] = []
  but_clients (opens o ∷ ss) = but_clients ss
  but_clients (names i ∷ ss) = i ∷ but_clients ss

  -- "whose header names that id": a feed for s of a datagram; of another's there is nothing for it
  abbrev pub if_names : ℕ → Option (Message Opening In) → (List (Sub Opening In) → Feed R) → Feed R
  if_names s None f = submessages []
  if_names s (Some m) f = cond (eqb m.header s) (f m.subs) (submessages [])

  -- What session s is fed of a call: "every later submessage but CREATE_CLIENT whose header names that id", "the answer to its call",
  -- "every sweep with its time, and a removal of its id".
  abbrev pub feed_of : ℕ → OpenCalls → Host R → Feed R
  feed_of s b (datagram d) = if_names s (parse d) (λ ss. submessages (but_clients ss))
  feed_of s b (answer t a) = if_names s (b t) (λ ss. answered a)
  feed_of s b (removal i) = cond (eqb i s) removal_of_it (submessages [])
  feed_of s b (sweep now) = swept_at now
  feed_of s b other = submessages []

  -- "A refused call, or a datagram stopped by 1 to 5, feeds it nothing."
  abbrev pub unless_refused : Result R → Feed R → List (Feed R) → List (Feed R)
  unless_refused (refused n) f fs = fs
  unless_refused (ran os c) f fs = f ∷ fs

  -- what an answer has: its replies, and the bridge call that it hands out
  abbrev pub outs_of : Result R → List (Out R)
  outs_of (refused n) = []
  outs_of (ran os c) = os

  abbrev pub call_of : Result R → Option (Asked R)
  call_of (refused n) = None
  call_of (ran os c) = c

  -- "The STATUS that answers a CREATE_CLIENT is among no session's replies."
  abbrev pub replies_of : ℕ → List (Out R) → List Bytes
  replies_of s [] = []
  replies_of s (opened x r ∷ os) = replies_of s os
  replies_of s (reply h r ∷ os) = cond (eqb h s) (r ∷ replies_of s os) (replies_of s os)

  -- "Calls are compared whole": the one for session s
  abbrev pub calls_of : ℕ → Result R → List Call
  calls_of s (refused n) = []
  calls_of s (ran os None) = []
  calls_of s (ran os (Some a)) = cond (eqb a.session s) (a.call ∷ []) []

  -- CREATE_CLIENT number j (from 0) with what stands behind it, and the id in STATUS number j
  abbrev pub client_at : ℕ → List (Sub Opening In) → Option (Opening × List (Sub Opening In))
  client_at j [] = None
  client_at zero (opens o ∷ ss) = Some (o, ss)
  client_at (suc j) (opens o ∷ ss) = client_at j ss
  client_at j (names i ∷ ss) = client_at j ss

  abbrev pub status_at : ℕ → List (Out R) → Option ℕ
  status_at j [] = None
  status_at zero (opened x r ∷ os) = x
  status_at (suc j) (opened x r ∷ os) = status_at j os
  status_at j (reply h r ∷ os) = status_at j os

  -- the submessages of the datagram at work, if there is one
  abbrev pub subs_of : Option (Message Opening In) → List (Sub Opening In)
  subs_of None = []
  subs_of (Some m) = m.subs

  -- "Its reply is a STATUS for object 0 on stream 0, with the new id and OK, or id 0 and ERR_RESOURCES": each STATUS has the bytes of its
  -- id and answers the next CREATE_CLIENT of the datagram at work; where the datagram is at its end, None is left unanswered.
  abbrev pub Greets : List (Sub Opening In) → List (Out R) → Option (Asked R) → Type 0
  Greets ss [] None = client_at zero ss ≡ None
  Greets ss [] (Some a) = Unit {0}
  Greets ss (opened x r ∷ os) c = (r ≡ status x) × ((o : Opening × List (Sub Opening In)) × (client_at zero ss ≡ Some o)) × Greets (behind_client ss) os c
  Greets ss (reply h r ∷ os) c = Greets ss os c

  -- a refused call answers nobody
  abbrev pub Greeted : List (Sub Opening In) → Result R → Type 0
  Greeted ss (refused n) = Unit {0}
  Greeted ss (ran os c) = Greets ss os c

  -- "No such session: no reply", and no bridge call: nothing for s
  abbrev pub Silent : ℕ → Result R → Type 0
  Silent s r = (replies_of s (outs_of r) ≡ []) × (calls_of s r ≡ [])

  -- "CREATE_CLIENT always opens a new session, whatever the key": an id in a STATUS is that of no session live before, and of no other STATUS
  abbrev pub Fresh : (ℕ → Option Local) → Result R → Type 0
  Fresh live r = (j s : ℕ) → status_at j (outs_of r) ≡ Some s → (live s ≡ None) × ((k : ℕ) → status_at k (outs_of r) ≡ Some s → k ≡ j)

  -- "the answer to its call": a call is handed out under a tag that no other open call has, so that no answer can be another's
  abbrev pub OwnTag : OpenCalls → Result R → Type 0
  OwnTag others r = (a : Asked R) → call_of r ≡ Some a → others a.tag ≡ None

  module _ (A : Agent R) where
    open A use {State, Event, empty, table, step, host_call}

    -- where a list of calls has led: the agent's state, and the open calls
    pub record Point : Type 0 where
      pub state : State
      pub open_calls : OpenCalls

    -- "An empty agent is one just set up."
    abbrev pub set_up : Point
    set_up = record { state = empty; open_calls = λ t. None }

    -- one call on, and all calls of a list
    abbrev pub next : Point → Event → Point
    next p e = let r = step p.state e in record { state = r.0; open_calls = open_after p.open_calls (host_call e) r.1 }

    abbrev pub reached : Point → List Event → Point
    reached p [] = p
    reached p (e ∷ H) = reached (next p e) H

    -- A session opened in H. Ids are used again, so it is named by the call and the CREATE_CLIENT that opened it: the call, behind
    -- those before it, works on a datagram, whose CREATE_CLIENT of this number is answered in the call by the STATUS of this number, with the id.
    pub record Session (H : List Event) : Type 0 where
      pub before : List Event
      pub call : Event
      pub later : List Event
      pub whole : H ≡ before ++ call ∷ later
      pub message : Message Opening In
      pub number : ℕ
      pub client : Opening
      pub behind : List (Sub Opening In)
      pub id : ℕ
      pub brings : (works_on (reached set_up before).open_calls (host_call call)).0 ≡ Some message
      pub asks : client_at number message.subs ≡ Some (client, behind)
      pub granted : status_at number (outs_of (step (reached set_up before).state call).1) ≡ Some id

    -- the agent's side: the session's calls, replies and tables from its opening to its end or the end of H
    abbrev pub until : Option Local → Trace R → Trace R
    until None t = record { calls = []; replies = []; table = None }
    until (Some l) t = t

    abbrev pub agent_trace : ℕ → Point → List Event → Trace R
    agent_trace s p [] = record { calls = []; replies = []; table = table p.state s }
    agent_trace s p (e ∷ H) =
        let r = (step p.state e).1 in
        let t = until (table (next p e).state s) (agent_trace s (next p e) H) in
        record { calls = calls_of s r ++ t.calls; replies = replies_of s (outs_of r) ++ t.replies; table = t.table }

    abbrev pub of_agent : {H : List Event} → Session H → Trace R
    of_agent S = agent_trace S.id (reached set_up S.before) (S.call ∷ S.later)

    -- the machine's side: what names it, "those in the rest of the opening datagram included", then its feeds of the later calls
    abbrev pub feeds : ℕ → Point → List Event → List (Feed R)
    feeds s p [] = []
    feeds s p (e ∷ H) = unless_refused (step p.state e).1 (feed_of s p.open_calls (host_call e)) (feeds s (next p e) H)

    abbrev pub fed : {H : List Event} → Session H → List (Feed R)
    fed S =
        if_names S.id (Some (record { header = S.message.header; subs = S.behind })) (λ ss. submessages (but_clients ss))
        ∷ feeds S.id (next (reached set_up S.before) S.call) S.later

    abbrev pub of_machine : {H : List Event} → Session H → Moved R
    of_machine S = takes R (idle (start S.id S.client)) (fed S)

    pub record Isolated (H : List Event) : Type 0 where
      -- Each session opened in H behaves as the machine fed alone; "every beginning of H is such a list too", so after each call.
      pub alone : (S : Session H) → of_agent S ≡ trace R (of_machine S)
      -- The machine was fed so: "in order; while its call is open, only the answer".
      pub in_turn : (S : Session H) → (of_machine S).in_turn ≡ true
      -- No session escapes: what is live after H is a session opened in H, followed to the end of H.
      pub covered : (s : ℕ) (l : Local) → table (reached set_up H).state s ≡ Some l → (S : Session H) × (S.id ≡ s) × ((of_agent S).table ≡ Some l)
      -- In one call more: an id that is not live after it gets no reply and no bridge call.
      pub silent : (e : Event) (s : ℕ) → let r = step (reached set_up H).state e in table r.0 s ≡ None → Silent s r.1
      -- No reply hides as a STATUS, and no CREATE_CLIENT is passed over.
      pub greets : (e : Event) → let p = reached set_up H in Greeted (subs_of (works_on p.open_calls (host_call e)).0) (step p.state e).1
      -- No two live sessions are one.
      pub fresh : (e : Event) → let p = reached set_up H in Fresh (table p.state) (step p.state e).1
      -- No answer is taken for another's.
      pub own_tag : (e : Event) → let p = reached set_up H in OwnTag (works_on p.open_calls (host_call e)).1 (step p.state e).1

    -- Term 3. The agent's calls for a session are the machine's (`alone`), so the handles in them are those of the machine's actions.
    abbrev pub Term3 : Handles R → Type 0
    Term3 X = (H : List Event) → Isolated H × ((S : Session H) → AllOwned R X [] (of_machine S).actions)
