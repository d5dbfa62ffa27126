-- A proof device: the agent of document 01 over any rules, on a table of sessions by id. It has no claim to be believed of itself:
-- `Refine` hands term 3 on from it to an agent that goes in step with it, and that refuses what it likes besides (13, 14, 16, ..).
use Rattle.std.specs.Prelude.{Option, None, Some}
use Prim.Native.Nat.{ℕ, zero, suc, ◌+◌}
use mathlib.Core.Bool.{Bool, cond}
use mathlib.Core.List.{List, [], ◌∷◌, ◌++◌, map}
use lib.Dec.{eqb}
use Rattle.isolation.specs.Rules.{Bytes, Outcome, done, calls, Sub, opens, names, Message, Rules, Host, datagram, answer, removal, sweep, other, Out, opened, reply, Asked, Result, refused, ran}
use Rattle.isolation.specs.Claim.{Agent}

-- Who is let in: the greatest id (255 in 01; a smaller one for examples that come round sooner), and whether one more session may be
-- opened beside those that are live (6, "`max_clients` sessions live").
pub record Admission (R : Rules) : Type 0 where
  pub top : ℕ
  pub admits : List R.Local → R.Opening → Bool

module _ (R : Rules) (D : Admission R) where
  open R use {Opening, In, Ans, Call, Pending, Local, parse, status, start, handle, resume, expired}

  -- the sessions by id, and the id from which the next free one is looked for
  pub record Tables : Type 0 where
    pub next : ℕ
    pub at : ℕ → Option Local

  -- the open bridge call: the header's session, what the call is for, and the datagram's submessages behind it
  pub record Wait : Type 0 where
    pub header : ℕ
    pub pending : Pending
    pub rest : List (Sub Opening In)

  pub record State : Type 0 where
    pub tables : Tables
    pub wait : Option Wait

  -- what running submessages leaves: the tables, the bridge call now open, the replies, the call handed out
  pub record Ran : Type 0 where
    pub tables : Tables
    pub wait : Option Wait
    pub outs : List (Out R)
    pub call : Option (Asked R)

  -- ---- opening a session

  -- the ids from i on, n of them
  unfoldable pub ids : ℕ → ℕ → List ℕ
  ids i zero = []
  ids i (suc n) = i ∷ ids (suc i) n

  abbrev pub here : Option Local → List Local
  here None = []
  here (Some l) = l ∷ []

  -- the live sessions among ids
  unfoldable pub live : (ℕ → Option Local) → List ℕ → List Local
  live f [] = []
  live f (i ∷ is) = here (f i) ++ live f is

  -- the table with x for id i
  abbrev pub put : ℕ → Option Local → (ℕ → Option Local) → ℕ → Option Local
  put i x f j = cond (eqb j i) x (f j)

  -- "after 255 comes 1"
  abbrev pub after : ℕ → ℕ
  after i = cond (eqb i D.top) 1 (i + 1)

  -- the first id that is not live, of n from i on
  unfoldable pub free : ℕ → ℕ → (ℕ → Option Local) → Option ℕ
  free zero i f = None
  free (suc n) i f = elim (f i) [ None ↦ Some i | Some l ↦ free n (after i) f ]

  -- the id that a CREATE_CLIENT gets, if any
  unfoldable pub chosen : Opening → Tables → Option ℕ
  chosen o t = cond (D.admits (live t.at (ids 1 D.top)) o) (free D.top t.next t.at) None

  -- "`create_session` takes the next free id, and its pointer goes on from there"
  abbrev pub open_as_lem : Opening → Tables → Option ℕ → Tables
  open_as_lem o t None = t
  open_as_lem o t (Some i) = record { next = after i; at = put i (Some (start i o)) t.at }

  -- ---- running submessages

  abbrev pub keep_as : ℕ → Local → Tables → Tables
  keep_as h l t = record { next = t.next; at = put h (Some l) t.at }

  -- replies, then what is said later
  abbrev pub tell : List (Out R) → Ran → Ran
  tell os r = record { tables = r.tables; wait = r.wait; outs = os ++ r.outs; call = r.call }

  -- the outcome of session h's rules put to effect: its replies, and then on with k, or its call with ss still to be run
  abbrev pub act : ℕ → List (Sub Opening In) → Tables → Outcome Local Bytes Call Pending → (Tables → Ran) → Ran
  act h ss t (done l rs) k = tell (map (reply h) rs) (k (keep_as h l t))
  act h ss t (calls l rs c p) k =
      record { tables = keep_as h l t; wait = Some (record { header = h; pending = p; rest = ss }); outs = map (reply h) rs; call = Some (record { tag = 0; session = h; call = c }) }

  -- the rules f at work on session h; if it is not live nothing happens
  abbrev pub deliver : ℕ → List (Sub Opening In) → Tables → Option Local → (Local → Outcome Local Bytes Call Pending) → (Tables → Ran) → Ran
  deliver h ss t None f k = k t
  deliver h ss t (Some l) f k = act h ss t (f l) k

  -- the submessages ss under header h, in order, to the first bridge call or the end
  unfoldable pub run : ℕ → List (Sub Opening In) → Tables → Ran
  run h [] t = record { tables = t; wait = None; outs = []; call = None }
  run h (opens o ∷ ss) t = tell (opened (chosen o t) (status (chosen o t)) ∷ []) (run h ss (open_as_lem o t (chosen o t)))
  run h (names i ∷ ss) t = deliver h ss t (t.at h) (λ l. handle l i) (λ t'. run h ss t')

  -- the answer to the open call, then the submessages behind it
  abbrev pub continue : Wait → Ans → Tables → Ran
  continue w a t = deliver w.header w.rest t (t.at w.header) (λ l. resume l w.pending a) (λ t'. run w.header w.rest t')

  -- ---- one call of the host

  abbrev pub Stepped : Type 0
  Stepped = State × Result R

  -- a refused call changes nothing
  abbrev pub refuse : State → ℕ → Stepped
  refuse st n = (st, refused n)

  abbrev pub settle : Ran → Stepped
  settle r = (record { tables = r.tables; wait = r.wait }, ran r.outs r.call)

  abbrev pub begin : State → Option (Message Opening In) → Stepped
  begin st None = refuse st 1
  begin st (Some m) = settle (run m.header m.subs st.tables)

  -- a sweep keeps the sessions that are not expired
  abbrev pub stays : ℕ → Option Local → Option Local
  stays now None = None
  stays now (Some l) = cond (expired l now) None (Some l)

  abbrev pub with_sessions_lem : State → (ℕ → Option Local) → Stepped
  with_sessions_lem st f = (record { tables = record { next = st.tables.next; at = f }; wait = None }, ran [] None)

  -- 15: with no call open everything but an answer is in turn; with one open, only its answer
  abbrev pub stepped : Option Wait → State → Host R → Stepped
  stepped None st (datagram d) = begin st (parse d)
  stepped None st (answer t a) = refuse st 15
  stepped None st (removal i) = with_sessions_lem st (put i None st.tables.at)
  stepped None st (sweep now) = with_sessions_lem st (λ i. stays now (st.tables.at i))
  stepped None st other = refuse st 15
  stepped (Some w) st (datagram d) = refuse st 15
  stepped (Some w) st (answer t a) = cond (eqb t 0) (settle (continue w a st.tables)) (refuse st 15)
  stepped (Some w) st (removal i) = refuse st 15
  stepped (Some w) st (sweep now) = refuse st 15
  stepped (Some w) st other = refuse st 15

  unfoldable pub step : State → Host R → Stepped
  step st e = stepped st.wait st e

  abbrev pub empty : State
  empty = record { tables = record { next = 1; at = λ i. None }; wait = None }

  abbrev pub reference : Agent R
  reference = record { State = State; Event = Host R; empty = empty; table = λ st. st.tables.at; step = step; host_call = λ e. e }
