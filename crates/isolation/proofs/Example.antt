-- A list H that computes: what the small agent answers, call by call, and the sessions opened in H, each with the trace that the agent
-- gives it and that its machine, fed alone, gives too. All by `refl`.
use Rattle.std.specs.Prelude.{Option, None, Some}
use mathlib.Core.Path.{◌≡◌, refl}
use Prim.Native.Nat.{ℕ}
use mathlib.Core.Bool.{true}
use mathlib.Core.List.{List, [], ◌∷◌, ◌++◌}
use Rattle.isolation.specs.Rules.{Sub, opens, names, Message, Rules, Host, datagram, answer, removal, sweep, opened, reply, Asked, Result, refused, ran}
use Rattle.isolation.specs.Machine.{Trace, trace}
use Rattle.isolation.specs.Claim.{Agent, works_on, outs_of, client_at, status_at, set_up, reached, Session, of_agent, of_machine}
use Rattle.isolation.proofs.Reference.{run, step, ids, live, free, chosen}
use Rattle.isolation.proofs.Small.{small, small_agent, Handle, bridge, Local, In, Act, create, write, beat, rebuilt, Call, make, put, Ans, made, finished}

-- a timeout of 1,000; ids 1 to 3; at most 3 sessions
abbrev pub R : Rules
R = small 1000

abbrev pub A : Agent R
A = small_agent 1000 3 3

abbrev pub Event : Type 0
Event = Host R × ℕ

abbrev pub client : ℕ → ℕ → Sub (ℕ × ℕ) In
client key time = opens (key, time)

abbrev pub at : ℕ → Act → Sub (ℕ × ℕ) In
at time a = names (record { time = time; act = a })

-- a datagram under a header, and an answer, each with room for 64 bytes
abbrev pub to : ℕ → List (Sub (ℕ × ℕ) In) → Event
to h ss = (datagram (Some (record { header = h; subs = ss })), 64)

abbrev pub gets : Ans → Event
gets a = (answer 0 a, 64)

abbrev results : A.State → List Event → List (Result R)
results st [] = []
results st (e ∷ H) = (A.step st e).1 ∷ results (A.step st e).0 H

abbrev pub opens₁ : List Event
opens₁ = to 0 (client 7 100 ∷ []) ∷ []

abbrev opens₂ : List (Sub (ℕ × ℕ) In)
opens₂ = at 100 beat ∷ client 8 100 ∷ at 100 beat ∷ []

abbrev traffic : List Event
traffic =
    to 1 (at 200 (create 5) ∷ at 200 beat ∷ [])
    ∷ to 2 (at 200 beat ∷ [])
    ∷ gets finished
    ∷ (answer 0 (made (bridge 9)), 5)
    ∷ gets (made (bridge 9))
    ∷ to 2 (at 900 (write 5) ∷ at 900 beat ∷ [])
    ∷ to 2 (at 950 (rebuilt 6) ∷ client 9 950 ∷ [])
    ∷ gets (made (bridge 10))
    ∷ []

abbrev ends : List Event
ends = (sweep 1500, 0) ∷ to 1 (at 1500 beat ∷ []) ∷ []

abbrev last : List Event
last = to 1 (at 1600 (write 5) ∷ []) ∷ (removal 2, 0) ∷ []

abbrev after₃ : List Event
after₃ = ends ++ (to 0 (client 10 1500 ∷ []) ∷ last)

abbrev after₂ : List Event
after₂ = traffic ++ (gets finished ∷ after₃)

abbrev H : List Event
H = opens₁ ++ (to 2 opens₂ ∷ after₂)

abbrev asks : ℕ → Call → Option (Asked R)
asks s c = Some (record { tag = 0; session = s; call = c })

answers : results A.empty H ≡
    ran (opened (Some 1) (1 ∷ 0 ∷ []) ∷ []) None
    ∷ ran (opened (Some 2) (2 ∷ 0 ∷ []) ∷ reply 2 (2 ∷ 5 ∷ []) ∷ reply 2 (2 ∷ 6 ∷ []) ∷ []) None  -- session 2 used in the datagram that opens it
    ∷ ran [] (asks 1 make)
    ∷ refused 15  -- a datagram while a call is open
    ∷ refused 15  -- an answer of another kind
    ∷ refused 13  -- room for 5 bytes, where 6 are due
    ∷ ran (reply 1 (1 ∷ 0 ∷ []) ∷ reply 1 (1 ∷ 5 ∷ []) ∷ reply 1 (1 ∷ 6 ∷ []) ∷ []) None
    ∷ ran (reply 2 (2 ∷ 1 ∷ []) ∷ reply 2 (2 ∷ 5 ∷ []) ∷ reply 2 (2 ∷ 6 ∷ []) ∷ []) None  -- object 5 is session 1's
    ∷ ran [] (asks 2 make)
    ∷ ran (reply 2 (2 ∷ 0 ∷ []) ∷ []) (asks 2 (put (bridge 10)))  -- an answer that leads to another call
    ∷ ran (reply 2 (2 ∷ 0 ∷ []) ∷ opened (Some 3) (3 ∷ 0 ∷ []) ∷ []) None  -- session 3 is opened behind it
    ∷ ran [] None  -- a sweep ends session 1, and not 2 and 3
    ∷ ran [] None  -- so 1 gets no reply
    ∷ ran (opened (Some 1) (1 ∷ 0 ∷ []) ∷ []) None  -- the id is used again
    ∷ ran (reply 1 (1 ∷ 1 ∷ []) ∷ []) None  -- by a session that has no object 5
    ∷ ran [] None
    ∷ []
unfolding run step ids live free chosen
answers = refl

-- ---- the sessions opened in H

-- opened by the first CREATE_CLIENT of the message that a call works on
unfoldable pub opened_by : (A : Agent R) (before : List A.Event) (call : A.Event) (later : List A.Event) (m : Message (ℕ × ℕ) In) (o : ℕ × ℕ) (behind : List (Sub (ℕ × ℕ) In)) (id : ℕ)
    → let p = reached R A (set_up R A) before in
    (works_on R p.open_calls (A.host_call call)).0 ≡ Some m → client_at R 0 m.subs ≡ Some (o, behind) → status_at R 0 (outs_of R (A.step p.state call).1) ≡ Some id
    → Session R A (before ++ call ∷ later)
opened_by A before call later m o behind id b c g =
    record { before = before; call = call; later = later; whole = refl; message = m; number = 0; client = o; behind = behind; id = id; brings = b; asks = c; granted = g }

first : Session R A H
unfolding run step ids live free chosen
first = opened_by A [] (to 0 (client 7 100 ∷ [])) (to 2 opens₂ ∷ after₂) (record { header = 0; subs = client 7 100 ∷ [] }) (7, 100) [] 1 refl refl refl

-- what stands before its CREATE_CLIENT is not for it, and what stands behind it is
second : Session R A H
unfolding run step ids live free chosen
second = opened_by A opens₁ (to 2 opens₂) after₂ (record { header = 2; subs = opens₂ }) (8, 100) (at 100 beat ∷ []) 2 refl refl refl

-- opened by the call that brings an answer
third : Session R A H
unfolding run step ids live free chosen
third = opened_by A (opens₁ ++ (to 2 opens₂ ∷ traffic)) (gets finished) after₃ (record { header = 2; subs = at 950 (rebuilt 6) ∷ client 9 950 ∷ [] }) (9, 950) [] 3 refl refl refl

-- the first one's id again
fourth : Session R A H
unfolding run step ids live free chosen
fourth = opened_by A (opens₁ ++ (to 2 opens₂ ∷ (traffic ++ (gets finished ∷ ends)))) (to 0 (client 10 1500 ∷ [])) last (record { header = 0; subs = client 10 1500 ∷ [] }) (10, 1500) [] 1 refl refl refl

-- ---- their traces, of the agent and of the machine, which was fed in turn

Both : Session R A H → Trace R → Type 0
Both S t = (of_agent R A S ≡ t) × (trace R (of_machine R A S) ≡ t) × ((of_machine R A S).in_turn ≡ true)

first_trace : Both first (record { calls = make ∷ []; replies = (1 ∷ 0 ∷ []) ∷ (1 ∷ 5 ∷ []) ∷ (1 ∷ 6 ∷ []) ∷ []; table = None })
unfolding Both opened_by first run step ids live free chosen
first_trace = (refl, refl, refl)

second_trace : Both second (record {
  calls = make ∷ put (bridge 10) ∷ [];
  replies = (2 ∷ 5 ∷ []) ∷ (2 ∷ 6 ∷ []) ∷ (2 ∷ 1 ∷ []) ∷ (2 ∷ 5 ∷ []) ∷ (2 ∷ 6 ∷ []) ∷ (2 ∷ 0 ∷ []) ∷ (2 ∷ 0 ∷ []) ∷ [];
  table = None;
})
unfolding Both opened_by second run step ids live free chosen
second_trace = (refl, refl, refl)

third_trace : Both third (record { calls = []; replies = []; table = Some (record { id = 3; key = 9; activity = 950; objects = [] }) })
unfolding Both opened_by third run step ids live free chosen
third_trace = (refl, refl, refl)

fourth_trace : Both fourth (record { calls = []; replies = (1 ∷ 1 ∷ []) ∷ []; table = Some (record { id = 1; key = 10; activity = 1600; objects = [] }) })
unfolding Both opened_by fourth run step ids live free chosen
fourth_trace = (refl, refl, refl)
