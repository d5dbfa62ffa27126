-- After any list of calls every object of a session has one of the six kinds, whose rank in the listing is its own: a CREATE lists no other.
use Prim.Native.Nat.{ℕ, zero, suc, ◌-◌, ◌<◌}
use mathlib.Core.Path.{◌≡◌, refl, sym, subst}
use mathlib.Core.Bool.{Bool, true, false, cond}
use mathlib.Core.List.{List, [], ◌∷◌, ◌++◌}
use native.Mathlib.Omega.{arith}
use lib.Dec.{eqb, ltb}
use lib.ListN.{length, take, get_or, set}
use Rattle.codec.specs.Bytes.{put_at}
use Rattle.codec.specs.Answers.{Answer as Read, gives, refused_as}
use Rattle.codec.specs.Grammar.{Said, reading}
use Rattle.codec.specs.Submessages.{kind_byte}
use Rattle.codec.specs.declared.header.MessageHeader.{MessageHeader}
use Rattle.codec.specs.declared.submessages.ObjectKind.{ObjectKind}
use Rattle.codec.specs.declared.submessages.ObjectKind.TheVariants.{Participant, Topic, Publisher, Subscriber, DataWriter, DataReader}
use Rattle.codec.specs.declared.submessages.Submessage.{Submessage}
use Rattle.codec.specs.declared.submessages.Submessage.TheVariants as sub
use Rattle.isolation.specs.Rules.{done, calls, Sub, opens, names}
use Rattle.isolation.specs.Claim as claim
use Rattle.hours.specs.Windows.{Window, is_open}
use Rattle.sessions.specs.View.{Tables as Stores, Entry, KeptStream, Local, blank_entry, place_in, find_in, put_entry, put_in, drop_at, drop_in, stream_in, expired}
use Rattle.sessions.specs.Dependants.{dependant_in, has_dependant}
use Rattle.sessions.specs.ObjectList.{rank_of}
use Rattle.sessions.proofs.FoundAgain.{found_among}
use Rattle.moves.specs.Calls as moves
use Rattle.moves.specs.Calls.{Answer, created, succeeded, sample, no_sample, failed, Task, creating, writing, reading as readingTask, deleting, fits}
use Rattle.agent.specs.Local.{full, touched, handle_at}
use Rattle.agent.specs.Parents.{handles_named}
use Rattle.agent.specs.RulesObjects.{Move, if_handle, if_handles, create_for, delete_found, Names, names_of, create_named}
use Rattle.agent.specs.RulesAnswers.{sample_on, answer_of, on_answer}
use Rattle.hours.specs.Week.{is_minute}
use Rattle.agent.specs.declared.state.Given.{Given}
use Rattle.agent.specs.Brings.{Opening, In, moment_of, message_from}
use Rattle.agent.specs.RulesFragments.{Pending, Working, on_submessage, plain, handle, resumed}
use Rattle.agent.specs.Rules.{rules}
use Rattle.agent.specs.Step as step
use Rattle.agent.specs.Step.{Tables, Open, Ran, chosen, open_as, run, deliver, act, keep, continued, settle, begin, stays}
use Rattle.agent.specs.Whole as whole
use Rattle.agent.specs.Whole.{Hosted, agent_of, event_of, session_in, set_up_with}
use Rattle.agent.specs.declared.state.Agent.{Agent}
use Rattle.agent.proofs.MoveCases.{either, read_cases, Leaves, LeavesAll, onto_leaves, handle_leaves}
use Rattle.agent.proofs.SquareStep.{empty_square, step_square}
use Rattle.agent.proofs.WholeInStep.{Holds, holds_empty, holds_step}
use Rattle.agent.proofs.Promised.{state_after}
use Rattle.std.specs.Prelude.{None, Ok, Some, Option}

-- ---- a list of objects

abbrev Own : Entry → Type 0
Own e = rank_of e.kind ≡ e.kind

abbrev Each : List Entry → Type 0
Each [] = Unit {0}
Each (e ∷ es) = Own e × Each es

each_set : (es : List Entry) (i : ℕ) (x : Entry) → Each es → Own x → Each (set es i x)
each_set [] i x a p = tt
each_set (e ∷ es) zero x a p = (p, a.1)
each_set (e ∷ es) (suc i) x a p = (a.0, each_set es i x a.1 p)

each_append : (es : List Entry) (x : Entry) → Each es → Own x → Each (es ++ (x ∷ []))
each_append [] x a p = (p, tt)
each_append (e ∷ es) x a p = (a.0, each_append es x a.1 p)

each_take : (k : ℕ) (es : List Entry) → Each es → Each (take k es)
each_take zero es a = tt
each_take (suc k) [] a = tt
each_take (suc k) (e ∷ es) a = (a.0, each_take k es a.1)

each_at : (es : List Entry) (i : ℕ) → i < length es → Each es → Own (get_or es i blank_entry)
each_at [] i h a = let z : ⊥ = omega arith in absurd z
each_at (e ∷ es) zero h a = a.0
each_at (e ∷ es) (suc i) h a = each_at es i (omega arith) a.1

put_each : (es : List Entry) (x : Entry) → Each es → Own x → Each (put_in es x)
put_each es x a p = by (place_in es x.number)
  where
    by : (q : Option ℕ) → Each (put_entry es q x)
    by (Some i) = each_set es i x a p
    by None = each_append es x a p

drop_each : (es : List Entry) (n : ℕ) → Each es → Each (drop_in es n)
drop_each es n a = by es a (place_in es n)
  where
    by : (xs : List Entry) → Each xs → (q : Option ℕ) → Each (drop_at xs q)
    by [] a (Some i) = each_take 0 [] tt
    by (x ∷ xs) a (Some i) =
        each_take (length (x ∷ xs) - 1) (set (x ∷ xs) i (get_or (x ∷ xs) (length (x ∷ xs) - 1) blank_entry))
        (each_set (x ∷ xs) i (get_or (x ∷ xs) (length (x ∷ xs) - 1) blank_entry) a (each_at (x ∷ xs) (length (x ∷ xs) - 1) (omega arith) a))
    by xs a None = a

-- ---- a move: what it leaves, and the kind that an open CREATE will list

abbrev TaskOwn : Task → Type 0
TaskOwn (creating kind parent) = rank_of kind ≡ kind
TaskOwn writing = Unit {0}
TaskOwn readingTask = Unit {0}
TaskOwn deleting = Unit {0}

abbrev Good : Local → Type 0
Good l = Each l.objects

abbrev Owns : moves.Pending → Local → Type 0
Owns p l = TaskOwn p.task

abbrev MoveGood : Move → Type 0
MoveGood m = Leaves Good Owns m

abbrev WorkGood : Working → Type 0
WorkGood m = LeavesAll Good Owns m

kind_own : (k : ObjectKind) → rank_of (kind_byte k) ≡ kind_byte k
kind_own Participant = refl
kind_own Topic = refl
kind_own Publisher = refl
kind_own Subscriber = refl
kind_own DataWriter = refl
kind_own DataReader = refl

if_handle_lem : (x : Option ℕ) (f : ℕ → Move) (other : Move) → ((h : ℕ) → MoveGood (f h)) → MoveGood other → MoveGood (if_handle x f other)
if_handle_lem None f other p q = q
if_handle_lem (Some h) f other p q = p h

if_handles_lem : (x : Option (ℕ × ℕ)) (f : ℕ → ℕ → Move) (other : Move) → ((h k : ℕ) → MoveGood (f h k)) → MoveGood other → MoveGood (if_handles x f other)
if_handles_lem None f other p q = q
if_handles_lem (Some hs) f other p q = p hs.0 hs.1

module _ (l : Local) (g : Good l) (stream number : ℕ) where
  named_good : (x : Option Names) (parent : ℕ) → MoveGood (create_named x stream number parent l)
  named_good None parent = g
  named_good (Some x) parent = if_handle_lem (handle_at parent l) _ _ (λ h. (g, kind_own Topic)) g

  create_good : (k : ObjectKind) (parent : ℕ) (body : List ℕ) → MoveGood (create_for k stream number parent body l)
  create_good Participant parent body = (g, kind_own Participant)
  create_good Topic parent body = named_good (names_of body) parent
  create_good Publisher parent body = put_each l.objects _ g (kind_own Publisher)
  create_good Subscriber parent body = put_each l.objects _ g (kind_own Subscriber)
  create_good DataWriter parent body = if_handles_lem (handles_named l.objects parent) _ _ (λ h k. (g, kind_own DataWriter)) g
  create_good DataReader parent body = if_handles_lem (handles_named l.objects parent) _ _ (λ h k. (g, kind_own DataReader)) g

  delete_good : (x : Option Entry) → MoveGood (delete_found stream number x l)
  delete_good None = g
  delete_good (Some e) = let d = drop_each l.objects number g in either MoveGood (dependant_in l.objects e) _ _ g (if_handle_lem e.handle _ _ (λ h. (d, tt)) d)

  sample_good : (d : List ℕ) (x : Option KeptStream) → MoveGood (sample_on stream number d x l)
  sample_good d None = g
  sample_good d (Some k) = g

  answer_good : (t : Task) → TaskOwn t → (a : Answer) → MoveGood (answer_of t stream number a l)
  answer_good (creating kind parent) o (created h) = put_each l.objects _ g o
  answer_good (creating kind parent) o succeeded = g
  answer_good (creating kind parent) o (sample d) = g
  answer_good (creating kind parent) o no_sample = g
  answer_good (creating kind parent) o failed = g
  answer_good writing o (created h) = g
  answer_good writing o succeeded = g
  answer_good writing o (sample d) = g
  answer_good writing o no_sample = g
  answer_good writing o failed = g
  answer_good readingTask o (created h) = g
  answer_good readingTask o succeeded = g
  answer_good readingTask o (sample d) = either MoveGood (eqb stream 0) _ _ g (sample_good d (stream_in l.streams stream))
  answer_good readingTask o no_sample = g
  answer_good readingTask o failed = g
  answer_good deleting o (created h) = g
  answer_good deleting o succeeded = g
  answer_good deleting o (sample d) = g
  answer_good deleting o no_sample = g
  answer_good deleting o failed = g

submessage_good : (is_open : Bool) (m : Submessage) (body : List ℕ) (stream : ℕ) (l : Local) → Good l → MoveGood (on_submessage is_open m body stream l)
submessage_good is_open (sub.Create p) body stream l g =
    let n = p.object_id.0 in
    either MoveGood (full n l) _ _ g (either MoveGood (has_dependant l.objects (find_in l.objects n)) _ _ g (create_good l g stream n p.kind p.parent_id body))
submessage_good is_open (sub.Delete p) body stream l g = delete_good l g stream p.object_id.0 (find_in l.objects p.object_id.0)
submessage_good is_open (sub.WriteData p) body stream l g = if_handle_lem (handle_at p.writer_id.0 l) _ _ (λ h. either MoveGood is_open _ _ (g, tt) g) g
submessage_good is_open (sub.ReadData p) body stream l g = read_cases MoveGood stream p.reader_id.0 l g (λ h e z. (g, tt)) g g (λ h e k f. (g, tt))
submessage_good is_open (sub.Heartbeat p) body stream l g = g
submessage_good is_open (sub.Acknack p) body stream l g = g
submessage_good is_open (sub.Data p) body stream l g = g
submessage_good is_open (sub.Status p) body stream l g = g
submessage_good is_open (sub.CreateClient p) body stream l g = g
submessage_good is_open (sub.Fragment p) body stream l g = g

plain_good : (l : Local) (i : In) → Good l → MoveGood (plain l i)
plain_good l i g = submessage_good i.moment.is_open i.fields i.body i.stream (touched i.moment.time l) g

resumed_good : (l : Local) (p : Pending) (a : Answer) → Good l → TaskOwn p.asked.task → WorkGood (resumed l p a)
resumed_good l p a g o = onto_leaves Good Owns plain_good p.left (on_answer l p.asked a) (answer_good l g p.asked.stream p.asked.number p.asked.task o a)

-- ---- a run, and a step

abbrev OptGood : Option Local → Type 0
OptGood None = Unit {0}
OptGood (Some l) = Good l

abbrev TablesGood : Tables → Type 0
TablesGood t = (id : ℕ) → OptGood (t.at id)

abbrev WaitGood : Option Open → Type 0
WaitGood None = Unit {0}
WaitGood (Some w) = TaskOwn w.pending.asked.task

abbrev RanGood : Ran → Type 0
RanGood r = TablesGood r.tables × WaitGood (step.open_of r.stop)

with_good : (id : ℕ) (x : Option Local) (at : ℕ → Option Local) → OptGood x → ((i : ℕ) → OptGood (at i)) → (i : ℕ) → OptGood (step.with_id id x at i)
with_good id x at p f i = by (eqb i id)
  where
    by : (b : Bool) → OptGood (cond b x (at i))
    by true = p
    by false = f i

open_good : (o : Opening) (t : Tables) (x : Option ℕ) → TablesGood t → TablesGood (open_as o t x)
open_good o t None g = g
open_good o t (Some id) g = with_good id _ t.at tt g

acts_good : (id : ℕ) (rest : List (Sub Opening In)) (t : Tables) (m : Working) (go : Tables → Ran) → TablesGood t → WorkGood m → ((u : Tables) → TablesGood u → RanGood (go u)) → RanGood (act id rest t m go)
acts_good id rest t (done l rs) go g p f = f (keep id l t) (with_good id (Some l) t.at p g)
acts_good id rest t (calls l rs c q) go g p f = (with_good id (Some l) t.at p.0 g, p.1)

deliver_good : (id : ℕ) (rest : List (Sub Opening In)) (t : Tables) (x : Option Local) (rule : Local → Working) (go : Tables → Ran) → TablesGood t → OptGood x
    → ((l : Local) → Good l → WorkGood (rule l)) → ((u : Tables) → TablesGood u → RanGood (go u)) → RanGood (deliver id rest t x rule go)
deliver_good id rest t None rule go g p r f = f t g
deliver_good id rest t (Some l) rule go g p r f = acts_good id rest t (rule l) go g (r l p) f

run_good : (max id : ℕ) (ss : List (Sub Opening In)) (t : Tables) → TablesGood t → RanGood (run max id ss t)
unfolding run
run_good max id [] t g = (g, tt)
run_good max id (opens o ∷ ss) t g = run_good max id ss (open_as o t (chosen max t)) (open_good o t (chosen max t) g)
run_good max id (names i ∷ ss) t g =
    deliver_good id ss t (t.at id) (λ l. handle l i) (λ u. run max id ss u) g (g id) (λ l p. handle_leaves Good Owns plain_good (λ f j m q. q) l i p) (λ u h. run_good max id ss u h)

continued_good : (max : ℕ) (w : Open) (a : Answer) (t : Tables) → TablesGood t → TaskOwn w.pending.asked.task → RanGood (continued max w a t)
continued_good max w a t g o =
    deliver_good w.session w.rest t (t.at w.session) _ (λ u. run max w.session w.rest u) g (g w.session)
    (λ l p. resumed_good l w.pending a p o) (λ u h. run_good max w.session w.rest u h)

abbrev AgentGood : step.Agent → Type 0
AgentGood st = TablesGood st.tables × WaitGood st.waits

finish_good : (st : step.Agent) (out : List ℕ) (st' : step.Agent) (bytes : List ℕ) (q : step.Result) → AgentGood st → AgentGood st' → AgentGood (step.finish st out st' bytes q).agent
finish_good st out st' bytes q g h = by (ltb (length out) (length bytes))
  where
    by : (c : Bool) → AgentGood (cond c (step.refuse st out 13 0) (record { agent = st'; out = put_at out 0 bytes; result = q })).agent
    by true = g
    by false = h

settle_good : (st : step.Agent) (out : List ℕ) (r : Ran) → AgentGood st → RanGood r → AgentGood (settle st out r).agent
settle_good st out r g h =
    finish_good st out (step.with_tables st r.tables (step.open_of r.stop)) (step.joined_replies r.replies) (step.ran r.replies (step.call_of r.stop)) g h

begin_good : (st : step.Agent) (out : List ℕ) (given : Given) (x : Read (MessageHeader × List Said)) → AgentGood st → AgentGood (begin st out given x).agent
begin_good st out given (refused_as number byte) g = g
begin_good st out given (gives x) g =
    let m = message_from (moment_of st.is_open given) x.0 x.1 in settle_good st out (run st.max m.header m.subs st.tables) g (run_good st.max m.header m.subs st.tables g.0)

stays_good : (timeout now : ℕ) (x : Option Local) → OptGood x → OptGood (stays timeout now x)
stays_good timeout now None p = tt
stays_good timeout now (Some l) p = by (expired l now timeout)
  where
    by : (b : Bool) → OptGood (cond b None (Some l))
    by true = tt
    by false = p

stepped_good : (w : Option Open) (st : step.Agent) (e : step.Event) (out : List ℕ) → AgentGood st → WaitGood w → AgentGood (step.stepped w st e out).agent
stepped_good None st (step.datagram given bytes) out g o = by (is_minute given.day given.minute)
  where
    by : (b : Bool) → AgentGood (cond b (begin st out given (reading bytes)) (step.refuse st out 20 0)).agent
    by true = begin_good st out given (reading bytes) g
    by false = g
stepped_good None st (step.answer a) out g o = g
stepped_good None st (step.removal id) out g o =
    finish_good st out (step.with_locals st (step.with_id id None st.tables.at)) [] (step.removed (step.is_live (st.tables.at id))) g (with_good id None st.tables.at tt g.0, tt)
stepped_good None st (step.sweep now) out g o =
    let is = step.lapsed_ids st.timeout now st.tables.at in
    finish_good st out (step.with_locals st (λ i. stays st.timeout now (st.tables.at i))) is (step.swept is) g ((λ i. stays_good st.timeout now (st.tables.at i) (g.0 i)), tt)
stepped_good (Some w) st (step.datagram given bytes) out g o = g
stepped_good (Some w) st (step.answer a) out g o = by (fits w.pending.asked.task a) (step.too_long w.pending.asked a) (step.over_held w a st.tables)
  where
    by : (b c d : Bool)
        → AgentGood (cond b (cond c (step.refuse st out 12 0) (cond d (step.refuse st out 14 0) (settle st out (continued st.max w a st.tables)))) (step.refuse st out 15 0)).agent
    by true true d = g
    by true false true = g
    by true false false = settle_good st out (continued st.max w a st.tables) g (continued_good st.max w a st.tables g.0 o)
    by false c d = g
stepped_good (Some w) st (step.removal id) out g o = g
stepped_good (Some w) st (step.sweep now) out g o = g

step_good : (st : step.Agent) (e : step.Event) (out : List ℕ) → AgentGood st → AgentGood (step.step st e out).agent
unfolding step.step
step_good st e out g = stepped_good st.waits st e out g g.1

-- ---- after any list of calls

module _ (t : Stores) (hours : List ℕ) (ws : List Window) (max timeout : ℕ) (a : Agent) (made : set_up_with t hours ws max timeout ≡ Ok a) where
  abbrev A : claim.Agent (rules (is_open ws) timeout)
  A = whole.agent t hours ws max timeout a

  good_after : (H : List Hosted) (p : claim.Point (rules (is_open ws) timeout) A) → Holds t hours ws max timeout a made p.state → AgentGood (agent_of p.state) → AgentGood (agent_of (claim.reached (rules (is_open ws) timeout) A p H).state)
  good_after [] p v g = g
  good_after (e ∷ H) p v g =
      good_after H (claim.next (rules (is_open ws) timeout) A p e) (holds_step t hours ws max timeout a made p.state e v)
      (subst AgentGood (sym (step_square p.state v.0 e.event e.out).agent) (step_good (agent_of p.state) (event_of e.event) e.out g))

  empty_good : AgentGood (agent_of A.empty)
  empty_good = subst AgentGood (sym (empty_square t hours ws max timeout a made).agent) ((λ id. tt), tt)

  pub own_rank : (H : List Hosted) (id : ℕ) (l : Local) → session_in (state_after t hours ws max timeout a made H).tables id ≡ Some l → (n : ℕ) (e : Entry) → find_in l.objects n ≡ Some e → rank_of e.kind ≡ e.kind
  own_rank H id l q n e f =
      let m = (found_among l.objects n e f).0 in
      let g : Each l.objects = subst OptGood q ((good_after H (claim.set_up (rules (is_open ws) timeout) A) (holds_empty t hours ws max timeout a made) empty_good).0 id) in
      subst Own m.is (each_at l.objects m.at m.inside g)
