-- The reference agent has the facts about one call from which `Isolated` follows. Nothing is assumed of the rules.
use Rattle.std.specs.Prelude.{Option, None, Some}
use mathlib.Core.Path.{◌≡◌, refl, sym, ap, ◌∙◌, subst}
use Prim.Native.Nat.{ℕ, zero, suc}
use mathlib.Core.Bool.{Bool, true, false, cond}
use mathlib.Core.List.{List, [], ◌∷◌, ◌++◌}
use lib.Dec.{eqb}
use Rattle.isolation.specs.Rules.{Bytes, Outcome, Sub, opens, names, Message, Rules, Host, datagram, answer, removal, sweep, other, Out, opened, reply, Asked, Result, refused, ran}
use Rattle.isolation.specs.Machine.{Machine, ended, idle, waiting, Feed, submessages, answered, swept_at, removal_of_it, Moved, still, work, take, table_of}
use Rattle.isolation.specs.Claim.{OpenCalls, update, works_on, behind_client, past, Greeted, subs_of, Silent, Fresh, OwnTag, open_after, but_clients, if_names, feed_of, outs_of, call_of, replies_of, calls_of, client_at, status_at}
use Rattle.isolation.proofs.Simulation.{none_some, for_it, for_is, Opened, Agrees, Follows, refuses, moves, Simulates}
use Rattle.isolation.proofs.Reference.{Admission, Wait, State, Ran, put, run, continue, Stepped, refuse, settle, begin, stays, with_sessions_lem, stepped, step, empty, reference}
use Rattle.isolation.proofs.Runs.{eqb_same, same, apart, calls_is, seen, Match, work_turns, resume_turns, run_live, continue_mine, continue_other, run_birth, deliver_birth, deliver_never, never, deliver_once, run_once, Leaves, leaves_tag, run_leaves, deliver_leaves, behind_same, greets_same, deliver_greets, run_greets}
use Rattle.isolation.proofs.Coverage.{Born, deliver_born, run_born, Quiet, deliver_quiet, run_quiet}

module _ (R : Rules) (D : Admission R) where
  open R use {Opening, In, Ans, Call, Pending, Local, parse, start, handle, resume, expired}

  abbrev St : Type 0
  St = State R D

  abbrev Waits : Type 0
  Waits = Option (Wait R D)

  abbrev Msg : Type 0
  Msg = Message Opening In

  -- ---- the open calls of the claim are the agent's own

  Noted : Option Msg → Waits → Type 0
  Noted None None = Unit {0}
  Noted None (Some w) = ⊥
  Noted (Some m) None = ⊥
  Noted (Some m) (Some w) = (w.header ≡ m.header) × ((j : ℕ) → client_at R j m.subs ≡ client_at R j w.rest)

  noted_none : (x : Option Msg) → Noted x None → x ≡ None
  unfolding Noted
  noted_none None k = refl
  noted_none (Some m) k = absurd k

  noted_some : (x : Option Msg) (w : Wait R D) → Noted x (Some w) → (m : Msg) × (x ≡ Some m) × (w.header ≡ m.header) × ((j : ℕ) → client_at R j m.subs ≡ client_at R j w.rest)
  unfolding Noted
  noted_some None w k = absurd k
  noted_some (Some m) w k = (m, refl, k.0, k.1)

  past_same : (os : List (Out R)) (xs ys : List (Sub Opening In)) → ((j : ℕ) → client_at R j xs ≡ client_at R j ys) → (j : ℕ) → client_at R j (past R os xs) ≡ client_at R j (past R os ys)
  past_same [] xs ys h j = h j
  past_same (opened x r ∷ os) xs ys h j = past_same os (behind_client R xs) (behind_client R ys) (behind_same R D xs ys h) j
  past_same (reply g r ∷ os) xs ys h j = past_same os xs ys h j

  -- after a run of what is like the datagram m, the open calls have the one that it left open
  ran_noted : (b : OpenCalls R) (c : Host R) (m : Msg) → (works_on R b c).0 ≡ Some m → (works_on R b c).1 0 ≡ None
      → (h : ℕ) (ss : List (Sub Opening In)) → h ≡ m.header → ((j : ℕ) → client_at R j m.subs ≡ client_at R j ss)
      → (os : List (Out R)) (x : Option (Asked R)) (w : Waits) → Leaves R D h ss os x w → Noted (open_after R b c (ran os x) 0) w
  unfolding Noted Leaves
  ran_noted b c m p q h ss e k os None None y = rw q tt
  ran_noted b c m p q h ss e k os None (Some w) y = absurd y
  ran_noted b c m p q h ss e k os (Some a) None y = absurd y
  ran_noted b c m p q h ss e k os (Some a) (Some w) y = rw (p, y.0) (y.1 ∙ e, λ j. past_same os m.subs ss k j ∙ y.2 j)

  step_noted : (b : OpenCalls R) (st : St) (e : Host R) → Noted (b 0) st.wait → Noted (open_after R b e (step R D st e).1 0) (step R D st e).0.wait
  unfolding step
  step_noted b st e v = go st.wait refl e
    where
      go : (x : Waits) → st.wait ≡ x → (e : Host R) → Noted (open_after R b e (stepped R D x st e).1 0) (stepped R D x st e).0.wait
      go None q (datagram d) = reads (parse d) refl
        where
          reads : (y : Option Msg) → parse d ≡ y → Noted (open_after R b (datagram d) (begin R D st y).1 0) (begin R D st y).0.wait
          reads None z = v
          reads (Some m) z =
              let r = run R D m.header m.subs st.tables in
              ran_noted b (datagram d) m z (noted_none (b 0) (rw q at v)) m.header m.subs refl (λ j. refl) r.outs r.call r.wait (run_leaves R D m.header m.subs st.tables)
      go None q (answer t a) = v
      go None q (removal i) = rw q at v
      go None q (sweep now) = rw q at v
      go None q other = v
      go (Some w) q (datagram d) = v
      go (Some w) q (answer t a) = tagged (eqb t 0) refl
        where
          tagged : (y : Bool) → eqb t 0 ≡ y → let r : Stepped R D = cond y (settle R D (continue R D w a st.tables)) (refuse R D st 15) in Noted (open_after R b (answer t a) r.1 0) r.0.wait
          tagged true z =
              let (m, p, h, k) = noted_some (b 0) w (rw q at v) in
              let r = continue R D w a st.tables in
              rw (same t 0 z)
              (ran_noted b (answer 0 a) m p refl w.header w.rest h k r.outs r.call r.wait
              (deliver_leaves R D w.header w.rest st.tables (λ t'. run_leaves R D w.header w.rest t') (st.tables.at w.header) (λ l. resume l w.pending a)))
          tagged false z = v
      go (Some w) q (removal i) = v
      go (Some w) q (sweep now) = v
      go (Some w) q other = v

  -- ---- one call, with s live

  abbrev view : ℕ → St → Machine R
  view s st = seen R D s (st.tables.at s) st.wait

  abbrev Agree : ℕ → Stepped R D → Moved R → Type 0
  Agree s r m = Agrees R (reference R D) (view s) s r m

  settled : (s : ℕ) (r : Ran R D) (m : Moved R) → Match R D s r m → m.in_turn ≡ true → Agree s (settle R D r) m
  settled s r m k t = record { sees = k.sees; says = k.says; asks = calls_is R D s r.outs r.call ∙ k.asks; turns = t }

  step_live : (s : ℕ) (b : OpenCalls R) (st : St) (e : Host R) (l : Local) → Noted (b 0) st.wait → st.tables.at s ≡ Some l → Follows R (reference R D) (view s) s b st e (step R D st e)
  unfolding step
  step_live s b st e l v p = go st.wait refl e
    where
      Goal : Host R → Stepped R D → Type 0
      Goal e r = Follows R (reference R D) (view s) s b st e r

      go : (x : Waits) → st.wait ≡ x → (e : Host R) → Goal e (stepped R D x st e)
      go None q (datagram d) = reads (parse d) refl
        where
          reads : (y : Option Msg) → parse d ≡ y → Goal (datagram d) (begin R D st y)
          reads None z = refuses 1 refl refl
          reads (Some m) z =
              moves refl (rw (p, q, z, for_is R s m.header m.subs)
              (settled s (run R D m.header m.subs st.tables) (work R l (for_it R s m.header m.subs)) (run_live R D s m.header m.subs st.tables l p) (work_turns R D l (for_it R s m.header m.subs))))
      go None q (answer t a) = refuses 15 refl refl
      go None q (removal i) = moves refl (rw (p, q) (hits (eqb i s) refl))
        where
          hits : (y : Bool) → eqb i s ≡ y → Agree s (stepped R D None st (removal i)) (take R (idle l) (cond y removal_of_it (submessages [])))
          hits true z =
              let it : eqb s i ≡ true = rw (same i s z) (eqb_same s) in
              record { sees = ap (λ (y : Bool). seen R D s (cond y None (st.tables.at s)) None) it; says = refl; asks = refl; turns = refl }
          hits false z =
              record { sees = ap (λ (y : Bool). seen R D s (cond y None (st.tables.at s)) None) (apart i s z) ∙ ap (λ (x : Option Local). seen R D s x None) p; says = refl; asks = refl; turns = refl }
      go None q (sweep now) = moves refl (rw (p, q) (record { sees = ap (λ (x : Option Local). seen R D s (stays R D now x) None) p ∙ ends (expired l now); says = refl; asks = refl; turns = refl }))
        where
          ends : (y : Bool) → seen R D s (cond y None (Some l)) None ≡ cond y ended (idle l)
          ends true = refl
          ends false = refl
      go None q other = refuses 15 refl refl
      go (Some w) q (datagram d) = refuses 15 refl refl
      go (Some w) q (answer t a) = tagged (eqb t 0) refl
        where
          mine : (y : Bool) → eqb w.header s ≡ y
              → Agree s (settle R D (continue R D w a st.tables)) (take R (cond y (waiting l w.pending (but_clients R w.rest)) (idle l)) (cond y (answered a) (submessages [])))
          mine true z = settled s (continue R D w a st.tables) _ (continue_mine R D s w a st.tables l p (same w.header s z)) (resume_turns R D l w.pending a (but_clients R w.rest))
          mine false z = settled s (continue R D w a st.tables) _ (continue_other R D s w a st.tables l p z) refl

          tagged : (y : Bool) → eqb t 0 ≡ y → Goal (answer t a) (cond y (settle R D (continue R D w a st.tables)) (refuse R D st 15))
          tagged true z =
              let (m, n, h, k) = noted_some (b 0) w (rw q at v) in
              let own : feed_of R s b (answer t a) ≡ cond (eqb w.header s) (answered a) (submessages []) =
              ap (λ (u : ℕ). if_names R s (b u) (λ ss. answered a)) (same t 0 z) ∙ ap (λ (x : Option Msg). if_names R s x (λ ss. answered a)) n ∙ ap (λ (g : ℕ). cond {A = Feed R} (eqb g s) (answered a) (submessages [])) (sym h) in
              moves refl (rw (own, p, q) (mine (eqb w.header s) refl))
          tagged false z = refuses 15 refl refl
      go (Some w) q (removal i) = refuses 15 refl refl
      go (Some w) q (sweep now) = refuses 15 refl refl
      go (Some w) q other = refuses 15 refl refl

  view_table : (s : ℕ) (x : Option Local) (w : Waits) → table_of R (seen R D s x w) ≡ x
  view_table s None w = refl
  view_table s (Some l) None = refl
  view_table s (Some l) (Some w) = go (eqb w.header s)
    where
      go : (b : Bool) → table_of R (cond b (waiting l w.pending (but_clients R w.rest)) (idle l)) ≡ Some l
      go true = refl
      go false = refl

  -- ---- the call that opens s

  step_birth : (b : OpenCalls R) (st : St) (e : Host R) (s : ℕ) (o : Opened R s (works_on R b e).0 (step R D st e).1) → Noted (b 0) st.wait
      → Agree s (step R D st e) (work R (start s o.client) (for_it R s o.message.header o.behind))
  unfolding step
  step_birth b st e s o v = go st.wait refl e o.brings o.granted
    where
      m : Moved R
      m = work R (start s o.client) (for_it R s o.message.header o.behind)

      fine : m.in_turn ≡ true
      fine = work_turns R D (start s o.client) (for_it R s o.message.header o.behind)

      Given : Option (Msg) → Type 0
      Given x = x ≡ Some o.message

      Gets : Stepped R D → Type 0
      Gets r = status_at R o.number (outs_of R r.1) ≡ Some s

      go : (x : Waits) → st.wait ≡ x → (e : Host R) → Given (works_on R b e).0 → Gets (stepped R D x st e) → Agree s (stepped R D x st e) m
      go None q (datagram d) g y = reads (parse d) g y
        where
          reads : (z : Option Msg) → Given z → Gets (begin R D st z) → Agree s (begin R D st z) m
          reads None g y = absurd (none_some y)
          reads (Some n) g y =
              let n-is : n ≡ o.message = cc in
              rw n-is (settled s (run R D o.message.header o.message.subs st.tables) m
              (run_birth R D s o.message.header o.message.subs o.number o.client o.behind st.tables o.asks (rw n-is at y)) fine)
      go None q (answer t a) g y = absurd (none_some y)
      go None q (removal i) g y = absurd (none_some y)
      go None q (sweep now) g y = absurd (none_some y)
      go None q other g y = absurd (none_some y)
      go (Some w) q (datagram d) g y = absurd (none_some y)
      go (Some w) q (answer t a) g y = tagged (eqb t 0) refl y
        where
          tagged : (z : Bool) → eqb t 0 ≡ z → let r : Stepped R D = cond z (settle R D (continue R D w a st.tables)) (refuse R D st 15) in Gets r → Agree s r m
          tagged true z y =
              let (n, n-is, h, k) = noted_some (b 0) w (rw q at v) in
              let g' : b 0 ≡ Some o.message = rw (same t 0 z) at g in
              let is : Some n ≡ Some o.message = sym n-is ∙ g' in
              let same-message : n ≡ o.message = cc in
              let h' : w.header ≡ o.message.header = rw same-message at h in
              let k' : (j : ℕ) → client_at R j o.message.subs ≡ client_at R j w.rest = rw same-message at k in
              settled s (continue R D w a st.tables) m
              (rw (← h') (deliver_birth R D s w.header w.rest o.number st.tables (work R (start s o.client) (for_it R s w.header o.behind))
              (λ t' q'. run_birth R D s w.header w.rest o.number o.client o.behind t' (sym (k' o.number) ∙ o.asks) q') (st.tables.at w.header) (λ l. resume l w.pending a) y))
              fine
          tagged false z y = absurd (none_some y)
      go (Some w) q (removal i) g y = absurd (none_some y)
      go (Some w) q (sweep now) g y = absurd (none_some y)
      go (Some w) q other g y = absurd (none_some y)

  step_born : (s : ℕ) (b : OpenCalls R) (st : St) (e : Host R) (l : Local) → Noted (b 0) st.wait → st.tables.at s ≡ None → (step R D st e).0.tables.at s ≡ Some l
      → Opened R s (works_on R b e).0 (step R D st e).1
  unfolding step
  step_born s b st e l v p y = go st.wait refl e y
    where
      -- it was not live, and the call changed no table
      stayed : {A : Type 0} → st.tables.at s ≡ Some l → A
      stayed {A} z = absurd (none_some (sym p ∙ z))

      go : (x : Waits) → st.wait ≡ x → (e : Host R) → (stepped R D x st e).0.tables.at s ≡ Some l → Opened R s (works_on R b e).0 (stepped R D x st e).1
      go None q (datagram d) y = reads (parse d) refl y
        where
          reads : (z : Option Msg) → parse d ≡ z → (begin R D st z).0.tables.at s ≡ Some l → Opened R s (parse d) (begin R D st z).1
          reads None z y = stayed y
          reads (Some m) z y =
              let o = run_born R D s m.header m.subs st.tables l p y in
              record { message = m; number = o.number; client = o.client; behind = o.behind; brings = z; asks = o.asks; granted = o.granted }
      go None q (answer t a) y = stayed y
      go None q (removal i) y = gone (eqb s i) y
        where
          gone : (z : Bool) → cond z None (st.tables.at s) ≡ Some l → Opened R s None (ran [] None)
          gone true y = absurd (none_some y)
          gone false y = stayed y
      go None q (sweep now) y = absurd (none_some {b = l} (rw p at y))
      go None q other y = stayed y
      go (Some w) q (datagram d) y = stayed y
      go (Some w) q (answer t a) y = tagged (eqb t 0) refl y
        where
          tagged : (z : Bool) → eqb t 0 ≡ z → let r : Stepped R D = cond z (settle R D (continue R D w a st.tables)) (refuse R D st 15) in
              r.0.tables.at s ≡ Some l → Opened R s (b t) r.1
          tagged true z y =
              let (m, m-is, h, k) = noted_some (b 0) w (rw q at v) in
              let o = deliver_born R D s w.header w.rest st.tables l p (λ t' e' q'. run_born R D s w.header w.rest t' l e' q') (st.tables.at w.header) refl (λ l. resume l w.pending a) y in
              record { message = m; number = o.number; client = o.client; behind = o.behind; brings = rw (same t 0 z) m-is; asks = k o.number ∙ o.asks; granted = o.granted }
          tagged false z y = stayed y
      go (Some w) q (removal i) y = stayed y
      go (Some w) q (sweep now) y = stayed y
      go (Some w) q other y = stayed y

  -- ---- an id that is not live after a call

  step_silent : (s : ℕ) (st : St) (e : Host R) → (step R D st e).0.tables.at s ≡ None → Silent R s (step R D st e).1
  unfolding step
  step_silent s st e q = go st.wait e q
    where
      nothing : (n : ℕ) → Silent R s (refused n)
      nothing n = (refl, refl)

      ran_quiet : (os : List (Out R)) (c : Option (Asked R)) → Quiet R D s os c → Silent R s (ran os c)
      ran_quiet os c k = (k.no_reply, calls_is R D s os c ∙ k.no_call)

      go : (x : Waits) (e : Host R) → (stepped R D x st e).0.tables.at s ≡ None → Silent R s (stepped R D x st e).1
      go None (datagram d) q = reads (parse d) q
        where
          reads : (y : Option Msg) → (begin R D st y).0.tables.at s ≡ None → Silent R s (begin R D st y).1
          reads None q = nothing 1
          reads (Some m) q = let r = run R D m.header m.subs st.tables in ran_quiet r.outs r.call (run_quiet R D s m.header m.subs st.tables q)
      go None (answer t a) q = nothing 15
      go None (removal i) q = (refl, refl)
      go None (sweep now) q = (refl, refl)
      go None other q = nothing 15
      go (Some w) (datagram d) q = nothing 15
      go (Some w) (answer t a) q = tagged (eqb t 0) q
        where
          tagged : (y : Bool) → let r : Stepped R D = cond y (settle R D (continue R D w a st.tables)) (refuse R D st 15) in r.0.tables.at s ≡ None → Silent R s r.1
          tagged true q =
              let r = continue R D w a st.tables in
              ran_quiet r.outs r.call
              (deliver_quiet R D s w.header w.rest st.tables (λ t' q'. run_quiet R D s w.header w.rest t' q') (st.tables.at w.header) (λ l. resume l w.pending a) q)
          tagged false q = nothing 15
      go (Some w) (removal i) q = nothing 15
      go (Some w) (sweep now) q = nothing 15
      go (Some w) other q = nothing 15

  -- ---- the STATUSes of a call

  step_greets : (b : OpenCalls R) (st : St) (e : Host R) → Noted (b 0) st.wait → Greeted R (subs_of R (works_on R b e).0) (step R D st e).1
  unfolding step
  step_greets b st e v = go st.wait refl e
    where
      go : (x : Waits) → st.wait ≡ x → (e : Host R) → Greeted R (subs_of R (works_on R b e).0) (stepped R D x st e).1
      go None q (datagram d) = reads (parse d)
        where
          reads : (y : Option Msg) → Greeted R (subs_of R y) (begin R D st y).1
          reads None = tt
          reads (Some m) = run_greets R D m.header m.subs st.tables
      go None q (answer t a) = tt
      go None q (removal i) = refl
      go None q (sweep now) = refl
      go None q other = tt
      go (Some w) q (datagram d) = tt
      go (Some w) q (answer t a) = tagged (eqb t 0) refl
        where
          tagged : (y : Bool) → eqb t 0 ≡ y → Greeted R (subs_of R (b t)) (cond {A = Stepped R D} y (settle R D (continue R D w a st.tables)) (refuse R D st 15)).1
          tagged true z =
              let (m, m-is, h, k) = noted_some (b 0) w (rw q at v) in
              let r = continue R D w a st.tables in
              rw (same t 0 z, m-is) (greets_same R D r.outs r.call m.subs w.rest k
              (deliver_greets R D w.header w.rest st.tables (λ t'. run_greets R D w.header w.rest t') (st.tables.at w.header) (λ l. resume l w.pending a)))
          tagged false z = tt
      go (Some w) q (removal i) = tt
      go (Some w) q (sweep now) = tt
      go (Some w) q other = tt

  -- ---- the ids in the STATUSes of a call

  -- what no live id has
  not_live : (s : ℕ) (x : Option Local) → ((l : Local) → x ≡ Some l → ⊥) → x ≡ None
  not_live s None k = refl
  not_live s (Some l) k = absurd (k l refl)

  step_fresh : (st : St) (e : Host R) → Fresh R st.tables.at (step R D st e).1
  unfolding step
  step_fresh st e = go st.wait e
    where
      Goal : Stepped R D → Type 0
      Goal r = Fresh R st.tables.at r.1

      nothing : (j s : ℕ) → ◌≡◌ {A = Option ℕ} None (Some s) → (st.tables.at s ≡ None) × ((k : ℕ) → ◌≡◌ {A = Option ℕ} None (Some s) → k ≡ j)
      nothing j s y = absurd (none_some y)

      go : (x : Waits) (e : Host R) → Goal (stepped R D x st e)
      go None (datagram d) = reads (parse d)
        where
          reads : (z : Option Msg) → Goal (begin R D st z)
          reads None = nothing
          reads (Some m) = λ j s y.
              (not_live s (st.tables.at s) (λ l e. never R D s m.header m.subs j st.tables l e y), λ k z. run_once R D s m.header m.subs j k st.tables y z)
      go None (answer t a) = nothing
      go None (removal i) = nothing
      go None (sweep now) = nothing
      go None other = nothing
      go (Some w) (datagram d) = nothing
      go (Some w) (answer t a) = tagged (eqb t 0)
        where
          rule : Local → Outcome Local Bytes Call Pending
          rule l = resume l w.pending a

          tagged : (z : Bool) → let r : Stepped R D = cond z (settle R D (continue R D w a st.tables)) (refuse R D st 15) in Goal r
          tagged true = λ j s y. (
            not_live s (st.tables.at s) (λ l e. deliver_never R D s w.header w.rest j st.tables l e (λ t' l e q. never R D s w.header w.rest j t' l e q) (st.tables.at w.header) rule y),
            λ k z. deliver_once R D s w.header w.rest j k st.tables (λ t' p q. run_once R D s w.header w.rest j k t' p q) (st.tables.at w.header) rule y z,
          )
          tagged false = nothing
      go (Some w) (removal i) = nothing
      go (Some w) (sweep now) = nothing
      go (Some w) other = nothing

  -- ---- the tag of a call handed out

  step_tag : (b : OpenCalls R) (st : St) (e : Host R) → Noted (b 0) st.wait → OwnTag R (works_on R b e).1 (step R D st e).1
  unfolding step
  step_tag b st e v c y = go st.wait refl e y
    where
      go : (x : Waits) → st.wait ≡ x → (e : Host R) → call_of R (stepped R D x st e).1 ≡ Some c → (works_on R b e).1 c.tag ≡ None
      go None q (datagram d) y = reads (parse d) y
        where
          reads : (z : Option Msg) → call_of R (begin R D st z).1 ≡ Some c → b c.tag ≡ None
          reads None y = absurd (none_some y)
          reads (Some m) y =
              let r = run R D m.header m.subs st.tables in
              let z = leaves_tag R D m.header m.subs r.outs r.call r.wait (run_leaves R D m.header m.subs st.tables) c y in
              rw z (noted_none (b 0) (rw q at v))
      go None q (answer t a) y = absurd (none_some y)
      go None q (removal i) y = absurd (none_some y)
      go None q (sweep now) y = absurd (none_some y)
      go None q other y = absurd (none_some y)
      go (Some w) q (datagram d) y = absurd (none_some y)
      go (Some w) q (answer t a) y = tagged (eqb t 0) refl y
        where
          tagged : (z : Bool) → eqb t 0 ≡ z → let r : Stepped R D = cond z (settle R D (continue R D w a st.tables)) (refuse R D st 15) in
              call_of R r.1 ≡ Some c → update R t None b c.tag ≡ None
          tagged true z y =
              let r = continue R D w a st.tables in
              let l = deliver_leaves R D w.header w.rest st.tables (λ t'. run_leaves R D w.header w.rest t') (st.tables.at w.header) (λ l. resume l w.pending a) in
              let n = leaves_tag R D w.header w.rest r.outs r.call r.wait l c y in
              rw (same t 0 z, n)
          tagged false z y = absurd (none_some y)
      go (Some w) q (removal i) y = absurd (none_some y)
      go (Some w) q (sweep now) y = absurd (none_some y)
      go (Some w) q other y = absurd (none_some y)

  -- ---- together

  pub simulates : Simulates R (reference R D)
  unfolding Noted
  simulates = record {
    Inv = λ b st. Noted (b 0) st.wait;
    bare = λ s. refl;
    inv_empty = tt;
    inv_step = step_noted;
    view = view;
    view_table = λ s st. view_table s (st.tables.at s) st.wait;
    view_gone = λ s st e. rw e;
    live = step_live;
    birth = step_birth;
    born = step_born;
    silent = λ s b st e v q. step_silent s st e q;
    greets = step_greets;
    fresh = λ b st e v. step_fresh st e;
    own_tag = step_tag;
  }
