-- A proof device: `Isolated` for every list of calls, from facts about one call of the host.
use Rattle.std.specs.Prelude.{Option, None, Some}
use mathlib.Core.Path.{◌≡◌, refl, sym, ap, ◌∙◌, subst}
use Prim.Native.Nat.{ℕ}
use native.Mathlib.Omega.{arith}
use mathlib.Core.Bool.{Bool, true, false, cond, true≢false}
use mathlib.Core.List.{List, [], ◌∷◌, ◌++◌}
use lib.Dec.{eqb}
use Rattle.isolation.specs.Rules.{Sub, Message, Rules, Host, Result, refused, ran}
use Rattle.isolation.specs.Machine.{Machine, ended, idle, Feed, submessages, Moved, take, takes, work, Trace, table_of, trace}
use Rattle.isolation.specs.Claim.{Agent, OpenCalls, works_on, open_after, but_clients, if_names, feed_of, unless_refused, outs_of, replies_of, calls_of, client_at, status_at, subs_of, Greeted, Silent, Fresh, OwnTag, Point, set_up, next, reached, Session, until, agent_trace, of_agent, feeds, fed, Isolated}

pub none_some : {B : Type 0} {b : B} → ◌≡◌ {A = Option B} None (Some b) → ⊥
none_some {B} {b} e = let z : ◌≡◌ {A = ℕ} 0 1 = cc in omega arith

module _ (R : Rules) where
  open R use {Opening, In, Local, start}

  -- the submessages for s under a header
  abbrev pub for_it : ℕ → ℕ → List (Sub Opening In) → List In
  for_it s h ss = cond (eqb h s) (but_clients R ss) []

  pub for_is : (s h : ℕ) (ss : List (Sub Opening In)) → if_names R s (Some (record { header = h; subs = ss })) (λ ss. submessages (but_clients R ss)) ≡ submessages (for_it s h ss)
  for_is s h ss = go (eqb h s)
    where
      go : (b : Bool) → ◌≡◌ {A = Feed R} (cond b (submessages (but_clients R ss)) (submessages [])) (submessages (cond b (but_clients R ss) []))
      go true = refl
      go false = refl

  -- not refused
  abbrev pub went : Result R → Bool
  went (refused n) = false
  went (ran os c) = true

  -- a CREATE_CLIENT of a datagram that was answered with s
  pub record Opened (s : ℕ) (x : Option (Message Opening In)) (r : Result R) : Type 0 where
    pub message : Message Opening In
    pub number : ℕ
    pub client : Opening
    pub behind : List (Sub Opening In)
    pub brings : x ≡ Some message
    pub asks : client_at R number message.subs ≡ Some (client, behind)
    pub granted : status_at R number (outs_of R r) ≡ Some s

  module _ (A : Agent R) where
    open A use {State, Event, empty, table, step, host_call}

    -- session s after a call, and what it got in it, is what the machine makes of a feed, which came in turn
    pub record Agrees (view : State → Machine R) (s : ℕ) (r : State × Result R) (m : Moved R) : Type 0 where
      pub sees : view r.0 ≡ m.machine
      pub says : replies_of R s (outs_of R r.1) ≡ m.replies
      pub asks : calls_of R s r.1 ≡ m.calls
      pub turns : m.in_turn ≡ true

    -- with s live, a call is refused and leaves s as it was, or s moves as the machine that is fed its part of the call
    pub data Follows (view : State → Machine R) (s : ℕ) (b : OpenCalls R) (st : State) (e : Event) (r : State × Result R) : Type 0 where
      refuses : (n : ℕ) → r.1 ≡ refused n → view r.0 ≡ view st → Follows view s b st e r
      moves : went r.1 ≡ true → Agrees view s r (take R (view st) (feed_of R s b (host_call e))) → Follows view s b st e r

    pub record Simulates : Type 1 where
      pub Inv : OpenCalls R → State → Type 0
      pub bare : (s : ℕ) → table empty s ≡ None
      pub inv_empty : Inv (λ t. None) empty
      pub inv_step : (b : OpenCalls R) (st : State) (e : Event) → Inv b st → Inv (open_after R b (host_call e) (step st e).1) (step st e).0
      -- what a state keeps of a session, as a machine
      pub view : ℕ → State → Machine R
      pub view_table : (s : ℕ) (st : State) → table_of R (view s st) ≡ table st s
      pub view_gone : (s : ℕ) (st : State) → table st s ≡ None → view s st ≡ ended
      pub live : (s : ℕ) (b : OpenCalls R) (st : State) (e : Event) (l : Local) → Inv b st → table st s ≡ Some l → Follows (view s) s b st e (step st e)
      -- the call that opens s leaves it as the machine that ran what names it behind its CREATE_CLIENT
      pub birth : (b : OpenCalls R) (st : State) (e : Event) (s : ℕ) (o : Opened s (works_on R b (host_call e)).0 (step st e).1) → Inv b st
          → Agrees (view s) s (step st e) (work R (start s o.client) (for_it s o.message.header o.behind))
      pub born : (s : ℕ) (b : OpenCalls R) (st : State) (e : Event) (l : Local) → Inv b st → table st s ≡ None → table (step st e).0 s ≡ Some l
          → Opened s (works_on R b (host_call e)).0 (step st e).1
      pub silent : (s : ℕ) (b : OpenCalls R) (st : State) (e : Event) → Inv b st → table (step st e).0 s ≡ None → Silent R s (step st e).1
      pub greets : (b : OpenCalls R) (st : State) (e : Event) → Inv b st → Greeted R (subs_of R (works_on R b (host_call e)).0) (step st e).1
      pub fresh : (b : OpenCalls R) (st : State) (e : Event) → Inv b st → Fresh R (table st) (step st e).1
      pub own_tag : (b : OpenCalls R) (st : State) (e : Event) → Inv b st → OwnTag R (works_on R b (host_call e)).1 (step st e).1

    -- ---- a trace is that of a machine that lives through what it is fed, all in turn

    pub record Same (m : Machine R) (fs : List (Feed R)) (t : Trace R) : Type 0 where
      pub alike : t ≡ trace R (takes R m fs)
      pub turns : (takes R m fs).in_turn ≡ true

    -- an ended machine does nothing more
    same_ended : (fs : List (Feed R)) → Same ended fs (record { calls = []; replies = []; table = None })
    same_ended [] = record { alike = refl; turns = refl }
    same_ended (f ∷ fs) = let k = same_ended fs in record { alike = k.alike; turns = k.turns }

    -- one call in front
    same_more : (view : State → Machine R) (s : ℕ) (r : State × Result R) (m : Machine R) (f : Feed R) (fs : List (Feed R)) (t : Trace R)
        → Agrees view s r (take R m f) → Same (view r.0) fs t
        → Same m (f ∷ fs) (record { calls = calls_of R s r.1 ++ t.calls; replies = replies_of R s (outs_of R r.1) ++ t.replies; table = t.table })
    same_more view s r m f fs t a k =
        let k' : Same (take R m f).machine fs t = subst (λ (m : Machine R). Same m fs t) a.sees k in
        rw (a.asks, a.says)
        (record {
          alike = ap (λ (t : Trace R). record { calls = (take R m f).calls ++ t.calls; replies = (take R m f).replies ++ t.replies; table = t.table }) k'.alike;
          turns = rw a.turns k'.turns;
        })

    fed_went : (x : Result R) (f : Feed R) (fs : List (Feed R)) → went x ≡ true → unless_refused R x f fs ≡ f ∷ fs
    fed_went (refused n) f fs w = absurd (true≢false (sym w))
    fed_went (ran os c) f fs w = refl

    module _ (sim : Simulates) where
      open sim use {Inv, inv_empty, inv_step, view, view_table, view_gone, live, birth, born, silent, greets, fresh, own_tag}

      inv_reached : (H : List Event) (p : Point R A) → Inv p.open_calls p.state → Inv (reached R A p H).open_calls (reached R A p H).state
      inv_reached [] p v = v
      inv_reached (e ∷ H) p v = inv_reached H (next R A p e) (inv_step p.open_calls p.state e v)

      -- ---- a session from where it is live

      abbrev Follow : ℕ → Point R A → List Event → Trace R → Type 0
      Follow s p H t = Same (view s p.state) (feeds R A s p H) t

      -- where s may have gone
      follow_until : (s : ℕ) (H : List Event) (p : Point R A) → ((l : Local) → table p.state s ≡ Some l → Follow s p H (agent_trace R A s p H))
          → Follow s p H (until R A (table p.state s) (agent_trace R A s p H))
      follow_until s H p k = go (table p.state s) refl
        where
          go : (x : Option Local) → table p.state s ≡ x → Follow s p H (until R A x (agent_trace R A s p H))
          go None e = rw (view_gone s p.state e) (same_ended (feeds R A s p H))
          go (Some l) e = k l e

      follow_step : (s : ℕ) (p : Point R A) (e : Event) (H : List Event) → Follows (view s) s p.open_calls p.state e (step p.state e)
          → Follow s (next R A p e) H (until R A (table (next R A p e).state s) (agent_trace R A s (next R A p e) H)) → Follow s p (e ∷ H) (agent_trace R A s p (e ∷ H))
      follow_step s p e H (refuses n q v) k = rw (q, ← v) (rw q at k)
      follow_step s p e H (moves w a) k =
          rw (fed_went (step p.state e).1 (feed_of R s p.open_calls (host_call e)) (feeds R A s (next R A p e) H) w)
          (same_more (view s) s (step p.state e) (view s p.state) (feed_of R s p.open_calls (host_call e)) (feeds R A s (next R A p e) H)
          (until R A (table (next R A p e).state s) (agent_trace R A s (next R A p e) H)) a k)

      follow : (s : ℕ) (H : List Event) (p : Point R A) (l : Local) → Inv p.open_calls p.state → table p.state s ≡ Some l → Follow s p H (agent_trace R A s p H)
      follow s [] p l v q = record { alike = λ i. record { calls = []; replies = []; table = sym (view_table s p.state) i }; turns = refl }
      follow s (e ∷ H) p l v q =
          follow_step s p e H (live s p.open_calls p.state e l v q) (follow_until s H (next R A p e) (λ l q. follow s H (next R A p e) l (inv_step p.open_calls p.state e v) q))

      -- ---- a session from its opening

      session : {H : List Event} (S : Session R A H) → Same (idle (start S.id S.client)) (fed R A S) (of_agent R A S)
      session {H} S =
          let p = reached R A (set_up R A) S.before in
          let v : Inv p.open_calls p.state = inv_reached S.before (set_up R A) inv_empty in
          let o : Opened S.id (works_on R p.open_calls (host_call S.call)).0 (step p.state S.call).1 =
          record { message = S.message; number = S.number; client = S.client; behind = S.behind; brings = S.brings; asks = S.asks; granted = S.granted } in
          subst (λ (f : Feed R). Same (idle (start S.id S.client)) (f ∷ feeds R A S.id (next R A p S.call) S.later) (of_agent R A S)) (sym (for_is S.id S.message.header S.behind))
          (same_more (view S.id) S.id (step p.state S.call) (idle (start S.id S.client)) (submessages (for_it S.id S.message.header S.behind))
          (feeds R A S.id (next R A p S.call) S.later) (until R A (table (next R A p S.call).state S.id) (agent_trace R A S.id (next R A p S.call) S.later))
          (birth p.open_calls p.state S.call S.id o v)
          (follow_until S.id S.later (next R A p S.call) (λ l q. follow S.id S.later (next R A p S.call) l (inv_step p.open_calls p.state S.call v) q)))

      -- ---- no session escapes

      -- s is live after H: it was live before, or a call of H opened it; and its trace goes to the end of H
      record From (p : Point R A) (H : List Event) (s : ℕ) (l : Local) : Type 0 where
        before : List Event
        call : Event
        later : List Event
        whole : H ≡ before ++ call ∷ later
        opened : Opened s (works_on R (reached R A p before).open_calls (host_call call)).0 (step (reached R A p before).state call).1
        stays : (agent_trace R A s (reached R A p before) (call ∷ later)).table ≡ Some l

      data Source (p : Point R A) (H : List Event) (s : ℕ) (l : Local) : Type 0 where
        from_start : (l₀ : Local) → table p.state s ≡ Some l₀ → (agent_trace R A s p H).table ≡ Some l → Source p H s l
        from_call : From p H s l → Source p H s l

      source : (H : List Event) (p : Point R A) (s : ℕ) (l : Local) → Inv p.open_calls p.state → table (reached R A p H).state s ≡ Some l → Source p H s l
      source [] p s l v q = from_start l q q
      source (e ∷ H) p s l v q = go (source H (next R A p e) s l (inv_step p.open_calls p.state e v) q)
        where
          go : Source (next R A p e) H s l → Source p (e ∷ H) s l
          go (from_call f) = from_call (record { before = e ∷ f.before; call = f.call; later = f.later; whole = ap (λ (z : List Event). e ∷ z) f.whole; opened = f.opened; stays = f.stays })
          go (from_start l₁ z t) = was (table p.state s) refl
            where
              on : (agent_trace R A s p (e ∷ H)).table ≡ Some l
              on = rw z t

              was : (x : Option Local) → table p.state s ≡ x → Source p (e ∷ H) s l
              was None y = from_call (record { before = []; call = e; later = H; whole = refl; opened = born s p.open_calls p.state e l₁ v y z; stays = on })
              was (Some l₀) y = from_start l₀ y on

      covers : ((s : ℕ) → table empty s ≡ None) → (H : List Event) (s : ℕ) (l : Local) → table (reached R A (set_up R A) H).state s ≡ Some l
          → (S : Session R A H) × (S.id ≡ s) × ((of_agent R A S).table ≡ Some l)
      covers bare H s l q = go (source H (set_up R A) s l inv_empty q)
        where
          go : Source (set_up R A) H s l → (S : Session R A H) × (S.id ≡ s) × ((of_agent R A S).table ≡ Some l)
          go (from_start l₀ z t) = absurd (none_some (sym (bare s) ∙ z))
          go (from_call f) =
              let o = f.opened in
              (record { before = f.before; call = f.call; later = f.later; whole = f.whole; message = o.message; number = o.number; client = o.client; behind = o.behind; id = s; brings = o.brings; asks = o.asks; granted = o.granted }, refl, f.stays)

      -- ---- for every list of calls

      pub isolated_of : (H : List Event) → Isolated R A H
      isolated_of H = record {
        alone = λ S. (session S).alike;
        in_turn = λ S. (session S).turns;
        covered = covers (Simulates.bare sim) H;
        silent = λ e s q. silent s now.open_calls now.state e holds q;
        greets = λ e. greets now.open_calls now.state e holds;
        fresh = λ e. fresh now.open_calls now.state e holds;
        own_tag = λ e. own_tag now.open_calls now.state e holds;
      }
        where
          now : Point R A
          now = reached R A (set_up R A) H

          holds : Inv now.open_calls now.state
          holds = inv_reached H (set_up R A) inv_empty
