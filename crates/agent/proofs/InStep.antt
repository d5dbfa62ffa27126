-- The agent goes in step with `isolation`'s reference agent over the same rules: the same runs, and 15, 20, 12, 14 and 13 refused besides.
use Rattle.std.specs.Prelude.{Option, None, Some}
use mathlib.Core.Path.{◌≡◌, refl, sym, ap, ◌∙◌, subst}
use Prim.Native.Nat.{ℕ, zero, suc, ◌+◌}
use mathlib.Core.Bool.{Bool, true, false, cond}
use Rattle.std.specs.Option.{option_map}
use mathlib.Core.Logic.{◌⊎◌, inl, inr}
use mathlib.Core.List.{List, [], ◌∷◌, ◌++◌, map}
use native.Mathlib.Omega.{arith}
use lib.Dec.{ltb}
use lib.ListN.{length}
use Rattle.codec.specs.Bytes.{put_at}
use Rattle.codec.specs.Answers.{Answer as Read, gives, refused_as}
use Rattle.codec.specs.Grammar.{Said, reading}
use Rattle.codec.specs.declared.header.MessageHeader.{MessageHeader}
use Rattle.isolation.specs.Rules as iso
use Rattle.isolation.specs.Claim as claim
use Rattle.isolation.proofs.Reference as ref
use Rattle.isolation.proofs.Refine.{InStep, stops, goes, Refines}
use Rattle.hours.specs.Week.{is_minute}
use Rattle.sessions.specs.Opening.{after, live_from}
use Rattle.sessions.specs.View.{Local, absent}
use Rattle.moves.specs.Calls.{Call, Answer, fits}
use Rattle.moves.specs.Replies.{client_bytes}
use Rattle.agent.specs.Brings.{Opening, In, moment_of, parsed_as, message_from}
use Rattle.agent.specs.RulesFragments.{Working, handle, resumed}
use Rattle.agent.specs.Rules.{rules}
use Rattle.agent.specs.Step.{Tables, Open, Agent, next_free, chosen, open_as, Reply, opened, replied, Ran, behind, keep, act, deliver, run, continued, Event, datagram, answer, removal, sweep, Result, ran, removed, swept, Did, refuse, finish, joined_replies, call_of, open_of, with_tables, settle, begin, too_long, over_held, with_id, is_live, stays, lapsed_ids, with_locals, stepped, step}
use Rattle.agent.specs.declared.state.Given.{Given}
use Rattle.agent.specs.Claim.{Hosted, host_call, out_of, asked_of, result_of, agent}

module _ (is_open : ℕ → ℕ → Bool) (max timeout : ℕ) where
  abbrev R : iso.Rules
  R = rules is_open timeout

  -- 255 ids, and "`max_clients` sessions live"
  abbrev pub D : ref.Admission R
  D = record { top = 255; admits = λ ls o. ltb (length ls) max }

  abbrev pub A : claim.Agent R
  A = agent is_open max timeout

  abbrev pub B : claim.Agent R
  B = ref.reference R D

  -- ---- the reference agent's values

  abbrev tables_of : Tables → ref.Tables R D
  tables_of t = record { next = t.next; at = t.at }

  abbrev wait_of : Open → ref.Wait R D
  wait_of w = record { header = w.session; pending = w.pending; rest = w.rest }

  abbrev pub state_of : Agent → ref.State R D
  state_of st = record { tables = tables_of st.tables; wait = option_map wait_of st.waits }

  abbrev outs : List Reply → List (iso.Out R)
  outs rs = map (out_of is_open max timeout) rs

  abbrev asked : Option (Call × Open) → Option (iso.Asked R)
  asked x = asked_of is_open max timeout (open_of x) (call_of x)

  abbrev ran_of : Ran → ref.Ran R D
  ran_of r = record { tables = tables_of r.tables; wait = option_map wait_of (open_of r.stop); outs = outs r.replies; call = asked r.stop }

  -- ---- a run

  live_length : (x : Option Local) (ls : List Local) → length (ref.here R D x ++ ls) ≡ cond (absent x) 0 1 + length ls
  live_length None ls = omega arith
  live_length (Some l) ls = omega arith

  live_same : (at : ℕ → Option Local) (i n : ℕ) → length (ref.live R D at (ref.ids R D i n)) ≡ live_from (λ i. absent (at i)) i n
  unfolding ref.live ref.ids live_from
  live_same at i zero = refl
  live_same at i (suc n) = live_length (at i) (ref.live R D at (ref.ids R D (suc i) n)) ∙ ap (λ (k : ℕ). cond (absent (at i)) 0 1 + k) (live_same at (suc i) n)

  free_same : (at : ℕ → Option Local) (i n : ℕ) → next_free at i n ≡ ref.free R D n i at
  unfolding next_free ref.free
  free_same at i zero = refl
  free_same at i (suc n) = go (at i) (free_same at (after i) n)
    where
      go : (x : Option Local) → next_free at (after i) n ≡ ref.free R D n (after i) at
          → ◌≡◌ {A = Option ℕ} (elim x [ None ↦ Some i | Some l ↦ next_free at (after i) n ]) (elim x [ None ↦ Some i | Some l ↦ ref.free R D n (after i) at ])
      go None e = refl
      go (Some l) e = e

  chosen_same : (o : Opening) (t : Tables) → chosen max t ≡ ref.chosen R D o (tables_of t)
  unfolding chosen ref.chosen
  chosen_same o t = rw (live_same t.at 1 255, free_same t.at t.next 255)

  map_replies : (id : ℕ) (bs : List (List ℕ)) (rs : List Reply) → outs (map (replied id) bs ++ rs) ≡ map (iso.reply id) bs ++ outs rs
  map_replies id [] rs = refl
  map_replies id (b ∷ bs) rs = ap (λ (os : List (iso.Out R)). iso.reply id b ∷ os) (map_replies id bs rs)

  map_all : (id : ℕ) (bs : List (List ℕ)) → outs (map (replied id) bs) ≡ map (iso.reply id) bs
  map_all id [] = refl
  map_all id (b ∷ bs) = ap (λ (os : List (iso.Out R)). iso.reply id b ∷ os) (map_all id bs)

  deliver_same : (id : ℕ) (rest : List (iso.Sub Opening In)) (t : Tables) (x : Option Local) (rule : Local → Working) (f : Tables → Ran) (g : ref.Tables R D → ref.Ran R D)
      → ((t : Tables) → ran_of (f t) ≡ g (tables_of t)) → ran_of (deliver id rest t x rule f) ≡ ref.deliver R D id rest (tables_of t) x rule g
  deliver_same id rest t None rule f g e = e t
  deliver_same id rest t (Some l) rule f g e = go (rule l)
    where
      go : (m : Working) → ran_of (act id rest t m f) ≡ ref.act R D id rest (tables_of t) m g
      go (iso.done l' bs) =
          let r = ran_of (f (keep id l' t)) in
          ap (λ (os : List (iso.Out R)). record { tables = r.tables; wait = r.wait; outs = os; call = r.call }) (map_replies id bs (f (keep id l' t)).replies)
          ∙ ap (λ (q : ref.Ran R D). ref.tell R D (map (iso.reply id) bs) q) (e (keep id l' t))
      go (iso.calls l' bs c p) =
          let r = ran_of (act id rest t (iso.calls l' bs c p) f) in
          ap (λ (os : List (iso.Out R)). record { tables = r.tables; wait = r.wait; outs = os; call = r.call }) (map_all id bs)

  run_same : (id : ℕ) (ss : List (iso.Sub Opening In)) (t : Tables) → ran_of (run max id ss t) ≡ ref.run R D id ss (tables_of t)
  unfolding run ref.run
  run_same id [] t = refl
  run_same id (iso.opens o ∷ ss) t = go (chosen max t) (ref.chosen R D o (tables_of t)) (chosen_same o t) (λ t'. run_same id ss t')
    where
      go : (x y : Option ℕ) → x ≡ y → ((t' : Tables) → ran_of (run max id ss t') ≡ ref.run R D id ss (tables_of t'))
          → ran_of (behind (opened x ∷ []) (run max id ss (open_as o t x))) ≡ ref.tell R D (iso.opened y (client_bytes y) ∷ []) (ref.run R D id ss (ref.open_as_lem R D o (tables_of t) y))
      go x y e k = subst (λ (y : Option ℕ). ran_of (behind (opened x ∷ []) (run max id ss (open_as o t x))) ≡ ref.tell R D (iso.opened y (client_bytes y) ∷ []) (ref.run R D id ss (ref.open_as_lem R D o (tables_of t) y))) e (same x)
        where
          same : (x : Option ℕ) → ran_of (behind (opened x ∷ []) (run max id ss (open_as o t x))) ≡ ref.tell R D (iso.opened x (client_bytes x) ∷ []) (ref.run R D id ss (ref.open_as_lem R D o (tables_of t) x))
          same None = ap (λ (q : ref.Ran R D). ref.tell R D (iso.opened None (client_bytes None) ∷ []) q) (k t)
          same (Some i) = ap (λ (q : ref.Ran R D). ref.tell R D (iso.opened (Some i) (client_bytes (Some i)) ∷ []) q) (k (open_as o t (Some i)))
  run_same id (iso.names i ∷ ss) t = deliver_same id ss t (t.at id) (λ l. handle l i) (λ t'. run max id ss t') (λ t'. ref.run R D id ss t') (λ t'. run_same id ss t')

  continued_same : (w : Open) (a : Answer) (t : Tables) → ran_of (continued max w a t) ≡ ref.continue R D (wait_of w) a (tables_of t)
  continued_same w a t = deliver_same w.session w.rest t (t.at w.session) (λ l. resumed l w.pending a) (λ t'. run max w.session w.rest t') (λ t'. ref.run R D w.session w.rest t') (run_same w.session w.rest)

  -- ---- one call

  abbrev result_in : Did → iso.Result R
  result_in d = result_of is_open max timeout d.agent.waits d.result

  -- the limits stay, and so does which minutes are open
  abbrev Limits : Agent → Agent → Type 0
  Limits st st' = (st'.max ≡ st.max) × (st'.timeout ≡ st.timeout) × (st'.is_open ≡ st.is_open)

  -- refused, and nothing changed; or as the reference agent
  abbrev Goes : Agent → Did → ref.State R D × iso.Result R → Type 0
  Goes st d r = ((n : ℕ) × (result_in d ≡ iso.refused n) × (d.agent ≡ st)) ⊎ ((state_of d.agent ≡ r.0) × (result_in d ≡ r.1) × Limits st d.agent)

  refuse_goes : (st : Agent) (out : List ℕ) (number byte : ℕ) (x : ref.State R D × iso.Result R) → Goes st (refuse st out number byte) x
  refuse_goes st out number byte x = inl (number, refl, refl)

  finish_goes : (st : Agent) (out : List ℕ) (st' : Agent) (bytes : List ℕ) (q : Result) (r : ref.State R D × iso.Result R)
      → state_of st' ≡ r.0 → result_of is_open max timeout st'.waits q ≡ r.1 → Limits st st' → Goes st (finish st out st' bytes q) r
  finish_goes st out st' bytes q r e f z = go (ltb (length out) (length bytes))
    where
      go : (b : Bool) → Goes st (cond b (refuse st out 13 0) (record { agent = st'; out = put_at out 0 bytes; result = q })) r
      go true = refuse_goes st out 13 0 r
      go false = inr (e, f, z)

  settle_goes : (st : Agent) (out : List ℕ) (r : Ran) (q : ref.Ran R D) → ran_of r ≡ q → Goes st (settle st out r) (ref.settle R D q)
  settle_goes st out r q e =
      finish_goes st out (with_tables st r.tables (open_of r.stop)) (joined_replies r.replies) (ran r.replies (call_of r.stop)) (ref.settle R D q)
      (ap (λ (q : ref.Ran R D). (ref.settle R D q).0) e) (ap (λ (q : ref.Ran R D). (ref.settle R D q).1) e) (refl, refl, refl)

  -- the state with this limit, this timeout and these open minutes
  abbrev made : Tables → Option Open → Agent
  made t w = record { max = max; timeout = timeout; is_open = is_open; tables = t; waits = w }

  begin_goes : (t : Tables) (out : List ℕ) (given : Given) (x : Read (MessageHeader × List Said))
      → let st = made t None in Goes st (begin st out given x) (ref.begin R D (state_of st) (parsed_as (moment_of is_open given) x))
  begin_goes t out given (refused_as number byte) = refuse_goes (made t None) out number byte (ref.begin R D (state_of (made t None)) None)
  begin_goes t out given (gives x) =
      let m = message_from (moment_of is_open given) x.0 x.1 in
      settle_goes (made t None) out (run max m.header m.subs t) (ref.run R D m.header m.subs (tables_of t)) (run_same m.header m.subs t)

  stays_same : (now : ℕ) (x : Option Local) → stays timeout now x ≡ ref.stays R D now x
  stays_same now None = refl
  stays_same now (Some l) = refl

  stepped_goes : (t : Tables) (w : Option Open) (e : Event) (out : List ℕ) → let st = made t w in Goes st (stepped w st e out) (ref.stepped R D (option_map wait_of w) (state_of st) (host_call is_open max timeout e))
  stepped_goes t None (datagram given bytes) out = go (is_minute given.day given.minute)
    where
      st : Agent
      st = made t None

      go : (b : Bool) → Goes st (cond b (begin st out given (reading bytes)) (refuse st out 20 0)) (ref.begin R D (state_of st) (parsed_as (moment_of is_open given) (reading bytes)))
      go true = begin_goes t out given (reading bytes)
      go false = refuse_goes st out 20 0 _
  stepped_goes t None (answer a) out = refuse_goes (made t None) out 15 0 _
  stepped_goes t None (removal id) out = finish_goes (made t None) out (with_locals (made t None) (with_id id None t.at)) [] (removed (is_live (t.at id))) _ refl refl (refl, refl, refl)
  stepped_goes t None (sweep now) out =
      let ids = lapsed_ids timeout now t.at in
      finish_goes (made t None) out (with_locals (made t None) (λ i. stays timeout now (t.at i))) ids (swept ids)
      (ref.stepped R D None (state_of (made t None)) (iso.sweep now)) (λ j. record { tables = record { next = t.next; at = λ i. stays_same now (t.at i) j }; wait = None }) refl (refl, refl, refl)
  stepped_goes t (Some w) (datagram given bytes) out = refuse_goes (made t (Some w)) out 15 0 _
  stepped_goes t (Some w) (answer a) out = go (fits w.pending.asked.task a) (too_long w.pending.asked a) (over_held w a t)
    where
      st : Agent
      st = made t (Some w)

      go : (b c d : Bool) → Goes st (cond b (cond c (refuse st out 12 0) (cond d (refuse st out 14 0) (settle st out (continued max w a t)))) (refuse st out 15 0)) (ref.settle R D (ref.continue R D (wait_of w) a (tables_of t)))
      go true true d = refuse_goes st out 12 0 _
      go true false true = refuse_goes st out 14 0 _
      go true false false = settle_goes st out (continued max w a t) (ref.continue R D (wait_of w) a (tables_of t)) (continued_same w a t)
      go false c d = refuse_goes st out 15 0 _
  stepped_goes t (Some w) (removal id) out = refuse_goes (made t (Some w)) out 15 0 _
  stepped_goes t (Some w) (sweep now) out = refuse_goes (made t (Some w)) out 15 0 _

  abbrev pub Inv : Agent → Type 0
  Inv st = (st.max ≡ max) × (st.timeout ≡ timeout) × (st.is_open ≡ is_open)

  step_goes : (st : Agent) (e : Event) (out : List ℕ) → Inv st → Goes st (step st e out) (B.step (state_of st) (host_call is_open max timeout e))
  unfolding step ref.step
  step_goes st e out (p, q, o) =
      subst (λ (m : ℕ). let st' : Agent = record { max = m; timeout = st.timeout; is_open = st.is_open; tables = st.tables; waits = st.waits } in
      Goes st' (stepped st.waits st' e out) (ref.stepped R D (option_map wait_of st.waits) (state_of st) (host_call is_open max timeout e))) (sym p)
      (subst (λ (s : ℕ). let st' : Agent = record { max = max; timeout = s; is_open = st.is_open; tables = st.tables; waits = st.waits } in
      Goes st' (stepped st.waits st' e out) (ref.stepped R D (option_map wait_of st.waits) (state_of st) (host_call is_open max timeout e))) (sym q)
      (subst (λ (f : ℕ → ℕ → Bool). let st' : Agent = record { max = max; timeout = timeout; is_open = f; tables = st.tables; waits = st.waits } in
      Goes st' (stepped st.waits st' e out) (ref.stepped R D (option_map wait_of st.waits) (state_of st) (host_call is_open max timeout e))) (sym o)
      (stepped_goes st.tables st.waits e out)))

  pub in_step : (st : Agent) (e : Hosted) → Inv st → InStep R A B state_of st e
  in_step st e v = go (step_goes st e.event e.out v)
    where
      go : Goes st (step st e.event e.out) (B.step (state_of st) (host_call is_open max timeout e.event)) → InStep R A B state_of st e
      go (inl (n, r, z)) = stops n r (ap state_of z)
      go (inr (s, r, z)) = goes (host_call is_open max timeout e.event) refl s r

  pub inv_step : (st : Agent) (e : Hosted) → Inv st → Inv (A.step st e).0
  inv_step st e v = go (step_goes st e.event e.out v)
    where
      go : Goes st (step st e.event e.out) (B.step (state_of st) (host_call is_open max timeout e.event)) → Inv (step st e.event e.out).agent
      go (inl (n, r, z)) = rw z v
      go (inr (s, r, z)) = (z.0 ∙ v.0, z.1 ∙ v.1, z.2 ∙ v.2)

  pub refines : Refines R A B
  refines = record {
    Inv = Inv;
    inv_empty = (refl, refl, refl);
    inv_step = inv_step;
    abs = state_of;
    abs_empty = refl;
    abs_table = λ s st. refl;
    in_step = in_step;
  }
