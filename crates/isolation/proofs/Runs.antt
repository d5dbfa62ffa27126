-- The reference agent's runs, seen by one session: a run moves it as the machine moves, opens no live id, and passes over the
-- CREATE_CLIENTs that it answers.
use Rattle.std.specs.Prelude.{Option, None, Some}
use mathlib.Core.Path.{◌≡◌, refl, sym, ap, ◌∙◌, subst}
use Prim.Native.Nat.{ℕ, zero, suc}
use mathlib.Core.Bool.{Bool, true, false, cond, true≢false}
use mathlib.Core.List.{List, [], ◌∷◌, ◌++◌, map}
use lib.Dec.{eqb, T, eqb→eq, eqb_refl}
use Rattle.isolation.specs.Rules.{Bytes, Outcome, done, calls, Sub, opens, names, Message, Rules, Out, opened, reply, Asked, ran}
use Rattle.isolation.specs.Machine.{Machine, ended, idle, waiting, Action, handles, resumes, Moved, still, on, work}
use Rattle.isolation.specs.Claim.{behind_client, past, Greets, but_clients, replies_of, calls_of, client_at, status_at}
use Rattle.isolation.proofs.Simulation.{none_some, for_it}
use Rattle.isolation.proofs.Reference.{Admission, Tables, Wait, Ran, put, after, free, chosen, open_as_lem, keep_as, tell, act, deliver, run, continue}

-- ---- tests

true_is : (b : Bool) → T b → b ≡ true
true_is true t = refl
true_is false t = absurd t

pub eqb_same : (n : ℕ) → eqb n n ≡ true
eqb_same n = true_is (eqb n n) (eqb_refl n)

pub same : (m n : ℕ) → eqb m n ≡ true → m ≡ n
same m n e = eqb→eq m n (subst T (sym e) tt)

pub apart : (m n : ℕ) → eqb m n ≡ false → eqb n m ≡ false
apart m n e = go (eqb n m) refl
  where
    go : (b : Bool) → eqb n m ≡ b → b ≡ false
    go false p = refl
    go true p = absurd (true≢false (sym (eqb_same m) ∙ subst (λ (k : ℕ). eqb m k ≡ false) (same n m p) e))

module _ (R : Rules) (D : Admission R) where
  open R use {Opening, In, Ans, Call, Pending, Local, start, handle, resume}

  -- ---- what session s gets

  abbrev pub call_for : ℕ → Option (Asked R) → List Call
  call_for s None = []
  call_for s (Some a) = cond (eqb a.session s) (a.call ∷ []) []

  pub calls_is : (s : ℕ) (os : List (Out R)) (c : Option (Asked R)) → calls_of R s (ran os c) ≡ call_for s c
  calls_is s os None = refl
  calls_is s os (Some a) = refl

  replies_mine : (s : ℕ) (rs : List Bytes) (os : List (Out R)) → replies_of R s (map (reply s) rs ++ os) ≡ rs ++ replies_of R s os
  replies_mine s [] os = refl
  replies_mine s (r ∷ rs) os = rw eqb_same (ap (λ (l : List Bytes). r ∷ l) (replies_mine s rs os))

  replies_mine_all : (s : ℕ) (rs : List Bytes) → replies_of R s (map (reply s) rs) ≡ rs
  replies_mine_all s [] = refl
  replies_mine_all s (r ∷ rs) = rw eqb_same (ap (λ (l : List Bytes). r ∷ l) (replies_mine_all s rs))

  pub replies_other : (s h : ℕ) → eqb h s ≡ false → (rs : List Bytes) (os : List (Out R)) → replies_of R s (map (reply h) rs ++ os) ≡ replies_of R s os
  replies_other s h e [] os = refl
  replies_other s h e (r ∷ rs) os = rw e (replies_other s h e rs os)

  pub replies_other_all : (s h : ℕ) → eqb h s ≡ false → (rs : List Bytes) → replies_of R s (map (reply h) rs) ≡ []
  replies_other_all s h e [] = refl
  replies_other_all s h e (r ∷ rs) = rw e (replies_other_all s h e rs)

  -- ---- a session as a machine

  -- what the agent has of session s
  abbrev pub seen : ℕ → Option Local → Option (Wait R D) → Machine R
  seen s None w = ended
  seen s (Some l) None = idle l
  seen s (Some l) (Some w) = cond (eqb w.header s) (waiting l w.pending (but_clients R w.rest)) (idle l)

  -- a run of the agent is, for session s, a move of the machine
  pub record Match (s : ℕ) (r : Ran R D) (m : Moved R) : Type 0 where
    pub sees : seen s (r.tables.at s) r.wait ≡ m.machine
    pub says : replies_of R s r.outs ≡ m.replies
    pub asks : call_for s r.call ≡ m.calls

  -- what a machine works on comes in turn
  on_turns : (d : Action R) (x : Outcome Local Bytes Call Pending) (is : List In) → ((l : Local) → (work R l is).in_turn ≡ true) → (on R d x is (λ l. work R l is)).in_turn ≡ true
  on_turns d (done l rs) is k = k l
  on_turns d (calls l rs c p) is k = refl

  pub work_turns : (l : Local) (is : List In) → (work R l is).in_turn ≡ true
  work_turns l [] = refl
  work_turns l (i ∷ is) = on_turns (handles l i) (handle l i) is (λ l'. work_turns l' is)

  pub resume_turns : (l : Local) (p : Pending) (a : Ans) (is : List In) → (on R (resumes l p a) (resume l p a) is (λ l. work R l is)).in_turn ≡ true
  resume_turns l p a is = on_turns (resumes l p a) (resume l p a) is (λ l'. work_turns l' is)

  -- ---- an id that is chosen was not live

  free_is : (n i : ℕ) (f : ℕ → Option Local) (s : ℕ) → free R D n i f ≡ Some s → f s ≡ None
  unfolding free
  free_is zero i f s e = absurd (none_some e)
  free_is (suc n) i f s e = go (f i) refl (λ e'. free_is n (after R D i) f s e')
    where
      go : (x : Option Local) → f i ≡ x → (free R D n (after R D i) f ≡ Some s → f s ≡ None) → f s ≡ None
      go None p k = let e' : Some i ≡ Some s = rw (p, free) at e in cc
      go (Some l) p k = k (rw (p, free) at e)

  pub chosen_is : (o : Opening) (t : Tables R D) (s : ℕ) → chosen R D o t ≡ Some s → t.at s ≡ None
  unfolding chosen
  chosen_is o t s e = go (D.admits _ o) e
    where
      go : (b : Bool) → cond b (free R D D.top t.next t.at) None ≡ Some s → t.at s ≡ None
      go true p = free_is D.top t.next t.at s p
      go false p = absurd (none_some p)

  -- ---- the tables of s, after another is opened or kept

  pub opened_other : (o : Opening) (t : Tables R D) (s : ℕ) (l : Local) → t.at s ≡ Some l → (open_as_lem R D o t (chosen R D o t)).at s ≡ Some l
  opened_other o t s l e = go (chosen R D o t) refl
    where
      go : (x : Option ℕ) → chosen R D o t ≡ x → (open_as_lem R D o t x).at s ≡ Some l
      go None p = e
      go (Some i) p = new (eqb s i) refl
        where
          new : (b : Bool) → eqb s i ≡ b → cond (eqb s i) (Some (start i o)) (t.at s) ≡ Some l
          new true q = absurd (none_some (sym (chosen_is o t s (rw (same s i q) p)) ∙ e))
          new false q = rw q e

  -- the session that a CREATE_CLIENT opens is live then
  now_live : (o : Opening) (t : Tables R D) (s : ℕ) → chosen R D o t ≡ Some s → (open_as_lem R D o t (chosen R D o t)).at s ≡ Some (start s o)
  now_live o t s p = rw (p, eqb_same)

  kept_other : (s h : ℕ) → eqb h s ≡ false → (l : Local) (t : Tables R D) → (keep_as R D h l t).at s ≡ t.at s
  kept_other s h e l t = rw (apart h s e)

  pub kept_mine : (s : ℕ) (l : Local) (t : Tables R D) → (keep_as R D s l t).at s ≡ Some l
  kept_mine s l t = rw eqb_same

  -- a live session stays live while another is kept
  pub kept_live : (s h : ℕ) (l l' : Local) (t : Tables R D) → t.at s ≡ Some l → (l'' : Local) × ((keep_as R D h l' t).at s ≡ Some l'')
  kept_live s h l l' t e = go (eqb s h) refl
    where
      go : (b : Bool) → eqb s h ≡ b → (l'' : Local) × (cond b (Some l') (t.at s) ≡ Some l'')
      go true p = (l', refl)
      go false p = (l, e)

  -- ---- a run, with s live

  act_mine : (s : ℕ) (ss : List (Sub Opening In)) (t : Tables R D)
      → ((l : Local) → Match s (run R D s ss (keep_as R D s l t)) (work R l (but_clients R ss)))
      → (d : Action R) (x : Outcome Local Bytes Call Pending)
      → Match s (act R D s ss t x (λ t'. run R D s ss t')) (on R d x (but_clients R ss) (λ l. work R l (but_clients R ss)))
  act_mine s ss t k d (done l rs) = record { sees = (k l).sees; says = replies_mine s rs _ ∙ ap (λ (z : List Bytes). rs ++ z) (k l).says; asks = (k l).asks }
  act_mine s ss t k d (calls l rs c p) = record { sees = rw eqb_same (rw eqb_same); says = replies_mine_all s rs; asks = rw eqb_same }

  deliver_mine : (s h : ℕ) → h ≡ s → (ss : List (Sub Opening In)) (t : Tables R D) (l : Local) → t.at s ≡ Some l
      → ((l : Local) → Match s (run R D s ss (keep_as R D s l t)) (work R l (but_clients R ss)))
      → (d : Action R) (f : Local → Outcome Local Bytes Call Pending)
      → Match s (deliver R D h ss t (t.at h) f (λ t'. run R D h ss t')) (on R d (f l) (but_clients R ss) (λ l. work R l (but_clients R ss)))
  deliver_mine s h p ss t l e k d f = rw (p, e) (act_mine s ss t k d (f l))

  run_mine : (s : ℕ) (ss : List (Sub Opening In)) (t : Tables R D) (l : Local) → t.at s ≡ Some l → Match s (run R D s ss t) (work R l (but_clients R ss))
  unfolding run
  run_mine s [] t l e = record { sees = rw e; says = refl; asks = refl }
  run_mine s (opens o ∷ ss) t l e =
      let m = run_mine s ss (open_as_lem R D o t (chosen R D o t)) l (opened_other o t s l e) in
      record { sees = m.sees; says = m.says; asks = m.asks }
  run_mine s (names i ∷ ss) t l e = deliver_mine s s refl ss t l e (λ l'. run_mine s ss (keep_as R D s l' t) l' (kept_mine s l' t)) (handles l i) (λ l. handle l i)

  -- the rules at work on another session
  deliver_other : (s h : ℕ) → eqb h s ≡ false → (ss : List (Sub Opening In)) (t : Tables R D) (l : Local) → t.at s ≡ Some l
      → ((t' : Tables R D) → t'.at s ≡ Some l → Match s (run R D h ss t') (still R true (idle l)))
      → (x : Option Local) (f : Local → Outcome Local Bytes Call Pending)
      → Match s (deliver R D h ss t x f (λ t'. run R D h ss t')) (still R true (idle l))
  deliver_other s h d ss t l e k None f = k t e
  deliver_other s h d ss t l e k (Some l₀) f = go (f l₀)
    where
      go : (x : Outcome Local Bytes Call Pending) → Match s (act R D h ss t x (λ t'. run R D h ss t')) (still R true (idle l))
      go (done l' rs) =
          let m = k (keep_as R D h l' t) (kept_other s h d l' t ∙ e) in
          record { sees = m.sees; says = replies_other s h d rs _ ∙ m.says; asks = m.asks }
      go (calls l' rs c p) = record { sees = rw (apart h s d, e, d); says = replies_other_all s h d rs; asks = rw d }

  run_other : (s h : ℕ) → eqb h s ≡ false → (ss : List (Sub Opening In)) (t : Tables R D) (l : Local) → t.at s ≡ Some l → Match s (run R D h ss t) (still R true (idle l))
  unfolding run
  run_other s h d [] t l e = record { sees = rw e; says = refl; asks = refl }
  run_other s h d (opens o ∷ ss) t l e =
      let m = run_other s h d ss (open_as_lem R D o t (chosen R D o t)) l (opened_other o t s l e) in
      record { sees = m.sees; says = m.says; asks = m.asks }
  run_other s h d (names i ∷ ss) t l e = deliver_other s h d ss t l e (λ t' e'. run_other s h d ss t' l e') (t.at h) (λ l. handle l i)

  pub run_live : (s h : ℕ) (ss : List (Sub Opening In)) (t : Tables R D) (l : Local) → t.at s ≡ Some l → Match s (run R D h ss t) (work R l (for_it R s h ss))
  run_live s h ss t l e = go (eqb h s) refl
    where
      go : (b : Bool) → eqb h s ≡ b → Match s (run R D h ss t) (work R l (cond b (but_clients R ss) []))
      go true p = rw (same h s p) (run_mine s ss t l e)
      go false p = run_other s h p ss t l e

  -- the answer to s's own open call, and to another's
  pub continue_mine : (s : ℕ) (w : Wait R D) (a : Ans) (t : Tables R D) (l : Local) → t.at s ≡ Some l → w.header ≡ s
      → Match s (continue R D w a t) (on R (resumes l w.pending a) (resume l w.pending a) (but_clients R w.rest) (λ l. work R l (but_clients R w.rest)))
  continue_mine s w a t l e p =
      deliver_mine s w.header p w.rest t l e (λ l'. run_mine s w.rest (keep_as R D s l' t) l' (kept_mine s l' t)) (resumes l w.pending a) (λ l. resume l w.pending a)

  pub continue_other : (s : ℕ) (w : Wait R D) (a : Ans) (t : Tables R D) (l : Local) → t.at s ≡ Some l → eqb w.header s ≡ false
      → Match s (continue R D w a t) (still R true (idle l))
  continue_other s w a t l e p =
      deliver_other s w.header p w.rest t l e (λ t' e'. run_other s w.header p w.rest t' l e') (t.at w.header) (λ l. resume l w.pending a)

  -- ---- STATUSes

  -- the replies of sessions are passed over in the count of STATUSes
  pub opening_past : (j h : ℕ) (rs : List Bytes) (os : List (Out R)) → status_at R j (map (reply h) rs ++ os) ≡ status_at R j os
  opening_past zero h [] os = refl
  opening_past (suc j) h [] os = refl
  opening_past zero h (r ∷ rs) os = opening_past zero h rs os
  opening_past (suc j) h (r ∷ rs) os = opening_past (suc j) h rs os

  pub opening_none : (j h : ℕ) (rs : List Bytes) → status_at R j (map (reply h) rs) ≡ None
  opening_none zero h [] = refl
  opening_none (suc j) h [] = refl
  opening_none zero h (r ∷ rs) = opening_none zero h rs
  opening_none (suc j) h (r ∷ rs) = opening_none (suc j) h rs

  -- no CREATE_CLIENT opens an id that is live: behind the rules at work, and in a run
  pub deliver_never : (s h : ℕ) (ss : List (Sub Opening In)) (j : ℕ) (t : Tables R D) (l : Local) → t.at s ≡ Some l
      → ((t' : Tables R D) (l : Local) → t'.at s ≡ Some l → status_at R j (run R D h ss t').outs ≡ Some s → ⊥)
      → (x : Option Local) (f : Local → Outcome Local Bytes Call Pending) → status_at R j (deliver R D h ss t x f (λ t'. run R D h ss t')).outs ≡ Some s → ⊥
  deliver_never s h ss j t l e k None f q = k t l e q
  deliver_never s h ss j t l e k (Some l₀) f q = go (f l₀) q
    where
      go : (x : Outcome Local Bytes Call Pending) → status_at R j (act R D h ss t x (λ t'. run R D h ss t')).outs ≡ Some s → ⊥
      go (done l' rs) q = let (l'', e'') = kept_live s h l l' t e in k (keep_as R D h l' t) l'' e'' (sym (opening_past j h rs _) ∙ q)
      go (calls l' rs c p) q = none_some (sym (opening_none j h rs) ∙ q)

  pub never : (s h : ℕ) (ss : List (Sub Opening In)) (j : ℕ) (t : Tables R D) (l : Local) → t.at s ≡ Some l → status_at R j (run R D h ss t).outs ≡ Some s → ⊥
  unfolding run
  never s h [] j t l e p = none_some p
  never s h (opens o ∷ ss) zero t l e p = none_some (sym (chosen_is o t s p) ∙ e)
  never s h (opens o ∷ ss) (suc j) t l e p = never s h ss j (open_as_lem R D o t (chosen R D o t)) l (opened_other o t s l e) p
  never s h (names i ∷ ss) j t l e p = deliver_never s h ss j t l e (λ t' l e p. never s h ss j t' l e p) (t.at h) (λ l. handle l i) p

  -- no id is in two STATUSes of a run
  pub deliver_once : (s h : ℕ) (ss : List (Sub Opening In)) (j k : ℕ) (t : Tables R D)
      → ((t' : Tables R D) → status_at R j (run R D h ss t').outs ≡ Some s → status_at R k (run R D h ss t').outs ≡ Some s → k ≡ j)
      → (x : Option Local) (f : Local → Outcome Local Bytes Call Pending) → let os = (deliver R D h ss t x f (λ t'. run R D h ss t')).outs in
      status_at R j os ≡ Some s → status_at R k os ≡ Some s → k ≡ j
  deliver_once s h ss j k t once None f p q = once t p q
  deliver_once s h ss j k t once (Some l) f p q = go (f l) p q
    where
      go : (x : Outcome Local Bytes Call Pending) → let os = (act R D h ss t x (λ t'. run R D h ss t')).outs in status_at R j os ≡ Some s → status_at R k os ≡ Some s → k ≡ j
      go (done l' rs) p q = once (keep_as R D h l' t) (sym (opening_past j h rs _) ∙ p) (sym (opening_past k h rs _) ∙ q)
      go (calls l' rs c y) p q = absurd (none_some (sym (opening_none j h rs) ∙ p))

  pub run_once : (s h : ℕ) (ss : List (Sub Opening In)) (j k : ℕ) (t : Tables R D) → let os = (run R D h ss t).outs in status_at R j os ≡ Some s → status_at R k os ≡ Some s → k ≡ j
  unfolding run
  run_once s h [] j k t p q = absurd (none_some p)
  run_once s h (opens o ∷ ss) zero zero t p q = refl
  run_once s h (opens o ∷ ss) zero (suc k) t p q = absurd (never s h ss k (open_as_lem R D o t (chosen R D o t)) (start s o) (now_live o t s p) q)
  run_once s h (opens o ∷ ss) (suc j) zero t p q = absurd (never s h ss j (open_as_lem R D o t (chosen R D o t)) (start s o) (now_live o t s q) p)
  run_once s h (opens o ∷ ss) (suc j) (suc k) t p q = ap suc (run_once s h ss j k (open_as_lem R D o t (chosen R D o t)) p q)
  run_once s h (names i ∷ ss) j k t p q = deliver_once s h ss j k t (λ t' p q. run_once s h ss j k t' p q) (t.at h) (λ l. handle l i) p q

  -- ---- a run that opens s

  -- the rules at work before s is opened in the same call
  pub deliver_birth : (s h : ℕ) (ss : List (Sub Opening In)) (j : ℕ) (t : Tables R D) (m : Moved R)
      → ((t' : Tables R D) → status_at R j (run R D h ss t').outs ≡ Some s → Match s (run R D h ss t') m)
      → (x : Option Local) (f : Local → Outcome Local Bytes Call Pending)
      → status_at R j (deliver R D h ss t x f (λ t'. run R D h ss t')).outs ≡ Some s
      → Match s (deliver R D h ss t x f (λ t'. run R D h ss t')) m
  deliver_birth s h ss j t m k None f q = k t q
  deliver_birth s h ss j t m k (Some l) f q = acts (f l) q
    where
      acts : (x : Outcome Local Bytes Call Pending) → status_at R j (act R D h ss t x (λ t'. run R D h ss t')).outs ≡ Some s
          → Match s (act R D h ss t x (λ t'. run R D h ss t')) m
      acts (done l' rs) q = apartness (eqb h s) refl
        where
          q' : status_at R j (run R D h ss (keep_as R D h l' t)).outs ≡ Some s
          q' = sym (opening_past j h rs _) ∙ q

          apartness : (b : Bool) → eqb h s ≡ b → Match s (tell R D (map (reply h) rs) (run R D h ss (keep_as R D h l' t))) m
          apartness true z = absurd (never s h ss j (keep_as R D h l' t) l' (rw (same h s z) (kept_mine s l' t)) q')
          apartness false z = let n = k (keep_as R D h l' t) q' in record { sees = n.sees; says = replies_other s h z rs _ ∙ n.says; asks = n.asks }
      acts (calls l' rs c p) q = absurd (none_some (sym (opening_none j h rs) ∙ q))

  pub run_birth : (s h : ℕ) (ss : List (Sub Opening In)) (j : ℕ) (o : Opening) (behind : List (Sub Opening In)) (t : Tables R D)
      → client_at R j ss ≡ Some (o, behind) → status_at R j (run R D h ss t).outs ≡ Some s
      → Match s (run R D h ss t) (work R (start s o) (for_it R s h behind))
  unfolding run
  run_birth s h [] j o behind t a q = absurd (none_some q)
  run_birth s h (opens o₁ ∷ ss) zero o behind t a q =
      let pair : ◌≡◌ {A = Opening × List (Sub Opening In)} (o₁, ss) (o, behind) = cc in
      let o_is : o₁ ≡ o = ap (λ (x : Opening × List (Sub Opening In)). x.0) pair in
      let ss-is : ss ≡ behind = ap (λ (x : Opening × List (Sub Opening In)). x.1) pair in
      let m = run_live s h ss (open_as_lem R D o₁ t (Some s)) (start s o₁) (rw eqb_same) in
      let m' : Match s (run R D h ss (open_as_lem R D o₁ t (Some s))) (work R (start s o) (for_it R s h behind)) = rw (← o_is, ← ss-is) m in
      rw q (record { sees = m'.sees; says = m'.says; asks = m'.asks })
  run_birth s h (opens o₁ ∷ ss) (suc j) o behind t a q =
      let m = run_birth s h ss j o behind (open_as_lem R D o₁ t (chosen R D o₁ t)) a q in
      record { sees = m.sees; says = m.says; asks = m.asks }
  run_birth s h (names i ∷ ss) j o behind t a q =
      deliver_birth s h ss j t (work R (start s o) (for_it R s h behind)) (λ t' q'. run_birth s h ss j o behind t' a q') (t.at h) (λ l. handle l i) q

  -- ---- what is left of a datagram, by the STATUSes given, has the CREATE_CLIENTs that wait behind the open call

  creating_names : (j : ℕ) (i : In) (ss : List (Sub Opening In)) → client_at R j (names i ∷ ss) ≡ client_at R j ss
  creating_names zero i ss = refl
  creating_names (suc j) i ss = refl

  past_names : (os : List (Out R)) (i : In) (ss : List (Sub Opening In)) (j : ℕ) → client_at R j (past R os (names i ∷ ss)) ≡ client_at R j (past R os ss)
  past_names [] i ss j = creating_names j i ss
  past_names (opened x r ∷ os) i ss j = refl
  past_names (reply h r ∷ os) i ss j = past_names os i ss j

  past_replies : (h : ℕ) (rs : List Bytes) (os : List (Out R)) (ss : List (Sub Opening In)) → past R (map (reply h) rs ++ os) ss ≡ past R os ss
  past_replies h [] os ss = refl
  past_replies h (r ∷ rs) os ss = past_replies h rs os ss

  past_all : (h : ℕ) (rs : List Bytes) (ss : List (Sub Opening In)) → past R (map (reply h) rs) ss ≡ ss
  past_all h [] ss = refl
  past_all h (r ∷ rs) ss = past_all h rs ss

  -- of a run of ss under header h, from replies os: the call that it leaves open is h's, and what waits behind it
  unfoldable pub Leaves : ℕ → List (Sub Opening In) → List (Out R) → Option (Asked R) → Option (Wait R D) → Type 0
  Leaves h ss os None None = Unit {0}
  Leaves h ss os None (Some w) = ⊥
  Leaves h ss os (Some a) None = ⊥
  Leaves h ss os (Some a) (Some w) = (a.tag ≡ 0) × (w.header ≡ h) × ((j : ℕ) → client_at R j (past R os ss) ≡ client_at R j w.rest)

  -- the tag of the call is 0
  pub leaves_tag : (h : ℕ) (ss : List (Sub Opening In)) (os : List (Out R)) (c : Option (Asked R)) (w : Option (Wait R D)) → Leaves h ss os c w → (a : Asked R) → c ≡ Some a → a.tag ≡ 0
  unfolding Leaves
  leaves_tag h ss os None w k a e = absurd (none_some e)
  leaves_tag h ss os (Some c) None k a e = absurd k
  leaves_tag h ss os (Some c) (Some w) k a e = let z : c ≡ a = cc in rw (← z) k.0

  -- behind a submessage that is not a CREATE_CLIENT
  leaves_names : (h : ℕ) (i : In) (ss : List (Sub Opening In)) (os : List (Out R)) (c : Option (Asked R)) (w : Option (Wait R D)) → Leaves h ss os c w → Leaves h (names i ∷ ss) os c w
  unfolding Leaves
  leaves_names h i ss os None None k = tt
  leaves_names h i ss os None (Some w) k = absurd k
  leaves_names h i ss os (Some a) None k = absurd k
  leaves_names h i ss os (Some a) (Some w) k = (k.0, k.1, λ j. past_names os i ss j ∙ k.2 j)

  -- behind replies
  leaves_replies : (h g : ℕ) (rs : List Bytes) (ss : List (Sub Opening In)) (os : List (Out R)) (c : Option (Asked R)) (w : Option (Wait R D)) → Leaves h ss os c w → Leaves h ss (map (reply g) rs ++ os) c w
  unfolding Leaves
  leaves_replies h g rs ss os None None k = tt
  leaves_replies h g rs ss os None (Some w) k = absurd k
  leaves_replies h g rs ss os (Some a) None k = absurd k
  leaves_replies h g rs ss os (Some a) (Some w) k = (k.0, k.1, λ j. rw (past_replies g rs os ss) (k.2 j))

  -- behind a STATUS
  leaves_opened : (h : ℕ) (o : Opening) (x : Option ℕ) (b : Bytes) (ss : List (Sub Opening In)) (os : List (Out R)) (c : Option (Asked R)) (w : Option (Wait R D)) → Leaves h ss os c w → Leaves h (opens o ∷ ss) (opened x b ∷ os) c w
  unfolding Leaves
  leaves_opened h o x b ss os None None k = tt
  leaves_opened h o x b ss os None (Some w) k = absurd k
  leaves_opened h o x b ss os (Some a) None k = absurd k
  leaves_opened h o x b ss os (Some a) (Some w) k = k

  pub deliver_leaves : (h : ℕ) (ss : List (Sub Opening In)) (t : Tables R D)
      → ((t' : Tables R D) → Leaves h ss (run R D h ss t').outs (run R D h ss t').call (run R D h ss t').wait)
      → (x : Option Local) (f : Local → Outcome Local Bytes Call Pending)
      → let r = deliver R D h ss t x f (λ t'. run R D h ss t') in Leaves h ss r.outs r.call r.wait
  unfolding Leaves
  deliver_leaves h ss t k None f = k t
  deliver_leaves h ss t k (Some l) f = go (f l)
    where
      go : (x : Outcome Local Bytes Call Pending) → let r = act R D h ss t x (λ t'. run R D h ss t') in Leaves h ss r.outs r.call r.wait
      go (done l' rs) = let r = run R D h ss (keep_as R D h l' t) in leaves_replies h h rs ss r.outs r.call r.wait (k (keep_as R D h l' t))
      go (calls l' rs c p) = (refl, refl, λ j. rw (past_all h rs ss))

  pub run_leaves : (h : ℕ) (ss : List (Sub Opening In)) (t : Tables R D) → let r = run R D h ss t in Leaves h ss r.outs r.call r.wait
  unfolding run Leaves
  run_leaves h [] t = tt
  run_leaves h (opens o ∷ ss) t =
      let r = run R D h ss (open_as_lem R D o t (chosen R D o t)) in
      leaves_opened h o (chosen R D o t) (R.status (chosen R D o t)) ss r.outs r.call r.wait (run_leaves h ss (open_as_lem R D o t (chosen R D o t)))
  run_leaves h (names i ∷ ss) t =
      let r = deliver R D h ss t (t.at h) (λ l. handle l i) (λ t'. run R D h ss t') in
      leaves_names h i ss r.outs r.call r.wait (deliver_leaves h ss t (λ t'. run_leaves h ss t') (t.at h) (λ l. handle l i))

  -- ---- the STATUSes of a run answer its CREATE_CLIENTs, in order

  behind_is : (j : ℕ) (ss : List (Sub Opening In)) → client_at R j (behind_client R ss) ≡ client_at R (suc j) ss
  behind_is j [] = refl
  behind_is j (opens o ∷ ss) = refl
  behind_is j (names i ∷ ss) = behind_is j ss

  -- only the CREATE_CLIENTs count
  pub behind_same : (xs ys : List (Sub Opening In)) → ((j : ℕ) → client_at R j xs ≡ client_at R j ys) → (j : ℕ) → client_at R j (behind_client R xs) ≡ client_at R j (behind_client R ys)
  behind_same xs ys h j = behind_is j xs ∙ h (suc j) ∙ sym (behind_is j ys)

  pub greets_same : (os : List (Out R)) (c : Option (Asked R)) (xs ys : List (Sub Opening In)) → ((j : ℕ) → client_at R j xs ≡ client_at R j ys) → Greets R ys os c → Greets R xs os c
  greets_same [] None xs ys h g = h 0 ∙ g
  greets_same [] (Some a) xs ys h g = tt
  greets_same (opened x r ∷ os) c xs ys h g = (g.0, (g.1.0, h 0 ∙ g.1.1), greets_same os c (behind_client R xs) (behind_client R ys) (behind_same xs ys h) g.2)
  greets_same (reply k r ∷ os) c xs ys h g = greets_same os c xs ys h g

  greets_replies : (h : ℕ) (rs : List Bytes) (ss : List (Sub Opening In)) (os : List (Out R)) (c : Option (Asked R)) → Greets R ss os c → Greets R ss (map (reply h) rs ++ os) c
  greets_replies h [] ss os c g = g
  greets_replies h (r ∷ rs) ss os c g = greets_replies h rs ss os c g

  greets_all : (h : ℕ) (rs : List Bytes) (ss : List (Sub Opening In)) (a : Asked R) → Greets R ss (map (reply h) rs) (Some a)
  greets_all h [] ss a = tt
  greets_all h (r ∷ rs) ss a = greets_all h rs ss a

  pub deliver_greets : (h : ℕ) (ss : List (Sub Opening In)) (t : Tables R D) → ((t' : Tables R D) → let r = run R D h ss t' in Greets R ss r.outs r.call)
      → (x : Option Local) (f : Local → Outcome Local Bytes Call Pending) → let r = deliver R D h ss t x f (λ t'. run R D h ss t') in Greets R ss r.outs r.call
  deliver_greets h ss t k None f = k t
  deliver_greets h ss t k (Some l) f = go (f l)
    where
      go : (x : Outcome Local Bytes Call Pending) → let r = act R D h ss t x (λ t'. run R D h ss t') in Greets R ss r.outs r.call
      go (done l' rs) = let r = run R D h ss (keep_as R D h l' t) in greets_replies h rs ss r.outs r.call (k (keep_as R D h l' t))
      go (calls l' rs c p) = greets_all h rs ss _

  pub run_greets : (h : ℕ) (ss : List (Sub Opening In)) (t : Tables R D) → let r = run R D h ss t in Greets R ss r.outs r.call
  unfolding run
  run_greets h [] t = refl
  run_greets h (opens o ∷ ss) t = (refl, ((o, ss), refl), run_greets h ss (open_as_lem R D o t (chosen R D o t)))
  run_greets h (names i ∷ ss) t =
      let r = deliver R D h ss t (t.at h) (λ l. handle l i) (λ t'. run R D h ss t') in
      greets_same r.outs r.call (names i ∷ ss) ss (λ j. creating_names j i ss) (deliver_greets h ss t (λ t'. run_greets h ss t') (t.at h) (λ l. handle l i))
