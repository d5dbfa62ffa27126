-- Wrong agents for which `Isolated` is false, each by the clause that stops it: one that touches the sessions of others; replies to an id that
-- is not live; hides bytes in a STATUS that nobody asked for, or in one that was; answers nobody; gives two clients one session; takes
-- one session's answer for another's; drops what comes out of turn; has a session which no CREATE_CLIENT opened; copies a session into
-- another. And a call whose handle is not the session's own.
use Rattle.std.specs.Prelude.{Option, None, Some}
use mathlib.Core.Path.{◌≡◌, refl, sym, ap, ◌∙◌}
use Prim.Native.Nat.{ℕ}
use native.Mathlib.Omega.{arith}
use mathlib.Core.Bool.{true≢false}
use mathlib.Core.List.Memᴰ
use mathlib.Core.List.{List, [], ◌∷◌, ◌++◌}
use Rattle.isolation.specs.Rules.{Rules, Host, datagram, answer, removal, sweep, other, Out, opened, reply, Result, refused, ran}
use Rattle.isolation.specs.Machine.{Trace, handles, AllOwned}
use Rattle.isolation.specs.Claim.{Agent, works_on, set_up, reached, Session, Isolated}
use Rattle.isolation.proofs.Simulation.{none_some}
use Rattle.isolation.proofs.Reference.{State, Wait, put, run, step, ids, live, free, chosen}
use Rattle.isolation.proofs.Small.{small, small_agent, small_handles, D, Local, bridge, create, write, make}
use Rattle.isolation.proofs.Example.{R, A, Event, client, at, to, opens₁, opened_by}

abbrev St : Type 0
St = State R (D 1000 3 3)

-- the small agent with something done to each answer
abbrev spoilt : (St × Result R → St × Result R) → Agent R
spoilt f = record { State = St; Event = Event; empty = A.empty; table = A.table; step = λ st e. f (A.step st e); host_call = A.host_call }

-- a CREATE_CLIENT with key 7, which `opens₁` has too, and one with key 8
abbrev open_7 : Event
open_7 = to 0 (client 7 100 ∷ [])

abbrev open_8 : Event
open_8 = to 0 (client 8 100 ∷ [])

-- ---- every call touches every session

abbrev touched : Option Local → Option Local
touched None = None
touched (Some l) = Some (record { id = l.id; key = l.key; activity = 999; objects = l.objects })

abbrev touching : Agent R
touching = spoilt (λ r. (record { tables = record { next = r.0.tables.next; at = λ i. touched (r.0.tables.at i) }; wait = r.0.wait }, r.1))

opener : Session R touching opens₁
unfolding run step ids live free chosen
opener = opened_by touching [] open_7 [] (record { header = 0; subs = client 7 100 ∷ [] }) (7, 100) [] 1 refl refl refl

abbrev activity : Option Local → ℕ
activity None = 0
activity (Some l) = l.activity

touching_refuted : Isolated R touching opens₁ → ⊥
unfolding opener opened_by run step ids live free chosen
touching_refuted isolated = let e : ◌≡◌ {A = ℕ} 999 100 = ap (λ (t : Trace R). activity t.table) (isolated.alone opener) in omega arith

-- ---- every call has a reply for id 3

abbrev with_reply : Result R → Result R
with_reply (refused n) = refused n
with_reply (ran os c) = ran (reply 3 [] ∷ os) c

abbrev babbling : Agent R
babbling = spoilt (λ r. (r.0, with_reply r.1))

cons_not_nil : (x : List ℕ) (xs : List (List ℕ)) → ◌≡◌ {A = List (List ℕ)} (x ∷ xs) [] → ⊥
cons_not_nil x xs e = let z : ◌≡◌ {A = ℕ} 0 1 = cc in omega arith

babbling_refuted : Isolated R babbling [] → ⊥
unfolding run step ids live free chosen
babbling_refuted isolated = cons_not_nil [] [] (isolated.silent (removal 1, 0) 3 refl).0

-- ---- every call has bytes that are no session's, as a STATUS

abbrev with_status : Result R → Result R
with_status (refused n) = refused n
with_status (ran os c) = ran (opened None (7 ∷ []) ∷ os) c

abbrev hiding : Agent R
hiding = spoilt (λ r. (r.0, with_status r.1))

hiding_refuted : Isolated R hiding [] → ⊥
unfolding run step ids live free chosen
hiding_refuted isolated = let (c, e) = (isolated.greets (removal 1, 0)).1 in none_some {b = c} e

-- ---- every STATUS has a byte more

abbrev longer : List (Out R) → List (Out R)
longer [] = []
longer (opened x r ∷ os) = opened x (7 ∷ r) ∷ longer os
longer (reply h r ∷ os) = reply h r ∷ longer os

abbrev with_byte : Result R → Result R
with_byte (refused n) = refused n
with_byte (ran os c) = ran (longer os) c

abbrev forging : Agent R
forging = spoilt (λ r. (r.0, with_byte r.1))

abbrev first_byte : List ℕ → ℕ
first_byte [] = 0
first_byte (x ∷ xs) = x

forging_refuted : Isolated R forging [] → ⊥
unfolding run step ids live free chosen
forging_refuted isolated = let e : ◌≡◌ {A = ℕ} 7 1 = ap first_byte (isolated.greets open_7).0 in omega arith

-- ---- no call does anything

abbrev deaf : Agent R
deaf = record { State = St; Event = Event; empty = A.empty; table = A.table; step = λ st e. (st, ran [] None); host_call = A.host_call }

deaf_refuted : Isolated R deaf [] → ⊥
deaf_refuted isolated = none_some (sym (isolated.greets open_7))

-- ---- every STATUS has the id 1, with the bytes that this has: two clients share a session

abbrev as_one : List (Out R) → List (Out R)
as_one [] = []
as_one (opened x r ∷ os) = opened (Some 1) (1 ∷ 0 ∷ []) ∷ as_one os
as_one (reply h r ∷ os) = reply h r ∷ as_one os

abbrev with_id_1 : Result R → Result R
with_id_1 (refused n) = refused n
with_id_1 (ran os c) = ran (as_one os) c

abbrev sharing : Agent R
sharing = spoilt (λ r. (r.0, with_id_1 r.1))

-- with a session that is live
sharing_refuted : Isolated R sharing opens₁ → ⊥
unfolding run step ids live free chosen
sharing_refuted isolated = none_some (sym (isolated.fresh open_7 0 1 refl).0)

-- among the clients of one datagram
sharing_at_once_refuted : Isolated R sharing [] → ⊥
unfolding run step ids live free chosen
sharing_at_once_refuted isolated = let e : ◌≡◌ {A = ℕ} 1 0 = (isolated.fresh (to 0 (client 7 100 ∷ client 7 100 ∷ [])) 0 1 refl).1 1 refl in omega arith

-- ---- a datagram is begun while a call is open, and its own call has the same tag: session 2 gets the answer to session 1's call

abbrev crossed : St → Host R → St
crossed st (datagram d) = record { tables = st.tables; wait = None }
crossed st (answer t a) = st
crossed st (removal i) = st
crossed st (sweep now) = st
crossed st other = st

abbrev crossing : Agent R
crossing = record { State = St; Event = Event; empty = A.empty; table = A.table; step = λ st e. A.step (crossed st e.0) e; host_call = A.host_call }

abbrev create_in : ℕ → Event
create_in s = to s (at 200 (create 5) ∷ [])

crossing_refuted : Isolated R crossing (opens₁ ++ (open_8 ∷ create_in 1 ∷ [])) → ⊥
unfolding run step ids live free chosen
crossing_refuted isolated = none_some (sym (isolated.own_tag (create_in 2) (record { tag = 0; session = 2; call = make }) refl))

-- ---- a datagram that comes while a call is open is dropped, and not refused

abbrev dropped : St → Option (Wait R (D 1000 3 3)) → Host R → St × Result R → St × Result R
dropped st None e r = r
dropped st (Some w) (datagram d) r = (st, ran [] None)
dropped st (Some w) (answer t a) r = r
dropped st (Some w) (removal i) r = r
dropped st (Some w) (sweep now) r = r
dropped st (Some w) other r = r

abbrev dropping : Agent R
dropping = record { State = St; Event = Event; empty = A.empty; table = A.table; step = λ st e. dropped st st.wait e.0 (A.step st e); host_call = A.host_call }

caller : Session R dropping (open_7 ∷ create_in 1 ∷ create_in 1 ∷ [])
unfolding run step ids live free chosen
caller = opened_by dropping [] open_7 (create_in 1 ∷ create_in 1 ∷ []) (record { header = 0; subs = client 7 100 ∷ [] }) (7, 100) [] 1 refl refl refl

dropping_refuted : Isolated R dropping (open_7 ∷ create_in 1 ∷ create_in 1 ∷ []) → ⊥
unfolding caller opened_by run step ids live free chosen
dropping_refuted isolated = true≢false (sym (isolated.in_turn caller))

-- ---- every call leaves a session with id 3

abbrev haunted : Agent R
haunted = spoilt (λ r. (record { tables = record { next = r.0.tables.next; at = put R (D 1000 3 3) 3 (Some (R.start 3 (0, 0))) r.0.tables.at }; wait = r.0.wait }, r.1))

abbrev head : Event → List Event → Event
head e [] = e
head e (x ∷ xs) = x

abbrev tail : List Event → List Event
tail [] = []
tail (x ∷ xs) = xs

not_empty : (xs : List Event) (x : Event) (ys : List Event) → ◌≡◌ {A = List Event} [] (xs ++ x ∷ ys) → ⊥
not_empty [] x ys e = let z : ◌≡◌ {A = ℕ} 0 1 = cc in omega arith
not_empty (y ∷ xs) x ys e = let z : ◌≡◌ {A = ℕ} 0 1 = cc in omega arith

abbrev quiet : Event
quiet = (removal 1, 0)

-- no session is opened by a removal
none_opened : Session R haunted (quiet ∷ []) → ⊥
none_opened S = go S.before S.whole S.brings
  where
    go : (before : List Event) → quiet ∷ [] ≡ before ++ S.call ∷ S.later
        → (works_on R (reached R haunted (set_up R haunted) before).open_calls S.call.0).0 ≡ Some S.message → ⊥
    go [] e b = let c : S.call ≡ quiet = sym (ap (head quiet) e) in none_some {b = S.message} (rw c at b)
    go (x ∷ xs) e b = not_empty xs S.call S.later (ap tail e)

haunted_refuted : Isolated R haunted (quiet ∷ []) → ⊥
unfolding run step ids live free chosen
haunted_refuted isolated = let (S, i, t) = isolated.covered 3 (R.start 3 (0, 0)) refl in none_opened S

-- ---- a call that concerns no session gives session 2 the tables of session 1

abbrev copied : St × Result R → Host R → St × Result R
copied r (datagram d) = r
copied r (answer t a) = r
copied r (removal i) = r
copied r (sweep now) = r
copied r other = (record { tables = record { next = r.0.tables.next; at = put R (D 1000 3 3) 2 (r.0.tables.at 1) r.0.tables.at }; wait = r.0.wait }, ran [] None)

abbrev copying : Agent R
copying = record { State = St; Event = Event; empty = A.empty; table = A.table; step = λ st e. copied (A.step st e) e.0; host_call = A.host_call }

victim : Session R copying (opens₁ ++ (open_8 ∷ (other, 0) ∷ []))
unfolding run step ids live free chosen
victim = opened_by copying opens₁ open_8 ((other, 0) ∷ []) (record { header = 0; subs = client 8 100 ∷ [] }) (8, 100) [] 2 refl refl refl

abbrev key : Option Local → ℕ
key None = 0
key (Some l) = l.key

copying_refuted : Isolated R copying (opens₁ ++ (open_8 ∷ (other, 0) ∷ [])) → ⊥
unfolding victim opened_by run step ids live free chosen
copying_refuted isolated = let e : ◌≡◌ {A = ℕ} 7 8 = ap (λ (t : Trace R). key t.table) (isolated.alone victim) in omega arith

-- ---- a call uses a handle that is held, but that the session's own CREATE never got

abbrev with_stolen : Local
with_stolen = record { id = 1; key = 7; activity = 100; objects = (5, bridge 9) ∷ [] }

stolen_refuted : AllOwned R (small_handles 1000) [] (handles with_stolen (record { time = 200; act = write 5 }) ∷ []) → ⊥
stolen_refuted owned = let (n, held, got) = owned.0 (bridge 9) (Memᴰ.head refl) in Memᴰ.not-nil got
