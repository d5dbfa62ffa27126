-- An agent that goes in step with another has what that has for `Simulates`, and with it term 3 (`Theorem.term3_of`). It may refuse
-- more than the other, and have calls of its own that concern no session.
use Rattle.std.specs.Prelude.{Option, None, Some}
use mathlib.Core.Path.{◌≡◌, refl, sym, ap, ◌∙◌, subst}
use Prim.Native.Nat.{ℕ}
use mathlib.Core.Bool.{true}
use mathlib.Core.List.{List, []}
use Rattle.isolation.specs.Rules.{Rules, Host, other, Result, refused, ran}
use Rattle.isolation.specs.Machine.{Machine, ended, idle, waiting, submessages, still, take, work, table_of}
use Rattle.isolation.specs.Claim.{Agent, OpenCalls, open_after, works_on, subs_of, Greeted, Silent, Fresh, OwnTag}
use Rattle.isolation.proofs.Simulation.{none_some, for_it, Opened, Agrees, Follows, refuses, moves, Simulates}

module _ (R : Rules) (A B : Agent R) where
  open R use {Local, start}

  -- one call: refused; or it concerns no session; or it is a call of the other agent, with the same answer
  pub data InStep (abs : A.State → B.State) (st : A.State) (e : A.Event) : Type 0 where
    stops : (n : ℕ) → (A.step st e).1 ≡ refused n → abs (A.step st e).0 ≡ abs st → InStep abs st e
    aside : A.host_call e ≡ other → (A.step st e).1 ≡ ran [] None → abs (A.step st e).0 ≡ abs st → InStep abs st e
    goes : (e' : B.Event) → A.host_call e ≡ B.host_call e' → abs (A.step st e).0 ≡ (B.step (abs st) e').0 → (A.step st e).1 ≡ (B.step (abs st) e').1 → InStep abs st e

  pub record Refines : Type 1 where
    pub Inv : A.State → Type 0
    pub inv_empty : Inv A.empty
    pub inv_step : (st : A.State) (e : A.Event) → Inv st → Inv (A.step st e).0
    pub abs : A.State → B.State
    pub abs_empty : abs A.empty ≡ B.empty
    pub abs_table : (s : ℕ) (st : A.State) → A.table st s ≡ B.table (abs st) s
    pub in_step : (st : A.State) (e : A.Event) → Inv st → InStep abs st e

  module _ (f : Refines) (sim : Simulates R B) where
    open f use {Inv, inv_empty, inv_step, abs, abs_empty, abs_table, in_step}

    abbrev view : ℕ → A.State → Machine R
    view s st = sim.view s (abs st)

    abbrev Both : OpenCalls R → A.State → Type 0
    Both b st = Inv st × sim.Inv b (abs st)

    both_step : (b : OpenCalls R) (st : A.State) (e : A.Event) → sim.Inv b (abs st) → InStep abs st e → sim.Inv (open_after R b (A.host_call e) (A.step st e).1) (abs (A.step st e).0)
    both_step b st e u (stops n q z) = rw (q, z) u
    both_step b st e u (aside m q z) = rw (m, q, z) u
    both_step b st e u (goes e' m z q) = rw (m, q, z) (sim.inv_step b (abs st) e' u)

    take_nothing : (m : Machine R) → take R m (submessages []) ≡ still R true m
    take_nothing ended = refl
    take_nothing (idle l) = refl
    take_nothing (waiting l p is) = refl

    live : (s : ℕ) (b : OpenCalls R) (st : A.State) (e : A.Event) (l : Local) → Both b st → A.table st s ≡ Some l → Follows R A (view s) s b st e (A.step st e)
    live s b st e l (v, u) t = go (in_step st e v)
      where
        behind : (e' : B.Event) → A.host_call e ≡ B.host_call e' → abs (A.step st e).0 ≡ (B.step (abs st) e').0 → (A.step st e).1 ≡ (B.step (abs st) e').1
            → Follows R B (sim.view s) s b (abs st) e' (B.step (abs st) e') → Follows R A (view s) s b st e (A.step st e)
        behind e' m z q (refuses n x y) = refuses n (q ∙ x) (ap (λ (st : B.State). sim.view s st) z ∙ y)
        behind e' m z q (moves w a) = moves (rw q w) (rw m (record { sees = ap (λ (st : B.State). sim.view s st) z ∙ a.sees; says = rw q a.says; asks = rw q a.asks; turns = a.turns }))

        go : InStep abs st e → Follows R A (view s) s b st e (A.step st e)
        go (stops n q z) = refuses n q (ap (λ (st : B.State). sim.view s st) z)
        go (aside m q z) = moves (rw q) (rw (m, take_nothing (sim.view s (abs st))) (record { sees = ap (λ (st : B.State). sim.view s st) z; says = rw q; asks = rw q; turns = refl }))
        go (goes e' m z q) = behind e' m z q (sim.live s b (abs st) e' l u (sym (abs_table s st) ∙ t))

    birth : (b : OpenCalls R) (st : A.State) (e : A.Event) (s : ℕ) (o : Opened R s (works_on R b (A.host_call e)).0 (A.step st e).1) → Both b st
        → Agrees R A (view s) s (A.step st e) (work R (start s o.client) (for_it R s o.message.header o.behind))
    birth b st e s o (v, u) = go (in_step st e v)
      where
        go : InStep abs st e → Agrees R A (view s) s (A.step st e) (work R (start s o.client) (for_it R s o.message.header o.behind))
        go (stops n q z) = absurd (none_some (rw q at o.granted))
        go (aside m q z) = absurd (none_some (rw q at o.granted))
        go (goes e' m z q) =
            let o' : Opened R s (works_on R b (B.host_call e')).0 (B.step (abs st) e').1 =
            record { message = o.message; number = o.number; client = o.client; behind = o.behind; brings = rw (← m) o.brings; asks = o.asks; granted = rw (← q) o.granted } in
            let a = sim.birth b (abs st) e' s o' u in
            record { sees = ap (λ (st : B.State). sim.view s st) z ∙ a.sees; says = rw q a.says; asks = rw q a.asks; turns = a.turns }

    born : (s : ℕ) (b : OpenCalls R) (st : A.State) (e : A.Event) (l : Local) → Both b st → A.table st s ≡ None → A.table (A.step st e).0 s ≡ Some l
        → Opened R s (works_on R b (A.host_call e)).0 (A.step st e).1
    born s b st e l (v, u) t y = go (in_step st e v)
      where
        was : B.table (abs st) s ≡ None
        was = sym (abs_table s st) ∙ t

        is : B.table (abs (A.step st e).0) s ≡ Some l
        is = sym (abs_table s (A.step st e).0) ∙ y

        go : InStep abs st e → Opened R s (works_on R b (A.host_call e)).0 (A.step st e).1
        go (stops n q z) = absurd (none_some (sym was ∙ (rw z at is)))
        go (aside m q z) = absurd (none_some (sym was ∙ (rw z at is)))
        go (goes e' m z q) = rw (m, q) (sim.born s b (abs st) e' l u was (rw z at is))

    silent : (s : ℕ) (b : OpenCalls R) (st : A.State) (e : A.Event) → Both b st → A.table (A.step st e).0 s ≡ None → Silent R s (A.step st e).1
    silent s b st e (v, u) y = go (in_step st e v)
      where
        go : InStep abs st e → Silent R s (A.step st e).1
        go (stops n q z) = rw q (refl, refl)
        go (aside m q z) = rw q (refl, refl)
        go (goes e' m z q) = rw q (sim.silent s b (abs st) e' u (ap (λ (st : B.State). B.table st s) (sym z) ∙ sym (abs_table s (A.step st e).0) ∙ y))

    greets : (b : OpenCalls R) (st : A.State) (e : A.Event) → Both b st → Greeted R (subs_of R (works_on R b (A.host_call e)).0) (A.step st e).1
    greets b st e (v, u) = go (in_step st e v)
      where
        go : InStep abs st e → Greeted R (subs_of R (works_on R b (A.host_call e)).0) (A.step st e).1
        go (stops n q z) = rw q tt
        go (aside m q z) = rw (m, q)
        go (goes e' m z q) = rw (m, q) (sim.greets b (abs st) e' u)

    fresh : (b : OpenCalls R) (st : A.State) (e : A.Event) → Both b st → Fresh R (A.table st) (A.step st e).1
    fresh b st e (v, u) = go (in_step st e v)
      where
        go : InStep abs st e → Fresh R (A.table st) (A.step st e).1
        go (stops n q z) = rw q (λ j s y. absurd (none_some y))
        go (aside m q z) = rw q (λ j s y. absurd (none_some y))
        go (goes e' m z q) = rw q (λ j s y. let (f, o) = sim.fresh b (abs st) e' u j s y in (abs_table s st ∙ f, o))

    own_tag : (b : OpenCalls R) (st : A.State) (e : A.Event) → Both b st → OwnTag R (works_on R b (A.host_call e)).1 (A.step st e).1
    own_tag b st e (v, u) = go (in_step st e v)
      where
        go : InStep abs st e → OwnTag R (works_on R b (A.host_call e)).1 (A.step st e).1
        go (stops n q z) = rw q (λ a y. absurd (none_some y))
        go (aside m q z) = rw q (λ a y. absurd (none_some y))
        go (goes e' m z q) = rw (m, q) (sim.own_tag b (abs st) e' u)

    pub refined : Simulates R A
    refined = record {
      Inv = Both;
      bare = λ s. abs_table s A.empty ∙ rw abs_empty (sim.bare s);
      inv_empty = (inv_empty, rw abs_empty sim.inv_empty);
      inv_step = λ b st e v. (inv_step st e v.0, both_step b st e v.1 (in_step st e v.0));
      view = view;
      view_table = λ s st. sim.view_table s (abs st) ∙ sym (abs_table s st);
      view_gone = λ s st t. sim.view_gone s (abs st) (sym (abs_table s st) ∙ t);
      live = live;
      birth = birth;
      born = born;
      silent = silent;
      greets = greets;
      fresh = fresh;
      own_tag = own_tag;
    }
