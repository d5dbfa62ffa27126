-- The agent over the lent tables goes in step with `isolation`'s reference agent: by its square with the step over lists, which does.
use mathlib.Core.Path.{◌≡◌, refl, sym, ap, ◌∙◌, subst}
use mathlib.Core.List.{List}
use Prim.Native.Nat.{ℕ}
use Rattle.isolation.specs.Rules as iso
use Rattle.isolation.specs.Claim as claim
use Rattle.isolation.proofs.Reference as ref
use Rattle.isolation.proofs.Refine as refine
use Rattle.isolation.proofs.Refine.{Refines}
use Rattle.hours.specs.Windows.{Window, is_open}
use Rattle.sessions.specs.View.{Tables}
use Rattle.agent.specs.Rules.{rules}
use Rattle.agent.specs.Step as step
use Rattle.agent.specs.Claim as lists
use Rattle.agent.specs.Whole as whole
use Rattle.agent.specs.Whole.{State, agent_of, event_of, Hosted, set_up_with}
use Rattle.agent.specs.declared.state.Agent.{Agent}
use Rattle.agent.proofs.InStep as abstract
use Rattle.agent.proofs.SquareStep.{Inv, step_square, empty_square}
use Rattle.std.specs.Prelude.{Ok}

module _ (t : Tables) (hours : List ℕ) (ws : List Window) (max timeout : ℕ) (a : Agent) (made : set_up_with t hours ws max timeout ≡ Ok a) where
  abbrev R : iso.Rules
  R = rules (is_open ws) timeout

  abbrev pub A : claim.Agent R
  A = whole.agent t hours ws max timeout a

  -- the agent over lists, and the reference agent
  abbrev L : claim.Agent R
  L = abstract.A (is_open ws) max timeout

  abbrev pub B : claim.Agent R
  B = abstract.B (is_open ws) max timeout

  abbrev abs : State → ref.State R (abstract.D (is_open ws) max timeout)
  abs st = abstract.state_of (is_open ws) max timeout (agent_of st)

  abbrev listed : Hosted → lists.Hosted
  listed e = record { event = event_of e.event; out = e.out }

  abbrev pub Holds : State → Type 0
  Holds st = Inv st × abstract.Inv (is_open ws) max timeout (agent_of st)

  module _ (st : State) (e : Hosted) (v : Holds st) where
    same_state : agent_of (A.step st e).0 ≡ (L.step (agent_of st) (listed e)).0
    same_state = (step_square st v.0 e.event e.out).agent

    same_result : (A.step st e).1 ≡ (L.step (agent_of st) (listed e)).1
    same_result =
        let q = step_square st v.0 e.event e.out in
        λ i. lists.result_of (is_open ws) max timeout (q.agent i).waits (q.result i)

    pub holds_step : Holds (A.step st e).0
    holds_step = ((step_square st v.0 e.event e.out).inv, subst (abstract.Inv (is_open ws) max timeout) (sym same_state) (abstract.inv_step (is_open ws) max timeout (agent_of st) (listed e) v.1))

    pub in_step : refine.InStep R A B abs st e
    in_step = by (abstract.in_step (is_open ws) max timeout (agent_of st) (listed e) v.1)
      where
        by : refine.InStep R L B (abstract.state_of (is_open ws) max timeout) (agent_of st) (listed e) → refine.InStep R A B abs st e
        by (refine.stops n r z) = refine.stops n (same_result ∙ r) (ap (abstract.state_of (is_open ws) max timeout) same_state ∙ z)
        by (refine.aside h r z) = refine.aside h (same_result ∙ r) (ap (abstract.state_of (is_open ws) max timeout) same_state ∙ z)
        by (refine.goes e' h z r) = refine.goes e' h (ap (abstract.state_of (is_open ws) max timeout) same_state ∙ z) (same_result ∙ r)

  pub holds_empty : Holds A.empty
  holds_empty = let q = empty_square t hours ws max timeout a made in (q.inv, (ap (λ (st : step.Agent). st.max) q.agent, ap (λ (st : step.Agent). st.timeout) q.agent, ap (λ (st : step.Agent). st.is_open) q.agent))

  pub refines : Refines R A B
  refines = record {
    Inv = Holds;
    inv_empty = holds_empty;
    inv_step = holds_step;
    abs = abs;
    abs_empty = ap (abstract.state_of (is_open ws) max timeout) (empty_square t hours ws max timeout a made).agent;
    abs_table = λ s st. refl;
    in_step = in_step;
  }
