-- Term 3 for the agent: one claim about the whole list H of the host's calls, for every H.
use mathlib.Core.Path.{◌≡◌}
use mathlib.Core.Bool.{Bool}
use mathlib.Core.List.{List}
use Prim.Native.Nat.{ℕ}
use Rattle.isolation.specs.Claim.{Term3}
use Rattle.isolation.proofs.Theorem.{term3_of}
use Rattle.hours.specs.Windows.{Window, is_open}
use Rattle.sessions.specs.View.{Tables}
use Rattle.agent.specs.Rules.{rules, handles_of}
use Rattle.agent.specs.Claim as lists
use Rattle.agent.specs.Whole as whole
use Rattle.agent.specs.Whole.{set_up_with}
use Rattle.agent.specs.declared.state.Agent.{Agent}
use Rattle.agent.proofs.Honest.{honest}
use Rattle.agent.proofs.InStep as abstract
use Rattle.agent.proofs.WholeInStep.{refines}
use Rattle.std.specs.Prelude.{Ok}

-- the agent that a host calls: whatever stood in the tables that set-up accepts, behind it every call does as its contract says, and the rules go by the windows that set-up took
pub term3 : (t : Tables) (hours : List ℕ) (ws : List Window) (max timeout : ℕ) (a : Agent) → set_up_with t hours ws max timeout ≡ Ok a → Term3 (rules (is_open ws) timeout) (whole.agent t hours ws max timeout a) (handles_of (is_open ws) timeout)
term3 t hours ws max timeout a made =
    term3_of (rules (is_open ws) timeout) (handles_of (is_open ws) timeout) (honest (is_open ws) timeout) (abstract.D (is_open ws) max timeout) (whole.agent t hours ws max timeout a) (refines t hours ws max timeout a made)

-- and the step over lists, whatever minutes are open
pub term3_lists : (is_open : ℕ → ℕ → Bool) (max timeout : ℕ) → Term3 (rules is_open timeout) (lists.agent is_open max timeout) (handles_of is_open timeout)
term3_lists is_open max timeout =
    term3_of (rules is_open timeout) (handles_of is_open timeout) (honest is_open timeout) (abstract.D is_open max timeout) (lists.agent is_open max timeout) (abstract.refines is_open max timeout)
