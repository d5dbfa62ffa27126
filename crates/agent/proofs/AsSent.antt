-- W5 for the agent that a host calls, and for the step over lists: what an ACKNACK repeats is byte for byte what the DATA reply of that number was.
use mathlib.Core.Bool.{Bool}
use mathlib.Core.List.{List}
use Prim.Native.Nat.{ℕ}
use mathlib.Core.Path.{◌≡◌}
use Rattle.hours.specs.Windows.{Window, is_open}
use Rattle.sessions.specs.View.{Tables}
use Rattle.agent.specs.Rules.{handles_of}
use Rattle.agent.specs.Claim as lists
use Rattle.agent.specs.Whole as whole
use Rattle.agent.specs.Whole.{set_up_with}
use Rattle.agent.specs.Repeats.{RepeatsRight}
use Rattle.agent.specs.declared.state.Agent.{Agent}
use Rattle.agent.proofs.RepeatLaws.{right_of}
use Rattle.agent.proofs.Term3.{term3, term3_lists}
use Rattle.std.specs.Prelude.{Ok}

-- whatever stood in the tables that set-up accepts, for every list of calls behind it
pub repeats_right : (t : Tables) (hours : List ℕ) (ws : List Window) (max timeout : ℕ) (a : Agent) → set_up_with t hours ws max timeout ≡ Ok a → RepeatsRight (is_open ws) timeout (whole.agent t hours ws max timeout a)
repeats_right t hours ws max timeout a made = right_of (is_open ws) timeout (whole.agent t hours ws max timeout a) (handles_of (is_open ws) timeout) (term3 t hours ws max timeout a made)

pub repeats_right_lists : (is_open : ℕ → ℕ → Bool) (max timeout : ℕ) → RepeatsRight is_open timeout (lists.agent is_open max timeout)
repeats_right_lists is_open max timeout = right_of is_open timeout (lists.agent is_open max timeout) (handles_of is_open timeout) (term3_lists is_open max timeout)
