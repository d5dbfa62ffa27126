-- `agent::bound::count_ids` meets its contract: those counted so far and those from here on are all.
use Prim.Native.Nat.{◌+◌, ◌-◌, ◌≤◌}
use mathlib.Core.Path.{◌≡◌}
use lib.ListN.{length}
use Rattle.agent.specs.Host.{ids_at}
use Rattle.agent.proofs.bound.count_ids.Given as goal

abbrev pub invariant-loop-at : goal.invariant-loop-at
invariant-loop-at l = (l.n + ids_at l.id l.d l.at ≡ ids_at l.id l.d l.from) × (l.n ≤ l.at)

abbrev pub decreases-loop-at : goal.decreases-loop-at
decreases-loop-at l = length l.d - l.at
