-- `agent::bound::least_total` meets its contract: the least so far and the least from here on are the least of all.
use Prim.Native.Nat.{◌-◌, ◌≤◌}
use mathlib.Core.Path.{◌≡◌}
use lib.ListN.{length}
use Rattle.agent.specs.Host.{lesser, least_at}
use Rattle.agent.proofs.bound.least_total.Given as goal

abbrev pub invariant-loop-at : goal.invariant-loop-at
invariant-loop-at l = (lesser l.least (least_at l.d l.at) ≡ least_at l.d l.from) × (l.least ≤ 65536)

abbrev pub decreases-loop-at : goal.decreases-loop-at
decreases-loop-at l = length l.d - l.at
