-- `codec::rebuilt::count_rebuilt` meets its contract. The invariant: what is left from here, with what was counted and met, is the whole.
use Prim.Native.Nat.{◌≤◌, ◌-◌}
use mathlib.Core.Path.{◌≡◌}
use lib.ListN.{length}
use Rattle.codec.specs.Reading.{items_at}
use Rattle.codec.specs.Rebuilt.{rebuilt_at}
use Rattle.codec.proofs.rebuilt.Laws.{on_from}
use Rattle.codec.proofs.rebuilt.count_rebuilt.Given as goal

abbrev pub invariant-loop-at : goal.invariant-loop-at
invariant-loop-at l = (l.n ≤ l.at) × (on_from l.barred l.n (items_at l.s l.at) ≡ rebuilt_at l.s l.from)

abbrev pub decreases-loop-at : goal.decreases-loop-at
decreases-loop-at l = length l.s - l.at
