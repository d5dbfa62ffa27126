-- `codec::reading::count_at` meets its contract. The invariant: what is left from here, added to what was counted, is the whole.
use Prim.Native.Nat.{◌≤◌, ◌-◌}
use mathlib.Core.Path.{◌≡◌}
use lib.ListN.{length}
use Rattle.codec.specs.Reading.{items_at, count_at}
use Rattle.codec.proofs.reading.Laws.{counted}
use Rattle.codec.proofs.reading.count_at.Given as goal

abbrev pub invariant-loop-at : goal.invariant-loop-at
invariant-loop-at l = (l.n ≤ l.at) × (counted l.header l.n (items_at l.s l.at) ≡ count_at l.header l.s l.from)

abbrev pub decreases-loop-at : goal.decreases-loop-at
decreases-loop-at l = length l.s - l.at
