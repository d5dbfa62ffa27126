-- `codec::text::is_text` meets its contract. The invariant: what is left is as well-formed as the whole.
use Prim.Native.Nat.{◌-◌}
use mathlib.Core.Path.{◌≡◌}
use mathlib.Core.List.{[]}
use lib.ListN.{length, drop}
use Rattle.codec.specs.Text.{well_from, well_formed}
use Rattle.codec.proofs.text.is_text.Given as goal

abbrev pub invariant-loop-at : goal.invariant-loop-at
invariant-loop-at l = well_from [] (drop l.at l.text) ≡ well_formed l.text

abbrev pub decreases-loop-at : goal.decreases-loop-at
decreases-loop-at l = length l.text - l.at
