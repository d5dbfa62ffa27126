-- `codec::reassembly::bytes_held` meets its contract. The invariant: the sum and the bytes held from here on are all that are held.
use Prim.Native.Nat.{◌≤◌, ◌+◌, ◌*◌}
use mathlib.Core.Path.{◌≡◌}
use lib.ListN.{take, drop}
use Rattle.codec.specs.Reassembly.{bytes_held}
use Rattle.codec.proofs.reassembly.bytes_held.Given as goal

abbrev pub invariant-loop-held : goal.invariant-loop-held
invariant-loop-held l =
    (l.sum ≤ l.held-index * 4294967296) × (l.sum + bytes_held (drop l.held-index (take l.total l.lengths)) ≡ bytes_held (take l.total l.lengths))
