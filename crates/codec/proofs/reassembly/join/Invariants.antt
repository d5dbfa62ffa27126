-- `codec::reassembly::join` meets its contract. The invariant: what is still to be written, written from here on, is the whole.
use Prim.Native.Nat.{◌≤◌, ◌+◌, ◌*◌}
use mathlib.Core.Path.{◌≡◌}
use lib.ListN.{length, take, drop}
use Rattle.codec.specs.Bytes.{put_at}
use Rattle.codec.specs.Cutting.{joined}
use Rattle.codec.specs.Reassembly.{bytes_held, bodies_held}
use Rattle.codec.proofs.reassembly.join.Given as goal

abbrev pub invariant-loop-i : goal.invariant-loop-i
invariant-loop-i l =
    (l.i ≤ l.total) × ((length l.out ≡ length l.initial.out) × ((l.at + bytes_held (drop l.i (take l.total l.lengths)) ≤ length l.initial.out)
    × (put_at l.out l.at (joined (bodies_held l.width (drop (l.i * l.width) l.slots) (drop l.i (take l.total l.lengths)))) ≡ put_at l.initial.out 0 (joined (bodies_held l.width l.slots (take l.total l.lengths))))))
