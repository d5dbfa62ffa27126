-- `codec::bytes::copy_in` meets its contract. The invariant: the first `i` bytes are written, and nothing else has changed.
use mathlib.Core.Path.{◌≡◌}
use lib.Seq.{paste}
use Rattle.codec.proofs.bytes.copy_in.Given as goal

abbrev pub invariant-loop-i : goal.invariant-loop-i
invariant-loop-i l = l.out ≡ paste l.initial.out l.at l.src l.i
