-- `datagram::read_full` meets its contract. The invariant: what is read stands in the first `n` bytes.
use Rattle.std.proofs.Common.{◌-◌, ◌≤◌, length, take}
use Rattle.std.specs.Io.KnownBytes.{Consumes}
use Rattle.datagram.proofs.read_full.Given as goal

abbrev pub invariant-loop-n : goal.invariant-loop-n
invariant-loop-n g l = (l.n ≤ length l.place) × Consumes (g.R.Read.remaining l.initial.input) (g.R.Read.remaining l.input) (take l.n l.place)

abbrev pub decreases-loop-n : goal.decreases-loop-n
decreases-loop-n g l = length l.place - l.n
