-- `agent::run::run` meets its contract. The invariant: what is still to be run, run from here on, is the whole.
use Prim.Native.Nat.{◌-◌}
use lib.ListN.{length}
use Rattle.agent.specs.Stores.{stores_of, SamePlaces}
use Rattle.agent.proofs.Loops.{Left}
use Rattle.agent.proofs.Legs.{run_steps}
use Rattle.agent.proofs.run.run.Given as goal

abbrev pub invariant-loop-f : goal.invariant-loop-f
invariant-loop-f l =
    Left (run_steps l.f l.d) l.fn.start (stores_of l.initial.stores) l.initial.out l.r (stores_of l.stores) l.out × SamePlaces l.initial.stores l.stores

abbrev pub decreases-loop-f : goal.decreases-loop-f
decreases-loop-f l = length l.d - l.r.at
