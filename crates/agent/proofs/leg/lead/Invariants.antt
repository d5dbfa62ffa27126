-- `agent::leg::lead` meets its contract. The invariant: what is still to be done of the leg, done from here on, is the whole.
use Prim.Native.Nat.{◌-◌}
use lib.ListN.{length}
use Rattle.moves.specs.Rows.{rows}
use Rattle.agent.proofs.Loops.{Left}
use Rattle.agent.proofs.Legs.{staged, leg_steps}
use Rattle.agent.proofs.leg.lead.Given as goal

abbrev pub invariant-loop-f : goal.invariant-loop-f
invariant-loop-f l =
    Left (leg_steps l.m l.f l.held l.s) l.fn.start (staged (rows l.initial.sessions l.initial.streams l.initial.objects)) l.initial.out
    l.l.ran (record { rows = rows l.sessions l.streams l.objects; found = l.l.found }) l.out

abbrev pub decreases-loop-f : goal.decreases-loop-f
decreases-loop-f l = length l.s - l.l.ran.at
