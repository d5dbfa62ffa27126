-- `listing::message::put_subs` meets its contract. The invariant: what is added and what is left make the whole (`Going`).
use Rattle.std.proofs.Common.{◌-◌, length}
use Rattle.listing.proofs.message.Laws.{Going}
use Rattle.listing.proofs.message.put_subs.Given as goal

abbrev pub invariant-loop-m : goal.invariant-loop-m
invariant-loop-m l = Going l.s l.initial.page l.page l.here

abbrev pub decreases-loop-m : goal.decreases-loop-m
decreases-loop-m l = length l.s - l.here
