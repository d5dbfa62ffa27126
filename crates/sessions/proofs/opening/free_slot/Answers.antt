-- `sessions::opening::free_slot` meets its contract.
use Rattle.sessions.proofs.Slots.{found_slot}
use Rattle.sessions.proofs.opening.free_slot.Goals as goal

pub returns : goal.returns
returns c = rw (c.first_unmarked.ensures, c.mark_slots.ensures) (found_slot c.args.sessions.now)
