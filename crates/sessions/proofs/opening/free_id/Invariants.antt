-- What is found from `id` on is what is found from the start, and no id is 0.
use Rattle.std.proofs.Common.{◌≡◌, ◌-◌, ◌<◌}
use Rattle.sessions.specs.Table.{is_free}
use Rattle.sessions.specs.Opening.{free_from, free_of}
use Rattle.sessions.proofs.opening.free_id.Given as goal

abbrev pub invariant-loop : goal.invariant-loop
invariant-loop l = record { same : free_from (is_free l.sessions) l.id (255 - l.counter) ≡ free_of l.sessions l.next; above : 0 < l.id }
