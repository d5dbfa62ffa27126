-- `sessions::sweep::count_expired` meets its contract. The invariant: `n` go of the ids from the last five counted on, and none of those before `first`.
use Rattle.std.proofs.Common.{◌≡◌, ◌+◌, ◌-◌, ◌*◌, ◌≤◌, length}
use Rattle.sessions.specs.Sweep.{goes, expired_from}
use Rattle.sessions.proofs.sweep.count_expired.Given as goal

abbrev pub invariant-loop-k : goal.invariant-loop-k
invariant-loop-k l =
    (l.n ≤ 255 - 5 * l.k) × (5 * l.k + 1 ≤ l.first) × (l.first ≤ 256) × (l.n ≡ length (expired_from (goes l.sessions l.time l.timeout_ms) (5 * l.k + 1) (255 - 5 * l.k)))
    × (length (expired_from (goes l.sessions l.time l.timeout_ms) (5 * l.k + 1) (l.first - (5 * l.k + 1))) ≡ 0)
