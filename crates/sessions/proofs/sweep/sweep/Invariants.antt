-- `sessions::sweep::sweep` meets its contract. The invariant: what is left to sweep and to list from `i` on comes to what the whole sweep comes to,
-- and `gone.n` counts it with what is listed; so once so many are listed, none of the ids left goes.
use Rattle.std.proofs.Common.{◌≡◌, ◌+◌, ◌-◌, ◌<◌, length}
use Rattle.std.proofs.Math.Seq.{sets}
use Rattle.sessions.specs.Sweep.{goes, expired_from, expired_ids, swept_from, swept_rows}
use Rattle.sessions.proofs.sweep.sweep.Given as goal

abbrev pub invariant-loop-i : goal.invariant-loop-i
invariant-loop-i l =
    (l.at < l.i)
    × (l.at + length (expired_from (goes l.sessions l.time l.timeout_ms) l.i (256 - l.i)) ≡ l.gone.n)
    × (swept_from l.sessions l.time l.timeout_ms l.i (256 - l.i) ≡ swept_rows l.initial.sessions l.time l.timeout_ms)
    × (sets l.out l.at (expired_from (goes l.sessions l.time l.timeout_ms) l.i (256 - l.i)) ≡ sets l.initial.out 0 (expired_ids l.initial.sessions l.time l.timeout_ms))
