-- `sessions::sweep::count_expired` meets its contract.
use Rattle.std.proofs.Common.{◌≡◌, ◌+◌, ◌-◌, ◌*◌, refl, sym, arith}
use Rattle.sessions.proofs.sweep.Laws.{count_none, five_more}
use Rattle.sessions.specs.Sweep.{goes, expired_ids}
use Rattle.sessions.proofs.sweep.count_expired.Goals as goal

pub loop-k-init : goal.loop-k-init
loop-k-init c = let a = c.args in
    let none = count_none (goes a.sessions.now a.time a.timeout_ms) 256 0 refl in
    (omega arith, omega arith, omega arith, omega arith, none)

-- none of the five goes: the first stays where it was
pub loop-k-preserved : goal.loop-k-preserved
loop-k-preserved c = let a = c.args in
    let l = c.loop-k in
    let g = goes a.sessions.now a.time a.timeout_ms in
    let i = 5 * (l.k - 1) + 1 in
    let j = 5 * l.k + 1 in
    let e = c.count_five-c.ensures in (
      omega arith,
      omega arith,
      l.invariant.2,
      five_more g i j (255 - 5 * (l.k - 1)) (255 - 5 * l.k) l.n c.count_five-c.result (omega arith) (omega arith) l.invariant.3 e.0,
      omega (arith, five_more g i j (l.first - i) (l.first - j) 0 c.count_five-c.result (omega arith) (omega arith) (sym l.invariant.4) e.0),
    )

pub loop-k-preserved-then-c-ne0 : goal.loop-k-preserved-then-c-ne0
loop-k-preserved-then-c-ne0 c = let a = c.args in
    let l = c.loop-k in
    let g = goes a.sessions.now a.time a.timeout_ms in
    let i = 5 * (l.k - 1) + 1 in
    let e = c.count_five-c.ensures in (
      omega arith,
      omega arith,
      omega arith,
      five_more g i (5 * l.k + 1) (255 - 5 * (l.k - 1)) (255 - 5 * l.k) l.n c.count_five-c.result (omega arith) (omega arith) l.invariant.3 e.0,
      count_none g i (i - i) (omega arith),
    )

pub returns : goal.returns
unfolding expired_ids
returns c = let l = c.loop-k in
    let z : l.k ≡ 0 = omega arith in
    (rw z at l.invariant.3, omega arith, l.invariant.2, rw z at l.invariant.4)
