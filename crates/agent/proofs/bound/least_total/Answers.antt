-- `agent::bound::least_total` meets its contract: the least so far and the least from here on are the least of all.
use Rattle.std.proofs.Common.{◌≡◌, ◌+◌, arith}
use Rattle.agent.specs.Host.{lesser}
use Rattle.agent.proofs.Sparse.{least_all, least_again, least_done, lesser_few, lesser_min}
use Rattle.agent.proofs.bound.least_total.Goals as goal

pub loop-at-init : goal.loop-at-init
loop-at-init c = let a = c.args in (least_all a.d.now a.from, omega arith)

pub loop-at-preserved : goal.loop-at-preserved
loop-at-preserved c =
    let a = c.args in
    let l = c.loop-at in
    let k = c.total_at in
    let j = c.min-least in
    let p = c.payload_length in
    let behind : l.at + (4 + p.result) ≡ l.at + 4 + p.result = omega arith in
    let is_lesser : j.result ≡ lesser l.least k.result = lesser_min l.least k.result j.result j.ensures in
    let again = least_again a.d.now a.from l.at l.least l.invariant.0 (omega arith) k.result k.ensures.0 j.result is_lesser p.result p.ensures.0 in
    (rw behind again, lesser_few l.least k.result j.result is_lesser l.invariant.1)

pub returns-else-len-at-ge4 : goal.returns-else-len-at-ge4
returns-else-len-at-ge4 c =
    let a = c.args in
    let l = c.loop-at in
    least_done a.d.now a.from l.at l.least l.invariant.0 (omega arith) l.invariant.1

pub returns-after-loop-at : goal.returns-after-loop-at
returns-after-loop-at c =
    let a = c.args in
    let l = c.loop-at in
    least_done a.d.now a.from l.at l.least l.invariant.0 (omega arith) l.invariant.1
