-- `agent::bound::count_ids` meets its contract: those counted so far and those from here on are all.
use Rattle.std.proofs.Common.{◌≡◌, ◌≤◌, ◌+◌, get_or, arith}
use Rattle.agent.specs.Host.{one_of}
use Rattle.agent.proofs.Acknacks.{one_byte, one_few, ids_again, ids_done}
use Rattle.agent.proofs.bound.count_ids.Goals as goal

pub loop-at-preserved : goal.loop-at-preserved
loop-at-preserved c =
    let a = c.args in
    let l = c.loop-at in
    let k = c.from-n in
    let p = c.payload_length in
    let behind : l.at + (4 + p.result) ≡ l.at + 4 + p.result = omega arith in
    let is_one : k.result ≡ one_of a.id (get_or a.d.now l.at 0) = one_byte a.id (get_or a.d.now l.at 0) k.result k.ensures in
    let one = one_few a.id (get_or a.d.now l.at 0) in
    let few : k.result ≤ 1 = omega (arith, is_one, one) in
    rw behind (ids_again a.id a.d.now a.from l.at l.n l.invariant.0 (omega arith) l.invariant.1 k.result is_one few p.result p.ensures.0)

pub returns-else-len-at-ge4 : goal.returns-else-len-at-ge4
returns-else-len-at-ge4 c = let a = c.args in let l = c.loop-at in ids_done a.id a.d.now a.from l.at l.n l.invariant.0 (omega arith)

pub returns-after-loop-at : goal.returns-after-loop-at
returns-after-loop-at c = let a = c.args in let l = c.loop-at in ids_done a.id a.d.now a.from l.at l.n l.invariant.0 (omega arith)
