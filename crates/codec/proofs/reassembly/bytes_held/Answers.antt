-- `codec::reassembly::bytes_held` meets its contract. The invariant: the sum and the bytes held from here on are all that are held.
use Prim.Native.Nat.{◌<◌}
use native.Mathlib.Omega.{arith}
use lib.Seq.{get_or-take, length-take-le}
use Rattle.codec.proofs.reassembly.Laws.{held_some, bytes_next, bytes_end}
use Rattle.codec.proofs.reassembly.bytes_held.Goals as goal

pub overflow_sub-sum : goal.overflow_sub-sum
overflow_sub-sum c =
    let a = c.args in
    let i = c.loop-held.held-index in
    let below : i < a.total = omega (arith, length-take-le a.total a.lengths.now c.requires.0) in
    rw (get_or-take a.total a.lengths.now i 0 below) (held_some a.lengths.now a.total i c.requires.1 below c.requires.0)

pub loop-held-preserved : goal.loop-held-preserved
loop-held-preserved c =
    let a = c.args in
    let i = c.loop-held.held-index in
    let below : i < a.total = omega (arith, length-take-le a.total a.lengths.now c.requires.0) in
    let e = get_or-take a.total a.lengths.now i 0 below in
    let some = held_some a.lengths.now a.total i c.requires.1 below c.requires.0 in
    let next = bytes_next a.lengths.now a.total i below c.requires.0 in
    (omega (arith, c.type_inv.lengths i), omega arith)

pub returns : goal.returns
returns c =
    let a = c.args in
    let l = c.loop-held in
    omega (arith, bytes_end a.lengths.now a.total l.held-index (omega (arith, length-take-le a.total a.lengths.now c.requires.0)))
