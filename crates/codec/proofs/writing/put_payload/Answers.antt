-- `codec::writing::put_payload` meets its contract.
use mathlib.Core.Path.{◌∙◌, sym}
use native.Mathlib.Omega.{arith}
use lib.ListN.{length}
use lib.Seq.{length-take-le}
use Rattle.codec.proofs.writing.Laws.{length_fixed, body_within, length_payload, payload_put}
use Rattle.codec.proofs.writing.put_payload.Goals as goal

pub put_fixed-requires : goal.put_fixed-requires
put_fixed-requires c = let a = c.args in omega (arith, length_fixed a.m, length_payload a.m a.body.now)

pub overflow_add-at : goal.overflow_add-at
overflow_add-at c =
    let least = rw c.id.ensures at c.least_len-fixed.ensures in
    let a = c.args in omega (arith, c.requires, least, length_payload a.m a.body.now)

pub slice_bounds-copy_in-end : goal.slice_bounds-copy_in-end
slice_bounds-copy_in-end c =
    let a = c.args in
    sym (length-take-le c.body_len-n.result a.body.now (omega (arith, body_within a.m (length a.body.now))))

pub copy_in-requires : goal.copy_in-requires
copy_in-requires c =
    let least = rw c.id.ensures at c.least_len-fixed.ensures in
    let a = c.args in
    let n = c.body_len-n.result in
    rw (length-take-le n a.body.now (omega (arith, body_within a.m (length a.body.now))))
    (omega (arith, c.requires, c.put_fixed.auto.out, least, length_payload a.m a.body.now))

pub returns : goal.returns
returns c =
    let a = c.args in
    c.copy_in.ensures
    ∙ rw (c.put_fixed.ensures, c.least_len-fixed.ensures, c.id.ensures, c.body_len-n.ensures) (payload_put a.m a.body.now a.out.now a.at c.requires)
