-- `codec::bytes::copy_in` meets its contract.
use mathlib.Core.Path.{◌≡◌, ◌∙◌}
use native.Mathlib.Numerals.{add-one}
use native.Mathlib.Omega.{arith}
use lib.ListN.{length}
use lib.Seq.{paste-suc}
use Rattle.codec.proofs.bytes.Laws.{put_copied}
use Rattle.codec.proofs.bytes.copy_in.Goals as goal

pub loop-i-preserved : goal.loop-i-preserved
loop-i-preserved c =
    let a = c.args in
    let l = c.loop-i in
    rw (l.invariant, add-one l.i) (paste-suc a.out.now a.at a.src.now l.i 0 (omega (arith, c.requires)) (omega arith))

pub returns : goal.returns
returns c =
    let a = c.args in
    let l = c.loop-i in
    let e : l.i ≡ length a.src.now = omega arith in
    l.invariant ∙ rw e (put_copied a.out.now a.at a.src.now)
