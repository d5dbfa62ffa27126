-- `codec::cutting::FragmentHeader::put_with` meets its contract: 13, or the header and the body behind it.
use mathlib.Core.Path.{◌∙◌}
use native.Mathlib.Omega.{arith}
use Rattle.codec.specs.Cutting.{fragment_bytes}
use Rattle.codec.proofs.bytes.Laws.{put_short, put_fits}
use Rattle.codec.proofs.cutting.Laws.{length_fragment, put_body}
use Rattle.codec.proofs.cutting.FragmentHeader.put_with.Goals as goal

pub returns-then-out-lt4 : goal.returns-then-out-lt4
returns-then-out-lt4 c = put_short _ 0 _ (rw length_fragment (omega arith))

pub returns-then-out-body : goal.returns-then-out-body
returns-then-out-body c = put_short _ 0 _ (rw length_fragment (omega arith))

pub returns : goal.returns
returns c =
    let a = c.args in
    let n = length_fragment a.self.fragment_nr a.self.total_fragments a.body.now in
    let f = put_fits a.out.now 0 (fragment_bytes a.self.fragment_nr a.self.total_fragments a.body.now) (omega arith) in
    (rw n at f.0, c.copy_long.ensures ∙ (rw c.put_two.ensures (put_body _ _ _ _) ∙ f.1))
