-- `codec::reassembly::ReassemblyBuffer::new` meets its contract.
use mathlib.Core.Path.{sym, ◌∙◌}
use Rattle.codec.proofs.reassembly.Laws.{need_fits, new_refused, new_made}
use Rattle.codec.proofs.reassembly.ReassemblyBuffer.new.Goals as goal

pub returns-then-under_need : goal.returns-then-under_need
returns-then-under_need c = new_refused _ _ _ _ (sym c.under_need.ensures ∙ c.if-under_need.true)

pub free_all-requires : goal.free_all-requires
free_all-requires c = (need_fits _ _ _ _ (sym c.under_need.ensures ∙ c.if-under_need.false)).1

pub returns : goal.returns
returns c =
    let m = new_made _ _ _ _ (sym c.under_need.ensures ∙ c.if-under_need.false) in
    (m.0, c.free_all.ensures ∙ m.1)
