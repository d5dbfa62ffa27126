-- `codec::failures::end_at` meets its contract: the header first, then what stands behind it.
use mathlib.Core.Path.{sym, ◌∙◌}
use native.Mathlib.Omega.{arith}
use Rattle.codec.proofs.header.Laws.{sub_header_is}
use Rattle.codec.proofs.failures.end_at.Goals as goal

pub overflow_add-at : goal.overflow_add-at
overflow_add-at c = omega (arith, sub_header_is _ _ _ (sym c.parse.ensures ∙ c.in-Ok.is))

pub payload_end-requires : goal.payload_end-requires
payload_end-requires c = omega (arith, sub_header_is _ _ _ (sym c.parse.ensures ∙ c.in-Ok.is))
