-- `codec::reading::check` meets its contract: no header, a header alone, and a header with submessages.
use mathlib.Core.Path.{◌≡◌, sym, ◌∙◌}
use native.Mathlib.Omega.{arith}
use Rattle.std.specs.Prelude.{Err}
use Rattle.codec.proofs.header.Laws.{header_is, header_none}
use Rattle.codec.proofs.reading.Laws.{check_short, check_more}
use Rattle.codec.proofs.reading.check.Goals as goal

pub returns-in_err-header : goal.returns-in_err-header
returns-in_err-header c =
    let passed : c.from_residual.result ≡ Err c.in_err-header.field-0.0 = grind arith in
    let h = header_none _ _ (sym c.parse.ensures ∙ c.in_err-header.was) in
    passed ∙ rw h.1 (check_short _ (omega (arith, h.0)))

pub returns-then-s-eq-MESSAGE_HEADER_SIZE : goal.returns-then-s-eq-MESSAGE_HEADER_SIZE
returns-then-s-eq-MESSAGE_HEADER_SIZE c = check_short _ (omega arith)

pub returns : goal.returns
returns c =
    let h = header_is _ _ (sym c.parse.ensures ∙ c.in_ok-header.was) in
    c.count_at.ensures ∙ rw h.1 (check_more _ (omega (arith, h.0, c.if-s-eq-MESSAGE_HEADER_SIZE.false)))
