-- `cwire::parsing::parsed` meets its contract: what the check refuses, too few rows, and the rows.
use Rattle.std.proofs.Common.{arith, sym, ◌∙◌}
use Rattle.std.proofs.lemmas.Result.{err_from_is_err_and}
use Rattle.cwire.proofs.parsing.Laws.{check_accepts, check_refuses}
use Rattle.cwire.proofs.parsing.parsed.Goals as goal

pub returns-in_err-n : goal.returns-in_err-n
returns-in_err-n c =
    let p = err_from_is_err_and c.from_residual.result c.from_residual.ensures.1 in
    rw (p.1, p.2) (check_refuses _ _ _ (sym c.check.ensures ∙ c.in_err-n.was))

pub returns-then-rows-n : goal.returns-then-rows-n
returns-then-rows-n c = (check_accepts _ _ _ (sym c.check.ensures ∙ c.in_ok-n.was)).few _ c.if-rows-n.true

pub put_rows-requires : goal.put_rows-requires
put_rows-requires c =
    let a = check_accepts _ _ _ (sym c.check.ensures ∙ c.in_ok-n.was) in
    (a.all, omega (arith, a.count, c.if-rows-n.false))

pub returns : goal.returns
returns c =
    let a = check_accepts _ _ _ (sym c.check.ensures ∙ c.in_ok-n.was) in
    rw c.put_rows.ensures (a.enough _ c.if-rows-n.false)
