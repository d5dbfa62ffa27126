-- `listing::message::put_answer` meets its contract: the lines of what the check accepts, and of what it refuses.
use Rattle.std.proofs.Common.{sym, ◌∙◌}
use Rattle.listing.proofs.text.Laws.{adds_then}
use Rattle.listing.proofs.message.Laws.{check_accepts, check_refuses}
use Rattle.listing.proofs.message.put_answer.Goals as goal

pub put_subs-requires : goal.put_subs-requires
put_subs-requires c = (check_accepts _ _ _ (sym c.check.ensures ∙ c.in-Ok.is)).0

pub returns-in-Ok : goal.returns-in-Ok
returns-in-Ok c =
    let header = rw (c.into.ensures, c.into-in-Ok.ensures, c.into-in-Ok-2.ensures) at c.line.ensures in
    rw (check_accepts _ _ _ (sym c.check.ensures ∙ c.in-Ok.is)).1
    (adds_then header (adds_then c.put_subs.ensures c.line-in-Ok.ensures))

pub returns-in-Err : goal.returns-in-Err
returns-in-Err c =
    rw (check_refuses _ _ (sym c.check.ensures ∙ c.in-Err.is))
    (rw (c.into-in-Err.ensures, c.number.ensures) at c.line-in-Err.ensures)
