-- `codec::rebuilt::count_rebuilt` meets its contract. The invariant: what is left from here, with what was counted and met, is the whole.
use mathlib.Core.Path.{◌≡◌, sym, ◌∙◌}
use native.Mathlib.Omega.{arith}
use Rattle.std.specs.Prelude.{Err}
use Rattle.codec.specs.Reading.{items_at}
use Rattle.codec.specs.Rebuilt.{rebuilt_at}
use Rattle.codec.proofs.failures.Laws.{ended, refused_end}
use Rattle.codec.proofs.rebuilt.Laws.{from_none, from_stopped, from_past, from_end}
use Rattle.codec.proofs.rebuilt.count_rebuilt.Goals as goal

pub loop-at-init : goal.loop-at-init
unfolding rebuilt_at
loop-at-init c = (omega arith, from_none (items_at c.args.s.now c.args.from))

pub returns-in_err-at : goal.returns-in_err-at
returns-in_err-at c =
    let passed : c.from_residual.result ≡ Err c.in_err-at.field-0.0 = grind arith in
    let r = refused_end _ _ _ (sym c.end_at.ensures ∙ c.in_err-at.was) in
    passed ∙ sym (from_stopped _ _ _ _ _ (omega arith) r.0) ∙ c.loop-at.invariant.1

pub loop-at-smaller : goal.loop-at-smaller
loop-at-smaller c = let l = ended _ _ _ (sym c.end_at.ensures ∙ c.in_ok-at.was) in omega (arith, l.ahead, l.within)

pub loop-at-preserved : goal.loop-at-preserved
loop-at-preserved c =
    let e = sym c.end_at.ensures ∙ c.in_ok-at.was in
    let l = ended _ _ _ e in
    (omega (arith, l.ahead), rw c.or_barred-barred.ensures (sym (from_past _ _ _ _ _ (omega arith) e) ∙ c.loop-at.invariant.1))

pub returns-then-barred : goal.returns-then-barred
returns-then-barred c = sym (from_end _ _ _ _ (omega arith) ∙ rw c.if-barred.true) ∙ c.loop-at.invariant.1

pub returns : goal.returns
returns c = sym (from_end _ _ _ _ (omega arith) ∙ rw c.if-barred.false) ∙ c.loop-at.invariant.1
