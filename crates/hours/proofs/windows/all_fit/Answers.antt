-- `hours::windows::all_fit` meets its contract. The invariant: the windows from here on fit behind those before them exactly if all fit.
use mathlib.Core.Path.{sym, ◌∙◌}
use mathlib.Core.Bool.{true, false}
use lib.ListN.{drop_of_length-le}
use Rattle.hours.specs.Windows.{all_fit_behind}
use Rattle.hours.proofs.windows.Laws.{fit_by}
use native.Mathlib.Omega.{arith}
use Rattle.hours.proofs.windows.all_fit.Goals as goal

pub returns-then-not-fits : goal.returns-then-not-fits
returns-then-not-fits c =
    let l = c.loop-i in
    sym (fit_by c.args.windows.now l.i (omega arith) false (sym c.fits.ensures ∙ c.if-not-fits.true)) ∙ l.invariant

pub loop-i-preserved : goal.loop-i-preserved
loop-i-preserved c =
    let l = c.loop-i in
    sym (fit_by c.args.windows.now l.i (omega arith) true (sym c.fits.ensures ∙ c.if-not-fits.false)) ∙ l.invariant

pub returns : goal.returns
unfolding all_fit_behind
returns c = sym (rw (drop_of_length-le c.args.windows.now {i = c.loop-i.i} (omega arith))) ∙ c.loop-i.invariant
