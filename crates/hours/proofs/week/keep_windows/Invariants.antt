-- `hours::week::keep_windows` meets its contract. The invariant: the first `at` minutes are kept, and what stands behind them is as it was.
use mathlib.Core.Path.{◌≡◌}
use Rattle.hours.specs.Windows.{windows_of}
use Rattle.hours.proofs.week.Laws.{kept_until}
use Rattle.hours.proofs.week.keep_windows.Given as goal

abbrev pub invariant-loop-at : goal.invariant-loop-at
invariant-loop-at l = l.byte-items ≡ kept_until (windows_of l.windows) l.at l.initial.byte-items
