-- `hours::windows::all_fit` meets its contract. The invariant: the windows from here on fit behind those before them exactly if all fit.
use mathlib.Core.Path.{◌≡◌}
use lib.ListN.{take, drop}
use Rattle.hours.specs.Windows.{windows_of, all_fit_behind, all_fit}
use Rattle.hours.proofs.windows.all_fit.Given as goal

abbrev pub invariant-loop-i : goal.invariant-loop-i
invariant-loop-i l = all_fit_behind (windows_of (take l.i l.windows)) (windows_of (drop l.i l.windows)) ≡ all_fit (windows_of l.windows)
