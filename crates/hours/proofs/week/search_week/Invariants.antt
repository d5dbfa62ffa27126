-- `hours::week::search_week` meets its contract. The invariant: the minutes that are left give the answer that all of them give.
use Prim.Native.Nat.{◌-◌, ◌≤◌}
use mathlib.Core.Path.{◌≡◌}
use Rattle.hours.specs.Windows.{week_minutes}
use Rattle.hours.specs.Week.{open_in, first_open_from, first_open}
use Rattle.hours.proofs.week.search_week.Given as goal

abbrev pub invariant-loop : goal.invariant-loop
invariant-loop l =
    ((l.t.0 ≤ 6) × (l.t.1 ≤ 1439))
    × (first_open_from (open_in l.hours) l.t (week_minutes - l.counter) ≡ first_open (open_in l.hours) l.day l.minute)
