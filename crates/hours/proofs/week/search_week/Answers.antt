-- `hours::week::search_week` meets its contract. The invariant: the minutes that are left give the answer that all of them give.
use Prim.Native.Nat.{◌+◌, ◌-◌}
use mathlib.Core.Path.{◌≡◌, sym, ◌∙◌}
use mathlib.Core.Bool.{true, false}
use Rattle.hours.specs.Windows.{week_minutes}
use Rattle.hours.specs.Week.{open_in, first_open_from}
use Rattle.hours.proofs.week.Laws.{search_by}
use native.Mathlib.Omega.{arith}
use Rattle.hours.proofs.week.search_week.Goals as goal

pub returns-then-is_open : goal.returns-then-is_open
returns-then-is_open c =
    let l = c.loop in
    let k = week_minutes - l.counter in
    sym (search_by (open_in c.args.hours.now) l.t (k - 1) k (omega arith) true (sym c.is_open.ensures ∙ c.if-is_open.true)) ∙ l.invariant.1

pub loop-preserved : goal.loop-preserved
loop-preserved c =
    let h = c.args.hours.now in
    let l = c.loop in
    let m = c.minute_after-t in
    let k = week_minutes - (l.counter + 1) in
    let passed = search_by (open_in h) l.t k (week_minutes - l.counter) (omega arith) false (sym c.is_open.ensures ∙ c.if-is_open.false) in
    ((m.ensures.1, m.ensures.2), rw m.ensures.0 (sym passed ∙ l.invariant.1))

pub returns : goal.returns
unfolding first_open_from
returns c =
    let l = c.loop in
    let z : week_minutes - l.counter ≡ 0 = omega arith in
    rw z at l.invariant.1
