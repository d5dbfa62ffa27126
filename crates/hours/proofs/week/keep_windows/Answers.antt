-- `hours::week::keep_windows` meets its contract. The invariant: the first `at` minutes are kept, and what stands behind them is as it was.
use mathlib.Core.Path.{◌≡◌}
use lib.ListN.{length, take}
use lib.Seq.{length-take-le}
use Rattle.hours.specs.Windows.{week_minutes, windows_of}
use Rattle.hours.proofs.week.Laws.{kept_none, kept_more, kept_front, kept_short}
use native.Mathlib.Omega.{arith}
use Rattle.hours.proofs.week.keep_windows.Goals.{Else-hours-lt-WEEK_MINUTES}
use Rattle.hours.proofs.week.keep_windows.Goals as goal

-- the week's part of the store
week : (c : Else-hours-lt-WEEK_MINUTES) → length (take week_minutes c.args.hours.now) ≡ week_minutes
week c = length-take-le week_minutes c.args.hours.now c.if-hours-lt-WEEK_MINUTES.false

pub returns-then-hours-lt-WEEK_MINUTES : goal.returns-then-hours-lt-WEEK_MINUTES
returns-then-hours-lt-WEEK_MINUTES c = let a = c.args in kept_short (windows_of a.windows.now) a.hours.now c.if-hours-lt-WEEK_MINUTES.true

pub loop-at-init : goal.loop-at-init
loop-at-init c = let a = c.args in kept_none (windows_of a.windows.now) (take week_minutes a.hours.now)

pub open_byte-requires : goal.open_byte-requires
open_byte-requires c = omega (arith, week (goal.at.open_byte-requires c).Else-hours-lt-WEEK_MINUTES)

pub loop-at-preserved : goal.loop-at-preserved
loop-at-preserved c =
    let a = c.args in
    let l = c.loop-at in
    rw (l.invariant, c.open_byte.ensures) (kept_more (windows_of a.windows.now) l.at (take week_minutes a.hours.now) (omega arith))

pub returns : goal.returns
returns c =
    let a = c.args in
    let l = c.loop-at in
    let e : l.at ≡ week_minutes = omega (arith, week (goal.at.returns c).Else-hours-lt-WEEK_MINUTES) in
    rw (l.invariant, e) (kept_front (windows_of a.windows.now) a.hours.now c.if-hours-lt-WEEK_MINUTES.false)
