-- `codec::failures::payload_end` meets its contract: the refusal of the rules before the layout, and the end where only a layout is left.
use Prim.Native.Nat.{ℕ, ◌≤◌}
use mathlib.Core.Path.{◌≡◌}
use native.Mathlib.Omega.{arith}
use Rattle.codec.specs.Layouts.{least_of, layout_at, create_at, status_at}
use Rattle.codec.specs.Reading.{payload_at}
use Rattle.codec.proofs.failures.Laws.{unmarked}
use Rattle.codec.proofs.layouts.Laws.{enough}
use Rattle.codec.proofs.reading.Laws.{payload_laid}
use Rattle.codec.proofs.failures.payload_end.Goals.{In_ok-check_room, in-1+in_ok-_kind-in-1, in-5+in_ok-_status-in-5, in_default}
use Rattle.codec.proofs.failures.payload_end.Goals as goal

-- behind the three rules the layout decides, and its least length is there
laid : (c : In_ok-check_room) → layout_at c.args.s.now c.args.id c.args.p c.args.len ≡ payload_at c.args.s.now c.args.id c.args.p c.args.len
laid c = let r = c.in_ok-check_room.ensures.room in payload_laid _ _ _ _ r.0 r.1.0 r.1.1

long : (c : In_ok-check_room) (k : ℕ) → c.args.id ≡ k → least_of k ≤ c.args.len
long c k e = enough _ k _ e c.in_ok-check_room.ensures.room.1.1

pub bounds-s-p : goal.bounds-s-p
unfolding least_of
bounds-s-p c = omega (arith, c.in_ok-check_room.ensures.room.0, long (goal.at.bounds-s-p c).In_ok-check_room 1 c.in-1.is)

pub bounds-s-p-in-5 : goal.bounds-s-p-in-5
unfolding least_of
bounds-s-p-in-5 c = omega (arith, c.in_ok-check_room.ensures.room.0, long (goal.at.bounds-s-p-in-5 c).In_ok-check_room 5 c.in-5.is)

pub returns-in_err-_kind-in-1 : goal.returns-in_err-_kind-in-1
unfolding layout_at create_at status_at
returns-in_err-_kind-in-1 c = rw (← laid (goal.at.returns-in_err-_kind-in-1 c).In_ok-check_room, c.in-1.is, ← c.try_from.ensures, c.in_err-_kind-in-1.was) (grind arith)

pub returns-in_err-_status-in-5 : goal.returns-in_err-_status-in-5
unfolding layout_at create_at status_at
returns-in_err-_status-in-5 c = rw (← laid (goal.at.returns-in_err-_status-in-5 c).In_ok-check_room, c.in-5.is, ← c.try_from-in-5.ensures, c.in_err-_status-in-5.was) (grind arith)

pub returns : goal.returns
unfolding layout_at create_at status_at
returns c =
    let q = goal.at.returns c in
    let r = c.in_ok-check_room.ensures.room in
    elim c.match-id.branch [
      | in-1+in_ok-_kind-in-1 w ↦ rw (← laid q.In_ok-check_room, w.in-1.is, ← w.try_from.ensures, w.in_ok-_kind-in-1.was)
      | in-5+in_ok-_status-in-5 w ↦ rw (← laid q.In_ok-check_room, w.in-5.is, ← w.try_from-in-5.ensures, w.in_ok-_status-in-5.was)
      | in_default w ↦ unmarked _ _ _ _ r.0 r.1.0 r.1.1 (λ e. omega arith) (λ e. omega arith)
    ]
