-- `codec::reassembly::join` meets its contract. The invariant: what is still to be written, written from here on, is the whole.
use Prim.Native.Nat.{ℕ, ◌≤◌, ◌<◌, ◌+◌, ◌-◌, ◌*◌}
use mathlib.Core.Path.{◌≡◌, sym, ◌∙◌}
use native.Mathlib.Omega.{arith}
use lib.ListN.{length, get_or, take}
use lib.Seq.{get_or-take, length-take-le}
use Rattle.codec.proofs.reassembly.Laws.{slot_ends, held_some, held_fits, bytes_next, join_next, join_end}
use Rattle.codec.proofs.reassembly.join.Goals.{In-loop-i}
use Rattle.codec.proofs.reassembly.join.Goals as goal

abbrev held : In-loop-i → ℕ
held c = get_or c.args.lengths.now c.loop-i.i 0

below : (c : In-loop-i) → c.loop-i.i < c.args.total
below c = omega (arith, length-take-le c.args.total c.args.lengths.now c.requires.1.0)

-- the entry that a turn has
entry : (c : In-loop-i) → get_or (take c.args.total c.args.lengths.now) c.loop-i.i 0 ≡ held c
entry c = get_or-take c.args.total c.args.lengths.now c.loop-i.i 0 (below c)

-- what a turn copies: a body that is held, within its slot, for which there is room
turn : (c : In-loop-i)
    → (0 < held c)
    × ((c.loop-i.i * c.args.width + (held c - 1) ≤ length c.args.slots.now)
    × (c.loop-i.at + (held c - 1) ≤ length c.loop-i.out))
turn c =
    let a = c.args in
    let pre = c.requires in
    let l = c.loop-i in
    let some = held_some a.lengths.now a.total l.i pre.1.1.1.0 (below c) pre.1.0 in
    let fits = held_fits a.lengths.now a.total l.i a.width pre.1.1.0 (below c) pre.1.0 in
    let ends = slot_ends l.i a.total a.width (below c) in
    let next = bytes_next a.lengths.now a.total l.i (below c) pre.1.0 in
    (some, (omega (arith, pre.0), omega arith))

pub copy_slot-at-requires : goal.copy_slot-at-requires
copy_slot-at-requires c =
    let w = (goal.at.copy_slot-at-requires c).In-loop-i in
    rw (entry w) (turn w)

pub loop-i-preserved : goal.loop-i-preserved
loop-i-preserved c =
    let a = c.args in
    let pre = c.requires in
    let l = c.loop-i in
    let done = rw (entry (goal.at.loop-i-preserved c).In-loop-i) at c.copy_slot-at.ensures in
    let t = turn (goal.at.loop-i-preserved c).In-loop-i in
    let b = below (goal.at.loop-i-preserved c).In-loop-i in
    let next = bytes_next a.lengths.now a.total l.i b pre.1.0 in (
      omega arith,
      (
        c.copy_slot-at.auto.out ∙ l.invariant.1.0,
        (
          rw done.0 (omega (arith, l.invariant.1.1.0)),
          rw (done.1, done.0) (join_next l.out l.at a.width a.slots.now a.lengths.now a.total l.i b pre.1.0 (omega arith) t.1.0) ∙ l.invariant.1.1.1,
        ),
      ),
    )

pub returns : goal.returns
returns c =
    let a = c.args in
    let l = c.loop-i in
    sym (join_end l.out l.at a.width a.slots.now a.lengths.now a.total l.i (omega (arith, length-take-le a.total a.lengths.now c.requires.1.0))) ∙ l.invariant.1.1.1
