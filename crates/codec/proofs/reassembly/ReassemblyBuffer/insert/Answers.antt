-- `codec::reassembly::ReassemblyBuffer::insert` meets its contract.
use Prim.Native.Nat.{◌+◌, ◌*◌, ◌≤◌}
use mathlib.Core.Path.{◌≡◌, sym, ap, ◌∙◌}
use native.Mathlib.Nat.{le_trans, lt_of_lt_of_le}
use native.Mathlib.Omega.{arith}
use lib.ListN.{length, get_or}
use Rattle.codec.specs.Reassembly.{grown, insert_check_of}
use Rattle.codec.proofs.reassembly.Laws.{slot_ends, Fits, insert_fits, insert_refused, insert_held}
use Rattle.codec.proofs.reassembly.ReassemblyBuffer.insert.Goals.{After-grown_count-count, In_ok-insert_check}
use Rattle.codec.proofs.reassembly.ReassemblyBuffer.insert.Goals as goal
use Rattle.std.specs.Prelude.{Ok, Err}

passed : (c : In_ok-insert_check)
    → insert_check_of c.args.self c.args.slots.now c.args.lengths.now c.args.fragment_nr c.args.body.now
    ≡ (Ok tt)
unfolding insert_check_of
passed c = rw c.entry_at-held.ensures at (sym c.insert_check.ensures ∙ c.in_ok-insert_check.was)

fits : (c : In_ok-insert_check)
    → Fits c.args.self (length c.args.slots.now) (length c.args.lengths.now)
    (get_or c.args.lengths.now c.args.fragment_nr 0) c.args.fragment_nr (length c.args.body.now)
unfolding insert_check_of
fits c = insert_fits _ _ _ _ _ _ (passed c)

-- its slot is within the slots
ends : (c : In_ok-insert_check)
    → c.args.fragment_nr * c.args.self.width + c.args.self.width ≤ length c.args.slots.now
ends c =
    let a = c.args in
    le_trans (slot_ends a.fragment_nr a.self.total_fragments a.self.width (fits c).below) (fits c).there

pub copy_in-requires : goal.copy_in-requires
copy_in-requires c = omega (arith, ends (goal.at.copy_in-requires c).In_ok-insert_check, (fits (goal.at.copy_in-requires c).In_ok-insert_check).body)

pub overflow_cast-lengths : goal.overflow_cast-lengths
overflow_cast-lengths c = omega (arith, (fits (goal.at.overflow_cast-lengths c).In_ok-insert_check).body)

pub overflow_add-lengths : goal.overflow_add-lengths
overflow_add-lengths c = omega (arith, (fits (goal.at.overflow_add-lengths c).In_ok-insert_check).body)

pub bounds-lengths-nr : goal.bounds-lengths-nr
bounds-lengths-nr c = lt_of_lt_of_le (fits (goal.at.bounds-lengths-nr c).In_ok-insert_check).below (fits (goal.at.bounds-lengths-nr c).In_ok-insert_check).entries

-- the count after the insert
counted : (c : After-grown_count-count) → c.grown_count-count.result
    ≡ grown c.args.self.received_count (get_or c.args.lengths.now c.args.fragment_nr 0)
counted c = c.grown_count-count.ensures ∙ ap (grown c.args.self.received_count) c.entry_at-held.ensures

pub overflow_cast-result : goal.overflow_cast-result
overflow_cast-result c = omega (arith, counted (goal.at.overflow_cast-result c).After-grown_count-count, (fits (goal.at.overflow_cast-result c).In_ok-insert_check).count)

pub returns-in_err-insert_check : goal.returns-in_err-insert_check
unfolding insert_check_of
returns-in_err-insert_check c =
    let passed : c.from_residual.result ≡ Err c.in_err-insert_check.field-0.0 = grind arith in
    rw passed
    (insert_refused _ _ _ _ _ _ (rw c.entry_at-held.ensures at (sym c.insert_check.ensures ∙ c.in_err-insert_check.was)))

pub returns : goal.returns
returns c =
    let h = insert_held _ _ _ _ _ (passed (goal.at.returns c).In_ok-insert_check) in
    (rw (counted (goal.at.returns c).After-grown_count-count) h.0, (c.copy_in.ensures ∙ h.1.0, h.1.1))
