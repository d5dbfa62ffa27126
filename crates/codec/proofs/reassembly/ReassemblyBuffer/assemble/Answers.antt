-- `codec::reassembly::ReassemblyBuffer::assemble` meets its contract.
use mathlib.Core.Path.{◌≡◌, sym, ◌∙◌}
use native.Mathlib.Omega.{arith}
use lib.ListN.{length}
use Rattle.codec.specs.Reassembly.{assemble_check, payload_of}
use Rattle.codec.proofs.reassembly.Laws.{assemble_whole, assemble_refused, assemble_short, assemble_written}
use Rattle.codec.proofs.reassembly.ReassemblyBuffer.assemble.Goals.{In_ok-assemble_check}
use Rattle.codec.proofs.reassembly.ReassemblyBuffer.assemble.Goals as goal
use Rattle.std.specs.Prelude.{Ok, Err}

passed : (c : In_ok-assemble_check)
    → assemble_check c.args.self (length c.args.slots.now) c.args.lengths.now ≡ (Ok tt)
passed c = sym c.assemble_check.ensures ∙ c.in_ok-assemble_check.was

pub bytes_held-len-requires : goal.bytes_held-len-requires
bytes_held-len-requires c = let w = assemble_whole _ _ _ (passed c) in (w.entries, w.all)

pub returns-then-out-len : goal.returns-then-out-len
returns-then-out-len c = assemble_short _ _ _ _ (passed (goal.at.returns-then-out-len c).In_ok-assemble_check) (rw c.bytes_held-len.ensures at c.if-out-len.true)

pub join-requires : goal.join-requires
join-requires c =
    let w = assemble_whole _ _ _ (passed (goal.at.join-requires c).In_ok-assemble_check) in
    (w.there, (w.entries, (w.within, (w.all, rw c.bytes_held-len.ensures at c.if-out-len.false))))

pub returns-in_err-assemble_check : goal.returns-in_err-assemble_check
returns-in_err-assemble_check c =
    let passed : c.from_residual.result ≡ Err c.in_err-assemble_check.field-0.0 = grind arith in
    rw passed (assemble_refused _ _ _ _ _ (sym c.assemble_check.ensures ∙ c.in_err-assemble_check.was))

pub returns : goal.returns
unfolding payload_of
returns c =
    let n = c.bytes_held-len.ensures in
    let w = assemble_written _ _ _ _ (passed (goal.at.returns c).In_ok-assemble_check) (rw n at c.if-out-len.false) in
    (rw n w.0, c.join.ensures ∙ w.1)
