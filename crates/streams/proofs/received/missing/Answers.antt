-- `streams::received::missing` meets its contract: the bits below `bit` are in the bitmap, and the others are still to come.
use Rattle.std.proofs.Common.{arith}
use Rattle.streams.proofs.received.Laws.{reached_start, reached_end, reached_stop, reached_room, reached_step}
use Rattle.streams.proofs.received.missing.Goals as goal

pub loop-bit-init : goal.loop-bit-init
loop-bit-init c = reached_start c.args.expected c.args.first c.args.last

pub returns-then-seq_lt : goal.returns-then-seq_lt
returns-then-seq_lt c =
    let a = c.args in
    let l = c.loop-bit in
    reached_stop a.expected a.first a.last l.bitmap l.bit l.invariant (omega arith) (rw (← c.seq_add-seq.ensures, ← c.seq_lt.ensures) c.if-seq_lt.true)

pub overflow_add-bitmap : goal.overflow_add-bitmap
overflow_add-bitmap c =
    let a = c.args in
    let l = c.loop-bit in
    record { fits = rw (c.bit_value-bitmap.ensures, c.seq_add-seq.ensures) (reached_room a.expected a.first a.last l.bitmap l.bit l.invariant (omega arith)) }

pub loop-bit-preserved : goal.loop-bit-preserved
loop-bit-preserved c =
    let a = c.args in
    let l = c.loop-bit in
    rw (c.bit_value-bitmap.ensures, c.seq_add-seq.ensures)
    (reached_step a.expected a.first a.last l.bitmap l.bit l.invariant (omega arith) (rw (← c.seq_add-seq.ensures, ← c.seq_lt.ensures) c.if-seq_lt.false))

pub returns : goal.returns
returns c =
    let a = c.args in
    let l = c.loop-bit in
    reached_end a.expected a.first a.last l.bitmap l.bit l.invariant (omega arith)
