-- `StreamState::list_repeats` meets its contract. The invariant: what is listed, and what the bits left will add, is the whole list.
use Rattle.std.proofs.Common.{sym, ◌∙◌, arith}
use Rattle.streams.specs.Acknowledged.{repeats_of}
use Rattle.streams.proofs.acknowledged.Laws.{listed_start, listed_skip, listed_put, listed_room, listed_end}
use Rattle.streams.proofs.state.StreamState.list_repeats.Goals as goal
use Rattle.streams.proofs.state.StreamState.list_repeats.Goals.{then-wanted, else-wanted}

pub loop-bit-init : goal.loop-bit-init
loop-bit-init c = listed_start c.args.self c.args.first_unacked_seq c.args.nack_bitmap

pub offset_bounds-repeats-count : goal.offset_bounds-repeats-count
offset_bounds-repeats-count c =
    let a = c.args in
    let l = c.loop-bit in
    omega (arith, listed_room a.self a.first_unacked_seq a.nack_bitmap l.repeats l.count l.bit l.invariant (omega arith))

pub bounds-repeats-count : goal.bounds-repeats-count
bounds-repeats-count c =
    let a = c.args in
    let l = c.loop-bit in
    omega (arith, listed_room a.self a.first_unacked_seq a.nack_bitmap l.repeats l.count l.bit l.invariant (omega arith))

pub overflow_add-count : goal.overflow_add-count
overflow_add-count c =
    let a = c.args in
    let l = c.loop-bit in
    omega (arith, listed_room a.self a.first_unacked_seq a.nack_bitmap l.repeats l.count l.bit l.invariant (omega arith))

pub loop-bit-preserved : goal.loop-bit-preserved
loop-bit-preserved c =
    let a = c.args in
    let l = c.loop-bit in
    elim c.if-wanted.branch [ then-wanted w ↦ rw (w.repeats-is, w.count-is, w.seq_add.ensures) (listed_put a.self a.first_unacked_seq a.nack_bitmap l.repeats l.count l.bit l.invariant (omega arith) (sym c.wanted.ensures ∙ w.if-wanted.true)) | else-wanted w ↦ rw (w.repeats-is, w.count-is) (listed_skip a.self a.first_unacked_seq a.nack_bitmap l.repeats l.count l.bit l.invariant (omega arith) (sym c.wanted.ensures ∙ w.if-wanted.false)) ]

pub returns : goal.returns
unfolding repeats_of
returns c =
    let a = c.args in
    let l = c.loop-bit in
    let e = listed_end a.self a.first_unacked_seq a.nack_bitmap l.repeats l.count l.bit l.invariant (omega arith) in
    rw (e.0, e.1)
