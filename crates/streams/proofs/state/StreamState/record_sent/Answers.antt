-- `StreamState::record_sent` meets its contract: the message at its place, or nothing changes.
use Rattle.std.proofs.Common.{◌≡◌, length, sym, ◌∙◌, arith}
use Rattle.streams.specs.Sent.{slot_for}
use Rattle.streams.proofs.sent.Laws.{slot_at, SlotAt, given, record_at_lem, record_nowhere}
use Rattle.streams.proofs.state.StreamState.record_sent.Goals.{In-Some}
use Rattle.streams.proofs.state.StreamState.record_sent.Goals as goal
use Rattle.std.specs.Prelude.{Ok, Some}

-- the arm of a place: `slot_for` answered it
placed : (c : In-Some) → c.slot_for-slot.result ≡ Ok (Some c.in-Some.place)
placed c = given c.slot_for-slot.result c.in-Some.place (sym c.unwrap_or.ensures ∙ c.in-Some.is)

answered : (c : In-Some) → let a = c.args in slot_for a.self a.seq (length a.message.now) (length a.buffer.now) ≡ Ok (Some c.in-Some.place)
answered c = sym c.slot_for-slot.ensures ∙ placed c

at_place : (c : In-Some) → let a = c.args in SlotAt a.self a.seq (length a.message.now) (length a.buffer.now) c.in-Some.place
at_place c = let a = c.args in slot_at a.self a.seq (length a.message.now) (length a.buffer.now) c.in-Some.place (answered c)

pub overflow_mul-place : goal.overflow_mul-place
overflow_mul-place c = omega (arith, (at_place (goal.at.overflow_mul-place c).In-Some).low)

pub with_message-state-requires : goal.with_message-state-requires
with_message-state-requires c = let k = at_place (goal.at.with_message-state-requires c).In-Some in (k.low, k.short)

pub returns-in-Some : goal.returns-in-Some
returns-in-Some c =
    let a = c.args in
    let arm = (goal.at.returns-in-Some c).In-Some in
    let f = record_at_lem a.self a.seq a.message.now a.buffer.now c.in-Some.place (answered arm) in
    (rw (placed arm, c.with_message-state.ensures) f.0, c.put_bytes.ensures.1 ∙ f.1)

pub returns-in-None : goal.returns-in-None
returns-in-None c =
    let a = c.args in
    record_nowhere a.self a.seq a.message.now a.buffer.now c.slot_for-slot.result (sym c.slot_for-slot.ensures) (sym c.unwrap_or.ensures ∙ c.in-None.is)
