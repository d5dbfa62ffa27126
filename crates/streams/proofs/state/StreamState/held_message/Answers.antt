-- `streams::state::StreamState::held_message` meets its contract.
use Rattle.std.proofs.Common.{◌≡◌, length, sym, ◌∙◌, arith}
use native.Mathlib.Nat.{add-sub_cancel_left}
use Rattle.streams.specs.Sent.{held_of, held_bytes}
use Rattle.streams.proofs.sent.Laws.{held_at, HeldAt, given, nothing_held}
use Rattle.streams.proofs.state.StreamState.held_message.Goals.{In-Some}
use Rattle.streams.proofs.state.StreamState.held_message.Goals as goal
use Rattle.std.specs.Prelude.{Ok, Some}

-- the arm of a message: `find_held` found it
answered : (c : In-Some) → let a = c.args in held_of a.self a.seq (length a.buffer.now) ≡ Ok (Some (c.in-Some.place, c.in-Some.len))
answered c = sym c.find_held.ensures ∙ given c.find_held.result (c.in-Some.place, c.in-Some.len) (sym c.unwrap_or.ensures ∙ c.in-Some.is)

at_place : (c : In-Some) → let a = c.args in HeldAt a.self a.seq (length a.buffer.now) c.in-Some.place c.in-Some.len
at_place c = let a = c.args in held_at a.self a.seq (length a.buffer.now) c.in-Some.place c.in-Some.len (answered c)

pub overflow_mul-at : goal.overflow_mul-at
overflow_mul-at c = let k = at_place (goal.at.overflow_mul-at c).In-Some in omega (arith, k.low, k.short, k.room_for)

pub overflow_add-result : goal.overflow_add-result
overflow_add-result c = let k = at_place (goal.at.overflow_add-result c).In-Some in omega (arith, k.low, k.short, k.room_for)

pub slice_bounds-result-end : goal.slice_bounds-result-end
slice_bounds-result-end c = let k = at_place (goal.at.slice_bounds-result-end c).In-Some in omega (arith, k.low, k.short, k.room_for)

pub returns-in-Some : goal.returns-in-Some
unfolding held_bytes
returns-in-Some c = rw (answered (goal.at.returns-in-Some c).In-Some, add-sub_cancel_left)

pub returns-in-None : goal.returns-in-None
returns-in-None c =
    let a = c.args in
    rw (← c.find_held.ensures) (nothing_held c.find_held.result a.buffer.now (sym c.unwrap_or.ensures ∙ c.in-None.is))
