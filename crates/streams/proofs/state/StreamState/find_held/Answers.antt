-- `streams::state::StreamState::find_held` meets its contract.
use Rattle.std.proofs.Common.{◌≡◌, ◌<◌, get_or, sym, ◌∙◌, le-ltb, lt-ltb, le-leb}
use borrow.Author.Tests.{lt-leb}
use Rattle.streams.specs.Places.{place_of}
use Rattle.streams.specs.Sent.{held_of, need}
use Rattle.streams.proofs.places.Laws.{placed, unplaced}
use Rattle.streams.proofs.sent.Laws.{held_length}
use Rattle.streams.proofs.state.StreamState.find_held.Goals.{In-Some}
use Rattle.streams.proofs.state.StreamState.find_held.Goals as goal

-- the arm of a place: it is the one that holds the number
held : (c : In-Some) → let q = place_of c.args.self c.args.seq in (q < 16) × (q ≡ c.in-Some.place)
held c = placed _ c.in-Some.place (sym c.find_place.ensures ∙ c.in-Some.is)

pub returns-then-room-lt-BUFFER_BYTES : goal.returns-then-room-lt-BUFFER_BYTES
unfolding held_of
returns-then-room-lt-BUFFER_BYTES c = rw (lt-ltb c.args.room need c.if-room-lt-BUFFER_BYTES.true)

pub returns-in_default : goal.returns-in_default
unfolding held_of
returns-in_default c =
    let a = c.args in
    rw (le-ltb a.room need c.if-room-lt-BUFFER_BYTES.false, le-leb 16 (place_of a.self a.seq) (unplaced _ (sym c.find_place.ensures ∙ c.in_default.is)))

pub returns-then-length-gt-LONGEST : goal.returns-then-length-gt-LONGEST
unfolding held_of
returns-then-length-gt-LONGEST c =
    let a = c.args in
    let h = held (goal.at.returns-then-length-gt-LONGEST c).In-Some in
    rw (le-ltb a.room need c.if-room-lt-BUFFER_BYTES.false, lt-leb 16 (place_of a.self a.seq) h.0, h.1, lt-ltb 1025 (get_or a.self.lengths c.in-Some.place 0) c.if-length-gt-LONGEST.true)

pub overflow_sub-result : goal.overflow_sub-result
overflow_sub-result c =
    let a = c.args in
    let h = held (goal.at.overflow_sub-result c).In-Some in
    rw (c.from.ensures, ← h.1) (held_length a.self a.seq h.0)

pub returns : goal.returns
unfolding held_of
returns c =
    let a = c.args in
    let h = held (goal.at.returns c).In-Some in
    rw (c.from.ensures, le-ltb a.room need c.if-room-lt-BUFFER_BYTES.false, lt-leb 16 (place_of a.self a.seq) h.0, h.1, le-ltb 1025 (get_or a.self.lengths c.in-Some.place 0) c.if-length-gt-LONGEST.false)
