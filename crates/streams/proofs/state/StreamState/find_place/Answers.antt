-- `streams::state::StreamState::find_place` meets its contract: the pairs of a number and a length, in the order of the places.
use Rattle.std.proofs.Common.{◌≡◌, ℕ, List, Bool, length, refl, ◌∙◌, arith, rules}
use borrow.Author.Tests.{tests}
use Rattle.std.specs.Prelude.{position}
use Rattle.std.specs.List.{zip}
use Rattle.std.proofs.lemmas.Iterator.{YieldsList-from_slice, YieldsList-from_zip}
use Rattle.std.proofs.lemmas.Iterator.Search.{position_from_yields_List}
use Rattle.std.proofs.lemmas.Slice.Zip.{length-zip, get_or-zip}
use Rattle.streams.specs.Places.{holds, holds_at, place_of}
use Rattle.streams.proofs.places.Laws.{position_placed}
use Rattle.streams.proofs.state.StreamState.find_place.Goals as goal

pub returns : goal.returns
unfolding place_of holds_at
returns c =
    let s = c.args.self in
    let n = c.args.seq in
    let numbers : length s.numbers ≡ 16 = omega arith in
    let lengths : length s.lengths ≡ 16 = omega arith in
    let pairs : List (ℕ × ℕ) = zip s.numbers s.lengths in
    let test : ℕ × ℕ → Bool = λ p. holds p.0 p.1 n in
    let found : c.position.result ≡ position test pairs = position_from_yields_List test c.position.new.self _ c.position.result c.position.ensures.ran (YieldsList-from_zip (YieldsList-from_slice s.numbers cc) (YieldsList-from_slice s.lengths cc)) (λ x b q k. search (rules, tests)) in
    found
    ∙ position_placed (holds_at s n) test (0, 0) pairs (omega (arith, length-zip s.numbers s.lengths))
    (λ j h. rw (get_or-zip s.numbers s.lengths j (0, 0) (omega arith) (omega arith)) refl)
