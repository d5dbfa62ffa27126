-- `streams::state::StreamState::place_between` meets its contract.
use Rattle.std.proofs.Common.{◌≡◌, ℕ, Bool, refl, ◌∙◌, arith, rules}
use borrow.Author.Tests.{tests}
use Rattle.std.specs.Prelude.{position}
use Rattle.std.proofs.lemmas.Iterator.{YieldsList-from_slice}
use Rattle.std.proofs.lemmas.Iterator.Search.{position_from_yields_List}
use Rattle.streams.specs.Places.{within, length_at, place_between}
use Rattle.streams.proofs.places.Laws.{position_placed}
use Rattle.streams.proofs.state.StreamState.place_between.Goals as goal

pub returns : goal.returns
unfolding place_between length_at
returns c =
    let a = c.args in
    let s = a.self in
    let test : ℕ → Bool = λ len. within len a.least a.most in
    let found : c.position.result ≡ position test s.lengths = position_from_yields_List test _ _ c.position.result c.position.ensures.ran (YieldsList-from_slice s.lengths cc) (λ x b q k. search (rules, tests)) in
    found ∙ position_placed (length_at s a.least a.most) test 0 s.lengths (omega arith) (λ j h. refl)
