-- `streams::state::StreamState::place_for` meets its contract.
use Rattle.std.proofs.Common.{rules, ◌≡◌, ◌∙◌}
use Rattle.std.specs.Option.{option_or}
use Rattle.streams.specs.Places.{some_place, place_of, place_between}
use Rattle.streams.proofs.places.Laws.{placed_for}
use Rattle.streams.proofs.state.StreamState.place_for.Goals as goal

pub returns : goal.returns
returns c =
    let s = c.args.self in
    let n = c.args.seq in
    let chosen : c.or_else.result ≡ option_or (some_place (place_of s n)) (some_place (place_between s 0 0)) = search rules in
    chosen ∙ placed_for s n
