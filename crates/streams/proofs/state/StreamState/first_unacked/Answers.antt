-- `streams::state::StreamState::first_unacked` meets its contract: the pairs of a number and a length are folded in the order of the places.
use Rattle.std.proofs.Common.{rules, ◌≡◌, ℕ, List, ◌∙◌, arith}
use Rattle.std.proofs.lemmas.Iterator.{YieldsList-from_slice, YieldsList-from_zip}
use Rattle.std.specs.List.{zip, fold}
use Rattle.streams.specs.Acknowledged.{further}
use Rattle.streams.proofs.acknowledged.Laws.{fold_acts, furthest_of}
use Rattle.streams.proofs.state.StreamState.first_unacked.Goals as goal

pub returns : goal.returns
returns c =
    let s = c.args.self in
    let pairs : List (ℕ × ℕ) = zip s.numbers s.lengths in
    let step : ℕ → ℕ × ℕ → ℕ = λ best p. further s.next_send_seq best p.0 p.1 in
    let best : c.fold-best.result ≡ fold step 0 pairs =
    fold_acts step c.fold-best.ensures.ran (YieldsList-from_zip (YieldsList-from_slice s.numbers cc) (YieldsList-from_slice s.lengths cc)) (λ a x b q k. search rules) in
    c.seq_sub.ensures ∙ rw best (furthest_of s (omega arith) (omega arith))
