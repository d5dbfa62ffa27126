-- `StreamState::drop_before` meets its contract: each place's length is what is kept of it.
use Rattle.std.proofs.Common.{rules, ◌≡◌, refl}
use Rattle.streams.specs.Acknowledged.{drop_before, kept_at, sixteen}
use Rattle.streams.proofs.acknowledged.Laws.{sixteen_made}
use Rattle.streams.proofs.state.StreamState.drop_before.Goals as goal

pub returns : goal.returns
unfolding drop_before kept_at
returns c =
    let made : c.from_fn-lengths.result ≡ sixteen (kept_at c.args.self c.args.first_unacked_seq) =
    sixteen_made _ _ (kept_at c.args.self c.args.first_unacked_seq) (λ i y q k. search rules) c.from_fn-lengths.result c.from_fn-lengths.ensures.items
    in
    rw made refl
