-- `agent::fragments::fragment` meets its contract.
use Rattle.std.proofs.Common.{rules, ap, ◌∙◌}
use Rattle.agent.specs.Run.{Turned, put_replies}
use Rattle.agent.specs.Stores.{stores_of}
use Rattle.agent.proofs.Written.{fragment_by}
use Rattle.agent.proofs.fragments.fragment.Goals as goal

pub returns : goal.returns
returns c =
    let a = c.args in
    let w = c.work_off.ensures in
    let all = fragment_by a.f (stores_of a.stores.now) a.d.now a.r a.took _ _ c.gather-n.ensures.stores c.gather-n.ensures.count in
    record {
      ran = w.ran ∙ ap (λ (y : Turned). y.ran) all;
      stores = w.stores ∙ ap (λ (y : Turned). y.tables) all;
      out = w.out ∙ ap (λ (y : Turned). put_replies a.f.room a.out.now a.r.wrote y.replies) all;
      places = search rules;
    }
