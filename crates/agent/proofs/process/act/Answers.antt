-- `agent::process::act` meets its contract.
use Rattle.std.proofs.Common.{ap, sym, ◌∙◌, rules}
use Rattle.agent.specs.Run.{Turned, put_replies}
use Rattle.agent.specs.Stores.{stores_of}
use Rattle.agent.proofs.Plain.{performed_plain}
use Rattle.agent.proofs.process.act.Goals as goal

pub returns-else-may_rebuild : goal.returns-else-may_rebuild
returns-else-may_rebuild c =
    let a = c.args in
    let p = c.perform_plain.ensures in
    let all = sym (performed_plain a.start (stores_of a.stores.now) a.d.now a.sample.now (c.requires.bound ∙ c.if-may_rebuild.false)) in
    record {
      ran = p.ran ∙ ap (λ (y : Turned). y.ran) all;
      stores = p.stores ∙ ap (λ (y : Turned). y.tables) all;
      out = p.out ∙ ap (λ (y : Turned). put_replies a.start.frame.room a.out.now 0 y.replies) all;
      places = search rules;
    }
