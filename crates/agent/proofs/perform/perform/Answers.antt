-- `agent::perform::perform` meets its contract.
use mathlib.Core.Path.{◌∙◌}
use Rattle.std.proofs.Common.{rules}
use Rattle.agent.specs.Stores.{stores_of}
use Rattle.agent.proofs.Resumed.{performed_by}
use Rattle.agent.proofs.perform.perform.Goals as goal

pub returns : goal.returns
returns c =
    let a = c.args in
    let b = c.resume-r.ensures in
    let x = c.run.ensures in
    let all = performed_by a.start (stores_of a.stores.now) a.d.now a.sample.now a.out.now _ _ _ (b.ran, b.stores, b.out) in
    record { ran = x.ran ∙ all.0; stores = x.stores ∙ all.1; out = x.out ∙ all.2; places = search rules }
