-- `agent::process::is_enough` meets its contract.
use Rattle.std.proofs.Common.{sym, ap, ◌∙◌}
use mathlib.Core.Bool.{Bool, false, cond}
use Rattle.agent.specs.Host.{bounded}
use Rattle.agent.proofs.Sparse.{bound_brings}
use Rattle.agent.proofs.process.is_enough.Goals as goal

pub returns-else-may_rebuild : goal.returns-else-may_rebuild
returns-else-may_rebuild c =
    let a = c.args in
    c.is_roomy.ensures ∙ sym (ap (λ (b : Bool). cond b false (bounded a.room a.start a.n a.d.now a.sample)) (bound_brings a.start a.sessions.now a.d.now (c.requires ∙ c.if-may_rebuild.false)))
