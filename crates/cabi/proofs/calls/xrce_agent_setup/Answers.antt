-- `cabi::calls::xrce_agent_setup` meets its contract.
use Rattle.std.proofs.Common.{refl, rules, tests}
use Rattle.agent.specs.Lent.{lent}
use Rattle.cabi.proofs.Left.{set_up_done, set_up_refused}
use Rattle.cabi.proofs.calls.xrce_agent_setup.Goals as goal

pub returns-then-is_empty : goal.returns-then-is_empty
returns-then-is_empty c =
    let a = c.args in
    let t = lent a.sessions.now a.streams.now a.objects.now a.held.now a.parts.now a.lengths.now a.rebuilt.now in
    let e = set_up_refused a.agent.now t a.hours.now a.windows.now a.max_clients a.timeout_ms (search (rules, tests)) in
    rw e (c.refused_as.ensures, refl, refl, refl, refl, refl)

pub returns : goal.returns
returns c =
    let a = c.args in
    let t = lent a.sessions.now a.streams.now a.objects.now a.held.now a.parts.now a.lengths.now a.rebuilt.now in
    let e = set_up_done a.agent.now t a.hours.now a.windows.now a.max_clients a.timeout_ms (search (rules, tests)) in
    let s = c.setup-s.ensures in
    rw (e, ← s.0) (c.told_ready.ensures.0, c.told_ready.ensures.1, s.1, s.2, s.3, s.4)
