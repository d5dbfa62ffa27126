-- `agent::agent::process_answer` meets its contract.
use Rattle.std.proofs.Common.{[], replicate}
use Rattle.agent.specs.Lent.{lent}
use Rattle.agent.proofs.agent.Laws.{any_hours}
use Rattle.agent.proofs.Thirteen.{same_leaves}
use Rattle.agent.proofs.agent.process_answer.Goals as goal

pub returns : goal.returns
returns c =
    let a = c.args in
    let t = lent a.sessions.now a.streams.now a.objects.now a.held.now a.parts.now a.lengths.now a.rebuilt.now in
    let p = c.process.ensures in
    rw (p.0, p.1, p.2, p.3, p.4, p.5, p.6, p.7, p.8)
    (same_leaves _ _ (any_hours a.agent t a.out.now a.datagram.now a.sample.now a.sample.now (replicate 2 0) [] a.answer (record { time = 0; day = 0; minute = 0 })))
