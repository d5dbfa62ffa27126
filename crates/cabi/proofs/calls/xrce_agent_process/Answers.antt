-- `cabi::calls::xrce_agent_process` meets its contract.
use Rattle.std.proofs.Common.{refl}
use Rattle.agent.specs.Lent.{lent}
use Rattle.cabi.proofs.Left.{process_called, process_not_called}
use Rattle.cabi.proofs.calls.xrce_agent_process.Goals as goal

pub returns-in-Ok : goal.returns-in-Ok
returns-in-Ok c =
    let a = c.args in
    let t = lent a.sessions.now a.streams.now a.objects.now a.held.now a.parts.now a.lengths.now a.rebuilt.now in
    let e = process_called a.agent.now t a.hours.now a.out.now a.datagram.now a.sample.now a.input a.time a.day a.minute a.handle c.in-Ok.a c.in-Ok.i cc in
    rw (e, ← c.process-p.ensures.0) (c.told.ensures.0, c.told.ensures.1, c.process-p.ensures.1, c.process-p.ensures.2, c.process-p.ensures.3, c.process-p.ensures.4, c.process-p.ensures.5, c.process-p.ensures.6, c.process-p.ensures.7, c.process-p.ensures.8)

pub returns-in-Err : goal.returns-in-Err
returns-in-Err c =
    let a = c.args in
    let t = lent a.sessions.now a.streams.now a.objects.now a.held.now a.parts.now a.lengths.now a.rebuilt.now in
    let e = process_not_called a.agent.now t a.hours.now a.out.now a.datagram.now a.sample.now a.input a.time a.day a.minute a.handle c.in-Err.x cc in
    rw e (c.refused_as.ensures, refl, refl, refl, refl, refl, refl, refl, refl, refl)
