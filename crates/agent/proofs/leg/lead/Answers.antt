-- `agent::leg::lead` meets its contract.
use mathlib.Core.Path.{sym, ◌∙◌}
use Rattle.moves.specs.Rows.{rows}
use Rattle.agent.proofs.Loops.{left_start, left_again, left_less}
use Rattle.agent.proofs.Legs.{staged, leg_steps, lead_done}
use Rattle.agent.proofs.leg.lead.Goals as goal

pub loop-f-init : goal.loop-f-init
loop-f-init c =
    let a = c.args in
    rw c.plain-l.ensures (left_start (leg_steps a.m a.f a.held.now a.s.now) a.start (staged (rows a.sessions.now a.streams.now a.objects.now)) a.out.now)

pub loop-f-smaller : goal.loop-f-smaller
loop-f-smaller c =
    let a = c.args in
    let l = c.loop-f in
    let e = sym c.leads_on.ensures ∙ c.loop-f-test.true in
    rw c.turn-l.ensures.0
    (left_less (leg_steps a.m a.f a.held.now a.s.now) a.start (staged (rows a.sessions.now a.streams.now a.objects.now)) a.out.now
    l.l.ran (record { rows = rows l.sessions l.streams l.objects; found = l.l.found }) l.out l.invariant e)

pub loop-f-preserved : goal.loop-f-preserved
loop-f-preserved c =
    let a = c.args in
    let l = c.loop-f in
    let e = sym c.leads_on.ensures ∙ c.loop-f-test.true in
    rw (c.turn-l.ensures.0, c.turn-l.ensures.1, c.turn-l.ensures.2, c.turn-l.ensures.3, c.turn-l.ensures.4)
    (left_again (leg_steps a.m a.f a.held.now a.s.now) a.start (staged (rows a.sessions.now a.streams.now a.objects.now)) a.out.now
    l.l.ran (record { rows = rows l.sessions l.streams l.objects; found = l.l.found }) l.out l.invariant e)

pub returns : goal.returns
returns c =
    let a = c.args in
    let l = c.loop-f in
    lead_done a.m a.f a.held.now a.s.now a.start (rows a.sessions.now a.streams.now a.objects.now) a.out.now l.l (rows l.sessions l.streams l.objects) l.out l.invariant
    (sym c.leads_on.ensures ∙ c.loop-f-test.false)
