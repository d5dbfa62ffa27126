-- `agent::repeats::answer` meets its contract.
use mathlib.Core.Path.{◌∙◌}
use Rattle.agent.proofs.Written.{status_answered, acknack_answered, unanswered}
use Rattle.agent.proofs.repeats.answer.Goals as goal

pub returns-in-Greets : goal.returns-in-Greets
returns-in-Greets c = let a = c.args in unanswered a.f a.sessions.now a.streams.now a.held.now a.out.now a.at a.m (rw c.in-Greets.is)

pub returns-in-Status : goal.returns-in-Status
returns-in-Status c =
    let a = c.args in
    let one = status_answered a.f a.sessions.now a.streams.now a.held.now a.out.now a.at a.m _ _ c.in-Status.is in
    (c.count.ensures ∙ one.0, c.put_status.ensures ∙ one.1)

pub returns-in-Acknack : goal.returns-in-Acknack
returns-in-Acknack c =
    let a = c.args in
    let one = acknack_answered a.f a.sessions.now a.streams.now a.held.now a.out.now a.at a.m _ c.in-Acknack.is in
    (c.count-in-Acknack.ensures ∙ one.0, c.put_acknack.ensures ∙ one.1)

pub returns-in-Repeats : goal.returns-in-Repeats
returns-in-Repeats c = rw c.in-Repeats.is c.repeat.ensures

pub returns-in-Calls : goal.returns-in-Calls
returns-in-Calls c = let a = c.args in unanswered a.f a.sessions.now a.streams.now a.held.now a.out.now a.at a.m (rw c.in-Calls.is)

pub returns-in-Silent : goal.returns-in-Silent
returns-in-Silent c = let a = c.args in unanswered a.f a.sessions.now a.streams.now a.held.now a.out.now a.at a.m (rw c.in-Silent.is)
