-- `agent::turn::greet` meets its contract.
use Rattle.agent.proofs.MoveBytes.{greeted_so}
use Rattle.agent.proofs.turn.greet.Goals as goal

pub returns : goal.returns
returns c =
    let a = c.args in
    let made = c.create_session-c in
    rw (← made.ensures.0) (rw (c.pointer.ensures, c.count-wrote.ensures) (greeted_so a.f a.r a.at made.result), made.ensures.1, made.ensures.2, c.put_greeting.ensures)
