-- `agent::turn::take_apart` meets its contract.
use Rattle.agent.proofs.turn.take_apart.Goals as goal

pub returns-in-Ok : goal.returns-in-Ok
returns-in-Ok c = rw (c.in-Ok.is, c.asks.ensures)

pub returns-in-Err : goal.returns-in-Err
returns-in-Err c = rw (c.in-Err.is, c.blank.ensures)
