-- `agent::turn::settle` meets its contract.
use Rattle.agent.proofs.turn.settle.Goals as goal

pub returns : goal.returns
returns c = rw c.stop_of-stop.ensures
