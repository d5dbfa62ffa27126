-- `agent::turn::stop_of` meets its contract.
use Rattle.agent.proofs.turn.stop_of.Goals as goal

pub returns-in-Calls : goal.returns-in-Calls
returns-in-Calls c = rw c.in-Calls.is
