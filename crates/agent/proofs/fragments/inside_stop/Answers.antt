-- `agent::fragments::inside_stop` meets its contract.
use Rattle.agent.proofs.fragments.inside_stop.Goals as goal

pub returns-in-Call : goal.returns-in-Call
returns-in-Call c = rw c.in-Call.is

pub returns-in-Inside : goal.returns-in-Inside
returns-in-Inside c = rw c.in-Inside.is
