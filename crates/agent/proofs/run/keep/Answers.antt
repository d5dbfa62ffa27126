-- `agent::run::keep` meets its contract.
use Rattle.agent.specs.Run.{put_replies}
use Rattle.agent.proofs.run.keep.Goals as goal

pub returns-in-None-clause-out : goal.returns-in-None-clause-out
unfolding put_replies
returns-in-None-clause-out c = rw c.in-None.is
