-- `agent::leg::has_entered` meets its contract.
use Rattle.agent.proofs.leg.has_entered.Goals as goal

pub returns-then-is_entering : goal.returns-then-is_entering
returns-then-is_entering c = rw (← c.is_entering.ensures, c.if-is_entering.true, ← c.live_at.ensures) c.is_live.ensures
