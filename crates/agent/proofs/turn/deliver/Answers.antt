-- `agent::turn::deliver` meets its contract.
use mathlib.Core.Path.{◌≡◌, refl, sym, ap, ◌∙◌}
use mathlib.Core.Bool.{false}
use Rattle.sessions.specs.Table.{named_of}
use Rattle.agent.specs.Run.{put_replies, is_live}
use Rattle.agent.proofs.turn.deliver.Goals as goal

pub returns-else-is_live : goal.returns-else-is_live
unfolding put_replies
returns-else-is_live c =
    let e : is_live (named_of c.args.sessions.now c.args.f.session_id) ≡ false = ap is_live (sym c.touch-named.ensures.0) ∙ (sym c.is_live.ensures ∙ c.if-is_live.false) in
    rw (c.passed.ensures, c.touch-named.ensures.1, e) (refl, refl, refl, refl, refl)
