-- `sessions::limits::lengths_short` meets its contract.
use Rattle.std.proofs.Common.{Bool, ap, ◌+◌, ◌∙◌, arith}
use mathlib.Core.Bool.{◌||◌}
use Rattle.streams.specs.Places.{first_place}
use Rattle.sessions.proofs.limits.Laws.{long_at, within_from, within_step, within_end}
use Rattle.sessions.proofs.limits.lengths_short.Goals as goal

pub loop-length-preserved : goal.loop-length-preserved
loop-length-preserved c = let l = c.loop-length in
    let t = long_at c.args.lengths in
    ap (λ (b : Bool). within_from t (l.over || b) (l.length-index + 1)) c.over_long-over.ensures ∙ within_step t l.over l.length-index (omega arith) ∙ l.invariant

pub returns : goal.returns
unfolding first_place
returns c = let l = c.loop-length in
    within_end (long_at c.args.lengths) l.over l.length-index (omega arith) ∙ l.invariant
