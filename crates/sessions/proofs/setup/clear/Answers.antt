-- `sessions::setup::clear` meets its contract.
use Rattle.std.proofs.Common.{List, ap, ◌∙◌, arith, ◌≡◌, ℕ}
use lib.ListN.{set, drop, take}
use lib.Seq.{length-take-le}
use mathlib.Core.List.{◌++◌}
use Rattle.sessions.specs.Setup.{cleared}
use Rattle.sessions.proofs.setup.Laws.{cleared_more, cleared_part}
use Rattle.sessions.proofs.setup.clear.Goals as goal

pub loop-record-preserved : goal.loop-record-preserved
loop-record-preserved g c = let l = c.loop-record in
    ap (λ (s : List g.row.T.Denot). set s l.record-index c.args.nothing) l.invariant
    ∙ cleared_more c.args.nothing l.record-index (take c.args.n c.args.store.now) (omega arith)

pub returns : goal.returns
returns g c = let l = c.loop-record in
    let e : l.record-index ≡ c.args.n = let t = length-take-le c.args.n c.args.store.now c.requires in omega arith in
    ap (λ (s : List g.row.T.Denot). s ++ drop c.args.n c.args.store.now)
    (l.invariant ∙ ap (λ (i : ℕ). cleared i c.args.nothing (take c.args.n c.args.store.now)) e)
    ∙ cleared_part c.args.nothing c.args.n c.args.store.now
