-- `sessions::opening::live_count` meets its contract.
use Rattle.std.proofs.Common.{List, ℕ, ap, not, ◌∙◌}
use Rattle.std.specs.Prelude.{count_by, eqb, get_or, take, drop}
use Rattle.std.proofs.lemmas.List.{take_all}
use Rattle.sessions.proofs.opening.Laws.{live_counted}
use Rattle.sessions.proofs.opening.live_count.Goals as goal

pub returns : goal.returns
returns c = let rows = c.args.sessions.now in
    c.loop-row.invariant.counted
    ∙ ap (count_by (λ (r : List ℕ). not (eqb (get_or r 0 0) 0))) (take_all c.loop-row.row-index (take 255 (drop 1 rows)) c.loop-row-test.false)
    ∙ live_counted rows c.requires
