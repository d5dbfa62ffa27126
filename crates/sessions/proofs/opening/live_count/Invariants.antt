-- `n` of the rows before the index are live.
use Rattle.std.proofs.Common.{List, ℕ, not, ◌≡◌, ◌≤◌}
use Rattle.std.specs.Prelude.{count_by, eqb, get_or, take}
use Rattle.sessions.proofs.opening.live_count.Given as goal

abbrev pub invariant-loop-row : goal.invariant-loop-row
invariant-loop-row l = record { few : l.n ≤ l.row-index; counted : l.n ≡ count_by (λ (r : List ℕ). not (eqb (get_or r 0 0) 0)) (take l.row-index l.row-items) }
