-- `sessions::opening::free_id` meets its contract.
use Rattle.std.proofs.Common.{ℕ, Bool, true, false, cond, ◌≡◌, ◌<◌, ◌+◌, ◌-◌, refl, ◌∙◌, arith}
use lib.Dec.{eqb}
use Rattle.sessions.specs.Opening.{after, free_of}
use Rattle.sessions.proofs.opening.Laws.{free_hit, free_miss, free_none}
use Rattle.sessions.proofs.opening.free_id.Goals as goal

pub loop-init : goal.loop-init
unfolding free_of
loop-init c = record { same = refl; above = c.requires }

pub returns-then-session_at-eq0-clause-is : goal.returns-then-session_at-eq0-clause-is
returns-then-session_at-eq0-clause-is c = let l = c.loop in
    let s = c.session_at in
    free_hit c.args.sessions.now l.id (255 - l.counter) s.result (omega arith) s.ensures c.if-session_at-eq0.true ∙ l.invariant.same

-- after no id comes 0
above : (id next : ℕ) → 0 < id → next ≡ after id → 0 < next
above id next h e = rw e (by (eqb id 255))
  where
    by : (b : Bool) → 0 < cond b 1 (id + 1)
    by true = omega arith
    by false = omega arith

pub loop-preserved : goal.loop-preserved
loop-preserved c = let l = c.loop in
    let s = c.session_at in
    let less : 255 - (l.counter + 1) ≡ 255 - l.counter - 1 = omega arith in record {
      same = rw (c.after_id-id.ensures, less) (free_miss c.args.sessions.now l.id (255 - l.counter) s.result (omega arith) s.ensures c.if-session_at-eq0.false) ∙ l.invariant.same;
      above = above l.id _ l.invariant.above c.after_id-id.ensures;
    }

pub returns-clause-is : goal.returns-clause-is
returns-clause-is c = let l = c.loop in
    free_none c.args.sessions.now l.id (255 - l.counter) (omega arith) ∙ l.invariant.same
