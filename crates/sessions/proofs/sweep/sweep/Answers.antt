-- `sessions::sweep::sweep` meets its contract.
use Rattle.std.proofs.Common.{◌-◌, ap, refl, ◌∙◌, arith, length}
use Rattle.sessions.proofs.sweep.Laws.{count_none, swept_turn, listed_turn, left_turn, at_turn, first_passed, sweep_done}
use Rattle.sessions.specs.Sweep.{goes}
use Rattle.sessions.proofs.sweep.sweep.Goals as goal

pub loop-i-init : goal.loop-i-init
loop-i-init c = let a = c.args in
    let p = c.requires in
    let f = first_passed a.time a.timeout_ms a.sessions.now a.gone.first p.2 p.3 p.4 in
    (p.2, omega (arith, ap length f.0), f.1, rw f.0 refl)

pub loop-i-preserved : goal.loop-i-preserved
loop-i-preserved c = let a = c.args in
    let l = c.loop-i in
    let o = c.sweep_one-at in
    let e = o.ensures in
    let i< = c.loop-i-test.true in (
      at_turn a.time a.timeout_ms l.sessions l.i l.at i< l.out o.new.sessions o.new.out o.result e.0 e.1 e.2 l.invariant.0,
      left_turn a.time a.timeout_ms l.sessions l.i l.at i< l.out o.new.sessions o.new.out o.result e.0 e.1 e.2 ∙ l.invariant.1,
      swept_turn a.time a.timeout_ms l.sessions l.i l.at i< l.out o.new.sessions o.new.out o.result e.0 e.1 e.2 ∙ l.invariant.2,
      listed_turn a.time a.timeout_ms l.sessions l.i l.at i< l.out o.new.sessions o.new.out o.result e.0 e.1 e.2 ∙ l.invariant.3,
    )

pub returns-then-at-gone : goal.returns-then-at-gone
returns-then-at-gone c = let a = c.args in
    let l = c.loop-i in
    sweep_done a.time a.timeout_ms a.sessions.now a.out.now (omega arith) l.sessions l.out l.i l.at (omega arith) l.invariant.2 l.invariant.3

pub returns-after-loop-i : goal.returns-after-loop-i
returns-after-loop-i c = let a = c.args in
    let l = c.loop-i in
    let none = count_none (goes l.sessions a.time a.timeout_ms) l.i (256 - l.i) (omega arith) in
    sweep_done a.time a.timeout_ms a.sessions.now a.out.now (omega arith) l.sessions l.out l.i l.at none l.invariant.2 l.invariant.3
