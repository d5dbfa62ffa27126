-- `agent::run::run` meets its contract.
use mathlib.Core.Path.{sym, ◌∙◌}
use Rattle.std.proofs.Common.{rules}
use Rattle.agent.specs.Stores.{stores_of}
use Rattle.agent.proofs.Loops.{left_less, left_end}
use Rattle.agent.proofs.Legs.{run_steps, run_again}
use Rattle.agent.proofs.run.run.Goals as goal

pub loop-f-smaller : goal.loop-f-smaller
loop-f-smaller c =
    let a = c.args in
    let l = c.loop-f in
    let x = c.lead-l.ensures in
    rw (c.keep-r.ensures.ran, x.0, x.1, x.2, x.3)
    (left_less (run_steps a.f a.d.now) a.start (stores_of a.stores.now) a.out.now l.r (stores_of l.stores) l.out l.invariant.0 (sym c.goes_on.ensures ∙ c.loop-f-test.true))

pub loop-f-preserved : goal.loop-f-preserved
loop-f-preserved c =
    let a = c.args in
    let l = c.loop-f in
    let x = c.lead-l.ensures in
    let k = c.keep-r.ensures in
    let again = run_again a.f a.d.now a.start (stores_of a.stores.now) a.out.now l.r (stores_of l.stores) l.out l.invariant.0 (sym c.goes_on.ensures ∙ c.loop-f-test.true) in
    (rw (k.ran, k.stores, k.out, x.0, x.1, x.2, x.3, x.4) again, search rules)

pub returns : goal.returns
returns c =
    let a = c.args in
    let l = c.loop-f in
    let all = left_end (run_steps a.f a.d.now) a.start (stores_of a.stores.now) a.out.now l.r (stores_of l.stores) l.out l.invariant.0 (sym c.goes_on.ensures ∙ c.loop-f-test.false) in
    record { ran = all.0; stores = all.1; out = all.2; places = l.invariant.1 }
