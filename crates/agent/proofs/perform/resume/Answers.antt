-- `agent::perform::resume` meets its contract.
use Rattle.std.proofs.Common.{rules}
use Rattle.agent.specs.Stores.{stores_of}
use Rattle.agent.proofs.Resumed.{at_once, led_behind}
use Rattle.agent.proofs.perform.resume.Goals as goal

pub returns-then-start-end : goal.returns-then-start-end
returns-then-start-end c =
    let a = c.args in
    let b = c.begin-wrote.ensures in
    let all = at_once a.start (stores_of a.stores.now) a.sample.now a.out.now _ _ _ (record { wrote = b.wrote; stores = b.stores; written = b.out }) c.if-start-end.true in
    record { ran = rw c.behind.ensures all.0; stores = all.1; out = all.2; places = search rules }

pub returns : goal.returns
returns c =
    let a = c.args in
    let b = c.begin-wrote.ensures in
    let x = c.lead-y.ensures in
    let all = led_behind a.start (stores_of a.stores.now) a.sample.now a.out.now _ _ _ (record { wrote = b.wrote; stores = b.stores; written = b.out }) _ c.rebuilt_part-s.ensures in
    rw (c.left.ensures, x.0, x.1, x.2, x.3, x.4, c.first_ran-first.ensures) (record { ran = all.0; stores = all.1; out = all.2; places = search rules })
