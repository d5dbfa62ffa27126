-- `agent::perform::perform_plain` meets its contract.
use Rattle.std.proofs.Common.{rules}
use Rattle.agent.specs.Stores.{stores_of}
use Rattle.agent.proofs.Resumed.{none_begun, plain_behind}
use Rattle.agent.proofs.perform.perform_plain.Goals as goal
use Rattle.agent.proofs.perform.perform_plain.Goals.{in-Some, in-None}

pub returns : goal.returns
returns c =
    let a = c.args in
    let t = stores_of a.stores.now in
    let x = c.lead-l.ensures in
    rw (x.0, x.1, x.2, x.3, x.4, c.behind-first.ensures)
    (elim c.match-start.branch [
      | in-Some w ↦
          let b = w.begin-wrote.ensures in
          let all = plain_behind a.start t a.sample.now a.out.now _ _ _ (record { wrote = b.wrote; stores = b.stores; written = b.out }) a.d.now in
          rw (w.stores-is, w.out-is, w.wrote-is) (record { ran = all.0; stores = all.1; out = all.2; places = search rules })
      | in-None w ↦
          let all = plain_behind a.start t a.sample.now a.out.now _ _ _ (none_begun a.start t a.sample.now a.out.now w.in-None.is) a.d.now in
          rw (w.stores-is, w.out-is, w.wrote-is) (record { ran = all.0; stores = all.1; out = all.2; places = search rules })
    ])
