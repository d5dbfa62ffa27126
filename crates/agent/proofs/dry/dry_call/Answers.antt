-- `agent::dry::dry_call` meets its contract.
use Rattle.std.proofs.Common.{ap, ◌∙◌, rules}
use Rattle.sessions.specs.View.{Tables}
use Rattle.agent.specs.Stores.{stores_of}
use Rattle.agent.proofs.Resumed.{began_by, began_entered, rest_wrote, rest_kept}
use Rattle.agent.proofs.dry.dry_call.Goals as goal

pub dry_run-requires : goal.dry_run-requires
dry_run-requires c =
    let a = c.args in
    let t = stores_of a.stores.now in
    let r = c.resume-r.ensures in
    let l = c.lead-l.ensures in
    let k = began_by a.start t a.d.now a.sample.now c.resume-r.result (stores_of c.resume-r.new.stores) r.ran r.stores in
    record {
      room = c.requires.prepared.room_counts;
      rebuilt_long = rw (ap (λ (z : Tables). z.rebuilt) r.stores) c.requires.rebuilt_long;
      entered = rw (l.0, l.1, k.0, ap (λ (z : Tables). z.sessions) k.1) (began_entered a.start t a.d.now a.sample.now);
    }

pub returns : goal.returns
returns c =
    let a = c.args in
    let t = stores_of a.stores.now in
    let r = c.resume-r.ensures in
    let l = c.lead-l.ensures in
    let u = stores_of c.resume-r.new.stores in
    let n = rw (l.0, l.1, l.2, l.3) at c.dry_run.ensures in
    record {
      wrote = n.wrote ∙ rest_wrote a.start t a.d.now a.sample.now c.resume-r.result u r.ran r.stores;
      stores = rest_kept a.start t a.d.now a.sample.now c.resume-r.result u r.ran r.stores (stores_of c.dry_run.new.stores) n.stores;
      places = search rules;
    }
