-- `agent::process::decide` meets its contract.
use Rattle.std.proofs.Common.{length, sym, ap, ◌∙◌, arith, rules}
use Rattle.agent.specs.Host.{Leaves}
use Rattle.agent.specs.Stores.{stores_of}
use Rattle.agent.proofs.Judged.{judged_goes}
use Rattle.agent.proofs.Thirteen.{thirteen, process_by}
use Rattle.agent.proofs.process.decide.Goals as goal

pub go-requires : goal.go-requires
go-requires c =
    let a = c.args in
    let t = stores_of a.stores.now in
    let s = c.in-Ok.start in
    let n = c.in-Ok.n in
    let k = judged_goes t a.hours.now a.d.now a.agent a.given (length a.sample.now) (length a.out.now) a.input s n (sym c.in-Ok.ensures) in
    record {
      prepared = record { sample_fits = k.sample_fits; room_counts = omega (arith, k.room_is) };
      room = k.room_is;
      thirteen = thirteen t a.d.now a.sample.now s n (length a.out.now) k;
      long = record { sessions_long = k.sessions_long; streams_long = k.streams_long; objects_long = k.objects_long; rebuilt_long = k.rebuilt_long };
    }

pub returns-in-Ok : goal.returns-in-Ok
returns-in-Ok c =
    let a = c.args in
    let g = c.go.ensures in
    let all = process_by a.agent (stores_of a.stores.now) a.hours.now a.out.now a.d.now a.sample.now a.input a.given _ (sym c.in-Ok.ensures) in
    record {
      processed = g.processed ∙ ap (λ (l : Leaves). l.processed) all;
      stores = g.stores ∙ ap (λ (l : Leaves). l.tables) all;
      out = g.out ∙ ap (λ (l : Leaves). l.out) all;
      places = search rules;
    }

pub returns-in-Err : goal.returns-in-Err
returns-in-Err c =
    let a = c.args in
    let all = process_by a.agent (stores_of a.stores.now) a.hours.now a.out.now a.d.now a.sample.now a.input a.given _ (sym c.in-Err.ensures) in
    record {
      processed = c.refused.ensures ∙ ap (λ (l : Leaves). l.processed) all;
      stores = ap (λ (l : Leaves). l.tables) all;
      out = ap (λ (l : Leaves). l.out) all;
      places = search rules;
    }
