-- `agent::dry::dry_run` meets its contract.
use Rattle.std.proofs.Common.{◌-◌, replicate, ap, arith, rules}
use Rattle.sessions.specs.View.{Tables}
use Rattle.agent.specs.Stores.{stores_of}
use Rattle.agent.specs.declared.turn.Ran.{Ran}
use Rattle.agent.proofs.Back.{again_by}
use Rattle.agent.proofs.Frame.{rebuilt_back, rebuilt_long, parts_back, parts_long, lengths_back, lengths_long}
use Rattle.agent.proofs.dry.dry_run.Goals as goal

pub put_back-requires : goal.put_back-requires
put_back-requires c =
    let a = c.args in
    let left = ap (λ (z : Tables). z.rebuilt) c.run-ran.ensures.stores in
    let long = rebuilt_long a.f (omega arith) a.d.now a.start (stores_of a.stores.now) in
    (omega arith, rw left (omega (arith, long, c.requires.rebuilt_long)), omega arith)

pub put_back-requires-2 : goal.put_back-requires-2
put_back-requires-2 c =
    let a = c.args in
    let l = c.lengths_stretch-l.ensures in
    let left = ap (λ (z : Tables). z.lengths) c.run-ran.ensures.stores in
    let long = lengths_long a.f (omega arith) a.d.now a.start (stores_of a.stores.now) (omega arith) c.requires.entered in
    (l.1, rw left (omega (arith, long, l.2)), omega (arith, l.3))

pub put_back-requires-3 : goal.put_back-requires-3
put_back-requires-3 c =
    let a = c.args in
    let b = c.parts_stretch-b.ensures in
    let left = ap (λ (z : Tables). z.parts) c.run-ran.ensures.stores in
    let long = parts_long a.f (omega arith) a.d.now a.start (stores_of a.stores.now) (omega arith) c.requires.entered in
    (b.1, rw left (omega (arith, long, b.2)), omega (arith, b.3))

pub returns : goal.returns
returns c =
    let a = c.args in
    let t = stores_of a.stores.now in
    let r = c.run-ran.ensures in
    let b = c.parts_stretch-b in
    let l = c.lengths_stretch-l in
    let own_rebuilt = rebuilt_back a.f (omega arith) a.d.now a.start t (replicate 32768 0) c.requires.rebuilt_long in
    let rebuilt = again_by (replicate 32768 0) t.rebuilt _ _ _ _ 0 32768 c.keep-3.ensures (ap (λ (z : Tables). z.rebuilt) r.stores) c.put_back.ensures own_rebuilt in
    let own_lengths = lengths_back a.f (omega arith) a.d.now a.start t (omega arith) c.requires.entered (replicate 64 0) l.result l.ensures.0 l.ensures.1 l.ensures.2 in
    let lengths = again_by (replicate 64 0) t.lengths _ _ _ _ l.result.start (l.result.end - l.result.start) c.keep-2.ensures (ap (λ (z : Tables). z.lengths) r.stores) c.put_back-2.ensures own_lengths in
    let own_parts = parts_back a.f (omega arith) a.d.now a.start t (omega arith) c.requires.entered (replicate 32768 0) b.result b.ensures.0 b.ensures.1 b.ensures.2 in
    let parts = again_by (replicate 32768 0) t.parts _ _ _ _ b.result.start (b.result.end - b.result.start) c.keep.ensures (ap (λ (z : Tables). z.parts) r.stores) c.put_back-3.ensures own_parts in
    record {
      wrote = ap (λ (x : Ran). x.wrote) r.ran;
      stores = λ i. record (r.stores i) { parts = parts i; lengths = lengths i; rebuilt = rebuilt i };
      places = search rules;
    }
