-- `agent::dry::dry` meets its contract.
use Rattle.std.proofs.Common.{ℕ, ◌+◌, ◌-◌, ◌*◌, replicate, ap, ◌∙◌, arith, rules}
use Rattle.sessions.specs.View.{Tables}
use Rattle.agent.specs.Stores.{stores_of}
use Rattle.agent.proofs.Back.{again_by}
use Rattle.agent.proofs.Frame.{sessions_back, sessions_long, streams_back, streams_long, objects_back, objects_long, buffer_back, held_long}
use Rattle.agent.proofs.dry.dry.Goals as goal

pub put_back-requires : goal.put_back-requires
put_back-requires c =
    let a = c.args in
    let left = ap (λ (z : Tables). z.sessions) c.dry_call-n.ensures.stores in
    let long = sessions_long a.start (omega arith) (omega arith) (stores_of a.stores.now) a.d.now a.sample.now c.requires.long.sessions_long in
    (omega arith, rw left long, omega arith)

pub put_streams_back-requires : goal.put_streams_back-requires
put_streams_back-requires c =
    let a = c.args in
    let left = ap (λ (z : Tables). z.streams) c.dry_call-n.ensures.stores in
    let long = streams_long a.start (omega arith) (omega arith) (stores_of a.stores.now) a.d.now a.sample.now c.requires.long.streams_long in
    (omega arith, rw left long)

pub put_back-requires-2 : goal.put_back-requires-2
put_back-requires-2 c =
    let a = c.args in
    let left = ap (λ (z : Tables). z.objects) c.dry_call-n.ensures.stores in
    let long = objects_long a.start (omega arith) (omega arith) (stores_of a.stores.now) a.d.now a.sample.now c.requires.long.objects_long in
    (omega arith, rw (left, c.from-first.ensures) long, omega arith)

pub put_back-requires-3 : goal.put_back-requires-3
put_back-requires-3 c =
    let a = c.args in
    let e = c.buffer_stretch-b.ensures in
    let left = ap (λ (z : Tables). z.held) c.dry_call-n.ensures.stores in
    let long = held_long a.start (stores_of a.stores.now) a.d.now a.sample.now (rw e.0 at e.1) (rw e.0 at e.2) in
    (e.1, rw left (omega (arith, long, e.2)), omega (arith, e.3))

pub returns : goal.returns
returns c =
    let a = c.args in
    let s = a.start in
    let t = stores_of a.stores.now in
    let d = a.d.now in
    let p = a.sample.now in
    let n = c.dry_call-n.ensures in
    let e = c.buffer_stretch-b.ensures in
    let first = 32 * c.from-first.result in
    let b = c.buffer_stretch-b.result in
    let own_sessions = sessions_back s (omega arith) (omega arith) t d p (replicate 256 (replicate 8 0)) c.requires.long.sessions_long in
    let sessions = again_by (replicate 256 (replicate 8 0)) t.sessions _ _ _ _ 0 256 c.keep.ensures (ap (λ (z : Tables). z.sessions) n.stores) c.put_back.ensures own_sessions in
    let own_streams = streams_back s (omega arith) (omega arith) t d p (replicate 264 (replicate 35 0)) (omega arith) in
    let streams = rw (c.keep_streams.ensures, ap (λ (z : Tables). z.streams) n.stores) at c.put_streams_back.ensures in
    let own_objects = objects_back s (omega arith) (omega arith) t d p _ first (first + 32 - first) (ap (λ (k : ℕ). 32 * k) c.from-first.ensures) (omega arith) c.requires.long.objects_long in
    let objects = again_by _ t.objects _ _ _ _ first (first + 32 - first) c.keep-2.ensures (ap (λ (z : Tables). z.objects) n.stores) c.put_back-2.ensures own_objects in
    let own_held = buffer_back s t d p (rw e.0 at e.1) (rw e.0 at e.2) (replicate 32768 0) in
    let held = again_by (replicate 32768 0) t.held _ _ _ _ b.start (b.end - b.start) c.keep-3.ensures (ap (λ (z : Tables). z.held) n.stores) c.put_back-3.ensures (rw (← e.0) at own_held) in
    record {
      wrote = n.wrote;
      stores = λ i. record (n.stores i) { sessions = sessions i; streams = (streams ∙ own_streams) i; objects = objects i; held = held i };
      places = search rules;
    }
