-- `agent::dry::put_streams_back` meets its contract.
use Rattle.std.proofs.Common.{[]}
use Rattle.agent.specs.Dry.{same, stream_spot}
use Rattle.agent.proofs.Back.{restored_none, restored_more}
use Rattle.agent.proofs.dry.put_streams_back.Goals as goal

pub loop-k-init : goal.loop-k-init
loop-k-init c = let a = c.args in restored_none same [] (stream_spot a.id) a.rows.now a.streams.now

pub loop-k-preserved : goal.loop-k-preserved
loop-k-preserved c =
    let a = c.args in
    let e = restored_more same [] (stream_spot a.id) a.rows.now a.streams.now c.loop-k.k in
    cc
