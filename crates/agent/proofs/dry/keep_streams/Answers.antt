-- `agent::dry::keep_streams` meets its contract.
use Rattle.std.proofs.Common.{[]}
use Rattle.agent.specs.Dry.{same, stream_spot}
use Rattle.agent.proofs.Back.{copied_none, copied_more}
use Rattle.agent.proofs.dry.keep_streams.Goals as goal

pub loop-k-init : goal.loop-k-init
loop-k-init c = let a = c.args in copied_none same [] (stream_spot a.id) a.streams.now a.rows.now

pub loop-k-preserved : goal.loop-k-preserved
loop-k-preserved c =
    let a = c.args in
    let e = copied_more same [] (stream_spot a.id) a.streams.now a.rows.now c.loop-k.k in
    cc
