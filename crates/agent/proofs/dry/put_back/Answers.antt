-- `agent::dry::put_back` meets its contract.
use Rattle.std.proofs.Common.{◌+◌, ap, ◌∙◌, arith}
use lib.ListN.{set}
use Rattle.std.proofs.lemmas.List.Edits.{paste_more}
use Rattle.agent.proofs.dry.put_back.Goals as goal

pub loop-i-preserved : goal.loop-i-preserved
loop-i-preserved g c =
    let a = c.args in
    let l = c.loop-i in
    ap (λ v. set l.store (a.b.start + l.i) v) c.index-line-i.is ∙ rw l.invariant (paste_more a.store.now a.b.start a.line.now l.i c.index-line-i.result (omega arith) (omega arith))
