-- `agent::dry::keep` meets its contract.
use Rattle.std.proofs.Common.{◌≡◌, ◌+◌, ℕ, ap, sym, ◌∙◌, arith, drop, length-drop}
use lib.ListN.{set, get_or}
use Rattle.std.proofs.Math.Seq.{paste}
use Rattle.std.proofs.lemmas.List.{get_or-drop}
use Rattle.std.proofs.lemmas.List.Edits.{paste_more}
use Rattle.agent.proofs.dry.keep.Goals as goal

pub loop-i-preserved : goal.loop-i-preserved
loop-i-preserved g c =
    let a = c.args in
    let l = c.loop-i in
    let x = c.index-store-b.result in
    let from = drop a.b.start a.store.now in
    let here : 0 + l.i ≡ l.i = omega arith in
    let more = paste_more a.line.now 0 from l.i x (omega arith) (omega (arith, length-drop a.b.start a.store.now)) in
    ap (λ v. set l.line l.i v) (c.index-store-b.is ∙ sym (get_or-drop a.b.start a.store.now l.i x))
    ∙ rw l.invariant (ap (λ (k : ℕ). set (paste a.line.now 0 from l.i) k (get_or from l.i x)) (sym here) ∙ more)
