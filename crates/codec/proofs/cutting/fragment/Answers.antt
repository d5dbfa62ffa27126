-- `codec::cutting::fragment` meets its contract: 7, 8, 9, then 10, then 13, then the k-th fragment.
use mathlib.Core.Path.{◌≡◌, ◌∙◌, sym}
use native.Mathlib.Omega.{arith}
use Rattle.std.specs.Prelude.{Err}
use Rattle.codec.proofs.cutting.Laws.{count_tells, fragment_starts, fragment_refused, fragment_past, fragment_there}
use Rattle.codec.proofs.cutting.fragment.Goals as goal

pub returns-in_err-total : goal.returns-in_err-total
returns-in_err-total c =
    let passed : c.from_residual.result ≡ Err c.in_err-total.field-0.0 = grind arith in
    rw passed (fragment_refused _ _ _ _ _ (sym c.fragment_count.ensures ∙ c.in_err-total.was))

pub returns-then-total-k : goal.returns-then-total-k
returns-then-total-k c = fragment_past _ _ _ _ _ (sym c.fragment_count.ensures ∙ c.in_ok-total.was) c.if-total-k.true

pub body_of-requires : goal.body_of-requires
body_of-requires c =
    let a = c.args in
    let t = count_tells a.max_payload a.payload.now _ (sym c.fragment_count.ensures ∙ c.in_ok-total.was) in
    fragment_starts a.max_payload t.0 a.payload.now a.k t.1 (omega (arith, c.if-total-k.false))

pub returns : goal.returns
returns c =
    let n = sym c.fragment_count.ensures ∙ c.in_ok-total.was in
    let f = fragment_there _ _ _ _ _ n c.if-total-k.false in
    let p = c.put_with.ensures in
    let b = c.body_of.ensures in
    (rw b at p.0 ∙ f.0, rw b at p.1 ∙ f.1)
