-- `codec::writing::write_submessage` meets its contract: 12, then 13, then the write.
use Prim.Native.Nat.{◌+◌, ◌≤◌, ◌<◌}
use mathlib.Core.Path.{◌≡◌, ◌∙◌, sym, ap}
use native.Mathlib.Omega.{arith}
use lib.ListN.{length}
use Rattle.codec.specs.Writing.{payload_bytes, sub_bytes}
use Rattle.codec.proofs.bytes.Laws.{fits_yes, fits_no, write_over, write_short, write_fits}
use Rattle.codec.proofs.writing.Laws.{length_payload, length_sub}
use Rattle.codec.proofs.writing.write_submessage.Goals.{After-payload_len-len, Else-fits, Then-fits}
use Rattle.codec.proofs.writing.write_submessage.Goals as goal
use Rattle.std.specs.Prelude.{Ok}

-- the length that was computed is the payload's
sized : (c : After-payload_len-len) → c.payload_len-len.result ≡ length (payload_bytes c.args.m c.args.body.now)
sized c = c.payload_len-len.ensures ∙ sym (length_payload _ _)

roomy : (c : Then-fits) → c.args.at + (4 + c.payload_len-len.result) ≤ length c.args.out.now
roomy c = fits_yes _ _ _ c.fits.ensures c.if-fits.true

tight : (c : Else-fits) → length c.args.out.now < c.args.at + (4 + c.payload_len-len.result)
tight c = fits_no _ _ _ c.fits.ensures c.if-fits.false

pub returns-then-len-gt-MAX_PAYLOAD : goal.returns-then-len-gt-MAX_PAYLOAD
returns-then-len-gt-MAX_PAYLOAD c = write_over _ _ _ _ (rw (sized (goal.at.returns-then-len-gt-MAX_PAYLOAD c).After-payload_len-len) at c.if-len-gt-MAX_PAYLOAD.true)

pub put_submessage-requires : goal.put_submessage-requires
put_submessage-requires c = (sized (goal.at.put_submessage-requires c).After-payload_len-len, omega (arith, roomy (goal.at.put_submessage-requires c).Then-fits))

pub returns-then-fits : goal.returns-then-fits
returns-then-fits c =
    let a = c.args in
    let n = sized (goal.at.returns-then-fits c).After-payload_len-len in
    let whole = length_sub a.m a.body.now in
    let room = roomy (goal.at.returns-then-fits c).Then-fits in
    let f = write_fits (length (payload_bytes a.m a.body.now)) a.out.now a.at (sub_bytes a.m a.body.now) (omega (arith, n, c.if-len-gt-MAX_PAYLOAD.false)) (omega (arith, n, whole, room)) in
    let e : 4 + c.payload_len-len.result ≡ length (sub_bytes a.m a.body.now) = omega (arith, n, whole) in
    (ap (λ k. Ok k) e ∙ f.0, c.put_submessage.ensures ∙ f.1)

pub returns : goal.returns
returns c =
    let a = c.args in
    let n = sized (goal.at.returns c).After-payload_len-len in
    write_short (length (payload_bytes a.m a.body.now)) a.out.now a.at (sub_bytes a.m a.body.now) (rw n at c.if-len-gt-MAX_PAYLOAD.false) (omega (arith, n, length_sub a.m a.body.now, tight c))
