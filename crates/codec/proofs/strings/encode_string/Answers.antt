-- `codec::strings::encode_string` meets its contract: 12, then 13, then the write.
use Prim.Native.Nat.{◌+◌, ◌≤◌}
use mathlib.Core.Path.{◌∙◌, ap, sym}
use native.Mathlib.Omega.{arith}
use lib.ListN.{length}
use Rattle.codec.specs.Strings.{string_bytes}
use Rattle.codec.proofs.bytes.Laws.{fits_yes, fits_no, write_over, write_short, write_fits}
use Rattle.codec.proofs.strings.Laws.{length_string, string_put}
use Rattle.codec.proofs.strings.encode_string.Goals.{Then-fits}
use Rattle.codec.proofs.strings.encode_string.Goals as goal
use Rattle.std.specs.Prelude.{Ok}

roomy : (c : Then-fits) → c.args.at + (2 + length c.args.text.now) ≤ length c.args.out.now
roomy c = fits_yes _ _ _ c.fits.ensures c.if-fits.true

pub returns-then-len-gt-MAX_PAYLOAD : goal.returns-then-len-gt-MAX_PAYLOAD
returns-then-len-gt-MAX_PAYLOAD c = write_over _ _ _ _ c.if-len-gt-MAX_PAYLOAD.true

pub put_word-requires : goal.put_word-requires
put_word-requires c = omega (arith, roomy (goal.at.put_word-requires c).Then-fits)

pub overflow_add-at : goal.overflow_add-at
overflow_add-at c = omega (arith, roomy (goal.at.overflow_add-at c).Then-fits)

pub copy_in-requires : goal.copy_in-requires
copy_in-requires c = omega (arith, c.put_word.auto.out, roomy (goal.at.copy_in-requires c).Then-fits)

pub returns-then-fits : goal.returns-then-fits
returns-then-fits c =
    let a = c.args in
    let text = a.text.now in
    let f = write_fits (length text) a.out.now a.at (string_bytes text) c.if-len-gt-MAX_PAYLOAD.false (omega (arith, length_string text, roomy (goal.at.returns-then-fits c).Then-fits)) in (
      ap (λ k. Ok k) (sym (length_string text)) ∙ f.0,
      c.copy_in.ensures ∙ rw c.put_word.ensures (string_put a.out.now a.at text (omega (arith, roomy (goal.at.returns-then-fits c).Then-fits))) ∙ f.1,
    )

pub returns : goal.returns
returns c =
    let a = c.args in
    let short = fits_no _ _ _ c.fits.ensures c.if-fits.false in
    write_short _ _ _ (string_bytes a.text.now) c.if-len-gt-MAX_PAYLOAD.false (rw (length_string a.text.now) short)
