-- `codec::bytes::put_bytes` meets its contract.
use mathlib.Core.Path.{◌∙◌}
use Rattle.codec.proofs.bytes.Laws.{put_short, put_fits, fits_yes, fits_no}
use Rattle.codec.proofs.bytes.put_bytes.Goals as goal

pub copy_in-requires : goal.copy_in-requires
copy_in-requires c = fits_yes _ _ _ c.fits.ensures c.if-fits.true

pub returns-then-fits : goal.returns-then-fits
returns-then-fits c =
    let a = c.args in
    let f = put_fits a.out.now a.at a.src.now (fits_yes _ _ _ c.fits.ensures c.if-fits.true) in
    (f.0, c.copy_in.ensures ∙ f.1)

pub returns : goal.returns
returns c = put_short _ _ _ (fits_no _ _ _ c.fits.ensures c.if-fits.false)
