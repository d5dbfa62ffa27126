-- `codec::header::MessageHeader::write` meets its contract.
use mathlib.Core.Path.{◌∙◌}
use Rattle.codec.specs.Bytes.{le16}
use Rattle.codec.specs.Header.{header_bytes}
use Rattle.codec.proofs.bytes.Laws.{put_short, put_fits, fits_yes, fits_no}
use Rattle.codec.proofs.header.MessageHeader.write.Goals as goal

pub put_head-requires : goal.put_head-requires
put_head-requires c = fits_yes _ _ _ c.fits.ensures c.if-fits.true

pub returns-then-fits : goal.returns-then-fits
unfolding header_bytes le16
returns-then-fits c =
    let a = c.args in
    let f = put_fits a.out.now a.at (header_bytes a.self) (fits_yes _ _ _ c.fits.ensures c.if-fits.true) in
    (f.0, c.put_head.ensures ∙ f.1)

pub returns : goal.returns
unfolding header_bytes le16
returns c = put_short _ _ _ (fits_no _ _ _ c.fits.ensures c.if-fits.false)
