-- `listing::text::Page::decimal` meets its contract: the library's digits are those of the listing.
use Rattle.listing.proofs.Decimal.{decimal_same}
use Rattle.listing.proofs.text.Page.decimal.Goals as goal

pub returns : goal.returns
returns c = rw (decimal_same c.args.n c.ranges.n.fits, ← c.format.ensures.text, ← c.as_bytes.ensures.value) c.text.ensures
