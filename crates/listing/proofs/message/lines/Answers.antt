-- `listing::message::lines` meets its contract: what is measured first decides whether the lines are written.
use mathlib.Core.Path.{refl}
use native.Mathlib.Omega.{arith}
use Rattle.listing.proofs.text.Laws.{put_length, text_short, text_fits}
use Rattle.listing.proofs.message.lines.Goals as goal

pub returns-then-out-end-clause-says : goal.returns-then-out-end-clause-says
returns-then-out-end-clause-says c =
    let measured = c.put_lines-end.ensures in
    text_short _ _ _ _ _ measured refl (omega (arith, put_length measured))

pub returns-clause-says : goal.returns-clause-says
returns-clause-says c =
    let measured = c.put_lines-end.ensures in
    text_fits _ _ _ _ _ measured refl (omega (arith, put_length measured)) _ _ c.put_lines.ensures
