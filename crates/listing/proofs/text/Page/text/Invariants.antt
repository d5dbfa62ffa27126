-- `listing::text::Page::text` meets its contract. The invariant: the bytes so far are there.
use Rattle.std.proofs.Common.{take}
use Rattle.listing.specs.Text.{Adds}
use Rattle.listing.proofs.text.Page.text.Given as goal

abbrev pub invariant-loop-b : goal.invariant-loop-b
invariant-loop-b l = Adds l.initial.self (take l.b-index l.text) l.self
