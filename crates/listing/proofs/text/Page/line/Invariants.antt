-- `listing::text::Page::line` meets its contract. The invariant: the numbers so far stand behind the word.
use Rattle.std.proofs.Common.{take}
use Rattle.listing.specs.Text.{Adds}
use Rattle.listing.specs.Lines.{fields_of}
use Rattle.listing.proofs.text.Page.line.Given as goal

abbrev pub invariant-loop-n : goal.invariant-loop-n
invariant-loop-n l = Adds l.initial.self (fields_of (take l.n-index l.numbers)) l.self
