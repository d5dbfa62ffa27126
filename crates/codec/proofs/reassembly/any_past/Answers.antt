-- `codec::reassembly::any_past` meets its contract: the search of std is that of the specification.
use mathlib.Core.Path.{◌∙◌}
use lib.ListN.{take}
use Rattle.std.proofs.Common.{rules, tests}
use Rattle.std.proofs.lemmas.Iterator.{YieldsList-from_slice}
use Rattle.std.proofs.lemmas.Iterator.Search.{any_from_yields_List}
use Rattle.codec.specs.Reassembly.{is_past}
use Rattle.codec.proofs.reassembly.Laws.{any_same}
use Rattle.codec.proofs.reassembly.any_past.Goals as goal

pub returns : goal.returns
returns c =
    let a = c.args in
    any_from_yields_List (is_past a.width) _ _ _ c.any.ensures.ran (YieldsList-from_slice (take a.total a.lengths.now) cc) (λ x b q k. search (rules, tests))
    ∙ any_same (is_past a.width) (take a.total a.lengths.now)
