-- `hours::windows::window_open` meets its contract.
use Rattle.std.proofs.Common.{rules, ◌≡◌, ◌∙◌}
use borrow.Author.Tests.{tests}
use Rattle.std.proofs.lemmas.Iterator.{YieldsList-from_slice}
use Rattle.std.proofs.lemmas.Iterator.Search.{any_from_yields_List}
use Rattle.std.specs.List.{list_any}
use Rattle.hours.specs.Windows.{window_of, holds}
use Rattle.hours.proofs.windows.Laws.{any_open}
use Rattle.hours.proofs.windows.window_open.Goals as goal

pub returns : goal.returns
returns c =
    let a = c.args in
    let any : c.any.result ≡ list_any (λ row. holds (window_of row) a.day a.minute) a.windows.now = any_from_yields_List (λ row. holds (window_of row) a.day a.minute) _ _ c.any.result c.any.ensures.ran (YieldsList-from_slice a.windows.now cc) (λ x b q k. search (rules, tests)) in
    any ∙ any_open a.windows.now a.day a.minute
