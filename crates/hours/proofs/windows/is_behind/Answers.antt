-- `hours::windows::is_behind` meets its contract.
use Rattle.std.proofs.Common.{rules, ◌≡◌}
use borrow.Author.Tests.{tests}
use Rattle.std.proofs.lemmas.Iterator.{YieldsList-from_slice}
use Rattle.std.proofs.lemmas.Iterator.Search.{any_from_yields_List}
use Rattle.std.specs.List.{list_any}
use Rattle.hours.proofs.windows.Laws.{late, none_late}
use Rattle.hours.proofs.windows.is_behind.Goals as goal

pub returns : goal.returns
returns c =
    let a = c.args in
    let any : c.any.result ≡ list_any (late a.day a.from) a.before.now = any_from_yields_List (late a.day a.from) _ _ c.any.result c.any.ensures.ran (YieldsList-from_slice a.before.now cc) (λ x b q k. search (rules, tests)) in
    rw any (none_late a.day a.from a.before.now)
