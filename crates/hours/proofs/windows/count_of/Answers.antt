-- `hours::windows::count_of` meets its contract.
use Rattle.std.proofs.Common.{rules, ◌≡◌, sym, ◌∙◌, eqb}
use Rattle.std.proofs.iter.runs.Made.{chains}
use Rattle.std.specs.List.{count_by}
use Rattle.hours.specs.Windows.{window_of}
use Rattle.hours.proofs.windows.Laws.{count_of_day}
use Rattle.hours.proofs.windows.count_of.Goals as goal

pub returns : goal.returns
returns c =
    let a = c.args in
    let count : c.count.result ≡ count_by (λ row. eqb (window_of row).day a.day) a.windows.now = search (rules, chains) in
    count ∙ sym (count_of_day a.windows.now a.day)
