-- `sessions::opening::first_unmarked` meets its contract.
use Rattle.std.proofs.Common.{ℕ, Option, ap, ◌≡◌, ◌∙◌, rules}
use Rattle.std.specs.Prelude.{position, eqb, take}
use Rattle.std.specs.Option.{unwrap_or}
use Rattle.std.proofs.lemmas.Iterator.{YieldsList-from_slice}
use Rattle.std.proofs.lemmas.Iterator.Search.{position_from_yields_List}
use borrow.Author.Tests.{tests}
use Rattle.sessions.proofs.opening.Laws.{unmarked_listed}
use Rattle.sessions.proofs.opening.first_unmarked.Goals as goal

pub returns : goal.returns
returns c =
    let e : c.position.result ≡ position (λ (mark : ℕ). eqb mark 0) (take 255 c.args.taken.now) =
    position_from_yields_List (λ (mark : ℕ). eqb mark 0) _ _ c.position.result c.position.ensures.ran (YieldsList-from_slice (take 255 c.args.taken.now) cc) (λ x b q k. search (rules, tests)) in
    c.unwrap_or.ensures ∙ ap (λ (k : Option ℕ). unwrap_or k 255) e ∙ unmarked_listed c.args.taken.now 255 c.requires
