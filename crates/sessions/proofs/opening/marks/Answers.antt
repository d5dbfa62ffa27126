-- `sessions::opening::marks` meets its contract: numbers that have no bit together are 0 each.
use Rattle.sessions.proofs.opening.Laws.{marks_none}
use Rattle.sessions.proofs.opening.marks.Goals as goal

pub returns : goal.returns
returns c = let a = c.args in
    let one = c.session_at-a in
    let two = c.session_at-b in
    let three = c.session_at-c in
    let four = c.session_at-d in
    let five = c.session_at-e in
    λ h. marks_none a.sessions.now a.id one.result two.result three.result four.result five.result one.ensures two.ensures three.ensures four.ensures five.ensures h
