-- `sessions::session_streams::search` meets its contract.
use Rattle.std.proofs.Common.{true, false, ◌≡◌, rules}
use Rattle.std.proofs.lemmas.Iterator.{first_from_Range}
use Rattle.sessions.specs.SessionStreams.{is_stream}
use Rattle.sessions.proofs.session_streams.Laws.{found_first}
use Rattle.sessions.proofs.session_streams.search.Goals as goal

pub returns-clause-is : goal.returns-clause-is
returns-clause-is c = let a = c.args in
    let t = is_stream a.streams.now a.first a.n in
    found_first t a.used c.find.result (first_from_Range _ _ _ c.find.result (λ k. t k ≡ true) (λ k. t k ≡ false) c.find.ensures.ran (λ x q k. search rules) (λ x q k. search rules))
