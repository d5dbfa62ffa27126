-- `agent::process::go` meets its contract.
use Rattle.std.proofs.Common.{length, sym, ap, ◌∙◌, rules}
use borrow.Author.Tests.{le-ltb}
use Rattle.sessions.specs.View.{Tables}
use Rattle.agent.specs.Host.{Leaves, performed, finished_of}
use Rattle.agent.specs.Run.{Turned, put_replies}
use Rattle.agent.specs.Stores.{stores_of}
use Rattle.agent.proofs.Thirteen.{finish_sent}
use Rattle.agent.proofs.process.go.Goals as goal

pub returns-else-room-need : goal.returns-else-room-need
returns-else-room-need c =
    let a = c.args in
    let n = c.needed-need.ensures in
    let p = c.act-ran.ensures in
    let fits = sym c.requires.thirteen ∙ rw (n.wrote, c.is_enough-enough.ensures) at (le-ltb (length a.out.now) c.needed-need.result c.if-room-need.false) in
    let all = finish_sent a.agent (stores_of a.stores.now) a.out.now a.d.now a.sample.now a.start c.requires.room fits in
    -- `needed` left the stores as they were
    let over = ap (λ (t : Tables). performed a.start t a.d.now a.sample.now) n.stores in
    record {
      processed = c.finished.ensures ∙ (ap (finished_of a.agent a.start) (p.ran ∙ ap (λ (y : Turned). y.ran) over) ∙ ap (λ (l : Leaves). l.processed) all);
      stores = p.stores ∙ (ap (λ (y : Turned). y.tables) over ∙ ap (λ (l : Leaves). l.tables) all);
      out = p.out ∙ (ap (λ (y : Turned). put_replies a.start.frame.room a.out.now 0 y.replies) over ∙ ap (λ (l : Leaves). l.out) all);
      places = search rules;
    }
