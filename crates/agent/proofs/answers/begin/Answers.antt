-- `agent::answers::begin` meets its contract.
use Rattle.std.proofs.Common.{◌≡◌, true, false, length, ◌∙◌, rules}
use Rattle.sessions.specs.Table.{got_of}
use Rattle.agent.specs.Host.{answers_now}
use Rattle.agent.specs.Lent.{lent}
use Rattle.agent.specs.Stores.{stores_of}
use Rattle.agent.proofs.answers.Laws.{begun_now, begun_not, says_fit}
use Rattle.agent.proofs.answers.begin.Goals as goal

pub say-n-requires : goal.say-n-requires
say-n-requires c = let a = c.args in rw c.told_by-t.ensures (says_fit a.start.resumes a.start.frame.stream_id (length a.sample.now) c.requires.sample_fits)

pub returns-then-answers_now : goal.returns-then-answers_now
returns-then-answers_now c =
    let a = c.args in
    let t = stores_of a.stores.now in
    let f = a.start.frame in
    let now : answers_now a.start.resumes (got_of t.sessions f.session_id) ≡ true = cc in
    let b = begun_now t.sessions t.streams t.objects t.held a.out.now f a.sample.now a.start.resumes now in
    let s = rw c.told_by-t.ensures at c.say-n.ensures in
    let k = rw c.told_by-t.ensures at c.keep.ensures in
    record { wrote = s.0 ∙ b.0; stores = λ i. lent ((k.0 ∙ b.1) i) ((s.1 ∙ b.2) i) ((k.1 ∙ b.3) i) ((s.2 ∙ b.4) i) t.parts t.lengths t.rebuilt; out = s.3 ∙ b.5; places = search rules }

pub returns-else-answers_now : goal.returns-else-answers_now
returns-else-answers_now c =
    let a = c.args in
    let t = stores_of a.stores.now in
    let f = a.start.frame in
    let not-now : answers_now a.start.resumes (got_of t.sessions f.session_id) ≡ false = cc in
    let b = begun_not t.sessions t.streams t.objects t.held a.out.now f a.sample.now a.start.resumes not-now in
    record { wrote = b.0; stores = λ i. lent (b.1 i) (b.2 i) (b.3 i) (b.4 i) t.parts t.lengths t.rebuilt; out = b.5; places = search rules }
