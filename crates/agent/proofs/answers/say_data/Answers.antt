-- `agent::answers::say_data` meets its contract.
use mathlib.Core.Path.{◌∙◌}
use lib.ListN.{length}
use Rattle.agent.proofs.answers.Laws.{sample_fits, sample_held, data_zero, data_held}
use Rattle.agent.proofs.answers.say_data.Goals as goal

pub reply_data-requires : goal.reply_data-requires
reply_data-requires c = let start = c in sample_fits start.args.f.stream_id (length start.args.sample.now) start.requires

pub returns-then-f-eq0 : goal.returns-then-f-eq0
returns-then-f-eq0 c =
    let a = c.args in
    let n = c.sequence-seq in
    let r = c.reply_data.ensures in
    let d = data_zero a.sessions.now a.streams.now a.held.now a.out.now a.f a.number a.sample.now n.result n.ensures c.if-f-eq0.true in
    (r.0 ∙ d.0, d.1, d.2, r.1 ∙ d.3)

pub send-requires : goal.send-requires
send-requires c =
    let start = c in sample_held start.args.f.stream_id (length start.args.sample.now) c.if-f-eq0.false start.requires

pub returns : goal.returns
returns c =
    let a = c.args in
    let n = c.sequence-seq in
    let r = c.send.ensures in
    let d = data_held a.sessions.now a.streams.now a.held.now a.out.now a.f a.number a.sample.now n.result n.ensures c.if-f-eq0.false in
    (r.0 ∙ d.0, r.1 ∙ d.1, r.2 ∙ d.2, r.3 ∙ d.3)
