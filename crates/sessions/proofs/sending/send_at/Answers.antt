-- `sessions::sending::send_at` meets its contract.
use mathlib.Core.Path.{ap, ◌∙◌}
use Rattle.sessions.specs.Sending.{buffer_in, with_buffer}
use Rattle.sessions.proofs.sending.Laws.{sent_step, bytes_step}
use Rattle.sessions.proofs.sending.send_at.Goals as goal

pub returns : goal.returns
unfolding buffer_in with_buffer
returns c = let a = c.args in
    let b = c.buffer_place-b in
    let s = c.stream_at-s in
    let r = c.record_sent-r in
    let w = sent_step a.streams.now a.at a.held.now a.message.now b.result _ s.result b.ensures.0 s.ensures b.ensures.1 b.ensures.2 r.result r.ensures.0 in
    let v = bytes_step a.streams.now a.at a.held.now a.message.now b.result _ s.result b.ensures.0 s.ensures in
    (c.keep_sent.ensures.0 ∙ w.0, c.keep_sent.ensures.1 ∙ w.1, ap (with_buffer a.held.now b.result) r.ensures.1 ∙ v)
