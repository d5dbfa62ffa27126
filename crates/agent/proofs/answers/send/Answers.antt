-- `agent::answers::send` meets its contract: what was composed is what is written and held.
use Rattle.std.proofs.Common.{sym, ap, ◌∙◌}
use Rattle.std.proofs.lemmas.List.{length-take-le}
use Rattle.codec.specs.Bytes.{put_bytes}
use Rattle.sessions.specs.Sending.{sent_streams, sent_held}
use Rattle.agent.proofs.answers.Laws.{line_long, line_is}
use Rattle.agent.proofs.answers.send.Goals as goal

pub slice_bounds-line-end : goal.slice_bounds-line-end
slice_bounds-line-end c =
    let a = c.args in
    let r = c.reply_data-n in
    line_long a.f.session_id a.f.stream_id a.sequence_nr a.number.0 a.sample.now r.new.out r.result c.requires r.ensures.0 r.ensures.1

pub slice_bounds-message-end : goal.slice_bounds-message-end
slice_bounds-message-end c =
    let a = c.args in
    let r = c.reply_data-n in
    let long = line_long a.f.session_id a.f.stream_id a.sequence_nr a.number.0 a.sample.now r.new.out r.result c.requires r.ensures.0 r.ensures.1 in
    sym (length-take-le r.result r.new.out long)

pub returns : goal.returns
returns c =
    let a = c.args in
    let r = c.reply_data-n in
    let f = a.f in
    let e = line_is f.session_id f.stream_id a.sequence_nr a.number.0 a.sample.now r.new.out r.result c.requires r.ensures.0 r.ensures.1 in
    let sent = c.send_data.ensures in (
      r.ensures.0,
      sent.1 ∙ ap (sent_streams a.sessions.now a.streams.now a.held.now f.session_id f.stream_id) e,
      sent.2 ∙ ap (sent_held a.sessions.now a.streams.now a.held.now f.session_id f.stream_id) e,
      c.put_bytes.ensures.1 ∙ ap (put_bytes a.out.now 0) e,
    )
