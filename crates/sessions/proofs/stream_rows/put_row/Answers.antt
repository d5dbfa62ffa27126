-- `sessions::stream_rows::put_row` meets its contract.
use Rattle.std.proofs.Common.{◌∙◌}
use Rattle.sessions.specs.Streams.{row_from, number_at}
use Rattle.sessions.proofs.stream_rows.Laws.{row_written, sixteen_long}
use Rattle.sessions.proofs.stream_rows.put_row.Goals as goal

pub returns : goal.returns
unfolding row_from
returns c = let s = c.args.s in
    c.put_words-2.ensures
    ∙ rw (c.put_words.ensures, c.from.ensures)
    (row_written c.args.w.now s.stream_id s.next_send_seq s.next_recv_seq _ _ c.told-w (sixteen_long (number_at s.numbers)) (sixteen_long (number_at s.lengths)))
