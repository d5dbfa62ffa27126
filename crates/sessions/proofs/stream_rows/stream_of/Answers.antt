-- `sessions::stream_rows::stream_of` meets its contract.
use Rattle.std.proofs.Common.{◌∙◌, arith}
use Rattle.sessions.specs.Streams.{stream_of}
use Rattle.sessions.proofs.stream_rows.Laws.{part_listed}
use Rattle.sessions.proofs.stream_rows.stream_of.Goals as goal

pub returns : goal.returns
unfolding stream_of
returns c = let w = c.args.w.now in
    let numbers = rw c.unwrap.ensures at c.try_into.ensures in
    let lengths = rw c.unwrap-2.ensures at c.try_into-2.ensures in
    rw (numbers.1.same ∙ part_listed w 16 3 (omega arith), lengths.1.same ∙ part_listed w 16 19 (omega arith))
