-- `sessions::stream_rows::number_at` meets its contract: past the end the number is 0.
use lib.ListN.{get_or-eq_default}
use mathlib.Core.List.{[]}
use Rattle.sessions.specs.Streams.{stream_of}
use Rattle.sessions.proofs.stream_rows.number_at.Goals as goal

pub returns-in-None : goal.returns-in-None
unfolding stream_of
returns-in-None c = rw (get_or-eq_default c.args.streams.now [] c.in-None.ensures.lookup.3)
