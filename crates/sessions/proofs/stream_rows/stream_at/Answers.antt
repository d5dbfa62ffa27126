-- `sessions::stream_rows::stream_at` meets its contract: past the end every number is 0.
use lib.ListN.{get_or-eq_default}
use mathlib.Core.List.{[]}
use Rattle.streams.specs.Acknowledged.{list_from}
use Rattle.sessions.specs.Streams.{stream_of}
use Rattle.sessions.proofs.stream_rows.stream_at.Goals as goal

pub returns-in-None : goal.returns-in-None
unfolding stream_of list_from
returns-in-None c = rw (c.new.ensures, get_or-eq_default c.args.streams.now [] c.in-None.ensures.lookup.3)
