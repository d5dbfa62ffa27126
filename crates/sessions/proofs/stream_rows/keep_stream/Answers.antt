-- `sessions::stream_rows::keep_stream` meets its contract: a store past the end changes nothing.
use mathlib.Core.Path.{sym}
use lib.Seq.{set_out}
use Rattle.sessions.proofs.stream_rows.keep_stream.Goals as goal

pub returns-else-at-streams : goal.returns-else-at-streams
returns-else-at-streams c = sym (set_out c.args.streams.now c.args.at _ c.if-at-streams.false)
