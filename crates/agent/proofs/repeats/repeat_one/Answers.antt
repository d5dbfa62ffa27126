-- `agent::repeats::repeat_one` meets its contract.
use mathlib.Core.Path.{ap, ◌∙◌}
use native.Mathlib.Omega.{arith}
use lib.ListN.{length}
use Rattle.sessions.proofs.ViewSending.{message_short}
use Rattle.agent.proofs.repeats.repeat_one.Goals as goal

pub count-requires : goal.count-requires
count-requires c =
    let a = c.args in
    let long = ap length c.message-m.ensures in
    let short = message_short a.sessions.now a.streams.now a.held.now a.f.session_id a.f.stream_id a.seq in
    (c.requires, omega (arith, long, short))

pub returns : goal.returns
returns c =
    let found = c.message-m.ensures in (c.count.ensures ∙ rw found, c.put_bytes.ensures.1 ∙ rw found)
