-- `agent::answers::sequence` meets its contract.
use mathlib.Core.Path.{◌∙◌}
use Rattle.agent.proofs.answers.Laws.{sequence_zero, sequence_next}
use Rattle.agent.proofs.answers.sequence.Goals as goal

pub returns-then-f-eq0 : goal.returns-then-f-eq0
returns-then-f-eq0 c = let a = c.args in sequence_zero a.sessions.now a.streams.now a.f c.if-f-eq0.true

pub returns : goal.returns
returns c =
    let a = c.args in
    c.next_sequence.ensures ∙ sequence_next a.sessions.now a.streams.now a.f c.if-f-eq0.false
