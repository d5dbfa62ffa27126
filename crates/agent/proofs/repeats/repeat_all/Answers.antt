-- `agent::repeats::repeat_all` meets its contract. The invariant: what is still to be repeated, told from here on, is the whole.
use mathlib.Core.Path.{refl, ◌∙◌}
use native.Mathlib.Omega.{arith}
use Rattle.agent.proofs.Repeated.{told_more, told_end}
use Rattle.agent.proofs.repeats.repeat_all.Goals as goal

pub loop-number-init : goal.loop-number-init
loop-number-init c = (refl, (refl, refl))

pub loop-number-preserved : goal.loop-number-preserved
loop-number-preserved c =
    let a = c.args in
    let l = c.loop-number in
    let done = c.repeat_one-w in
    let more = told_more a.sessions.now a.streams.now a.held.now a.f.session_id a.f.stream_id a.f.room a.numbers.now l.number-index l.out l.w (omega arith) in (
      done.auto.out ∙ l.invariant.0,
      (rw done.ensures.0 (more.0 ∙ l.invariant.1.0), rw (done.ensures.1, done.ensures.0) (more.1 ∙ l.invariant.1.1)),
    )

pub shape_of-out : goal.shape_of-out
shape_of-out c = c.loop-number.invariant.0

pub returns : goal.returns
returns c =
    let a = c.args in
    let l = c.loop-number in
    let end = told_end a.sessions.now a.streams.now a.held.now a.f.session_id a.f.stream_id a.f.room a.numbers.now l.number-index l.out l.w (omega arith) in
    (end.0 ∙ l.invariant.1.0, end.1 ∙ l.invariant.1.1)
