-- `agent::repeats::repeat` meets its contract.
use mathlib.Core.Path.{ap, ◌∙◌}
use mathlib.Core.List.{List}
use Rattle.streams.specs.Acknowledged.{repeats}
use Rattle.sessions.specs.declared.session_streams.StreamRead.{StreamRead}
use Rattle.agent.specs.Run.{count_replies, put_replies}
use Rattle.agent.specs.Step.{Reply}
use Rattle.agent.proofs.Repeated.{told, listed_first, listed_within}
use Rattle.agent.proofs.repeats.repeat.Goals as goal

pub shared_ref_as_front-repeat_all : goal.shared_ref_as_front-repeat_all
shared_ref_as_front-repeat_all c =
    let a = c.args in
    let listed = c.list_repeats-a in
    listed_within c.read_stream-r.result.state a.p.first_unacked_seq a.p.nack_bitmap listed.result listed.ensures

pub returns : goal.returns
returns c =
    let a = c.args in
    let read = c.read_stream-r in
    let listed = c.list_repeats-a in
    let done = c.repeat_all.ensures in
    let numbers = listed_first read.result.state a.p.first_unacked_seq a.p.nack_bitmap listed.result listed.ensures
    ∙ ap (λ (r : StreamRead). repeats r.state a.p.first_unacked_seq a.p.nack_bitmap) read.ensures in
    let same = ap (told a.sessions.now a.streams.now a.held.now a.f.session_id a.f.stream_id) numbers in
    (done.0 ∙ ap (λ (rs : List Reply). count_replies a.f.room a.at rs) same, done.1 ∙ ap (λ (rs : List Reply). put_replies a.f.room a.out.now a.at rs) same)
