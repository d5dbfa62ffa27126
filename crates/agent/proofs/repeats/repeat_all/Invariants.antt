-- `agent::repeats::repeat_all` meets its contract. The invariant: what is still to be repeated, told from here on, is the whole.
use mathlib.Core.Path.{◌≡◌}
use lib.ListN.{length, drop}
use Rattle.agent.specs.Run.{count_replies, put_replies}
use Rattle.agent.proofs.Repeated.{told}
use Rattle.agent.proofs.repeats.repeat_all.Given as goal

abbrev pub invariant-loop-number : goal.invariant-loop-number
invariant-loop-number l =
    let left = told l.sessions l.streams l.held l.f.session_id l.f.stream_id (drop l.number-index l.numbers) in
    let all = told l.sessions l.streams l.held l.f.session_id l.f.stream_id l.numbers in
    (length l.out ≡ length l.initial.out)
    × ((count_replies l.f.room l.w left ≡ count_replies l.f.room l.at all) × (put_replies l.f.room l.out l.w left ≡ put_replies l.f.room l.initial.out l.at all))
