-- `agent::answers::say` meets its contract.
use mathlib.Core.Path.{refl, sym, ap, ◌∙◌}
use lib.ListN.{length}
use Rattle.moves.specs.declared.answers.Says.{Says}
use Rattle.agent.specs.Answered.{says_fits}
use Rattle.agent.proofs.Laws.{status_long}
use Rattle.agent.proofs.answers.say.Goals as goal

pub say_data-requires : goal.say_data-requires
say_data-requires c =
    let start = c in
    ap (λ (x : Says). says_fits x start.args.f.stream_id (length start.args.sample.now)) (sym c.in-Data.is) ∙ start.requires

pub returns-in-Status : goal.returns-in-Status
returns-in-Status c =
    let a = c.args in
    rw c.in-Status.is (sym (status_long a.f.session_id a.f.stream_id a.number.0 _), refl, refl, c.put_status.ensures)

pub returns-in-Data : goal.returns-in-Data
returns-in-Data c = rw c.in-Data.is c.say_data.ensures
