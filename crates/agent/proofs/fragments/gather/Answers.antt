-- `agent::fragments::gather` meets its contract.
use Rattle.std.proofs.Common.{rules}
use mathlib.Core.Path.{◌∙◌, ap}
use Rattle.agent.specs.Run.{whole_len}
use Rattle.agent.proofs.fragments.gather.Goals as goal

pub returns : goal.returns
returns c =
    let k = c.keep_fragment-g.ensures in
    rw (k.1, k.2, k.3, k.4, ← c.touch.ensures.1, ← c.part-body.ensures) (record { count = c.whole_len.ensures ∙ ap whole_len k.0; stores = search rules; places = search rules })
