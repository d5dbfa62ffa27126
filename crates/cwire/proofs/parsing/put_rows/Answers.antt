-- `cwire::parsing::put_rows` meets its contract. The invariant: the rows written and what is left make the whole (`Going`).
use Rattle.std.proofs.Common.{◌≡◌, arith, sym, ◌∙◌}
use Rattle.std.specs.Prelude.{Ok}
use Rattle.codec.specs.Reading.{read_at}
use Rattle.codec.proofs.reading.Laws.{read_placed, read_short}
use Rattle.cwire.proofs.parsing.Laws.{going_none, inside, going_sub, going_end}
use Rattle.cwire.proofs.parsing.put_rows.Goals.{In-Ok}
use Rattle.cwire.proofs.parsing.put_rows.Goals as goal

pub loop-here-init : goal.loop-here-init
loop-here-init c = going_none _ _ c.requires.0 c.requires.1

-- the submessage at `here`
was : (c : In-Ok) → read_at c.args.s.now c.loop-here.here ≡ Ok (c.in-Ok.m, c.in-Ok.x, c.in-Ok.next)
was c = sym c.read.ensures ∙ c.in-Ok.is

pub bounds-rows-n : goal.bounds-rows-n
bounds-rows-n c = inside _ _ _ _ _ c.loop-here.invariant _ _ _ (was (goal.at.bounds-rows-n c).In-Ok)

pub overflow_add-n : goal.overflow_add-n
overflow_add-n c = let h = inside _ _ _ _ _ c.loop-here.invariant _ _ _ (was (goal.at.overflow_add-n c).In-Ok) in omega arith

pub loop-here-smaller : goal.loop-here-smaller
loop-here-smaller c = omega (arith, read_placed _ _ _ _ _ (was (goal.at.loop-here-smaller c).In-Ok))

pub loop-here-preserved : goal.loop-here-preserved
loop-here-preserved c = rw c.row_of.ensures (going_sub _ _ _ _ _ c.loop-here.invariant _ _ _ (was (goal.at.loop-here-preserved c).In-Ok))

pub shape_of-rows : goal.shape_of-rows
shape_of-rows c = c.loop-here.invariant.same

pub returns-in_default : goal.returns-in_default
returns-in_default c = going_end _ _ _ _ _ c.loop-here.invariant _ (sym c.read.ensures ∙ c.in_default.is)

pub returns : goal.returns
returns c = going_end _ _ _ _ _ c.loop-here.invariant _ (sym (read_short c.args.s.now c.loop-here.here (omega arith)))
