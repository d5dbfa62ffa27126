-- `listing::message::put_subs` meets its contract. The invariant: what is added and what is left make the whole (`Going`).
use Rattle.std.proofs.Common.{◌≡◌, arith, sym, ◌∙◌}
use Rattle.std.specs.Prelude.{Ok}
use Rattle.codec.specs.Reading.{read_at}
use Rattle.codec.proofs.reading.Laws.{Placed, read_placed}
use Rattle.listing.proofs.message.Laws.{going_none, going_sub, going_end}
use Rattle.listing.proofs.message.put_subs.Goals.{In-Ok}
use Rattle.listing.proofs.message.put_subs.Goals as goal

pub loop-m-init : goal.loop-m-init
loop-m-init c = going_none _ _ c.requires

-- the submessage at `here`
was : (c : In-Ok) → read_at c.args.s.now c.loop-m.here ≡ Ok (c.in-Ok.m, c.in-Ok.field-0-1, c.in-Ok.next)
was c = sym c.read.ensures ∙ c.in-Ok.is

there : (c : In-Ok) → Placed c.args.s.now c.loop-m.here c.in-Ok.field-0-1 c.in-Ok.next
there c = read_placed _ _ _ _ _ (was c)

pub overflow_add-payload : goal.overflow_add-payload
overflow_add-payload c = omega (arith, there (goal.at.overflow_add-payload c).In-Ok)

pub overflow_sub-next : goal.overflow_sub-next
overflow_sub-next c = omega (arith, there (goal.at.overflow_sub-next c).In-Ok)

pub loop-m-smaller : goal.loop-m-smaller
loop-m-smaller c = omega (arith, there (goal.at.loop-m-smaller c).In-Ok)

pub loop-m-preserved : goal.loop-m-preserved
loop-m-preserved c =
    let line = rw (c.from.ensures, c.id.ensures) at c.line.ensures in
    going_sub _ _ _ _ c.loop-m.invariant _ _ _ _ (was (goal.at.loop-m-preserved c).In-Ok) line

pub returns : goal.returns
returns c = going_end _ _ _ _ c.loop-m.invariant _ (sym c.read.ensures ∙ c.in_default.is)
