-- `codec::reading::read` meets its contract: the header first, then the rules before the layout, then the layout.
use mathlib.Core.Path.{◌≡◌, sym, ◌∙◌}
use native.Mathlib.Omega.{arith}
use Rattle.std.specs.Prelude.{Err}
use Prim.Native.Nat.{◌+◌}
use Rattle.codec.specs.Reading.{payload_at, read_at}
use Rattle.codec.proofs.header.Laws.{sub_header_is}
use Rattle.codec.proofs.reading.Laws.{payload_laid}
use Rattle.codec.proofs.reading.read.Goals.{In-Ok}
use Rattle.codec.proofs.reading.read.Goals as goal

pub overflow_add-start : goal.overflow_add-start
overflow_add-start c = omega (arith, sub_header_is _ _ _ (sym c.parse.ensures ∙ c.in-Ok.is))

pub check_room-requires : goal.check_room-requires
check_room-requires c = omega (arith, sub_header_is _ _ _ (sym c.parse.ensures ∙ c.in-Ok.is))

-- what stands behind the header is the payload
behind_header : (c : In-Ok) → payload_at c.args.s.now c.in-Ok.h.submessage_id (c.args.c.at + 4) c.in-Ok.h.length ≡ read_at c.args.s.now c.args.c.at
unfolding read_at
behind_header c = rw (sym c.parse.ensures ∙ c.in-Ok.is)

pub returns-in_err-check_room-in-Ok : goal.returns-in_err-check_room-in-Ok
returns-in_err-check_room-in-Ok c =
    let passed : c.from_residual.result ≡ Err c.in_err-check_room-in-Ok.field-0.0 = grind arith in
    passed ∙ c.in_err-check_room-in-Ok.ensures.refused ∙ behind_header (goal.at.returns-in_err-check_room-in-Ok c).In-Ok

pub returns-in_ok-check_room-in-Ok : goal.returns-in_ok-check_room-in-Ok
returns-in_ok-check_room-in-Ok c =
    let r = c.in_ok-check_room-in-Ok.ensures.room in
    c.layout_at.ensures ∙ payload_laid _ _ _ _ r.0 r.1.0 r.1.1 ∙ behind_header (goal.at.returns-in_ok-check_room-in-Ok c).In-Ok

pub returns-in-Err : goal.returns-in-Err
unfolding read_at
returns-in-Err c = rw (sym c.parse.ensures ∙ c.in-Err.is)
