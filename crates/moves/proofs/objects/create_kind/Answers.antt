-- `moves::objects::create_kind` meets its contract.
use Rattle.std.proofs.Common.{refl, inl, inr}
use Rattle.moves.proofs.objects.create_kind.Goals as goal

pub returns-in-DataWriter : goal.returns-in-DataWriter
returns-in-DataWriter c =
    let made = c.create_endpoint.ensures in
    elim c.in-DataWriter.is [
      | inl e ↦ rw e (rw e at made, refl, refl)
      | inr e ↦ rw e (rw e at made, refl, refl)
    ]
