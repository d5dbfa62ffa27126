-- Document 02, W3, on the list of objects: "An object has a dependant if it is a Participant that a Topic names as parent, or a Topic that a DataWriter
-- or DataReader names."
use Rattle.std.specs.Prelude.{ℕ, Bool, true, false, cond, List, [], ◌∷◌, eqb, Option, None, Some}
use Rattle.codec.specs.Submessages.{kind_byte}
use Rattle.codec.specs.declared.submessages.ObjectKind.TheVariants.{Participant, Topic, DataWriter, DataReader}
use Rattle.sessions.specs.View.{Entry}

-- the kinds: of the one that names, and of the one that it names
abbrev pub kinds_depend : ℕ → ℕ → Bool
kinds_depend kind named =
    cond (eqb named (kind_byte Participant)) (eqb kind (kind_byte Topic))
    (cond (eqb named (kind_byte Topic)) (cond (eqb kind (kind_byte DataWriter)) true (eqb kind (kind_byte DataReader))) false)

abbrev pub depends_on : Entry → Entry → Bool
depends_on e x = cond (eqb e.parent x.number) (kinds_depend e.kind x.kind) false

-- whether one of these depends on x
abbrev pub dependant_in : List Entry → Entry → Bool
dependant_in [] x = false
dependant_in (e ∷ es) x = cond (depends_on e x) true (dependant_in es x)

-- "An object has a dependant": the object of a number, if there is one
abbrev pub has_dependant : List Entry → Option Entry → Bool
has_dependant es None = false
has_dependant es (Some x) = dependant_in es x
