-- Document 01, "The wire": object kinds, status codes and submessage ids, each with its byte.
use Rattle.std.specs.Prelude.{ℕ, cond, eqb, Err, Ok, Result}
use Rattle.codec.specs.declared.refusals.Refusal.TheVariants.{UnknownObjectKind, UnknownStatusCode}
use Rattle.codec.specs.declared.submessages.ObjectKind.{ObjectKind}
use Rattle.codec.specs.declared.submessages.ObjectKind.TheVariants.{Participant, Topic, Publisher, Subscriber, DataWriter, DataReader}
use Rattle.codec.specs.declared.submessages.StatusCode.{StatusCode}
use Rattle.codec.specs.declared.submessages.StatusCode.TheVariants as status
use Rattle.codec.specs.declared.submessages.StatusCode.TheVariants.{ErrUnknownRef, ErrInvalidData, ErrIncompatible, ErrResources}
use Rattle.codec.specs.declared.submessages.Submessage.{Submessage}
use Rattle.codec.specs.declared.submessages.Submessage.TheVariants.{CreateClient, Create, Delete, Status, WriteData, ReadData, Data, Heartbeat, Acknack, Fragment}
use Rattle.codec.specs.declared.refusals.Refusal.{Refusal}

-- "Kinds 1 to 6: Participant, Topic, Publisher, Subscriber, DataWriter, DataReader."
abbrev pub kind_byte : ObjectKind → ℕ
kind_byte Participant = 1
kind_byte Topic = 2
kind_byte Publisher = 3
kind_byte Subscriber = 4
kind_byte DataWriter = 5
kind_byte DataReader = 6

-- any other byte is refused as 3, with the byte
unfoldable pub kind_of : ℕ → Result ObjectKind Refusal
kind_of b =
    cond (eqb b 1) (Ok Participant)
    (cond (eqb b 2) (Ok Topic)
    (cond (eqb b 3) (Ok Publisher)
    (cond (eqb b 4) (Ok Subscriber)
    (cond (eqb b 5) (Ok DataWriter)
    (cond (eqb b 6) (Ok DataReader)
    (Err (UnknownObjectKind b)))))))

-- "Codes 0 to 4: OK, ERR_UNKNOWN_REF, ERR_INVALID_DATA, ERR_INCOMPATIBLE, ERR_RESOURCES."
abbrev pub code_byte : StatusCode → ℕ
code_byte status.Ok = 0
code_byte ErrUnknownRef = 1
code_byte ErrInvalidData = 2
code_byte ErrIncompatible = 3
code_byte ErrResources = 4

-- any other byte is refused as 4, with the byte
unfoldable pub code_of : ℕ → Result StatusCode Refusal
code_of b =
    cond (eqb b 0) (Ok status.Ok)
    (cond (eqb b 1) (Ok ErrUnknownRef)
    (cond (eqb b 2) (Ok ErrInvalidData)
    (cond (eqb b 3) (Ok ErrIncompatible)
    (cond (eqb b 4) (Ok ErrResources)
    (Err (UnknownStatusCode b))))))

-- the column "id" of the table of kinds, and document 02's "A FRAGMENT submessage, id 0x0F" (W6)
abbrev pub id_of : Submessage → ℕ
id_of (CreateClient p) = 0x00
id_of (Create p) = 0x01
id_of (Delete p) = 0x02
id_of (Status p) = 0x05
id_of (WriteData p) = 0x07
id_of (ReadData p) = 0x08
id_of (Data p) = 0x09
id_of (Heartbeat p) = 0x0D
id_of (Acknack p) = 0x0E
id_of (Fragment p) = 0x0F
