-- The bridge's answer to a call, by value: what it lists, what it says; and what is listed, over the lent tables.
use Rattle.std.specs.Prelude.{ℕ, List, None, Option, Some}
use Rattle.codec.specs.declared.submessages.ObjectNumber.{ObjectNumber}
use Rattle.codec.specs.declared.submessages.StatusCode.{StatusCode}
use Rattle.codec.specs.declared.submessages.StatusCode.TheVariants as status
use Rattle.codec.specs.declared.submessages.StatusCode.TheVariants.{ErrUnknownRef, ErrInvalidData}
use Rattle.sessions.specs.Objects.{bridged_of}
use Rattle.sessions.specs.SessionObjects.{stored_object, stored_objects, keep_stored}
use Rattle.sessions.specs.declared.objects.Object.{Object}
use Rattle.moves.specs.declared.answers.Says.{Says}
use Rattle.moves.specs.declared.answers.Says.TheVariants.{Status, Data}
use Rattle.moves.specs.declared.proxy.BridgeAnswer.{BridgeAnswer}
use Rattle.moves.specs.declared.proxy.BridgeAnswer.TheVariants.{Created, Done, Sample, NoSample, Failed}
use Rattle.moves.specs.declared.proxy.Task.{Task}
use Rattle.moves.specs.declared.proxy.Task.TheVariants.{Creating, Writing, Reading, Deleting}

-- "A CREATE that succeeds .. lists its object with the handle returned"; W1: the record "holds its CREATE's parent number"
abbrev pub created_keeps : ObjectNumber → ℕ → ℕ → BridgeAnswer → Option Object
created_keeps number kind parent (Created h) = Some (bridged_of number kind h parent)
created_keeps number kind parent Done = None
created_keeps number kind parent Sample = None
created_keeps number kind parent NoSample = None
created_keeps number kind parent Failed = None

abbrev pub keeps_of : ObjectNumber → Task → BridgeAnswer → Option Object
keeps_of number (Creating kind parent) a = created_keeps number kind parent a
keeps_of number Writing a = None
keeps_of number Reading a = None
keeps_of number Deleting a = None

-- "every failed CREATE answers ERR_INVALID_DATA"
abbrev pub created_says : BridgeAnswer → Says
created_says (Created h) = Status status.Ok
created_says Done = Status ErrInvalidData
created_says Sample = Status ErrInvalidData
created_says NoSample = Status ErrInvalidData
created_says Failed = Status ErrInvalidData

abbrev pub done_says : BridgeAnswer → StatusCode → Says
done_says Done code = Status status.Ok
done_says (Created h) code = Status code
done_says Sample code = Status code
done_says NoSample code = Status code
done_says Failed code = Status code

-- "A read without data answers STATUS OK"
abbrev pub read_says : BridgeAnswer → Says
read_says Sample = Data
read_says NoSample = Status status.Ok
read_says (Created h) = Status ErrInvalidData
read_says Done = Status ErrInvalidData
read_says Failed = Status ErrInvalidData

-- "DELETE .. even where the bridge then fails (ERR_UNKNOWN_REF). Bridge failures on write or read answer ERR_INVALID_DATA"
abbrev pub says_of : Task → BridgeAnswer → Says
says_of (Creating kind parent) a = created_says a
says_of Writing a = done_says a ErrInvalidData
says_of Reading a = read_says a
says_of Deleting a = done_says a ErrUnknownRef

abbrev pub kept_sessions : Option Object → List (List ℕ) → List Object → ℕ → List (List ℕ)
kept_sessions (Some x) s o id = keep_stored s id (stored_object s o id x)
kept_sessions None s o id = s

abbrev pub kept_objects : Option Object → List (List ℕ) → List Object → ℕ → List Object
kept_objects (Some x) s o id = stored_objects s o id x
kept_objects None s o id = o
