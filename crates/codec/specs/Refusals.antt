-- Document 01, "Refused", and document 02, W6 to W8: the number of each refusal, and the byte that 2, 3 and 4 give.
use Rattle.std.specs.Prelude.{ℕ}
use Rattle.codec.specs.declared.refusals.Refusal.{Refusal}
use Rattle.codec.specs.declared.refusals.Refusal.TheVariants.{BufferTooShort, UnknownSubmessageId, UnknownObjectKind, UnknownStatusCode, PayloadLengthMismatch, SessionFull, FragmentSizeZero, EmptyPayload, TooManyFragments, FragmentNumber, MissingFragments, TooLong, OutputTooShort, StoreFull, OutOfTurn, OverLimit, NotInFragments, IllFormed, WindowFault, NoSuchMinute}

abbrev pub number_of : Refusal → ℕ
-- "bytes missing, no submessage"
number_of BufferTooShort = 1
-- "id not listed (byte given)"
number_of (UnknownSubmessageId b) = 2
-- "object kind (byte given)"
number_of (UnknownObjectKind b) = 3
-- "status code (byte given)"
number_of (UnknownStatusCode b) = 4
-- "payload under least length"
number_of PayloadLengthMismatch = 5
-- "`max_clients` sessions live"
number_of SessionFull = 6
-- "fragment size 0"
number_of FragmentSizeZero = 7
-- "payload to cut is empty"
number_of EmptyPayload = 8
-- "over 65,535 fragments"
number_of TooManyFragments = 9
-- "fragment number not below total"
number_of FragmentNumber = 10
-- "fragments missing"
number_of MissingFragments = 11
-- "payload or string over 65,535 bytes"
number_of TooLong = 12
-- "lent output shorter than the result"
number_of OutputTooShort = 13
-- "body over its slot; 17th held number; message over 1,024"
number_of StoreFull = 14
-- "agent call out of turn, or answer of another kind"
number_of OutOfTurn = 15
-- "`max_clients` over 255, lent store under its documented need, or tables altered past a limit"
number_of OverLimit = 16
-- "a FRAGMENT or CREATE_CLIENT among them"
number_of NotInFragments = 17
-- "ill-formed UTF-8"
number_of IllFormed = 18
-- "a window empty, outside the day, overlapping, out of order or a ninth"
number_of WindowFault = 19
-- "weekday over 6 or minute over 1,439"
number_of NoSuchMinute = 20

-- the byte given with 2, 3 and 4; the others give none, written 0
abbrev pub byte_of : Refusal → ℕ
byte_of BufferTooShort = 0
byte_of (UnknownSubmessageId b) = b
byte_of (UnknownObjectKind b) = b
byte_of (UnknownStatusCode b) = b
byte_of PayloadLengthMismatch = 0
byte_of SessionFull = 0
byte_of FragmentSizeZero = 0
byte_of EmptyPayload = 0
byte_of TooManyFragments = 0
byte_of FragmentNumber = 0
byte_of MissingFragments = 0
byte_of TooLong = 0
byte_of OutputTooShort = 0
byte_of StoreFull = 0
byte_of OutOfTurn = 0
byte_of OverLimit = 0
byte_of NotInFragments = 0
byte_of IllFormed = 0
byte_of WindowFault = 0
byte_of NoSuchMinute = 0
