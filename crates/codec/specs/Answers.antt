-- Document 01: "Where an answer is an enum, a definition gives this paper's number and values for each of its cases, and the promises use
-- that definition." One type for all: the values given, or the number of the table "Refused".
use Rattle.std.specs.Prelude.{ℕ, Bool, Err, Ok, Result}
use Rattle.codec.specs.Refusals.{number_of, byte_of}
use Rattle.codec.specs.Submessages.{kind_byte, code_byte}
use Rattle.codec.specs.declared.cutting.FragmentHeader.{FragmentHeader}
use Rattle.codec.specs.declared.header.MessageHeader.{MessageHeader}
use Rattle.codec.specs.declared.header.SubmessageHeader.{SubmessageHeader}
use Rattle.codec.specs.declared.layouts.Cursor.{Cursor}
use Rattle.codec.specs.declared.layouts.Span.{Span}
use Rattle.codec.specs.declared.reassembly.ReassemblyBuffer.{ReassemblyBuffer}
use Rattle.codec.specs.declared.refusals.Refusal.{Refusal}
use Rattle.codec.specs.declared.submessages.Submessage.{Submessage}
use Rattle.codec.specs.declared.submessages.ObjectKind.{ObjectKind}
use Rattle.codec.specs.declared.submessages.StatusCode.{StatusCode}

-- what an answer gives; or its number, and the byte given with 2, 3 and 4, which is 0 with every other number
pub data Answer (A : Type 0) : Type 0 where
  gives : A → Answer A
  refused_as : ℕ → ℕ → Answer A

abbrev pub refusal : {A : Type 0} → Refusal → Answer A
refusal r = refused_as (number_of r) (byte_of r)

-- the number alone, 0 where nothing is refused
abbrev pub number_in : {A : Type 0} → Answer A → ℕ
number_in (gives values) = 0
number_in (refused_as number byte) = number

-- ---- reading

-- session, stream, sequence
abbrev pub header_answer : Result MessageHeader Refusal → Answer MessageHeader
header_answer (Ok h) = gives h
header_answer (Err r) = refusal r

-- id, flags, length
abbrev pub sub_header_answer : Result SubmessageHeader Refusal → Answer SubmessageHeader
sub_header_answer (Ok h) = gives h
sub_header_answer (Err r) = refusal r

-- the kind, 1 to 6
abbrev pub kind_answer : Result ObjectKind Refusal → Answer ℕ
kind_answer (Ok k) = gives (kind_byte k)
kind_answer (Err r) = refusal r

-- the code, 0 to 4
abbrev pub code_answer : Result StatusCode Refusal → Answer ℕ
code_answer (Ok k) = gives (code_byte k)
code_answer (Err r) = refusal r

-- "one submessage and a cursor", with the part of the datagram that holds its strings or data
abbrev pub parsed_answer : Result (Submessage × Span × Cursor) Refusal → Answer (Submessage × Span × Cursor)
parsed_answer (Ok (m, x, c)) = gives (m, x, c)
parsed_answer (Err r) = refusal r

-- the header and how many submessages
abbrev pub checked_answer : Result (MessageHeader × ℕ) Refusal → Answer (MessageHeader × ℕ)
checked_answer (Ok (h, n)) = gives (h, n)
checked_answer (Err r) = refusal r

-- how many submessages rebuilt bytes hold
abbrev pub rebuilt_answer : Result ℕ Refusal → Answer ℕ
rebuilt_answer (Ok n) = gives n
rebuilt_answer (Err r) = refusal r

-- where the bytes of a string stand
abbrev pub string_answer : Result Span Refusal → Answer Span
string_answer (Ok x) = gives x
string_answer (Err r) = refusal r

-- ---- writing

-- how many bytes
abbrev pub written_answer : Result ℕ Refusal → Answer ℕ
written_answer (Ok n) = gives n
written_answer (Err r) = refusal r

-- ---- fragments

-- number, total
abbrev pub fragment_header_answer : Result FragmentHeader Refusal → Answer FragmentHeader
fragment_header_answer (Ok h) = gives h
fragment_header_answer (Err r) = refusal r

-- how many fragments
abbrev pub count_answer : Result ℕ Refusal → Answer ℕ
count_answer (Ok n) = gives n
count_answer (Err r) = refusal r

-- an empty store
abbrev pub made_answer : Result ReassemblyBuffer Refusal → Answer ReassemblyBuffer
made_answer (Ok b) = gives b
made_answer (Err r) = refusal r

-- the store afterwards, and whether every fragment is there
abbrev pub inserted_answer : Result (ReassemblyBuffer × Bool) Refusal → Answer (ReassemblyBuffer × Bool)
inserted_answer (Ok (b, all)) = gives (b, all)
inserted_answer (Err r) = refusal r
