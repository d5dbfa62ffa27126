-- What a datagram says, as numbers: its header, and a row for each submessage.
use Rattle.std.specs.Prelude.{ℕ, ◌+◌, ◌*◌, cond, List, [], ◌∷◌, ◌++◌, ltb, length, drop, Err, Ok, Result}
use Rattle.codec.specs.Answers.{Answer, gives, refused_as, refusal}
use Rattle.codec.specs.Submessages.{id_of, kind_byte, code_byte}
use Rattle.codec.specs.Reading.{Item, Items, items, stopped, Message, message, refused, message_of}
use Rattle.codec.specs.declared.layouts.Span.{Span}
use Rattle.codec.specs.declared.submessages.Submessage.{Submessage}
use Rattle.codec.specs.declared.submessages.Submessage.TheVariants.{CreateClient, Create, Delete, Status, WriteData, ReadData, Data, Heartbeat, Acknack, Fragment}
use Rattle.cwire.specs.Answer.{packed}
use Rattle.codec.specs.declared.header.MessageHeader.{MessageHeader}
use Rattle.codec.specs.declared.refusals.Refusal.{Refusal}

-- "Header: session, stream (a byte each), sequence (2)", in one number
abbrev pub header_number : Result MessageHeader Refusal → Answer ℕ
header_number (Ok h) = gives (h.session_id + 256 * h.stream_id + 65536 * h.sequence_nr)
header_number (Err r) = refusal r

-- the fixed fields of each kind, in the order of the table's column "payload": the object or the key, then a byte or the first of two
-- numbers, then the last; 0 where a kind has no such field
abbrev pub fields_of : Submessage → List ℕ
fields_of (CreateClient p) = p.client_key ∷ p.properties ∷ 0 ∷ []
fields_of (Create p) = p.object_id.0 ∷ kind_byte p.kind ∷ p.parent_id ∷ []
fields_of (Delete p) = p.object_id.0 ∷ 0 ∷ 0 ∷ []
fields_of (Status p) = p.related_object_id.0 ∷ code_byte p.status ∷ 0 ∷ []
fields_of (WriteData p) = p.writer_id.0 ∷ 0 ∷ 0 ∷ []
fields_of (ReadData p) = p.reader_id.0 ∷ p.max_samples ∷ 0 ∷ []
fields_of (Data p) = p.reader_id.0 ∷ 0 ∷ 0 ∷ []
fields_of (Heartbeat p) = 0 ∷ p.first_unacked_seq ∷ p.last_seq ∷ []
fields_of (Acknack p) = 0 ∷ p.first_unacked_seq ∷ p.nack_bitmap ∷ []
fields_of (Fragment p) = 0 ∷ p.fragment_nr ∷ p.total_fragments ∷ []

-- a row: the id, the fields, "that part of the datagram" which holds strings, data or a fragment's body (start and length), the place of the submessage's
-- header in the datagram, 0
abbrev pub row_of : ℕ → Submessage → Span → List ℕ
row_of at m x = id_of m ∷ (fields_of m ++ (x.start ∷ x.len ∷ at ∷ 0 ∷ []))

-- a row for each submessage, in their order, the first header at `at`; a submessage ends where its variable part does, and there the
-- next one begins
unfoldable pub rows_from : ℕ → List Item → List (List ℕ)
rows_from at [] = []
rows_from at (i ∷ more) = row_of at i.says i.span ∷ rows_from (i.span.start + i.span.len) more

-- lent rows with those of a datagram's submessages in front; rows behind them stay
unfoldable pub rows_put : List (List ℕ) → List Item → List (List ℕ)
rows_put rows xs = rows_from 4 xs ++ drop (length xs) rows

-- "The first failure refuses the whole datagram"; then 13, "lent output shorter than the result"; else how many submessages there are
abbrev pub parse_answer : Message → ℕ → Answer ℕ
parse_answer (message h xs) room = cond (ltb room (length xs)) (refused_as 13 0) (gives (length xs))
parse_answer (refused r) room = refusal r

unfoldable pub parse_of : List ℕ → List (List ℕ) → ℕ
parse_of s rows = packed (parse_answer (message_of s) (length rows))

-- a refusal changes no row
abbrev pub parse_leaves : Message → List (List ℕ) → List (List ℕ)
parse_leaves (message h xs) rows = cond (ltb (length rows) (length xs)) rows (rows_put rows xs)
parse_leaves (refused r) rows = rows

unfoldable pub parse_rows : List ℕ → List (List ℕ) → List (List ℕ)
parse_rows s rows = parse_leaves (message_of s) rows

-- the submessages of a datagram that has them
abbrev pub listed : Items → List Item
listed (items xs) = xs
listed (stopped r) = []
