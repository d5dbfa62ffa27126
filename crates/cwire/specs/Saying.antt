-- A message to be written, as numbers: the submessage that a row says, and the message of it.
use Rattle.std.specs.Prelude.{ℕ, cond, ◌||◌, List, eqb, ltb, get_or, length, Err, Ok, Result}
use Rattle.codec.specs.Bytes.{write_of, write_bytes}
use Rattle.codec.specs.Submessages.{kind_of, code_of}
use Rattle.codec.specs.Writing.{payload_bytes, message_bytes}
use Rattle.codec.specs.declared.header.MessageHeader.{MessageHeader}
use Rattle.codec.specs.declared.refusals.Refusal.TheVariants.{UnknownSubmessageId, OverLimit}
use Rattle.codec.specs.declared.submessages.Submessage.TheVariants.{CreateClient, Create, Delete, Status, WriteData, ReadData, Data, Heartbeat, Acknack, Fragment}
use Rattle.codec.specs.declared.submessages.ObjectKind.{ObjectKind}
use Rattle.codec.specs.declared.refusals.Refusal.{Refusal}
use Rattle.codec.specs.declared.submessages.StatusCode.{StatusCode}
use Rattle.codec.specs.declared.submessages.Submessage.{Submessage}

-- a number over the range of its field is refused as 16; the fields are those of the table's column "payload"

-- 0x00 CREATE_CLIENT: key 4, properties 1
unfoldable pub client_said : ℕ → ℕ → Result Submessage Refusal
client_said key properties =
    cond (ltb 4294967295 key || ltb 255 properties) (Err OverLimit)
    (Ok (CreateClient (record { client_key = key; properties = properties })))

-- 0x01 CREATE: object 2, kind 1, parent 2; any other kind than 1 to 6 is refused as 3
abbrev pub create_kind : ℕ → ℕ → Result ObjectKind Refusal → Result Submessage Refusal
create_kind object parent (Ok k) = Ok (Create (record { object_id = record { 0 = object }; kind = k; parent_id = parent }))
create_kind object parent (Err r) = Err r

unfoldable pub create_said : ℕ → ℕ → ℕ → Result Submessage Refusal
create_said object mark parent =
    cond (ltb 65535 object || (ltb 255 mark || ltb 65535 parent)) (Err OverLimit) (create_kind object parent (kind_of mark))

-- 0x02 DELETE: object 2
unfoldable pub delete_said : ℕ → Result Submessage Refusal
delete_said object = cond (ltb 65535 object) (Err OverLimit) (Ok (Delete (record { object_id = record { 0 = object } })))

-- 0x05 STATUS: object 2, code 1; any other code than 0 to 4 is refused as 4
abbrev pub status_code : ℕ → Result StatusCode Refusal → Result Submessage Refusal
status_code object (Ok k) = Ok (Status (record { related_object_id = record { 0 = object }; status = k }))
status_code object (Err r) = Err r

unfoldable pub status_said : ℕ → ℕ → Result Submessage Refusal
status_said object mark = cond (ltb 65535 object || ltb 255 mark) (Err OverLimit) (status_code object (code_of mark))

-- 0x07 WRITE_DATA: writer 2
unfoldable pub write_said : ℕ → Result Submessage Refusal
write_said writer = cond (ltb 65535 writer) (Err OverLimit) (Ok (WriteData (record { writer_id = record { 0 = writer } })))

-- 0x08 READ_DATA: reader 2, samples 2
unfoldable pub read_said : ℕ → ℕ → Result Submessage Refusal
read_said reader samples =
    cond (ltb 65535 reader || ltb 65535 samples) (Err OverLimit)
    (Ok (ReadData (record { reader_id = record { 0 = reader }; max_samples = samples })))

-- 0x09 DATA: reader 2
unfoldable pub data_said : ℕ → Result Submessage Refusal
data_said reader = cond (ltb 65535 reader) (Err OverLimit) (Ok (Data (record { reader_id = record { 0 = reader } })))

-- 0x0D HEARTBEAT: first 2, last 2
unfoldable pub heartbeat_said : ℕ → ℕ → Result Submessage Refusal
heartbeat_said first last =
    cond (ltb 65535 first || ltb 65535 last) (Err OverLimit) (Ok (Heartbeat (record { first_unacked_seq = first; last_seq = last })))

-- 0x0E ACKNACK: first 2, bitmap 2
unfoldable pub acknack_said : ℕ → ℕ → Result Submessage Refusal
acknack_said first bitmap =
    cond (ltb 65535 first || ltb 65535 bitmap) (Err OverLimit) (Ok (Acknack (record { first_unacked_seq = first; nack_bitmap = bitmap })))

-- 0x0F FRAGMENT (document 02, W6): number 2, total 2
unfoldable pub fragment_said : ℕ → ℕ → Result Submessage Refusal
fragment_said number total =
    cond (ltb 65535 number || ltb 65535 total) (Err OverLimit) (Ok (Fragment (record { fragment_nr = number; total_fragments = total })))

-- the id alone decides which fields a row has; 2, "id not listed (byte given)"
unfoldable pub said_by : ℕ → ℕ → ℕ → ℕ → Result Submessage Refusal
said_by id a b c =
    cond (eqb id 0x00) (client_said a b)
    (cond (eqb id 0x01) (create_said a b c)
    (cond (eqb id 0x02) (delete_said a)
    (cond (eqb id 0x05) (status_said a b)
    (cond (eqb id 0x07) (write_said a)
    (cond (eqb id 0x08) (read_said a b)
    (cond (eqb id 0x09) (data_said a)
    (cond (eqb id 0x0D) (heartbeat_said b c)
    (cond (eqb id 0x0E) (acknack_said b c)
    (cond (eqb id 0x0F) (fragment_said b c)
    (Err (UnknownSubmessageId id)))))))))))

-- the submessage that a row says: a row has eight numbers, and an id is a byte
unfoldable pub row_says : List ℕ → Result Submessage Refusal
row_says row =
    cond (ltb (length row) 8 || ltb 255 (get_or row 0 0)) (Err OverLimit) (said_by (get_or row 0 0) (get_or row 1 0) (get_or row 2 0) (get_or row 3 0))

-- the header's fields
abbrev pub headed : ℕ → ℕ → ℕ → MessageHeader
headed session stream sequence = record { session_id = session; stream_id = stream; sequence_nr = sequence }

-- then 12 and 13: the message at the start of the output, or no byte changed
abbrev pub write_by : Result Submessage Refusal → MessageHeader → List ℕ → List ℕ → Result ℕ Refusal
write_by (Ok m) h out body = write_of (length (payload_bytes m body)) out 0 (message_bytes h m body)
write_by (Err r) h out body = Err r

abbrev pub out_by : Result Submessage Refusal → MessageHeader → List ℕ → List ℕ → List ℕ
out_by (Ok m) h out body = write_bytes (length (payload_bytes m body)) out 0 (message_bytes h m body)
out_by (Err r) h out body = out
