-- Document 01, "The wire" and corners of protocol.rs: the bytes of what is written.
use Rattle.std.specs.Prelude.{ℕ, List, [], ◌∷◌, ◌++◌, length, take}
use Rattle.codec.specs.Bytes.{le16, le32}
use Rattle.codec.specs.Header.{header_bytes}
use Rattle.codec.specs.Submessages.{id_of, kind_byte, code_byte}
use Rattle.codec.specs.declared.header.MessageHeader.{MessageHeader}
use Rattle.codec.specs.declared.submessages.Submessage.{Submessage}
use Rattle.codec.specs.declared.submessages.Submessage.TheVariants.{CreateClient, Create, Delete, Status, WriteData, ReadData, Data, Heartbeat, Acknack, Fragment}

-- the fixed bytes of each layout, in the order of the table's column "payload"
unfoldable pub fixed_bytes : Submessage → List ℕ
fixed_bytes (CreateClient p) = le32 p.client_key ++ (p.properties ∷ [])
fixed_bytes (Create p) = le16 p.object_id.0 ++ (kind_byte p.kind ∷ le16 p.parent_id)
fixed_bytes (Delete p) = le16 p.object_id.0
fixed_bytes (Status p) = le16 p.related_object_id.0 ++ (code_byte p.status ∷ [])
fixed_bytes (WriteData p) = le16 p.writer_id.0
fixed_bytes (ReadData p) = le16 p.reader_id.0 ++ le16 p.max_samples
fixed_bytes (Data p) = le16 p.reader_id.0
fixed_bytes (Heartbeat p) = le16 p.first_unacked_seq ++ le16 p.last_seq
fixed_bytes (Acknack p) = le16 p.first_unacked_seq ++ le16 p.nack_bitmap
fixed_bytes (Fragment p) = le16 p.fragment_nr ++ le16 p.total_fragments

-- strings, data and a fragment's body follow the fixed bytes; a layout that has none of them carries nothing of a body
abbrev pub body_len : Submessage → ℕ → ℕ
body_len (CreateClient p) n = 0
body_len (Create p) n = n
body_len (Delete p) n = 0
body_len (Status p) n = 0
body_len (WriteData p) n = n
body_len (ReadData p) n = 0
body_len (Data p) n = n
body_len (Heartbeat p) n = 0
body_len (Acknack p) n = 0
body_len (Fragment p) n = n

abbrev pub carried : Submessage → List ℕ → List ℕ
carried m body = take (body_len m (length body)) body

unfoldable pub payload_bytes : Submessage → List ℕ → List ℕ
payload_bytes m body = fixed_bytes m ++ carried m body

-- "Submessage: id, flags (a byte each), length (2), payload." Flags are dropped when read, and written as 0.
unfoldable pub sub_bytes : Submessage → List ℕ → List ℕ
sub_bytes m body = (id_of m ∷ 0 ∷ le16 (length (payload_bytes m body))) ++ payload_bytes m body

-- a message of a header and one submessage
unfoldable pub message_bytes : MessageHeader → Submessage → List ℕ → List ℕ
message_bytes h m body = header_bytes h ++ sub_bytes m body
