-- Document 01, "The wire": the table of payload layouts, as what the bytes at a place of a datagram say.
use Rattle.std.specs.Prelude.{ℕ, ◌+◌, ◌-◌, cond, List, [], ◌∷◌, eqb, get_or, Err, Ok, Result}
use Rattle.codec.specs.Bytes.{word_at, quad_at}
use Rattle.codec.specs.Submessages.{kind_of, code_of}
use Rattle.codec.specs.declared.refusals.Refusal.TheVariants.{UnknownSubmessageId}
use Rattle.codec.specs.declared.submessages.Submessage.{Submessage}
use Rattle.codec.specs.declared.submessages.Submessage.TheVariants.{CreateClient, Create, Delete, Status, WriteData, ReadData, Data, Heartbeat, Acknack, Fragment}
use Rattle.codec.specs.declared.layouts.Cursor.{Cursor}
use Rattle.codec.specs.declared.submessages.ObjectKind.{ObjectKind}
use Rattle.codec.specs.declared.refusals.Refusal.{Refusal}
use Rattle.codec.specs.declared.layouts.Span.{Span}
use Rattle.codec.specs.declared.submessages.StatusCode.{StatusCode}

-- "least payload lengths stand in one fixed list by id": the column "least", then FRAGMENT's 4 (document 02, W6),
-- with 255 as the mark for unlisted ids
abbrev pub least_table : List ℕ
least_table = 5 ∷ 5 ∷ 2 ∷ 255 ∷ 255 ∷ 3 ∷ 255 ∷ 2 ∷ 4 ∷ 2 ∷ 255 ∷ 255 ∷ 255 ∷ 4 ∷ 4 ∷ 4 ∷ []

unfoldable pub least_of : ℕ → ℕ
least_of id = get_or least_table id 255

-- "Payload bytes beyond a fixed layout are ignored": no variable part; the next submessage begins behind the payload
abbrev pub plain_at : Submessage → ℕ → ℕ → Result (Submessage × Span × Cursor) Refusal
plain_at m p len = Ok (m, (record { start = p + len; len = 0 }), (record { at = p + len }))

-- strings and data are all that follows the fixed bytes of a layout
abbrev pub bodied_at : Submessage → ℕ → ℕ → ℕ → Result (Submessage × Span × Cursor) Refusal
bodied_at m fixed p len = Ok (m, (record { start = p + fixed; len = len - fixed }), (record { at = p + len }))

-- 0x00 CREATE_CLIENT: key 4, properties 1
abbrev pub create_client_at : List ℕ → ℕ → Submessage
create_client_at s p = CreateClient (record { client_key = quad_at s p; properties = get_or s (p + 4) 0 })

-- 0x01 CREATE: object 2, kind 1, parent 2, strings
abbrev pub create_of : List ℕ → ℕ → ℕ → Result ObjectKind Refusal → Result (Submessage × Span × Cursor) Refusal
create_of s p len (Ok k) =
    bodied_at (Create (record { object_id = record { 0 = word_at s p }; kind = k; parent_id = word_at s (p + 3) })) 5 p len
create_of s p len (Err r) = Err r

unfoldable pub create_at : List ℕ → ℕ → ℕ → Result (Submessage × Span × Cursor) Refusal
create_at s p len = create_of s p len (kind_of (get_or s (p + 2) 0))

-- 0x02 DELETE: object 2
abbrev pub delete_at : List ℕ → ℕ → Submessage
delete_at s p = Delete (record { object_id = record { 0 = word_at s p } })

-- 0x05 STATUS: object 2, code 1
abbrev pub status_of : List ℕ → ℕ → ℕ → Result StatusCode Refusal → Result (Submessage × Span × Cursor) Refusal
status_of s p len (Ok k) = plain_at (Status (record { related_object_id = record { 0 = word_at s p }; status = k })) p len
status_of s p len (Err r) = Err r

unfoldable pub status_at : List ℕ → ℕ → ℕ → Result (Submessage × Span × Cursor) Refusal
status_at s p len = status_of s p len (code_of (get_or s (p + 2) 0))

-- 0x07 WRITE_DATA: writer 2, data
abbrev pub write_data_at : List ℕ → ℕ → Submessage
write_data_at s p = WriteData (record { writer_id = record { 0 = word_at s p } })

-- 0x08 READ_DATA: reader 2, samples 2
abbrev pub read_data_at : List ℕ → ℕ → Submessage
read_data_at s p = ReadData (record { reader_id = record { 0 = word_at s p }; max_samples = word_at s (p + 2) })

-- 0x09 DATA: reader 2, data
abbrev pub data_at : List ℕ → ℕ → Submessage
data_at s p = Data (record { reader_id = record { 0 = word_at s p } })

-- 0x0D HEARTBEAT: first 2, last 2
abbrev pub heartbeat_at : List ℕ → ℕ → Submessage
heartbeat_at s p = Heartbeat (record { first_unacked_seq = word_at s p; last_seq = word_at s (p + 2) })

-- 0x0E ACKNACK: first 2, bitmap 2
abbrev pub acknack_at : List ℕ → ℕ → Submessage
acknack_at s p = Acknack (record { first_unacked_seq = word_at s p; nack_bitmap = word_at s (p + 2) })

-- 0x0F FRAGMENT (document 02, W6): number 2, total 2, body
abbrev pub fragment_at : List ℕ → ℕ → Submessage
fragment_at s p = Fragment (record { fragment_nr = word_at s p; total_fragments = word_at s (p + 2) })

-- "The submessage id alone decides which layout is read"
unfoldable pub layout_at : List ℕ → ℕ → ℕ → ℕ → Result (Submessage × Span × Cursor) Refusal
layout_at s id p len =
    cond (eqb id 0x00) (plain_at (create_client_at s p) p len)
    (cond (eqb id 0x01) (create_at s p len)
    (cond (eqb id 0x02) (plain_at (delete_at s p) p len)
    (cond (eqb id 0x05) (status_at s p len)
    (cond (eqb id 0x07) (bodied_at (write_data_at s p) 2 p len)
    (cond (eqb id 0x08) (plain_at (read_data_at s p) p len)
    (cond (eqb id 0x09) (bodied_at (data_at s p) 2 p len)
    (cond (eqb id 0x0D) (plain_at (heartbeat_at s p) p len)
    (cond (eqb id 0x0E) (plain_at (acknack_at s p) p len)
    (cond (eqb id 0x0F) (bodied_at (fragment_at s p) 4 p len)
    (Err (UnknownSubmessageId id)))))))))))
