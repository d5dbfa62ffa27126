-- Document 01, "The wire": the header of a message and of a submessage.
use Rattle.std.specs.Prelude.{ℕ, ◌+◌, cond, List, ◌∷◌, ltb, get_or, length, Err, Ok, Result}
use Rattle.codec.specs.Bytes.{word_at, le16}
use Rattle.codec.specs.declared.refusals.Refusal.TheVariants.{BufferTooShort}
use Rattle.codec.specs.declared.header.MessageHeader.{MessageHeader}
use Rattle.codec.specs.declared.header.SubmessageHeader.{SubmessageHeader}
use Rattle.codec.specs.declared.refusals.Refusal.{Refusal}

-- "Header: session, stream (a byte each), sequence (2)."
unfoldable pub header_of : List ℕ → MessageHeader
header_of s = record { session_id = get_or s 0 0; stream_id = get_or s 1 0; sequence_nr = word_at s 2 }

unfoldable pub header_bytes : MessageHeader → List ℕ
header_bytes h = h.session_id ∷ h.stream_id ∷ le16 h.sequence_nr

-- 1, "bytes missing"
unfoldable pub header_read : List ℕ → Result MessageHeader Refusal
header_read s = cond (ltb (length s) 4) (Err BufferTooShort) (Ok (header_of s))

-- "Submessage: id, flags (a byte each), length (2), payload."
unfoldable pub sub_header_of : List ℕ → ℕ → SubmessageHeader
sub_header_of s at = record { submessage_id = get_or s at 0; flags = get_or s (at + 1) 0; length = word_at s (at + 2) }

unfoldable pub sub_header_read : List ℕ → ℕ → Result SubmessageHeader Refusal
sub_header_read s at = cond (ltb (length s) (at + 4)) (Err BufferTooShort) (Ok (sub_header_of s at))
