-- Document 01, "The wire", as a grammar: which bytes are a message, and what it says.
use Rattle.std.specs.Prelude.{ℕ, ◌<◌, ◌^◌, ◌≡◌, List, [], ◌∷◌, ◌++◌, map, length}
use Rattle.codec.specs.Answers.{Answer, gives, refusal}
use Rattle.codec.specs.Bytes.{le16}
use Rattle.codec.specs.Header.{header_bytes}
use Rattle.codec.specs.Submessages.{id_of}
use Rattle.codec.specs.Strings.{string_bytes}
use Rattle.codec.specs.Text.{IsText}
use Rattle.codec.specs.Writing.{fixed_bytes}
use Rattle.codec.specs.Reading.{Item, Message, message, refused, message_of, part_of}
use Rattle.codec.specs.declared.header.MessageHeader.{MessageHeader}
use Rattle.codec.specs.declared.submessages.Submessage.{Submessage}
use Rattle.codec.specs.declared.submessages.Submessage.TheVariants.{CreateClient, Create, Delete, Status, WriteData, ReadData, Data, Heartbeat, Acknack, Fragment}

-- what a submessage says: its fixed fields, and the bytes of its variable part
pub record Said : Type 0 where
  pub fields : Submessage
  pub body : List ℕ

-- each number fits the bytes that the table gives it
unfoldable pub Ranged : Submessage → Type 0
Ranged (CreateClient p) = (p.client_key < 2 ^ 32) × (p.properties < 2 ^ 8)
Ranged (Create p) = (p.object_id.0 < 2 ^ 16) × (p.parent_id < 2 ^ 16)
Ranged (Delete p) = p.object_id.0 < 2 ^ 16
Ranged (Status p) = p.related_object_id.0 < 2 ^ 16
Ranged (WriteData p) = p.writer_id.0 < 2 ^ 16
Ranged (ReadData p) = (p.reader_id.0 < 2 ^ 16) × (p.max_samples < 2 ^ 16)
Ranged (Data p) = p.reader_id.0 < 2 ^ 16
Ranged (Heartbeat p) = (p.first_unacked_seq < 2 ^ 16) × (p.last_seq < 2 ^ 16)
Ranged (Acknack p) = (p.first_unacked_seq < 2 ^ 16) × (p.nack_bitmap < 2 ^ 16)
Ranged (Fragment p) = (p.fragment_nr < 2 ^ 16) × (p.total_fragments < 2 ^ 16)

unfoldable pub HeaderRanged : MessageHeader → Type 0
HeaderRanged h = (h.session_id < 2 ^ 8) × (h.stream_id < 2 ^ 8) × (h.sequence_nr < 2 ^ 16)

-- the kinds whose payload ends in strings, data or a fragment's body
abbrev pub Bodied : Submessage → Type 0
Bodied (Create p) = Unit
Bodied (WriteData p) = Unit
Bodied (Data p) = Unit
Bodied (Fragment p) = Unit
Bodied (CreateClient p) = ⊥
Bodied (Delete p) = ⊥
Bodied (Status p) = ⊥
Bodied (ReadData p) = ⊥
Bodied (Heartbeat p) = ⊥
Bodied (Acknack p) = ⊥

-- the payload of a kind: its fixed bytes, then strings, data or a body; "Payload bytes beyond a fixed layout are ignored"
pub data Payload : Submessage → List ℕ → List ℕ → Type 0 where
  bodied : (m : Submessage) (body : List ℕ) → Bodied m → Payload m body (fixed_bytes m ++ body)
  plain : (m : Submessage) (ignored : List ℕ) → (Bodied m → ⊥) → Payload m [] (fixed_bytes m ++ ignored)

-- "A string is a length (2) and its bytes."; W7: they are text. Behind it stands something else, or nothing.
pub record IsString (text behind bytes : List ℕ) : Type 0 where
  pub stands : bytes ≡ string_bytes text ++ behind
  pub long : length text < 2 ^ 16
  pub is_text : IsText text

-- "Submessage: id, flags (a byte each), length (2), payload."; "flags are read and dropped"
pub data OneSub : Said → List ℕ → Type 0 where
  one : (m : Submessage) (body payload : List ℕ) (flags : ℕ) → Ranged m → Payload m body payload → length payload < 2 ^ 16
      → OneSub (record { fields = m; body = body }) ((id_of m ∷ flags ∷ le16 (length payload)) ++ payload)

pub data Subs : List Said → List ℕ → Type 0 where
  none : Subs [] []
  next : {x : Said} {xs : List Said} {a b : List ℕ} → OneSub x a → Subs xs b → Subs (x ∷ xs) (a ++ b)

-- a message: a header and at least one submessage, and nothing else
pub data IsMessage : MessageHeader → List Said → List ℕ → Type 0 where
  whole : (h : MessageHeader) (x : Said) (xs : List Said) (bytes : List ℕ) → HeaderRanged h → Subs (x ∷ xs) bytes → IsMessage h (x ∷ xs) (header_bytes h ++ bytes)

-- what a datagram says in these terms, or the number of its refusal; a span stands for the bytes of that part
abbrev pub says : MessageHeader → List Said → Answer (MessageHeader × List Said)
says h xs = gives (h, xs)

abbrev pub said_in : List ℕ → Item → Said
said_in s x = record { fields = x.says; body = part_of s x.span }

abbrev pub reading_of : List ℕ → Message → Answer (MessageHeader × List Said)
reading_of s (message h xs) = says h (map (said_in s) xs)
reading_of s (refused r) = refusal r

unfoldable pub reading : List ℕ → Answer (MessageHeader × List Said)
reading s = reading_of s (message_of s)
