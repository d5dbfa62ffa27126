-- Document 01, corners of protocol.rs: what reading a datagram gives, a submessage at a time and whole.
use Rattle.std.specs.Prelude.{ℕ, zero, suc, ◌+◌, ◌-◌, cond, List, [], ◌∷◌, eqb, leb, ltb, length, take, drop, Err, Ok, Result}
use Rattle.codec.specs.Answers.{number_in, parsed_answer}
use Rattle.codec.specs.Header.{header_of, sub_header_read}
use Rattle.codec.specs.Layouts.{least_of, layout_at}
use Rattle.codec.specs.declared.header.MessageHeader.{MessageHeader}
use Rattle.codec.specs.declared.layouts.Span.{Span}
use Rattle.codec.specs.declared.refusals.Refusal.{Refusal}
use Rattle.codec.specs.declared.refusals.Refusal.TheVariants.{BufferTooShort, UnknownSubmessageId, PayloadLengthMismatch}
use Rattle.codec.specs.declared.submessages.Submessage.{Submessage}
use Rattle.codec.specs.declared.layouts.Cursor.{Cursor}
use Rattle.codec.specs.declared.header.SubmessageHeader.{SubmessageHeader}

-- "the data bytes are handed back as that part of the datagram"; a span that runs past the end is no part of it
unfoldable pub part_of : List ℕ → Span → List ℕ
part_of s x = cond (leb (x.start + x.len) (length s)) (take x.len (drop x.start s)) []

-- "Per submessage: four header bytes, then the whole payload, then a known id, then the least length, then kind or status code."
-- These rules stand here once: `read` gives what they say, and `check` goes by where a submessage ends or why it is refused.
unfoldable pub payload_at : List ℕ → ℕ → ℕ → ℕ → Result (Submessage × Span × Cursor) Refusal
payload_at s id p len =
    cond (ltb (length s) (p + len)) (Err BufferTooShort)
    (cond (eqb (least_of id) 255) (Err (UnknownSubmessageId id))
    (cond (ltb len (least_of id)) (Err PayloadLengthMismatch)
    (layout_at s id p len)))

abbrev pub behind : List ℕ → ℕ → Result SubmessageHeader Refusal → Result (Submessage × Span × Cursor) Refusal
behind s at (Ok h) = payload_at s h.submessage_id (at + 4) h.length
behind s at (Err r) = Err r

unfoldable pub read_at : List ℕ → ℕ → Result (Submessage × Span × Cursor) Refusal
read_at s at = behind s at (sub_header_read s at)

-- the number of the first failure of the submessage at a place, 0 where there is none
unfoldable pub failure_at : List ℕ → ℕ → ℕ
failure_at s at = number_in (parsed_answer (read_at s at))

-- where a submessage that was read ends, or its refusal
abbrev pub end_of : Result (Submessage × Span × Cursor) Refusal → Result ℕ Refusal
end_of (Ok (m, x, c)) = Ok c.at
end_of (Err r) = Err r

unfoldable pub end_at : List ℕ → ℕ → Result ℕ Refusal
end_at s at = end_of (read_at s at)

-- one submessage of a datagram: its fixed fields, and where its variable part stands
pub record Item : Type 0 where
  pub says : Submessage
  pub span : Span

-- the submessages of a datagram, or the refusal of the whole
pub data Items : Type 0 where
  items : List Item → Items
  stopped : Refusal → Items

abbrev pub before : Item → Items → Items
before x (items xs) = items (x ∷ xs)
before x (stopped r) = stopped r

-- "The first failure refuses the whole datagram."
abbrev pub onward : Result (Submessage × Span × Cursor) Refusal → (ℕ → Items) → Items
onward (Ok (m, x, c)) go = before (record { says = m; span = x }) (go c.at)
onward (Err r) go = stopped r

-- the submessages from a place to the end; each takes bytes, so there are no more of them than bytes left
unfoldable pub items_in : ℕ → List ℕ → ℕ → Items
items_in zero s at = items []
items_in (suc left) s at = cond (ltb at (length s)) (onward (read_at s at) (λ next. items_in left s next)) (items [])

unfoldable pub items_at : List ℕ → ℕ → Items
items_at s at = items_in (length s - at) s at

-- what a datagram says: its header and its submessages, or why it is refused
pub data Message : Type 0 where
  message : MessageHeader → List Item → Message
  refused : Refusal → Message

abbrev pub under : MessageHeader → Items → Message
under h (items xs) = message h xs
under h (stopped r) = refused r

-- "A header alone is refused as 1."
unfoldable pub message_of : List ℕ → Message
message_of s = cond (leb (length s) 4) (refused BufferTooShort) (under (header_of s) (items_at s 4))

-- what the check answers of it: the header and the number of submessages, or the refusal
abbrev pub checked_of : Message → Result (MessageHeader × ℕ) Refusal
checked_of (message h xs) = Ok (h, (length xs))
checked_of (refused r) = Err r

unfoldable pub count_at : MessageHeader → List ℕ → ℕ → Result (MessageHeader × ℕ) Refusal
count_at h s at = checked_of (under h (items_at s at))

unfoldable pub check_of : List ℕ → Result (MessageHeader × ℕ) Refusal
check_of s = checked_of (message_of s)
