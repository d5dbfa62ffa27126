-- A message written by a host's calls: `MessageHeader::write`, then `write_submessage` for each submessage at the running place.
-- A call is what the contracts of these functions cite; the host stops at the first refusal.
use Rattle.std.specs.Prelude.{ℕ, ◌+◌, ◌-◌, ◌<◌, ◌≤◌, ◌≡◌, List, [], ◌∷◌, ◌++◌, map, length, take, drop}
use Rattle.codec.specs.Answers.{Answer, gives, refused_as, written_answer}
use Rattle.codec.specs.Bytes.{put_at, put_of, put_bytes, write_of, write_bytes}
use Rattle.codec.specs.Header.{header_bytes}
use Rattle.codec.specs.Writing.{payload_bytes, sub_bytes, message_bytes}
use Rattle.codec.specs.Grammar.{Said, Ranged, HeaderRanged, reading, says}
use Rattle.codec.specs.Promises.{written, kept}
use Rattle.codec.specs.declared.header.MessageHeader.{MessageHeader}

-- what calls have come to: the output and the place behind what is written, or the number of the refusal with the output and the place
-- of the refused call
pub data Wrote : Type 0 where
  goes : List ℕ → ℕ → Wrote
  stops : ℕ → List ℕ → ℕ → Wrote

-- a call at `at` that gave this answer and left this output; the host goes on behind what it wrote
abbrev pub called : ℕ → Answer ℕ → List ℕ → (List ℕ → ℕ → Wrote) → Wrote
called at (gives n) out onward = onward out (at + n)
called at (refused_as number byte) out onward = stops number out at

-- `write_submessage` for each, at the running place
unfoldable pub writes_subs : List Said → List ℕ → ℕ → Wrote
writes_subs [] out at = goes out at
writes_subs (x ∷ xs) out at =
    called at
    (written_answer (write_of (length (payload_bytes x.fields x.body)) out at (sub_bytes x.fields x.body)))
    (write_bytes (length (payload_bytes x.fields x.body)) out at (sub_bytes x.fields x.body))
    (λ out' at'. writes_subs xs out' at')

-- `MessageHeader::write` at `at`, then the submessages
unfoldable pub writes : MessageHeader → List Said → List ℕ → ℕ → Wrote
writes h xs out at = called at (written_answer (put_of out at (header_bytes h))) (put_bytes out at (header_bytes h)) (writes_subs xs)

-- no payload is over 65,535 bytes
abbrev pub Short : List Said → Type 0
Short [] = Unit
Short (x ∷ xs) = (length (payload_bytes x.fields x.body) ≤ 65535) × Short xs

-- what the calls leave, for any header, submessages, output and place. What stands before and behind the bytes written stays (`put_at`).
pub data Leaves (h : MessageHeader) (xs : List Said) (out : List ℕ) (at : ℕ) : Wrote → Type 0 where
  -- none is refused: exactly the message
  whole : Short xs → at + length (written h xs) ≤ length out
      → Leaves h xs out at (goes (put_at out at (written h xs)) (at + length (written h xs)))
  -- 13, no room for the header: the output is as it was
  no_room : length out < at + 4 → Leaves h xs out at (stops 13 out at)
  -- 12, a payload over 65,535 bytes: what the calls before it left, the beginning of the message
  too_long : (done : List Said) (x : Said) (more : List Said) → xs ≡ done ++ (x ∷ more) → Short done → at + length (written h done) ≤ length out
      → 65535 < length (payload_bytes x.fields x.body)
      → Leaves h xs out at (stops 12 (put_at out at (written h done)) (at + length (written h done)))
  -- 13, no room for a submessage: likewise
  too_short : (done : List Said) (x : Said) (more : List Said) → xs ≡ done ++ (x ∷ more) → Short done → at + length (written h done) ≤ length out
      → length (payload_bytes x.fields x.body) ≤ 65535 → length out < at + length (written h done) + length (sub_bytes x.fields x.body)
      → Leaves h xs out at (stops 13 (put_at out at (written h done)) (at + length (written h done)))

abbrev pub CallsLeave : Type 0
CallsLeave = (h : MessageHeader) (xs : List Said) (out : List ℕ) (at : ℕ) → Leaves h xs out at (writes h xs out at)

-- with room for the message and no payload over 65,535 bytes no call is refused
abbrev pub NoneRefused : Type 0
NoneRefused =
    (h : MessageHeader) (xs : List Said) (out : List ℕ) (at : ℕ) → Short xs → at + length (written h xs) ≤ length out
    → writes h xs out at ≡ goes (put_at out at (written h xs)) (at + length (written h xs))

-- each number fits the bytes that the table gives it
abbrev pub AllRanged : List Said → Type 0
AllRanged [] = Unit
AllRanged (x ∷ xs) = Ranged x.fields × AllRanged xs

-- "written messages read back equal": what calls have written, none refused, is read as the header and the submessages
abbrev pub CallsReadBack : Type 0
CallsReadBack =
    (h : MessageHeader) (x : Said) (xs : List Said) (out : List ℕ) (at : ℕ) (output : List ℕ) (place : ℕ)
    → HeaderRanged h → AllRanged (x ∷ xs) → writes h (x ∷ xs) out at ≡ goes output place
    → reading (take (place - at) (drop at output)) ≡ says h (map kept (x ∷ xs))

-- `write_message` writes a message of one submessage
abbrev pub MessageWritten : Type 0
MessageWritten = (h : MessageHeader) (x : Said) → message_bytes h x.fields x.body ≡ written h (x ∷ [])

-- what one call answers: 12 exactly if the payload is over 65,535 bytes, else 13 exactly if the room is short
pub record Answered (n : ℕ) (out : List ℕ) (at : ℕ) (bytes : List ℕ) : Type 0 where
  pub long : 65535 < n → written_answer (write_of n out at bytes) ≡ refused_as 12 0
  pub only_long : written_answer (write_of n out at bytes) ≡ refused_as 12 0 → 65535 < n
  pub short : n ≤ 65535 → length out < at + length bytes → written_answer (write_of n out at bytes) ≡ refused_as 13 0
  pub only_short : written_answer (write_of n out at bytes) ≡ refused_as 13 0 → (n ≤ 65535) × (length out < at + length bytes)
  pub fits : n ≤ 65535 → at + length bytes ≤ length out → written_answer (write_of n out at bytes) ≡ gives (length bytes)

abbrev pub AnswersExactly : Type 0
AnswersExactly = (n : ℕ) (out : List ℕ) (at : ℕ) (bytes : List ℕ) → Answered n out at bytes
