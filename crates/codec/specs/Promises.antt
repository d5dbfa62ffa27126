-- What is promised of the wire, as statements; `proofs/Promises.antt` proves each.
use Rattle.std.specs.Prelude.{ℕ, ◌≤◌, ◌<◌, ◌+◌, ◌≡◌, Bool, true, false, ◌||◌, List, [], ◌∷◌, ◌++◌, map, length, drop}
use Rattle.codec.specs.Answers.{gives, refused_as, checked_answer, rebuilt_answer, string_answer}
use Rattle.codec.specs.Bytes.{AllBytes, word_at}
use Rattle.codec.specs.Header.{header_bytes}
use Rattle.codec.specs.Reading.{part_of, check_of}
use Rattle.codec.specs.Writing.{carried, payload_bytes, sub_bytes}
use Rattle.codec.specs.Strings.{string_bytes, span_at, string_at}
use Rattle.codec.specs.Text.{IsText, well_formed}
use Rattle.codec.specs.Grammar.{Said, Ranged, HeaderRanged, IsString, Subs, IsMessage, reading, says}
use Rattle.codec.specs.Rebuilt.{barred, rebuilt_of, rebuilt_reading}
use Rattle.codec.specs.declared.header.MessageHeader.{MessageHeader}
use Rattle.codec.specs.declared.layouts.Span.{Span}

-- "a datagram is accepted exactly if the layouts allow it", and read as they say
abbrev pub ReadsExactly : Type 0
ReadsExactly =
    (s : List ℕ) → AllBytes s → (h : MessageHeader) (xs : List Said)
    → (IsMessage h xs s → reading s ≡ says h xs) × (reading s ≡ says h xs → IsMessage h xs s)

-- the check of a whole datagram goes by the same reading: its header and the number of its submessages, or the number of its refusal
abbrev pub ChecksWhole : Type 0
ChecksWhole =
    (s : List ℕ)
    → ((h : MessageHeader) (xs : List Said) → reading s ≡ says h xs → checked_answer (check_of s) ≡ gives (h, length xs))
    × ((number byte : ℕ) → reading s ≡ refused_as number byte → checked_answer (check_of s) ≡ refused_as number byte)

-- one of them is "a FRAGMENT or CREATE_CLIENT"
abbrev pub one_barred : List Said → Bool
one_barred [] = false
one_barred (x ∷ xs) = barred x.fields || one_barred xs

-- document 02, W6, the check of rebuilt bytes: it gives a number exactly if the bytes are, by the grammar, that many submessages, one at
-- least, none of them a FRAGMENT or CREATE_CLIENT, and then they are what is read
pub record RebuiltExactly (s : List ℕ) : Type 0 where
  pub accepts : (x : Said) (xs : List Said) → Subs (x ∷ xs) s → one_barred (x ∷ xs) ≡ false
      → (rebuilt_answer (rebuilt_of s) ≡ gives (length (x ∷ xs))) × (rebuilt_reading s ≡ x ∷ xs)
  pub only : (n : ℕ) → rebuilt_answer (rebuilt_of s) ≡ gives n
      → Subs (rebuilt_reading s) s × (one_barred (rebuilt_reading s) ≡ false) × (length (rebuilt_reading s) ≡ n) × (0 < n)
  -- "then 17, a FRAGMENT or CREATE_CLIENT among them"
  pub bars : (xs : List Said) → Subs xs s → one_barred xs ≡ true → rebuilt_answer (rebuilt_of s) ≡ refused_as 17 0
  -- "On any of these no rebuilt submessage takes effect"
  pub nothing : (number byte : ℕ) → rebuilt_answer (rebuilt_of s) ≡ refused_as number byte → rebuilt_reading s ≡ []

abbrev pub ChecksRebuilt : Type 0
ChecksRebuilt = (s : List ℕ) → AllBytes s → RebuiltExactly s

-- the bytes of a message: its header, then each submessage as `write_submessage` writes it
abbrev pub subs_bytes : List Said → List ℕ
subs_bytes [] = []
subs_bytes (x ∷ xs) = sub_bytes x.fields x.body ++ subs_bytes xs

unfoldable pub written : MessageHeader → List Said → List ℕ
written h xs = header_bytes h ++ subs_bytes xs

-- "A message of no submessages is written as its four header bytes."
abbrev pub HeaderAlone : Type 0
HeaderAlone = (h : MessageHeader) → written h [] ≡ header_bytes h

-- what can be written: numbers in their ranges, payloads up to 65,535 bytes
abbrev pub Writable : List Said → Type 0
Writable [] = Unit
Writable (x ∷ xs) = (Ranged x.fields × (length (payload_bytes x.fields x.body) ≤ 65535)) × Writable xs

-- what of it is written: the whole body of CREATE, WRITE_DATA, DATA and FRAGMENT; the other layouts carry none
abbrev pub kept : Said → Said
kept x = record { fields = x.fields; body = carried x.fields x.body }

-- "written messages read back equal"
abbrev pub ReadsBack : Type 0
ReadsBack =
    (h : MessageHeader) (x : Said) (xs : List Said) → HeaderRanged h → Writable (x ∷ xs)
    → reading (written h (x ∷ xs)) ≡ says h (map kept (x ∷ xs))

-- "So written bytes need not equal those once read": flags and ignored bytes are gone, and what the message says is the same
abbrev pub SaysTheSame : Type 0
SaysTheSame =
    (s : List ℕ) → AllBytes s → (h : MessageHeader) (xs : List Said) → reading s ≡ says h xs
    → reading (written h xs) ≡ says h xs

-- document 02, W7: the bytes that a string may have are RFC 3629's text, "overlong forms and surrogates" being in none of its rows
abbrev pub TextExactly : Type 0
TextExactly = (s : List ℕ) → (IsText s → well_formed s ≡ true) × (well_formed s ≡ true → IsText s)

-- a string is read exactly if one stands there by the grammar, and it is given; else it is refused, as 1 if it is cut short, and as 18 "after 1"
pub record StringExactly (s : List ℕ) (at : ℕ) : Type 0 where
  pub accepts : (text behind : List ℕ) → IsString text behind (drop at s)
      → (string_answer (string_at s at) ≡ gives (span_at s at)) × (part_of s (span_at s at) ≡ text) × (drop (at + 2 + word_at s at) s ≡ behind)
  pub only : (x : Span) → string_answer (string_at s at) ≡ gives x → (x ≡ span_at s at) × IsString (part_of s x) (drop (x.start + x.len) s) (drop at s)
  pub short : length s < at + 2 + word_at s at → string_answer (string_at s at) ≡ refused_as 1 0
  pub ill : at + 2 + word_at s at ≤ length s → (IsText (part_of s (span_at s at)) → ⊥) → string_answer (string_at s at) ≡ refused_as 18 0

abbrev pub ReadsStrings : Type 0
ReadsStrings = (s : List ℕ) → AllBytes s → (at : ℕ) → StringExactly s at

-- a string that was written, wherever it stands, reads back if it is text: its span is found, and that part of the bytes is the string
abbrev pub StringsReadBack : Type 0
StringsReadBack =
    (before text behind : List ℕ) → length text ≤ 65535 → IsText text
    → (span : Span) × (string_answer (string_at (before ++ (string_bytes text ++ behind)) (length before)) ≡ gives span)
    × (part_of (before ++ (string_bytes text ++ behind)) span ≡ text)
