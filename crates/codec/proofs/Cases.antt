-- Document 01's lettered cases a, b, c and k, as one table.
use Prim.Native.Nat.{ℕ}
use mathlib.Core.Path.{◌≡◌, refl}
use mathlib.Core.List.{List, [], ◌∷◌}
use Rattle.codec.specs.Answers.{Answer, refused_as, checked_answer}
use Rattle.codec.specs.Bytes.{word_at, le16}
use Rattle.codec.specs.Cutting.{fragment_bytes, cut_off, bodies, numbered, cut}
use Rattle.codec.specs.Header.{header_of, sub_header_read, sub_header_of}
use Rattle.codec.specs.Layouts.{least_of, layout_at}
use Rattle.codec.specs.Reading.{part_of, payload_at, read_at, items_in, items_at, message_of, check_of}
use Rattle.codec.specs.Grammar.{Said, says, reading}
use Rattle.codec.specs.declared.header.MessageHeader.{MessageHeader}
use Rattle.codec.specs.declared.submessages.Submessage.TheVariants.{Delete}

-- "session 1, stream 0, sequence 5, DELETE 3"
abbrev pub delete3 : Answer (MessageHeader × List Said)
delete3 =
    says (record { session_id = 1; stream_id = 0; sequence_nr = 5 })
    (record { fields = Delete (record { object_id = record { 0 = 3 } }); body = [] } ∷ [])

-- a with 09 added alone
abbrev pub c_bytes : List ℕ
c_bytes = 1 ∷ 0 ∷ 5 ∷ 0 ∷ 2 ∷ 0 ∷ 2 ∷ 0 ∷ 3 ∷ 0 ∷ 9 ∷ []

-- a fragment of ten bytes cut at 4, with its header's four bytes written out
abbrev pub CutAt4 : Type 0
CutAt4 =
    (b₀ b₁ b₂ b₃ b₄ b₅ b₆ b₇ b₈ b₉ : ℕ)
    → cut 4 (b₀ ∷ b₁ ∷ b₂ ∷ b₃ ∷ b₄ ∷ b₅ ∷ b₆ ∷ b₇ ∷ b₈ ∷ b₉ ∷ [])
    ≡ (0x00 ∷ 0x00 ∷ 0x03 ∷ 0x00 ∷ b₀ ∷ b₁ ∷ b₂ ∷ b₃ ∷ [])
    ∷ (0x01 ∷ 0x00 ∷ 0x03 ∷ 0x00 ∷ b₄ ∷ b₅ ∷ b₆ ∷ b₇ ∷ [])
    ∷ (0x02 ∷ 0x00 ∷ 0x03 ∷ 0x00 ∷ b₈ ∷ b₉ ∷ [])
    ∷ []

pub record Table : Type 0 where
  -- "a: 01 00 05 00 02 00 02 00 03 00 is session 1, stream 0, sequence 5, DELETE 3."
  pub a : reading (1 ∷ 0 ∷ 5 ∷ 0 ∷ 2 ∷ 0 ∷ 2 ∷ 0 ∷ 3 ∷ 0 ∷ []) ≡ delete3
  -- "b: the same with length 3 and 09 added reads equal to a"
  pub b : reading (1 ∷ 0 ∷ 5 ∷ 0 ∷ 2 ∷ 0 ∷ 3 ∷ 0 ∷ 3 ∷ 0 ∷ 9 ∷ []) ≡ delete3
  -- "c: 09 added alone is refused as 1"
  pub c : (reading c_bytes ≡ refused_as 1 0) × (checked_answer (check_of c_bytes) ≡ refused_as 1 0)
  -- "k: 10 bytes cut at 4 give bodies 4, 4, 2, the last led by 02 00 03 00."
  pub k : CutAt4

pub cases : Table
unfolding reading check_of message_of items_at items_in read_at sub_header_read sub_header_of payload_at least_of layout_at header_of word_at part_of cut bodies cut_off numbered fragment_bytes le16
cases = record { a = refl; b = refl; c = (refl, refl); k = λ b₀ b₁ b₂ b₃ b₄ b₅ b₆ b₇ b₈ b₉. refl }
