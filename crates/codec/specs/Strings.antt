-- Document 01, "The wire": strings; document 02, W7: their bytes are text.
use Rattle.std.specs.Prelude.{ℕ, ◌+◌, cond, List, ◌++◌, ltb, length, Err, Ok, Result}
use Rattle.codec.specs.Bytes.{word_at, le16}
use Rattle.codec.specs.Reading.{part_of}
use Rattle.codec.specs.Text.{well_formed}
use Rattle.codec.specs.declared.layouts.Span.{Span}
use Rattle.codec.specs.declared.refusals.Refusal.TheVariants.{BufferTooShort, IllFormed}
use Rattle.codec.specs.declared.refusals.Refusal.{Refusal}

-- "A string is a length (2) and its bytes."
unfoldable pub string_bytes : List ℕ → List ℕ
string_bytes text = le16 (length text) ++ text

-- where the bytes of the string at a place stand
abbrev pub span_at : List ℕ → ℕ → Span
span_at s at = record { start = at + 2; len = word_at s at }

-- 1, "bytes missing": of the length, or of what it promises; W7: "18, ill-formed UTF-8, after 1"
unfoldable pub string_at : List ℕ → ℕ → Result Span Refusal
string_at s at =
    cond (ltb (length s) (at + 2)) (Err BufferTooShort)
    (cond (ltb (length s) (at + 2 + word_at s at)) (Err BufferTooShort)
    (cond (well_formed (part_of s (span_at s at))) (Ok (span_at s at)) (Err IllFormed)))
