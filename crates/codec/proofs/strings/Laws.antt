-- Laws of strings: each answer to reading one, its bytes written in two pieces, and that a string written reads back.
use Prim.Native.Nat.{ℕ, ◌+◌, ◌≤◌, ◌<◌}
use mathlib.Core.Path.{◌≡◌, sym, ◌∙◌}
use mathlib.Core.Bool.{true, false, cond}
use mathlib.Core.List.{List}
use native.Mathlib.Omega.{arith}
use borrow.Author.Tests.{lt-ltb, le-ltb}
use lib.ListN.{length, length-append}
use Rattle.codec.specs.Bytes.{word_at, le16, put_at}
use Rattle.codec.specs.Reading.{part_of}
use Rattle.codec.specs.Strings.{string_bytes, span_at, string_at}
use Rattle.codec.specs.Text.{well_formed}
use Rattle.codec.specs.declared.refusals.Refusal.TheVariants.{BufferTooShort, IllFormed}
use Rattle.codec.proofs.bytes.Laws.{put_behind, fits_yes, fits_no}
use Rattle.std.specs.Prelude.{Err, Ok}

module _ (s : List ℕ) (at : ℕ) where
  pub string_none : length s < at + 2 → Err BufferTooShort ≡ string_at s at
  unfolding string_at
  string_none h = rw (lt-ltb (length s) (at + 2) h)

  pub string_cut : at + 2 ≤ length s → length s < at + 2 + word_at s at → Err BufferTooShort ≡ string_at s at
  unfolding string_at
  string_cut h k = rw (le-ltb (length s) (at + 2) h, lt-ltb (length s) (at + 2 + word_at s at) k)

  -- it is whole: its bytes decide
  module _ (h : at + 2 + word_at s at ≤ length s) where
    pub string_told : cond (well_formed (part_of s (span_at s at))) (Ok (span_at s at)) (Err IllFormed) ≡ string_at s at
    unfolding string_at
    string_told = rw (le-ltb (length s) (at + 2) (omega arith), le-ltb (length s) (at + 2 + word_at s at) h)

    pub string_text : well_formed (part_of s (span_at s at)) ≡ true → Ok (span_at s at) ≡ string_at s at
    string_text e = sym (rw e) ∙ string_told

    pub string_ill : well_formed (part_of s (span_at s at)) ≡ false → Err IllFormed ≡ string_at s at
    string_ill e = sym (rw e) ∙ string_told

pub length_string : (text : List ℕ) → length (string_bytes text) ≡ 2 + length text
unfolding string_bytes le16
length_string text = length-append (le16 (length text)) text

pub string_put : (out : List ℕ) (at : ℕ) (text : List ℕ) → at + 2 + length text ≤ length out
    → put_at (put_at out at (le16 (length text))) (at + 2) text ≡ put_at out at (string_bytes text)
unfolding string_bytes le16
string_put out at text h = put_behind out at (le16 (length text)) text (omega arith)

-- the answers of `decode_string`
pub ruleset string_laws = (fits_yes, fits_no, string_none, string_cut, string_ill, string_text)
