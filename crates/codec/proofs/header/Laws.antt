-- Each answer to the reading of a header, by where the bytes end.
use Prim.Native.Nat.{ℕ, ◌+◌, ◌≤◌, ◌<◌}
use mathlib.Core.Path.{◌≡◌}
use native.Mathlib.Decide.{dec_le}
use native.Mathlib.Nat.{lt_of_not-le}
use native.Mathlib.Omega.{arith}
use mathlib.Core.List.{List}
use borrow.Author.Tests.{lt-ltb, le-ltb}
use lib.ListN.{length}
use Rattle.codec.specs.Header.{header_read, header_of, sub_header_read, sub_header_of}
use Rattle.codec.specs.declared.refusals.Refusal.{Refusal}
use Rattle.codec.specs.declared.refusals.Refusal.TheVariants.{BufferTooShort}
use Rattle.codec.specs.declared.header.MessageHeader.{MessageHeader}
use Rattle.codec.specs.declared.header.SubmessageHeader.{SubmessageHeader}
use Rattle.std.specs.Prelude.{Err, Ok}

pub header_short : (s : List ℕ) → length s < 4 → Err BufferTooShort ≡ header_read s
unfolding header_read
header_short s h = rw (lt-ltb (length s) 4 h)

pub header_there : (s : List ℕ) → 4 ≤ length s → Ok (header_of s) ≡ header_read s
unfolding header_read
header_there s h = rw (le-ltb (length s) 4 h)

pub sub_header_short : (s : List ℕ) (at : ℕ) → length s < at + 4 → Err BufferTooShort ≡ sub_header_read s at
unfolding sub_header_read
sub_header_short s at h = rw (lt-ltb (length s) (at + 4) h)

pub sub_header_there : (s : List ℕ) (at : ℕ) → at + 4 ≤ length s → Ok (sub_header_of s at) ≡ sub_header_read s at
unfolding sub_header_read
sub_header_there s at h = rw (le-ltb (length s) (at + 4) h)

-- an answer tells where the bytes end, and what it is
pub header_is : (s : List ℕ) (h : MessageHeader) → header_read s ≡ Ok h → (4 ≤ length s) × (h ≡ header_of s)
header_is s h e =
    elim (dec_le 4 (length s)) [
      | yes k ↦ (k, cc (header_there s k))
      | no k ↦ let z : ◌≡◌ {A = ℕ} 0 1 = cc (header_short s (lt_of_not-le k)) in absurd (omega arith)
    ]

pub header_none : (s : List ℕ) (r : Refusal) → header_read s ≡ Err r → (length s < 4) × (r ≡ BufferTooShort)
header_none s r e =
    elim (dec_le 4 (length s)) [
      | yes k ↦ let z : ◌≡◌ {A = ℕ} 0 1 = cc (header_there s k) in absurd (omega arith)
      | no k ↦ (lt_of_not-le k, cc (header_short s (lt_of_not-le k)))
    ]

pub sub_header_is : (s : List ℕ) (at : ℕ) (h : SubmessageHeader) → sub_header_read s at ≡ Ok h
    → (at + 4 ≤ length s) × (h ≡ sub_header_of s at)
sub_header_is s at h e =
    elim (dec_le (at + 4) (length s)) [
      | yes k ↦ (k, cc (sub_header_there s at k))
      | no k ↦ let z : ◌≡◌ {A = ℕ} 0 1 = cc (sub_header_short s at (lt_of_not-le k)) in absurd (omega arith)
    ]
