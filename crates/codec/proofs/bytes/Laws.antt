-- Laws of `word_at`, `le16` and `put_at`.
use Prim.Native.Nat.{ℕ, zero, suc, ◌+◌, ◌-◌, ◌≤◌, ◌<◌, ◌/◌, ◌%◌}
use mathlib.Core.Path.{◌≡◌, refl, sym, ◌∙◌}
use mathlib.Core.List.{List, [], ◌∷◌, ◌++◌, append_assoc, append-nil}
use native.Mathlib.Numerals.{add-one}
use native.Mathlib.Nat.{not-suc-le-zero, le_of_suc-le-suc}
use native.Mathlib.Omega.{arith}
use native.Mathlib.Nat.{add_assoc, add-zero}
use lib.ListN.{get_or, length, take, drop, set, length-append, length-take, length-drop, take-append-drop}
use lib.Seq.{sets, sets-eq, paste, take-length, length-take-le, take_at, drop-append-add, drop-drop}
use mathlib.Core.Bool.{Bool, true, false}
use native.Mathlib.Decide.{dec_le}
use lib.Dec.{leb}
use borrow.Author.Tests.{lt-ltb, le-ltb, le-leb, lt-leb, leb-true, leb-false}
use Rattle.codec.specs.Bytes.{put_at, put_of, put_bytes, write_of, write_bytes, le16, le32}
use Rattle.codec.specs.declared.refusals.Refusal.TheVariants.{TooLong, OutputTooShort}
use mir.Syntax.{w32}
use Rattle.std.specs.Int.{to_le_bytes}
use Rattle.std.specs.Prelude.{Err, Ok}

-- stores one behind the other are one write
pub put_sets : (out : List ℕ) (at : ℕ) (bytes : List ℕ) → at + length bytes ≤ length out → sets out at bytes ≡ put_at out at bytes
unfolding put_at
put_sets out at bytes h = sets-eq bytes out at h

-- a copy that has come to the end of its source is one write
pub put_copied : (out : List ℕ) (at : ℕ) (bytes : List ℕ) → paste out at bytes (length bytes) ≡ put_at out at bytes
unfolding put_at
put_copied out at bytes = rw take-length

-- the two stores of a number
pub word_sets : (out : List ℕ) (at n : ℕ) → at + 2 ≤ length out → set (set out at (n % 256)) (at + 1) (n / 256 % 256) ≡ put_at out at (le16 n)
unfolding le16
word_sets out at n h = rw (add-one at) (put_sets out at (n % 256 ∷ n / 256 % 256 ∷ []) h)

-- the four bytes of a number, low byte first
pub quad_bytes : (n : ℕ) → to_le_bytes w32 n ≡ le32 n
unfolding le32 le16
quad_bytes n =
    let a : n % 65536 % 256 ≡ n % 256 = omega arith in
    let b : n % 65536 / 256 % 256 ≡ n / 256 % 256 = omega arith in
    let d : n / 65536 / 256 % 256 ≡ n / 16777216 % 256 = omega arith in
    rw (a, b, d)

-- 13, and what fits
pub put_short : (out : List ℕ) (at : ℕ) (bytes : List ℕ) → length out < at + length bytes
    → (Err OutputTooShort ≡ put_of out at bytes) × (out ≡ put_bytes out at bytes)
unfolding put_of put_bytes
put_short out at bytes h = rw (lt-ltb (length out) (at + length bytes) h) (refl, refl)

pub put_fits : (out : List ℕ) (at : ℕ) (bytes : List ℕ) → at + length bytes ≤ length out
    → (Ok (length bytes) ≡ put_of out at bytes) × (put_at out at bytes ≡ put_bytes out at bytes)
unfolding put_of put_bytes
put_fits out at bytes h = rw (le-ltb (length out) (at + length bytes) h) (refl, refl)

-- within the list the default doesn't matter
pub get_d_any : (l : List ℕ) (i d e : ℕ) → i < length l → get_or l i d ≡ get_or l i e
get_d_any [] i d e h = absurd (not-suc-le-zero h)
get_d_any (x ∷ xs) zero d e h = refl
get_d_any (x ∷ xs) (suc i) d e h = get_d_any xs i d e (le_of_suc-le-suc h)

-- ---- writes one behind the other

-- past a front of `n` elements
drop_past : (p q : List ℕ) (n m : ℕ) → length p ≡ n → drop (n + m) (p ++ q) ≡ drop m q
drop_past p q n m e = rw (← e) (drop-append-add p q m)

-- a write behind another is one write of both
pub put_behind : (out : List ℕ) (at : ℕ) (x y : List ℕ) → at ≤ length out → put_at (put_at out at x) (at + length x) y ≡ put_at out at (x ++ y)
unfolding put_at
put_behind out at x y h =
    let e : length (take at out ++ x) ≡ at + length x = simp (length-append, length-take-le at out h) in
    rw (take_at (take at out ++ x) (drop (at + length x) out) (at + length x) e, drop_past (take at out ++ x) (drop (at + length x) out) (at + length x) (length y) e, drop-drop (length y) (at + length x) out)
    (simp (append_assoc, length-append, add_assoc))

-- a write of nothing
pub put_nothing : (out : List ℕ) (at : ℕ) → put_at out at [] ≡ out
unfolding put_at
put_nothing out at = rw (append-nil (take at out), add-zero at) (take-append-drop at out)

-- a write that fits leaves the output as long as it was
pub length_put : (out : List ℕ) (at : ℕ) (x : List ℕ) → at + length x ≤ length out → length (put_at out at x) ≡ length out
unfolding put_at
length_put out at x h = simp (length-append, length-take, length-drop) (omega arith)

-- one store is a write of one byte
pub put_one : (out : List ℕ) (i v : ℕ) → i < length out → set out i v ≡ put_at out i (v ∷ [])
put_one out i v h = put_sets out i (v ∷ []) (omega arith)

-- ---- whether a write fits

pub leb_shift : (room at n : ℕ) → at ≤ room → leb n (room - at) ≡ leb (at + n) room
leb_shift room at n h =
    elim (dec_le (at + n) room) [
      | yes k ↦ le-leb n (room - at) (omega arith) ∙ sym (le-leb (at + n) room k)
      | no k ↦ lt-leb n (room - at) (omega arith) ∙ sym (lt-leb (at + n) room (omega arith))
    ]

-- what the answer of `fits` tells
pub fits_yes : (r : Bool) (a b : ℕ) → r ≡ leb a b → r ≡ true → a ≤ b
fits_yes r a b e t = leb-true a b (sym e ∙ t)

pub fits_no : (r : Bool) (a b : ℕ) → r ≡ leb a b → r ≡ false → b < a
fits_no r a b e t = leb-false a b (sym e ∙ t)

-- 12, then 13, then what fits
module _ (n : ℕ) (out : List ℕ) (at : ℕ) (bytes : List ℕ) where
  pub write_over : 65535 < n → (Err TooLong ≡ write_of n out at bytes) × (out ≡ write_bytes n out at bytes)
  unfolding write_of write_bytes
  write_over h = rw (lt-ltb 65535 n h) (refl, refl)

  pub write_short : n ≤ 65535 → length out < at + length bytes → (Err OutputTooShort ≡ write_of n out at bytes) × (out ≡ write_bytes n out at bytes)
  unfolding write_of write_bytes
  write_short h k = rw (le-ltb 65535 n h) (put_short out at bytes k)

  pub write_fits : n ≤ 65535 → at + length bytes ≤ length out → (Ok (length bytes) ≡ write_of n out at bytes) × (put_at out at bytes ≡ write_bytes n out at bytes)
  unfolding write_of write_bytes
  write_fits h k = rw (le-ltb 65535 n h) (put_fits out at bytes k)
