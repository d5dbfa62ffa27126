-- Pieces of a datagram: a number's bytes against the bytes at a place, both ways, and pieces that follow each other.
use Prim.Native.Nat.{ℕ, ◌+◌, ◌*◌, ◌≤◌, ◌<◌, ◌/◌, ◌%◌, ◌^◌}
use mathlib.Core.Path.{◌≡◌, refl, sym, ap, ◌∙◌}
use mathlib.Core.List.{List, [], ◌∷◌, ◌++◌}
use native.Mathlib.Nat.{add-zero}
use native.Mathlib.Omega.{arith}
use lib.ListN.{get_or, length, take, drop}
use lib.Seq.{drop-cons, take-add, drop-drop, get_or-drop, drop_at}
use Rattle.codec.specs.Bytes.{word_at, quad_at, le16, le32, AllBytes}

-- ---- from bytes to numbers: what stands at a place is the number's own bytes

module _ (s : List ℕ) (small : AllBytes s) where
  pub byte_small : (p : ℕ) → get_or s p 0 < 256
  unfolding AllBytes
  byte_small p = small p

  pub word_small : (p : ℕ) → word_at s p < 2 ^ 16
  unfolding word_at
  word_small p = omega (arith, byte_small p, byte_small (p + 1))

  pub quad_small : (p : ℕ) → quad_at s p < 2 ^ 32
  unfolding quad_at
  quad_small p = omega (arith, word_small p, word_small (p + 2))

-- the byte at a place
pub byte_piece : (s : List ℕ) (p : ℕ) → p + 1 ≤ length s → get_or s p 0 ∷ [] ≡ take 1 (drop p s)
byte_piece s p h = rw (drop-cons s p 0 (omega arith))

-- one piece behind another
pub piece_piece : (s : List ℕ) (p m n : ℕ) (a b : List ℕ) → a ≡ take m (drop p s) → b ≡ take n (drop (p + m) s) → a ++ b ≡ take (m + n) (drop p s)
piece_piece s p m n a b ea eb = rw (ea, eb, ← drop-drop m p s, ← take-add m n (drop p s))

module _ (s : List ℕ) (small : AllBytes s) where
  pub word_piece : (p : ℕ) → p + 2 ≤ length s → le16 (word_at s p) ≡ take 2 (drop p s)
  unfolding le16 word_at
  word_piece p h =
      let a = get_or s p 0 in
      let b = get_or s (p + 1) 0 in
      let low : (a + 256 * b) % 256 ≡ a = omega (arith, byte_small s small p) in
      let quotient : (a + 256 * b) / 256 ≡ b = omega (arith, byte_small s small p) in
      let high : b % 256 ≡ b = omega (arith, byte_small s small (p + 1)) in
      rw (low, quotient, high) (piece_piece s p 1 1 (a ∷ []) (b ∷ []) (byte_piece s p (omega arith)) (byte_piece s (p + 1) (omega arith)))

  pub quad_piece : (p : ℕ) → p + 4 ≤ length s → le32 (quad_at s p) ≡ take 4 (drop p s)
  unfolding le32 quad_at
  quad_piece p h =
      let a = word_at s p in
      let b = word_at s (p + 2) in
      let low : (a + 65536 * b) % 65536 ≡ a = omega (arith, word_small s small p) in
      let high : (a + 65536 * b) / 65536 ≡ b = omega (arith, word_small s small p) in
      rw (low, high) (piece_piece s p 2 2 (le16 a) (le16 b) (word_piece p (omega arith)) (word_piece (p + 2) (omega arith)))

-- ---- from numbers to bytes: a number reads back where its bytes stand

-- what stands behind a piece
pub drop_behind : (s : List ℕ) (p : ℕ) (a l : List ℕ) (n : ℕ) → drop p s ≡ a ++ l → length a ≡ n → drop (p + n) s ≡ l
drop_behind s p a l n e k = rw (← drop-drop n p s, e) (drop_at a l n k)

pub byte_back : (s : List ℕ) (p b : ℕ) (l : List ℕ) → drop p s ≡ b ∷ l → get_or s p 0 ≡ b
byte_back s p b l e = ap (λ (k : ℕ). get_or s k 0) (sym (add-zero p)) ∙ sym (get_or-drop p s 0 0) ∙ rw e

pub word_back : (s : List ℕ) (p n : ℕ) (l : List ℕ) → drop p s ≡ le16 n ++ l → n < 2 ^ 16 → word_at s p ≡ n
unfolding word_at le16
word_back s p n l e h =
    rw (byte_back s p (n % 256) (n / 256 % 256 ∷ l) e, byte_back s (p + 1) (n / 256 % 256) l (drop_behind s p (n % 256 ∷ []) (n / 256 % 256 ∷ l) 1 e refl)) (omega arith)

pub quad_back : (s : List ℕ) (p n : ℕ) (l : List ℕ) → drop p s ≡ le32 n ++ l → n < 2 ^ 32 → quad_at s p ≡ n
unfolding quad_at le32 le16
quad_back s p n l e h =
    rw (word_back s p (n % 65536) (le16 (n / 65536) ++ l) e (omega arith), word_back s (p + 2) (n / 65536) l (drop_behind s p (le16 (n % 65536)) (le16 (n / 65536) ++ l) 2 e refl) (omega arith))
    (omega arith)
