-- Numbers on the wire, and bytes written into a lent output.
use Rattle.std.specs.Prelude.{ℕ, ◌+◌, ◌*◌, ◌/◌, ◌%◌, ◌<◌, cond, List, [], ◌∷◌, ◌++◌, ltb, get_or, length, take, drop, Err, Ok, Result}
use Rattle.codec.specs.declared.refusals.Refusal.TheVariants.{TooLong, OutputTooShort}
use Rattle.codec.specs.declared.refusals.Refusal.{Refusal}

-- "On the wire, numbers of two bytes have the low byte first": the number at a place of a list, and a number's bytes
unfoldable pub word_at : List ℕ → ℕ → ℕ
word_at s at = get_or s at 0 + 256 * get_or s (at + 1) 0

unfoldable pub le16 : ℕ → List ℕ
le16 n = n % 256 ∷ n / 256 % 256 ∷ []

-- the number of four bytes, low byte first
unfoldable pub quad_at : List ℕ → ℕ → ℕ
quad_at s at = word_at s at + 65536 * word_at s (at + 2)

unfoldable pub le32 : ℕ → List ℕ
le32 n = le16 (n % 65536) ++ le16 (n / 65536)

-- a list whose elements are bytes
unfoldable pub AllBytes : List ℕ → Type 0
AllBytes s = (i : ℕ) → get_or s i 0 < 256

-- the output with `bytes` in it from `at` on; what stands before and behind stays
unfoldable pub put_at : List ℕ → ℕ → List ℕ → List ℕ
put_at out at bytes = take at out ++ bytes ++ drop (at + length bytes) out

-- 13, "lent output shorter than the result"
unfoldable pub put_of : List ℕ → ℕ → List ℕ → Result ℕ Refusal
put_of out at bytes = cond (ltb (length out) (at + length bytes)) (Err OutputTooShort) (Ok (length bytes))

-- a refusal changes no byte of the output
unfoldable pub put_bytes : List ℕ → ℕ → List ℕ → List ℕ
put_bytes out at bytes = cond (ltb (length out) (at + length bytes)) out (put_at out at bytes)

-- 12, "payload or string over 65,535 bytes", comes before 13: `bytes` carry a payload or a string of `n` bytes
unfoldable pub write_of : ℕ → List ℕ → ℕ → List ℕ → Result ℕ Refusal
write_of n out at bytes = cond (ltb 65535 n) (Err TooLong) (put_of out at bytes)

unfoldable pub write_bytes : ℕ → List ℕ → ℕ → List ℕ → List ℕ
write_bytes n out at bytes = cond (ltb 65535 n) out (put_bytes out at bytes)
