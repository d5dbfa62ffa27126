-- Document 02, W7: "Reading a string now refuses bytes that RFC 3629 doesn't allow, overlong forms and surrogates included." RFC 3629, section 4:
-- which bytes are text in UTF-8.
use Rattle.std.specs.Prelude.{ℕ, zero, suc, ◌≤◌, Bool, true, false, cond, ◌&&◌, List, [], ◌∷◌, ◌++◌, ◌⊎◌, leb, ltb, length}
use Rattle.codec.specs.declared.text.Wait.{Wait}

-- a range of bytes, as "%xC2-DF"
pub record Range : Type 0 where
  pub from : ℕ
  pub to : ℕ

abbrev pub range : ℕ → ℕ → Range
range from to = record { from = from; to = to }

-- "UTF8-tail = %x80-BF"
abbrev pub tail : Range
tail = range 0x80 0xBF

-- a row of the table: the range of a character's first byte, and those of the bytes behind it
pub record Row : Type 0 where
  pub first : Range
  pub rest : List Range

abbrev pub row : ℕ → ℕ → List Range → Row
row from to rest = record { first = range from to; rest = rest }

-- "UTF8-1 = %x00-7F"
-- "UTF8-2 = %xC2-DF UTF8-tail"
-- "UTF8-3 = %xE0 %xA0-BF UTF8-tail / %xE1-EC 2( UTF8-tail ) / %xED %x80-9F UTF8-tail / %xEE-EF 2( UTF8-tail )"
-- "UTF8-4 = %xF0 %x90-BF 2( UTF8-tail ) / %xF1-F3 3( UTF8-tail ) / %xF4 %x80-8F 2( UTF8-tail )"
unfoldable pub table : List Row
table =
    row 0x00 0x7F []
    ∷ row 0xC2 0xDF (tail ∷ [])
    ∷ row 0xE0 0xE0 (range 0xA0 0xBF ∷ tail ∷ [])
    ∷ row 0xE1 0xEC (tail ∷ tail ∷ [])
    ∷ row 0xED 0xED (range 0x80 0x9F ∷ tail ∷ [])
    ∷ row 0xEE 0xEF (tail ∷ tail ∷ [])
    ∷ row 0xF0 0xF0 (range 0x90 0xBF ∷ tail ∷ tail ∷ [])
    ∷ row 0xF1 0xF3 (tail ∷ tail ∷ tail ∷ [])
    ∷ row 0xF4 0xF4 (range 0x80 0x8F ∷ tail ∷ tail ∷ [])
    ∷ []

-- ---- text, as the RFC has it

abbrev pub Within : Range → ℕ → Type 0
Within r b = (r.from ≤ b) × (b ≤ r.to)

-- a byte within each range, and no byte more
abbrev pub Fits : List Range → List ℕ → Type 0
Fits [] [] = Unit
Fits [] (b ∷ bs) = ⊥
Fits (r ∷ rs) [] = ⊥
Fits (r ∷ rs) (b ∷ bs) = Within r b × Fits rs bs

-- "UTF8-char = UTF8-1 / UTF8-2 / UTF8-3 / UTF8-4"
abbrev pub Character : List Row → List ℕ → Type 0
Character [] bytes = ⊥
Character (r ∷ rows) bytes = Fits (r.first ∷ r.rest) bytes ⊎ Character rows bytes

-- "UTF8-octets = *( UTF8-char )"
pub data IsText : List ℕ → Type 0 where
  empty : IsText []
  next : (bytes behind : List ℕ) → Character table bytes → IsText behind → IsText (bytes ++ behind)

-- ---- the same byte by byte: what the next one may be, as ranges that are left of a character

abbrev pub in_range : Range → ℕ → Bool
in_range r b = leb r.from b && leb b r.to

-- what no byte fits
abbrev pub never : List Range
never = range 1 0 ∷ []

-- behind the first byte of a character; behind a byte that begins none, none fits
abbrev pub behind_first : List Row → ℕ → List Range
behind_first [] b = never
behind_first (r ∷ rows) b = cond (in_range r.first b) r.rest (behind_first rows b)

abbrev pub after_byte : List Range → ℕ → List Range
after_byte [] b = behind_first table b
after_byte (r ∷ rs) b = cond (in_range r b) rs never

-- text ends where nothing is left of a character; `proofs/text/Theorems.antt`: this is `IsText`
abbrev pub is_whole : List Range → Bool
is_whole [] = true
is_whole (r ∷ rs) = false

abbrev pub well_from : List Range → List ℕ → Bool
well_from rs [] = is_whole rs
well_from rs (b ∷ bs) = well_from (after_byte rs b) bs

unfoldable pub well_formed : List ℕ → Bool
well_formed bytes = well_from [] bytes

-- ---- and character by character, as the code goes

-- the bytes begin with one within each range
abbrev pub fits : List Range → List ℕ → Bool
fits [] bytes = true
fits (r ∷ rs) [] = false
fits (r ∷ rs) (b ∷ bytes) = in_range r b && fits rs bytes

-- how many bytes the first character has; 0: the bytes begin with none
abbrev pub len_behind : List Range → List ℕ → ℕ
len_behind rs bytes = cond (fits rs bytes) (suc (length rs)) 0

abbrev pub character_len : List ℕ → ℕ
character_len [] = 0
character_len (b ∷ bytes) = len_behind (behind_first table b) bytes

-- the ranges as the code keeps them: how many, and the next one's ends, as all others are tails; more than three are none that a byte fits

abbrev pub tails : ℕ → List Range
tails zero = []
tails (suc n) = tail ∷ tails n

abbrev pub waiting : ℕ → Range → List Range
waiting zero r = []
waiting (suc n) r = r ∷ tails n

unfoldable pub ranges_of : Wait → List Range
ranges_of w = cond (ltb 3 w.need) never (waiting w.need (range w.low w.high))
