-- Document 01, the small program: the lines that say what a datagram says.
use Rattle.std.specs.Prelude.{ℕ, ◌+◌, ◌-◌, ◌*◌, ◌≤◌, ◌<◌, ◌≡◌, List, [], ◌∷◌, ◌++◌, length, Ok}
use Rattle.codec.specs.Answers.{gives, written_answer}
use Rattle.codec.specs.Bytes.{AllBytes, put_of}
use Rattle.codec.specs.Refusals.{number_of}
use Rattle.codec.specs.Submessages.{id_of}
use Rattle.codec.specs.Reading.{Item, Items, items, stopped, Message, message, refused, message_of, read_at}
use Rattle.listing.specs.Decimal.{decimal_of}

-- a word, then each number behind a space, then the end of the line
abbrev pub fields_of : List ℕ → List ℕ
fields_of [] = []
fields_of (n ∷ ns) = (32 ∷ decimal_of n) ++ fields_of ns

unfoldable pub line_of : List ℕ → List ℕ → List ℕ
line_of word ns = word ++ (fields_of ns ++ (10 ∷ []))

-- `header`, `sub`, `end` and `refused` in ASCII
abbrev pub header_word : List ℕ
header_word = 104 ∷ 101 ∷ 97 ∷ 100 ∷ 101 ∷ 114 ∷ []

abbrev pub sub_word : List ℕ
sub_word = 115 ∷ 117 ∷ 98 ∷ []

abbrev pub end_word : List ℕ
end_word = 101 ∷ 110 ∷ 100 ∷ []

abbrev pub refused_word : List ℕ
refused_word = 114 ∷ 101 ∷ 102 ∷ 117 ∷ 115 ∷ 101 ∷ 100 ∷ []

-- a submessage ends where its variable part does, and there the next one begins
abbrev pub end_of : Item → ℕ
end_of x = x.span.start + x.span.len

-- "`sub 2 4 2` (id, offset of its header in the datagram, payload length)": the payload lies between the header's four bytes and the end
unfoldable pub sub_line : ℕ → Item → List ℕ
sub_line at x = line_of sub_word (id_of x.says ∷ at ∷ (end_of x - (at + 4)) ∷ [])

-- a line for each submessage, in their order, the first header at `at`
unfoldable pub sub_lines : ℕ → List Item → List ℕ
sub_lines at [] = []
sub_lines at (x ∷ xs) = sub_line at x ++ sub_lines (end_of x) xs

-- "it prints three lines: `header 1 0 5` (session, stream, sequence), `sub 2 4 2`, `end 1` (submessages).
-- A refusal is the single line `refused` with its number."
abbrev pub shown : Message → List ℕ
shown (message h xs) =
    line_of header_word (h.session_id ∷ h.stream_id ∷ h.sequence_nr ∷ [])
    ++ (sub_lines 4 xs ++ line_of end_word (length xs ∷ []))
shown (refused r) = line_of refused_word (number_of r ∷ [])

unfoldable pub lines_of : List ℕ → List ℕ
lines_of s = shown (message_of s)

-- the submessages of a datagram that has them
abbrev pub listed : Items → List Item
listed (items xs) = xs
listed (stopped r) = []

-- the submessages `xs` are those that are read one behind the other from `at` to the end of the datagram, each at the offset
-- that its line gives and with the end that its line's length comes to: the theorem `lines_in_order` says so of each message
abbrev pub InOrder : List ℕ → ℕ → List Item → Type 0
InOrder s at [] = length s ≤ at
InOrder s at (x ∷ xs) = (read_at s at ≡ Ok (x.says, x.span, (record { at = end_of x }))) × InOrder s (end_of x) xs

-- a submessage has 4 bytes at least and its line 22 at most, with 35 bytes for the first and the last line: so the lines of the small
-- program's 4,096 bytes fit in the 65,536 that it lends
abbrev pub LinesFit : Type 0
LinesFit =
    (s out : List ℕ) → AllBytes s → length s < 100000 → 22 * length s + 140 ≤ 4 * length out
    → written_answer (put_of out 0 (lines_of s)) ≡ gives (length (lines_of s))
