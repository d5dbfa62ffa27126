-- Document 01's own example of the small program.
use Prim.Native.Nat.{ℕ}
use mathlib.Core.Path.{◌≡◌, refl}
use mathlib.Core.List.{List, [], ◌∷◌, ◌++◌}
use Rattle.codec.specs.Bytes.{word_at}
use Rattle.codec.specs.Header.{header_of, sub_header_read, sub_header_of}
use Rattle.codec.specs.Layouts.{least_of, layout_at}
use Rattle.codec.specs.Reading.{payload_at, read_at, items_in, items_at, message_of}
use Rattle.listing.specs.Decimal.{decimal_in, decimal_of}
use Rattle.listing.specs.Lines.{line_of, sub_line, sub_lines, lines_of}

-- "For a it prints three lines: `header 1 0 5`, `sub 2 4 2`, `end 1`", in ASCII
abbrev three_lines : List ℕ
three_lines =
    (104 ∷ 101 ∷ 97 ∷ 100 ∷ 101 ∷ 114 ∷ 32 ∷ 49 ∷ 32 ∷ 48 ∷ 32 ∷ 53 ∷ 10 ∷ [])
    ++ (115 ∷ 117 ∷ 98 ∷ 32 ∷ 50 ∷ 32 ∷ 52 ∷ 32 ∷ 50 ∷ 10 ∷ [])
    ++ (101 ∷ 110 ∷ 100 ∷ 32 ∷ 49 ∷ 10 ∷ [])

pub lines_a : lines_of (1 ∷ 0 ∷ 5 ∷ 0 ∷ 2 ∷ 0 ∷ 2 ∷ 0 ∷ 3 ∷ 0 ∷ []) ≡ three_lines
unfolding lines_of message_of items_at items_in read_at sub_header_read sub_header_of payload_at least_of layout_at header_of word_at line_of sub_line sub_lines decimal_of decimal_in
lines_a = refl

-- "A refusal is the single line `refused` with its number": c
pub lines_c : lines_of (1 ∷ 0 ∷ 5 ∷ 0 ∷ 2 ∷ 0 ∷ 2 ∷ 0 ∷ 3 ∷ 0 ∷ 9 ∷ []) ≡ 114 ∷ 101 ∷ 102 ∷ 117 ∷ 115 ∷ 101 ∷ 100 ∷ 32 ∷ 49 ∷ 10 ∷ []
unfolding lines_of message_of items_at items_in read_at sub_header_read sub_header_of payload_at least_of layout_at header_of word_at line_of decimal_of decimal_in
lines_c = refl
