-- An answer as one number: `answer % 256` is the number of the table "Refused" (0 where nothing is refused), `answer / 256 % 256` the byte
-- that 2, 3 and 4 give, and `answer / 65536` what a call gives.
use Rattle.std.specs.Prelude.{ℕ, ◌+◌, ◌*◌, ◌%◌, Err, Ok, Result}
use Rattle.codec.specs.Answers.{Answer, gives, refused_as, refusal}
use Rattle.codec.specs.declared.refusals.Refusal.{Refusal}
use Rattle.codec.specs.declared.layouts.Span.{Span}

-- what is given is taken modulo 2 to the 48th, so that every answer fits 64 bits; what is counted lies in memory, and no machine has so
-- many bytes
abbrev pub packed : Answer ℕ → ℕ
packed (gives n) = n % 281474976710656 * 65536
packed (refused_as number byte) = number + 256 * byte

-- how many bytes a string has
abbrev pub string_number : Result Span Refusal → Answer ℕ
string_number (Ok x) = gives x.len
string_number (Err r) = refusal r
