-- The stores that the host lends, as one value.
use Rattle.std.specs.Prelude.{ℕ, List}
use Rattle.codec.specs.Reading.{part_of}
use Rattle.sessions.specs.View.{Tables}
use Rattle.sessions.specs.declared.objects.Object.{Object}
use Rattle.moves.specs.Rows.{Rows, rows}

abbrev pub lent : List (List ℕ) → List (List ℕ) → List Object → List ℕ → List ℕ → List ℕ → List ℕ → Tables
lent sessions streams objects held parts lengths rebuilt = record { sessions = sessions; streams = streams; objects = objects; held = held; parts = parts; lengths = lengths; rebuilt = rebuilt }

-- what a submessage is handled over, and the stores with what it leaves of that
abbrev pub rows_of : Tables → Rows
rows_of t = rows t.sessions t.streams t.objects

abbrev pub with_rows : Tables → Rows → Tables
with_rows t r = lent r.sessions r.streams r.objects t.held t.parts t.lengths t.rebuilt

-- W6: the first n of the rebuilt bytes, in their place
abbrev pub rebuilt_part : List ℕ → ℕ → List ℕ
rebuilt_part rebuilt n = part_of rebuilt (record { start = 0; len = n })
