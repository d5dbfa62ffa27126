-- Sequence numbers of 16 bits.
use Rattle.std.specs.Prelude.{ℕ, ◌+◌, ◌-◌, ◌%◌, Bool, nat_lt}

-- "after 65,535 comes 0": the number k behind n, and the distance from b up to a
abbrev pub plus : ℕ → ℕ → ℕ
plus n k = (n + k) % 65536

abbrev pub minus : ℕ → ℕ → ℕ
minus a b = (a + 65536 - b) % 65536

-- "`seq_lt(a,b)`: a − b modulo 65,536 exceeds 32,767."
unfoldable pub seq_lt : ℕ → ℕ → Bool
seq_lt a b = nat_lt 32767 (minus a b)
