-- "A stream holds 16 unacknowledged messages of up to 1,024 bytes": which of the sixteen places holds which number.
use Rattle.std.specs.Prelude.{ℕ, zero, suc, Bool, false, cond, ◌==◌, nat_le, nat_lt, slice_index, Option, Some, None}
use Rattle.streams.specs.declared.state.StreamState.{StreamState}

-- the first of k places from i on at which a test holds, or the one behind them
unfoldable pub first_from : (ℕ → Bool) → ℕ → ℕ → ℕ
first_from t zero i = i
first_from t (suc k) i = cond (t i) i (first_from t k (suc i))

-- at how many of k places from i on a test holds
unfoldable pub count_from : (ℕ → Bool) → ℕ → ℕ → ℕ
count_from t zero i = 0
count_from t (suc k) i = cond (t i) (suc (count_from t k (suc i))) (count_from t k (suc i))

-- the first of the sixteen places at which a test holds, or 16
unfoldable pub first_place : (ℕ → Bool) → ℕ
first_place t = first_from t 16 0

-- a place of the sixteen, where a search has found one
abbrev pub some_place : ℕ → Option ℕ
some_place p = cond (nat_lt p 16) (Some p) None

-- a place of length 0 is free; any other holds its number
unfoldable pub holds : ℕ → ℕ → ℕ → Bool
holds number len n = cond (len == 0) false (number == n)

unfoldable pub within : ℕ → ℕ → ℕ → Bool
within len least most = cond (nat_lt len least) false (nat_le len most)

unfoldable pub holds_at : StreamState → ℕ → ℕ → Bool
holds_at s n i = holds (slice_index s.numbers i) (slice_index s.lengths i) n

unfoldable pub length_at : StreamState → ℕ → ℕ → ℕ → Bool
length_at s least most i = within (slice_index s.lengths i) least most

-- the place that holds the number n, or 16
unfoldable pub place_of : StreamState → ℕ → ℕ
place_of s n = first_place (holds_at s n)

unfoldable pub is_held : StreamState → ℕ → Bool
is_held s n = nat_lt (place_of s n) 16

-- the first place whose length lies between two numbers, or 16
unfoldable pub place_between : StreamState → ℕ → ℕ → ℕ
place_between s least most = first_place (length_at s least most)

-- "tables altered past a limit": a length is at most that of 1,024 bytes, written 1,025; 16 bits hold none past 65,535.
-- `record_sent` looks at every length, `find_held` at the one that it uses. Every other call asks of a length only
-- whether it is 0, and of a number nothing, so that any value is allowed there.
unfoldable pub in_limits : StreamState → Bool
in_limits s = nat_le 16 (place_between s 1026 65535)

-- document 02, W5: "With 16 held": no place is free
unfoldable pub is_full : StreamState → Bool
is_full s = nat_le 16 (place_between s 0 0)

-- "A number recorded again replaces its message"; any other takes the first free place; or 16
unfoldable pub place_for : StreamState → ℕ → ℕ
place_for s n = cond (is_held s n) (place_of s n) (place_between s 0 0)
