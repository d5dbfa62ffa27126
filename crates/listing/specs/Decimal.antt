-- Numbers in decimal, the highest digit first and no zero in front.
use Rattle.std.specs.Prelude.{ℕ, zero, suc, ◌+◌, ◌-◌, ◌*◌, ◌/◌, ◌%◌, ◌≤◌, cond, List, [], ◌∷◌, ◌++◌, ltb}

-- below 10 one digit, above it the digits of the tenth part and then the last one; 48 is the byte of `0`
unfoldable pub decimal_in : ℕ → ℕ → List ℕ
decimal_in zero n = []
decimal_in (suc digits) n = cond (ltb n 10) ((48 + n) ∷ []) (decimal_in digits (n / 10) ++ ((48 + n % 10) ∷ []))

-- a number n has no more than n + 1 digits
unfoldable pub decimal_of : ℕ → List ℕ
decimal_of n = decimal_in (suc n) n

-- how decimal digits are read, from the left: the theorem `decimal_back` says that those of n are read as n
abbrev pub value_from : ℕ → List ℕ → ℕ
value_from v [] = v
value_from v (d ∷ ds) = value_from (10 * v + (d - 48)) ds

-- each byte is one of `0` to `9`: the theorem `decimal_digits` says so of those of n
abbrev pub Digits : List ℕ → Type 0
Digits [] = Unit
Digits (d ∷ ds) = ((48 ≤ d) × (d ≤ 57)) × Digits ds
