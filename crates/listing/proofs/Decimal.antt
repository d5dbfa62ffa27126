-- Decimal digits: they are those that the library gives, and they are digits that read back as the number.
use Prim.Native.Nat.{ℕ, zero, suc, ◌+◌, ◌-◌, ◌*◌, ◌/◌, ◌%◌, ◌<◌, ◌^◌}
use mathlib.Core.Path.{◌≡◌, refl}
use mathlib.Core.List.{List, [], ◌∷◌, ◌++◌}
use native.Mathlib.Decide.{dec_le}
use native.Mathlib.Nat.{lt_of_not-le}
use native.Mathlib.Omega.{arith}
use borrow.Author.Tests.{lt-ltb, le-ltb}
use Rattle.std.specs.Fmt.{decimal}
use Rattle.std.proofs.lemmas.Fmt.{AppendsLastDigit, decimal_from_appends, length-decimal-le_succ}
use Rattle.listing.specs.Decimal.{decimal_in, decimal_of, value_from, Digits}

-- the digits are those that the library's `decimal` gives of a number of 64 bits
appends : AppendsLastDigit decimal_in
unfolding decimal_in
appends = record {
  one = λ k n h. rw (lt-ltb n 10 h);
  more = λ k n h. rw (le-ltb n 10 h);
}

pub decimal_same : (n : ℕ) → n < 2 ^ 64 → decimal_of n ≡ decimal n
unfolding decimal_of
decimal_same n h = decimal_from_appends decimal_in appends (suc n) n h (search (arith, length-decimal-le_succ))

-- ---- the digits read back

value_append : (v : ℕ) (a b : List ℕ) → value_from v (a ++ b) ≡ value_from (value_from v a) b
value_append v [] b = refl
value_append v (d ∷ a) b = value_append (10 * v + (d - 48)) a b

value_in : (f n : ℕ) → n < f → value_from 0 (decimal_in f n) ≡ n
unfolding decimal_in
value_in zero n h = absurd (omega arith)
value_in (suc f) n h =
    elim (dec_le 10 n) [
      | yes k ↦
          rw (le-ltb n 10 k, value_append 0 (decimal_in f (n / 10)) ((48 + n % 10) ∷ []), value_in f (n / 10) (omega arith))
          (omega arith)
      | no k ↦ rw (lt-ltb n 10 (lt_of_not-le k)) (omega arith)
    ]

pub decimal_back : (n : ℕ) → value_from 0 (decimal_of n) ≡ n
unfolding decimal_of
decimal_back n = value_in (suc n) n (omega arith)

digits_append : (a b : List ℕ) → Digits a → Digits b → Digits (a ++ b)
digits_append [] b p q = q
digits_append (d ∷ a) b p q = (p.0, digits_append a b p.1 q)

digits_in : (f n : ℕ) → n < f → Digits (decimal_in f n)
unfolding decimal_in
digits_in zero n h = absurd (omega arith)
digits_in (suc f) n h =
    elim (dec_le 10 n) [
      | yes k ↦
          rw (le-ltb n 10 k)
          (digits_append (decimal_in f (n / 10)) ((48 + n % 10) ∷ []) (digits_in f (n / 10) (omega arith)) ((omega arith, omega arith), tt))
      | no k ↦ rw (lt-ltb n 10 (lt_of_not-le k)) ((omega arith, omega arith), tt)
    ]

pub decimal_digits : (n : ℕ) → Digits (decimal_of n)
unfolding decimal_of
decimal_digits n = digits_in (suc n) n (omega arith)
