-- Laws of the bits of an ACKNACK: what a loop over them does turn by turn.
use Rattle.std.proofs.Common.{◌≡◌, ℕ, suc, ◌+◌, ◌-◌, ◌*◌, ◌%◌, ◌^◌, ◌<◌, ◌≤◌, Bool, true, false, cond, eqb, sym, ◌∙◌, lt_of_lt_of_le, add-zero, add_assoc, one-mul, pow-suc, add-one, arith, pow_mono, shl_exact}
use Rattle.streams.specs.Sequence.{plus, seq_lt}
use Rattle.streams.specs.Received.{bit_value, bitmap_from, bitmap_of}
use Rattle.streams.proofs.places.Laws.{left_suc}

-- a bit of 16 is its power of two
pub one_shl : (b : ℕ) → b < 16 → (1 * 2 ^ b) % 65536 ≡ 2 ^ b
one_shl b h = shl_exact 1 b 16 (omega arith) (omega arith) ∙ one-mul (2 ^ b)

-- a bit adds its power of two or nothing
set_or_not : (t u : Bool) (m : ℕ) → cond t m (cond u 0 m) ≤ m
set_or_not true u m = omega arith
set_or_not false true m = omega arith
set_or_not false false m = omega arith

value_le : (expected first n bit : ℕ) → bit_value expected first n bit ≤ 2 ^ bit
unfolding bit_value
value_le expected first n bit = set_or_not (eqb n expected) (seq_lt n first) (2 ^ bit)

module _ (expected first last : ℕ) where
  -- the bits below `bit` are in the bitmap, and the others are still to come
  unfoldable pub Reached : ℕ → ℕ → Type 0
  Reached bitmap bit = (bit ≤ 16) × (bitmap < 2 ^ bit) × (bitmap + bitmap_from expected first last (16 - bit) bit ≡ bitmap_of expected first last)

  pub reached_start : Reached 0 0
  unfolding Reached bitmap_of
  reached_start = (omega arith, omega arith, omega arith)

  module _ (bitmap bit : ℕ) (r : Reached bitmap bit) where
    pub reached_end : 16 ≤ bit → bitmap ≡ bitmap_of expected first last
    unfolding Reached bitmap_from
    reached_end h = let e : bit ≡ 16 = omega arith in sym (add-zero bitmap) ∙ (rw e at r.2)

    pub reached_stop : bit < 16 → seq_lt last (plus expected bit) ≡ true → bitmap ≡ bitmap_of expected first last
    unfolding Reached bitmap_from
    reached_stop h e = sym (add-zero bitmap) ∙ (rw (left_suc bit h, e) at r.2)

    -- the sum of the next turn is below twice as much, so that it fits 16 bits
    reached_fits : bitmap + bit_value expected first (plus expected bit) bit < 2 ^ suc bit
    unfolding Reached
    reached_fits = omega (arith, r.1, value_le expected first (plus expected bit) bit, pow-suc 2 bit)

    pub reached_room : bit < 16 → bitmap + bit_value expected first (plus expected bit) bit < 65536
    reached_room h = lt_of_lt_of_le reached_fits (pow_mono {j = 16} h)

    pub reached_step : bit < 16 → seq_lt last (plus expected bit) ≡ false → Reached (bitmap + bit_value expected first (plus expected bit) bit) (bit + 1)
    unfolding Reached bitmap_from
    reached_step h e = rw (add-one bit) (
      omega arith,
      reached_fits,
      add_assoc bitmap (bit_value expected first (plus expected bit) bit) (bitmap_from expected first last (16 - suc bit) (suc bit)) ∙ (rw (left_suc bit h, e, add-one bit) at r.2),
    )
