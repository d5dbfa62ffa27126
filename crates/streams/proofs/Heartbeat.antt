-- The greatest distance to the next to send is that of a held number, and no held number is further behind; it is 0 if none is held.
use Rattle.std.proofs.Common.{◌≡◌, ℕ, zero, suc, ◌+◌, ◌<◌, ◌≤◌, Bool, true, false, eqb, ltb, get_or, refl, ◌∙◌, ⊎_elim, le_trans, eq-or-lt_of_le, arith, ltb-false, ltb-true, eq-eqb, ne_eqb}
use Rattle.streams.specs.declared.state.StreamState.{StreamState}
use Rattle.streams.specs.Sequence.{minus}
use Rattle.streams.specs.Places.{holds, holds_at, is_held}
use Rattle.streams.specs.Acknowledged.{further, furthest_from}
use Rattle.streams.proofs.places.Laws.{never}
use Rattle.streams.proofs.places.Held.{holds_nonzero, holds_number_lem, held_low, held_there, held_anywhere}

-- ---- one more place

module _ (next best number len : ℕ) where
  further_free : eqb len 0 ≡ true → further next best number len ≡ best
  unfolding further
  further_free e = rw e

  further_takes : eqb len 0 ≡ false → ltb best (minus next number) ≡ true → further next best number len ≡ minus next number
  unfolding further
  further_takes e f = rw (e, f)

  further_stays : eqb len 0 ≡ false → ltb best (minus next number) ≡ false → further next best number len ≡ best
  unfolding further
  further_stays e f = rw (e, f)

  -- it is no less than the best so far, nor than the distance of a place that isn't free
  further_both : (best ≤ further next best number len) × (eqb len 0 ≡ false → minus next number ≤ further next best number len)
  further_both = by (eqb len 0) (ltb best (minus next number)) refl refl
    where
      by : (z l : Bool) → eqb len 0 ≡ z → ltb best (minus next number) ≡ l
          → (best ≤ further next best number len) × (eqb len 0 ≡ false → minus next number ≤ further next best number len)
      by true l e f = (omega (arith, further_free e), λ g. absurd (never e g))
      by false true e f = (omega (arith, further_takes e f, ltb-true best (minus next number) f), λ g. omega (arith, further_takes e f))
      by false false e f = (omega (arith, further_stays e f), λ g. omega (arith, further_stays e f, ltb-false best (minus next number) f))

-- ---- sixteen places

module _ (s : StreamState) where
  turn : ℕ → ℕ → ℕ
  turn best i = further s.next_send_seq best (get_or s.numbers i 0) (get_or s.lengths i 0)

  from_keeps : (k i best : ℕ) → best ≤ furthest_from s best k i
  unfolding furthest_from turn
  from_keeps zero i best = omega arith
  from_keeps (suc k) i best = le_trans (further_both s.next_send_seq best (get_or s.numbers i 0) (get_or s.lengths i 0)).0 (from_keeps k (suc i) (turn best i))

  from_reaches : (m k i j best : ℕ) → i ≤ j → j < i + k → holds_at s m j ≡ true → minus s.next_send_seq m ≤ furthest_from s best k i
  unfolding furthest_from turn holds_at
  from_reaches m zero i j best h l e = absurd (omega arith)
  from_reaches m (suc k) i j best h l e =
      ⊎_elim
      (λ same.
      let t = rw (← same) at e in
      let number = get_or s.numbers i 0 in
      let len = get_or s.lengths i 0 in
      let o = (further_both s.next_send_seq best number len).1 (ne_eqb len 0 (omega (arith, holds_nonzero number len m t))) in
      rw (← holds_number_lem number len m t) (le_trans o (from_keeps k (suc i) (turn best i))))
      (λ less. from_reaches m k (suc i) j (turn best i) less (omega arith) e)
      (eq-or-lt_of_le h)

  -- the number of a place that isn't free is held
  held_number : (i : ℕ) → i < 16 → eqb (get_or s.lengths i 0) 0 ≡ false → is_held s (get_or s.numbers i 0) ≡ true
  unfolding holds_at holds
  held_number i h e = held_anywhere s (get_or s.numbers i 0) i h (rw e (eq-eqb (get_or s.numbers i 0) (get_or s.numbers i 0) refl))

  -- the greatest distance is the one given, or that of a held number
  from_whom : {A : Type 0} → (k i best : ℕ) → i + k ≤ 16 → (furthest_from s best k i ≡ best → A)
      → ((n : ℕ) → is_held s n ≡ true → furthest_from s best k i ≡ minus s.next_send_seq n → A) → A
  unfolding furthest_from turn
  from_whom zero i best h f g = f refl
  from_whom {A} (suc k) i best h f g = from_whom k (suc i) (turn best i) (omega arith) (by (eqb len 0) (ltb best (minus s.next_send_seq number)) refl refl) g
    where
      number : ℕ
      number = get_or s.numbers i 0

      len : ℕ
      len = get_or s.lengths i 0

      by : (z l : Bool) → eqb len 0 ≡ z → ltb best (minus s.next_send_seq number) ≡ l → furthest_from s (turn best i) k (suc i) ≡ turn best i → A
      by true l e d t = f (t ∙ further_free s.next_send_seq best number len e)
      by false true e d t = g number (held_number i (omega arith) e) (t ∙ further_takes s.next_send_seq best number len e d)
      by false false e d t = f (t ∙ further_stays s.next_send_seq best number len e d)

  abbrev pub greatest : ℕ
  greatest = furthest_from s 0 16 0

  -- no held number is further behind the next to send
  pub reaches : (m : ℕ) → is_held s m ≡ true → minus s.next_send_seq m ≤ greatest
  reaches m e =
      let l = held_low s m e in
      from_reaches m 16 0 _ 0 (omega arith) l (held_there s m l)

  -- the greatest distance is 0, or that of a held number
  pub whose : {A : Type 0} → (greatest ≡ 0 → A) → ((n : ℕ) → is_held s n ≡ true → greatest ≡ minus s.next_send_seq n → A) → A
  whose f g = from_whom 16 0 0 (omega arith) f g
