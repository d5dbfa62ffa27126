-- What recording a message does to the messages held, as a map from their numbers.
use Rattle.std.proofs.Common.{◌≡◌, ℕ, ◌+◌, ◌-◌, ◌*◌, ◌<◌, ◌≤◌, Bool, true, false, cond, eqb, ltb, List, length, get_or, take, drop, sym, refl, ap, ◌∙◌, arith, get_or-set_other, get_or-set_same, ltb-false, ltb-true, eq-eqb, ne_eqb, eqb-true}
use borrow.Author.Tests.{eqb-false}
use Rattle.codec.specs.Bytes.{put_at}
use Rattle.streams.specs.declared.state.StreamState.{StreamState}
use Rattle.streams.specs.Places.{holds, holds_at, place_of, is_held}
use Rattle.streams.specs.Sent.{need, slot_for, with_message, bytes_in}
use Rattle.streams.specs.View.{held_by, message_held, Sound}
use Rattle.streams.proofs.places.Laws.{never, first_is, first_agree}
use Rattle.streams.proofs.places.Held.{ChosenFor, chosen, held_low, free_place, held_there, read_at, read_none}
use Rattle.streams.proofs.sent.Laws.{SlotAt, slot_at}
use Rattle.streams.proofs.Slots.{read_same, read_before, read_behind}
use Rattle.std.specs.Prelude.{Ok, Some}

-- a message that is recorded at a place
module _ (s : StreamState) (sound : Sound s) (n len p : ℕ) (low : p < 16) where
  pub at_same : (m : ℕ) → holds_at (with_message s p n len) m p ≡ eqb n m
  unfolding holds_at with_message holds
  at_same m =
      rw (
        get_or-set_same s.numbers p n 0 (omega (arith, sound.numbers_count)),
        get_or-set_same s.lengths p (len + 1) 0 (omega (arith, sound.lengths_count)),
        ne_eqb (len + 1) 0 (omega arith),
      )

  pub at_other : (m j : ℕ) → (j ≡ p → ⊥) → holds_at (with_message s p n len) m j ≡ holds_at s m j
  unfolding holds_at with_message
  at_other m j h = rw (get_or-set_other s.numbers p j n 0 h, get_or-set_other s.lengths p j (len + 1) 0 h)

  length_same : get_or (with_message s p n len).lengths p 0 - 1 ≡ len
  unfolding with_message
  length_same = rw (get_or-set_same s.lengths p (len + 1) 0 (omega (arith, sound.lengths_count))) (omega arith)

  length_other : (q : ℕ) → (q ≡ p → ⊥) → get_or (with_message s p n len).lengths q 0 ≡ get_or s.lengths q 0
  unfolding with_message
  length_other q h = get_or-set_other s.lengths p q (len + 1) 0 h

  module _ (c : ChosenFor s n p) where
    -- the number recorded is found there, and every other number where it was
    place_same : place_of (with_message s p n len) n ≡ p
    unfolding place_of
    place_same = first_is (holds_at (with_message s p n len) n) p low (at_same n ∙ eq-eqb n n refl) (λ j h. at_other n j (λ e. absurd (omega arith)) ∙ c.before j h)

    unmoved : (m : ℕ) → (m ≡ n → ⊥) → (j : ℕ) (t : Bool) → eqb j p ≡ t → holds_at (with_message s p n len) m j ≡ holds_at s m j
    unmoved m h j true e =
        rw (eqb-true j p e) (at_same m ∙ ne_eqb n m (λ x. h (sym x)) ∙ sym (c.other m h))
    unmoved m h j false e = at_other m j (eqb-false j p e)

    place_other : (m : ℕ) → (m ≡ n → ⊥) → place_of (with_message s p n len) m ≡ place_of s m
    unfolding place_of
    place_other m h = first_agree (holds_at (with_message s p n len) m) (holds_at s m) (λ j l. unmoved m h j (eqb j p) refl)

    -- another number is at another place
    apart : (m : ℕ) → (m ≡ n → ⊥) → place_of s m < 16 → place_of s m ≡ p → ⊥
    apart m h l e = never (rw e at (held_there s m l)) (c.other m h)

-- the bytes of another place stay
module _ (buffer message : List ℕ) (p q k : ℕ) (low : p < 16) (short : length message ≤ 1024) (room : need ≤ length buffer) (small : k ≤ 1024) where
  slot_kept : (q ≡ p → ⊥) → take k (drop (q * 1024) (put_at buffer (p * 1024) message)) ≡ take k (drop (q * 1024) buffer)
  slot_kept h = by (ltb q p) refl
    where
      fits : p * 1024 + length message ≤ length buffer
      fits = omega arith

      by : (t : Bool) → ltb q p ≡ t → take k (drop (q * 1024) (put_at buffer (p * 1024) message)) ≡ take k (drop (q * 1024) buffer)
      by true e = read_before buffer (p * 1024) message fits (q * 1024) k (omega (arith, ltb-true q p e))
      by false e = ap (take k) (read_behind buffer (p * 1024) message fits (q * 1024) (omega (arith, h, ltb-false q p e)))

-- "A number recorded again replaces its message"; the others stay as they are. What is read of a message may be anything
-- that is x at its place afterwards, and at every other place what it was.
module _ {A : Type 0} (read read' : ℕ → ℕ → A) (x : A) (s : StreamState) (sound : Sound s) (n len room p : ℕ) (answer : slot_for s n len room ≡ Ok (Some p))
    (here : read' p len ≡ x) (elsewhere : (q k : ℕ) → (q ≡ p → ⊥) → k ≤ 1024 → read' q k ≡ read q k) where
  pub recorded_by : (m : ℕ) → held_by read' (with_message s p n len) m ≡ cond (eqb m n) (Some x) (held_by read s m)
  recorded_by m = by (eqb m n) refl
    where
      a : SlotAt s n len room p
      a = slot_at s n len room p answer

      c : ChosenFor s n p
      c = chosen s n p a.place a.low

      s' : StreamState
      s' = with_message s p n len

      other : (h : m ≡ n → ⊥) (t : Bool) → is_held s m ≡ t → held_by read' s' m ≡ held_by read s m
      other h true e =
          let l = held_low s m e in
          let q = place_of s m in
          let far = apart s sound n len p a.low c m h l in
          read_at s' m read' q (place_other s sound n len p a.low c m h) l
          ∙ ap (λ (k : ℕ). Some (read' q (k - 1))) (length_other s sound n len p a.low q far)
          ∙ ap Some (elsewhere q (get_or s.lengths q 0 - 1) far (omega (arith, sound.short q)))
          ∙ sym (read_at s m read q refl l)
      other h false e =
          read_none s' m read' (place_other s sound n len p a.low c m h ∙ free_place s m e) ∙ sym (read_none s m read (free_place s m e))

      by : (t : Bool) → eqb m n ≡ t → held_by read' s' m ≡ cond t (Some x) (held_by read s m)
      by true e =
          rw (eqb-true m n e)
          (read_at s' n read' p (place_same s sound n len p a.low c) a.low
          ∙ ap Some (ap (read' p) (length_same s sound n len p a.low) ∙ here))
      by false e = other (eqb-false m n e) (is_held s m) refl

-- its bytes
pub recorded : (s : StreamState) → Sound s → (n : ℕ) (message buffer : List ℕ) (p : ℕ) → slot_for s n (length message) (length buffer) ≡ Ok (Some p)
    → (m : ℕ) → message_held (with_message s p n (length message)) (put_at buffer (p * 1024) message) m ≡ cond (eqb m n) (Some message) (message_held s buffer m)
recorded s sound n message buffer p answer =
    let a = slot_at s n (length message) (length buffer) p answer in
    recorded_by (bytes_in buffer) (bytes_in (put_at buffer (p * 1024) message)) message s sound n (length message) (length buffer) p answer
    (read_same buffer (p * 1024) message (omega (arith, a.low, a.short, a.room_for)))
    (λ q k h small. slot_kept buffer message p q k a.low a.short a.room_for small h)
