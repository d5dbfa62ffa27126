-- The buffers of held messages in the store: each lies in its session's slot at its stream's place, and another put there changes nothing else.
use Prim.Native.Nat.{ℕ, zero, suc, ◌+◌, ◌-◌, ◌*◌, ◌≤◌}
use mathlib.Core.Path.{◌≡◌, refl, sym, ap, ◌∙◌}
use mathlib.Core.Logic.{◌≢◌}
use mathlib.Core.Bool.{Bool, true, false, cond}
use mathlib.Core.List.{List, [], ◌∷◌, ◌++◌, append_assoc}
use native.Mathlib.Omega.{arith}
use borrow.Author.Tests.{ltb-true, ltb-false, eq-eqb, ne_eqb, eqb-true, eqb-false, leb-true}
use lib.Dec.{eqb, leb, ltb}
use lib.ListN.{length, take, drop, take-append-drop}
use lib.Seq.{take-take, drop-drop, take_at, drop_at, length-take-le}
use Rattle.codec.specs.Bytes.{put_at, put_bytes}
use Rattle.codec.proofs.bytes.Laws.{length_put, put_fits}
use Rattle.streams.proofs.Slots.{read_same, read_before, read_behind}
use Rattle.sessions.specs.Need.{stream_bytes, slot_bytes}
use Rattle.sessions.specs.Held.{slot_part, buffer_at}
use Rattle.sessions.specs.Sending.{stretch_of, room_of, buffer_in, with_buffer}
use Rattle.sessions.specs.declared.sending.Stretch.{Stretch}
use Rattle.sessions.proofs.sending.Laws.{has_buffer_lem, buffer_length}

-- a part of a part
cut : (i n m : ℕ) (l : List ℕ) → i + m ≤ n → take m (drop i (take n l)) ≡ take m (drop i l)
cut zero n m l h = take-take m n l (omega arith)
cut (suc i) zero m l h = let z : ⊥ = omega arith in absurd z
cut (suc i) (suc n) m [] h = refl
cut (suc i) (suc n) m (x ∷ l) h = cut i n m l (omega arith)

-- a buffer of the length of its stretch is put in its place
module _ (held buffer : List ℕ) (b : Stretch) (long : length buffer ≡ room_of b) where
  pub with_put : with_buffer held b buffer ≡ put_at held b.start buffer
  unfolding with_buffer put_at
  with_put =
      ap (λ (rest : List ℕ). take b.start held ++ (buffer ++ rest)) (drop-drop (room_of b) b.start held ∙ ap (λ (m : ℕ). drop (b.start + m) held) (sym long))
      ∙ sym (append_assoc (take b.start held) buffer (drop (b.start + length buffer) held))

-- where what stands there is put there again, nothing changes
pub with_same : (held : List ℕ) (b : Stretch) → with_buffer held b (buffer_in held b) ≡ held
unfolding with_buffer buffer_in
with_same held b = ap (λ (rest : List ℕ). take b.start held ++ rest) (take-append-drop (room_of b) (drop b.start held)) ∙ take-append-drop b.start held

-- another buffer in a stretch of the store: the store is as long as it was, and as it was where the old bytes are put back
module _ (held : List ℕ) (b : Stretch) (low : b.start ≤ b.end) (within : b.end ≤ length held) (buffer : List ℕ) (long : length buffer ≡ room_of b) where
  pub with_length : length (with_buffer held b buffer) ≡ length held
  with_length = ap length (with_put held buffer b long) ∙ length_put held b.start buffer (omega (arith, long))

  with_again : (again : List ℕ) → with_buffer (with_buffer held b buffer) b again ≡ with_buffer held b again
  unfolding with_buffer
  with_again again =
      let front = take b.start held in
      let rest = drop (room_of b) (drop b.start held) in
      let e : length front ≡ b.start = length-take-le b.start held (omega arith) in
      ap (λ (l : List ℕ). l ++ (again ++ drop (room_of b) (drop b.start (front ++ (buffer ++ rest))))) (take_at front (buffer ++ rest) b.start e)
      ∙ ap (λ (l : List ℕ). front ++ (again ++ drop (room_of b) l)) (drop_at front (buffer ++ rest) b.start e)
      ∙ ap (λ (l : List ℕ). front ++ (again ++ l)) (drop_at buffer rest (room_of b) long)

  pub put_back : put_bytes (with_buffer held b buffer) b.start (buffer_in held b) ≡ held
  put_back =
      let old = buffer_length held b low within in
      let after = with_buffer held b buffer in
      sym (put_fits after b.start (buffer_in held b) (omega (arith, old, with_length))).1
      ∙ sym (with_put after (buffer_in held b) b old)
      ∙ with_again (buffer_in held b)
      ∙ with_same held b

-- the stretch of a buffer lies within the store, and where it has a byte there is a buffer
module _ (slot k held : ℕ) where
  abbrev Lies : Stretch → Type 0
  Lies b = (b.start ≤ b.end) × (b.end ≤ held) × (1 ≤ room_of b → (1 ≤ k) × (slot ≤ 255))

  pub stretch_lies : Lies (stretch_of slot k held)
  stretch_lies = by (eqb k 0) (leb slot 255) (leb (slot_bytes * slot + stream_bytes * k) held) refl refl refl
    where
      no : Lies (record { start = 0; end = 0 })
      no = (omega arith, omega arith, λ h. let z : ⊥ = omega arith in absurd z)

      by : (x y z : Bool) → eqb k 0 ≡ x → leb slot 255 ≡ y → leb (slot_bytes * slot + stream_bytes * k) held ≡ z
          → Lies (cond (cond x false (cond y z false)) (record { start = slot_bytes * slot + stream_bytes * (k - 1); end = slot_bytes * slot + stream_bytes * k }) (record { start = 0; end = 0 }))
      by true y z a b c = no
      by false false z a b c = no
      by false true false a b c = no
      by false true true a b c =
          let n : k ≢ 0 = eqb-false k 0 a in
          (omega arith, leb-true (slot_bytes * slot + stream_bytes * k) held c, λ h. (omega (arith, n), leb-true slot 255 b))

module _ (slot k : ℕ) (low : 1 ≤ k) (high : k ≤ 7) where
  abbrev from : ℕ
  from = slot_bytes * slot + stream_bytes * (k - 1)

  -- the buffer of a place, in a store
  buffer_of : (l : List ℕ) → buffer_at (slot_part l slot) k ≡ take stream_bytes (drop from l)
  unfolding buffer_at slot_part
  buffer_of l =
      rw (ne_eqb k 0 (λ e. omega arith))
      (cut (stream_bytes * (k - 1)) slot_bytes stream_bytes (drop (slot_bytes * slot) l) (omega arith)
      ∙ ap (take stream_bytes) (drop-drop (stream_bytes * (k - 1)) (slot_bytes * slot) l))

  module _ (held : List ℕ) (few : slot ≤ 255) (room : slot_bytes * slot + slot_bytes ≤ length held) where
    abbrev pub stretch : Stretch
    stretch = stretch_of slot k (length held)

    stretch_is : stretch ≡ record { start = from; end = slot_bytes * slot + stream_bytes * k }
    stretch_is = rw (has_buffer_lem slot k (length held) (λ e. omega arith) few (omega arith))

    -- a stream's buffer has room for "16 unacknowledged messages of up to 1,024 bytes"
    pub stretch_room : room_of stretch ≡ stream_bytes
    stretch_room = ap room_of stretch_is ∙ (let e : slot_bytes * slot + stream_bytes * k - from ≡ stream_bytes = omega arith in e)

    pub buffer_there : buffer_in held stretch ≡ buffer_at (slot_part held slot) k
    unfolding buffer_in
    buffer_there =
        ap (λ (m : ℕ). take m (drop stretch.start held)) stretch_room
        ∙ ap (λ (b : Stretch). take stream_bytes (drop b.start held)) stretch_is
        ∙ sym (buffer_of held)

    pub buffer_full : length (buffer_in held stretch) ≡ stream_bytes
    buffer_full =
        ap (λ (b : Stretch). length (buffer_in held b)) stretch_is
        ∙ buffer_length held (record { start = from; end = slot_bytes * slot + stream_bytes * k }) (omega arith) (omega arith)
        ∙ sym (ap room_of stretch_is)
        ∙ stretch_room

    -- another buffer in its place
    module _ (buffer : List ℕ) (long : length buffer ≡ stream_bytes) where
      abbrev pub refilled : List ℕ
      refilled = with_buffer held stretch buffer

      put_there : refilled ≡ put_at held from buffer
      put_there = with_put held buffer stretch (long ∙ sym stretch_room) ∙ ap (λ (b : Stretch). put_at held b.start buffer) stretch_is

      fits : from + length buffer ≤ length held
      fits = omega (arith, long)

      pub refilled_length : length refilled ≡ length held
      refilled_length = ap length put_there ∙ length_put held from buffer fits

      -- what is read before or behind it stays
      apart : (at n : ℕ) (t : Bool) → ltb at from ≡ t → (t ≡ true → at + n ≤ from) → (t ≡ false → from + stream_bytes ≤ at) → take n (drop at refilled) ≡ take n (drop at held)
      apart at n true e before behind = ap (λ (l : List ℕ). take n (drop at l)) put_there ∙ read_before held from buffer fits at n (before refl)
      apart at n false e before behind = ap (λ (l : List ℕ). take n (drop at l)) put_there ∙ ap (take n) (read_behind held from buffer fits at (omega (arith, behind refl, long)))

      pub slot_elsewhere : (j : ℕ) → j ≢ slot → slot_part refilled j ≡ slot_part held j
      unfolding slot_part
      slot_elsewhere j h =
          apart (slot_bytes * j) slot_bytes (ltb (slot_bytes * j) from) refl
          (λ e. omega (arith, ltb-true (slot_bytes * j) from e, h))
          (λ e. omega (arith, ltb-false (slot_bytes * j) from e, h))

      pub buffer_here : buffer_at (slot_part refilled slot) k ≡ buffer
      buffer_here =
          buffer_of refilled
          ∙ ap (λ (m : ℕ). take m (drop from refilled)) (sym long)
          ∙ ap (λ (l : List ℕ). take (length buffer) (drop from l)) put_there
          ∙ read_same held from buffer fits

-- the first place has none, whatever the part
first_none : (p q : List ℕ) (j : ℕ) → j ≡ 0 → buffer_at p j ≡ buffer_at q j
unfolding buffer_at
first_none p q j e = rw (eq-eqb j 0 e)

-- the buffer of another place of the slot
module _ (slot k : ℕ) (low : 1 ≤ k) (high : k ≤ 7) (held : List ℕ) (few : slot ≤ 255) (room : slot_bytes * slot + slot_bytes ≤ length held) (buffer : List ℕ) (long : length buffer ≡ stream_bytes) where
  pub buffer_elsewhere : (j : ℕ) → j ≤ 7 → j ≢ k → buffer_at (slot_part (refilled slot k low high held few room buffer long) slot) j ≡ buffer_at (slot_part held slot) j
  buffer_elsewhere j l h = by (eqb j 0) refl
    where
      after : List ℕ
      after = refilled slot k low high held few room buffer long

      by : (b : Bool) → eqb j 0 ≡ b → buffer_at (slot_part after slot) j ≡ buffer_at (slot_part held slot) j
      by true e = first_none (slot_part after slot) (slot_part held slot) j (eqb-true j 0 e)
      by false e =
          let n : j ≢ 0 = eqb-false j 0 e in
          let jlow : 1 ≤ j = omega (arith, n) in
          let at : ℕ = slot_bytes * slot + stream_bytes * (j - 1) in
          buffer_of slot j jlow l after
          ∙ apart slot k low high held few room buffer long at stream_bytes (ltb at (slot_bytes * slot + stream_bytes * (k - 1))) refl
          (λ q. omega (arith, ltb-true at (slot_bytes * slot + stream_bytes * (k - 1)) q, h))
          (λ q. omega (arith, ltb-false at (slot_bytes * slot + stream_bytes * (k - 1)) q, h))
          ∙ sym (buffer_of slot j jlow l held)
