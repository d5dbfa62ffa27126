-- Document 02, W5: "each DATA reply now takes the next send sequence in its header and is held": `record_sent` under the next number, then `alloc_send_seq`.
use Rattle.std.proofs.Common.{◌≡◌, ℕ, ◌<◌, ◌≤◌, Bool, true, false, cond, eqb, List, length, sym, refl, ap, ◌∙◌, arith, le-ltb, ne_eqb, eqb-true, leb-false}
use borrow.Author.Tests.{lt-leb}
use Rattle.streams.specs.declared.state.StreamState.{StreamState}
use Rattle.streams.specs.Places.{is_held, place_of, place_between, is_full, place_for}
use Rattle.streams.specs.Sent.{need, slot_for, alloc_of, record_of, record_bytes, bytes_in}
use Rattle.streams.specs.Oldest.{SixteenBits}
use Rattle.streams.specs.View.{message_held, present, Kept, kept_of, alloc_in, record_in, sent_in, Sound, Stream, allocate, send, after}
use Rattle.streams.proofs.places.Held.{held_low, read_present}
use Rattle.streams.proofs.Soundness.{sound_limits}
use Rattle.streams.proofs.Kept.{alloc_kept, record_kept}
use Rattle.streams.proofs.History.{step_sound, step_room}
use Rattle.std.specs.Prelude.{Ok, Option, Result, Some}
use Rattle.codec.specs.declared.refusals.Refusal.{Refusal}

-- where not all sixteen places are used, there is one for any number
place_left : (s : StreamState) (n : ℕ) → is_full s ≡ false → place_for s n < 16
unfolding place_for is_full
place_left s n e = by (is_held s n) refl
  where
    by : (b : Bool) → is_held s n ≡ b → cond b (place_of s n) (place_between s 0 0) < 16
    by true h = held_low s n h
    by false h = leb-false 16 (place_between s 0 0) e

-- the stream behind the reply, and its buffer
abbrev pub replied : StreamState → List ℕ → List ℕ → StreamState
replied s message buffer = (alloc_of (record_of s s.next_send_seq (length message) (length buffer)).state).state

abbrev pub replied_bytes : StreamState → List ℕ → List ℕ → List ℕ
replied_bytes s message buffer = record_bytes s s.next_send_seq message buffer

module _ (s : StreamState) (sound : Sound s) (other : s.stream_id ≡ 0 → ⊥) (free : is_full s ≡ false) (message buffer : List ℕ)
    (short : length message ≤ 1024) (room : need ≤ length buffer) where
  -- the message has a place, whatever its number
  pub reply_slot : (n : ℕ) → (slot_for s n (length message) (length buffer) ≡ Ok (Some (place_for s n))) × (place_for s n < 16)
  unfolding slot_for
  reply_slot n =
      let l = place_left s n free in (
        rw (
          ne_eqb s.stream_id 0 other,
          le-ltb (length buffer) need room,
          sound_limits s sound,
          le-ltb 1024 (length message) short,
          lt-leb 16 (place_for s n) l,
        ),
        l,
      )

  pub reply_kept : kept_of (bytes_in (replied_bytes s message buffer)) (replied s message buffer) ≡ sent_in message (kept_of (bytes_in buffer) s)
  reply_kept =
      let n = s.next_send_seq in
      let k = kept_of (bytes_in buffer) s in
      alloc_kept (bytes_in (replied_bytes s message buffer)) (record_of s n (length message) (length buffer)).state
      ∙ ap alloc_in (record_kept s sound n message buffer ∙ ap (λ (a : Result (Option ℕ) Refusal). record_in a n message k) (reply_slot n).0)

  pub reply_sound : Sound (replied s message buffer)
  unfolding after
  reply_sound =
      let x : Stream = record { state = s; buffer = buffer } in
      let c = send s.next_send_seq message in
      step_sound (after c x) (step_sound x sound c) allocate

  pub reply_room : length (replied_bytes s message buffer) ≡ length buffer
  unfolding after
  reply_room = step_room (record { state = s; buffer = buffer }) sound (send s.next_send_seq message)

  pub reply_bits : SixteenBits s → SixteenBits (replied s message buffer)
  reply_bits bits = record {
    next = let e = ap (λ (k : Kept (List ℕ)). k.next) reply_kept in omega arith;
    held = λ m h. by m (eqb m s.next_send_seq) refl (seen m ∙ h);
  }
    where
      seen : (m : ℕ) → present (cond (eqb m s.next_send_seq) (Some message) (message_held s buffer m)) ≡ is_held (replied s message buffer) m
      seen m = sym (ap (λ (k : Kept (List ℕ)). present (k.held m)) reply_kept) ∙ read_present (replied s message buffer) m (bytes_in (replied_bytes s message buffer))

      by : (m : ℕ) (b : Bool) → eqb m s.next_send_seq ≡ b → present (cond b (Some message) (message_held s buffer m)) ≡ true → m < 65536
      by m true e h = omega (arith, eqb-true m s.next_send_seq e, bits.next)
      by m false e h = bits.held m (sym (read_present s m (bytes_in buffer)) ∙ h)
