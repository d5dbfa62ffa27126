-- A held message reads back byte for byte until it is replaced or acknowledged, whatever else is called.
use Rattle.std.proofs.Common.{◌≡◌, ℕ, ◌-◌, ◌*◌, ◌≤◌, Bool, true, false, eqb, List, [], ◌∷◌, length, get_or, sym, refl, ap, ◌∙◌, arith, le-ltb, eq-eqb, ne_eqb}
use borrow.Author.Tests.{eqb-false, lt-leb, not-true}
use Rattle.streams.specs.declared.state.StreamState.{StreamState}
use Rattle.streams.specs.Sequence.{seq_lt}
use Rattle.streams.specs.Places.{place_of, is_held}
use Rattle.streams.specs.Sent.{need, slot_for, record_at, record_of, bytes_at, record_bytes, held_of, bytes_in, held_bytes}
use Rattle.streams.specs.Acknowledged.{acknowledge, repeats_of}
use Rattle.streams.specs.View.{message_held, Kept, Sound, Stream, Call, allocate, send, acknack, receive, after, after_all, spares, AllSpare}
use Rattle.streams.proofs.places.Held.{held_low, free_place, read_at, read_none}
use Rattle.streams.proofs.sent.Laws.{slot_at}
use Rattle.codec.proofs.bytes.Laws.{length_put}
use Rattle.streams.proofs.Dropped.{acknowledged}
use Rattle.streams.proofs.View.{recorded}
use Rattle.streams.proofs.Soundness.{alloc_sound, receive_sound, drop_sound, record_sound_lem}
use Rattle.streams.proofs.Kept.{alloc_kept, receive_held}
use Rattle.std.specs.Prelude.{Err, None, Ok, Option, Result, Some}
use Rattle.codec.specs.declared.refusals.Refusal.{Refusal}

-- one message is sent, and what `record_sent` answers
module _ (x : Stream) (d : Sound x.state) (m : ℕ) (message : List ℕ) where
  sent_sound : (a : Result (Option ℕ) Refusal) → slot_for x.state m (length message) (length x.buffer) ≡ a → Sound (record_at a x.state m (length message))
  unfolding record_at
  sent_sound (Ok (Some p)) e = let k = slot_at x.state m (length message) (length x.buffer) p e in record_sound_lem x.state d m (length message) p k.place k.low k.short
  sent_sound (Ok None) e = d
  sent_sound (Err r) e = d

  sent_room : (a : Result (Option ℕ) Refusal) → slot_for x.state m (length message) (length x.buffer) ≡ a → length (bytes_at a message x.buffer) ≡ length x.buffer
  unfolding bytes_at
  sent_room (Ok (Some p)) e =
      let k = slot_at x.state m (length message) (length x.buffer) p e in
      length_put x.buffer (p * 1024) message (omega (arith, k.low, k.short, k.room_for))
  sent_room (Ok None) e = refl
  sent_room (Err r) e = refl

  sent_others : (n : ℕ) → (n ≡ m → ⊥) → (a : Result (Option ℕ) Refusal) → slot_for x.state m (length message) (length x.buffer) ≡ a
      → message_held (record_at a x.state m (length message)) (bytes_at a message x.buffer) n ≡ message_held x.state x.buffer n
  unfolding record_at bytes_at
  sent_others n h (Ok (Some p)) e = recorded x.state d m message x.buffer p e n ∙ rw (ne_eqb n m h)
  sent_others n h (Ok None) e = refl
  sent_others n h (Err r) e = refl

-- one call
module _ (x : Stream) (d : Sound x.state) where
  pub step_sound : (c : Call) → Sound (after c x).state
  unfolding after record_of acknowledge repeats_of
  step_sound allocate = alloc_sound x.state d
  step_sound (send m message) = sent_sound x d m message (slot_for x.state m (length message) (length x.buffer)) refl
  step_sound (acknack first bitmap) = drop_sound x.state first d
  step_sound (receive m) = receive_sound x.state m d

  pub step_room : (c : Call) → length (after c x).buffer ≡ length x.buffer
  unfolding after record_bytes
  step_room allocate = refl
  step_room (send m message) = sent_room x d m message (slot_for x.state m (length message) (length x.buffer)) refl
  step_room (acknack first bitmap) = refl
  step_room (receive m) = refl

  pub step_kept : (n : ℕ) (c : Call) → spares n c ≡ true → message_held (after c x).state (after c x).buffer n ≡ message_held x.state x.buffer n
  unfolding after record_of record_bytes acknowledge repeats_of spares
  step_kept n allocate e = ap (λ (k : Kept (List ℕ)). k.held n) (alloc_kept (bytes_in x.buffer) x.state)
  step_kept n (send m message) e =
      sent_others x d m message n (λ q. eqb-false m n (not-true (eqb m n) e) (sym q)) (slot_for x.state m (length message) (length x.buffer)) refl
  step_kept n (acknack first bitmap) e = acknowledged x.state first n (bytes_in x.buffer) ∙ rw (not-true (seq_lt n first) e)
  step_kept n (receive m) e = receive_held (bytes_in x.buffer) x.state m n

-- a message that was just recorded is held
just_recorded : (x : Stream) → Sound x.state → (n : ℕ) (message : List ℕ) (p : ℕ) → slot_for x.state n (length message) (length x.buffer) ≡ Ok (Some p)
    → message_held (after (send n message) x).state (after (send n message) x).buffer n ≡ Some message
unfolding after record_of record_at record_bytes bytes_at
just_recorded x d n message p e = rw e (recorded x.state d n message x.buffer p e n ∙ rw (eq-eqb n n refl))

-- any calls one behind the other
pub all_sound : (cs : List Call) (x : Stream) → Sound x.state → Sound (after_all cs x).state
unfolding after_all
all_sound [] x d = d
all_sound (c ∷ cs) x d = all_sound cs (after c x) (step_sound x d c)

pub all_room : (cs : List Call) (x : Stream) → Sound x.state → length (after_all cs x).buffer ≡ length x.buffer
unfolding after_all
all_room [] x d = refl
all_room (c ∷ cs) x d = all_room cs (after c x) (step_sound x d c) ∙ step_room x d c

pub all_kept : (n : ℕ) (cs : List Call) (x : Stream) → Sound x.state → AllSpare n cs
    → message_held (after_all cs x).state (after_all cs x).buffer n ≡ message_held x.state x.buffer n
unfolding after_all AllSpare
all_kept n [] x d e = refl
all_kept n (c ∷ cs) x d e = all_kept n cs (after c x) (step_sound x d c) e.1 ∙ step_kept x d n c e.0

-- `held_message` hands back the message that is held, and `find_held` says so where none is
module _ (s : StreamState) (d : Sound s) (buffer : List ℕ) (room : need ≤ length buffer) (n : ℕ) where
  found : is_held s n ≡ true → held_of s n (length buffer) ≡ Ok (Some ((place_of s n), (get_or s.lengths (place_of s n) 0 - 1)))
  unfolding held_of
  found k =
      rw (
        le-ltb (length buffer) need room,
        lt-leb 16 (place_of s n) (held_low s n k),
        le-ltb 1025 (get_or s.lengths (place_of s n) 0) (d.short (place_of s n)),
      )

  pub reads_held : (bytes : List ℕ) → message_held s buffer n ≡ Some bytes → held_bytes (held_of s n (length buffer)) buffer ≡ bytes
  unfolding held_bytes
  reads_held bytes e = by (is_held s n) refl
    where
      by : (t : Bool) → is_held s n ≡ t → held_bytes (held_of s n (length buffer)) buffer ≡ bytes
      by true k = rw (found k) (let same = read_at s n (bytes_in buffer) (place_of s n) refl (held_low s n k) in cc)
      by false k = absurd (let no = read_none s n (bytes_in buffer) (free_place s n k) in let z : ◌≡◌ {A = ℕ} 0 1 = cc in omega arith)

  pub reads_nothing : message_held s buffer n ≡ None → held_of s n (length buffer) ≡ (Ok None)
  unfolding held_of
  reads_nothing e = by (is_held s n) refl
    where
      by : (t : Bool) → is_held s n ≡ t → held_of s n (length buffer) ≡ (Ok None)
      by true k = absurd (let same = read_at s n (bytes_in buffer) (place_of s n) refl (held_low s n k) in let z : ◌≡◌ {A = ℕ} 0 1 = cc in omega arith)
      by false k = rw (le-ltb (length buffer) need room, free_place s n k)

-- a message that was recorded reads back after any calls that neither record its number anew nor acknowledge it
pub reads_back : (x : Stream) → Sound x.state → (n : ℕ) (message : List ℕ) (p : ℕ) → slot_for x.state n (length message) (length x.buffer) ≡ Ok (Some p)
    → (cs : List Call) → AllSpare n cs
    → let y = after_all cs (after (send n message) x) in held_bytes (held_of y.state n (length y.buffer)) y.buffer ≡ message
reads_back x d n message p e cs spared =
    let z = after (send n message) x in
    let dz = step_sound x d (send n message) in
    let y = after_all cs z in
    let k = slot_at x.state n (length message) (length x.buffer) p e in
    reads_held y.state (all_sound cs z dz) y.buffer (omega (arith, k.room_for, all_room cs z dz, step_room x d (send n message))) n message
    (all_kept n cs z dz spared ∙ just_recorded x d n message p e)
