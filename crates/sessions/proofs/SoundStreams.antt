-- What lasts of the streams: a sound one stays sound, and one of 16 bits such, when it is opened, written in its row, sends, and is acknowledged.
use Prim.Native.Nat.{ℕ, ◌<◌}
use mathlib.Core.Path.{◌≡◌, refl, sym, ap, ◌∙◌}
use mathlib.Core.Bool.{Bool, true, false, cond}
use native.Mathlib.Omega.{arith}
use borrow.Author.Tests.{eqb-true}
use lib.Dec.{eqb}
use Rattle.streams.specs.declared.state.StreamState.{StreamState}
use Rattle.streams.specs.Sequence.{seq_lt}
use Rattle.streams.specs.State.{new_stream}
use Rattle.streams.specs.Sent.{alloc_of, slot_for, record_at, record_of}
use Rattle.streams.specs.Acknowledged.{drop_before, repeats_of, acknowledge}
use Rattle.streams.specs.Oldest.{SixteenBits}
use Rattle.streams.specs.View.{held_by, length_in, present, Kept, kept_of, alloc_in, record_in, Sound}
use Rattle.streams.proofs.places.Laws.{never}
use Rattle.streams.proofs.places.Held.{read_present}
use Rattle.streams.proofs.sent.Laws.{slot_at}
use Rattle.streams.proofs.Agree.{same_held}
use Rattle.streams.proofs.Soundness.{new_sound, alloc_sound, drop_sound, record_sound_lem}
use Rattle.streams.proofs.Kept.{new_kept, alloc_kept, drop_kept, record_kept_length}
use Rattle.sessions.specs.Streams.{row_from, stream_of, stream_row}
use Rattle.sessions.specs.Calls.{Lasting, SoundStream}
use Rattle.sessions.proofs.StreamBack.{back_agrees, row_sound}
use Rattle.std.specs.Prelude.{Err, None, Ok, Result, Some, Option}
use Rattle.codec.specs.declared.refusals.Refusal.{Refusal}

-- ---- soundness

pub sent_sound : (s : StreamState) (len room : ℕ) → Sound s → Sound (alloc_of (record_of s s.next_send_seq len room).state).state
unfolding record_of record_at
sent_sound s len room d = alloc_sound (record_of s n len room).state (by (slot_for s n len room) refl)
  where
    n : ℕ
    n = s.next_send_seq

    by : (a : Result (Option ℕ) Refusal) → slot_for s n len room ≡ a → Sound (record_at a s n len)
    by (Ok (Some p)) e = let k = slot_at s n len room p e in record_sound_lem s d n len p k.place k.low k.short
    by (Ok None) e = d
    by (Err r) e = d

-- ---- numbers of 16 bits

-- those that are held, read off the kept stream
bits_by : (t : StreamState) (held : ℕ → Option ℕ) → ((m : ℕ) → held_by length_in t m ≡ held m) → t.next_send_seq < 65536 → ((m : ℕ) → present (held m) ≡ true → m < 65536) → SixteenBits t
bits_by t held same next low = record { next = next; held = λ m h. low m (ap (λ (o : Option ℕ). present o) (sym (same m)) ∙ read_present t m length_in ∙ h) }

none_held : (m : ℕ) → present {A = ℕ} None ≡ true → m < 65536
none_held m h = absurd (never h refl)

new_bits : (n : ℕ) → SixteenBits (new_stream n)
new_bits n = bits_by (new_stream n) (λ m. None) (λ m. ap (λ (k : Kept ℕ). k.held m) (new_kept length_in n)) (omega arith) none_held

module _ (s : StreamState) (bits : SixteenBits s) where
  low : (m : ℕ) → present (held_by length_in s m) ≡ true → m < 65536
  low m h = bits.held m (sym (read_present s m length_in) ∙ h)

  row_bits : SixteenBits (stream_of (stream_row s))
  unfolding stream_of row_from
  row_bits = bits_by (stream_of (stream_row s)) (held_by length_in s) (λ m. same_held s (stream_of (stream_row s)) (back_agrees s) length_in m) bits.next low

  drop_bits : (first : ℕ) → SixteenBits (drop_before s first)
  unfolding drop_before
  drop_bits first =
      bits_by (drop_before s first) (λ m. cond (seq_lt m first) None (held_by length_in s m)) (λ m. ap (λ (k : Kept ℕ). k.held m) (drop_kept length_in s first)) bits.next (λ m h. by m (seq_lt m first) h)
    where
      by : (m : ℕ) (b : Bool) → present (cond b None (held_by length_in s m)) ≡ true → m < 65536
      by m true h = none_held m h
      by m false h = low m h

  sent_bits : Sound s → (len room : ℕ) → SixteenBits (alloc_of (record_of s s.next_send_seq len room).state).state
  sent_bits d len room =
      bits_by (alloc_of (record_of s n len room).state).state (behind (slot_for s n len room)).held (λ m. ap (λ (k : Kept ℕ). k.held m) is)
      (let e = ap (λ (k : Kept ℕ). k.next) is in omega (arith, e, by_next (slot_for s n len room))) (by_held (slot_for s n len room))
    where
      n : ℕ
      n = s.next_send_seq

      behind : Result (Option ℕ) Refusal → Kept ℕ
      behind a = alloc_in (record_in a n len (kept_of length_in s))

      is : kept_of length_in (alloc_of (record_of s n len room).state).state ≡ behind (slot_for s n len room)
      is = alloc_kept length_in (record_of s n len room).state ∙ ap (λ (k : Kept ℕ). alloc_in k) (record_kept_length s d n len room)

      by_next : (a : Result (Option ℕ) Refusal) → (behind a).next < 65536
      by_next (Ok (Some p)) = omega arith
      by_next (Ok None) = omega arith
      by_next (Err r) = omega arith

      by_held : (a : Result (Option ℕ) Refusal) (m : ℕ) → present ((behind a).held m) ≡ true → m < 65536
      by_held (Ok (Some p)) m h = by (eqb m n) refl h
        where
          by : (b : Bool) → eqb m n ≡ b → present (cond b (Some len) (held_by length_in s m)) ≡ true → m < 65536
          by true e h = omega (arith, eqb-true m n e, bits.next)
          by false e h = low m h
      by_held (Ok None) m h = low m h
      by_held (Err r) m h = low m h

-- ---- both

pub stream_lasts : Lasting SoundStream
stream_lasts = record {
  opens = λ n. record { sound = new_sound n; bits = new_bits n };
  reads = λ s w. record { sound = row_sound s w.sound; bits = row_bits s w.bits };
  sends = λ s len room w. record { sound = sent_sound s len room w.sound; bits = sent_bits s w.bits w.sound len room };
}

-- what an ACKNACK leaves
pub acknack_stream : (s : StreamState) (first bitmap : ℕ) → SoundStream s → SoundStream (acknowledge s first bitmap).state
unfolding acknowledge repeats_of
acknack_stream s first bitmap w = record { sound = drop_sound s first w.sound; bits = drop_bits s w.bits first }
