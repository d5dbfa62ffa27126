-- Laws of held messages over the tables: the buffer of a stream lies within the store, and what each call comes to by the place of its stream.
use Prim.Native.Nat.{ℕ, ◌+◌, ◌-◌, ◌*◌, ◌≤◌}
use mathlib.Core.Path.{◌≡◌, ap, ◌∙◌}
use mathlib.Core.Bool.{true}
use mathlib.Core.List.{List}
use native.Mathlib.Omega.{arith}
use borrow.Author.Tests.{le-leb, ne_eqb}
use lib.ListN.{length, drop, length-drop}
use lib.Seq.{length-take-le}
use Rattle.streams.specs.Sent.{record_of, record_bytes}
use Rattle.streams.specs.declared.state.StreamState.{StreamState}
use Rattle.streams.specs.declared.sent.Recorded.{Recorded}
use Rattle.sessions.specs.Streams.{stream_at}
use Rattle.sessions.specs.Sending.{has_buffer, room_of, buffer_in, with_buffer, next_slot, kept_sent, sent_rows, sent_bytes}
use Rattle.sessions.specs.declared.sending.Stretch.{Stretch}

-- ---- where a buffer lies

module _ (slot k held : ℕ) where
  pub has_buffer_lem : (k ≡ 0 → ⊥) → slot ≤ 255 → 114688 * slot + 16384 * k ≤ held → has_buffer slot k held ≡ true
  has_buffer_lem n l h = rw (ne_eqb k 0 n, le-leb slot 255 l, le-leb (114688 * slot + 16384 * k) held h)

-- the buffer has the length of its stretch
pub buffer_length : (held : List ℕ) (b : Stretch) → b.start ≤ b.end → b.end ≤ length held → length (buffer_in held b) ≡ room_of b
unfolding buffer_in
buffer_length held b l h = length-take-le (room_of b) (drop b.start held) (rw (length-drop b.start held) (omega arith))

-- ---- a message recorded step by step in the row `at`, with the buffer of a stretch

module _ (streams : List (List ℕ)) (at : ℕ) (held message : List ℕ) (b b' : Stretch) (s : StreamState) (same : b ≡ b') (row : s ≡ stream_at streams at) where
  -- `record_sent` over that part of the store, and what is then kept of its answer
  pub sent_step : b.start ≤ b.end → b.end ≤ length held → (r : Recorded) → r ≡ record_of s s.next_send_seq (length message) (length (buffer_in held b))
      → (r.slot ≡ next_slot (stream_at streams at) (length message) (room_of b')) × (kept_sent streams at r ≡ sent_rows streams at (length message) (room_of b'))
  unfolding record_of
  sent_step low within r e =
      let made : r ≡ record_of (stream_at streams at) (stream_at streams at).next_send_seq (length message) (room_of b')
      = e ∙ ap (record_of s s.next_send_seq (length message)) (buffer_length held b low within)
      ∙ ap (λ (x : StreamState). record_of x x.next_send_seq (length message) (room_of b)) row
      ∙ ap (λ (c : Stretch). record_of (stream_at streams at) (stream_at streams at).next_send_seq (length message) (room_of c)) same in
      (ap (λ (x : Recorded). x.slot) made, ap (kept_sent streams at) made)

  pub bytes_step : with_buffer held b (record_bytes s s.next_send_seq message (buffer_in held b)) ≡ sent_bytes held b' (stream_at streams at) message
  bytes_step = ap (λ (x : StreamState). sent_bytes held b x message) row ∙ ap (λ (c : Stretch). sent_bytes held c (stream_at streams at) message) same
