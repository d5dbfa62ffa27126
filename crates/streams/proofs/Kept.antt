-- What is kept of a stream: each call makes document 01's operation of it, whatever stands in the free places.
use Rattle.std.proofs.Common.{◌≡◌, ℕ, Bool, true, false, cond, eqb, List, length, refl, ap, ◌∙◌}
use Rattle.streams.specs.declared.state.StreamState.{StreamState}
use Rattle.streams.specs.Sequence.{plus}
use Rattle.streams.specs.State.{new_stream}
use Rattle.streams.specs.Sent.{alloc_of, slot_for, with_message, record_at, record_of, bytes_at, record_bytes, bytes_in}
use Rattle.streams.specs.Acknowledged.{drop_before, acknowledge, repeats_of}
use Rattle.streams.specs.Received.{received_of, expecting}
use Rattle.streams.specs.View.{Sound, length_in, Kept, kept_of, fresh_of, alloc_in, record_in, acknack_in, receive_in}
use Rattle.streams.proofs.places.Held.{free_place, read_none}
use Rattle.streams.proofs.Agree.{same_held}
use Rattle.streams.proofs.Dropped.{acknowledged}
use Rattle.streams.proofs.View.{recorded_by, recorded}
use Rattle.streams.proofs.Soundness.{new_empty, receive_is}
use Rattle.std.specs.Prelude.{Err, None, Ok, Option, Result, Some}
use Rattle.codec.specs.declared.refusals.Refusal.{Refusal}

-- what is expected has no say in what is sent and held
pub receive_spares : {A : Type 0} (k : Kept A) (n : ℕ) → ((receive_in n k).next ≡ k.next) × ((m : ℕ) → (receive_in n k).held m ≡ k.held m)
receive_spares {A} k n = by (eqb k.number 0) (eqb n k.expected)
  where
    then : Bool → Bool → Kept A
    then t u = cond t k (cond u (record { number = k.number; next = k.next; expected = plus n 1; held = k.held }) k)

    by : (t u : Bool) → ((then t u).next ≡ k.next) × ((m : ℕ) → (then t u).held m ≡ k.held m)
    by true u = (refl, λ m. refl)
    by false true = (refl, λ m. refl)
    by false false = (refl, λ m. refl)

-- ---- the calls that record nothing, whatever is read of a message

module _ {A : Type 0} (read : ℕ → ℕ → A) where
  pub new_kept : (id : ℕ) → kept_of read (new_stream id) ≡ fresh_of id
  new_kept id = λ i. record { number = id; next = 0; expected = 0; held = λ m. read_none (new_stream id) m read (free_place (new_stream id) m (new_empty id m)) i }

  module _ (s : StreamState) where
    pub alloc_kept : kept_of read (alloc_of s).state ≡ alloc_in (kept_of read s)
    unfolding alloc_of
    alloc_kept = λ i. record {
      number = s.stream_id;
      next = plus s.next_send_seq 1;
      expected = s.next_recv_seq;
      held = λ m. same_held s (alloc_of s).state (λ j h. (refl, refl)) read m i;
    }

    pub drop_kept : (first : ℕ) → kept_of read (drop_before s first) ≡ acknack_in first (kept_of read s)
    unfolding drop_before
    drop_kept first = λ i. record { number = s.stream_id; next = s.next_send_seq; expected = s.next_recv_seq; held = λ m. acknowledged s first m read i }

    pub acknack_kept : (first bitmap : ℕ) → kept_of read (acknowledge s first bitmap).state ≡ acknack_in first (kept_of read s)
    unfolding acknowledge repeats_of
    acknack_kept first bitmap = drop_kept first

    pub receive_kept : (n : ℕ) → kept_of read (received_of s n).state ≡ receive_in n (kept_of read s)
    unfolding expecting
    receive_kept n = ap (kept_of read) (receive_is s n).1 ∙ by (eqb s.stream_id 0) (eqb n s.next_recv_seq)
      where
        then : Kept A
        then = record { number = s.stream_id; next = s.next_send_seq; expected = plus n 1; held = (kept_of read s).held }

        by : (t u : Bool) → kept_of read (cond t s (cond u (expecting s (plus n 1)) s)) ≡ cond t (kept_of read s) (cond u then (kept_of read s))
        by true u = refl
        by false true = λ i. record {
          number = s.stream_id;
          next = s.next_send_seq;
          expected = plus n 1;
          held = λ m. same_held s (expecting s (plus n 1)) (λ j h. (refl, refl)) read m i;
        }
        by false false = refl

    pub receive_held : (n m : ℕ) → (kept_of read (received_of s n).state).held m ≡ (kept_of read s).held m
    receive_held n m = ap (λ (k : Kept A). k.held m) (receive_kept n) ∙ (receive_spares (kept_of read s) n).1 m

-- ---- `record_sent`, by its answer: the bytes, and their number

module _ (s : StreamState) (sound : Sound s) (n : ℕ) where
  pub record_kept : (message buffer : List ℕ)
      → kept_of (bytes_in (record_bytes s n message buffer)) (record_of s n (length message) (length buffer)).state
      ≡ record_in (slot_for s n (length message) (length buffer)) n message (kept_of (bytes_in buffer) s)
  unfolding record_of record_bytes record_at bytes_at with_message
  record_kept message buffer = by (slot_for s n (length message) (length buffer)) refl
    where
      by : (a : Result (Option ℕ) Refusal) → slot_for s n (length message) (length buffer) ≡ a
          → kept_of (bytes_in (bytes_at a message buffer)) (record_at a s n (length message)) ≡ record_in a n message (kept_of (bytes_in buffer) s)
      by (Ok (Some p)) e = λ i. record { number = s.stream_id; next = s.next_send_seq; expected = s.next_recv_seq; held = λ m. recorded s sound n message buffer p e m i }
      by (Ok None) e = refl
      by (Err r) e = refl

  pub record_kept_length : (len room : ℕ) → kept_of length_in (record_of s n len room).state ≡ record_in (slot_for s n len room) n len (kept_of length_in s)
  unfolding record_of record_at with_message
  record_kept_length len room = by (slot_for s n len room) refl
    where
      by : (a : Result (Option ℕ) Refusal) → slot_for s n len room ≡ a → kept_of length_in (record_at a s n len) ≡ record_in a n len (kept_of length_in s)
      by (Ok (Some p)) e = λ i. record {
        number = s.stream_id;
        next = s.next_send_seq;
        expected = s.next_recv_seq;
        held = λ m. recorded_by length_in length_in len s sound n len room p e refl (λ q k h small. refl) m i;
      }
      by (Ok None) e = refl
      by (Err r) e = refl
