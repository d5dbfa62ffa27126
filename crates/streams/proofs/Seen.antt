-- What a stream answers is seen in what is kept of it: what stands in free places has no say, nor which place a message has.
use Rattle.std.proofs.Common.{◌≡◌, ℕ, zero, suc, true, cond, eqb, sym, refl, ap, ◌∙◌}
use Rattle.streams.specs.declared.state.StreamState.{StreamState}
use Rattle.streams.specs.Sequence.{plus, minus}
use Rattle.streams.specs.Places.{is_held}
use Rattle.streams.specs.Acknowledged.{wanted, repeats_from, repeats, padded, repeats_of, drop_before, acknowledge, first_unacked, heartbeat_of}
use Rattle.streams.specs.Oldest.{SixteenBits}
use Rattle.streams.specs.Received.{bitmap_of, acknack_of, received_of}
use Rattle.streams.specs.View.{present, Kept, kept_of, acknack_in}
use Rattle.streams.proofs.places.Held.{read_present}
use Rattle.streams.proofs.Oldest.{oldest, no_other}
use Rattle.streams.proofs.Soundness.{receive_is}
use Rattle.streams.proofs.Kept.{drop_kept}

-- two streams that hold the same numbers
module _ (s t : StreamState) (same : (m : ℕ) → is_held s m ≡ is_held t m) where
  repeats_from_lem : (first bitmap k bit : ℕ) → repeats_from s first bitmap k bit ≡ repeats_from t first bitmap k bit
  unfolding repeats_from wanted
  repeats_from_lem first bitmap zero bit = refl
  repeats_from_lem first bitmap (suc k) bit = rw (same (plus first bit), repeats_from_lem first bitmap k (suc bit))

  repeats_same : (first bitmap : ℕ) → repeats s first bitmap ≡ repeats t first bitmap
  unfolding repeats
  repeats_same first bitmap = repeats_from_lem first bitmap 16 0

  -- the first number of a HEARTBEAT is told by what is held, since one number alone is the first
  first_same : SixteenBits s → s.next_send_seq ≡ t.next_send_seq → first_unacked s ≡ first_unacked t
  first_same bits next =
      let o = oldest s bits in
      no_other t (record { next = rw (← next) bits.next; held = λ m h. bits.held m (same m ∙ h) }) (first_unacked s) (record {
        held = λ m h. sym (same (first_unacked s)) ∙ o.held m (same m ∙ h);
        first = λ m h. rw (← next) (o.first m (same m ∙ h));
        empty = λ f. o.empty (λ m. same m ∙ f m) ∙ next;
      })

module _ {A : Type 0} (read : ℕ → ℕ → A) where
  module _ (s t : StreamState) (same : kept_of read s ≡ kept_of read t) where
    held_same : (m : ℕ) → is_held s m ≡ is_held t m
    held_same m = sym (read_present s m read) ∙ ap (λ (k : Kept A). present (k.held m)) same ∙ read_present t m read

    pub accepts_same : (n : ℕ) → (received_of s n).accepted ≡ (received_of t n).accepted
    accepts_same n = (receive_is s n).0 ∙ ap (λ (k : Kept A). cond (eqb k.number 0) true (eqb n k.expected)) same ∙ sym (receive_is t n).0

    pub acknack_same : (first last : ℕ) → acknack_of s first last ≡ acknack_of t first last
    unfolding acknack_of
    acknack_same first last =
        let e : s.next_recv_seq ≡ t.next_recv_seq = ap (λ (k : Kept A). k.expected) same in
        λ i. record { first_unacked_seq = e i; nack_bitmap = bitmap_of (e i) first last }

    pub heartbeat_same : SixteenBits s → heartbeat_of s ≡ heartbeat_of t
    unfolding heartbeat_of
    heartbeat_same bits =
        let e : s.next_send_seq ≡ t.next_send_seq = ap (λ (k : Kept A). k.next) same in
        λ i. record { first_unacked_seq = first_same s t held_same bits e i; last_seq = minus (e i) 1 }

  -- what is listed of the numbers that an ACKNACK leaves
  pub lists_same : (s t : StreamState) → kept_of read s ≡ kept_of read t → (first bitmap : ℕ)
      → ((acknowledge s first bitmap).repeats ≡ (acknowledge t first bitmap).repeats) × ((acknowledge s first bitmap).count ≡ (acknowledge t first bitmap).count)
  unfolding acknowledge repeats_of
  lists_same s t same first bitmap =
      let left : kept_of read (drop_before s first) ≡ kept_of read (drop_before t first) = drop_kept read s first ∙ ap (acknack_in first) same ∙ sym (drop_kept read t first) in
      let e : repeats (drop_before s first) first bitmap ≡ repeats (drop_before t first) first bitmap = repeats_same (drop_before s first) (drop_before t first) (held_same (drop_before s first) (drop_before t first) left) first bitmap in
      (ap padded e, rw e refl)
