-- Theorems of sequence numbers and of what a stream accepts.
use Rattle.std.proofs.Common.{◌≡◌, ℕ, ◌<◌, Bool, true, false, cond, not, eqb, ltb, refl, ap, ◌∙◌, arith, ltb-false, ltb-true, le-ltb, lt-ltb, eq-eqb, ne_eqb}
use Rattle.streams.specs.declared.state.StreamState.{StreamState}
use Rattle.streams.specs.Sequence.{plus, minus, seq_lt}
use Rattle.streams.specs.Received.{received_of, expecting}
use Rattle.streams.proofs.Soundness.{receive_is}

module _ (a b : ℕ) (ha : a < 65536) (hb : b < 65536) where
  -- "At distance 32,768 it holds both ways"
  pub both_ways : minus a b ≡ 32768 → (seq_lt a b ≡ true) × (seq_lt b a ≡ true)
  unfolding seq_lt
  both_ways e = (lt-ltb 32767 (minus a b) (omega arith), lt-ltb 32767 (minus b a) (omega arith))

  -- else it holds one way, and of equal numbers no way
  pub one_way : (minus a b ≡ 32768 → ⊥) → (a ≡ b → ⊥) → seq_lt b a ≡ not (seq_lt a b)
  unfolding seq_lt
  one_way far other = one_way_of (ltb 32767 (minus a b)) refl
    where
      one_way_of : (t : Bool) → ltb 32767 (minus a b) ≡ t → ltb 32767 (minus b a) ≡ not t
      one_way_of true e = le-ltb 32767 (minus b a) (omega (arith, ltb-true 32767 (minus a b) e))
      one_way_of false e = lt-ltb 32767 (minus b a) (omega (arith, ltb-false 32767 (minus a b) e))

  pub no_way : a ≡ b → seq_lt a b ≡ false
  unfolding seq_lt
  no_way e = le-ltb 32767 (minus a b) (omega arith)

-- "A reliable stream accepts only the expected one; after 65,535 comes 0."
module _ (s : StreamState) (other : s.stream_id ≡ 0 → ⊥) where
  pub only_expected : (n : ℕ) → (received_of s n).accepted ≡ eqb n s.next_recv_seq
  only_expected n = (receive_is s n).0 ∙ ap (λ (b : Bool). cond b true (eqb n s.next_recv_seq)) (ne_eqb s.stream_id 0 other)

  pub expects_next : (received_of s s.next_recv_seq).state ≡ expecting s (plus s.next_recv_seq 1)
  unfolding received_of
  expects_next = rw (ne_eqb s.stream_id 0 other, eq-eqb s.next_recv_seq s.next_recv_seq refl)

  pub keeps_expecting : (n : ℕ) → (n ≡ s.next_recv_seq → ⊥) → (received_of s n).state ≡ s
  unfolding received_of
  keeps_expecting n h = rw (ne_eqb s.stream_id 0 other, ne_eqb n s.next_recv_seq h)

pub zero_follows : plus 65535 1 ≡ 0
zero_follows = refl

-- "Best effort (stream 0) .. accepts all numbers."
pub accepts_all : (s : StreamState) (n : ℕ) → s.stream_id ≡ 0 → received_of s n ≡ record { accepted = true; state = s }
unfolding received_of
accepts_all s n e = rw (eq-eqb s.stream_id 0 e)
