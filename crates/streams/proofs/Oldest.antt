-- The first number of a HEARTBEAT is the one that document 02 (W2) describes and no other; where every held number is below the next to send, it is document 01's.
use Rattle.std.proofs.Common.{◌≡◌, ℕ, ◌<◌, ◌≤◌, Bool, true, false, sym, refl, ap, ◌∙◌, arith}
use Rattle.streams.specs.declared.state.StreamState.{StreamState}
use Rattle.streams.specs.Sequence.{minus}
use Rattle.streams.specs.Places.{is_held}
use Rattle.streams.specs.Acknowledged.{first_unacked}
use Rattle.streams.specs.Oldest.{FirstBy, Furthest, Least, SixteenBits, AllBelow}
use Rattle.streams.proofs.places.Laws.{never}
use Rattle.streams.proofs.Heartbeat.{greatest, reaches, whose}

-- one number at most is the first, by an order that tells held numbers apart
only_one : (before : ℕ → ℕ → Type 0) (s : StreamState)
    → ((a b : ℕ) → is_held s a ≡ true → is_held s b ≡ true → before a b → before b a → a ≡ b)
    → (a b : ℕ) → FirstBy before s a → FirstBy before s b → a ≡ b
only_one before s apart a b x y = by (is_held s a) refl
  where
    nothing : is_held s a ≡ false → (m : ℕ) (t : Bool) → is_held s m ≡ t → is_held s m ≡ false
    nothing e m true h = absurd (never (x.held m h) e)
    nothing e m false h = h

    by : (t : Bool) → is_held s a ≡ t → a ≡ b
    by true e = apart a b e (y.held a e) (x.first b (y.held a e)) (y.first a e)
    by false e = x.empty (λ m. nothing e m (is_held s m) refl) ∙ sym (y.empty (λ m. nothing e m (is_held s m) refl))

-- the number at a distance lies at that distance; at distance 0 it is the next to send
module _ (next : ℕ) (h : next < 65536) where
  there_and_back : (n : ℕ) → n < 65536 → minus next (minus next n) ≡ n
  there_and_back n l = omega arith

  at_zero : minus next 0 ≡ next
  at_zero = omega arith

  none_apart : (n : ℕ) → n < 65536 → minus next n ≡ 0 → n ≡ next
  none_apart n l e = omega arith

module _ (s : StreamState) (bits : SixteenBits s) where
  -- the number named is the next to send, or a held one at the greatest distance
  named_at_zero : greatest s ≡ 0 → first_unacked s ≡ s.next_send_seq
  unfolding first_unacked
  named_at_zero e = rw e (at_zero s.next_send_seq bits.next)

  named_at : (n : ℕ) → is_held s n ≡ true → greatest s ≡ minus s.next_send_seq n → first_unacked s ≡ n
  unfolding first_unacked
  named_at n e d = rw d (there_and_back s.next_send_seq bits.next n (bits.held n e))

  -- the named number is held, if any is
  pub named : (m : ℕ) → is_held s m ≡ true → is_held s (first_unacked s) ≡ true
  named m e = whose s
      (λ z.
      let same = none_apart s.next_send_seq bits.next m (bits.held m e) (omega (arith, reaches s m e)) in
      ap (is_held s) (named_at_zero z ∙ sym same) ∙ e)
      (λ n h d. ap (is_held s) (named_at n h d) ∙ h)

  -- no held number is further behind the next to send
  pub furthest : (m : ℕ) → is_held s m ≡ true → minus s.next_send_seq m ≤ minus s.next_send_seq (first_unacked s)
  furthest m e = whose s
      (λ z. omega (arith, reaches s m e))
      (λ n h d. rw (named_at n h d, ← d) (reaches s m e))

  -- "or the next to send if none is held"
  pub next_if_none : ((m : ℕ) → is_held s m ≡ false) → first_unacked s ≡ s.next_send_seq
  next_if_none f = whose s named_at_zero (λ n h d. absurd (never h (f n)))

  -- "the held one with the greatest forward distance to the next to send", or the next to send
  pub oldest : Furthest s (first_unacked s)
  oldest = record { held = named; first = furthest; empty = next_if_none }

  -- two numbers of 16 bits never lie equally far behind it
  pub no_other : (n : ℕ) → Furthest s n → n ≡ first_unacked s
  no_other n x = only_one _ s (λ a b ha hb p q. omega (arith, bits.held a ha, bits.held b hb)) n (first_unacked s) x oldest

  -- "Heartbeats equal the Rust's where every held number is below the next to send"
  pub as_least : AllBelow s → Least s (first_unacked s)
  as_least k = record {
    held = named;
    first = λ m e. omega (arith, bits.next, k m e, k (first_unacked s) (named m e), furthest m e);
    empty = next_if_none;
  }

  -- and document 01's rule allows no other
  pub least_alone : AllBelow s → (n : ℕ) → Least s n → n ≡ first_unacked s
  least_alone k n x = only_one _ s (λ a b ha hb p q. omega arith) n (first_unacked s) x (as_least k)
