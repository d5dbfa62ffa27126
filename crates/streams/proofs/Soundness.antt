-- Every call leaves a sound state, and of a sound state no length is past its limit.
use Rattle.std.proofs.Common.{◌≡◌, ℕ, zero, suc, ◌+◌, ◌<◌, ◌≤◌, Bool, true, false, cond, eqb, ltb, get_or, set, replicate, sym, refl, ◌∙◌, arith, length-set, get_or-set_other, get_or-set_same, ltb-false, ltb-true, lt-ltb, eqb-true}
use borrow.Author.Tests.{eqb-false}
use lib.ListN.{get_or-eq_default}
use Rattle.streams.specs.declared.state.StreamState.{StreamState}
use Rattle.streams.specs.declared.received.Received.{Received}
use Rattle.streams.specs.Sequence.{plus, seq_lt}
use Rattle.streams.specs.State.{new_stream}
use Rattle.streams.specs.Places.{within, holds_at, length_at, place_of, place_between, is_held, in_limits, place_for}
use Rattle.streams.specs.Sent.{alloc_of, with_message}
use Rattle.streams.specs.Acknowledged.{kept_length, kept_at, sixteen, drop_before}
use Rattle.streams.specs.Received.{received_of, expecting}
use Rattle.streams.specs.View.{Sound}
use Rattle.streams.proofs.places.Laws.{never, first_none}
use Rattle.streams.proofs.places.Held.{holds_free, held_low, held_there, held_anywhere}
use Rattle.streams.proofs.Dropped.{sixteen_at, sixteen_length, kept_at_lem}
use Rattle.streams.proofs.Agree.{same_sound}
use Rattle.streams.proofs.View.{at_same, at_other}

zero_at : (k i : ℕ) → ◌≡◌ {A = ℕ} (get_or (replicate k 0) i 0) 0
zero_at zero i = refl
zero_at (suc k) zero = refl
zero_at (suc k) (suc i) = zero_at k i

-- a stream that was just opened is sound and holds nothing
pub new_sound : (id : ℕ) → Sound (new_stream id)
unfolding holds_at
new_sound id = record {
  numbers_count = refl;
  lengths_count = refl;
  short = λ i. rw (zero_at 16 i) (omega arith);
  once = λ n i j hi hj a b. absurd (never a (holds_free (get_or (replicate 16 0) i 0) (get_or (replicate 16 0) i 0) n (zero_at 16 i)));
}

pub new_empty : (id n : ℕ) → is_held (new_stream id) n ≡ false
unfolding is_held place_of holds_at
new_empty id n =
    rw (first_none (holds_at (new_stream id) n) (λ j h. holds_free (get_or (replicate 16 0) j 0) (get_or (replicate 16 0) j 0) n (zero_at 16 j)))

-- a sound state is never refused for its lengths
pub sound_limits : (s : StreamState) → Sound s → in_limits s ≡ true
unfolding in_limits place_between length_at within
sound_limits s d =
    rw (first_none (length_at s 1026 65535) (λ j h. rw (lt-ltb (get_or s.lengths j 0) 1026 (omega (arith, d.short j)))))

-- what `alloc_send_seq` and `check_recv_seq` leave is as sound as what they found
pub alloc_sound : (s : StreamState) → Sound s → Sound (alloc_of s).state
unfolding alloc_of
alloc_sound s d = same_sound s (alloc_of s).state (λ j h. (refl, refl)) d d.numbers_count d.lengths_count

pub receive_is : (s : StreamState) (n : ℕ)
    → ((received_of s n).accepted ≡ cond (eqb s.stream_id 0) true (eqb n s.next_recv_seq))
    × ((received_of s n).state ≡ cond (eqb s.stream_id 0) s (cond (eqb n s.next_recv_seq) (expecting s (plus n 1)) s))
unfolding received_of
receive_is s n = by (eqb s.stream_id 0) (eqb n s.next_recv_seq)
  where
    answer : Bool → Bool → Received
    answer t u = cond t (record { accepted = true; state = s }) (cond u (record { accepted = true; state = expecting s (plus n 1) }) (record { accepted = false; state = s }))

    by : (t u : Bool) → ((answer t u).accepted ≡ cond t true u) × ((answer t u).state ≡ cond t s (cond u (expecting s (plus n 1)) s))
    by true u = (refl, refl)
    by false true = (refl, refl)
    by false false = (refl, refl)

pub receive_sound : (s : StreamState) (n : ℕ) → Sound s → Sound (received_of s n).state
unfolding expecting
receive_sound s n d = rw (receive_is s n).1 (by (eqb s.stream_id 0) (eqb n s.next_recv_seq))
  where
    by : (t u : Bool) → Sound (cond t s (cond u (expecting s (plus n 1)) s))
    by true u = d
    by false true = same_sound s (expecting s (plus n 1)) (λ j h. (refl, refl)) d d.numbers_count d.lengths_count
    by false false = d

-- what is dropped leaves the rest as it was
pub drop_sound : (s : StreamState) (first : ℕ) → Sound s → Sound (drop_before s first)
unfolding drop_before kept_at kept_length
drop_sound s first d = record {
  numbers_count = d.numbers_count;
  lengths_count = sixteen_length (kept_at s first);
  short = λ i. small i (ltb i 16) refl;
  once = λ n i j hi hj a b. d.once n i j hi hj (was n i hi a) (was n j hj b);
}
  where
    either : (t : Bool) (len : ℕ) → len ≤ 1025 → cond t 0 len ≤ 1025
    either true len h = omega arith
    either false len h = h

    small : (i : ℕ) (t : Bool) → ltb i 16 ≡ t → get_or (sixteen (kept_at s first)) i 0 ≤ 1025
    small i true e = rw (sixteen_at (kept_at s first) i (ltb-true i 16 e)) (either (seq_lt (get_or s.numbers i 0) first) (get_or s.lengths i 0) (d.short i))
    small i false e =
        rw (get_or-eq_default (sixteen (kept_at s first)) 0 {n = i} (rw (sixteen_length (kept_at s first)) (ltb-false i 16 e))) (omega arith)

    was : (n i : ℕ) → i < 16 → holds_at (drop_before s first) n i ≡ true → holds_at s n i ≡ true
    was n i h e = by (seq_lt n first) (sym (kept_at_lem s first n i h) ∙ e)
      where
        by : (t : Bool) → cond t false (holds_at s n i) ≡ true → holds_at s n i ≡ true
        by true x = absurd (never x refl)
        by false x = x

-- the place for n is the only one that may hold n
only_place : (s : StreamState) → Sound s → (n p : ℕ) → place_for s n ≡ p → p < 16 → (j : ℕ) → j < 16 → holds_at s n j ≡ true → j ≡ p
unfolding place_for
only_place s d n p e h j l k = by (is_held s n) refl e
  where
    by : (t : Bool) → is_held s n ≡ t → cond t (place_of s n) (place_between s 0 0) ≡ p → j ≡ p
    by true x q = d.once n j (place_of s n) l (held_low s n x) k (held_there s n (held_low s n x)) ∙ q
    by false x q = absurd (never (held_anywhere s n j l k) x)

-- what is recorded leaves the rest as it was
module _ (s : StreamState) (d : Sound s) (n len p : ℕ) (e : place_for s n ≡ p) (low : p < 16) (fits : len ≤ 1024) where
  -- a place that holds m afterwards is the place of n, or held m before
  there : (m i : ℕ) (t : Bool) → eqb i p ≡ t → holds_at (with_message s p n len) m i ≡ true → cond t (n ≡ m) (holds_at s m i ≡ true)
  there m i true x h = eqb-true n m (sym (at_same s d n len p low m) ∙ rw (eqb-true i p x) at h)
  there m i false x h = sym (at_other s d n len p low m i (eqb-false i p x)) ∙ h

  once_more : (m i j : ℕ) → i < 16 → j < 16 → (t u : Bool) → eqb i p ≡ t → eqb j p ≡ u
      → cond t (n ≡ m) (holds_at s m i ≡ true) → cond u (n ≡ m) (holds_at s m j ≡ true) → i ≡ j
  once_more m i j hi hj true true x y a b = eqb-true i p x ∙ sym (eqb-true j p y)
  once_more m i j hi hj true false x y a b = eqb-true i p x ∙ sym (only_place s d n p e low j hj (rw (← a) at b))
  once_more m i j hi hj false true x y a b = only_place s d n p e low i hi (rw (← b) at a) ∙ sym (eqb-true j p y)
  once_more m i j hi hj false false x y a b = d.once m i j hi hj a b

  pub record_sound_lem : Sound (with_message s p n len)
  unfolding with_message
  record_sound_lem = record {
    numbers_count = length-set s.numbers p n ∙ d.numbers_count;
    lengths_count = length-set s.lengths p (len + 1) ∙ d.lengths_count;
    short = λ i. small i (eqb i p) refl;
    once = λ m i j hi hj a b. once_more m i j hi hj (eqb i p) (eqb j p) refl refl (there m i (eqb i p) refl a) (there m j (eqb j p) refl b);
  }
    where
      small : (i : ℕ) (t : Bool) → eqb i p ≡ t → get_or (set s.lengths p (len + 1)) i 0 ≤ 1025
      small i true x = rw (eqb-true i p x, get_or-set_same s.lengths p (len + 1) 0 (omega (arith, d.lengths_count))) (omega arith)
      small i false x = rw (get_or-set_other s.lengths p i (len + 1) 0 (eqb-false i p x)) (d.short i)
