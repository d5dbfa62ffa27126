-- What `record_sent` and `find_held` answer on a sound state, in the order of their refusals.
use Rattle.std.proofs.Common.{◌≡◌, ℕ, ◌-◌, ◌<◌, ◌≤◌, Bool, true, false, cond, leb, List, length, get_or, refl, le-ltb, lt-ltb, eq-eqb, ne_eqb}
use borrow.Author.Tests.{lt-leb}
use Rattle.codec.specs.Answers.{number_in}
use Rattle.streams.specs.declared.state.StreamState.{StreamState}
use Rattle.streams.specs.Places.{place_of, place_between, is_held, place_for}
use Rattle.streams.specs.Sent.{need, slot_for, slot_answer, held_of, held_answer, record_at, record_of, bytes_at, record_bytes}
use Rattle.streams.specs.View.{Sound}
use Rattle.streams.proofs.places.Held.{held_low}
use Rattle.streams.proofs.Soundness.{sound_limits}
use Rattle.std.specs.Prelude.{None, Ok, Some}

-- "Best effort (stream 0) records nothing, never gives 14"
module _ (s : StreamState) (e : s.stream_id ≡ 0) (n : ℕ) (message buffer : List ℕ) where
  nowhere : slot_for s n (length message) (length buffer) ≡ (Ok None)
  unfolding slot_for
  nowhere = rw (eq-eqb s.stream_id 0 e)

  pub records_nothing : (record_of s n (length message) (length buffer) ≡ record { slot = (Ok None); state = s }) × (record_bytes s n message buffer ≡ buffer)
  unfolding record_of record_at record_bytes bytes_at
  records_nothing = (rw nowhere, rw nowhere)

module _ (s : StreamState) (d : Sound s) (other : s.stream_id ≡ 0 → ⊥) (n len room : ℕ) where
  -- 16, "lent store under its documented need"
  pub short_buffer : room < need → number_in (slot_answer (slot_for s n len room)) ≡ 16
  unfolding slot_for
  short_buffer h = rw (ne_eqb s.stream_id 0 other, lt-ltb room need h)

  pub short_lookup : room < need → number_in (held_answer (held_of s n room)) ≡ 16
  unfolding held_of
  short_lookup h = rw (lt-ltb room need h)

  module _ (enough : need ≤ room) where
    pub looked_up : number_in (held_answer (held_of s n room)) ≡ 0
    unfolding held_of
    looked_up = rw (le-ltb room need enough, le-ltb 1025 (get_or s.lengths (place_of s n) 0) (d.short (place_of s n))) (by (leb 16 (place_of s n)))
      where
        by : (t : Bool) → number_in (held_answer (cond t (Ok None) (Ok (Some ((place_of s n), (get_or s.lengths (place_of s n) 0 - 1)))))) ≡ 0
        by true = refl
        by false = refl

    -- 14, "message over 1,024"
    pub too_long : 1024 < len → number_in (slot_answer (slot_for s n len room)) ≡ 14
    unfolding slot_for
    too_long h = rw (ne_eqb s.stream_id 0 other, le-ltb room need enough, sound_limits s d, lt-ltb 1024 len h)

    -- 14, "17th held number": no place is free, and none holds n
    pub seventeenth : len ≤ 1024 → is_held s n ≡ false → place_between s 0 0 ≡ 16 → number_in (slot_answer (slot_for s n len room)) ≡ 14
    unfolding slot_for place_for
    seventeenth h free full = rw (ne_eqb s.stream_id 0 other, le-ltb room need enough, sound_limits s d, le-ltb 1024 len h, free, full)

    -- a number that is held keeps its place, and any other takes the first free one
    pub again : len ≤ 1024 → is_held s n ≡ true → slot_for s n len room ≡ Ok (Some (place_of s n))
    unfolding slot_for place_for
    again h k =
        rw (ne_eqb s.stream_id 0 other, le-ltb room need enough, sound_limits s d, le-ltb 1024 len h, k, lt-leb 16 (place_of s n) (held_low s n k))

    pub anew : len ≤ 1024 → is_held s n ≡ false → place_between s 0 0 < 16 → slot_for s n len room ≡ Ok (Some (place_between s 0 0))
    unfolding slot_for place_for
    anew h k l =
        rw (ne_eqb s.stream_id 0 other, le-ltb room need enough, sound_limits s d, le-ltb 1024 len h, k, lt-leb 16 (place_between s 0 0) l)
