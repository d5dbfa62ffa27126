-- The messages that an ACKNACK is answered by: those of the numbers that `process_acknack` lists are those that what is kept of the stream tells.
use Rattle.std.proofs.Common.{◌≡◌, ℕ, zero, suc, ◌-◌, ◌*◌, ◌≤◌, Bool, true, false, cond, List, [], ◌∷◌, ◌++◌, map, length, get_or, drop, sym, refl, ap, ◌∙◌, arith, length-drop, length-take-le}
use lib.ListN.{length-map}
use Rattle.streams.specs.declared.state.StreamState.{StreamState}
use Rattle.streams.specs.Sequence.{plus}
use Rattle.streams.specs.Places.{place_of, is_held}
use Rattle.streams.specs.Sent.{need, held_of, bytes_in, held_bytes}
use Rattle.streams.specs.Acknowledged.{bit_of, wanted, repeats_from, repeats, repeats_of, drop_before, acknowledge}
use Rattle.streams.specs.View.{held_by, message_held, list_of, repeated_from, repeated_in, Kept, kept_of, acknack_in, Sound}
use Rattle.streams.proofs.places.Held.{held_low, free_place, read_at, read_none}
use Rattle.streams.proofs.sent.Laws.{held_at}
use Rattle.streams.proofs.Soundness.{drop_sound}
use Rattle.streams.proofs.Kept.{drop_kept}
use Rattle.streams.proofs.History.{reads_held}
use Rattle.std.specs.Prelude.{Err, None, Ok, Result, Some, Option}
use Rattle.codec.specs.declared.refusals.Refusal.{Refusal}

-- what is held is f of its number
module _ {A : Type 0} (s : StreamState) (held : ℕ → Option A) (f : ℕ → A) (is : (n : ℕ) → held n ≡ cond (is_held s n) (Some (f n)) None) (first bitmap : ℕ) where
  list_from_lem : (k bit : ℕ) → map f (repeats_from s first bitmap k bit) ≡ repeated_from held first bitmap k bit
  unfolding repeats_from wanted repeated_from
  list_from_lem zero bit = refl
  list_from_lem (suc k) bit = rw (is (plus first bit)) (by (bit_of bitmap bit) (is_held s (plus first bit)) (list_from_lem k (suc bit)))
    where
      n : ℕ
      n = plus first bit

      rest : List ℕ
      rest = repeats_from s first bitmap k (suc bit)

      more : List A
      more = repeated_from held first bitmap k (suc bit)

      by : (b h : Bool) → map f rest ≡ more
          → map f (cond (cond b h false) (n ∷ rest) rest) ≡ cond b (list_of (cond h (Some (f n)) None)) [] ++ more
      by true true e = ap (λ (l : List A). f n ∷ l) e
      by true false e = e
      by false h e = e

  list_is : map f (repeats s first bitmap) ≡ repeated_in held first bitmap
  unfolding repeats repeated_in
  list_is = list_from_lem 16 0

-- "how many were repeated", whatever is read of a message
pub repeated_count : {A : Type 0} (read : ℕ → ℕ → A) (s : StreamState) (first bitmap : ℕ)
    → length (repeated_in (acknack_in first (kept_of read s)).held first bitmap) ≡ (acknowledge s first bitmap).count
unfolding acknowledge repeats_of held_by
repeated_count {A} read s first bitmap =
    let t = drop_before s first in
    let f : ℕ → A = λ n. read (place_of t n) (get_or t.lengths (place_of t n) 0 - 1) in
    ap (λ (k : Kept A). length (repeated_in k.held first bitmap)) (sym (drop_kept read s first))
    ∙ ap length (sym (list_is t (held_by read t) f (λ n. refl) first bitmap))
    ∙ length-map (repeats t first bitmap) f

-- "byte for byte, in bit order": what `held_message` hands back of the numbers listed, one behind the other
module _ (s : StreamState) (sound : Sound s) (buffer : List ℕ) (room : need ≤ length buffer) where
  message_of_lem : ℕ → List ℕ
  message_of_lem n = held_bytes (held_of s n (length buffer)) buffer

  told_by_lem : (n : ℕ) → message_held s buffer n ≡ cond (is_held s n) (Some (message_of_lem n)) None
  unfolding message_of_lem
  told_by_lem n = by (is_held s n) refl
    where
      by : (b : Bool) → is_held s n ≡ b → message_held s buffer n ≡ cond b (Some (message_of_lem n)) None
      by true e =
          let at = read_at s n (bytes_in buffer) (place_of s n) refl (held_low s n e) in
          at ∙ ap Some (sym (reads_held s sound buffer room n _ at))
      by false e = read_none s n (bytes_in buffer) (free_place s n e)

  pub repeated_held : (first bitmap : ℕ) → map (λ n. held_bytes (held_of s n (length buffer)) buffer) (repeats s first bitmap) ≡ repeated_in (message_held s buffer) first bitmap
  unfolding message_of_lem
  repeated_held first bitmap = list_is s (message_held s buffer) message_of_lem told_by_lem first bitmap

-- of the stream that an ACKNACK leaves
pub repeated_messages : (s : StreamState) → Sound s → (buffer : List ℕ) → need ≤ length buffer → (first bitmap : ℕ)
    → let t = drop_before s first in
    map (λ n. held_bytes (held_of t n (length buffer)) buffer) (repeats t first bitmap) ≡ repeated_in (acknack_in first (kept_of (bytes_in buffer) s)).held first bitmap
repeated_messages s sound buffer room first bitmap =
    repeated_held (drop_before s first) (drop_sound s first sound) buffer room first bitmap
    ∙ ap (λ (k : Kept (List ℕ)). repeated_in k.held first bitmap) (drop_kept (bytes_in buffer) s first)

-- each has at most 1,024 bytes
pub held_short : (s : StreamState) (n : ℕ) (buffer : List ℕ) → length (held_bytes (held_of s n (length buffer)) buffer) ≤ 1024
unfolding held_bytes
held_short s n buffer = by (held_of s n (length buffer)) refl
  where
    by : (h : Result (Option (ℕ × ℕ)) Refusal) → held_of s n (length buffer) ≡ h → length (held_bytes h buffer) ≤ 1024
    by (Ok (Some (p, k))) e =
        let a = held_at s n (length buffer) p k e in
        rw (length-take-le k (drop (p * 1024) buffer) (rw (length-drop (p * 1024) buffer) (omega (arith, a.low, a.short, a.room_for)))) a.short
    by (Ok None) e = omega arith
    by (Err r) e = omega arith
