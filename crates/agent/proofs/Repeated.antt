-- What an ACKNACK is answered by, over any lent tables: at most sixteen messages of at most 1,024 bytes, written one behind the other.
use Prim.Native.Nat.{ℕ, zero, suc, ◌+◌, ◌-◌, ◌*◌, ◌≤◌, ◌<◌}
use mathlib.Core.Path.{◌≡◌, refl}
use mathlib.Core.Bool.{Bool, true, false, cond}
use mathlib.Core.List.{List, [], ◌∷◌, map}
use native.Mathlib.Numerals.{add-one}
use native.Mathlib.Omega.{arith}
use lib.ListN.{get_or, length, take, drop, replicate, length-append, length-take, drop_of_length-le}
use lib.Seq.{drop-cons, get_or-take, length-take-le, take-append_seam}
use Rattle.codec.specs.Bytes.{put_bytes}
use Rattle.codec.specs.declared.submessages.AcknackPayload.{AcknackPayload}
use Rattle.streams.specs.Sequence.{plus}
use Rattle.streams.specs.Acknowledged.{wanted, repeats_from, repeats, padded, repeats_of}
use Rattle.streams.specs.declared.acknowledged.Acknowledged.{Acknowledged}
use Rattle.streams.specs.declared.state.StreamState.{StreamState}
use Rattle.sessions.specs.Sending.{message_of}
use Rattle.sessions.proofs.ViewSending.{message_short}
use Rattle.moves.specs.RowsStreams.{read_of}
use Rattle.agent.specs.Step.{Reply, replied, joined_replies}
use Rattle.agent.specs.Run.{counted, count_replies, put_replies, repeats_in}

-- ---- how many bytes

-- a message for each of sixteen bits at most, whatever the bitmap
module _ (s : StreamState) (first bitmap : ℕ) where
  few_from : (k bit : ℕ) → length (repeats_from s first bitmap k bit) ≤ k
  unfolding repeats_from
  few_from zero bit = omega arith
  few_from (suc k) bit = by (wanted s first bitmap bit) (few_from k (suc bit))
    where
      rest : List ℕ
      rest = repeats_from s first bitmap k (suc bit)

      by : (b : Bool) → length rest ≤ k → length (cond b (plus first bit ∷ rest) rest) ≤ suc k
      by true h = omega arith
      by false h = omega arith

  few : length (repeats s first bitmap) ≤ 16
  unfolding repeats
  few = few_from 16 0

module _ (s x : List (List ℕ)) (h : List ℕ) (id n : ℕ) where
  -- the replies of these numbers
  abbrev pub told : List ℕ → List Reply
  told numbers = map (replied id) (map (message_of s x h id n) numbers)

  told_long : (numbers : List ℕ) → length (joined_replies (told numbers)) ≤ 1024 * length numbers
  unfolding joined_replies
  told_long [] = omega arith
  told_long (m ∷ ms) =
      let a = length-append (message_of s x h id n m) (joined_replies (told ms)) in
      let b = message_short s x h id n m in
      let c = told_long ms in
      omega (arith, a, b, c)

  pub repeats_long : (p : AcknackPayload) → length (joined_replies (map (replied id) (repeats_in s x h id n p))) ≤ 16384
  repeats_long p =
      let numbers = repeats (read_of s x id n).state p.first_unacked_seq p.nack_bitmap in
      let a = told_long numbers in
      let b = few (read_of s x id n).state p.first_unacked_seq p.nack_bitmap in
      omega (arith, a, b)

-- ---- the loop over them

module _ (s x : List (List ℕ)) (h : List ℕ) (id n room : ℕ) (numbers : List ℕ) (i : ℕ) (out : List ℕ) (at : ℕ) where
  abbrev left : ℕ → List Reply
  left k = told s x h id n (drop k numbers)

  abbrev message : List ℕ
  message = message_of s x h id n (get_or numbers i 0)

  pub told_more : i < length numbers
      → (count_replies room (counted room at (length message)) (left (i + 1)) ≡ count_replies room at (left i))
      × (put_replies room (put_bytes out at message) (counted room at (length message)) (left (i + 1)) ≡ put_replies room out at (left i))
  unfolding count_replies put_replies
  told_more below = rw (add-one i, drop-cons numbers i 0 below) (refl, refl)

  pub told_end : length numbers ≤ i → (at ≡ count_replies room at (left i)) × (out ≡ put_replies room out at (left i))
  unfolding count_replies put_replies
  told_end past = rw (drop_of_length-le numbers past) (refl, refl)

-- ---- the numbers that a stream lists are the first of its answer

module _ (s : StreamState) (first bitmap : ℕ) (a : Acknowledged) (is : a ≡ repeats_of s first bitmap) where
  pub listed_first : take a.count a.repeats ≡ repeats s first bitmap
  unfolding repeats_of padded
  listed_first = let l = repeats s first bitmap in rw is (take-append_seam l (replicate (16 - length l) 0))

  pub listed_within : a.count ≤ 16
  unfolding repeats_of padded
  listed_within = rw is (few s first bitmap)
