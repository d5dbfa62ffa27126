-- Laws of the bytes that are written: their lengths, and each piece behind the one before it.
use Prim.Native.Nat.{ℕ, ◌+◌, ◌≤◌}
use mathlib.Core.Path.{◌≡◌, refl, ◌∙◌}
use mathlib.Core.List.{List, ◌∷◌}
use native.Mathlib.Omega.{arith}
use lib.ListN.{length, take, length-append}
use lib.Seq.{length-take-le}
use Rattle.codec.specs.Bytes.{le16, le32, put_at}
use Rattle.codec.specs.Layouts.{least_of}
use Rattle.codec.specs.Submessages.{id_of}
use Rattle.codec.specs.Writing.{fixed_bytes, body_len, payload_bytes, sub_bytes, message_bytes}
use Rattle.codec.specs.Header.{header_bytes}
use Rattle.codec.specs.declared.header.MessageHeader.{MessageHeader}
use Rattle.codec.proofs.bytes.Laws.{put_behind}
use Rattle.codec.specs.declared.submessages.Submessage.{Submessage}
use Rattle.codec.specs.declared.submessages.Submessage.TheVariants.{CreateClient, Create, Delete, Status, WriteData, ReadData, Data, Heartbeat, Acknack, Fragment}

-- a layout's fixed bytes are as many as its least length
pub length_fixed : (m : Submessage) → length (fixed_bytes m) ≡ least_of (id_of m)
unfolding fixed_bytes least_of le16 le32
length_fixed (CreateClient p) = refl
length_fixed (Create p) = refl
length_fixed (Delete p) = refl
length_fixed (Status p) = refl
length_fixed (WriteData p) = refl
length_fixed (ReadData p) = refl
length_fixed (Data p) = refl
length_fixed (Heartbeat p) = refl
length_fixed (Acknack p) = refl
length_fixed (Fragment p) = refl

pub least_small : (m : Submessage) → least_of (id_of m) ≤ 5
unfolding least_of
least_small (CreateClient p) = omega arith
least_small (Create p) = omega arith
least_small (Delete p) = omega arith
least_small (Status p) = omega arith
least_small (WriteData p) = omega arith
least_small (ReadData p) = omega arith
least_small (Data p) = omega arith
least_small (Heartbeat p) = omega arith
least_small (Acknack p) = omega arith
least_small (Fragment p) = omega arith

pub body_within : (m : Submessage) (n : ℕ) → body_len m n ≤ n
body_within (CreateClient p) n = omega arith
body_within (Create p) n = omega arith
body_within (Delete p) n = omega arith
body_within (Status p) n = omega arith
body_within (WriteData p) n = omega arith
body_within (ReadData p) n = omega arith
body_within (Data p) n = omega arith
body_within (Heartbeat p) n = omega arith
body_within (Acknack p) n = omega arith
body_within (Fragment p) n = omega arith

module _ (m : Submessage) (body : List ℕ) where
  pub length_payload : length (payload_bytes m body) ≡ least_of (id_of m) + body_len m (length body)
  unfolding payload_bytes
  length_payload =
      length-append (fixed_bytes m) (take (body_len m (length body)) body)
      ∙ rw (length_fixed m, length-take-le (body_len m (length body)) body (body_within m (length body)))

  pub length_sub : length (sub_bytes m body) ≡ 4 + length (payload_bytes m body)
  unfolding sub_bytes le16
  length_sub = length-append (id_of m ∷ 0 ∷ le16 (length (payload_bytes m body))) (payload_bytes m body)

  -- each piece behind the one before it
  pub payload_put : (out : List ℕ) (at : ℕ) → at + length (payload_bytes m body) ≤ length out
      → put_at (put_at out at (fixed_bytes m)) (at + least_of (id_of m)) (take (body_len m (length body)) body) ≡ put_at out at (payload_bytes m body)
  unfolding payload_bytes
  payload_put out at h =
      let part = take (body_len m (length body)) body in
      rw (← length_fixed m) (put_behind out at (fixed_bytes m) part (omega arith))

  pub sub_put : (out : List ℕ) (at : ℕ) → at + 4 + length (payload_bytes m body) ≤ length out
      → put_at (put_at out at (id_of m ∷ 0 ∷ le16 (length (payload_bytes m body)))) (at + 4) (payload_bytes m body) ≡ put_at out at (sub_bytes m body)
  unfolding sub_bytes le16
  sub_put out at h = put_behind out at (id_of m ∷ 0 ∷ le16 (length (payload_bytes m body))) (payload_bytes m body) (omega arith)

  pub message_put : (h : MessageHeader) (out : List ℕ) (at : ℕ) → at + 4 + length (sub_bytes m body) ≤ length out
      → put_at (put_at out at (header_bytes h)) (at + 4) (sub_bytes m body) ≡ put_at out at (message_bytes h m body)
  unfolding message_bytes header_bytes le16
  message_put h out at k = put_behind out at (header_bytes h) (sub_bytes m body) (omega arith)

  pub length_message : (h : MessageHeader) → length (message_bytes h m body) ≡ 4 + length (sub_bytes m body)
  unfolding message_bytes header_bytes le16
  length_message h = length-append (header_bytes h) (sub_bytes m body)
