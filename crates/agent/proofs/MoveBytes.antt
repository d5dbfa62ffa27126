-- The bytes that a move replies: their length, each byte of a reply of fixed layout, and that they are written as they stand.
use Prim.Native.Nat.{ℕ, ◌+◌, ◌≤◌, ◌%◌, ◌/◌}
use mathlib.Core.Path.{◌≡◌, refl, sym, ap}
use mathlib.Core.List.{List, [], ◌∷◌}
use native.Mathlib.Omega.{arith}
use borrow.Author.Tests.{le-ltb}
use lib.ListN.{length}
use Rattle.codec.specs.Bytes.{le16, put_bytes, write_bytes}
use Rattle.codec.specs.Layouts.{least_of}
use Rattle.codec.specs.Header.{header_bytes}
use Rattle.codec.specs.Submessages.{code_byte}
use Rattle.codec.specs.Writing.{fixed_bytes, payload_bytes, sub_bytes, message_bytes}
use Rattle.codec.specs.declared.submessages.StatusCode.{StatusCode}
use Rattle.codec.specs.declared.submessages.StatusCode.TheVariants as status
use Rattle.codec.specs.declared.submessages.StatusCode.TheVariants.{ErrResources}
use Rattle.codec.proofs.writing.Laws.{length_payload, length_sub, length_message}
use Rattle.moves.specs.Replies.{status_bytes, acknack_bytes, data_of, data_payload, data_bytes}
use Rattle.moves.specs.Moves.{move_bytes}
use Rattle.agent.specs.Run.{counted, settled, pointer_of, greeted}
use Rattle.agent.specs.declared.turn.Frame.{Frame}
use Rattle.agent.specs.declared.turn.Ran.{Ran}
use Rattle.agent.specs.declared.turn.Stop.TheVariants as stop
use Rattle.moves.specs.declared.moves.Move.{Move}
use Rattle.moves.specs.declared.moves.Move.TheVariants.{Greets, Status, Acknack, Repeats, Calls, Silent}
use Rattle.agent.proofs.Laws.{status_long, acknack_long}
use Rattle.std.specs.Prelude.{Err, Ok, Result}
use Rattle.codec.specs.declared.refusals.Refusal.{Refusal}

-- ---- lengths

abbrev pub move_long : Move → ℕ
move_long (Greets id code) = 11
move_long (Status number code) = 11
move_long (Acknack p) = 12
move_long (Repeats p) = 0
move_long (Calls number task call) = 0
move_long Silent = 0

-- a reply is as long for any session and stream; what an ACKNACK repeats is no part of it
pub move_long_lem : (session stream : ℕ) (m : Move) → length (move_bytes session stream m) ≡ move_long m
move_long_lem session stream (Greets id code) = status_long id 0 0 code
move_long_lem session stream (Status number code) = status_long session stream number.0 code
move_long_lem session stream (Acknack p) = acknack_long session stream p.first_unacked_seq p.nack_bitmap
move_long_lem session stream (Repeats p) = refl
move_long_lem session stream (Calls number task call) = refl
move_long_lem session stream Silent = refl

pub data_payload_long : (number : ℕ) (body : List ℕ) → length (data_payload number body) ≡ 2 + length body
unfolding least_of
data_payload_long number body = length_payload (data_of number) body

pub data_long : (session stream sequence number : ℕ) (body : List ℕ) → length (data_bytes session stream sequence number body) ≡ 10 + length body
data_long session stream sequence number body =
    let a = length_message (data_of number) body (record { session_id = session; stream_id = stream; sequence_nr = sequence }) in
    let b = length_sub (data_of number) body in
    let c = data_payload_long number body in
    omega (arith, a, b, c)

-- the run behind CREATE_CLIENT's STATUS
pub greeted_so : (f : Frame) (r : Ran) (at : ℕ) (c : Result (ℕ × ℕ) Refusal)
    → ◌≡◌ {A = Ran} (record { next = pointer_of c r.next; at = at; wrote = counted f.room r.wrote 11; stop = stop.Nothing }) (greeted f r at c)
greeted_so f r at (Ok (id, next)) =
    ap (λ (n : ℕ). settled next at (counted f.room r.wrote n) (Greets id status.Ok)) (sym (status_long id 0 0 status.Ok))
greeted_so f r at (Err x) =
    ap (λ (n : ℕ). settled r.next at (counted f.room r.wrote n) (Greets 0 ErrResources)) (sym (status_long 0 0 0 ErrResources))

-- ---- a reply of fixed layout, byte by byte

pub status_line : (session stream number : ℕ) (code : StatusCode)
    → session ∷ stream ∷ 0 ∷ 0 ∷ 5 ∷ 0 ∷ 3 ∷ 0 ∷ number % 256 ∷ number / 256 % 256 ∷ code_byte code ∷ [] ≡ status_bytes session stream number code
unfolding message_bytes header_bytes sub_bytes payload_bytes fixed_bytes le16
status_line session stream number code = refl

pub acknack_line : (session stream first bits : ℕ)
    → session ∷ stream ∷ 0 ∷ 0 ∷ 14 ∷ 0 ∷ 4 ∷ 0 ∷ first % 256 ∷ first / 256 % 256 ∷ bits % 256 ∷ bits / 256 % 256 ∷ [] ≡ acknack_bytes session stream first bits
unfolding message_bytes header_bytes sub_bytes payload_bytes fixed_bytes le16
acknack_line session stream first bits = refl

-- ---- written: 12 does not apply

pub write_put : (n : ℕ) (out : List ℕ) (at : ℕ) (bytes : List ℕ) → n ≤ 65535 → write_bytes n out at bytes ≡ put_bytes out at bytes
unfolding write_bytes
write_put n out at bytes h = rw (le-ltb 65535 n h)

pub data_short : (number : ℕ) (body : List ℕ) → length body ≤ 65533 → length (data_payload number body) ≤ 65535
data_short number body h = let a = data_payload_long number body in omega (arith, a, h)
