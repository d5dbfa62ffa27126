-- What the tables keep of a stream, read as document 01's "number, next to send, expected, held messages", and what calls make of it.
use Rattle.std.specs.Prelude.{◌≡◌, ℕ, zero, suc, ◌-◌, ◌<◌, ◌≤◌, Bool, true, false, cond, not, List, [], ◌∷◌, ◌++◌, length, ◌==◌, slice_index, Err, None, Ok, Result, Some, Option}
use Rattle.streams.specs.declared.state.StreamState.{StreamState}
use Rattle.streams.specs.Sequence.{plus, seq_lt}
use Rattle.streams.specs.Places.{count_from, holds_at, place_of, is_held}
use Rattle.streams.specs.Sent.{alloc_of, record_of, record_bytes, bytes_in}
use Rattle.streams.specs.Acknowledged.{bit_of, acknowledge}
use Rattle.streams.specs.Received.{received_of}
use Rattle.codec.specs.declared.refusals.Refusal.{Refusal}

-- ---- the held messages, as the Rust's map from their numbers

-- what is read of the message held under a number, given its place and how many bytes it has
unfoldable pub held_by : {A : Type 0} → (ℕ → ℕ → A) → StreamState → ℕ → Option A
held_by read s n = cond (is_held s n) (Some (read (place_of s n) (slice_index s.lengths (place_of s n) - 1))) None

-- its bytes, in a lent buffer
abbrev pub message_held : StreamState → List ℕ → ℕ → Option (List ℕ)
message_held s buffer n = held_by (bytes_in buffer) s n

-- how many it has, where no buffer is lent
abbrev pub length_in : ℕ → ℕ → ℕ
length_in place len = len

-- whether there is one
abbrev pub present : {A : Type 0} → Option A → Bool
present (Some x) = true
present None = false

-- a sequence number is one of 65,536; the name keeps every proof from counting them
unfoldable pub all_numbers : ℕ
all_numbers = 65536

-- document 02, W5: "With 16 held": how many numbers are held
unfoldable pub many_held : {A : Type 0} → (ℕ → Option A) → ℕ
many_held held = count_from (λ n. present (held n)) all_numbers 0

-- ---- "number, next to send, expected, held messages"

-- A is what is read of a message. Numbers that stand in free places are not seen.
pub record Kept (A : Type 0) : Type 0 where
  pub number : ℕ
  pub next : ℕ
  pub expected : ℕ
  pub held : ℕ → Option A

abbrev pub kept_of : {A : Type 0} → (ℕ → ℕ → A) → StreamState → Kept A
kept_of read s = record { number = s.stream_id; next = s.next_send_seq; expected = s.next_recv_seq; held = held_by read s }

-- a stream that was just opened
abbrev pub fresh_of : {A : Type 0} → ℕ → Kept A
fresh_of n = record { number = n; next = 0; expected = 0; held = λ m. None }

-- "after 65,535 comes 0"
abbrev pub alloc_in : {A : Type 0} → Kept A → Kept A
alloc_in k = record { number = k.number; next = plus k.next 1; expected = k.expected; held = k.held }

-- "A number recorded again replaces its message. Best effort (stream 0) records nothing"; nor does a refusal
abbrev pub holding : {A : Type 0} → ℕ → A → Kept A → Kept A
holding n x k = record { number = k.number; next = k.next; expected = k.expected; held = λ m. cond (m == n) (Some x) (k.held m) }

abbrev pub record_in : {A : Type 0} → Result (Option ℕ) Refusal → ℕ → A → Kept A → Kept A
record_in (Ok (Some place)) n x k = holding n x k
record_in (Ok None) n x k = k
record_in (Err r) n x k = k

-- document 02, W5: "each DATA reply now takes the next send sequence in its header and is held"
abbrev pub sent_in : {A : Type 0} → A → Kept A → Kept A
sent_in x k = alloc_in (holding k.next x k)

-- "`process_acknack` drops held numbers before `first_unacked_seq`"
abbrev pub acknack_in : {A : Type 0} → ℕ → Kept A → Kept A
acknack_in first k = record { number = k.number; next = k.next; expected = k.expected; held = λ m. cond (seq_lt m first) None (k.held m) }

-- the message, or none
abbrev pub list_of : {A : Type 0} → Option A → List A
list_of (Some x) = x ∷ []
list_of None = []

-- document 02, W5: "An ACKNACK is answered by the listed messages, byte for byte, in bit order": those of k bits from one on
unfoldable pub repeated_from : {A : Type 0} → (ℕ → Option A) → ℕ → ℕ → ℕ → ℕ → List A
repeated_from held first bitmap zero bit = []
repeated_from held first bitmap (suc k) bit =
    cond (bit_of bitmap bit) (list_of (held (plus first bit))) [] ++ repeated_from held first bitmap k (suc bit)

unfoldable pub repeated_in : {A : Type 0} → (ℕ → Option A) → ℕ → ℕ → List A
repeated_in held first bitmap = repeated_from held first bitmap 16 0

-- "Best effort (stream 0) .. accepts all numbers. A reliable stream accepts only the expected one; after 65,535 comes 0."
abbrev pub receive_in : {A : Type 0} → ℕ → Kept A → Kept A
receive_in n k =
    cond (k.number == 0) k
    (cond (n == k.expected) (record { number = k.number; next = k.next; expected = plus n 1; held = k.held })
    k)

-- ---- the states that calls lead to

-- a state as the calls leave it: sixteen places, messages of up to 1,024 bytes, and no number held twice
pub record Sound (s : StreamState) : Type 0 where
  pub numbers_count : length s.numbers ≡ 16
  pub lengths_count : length s.lengths ≡ 16
  pub short : (i : ℕ) → slice_index s.lengths i ≤ 1025
  pub once : (n i j : ℕ) → i < 16 → j < 16 → holds_at s n i ≡ true → holds_at s n j ≡ true → i ≡ j

-- a stream with its buffer, and the calls that change either
pub record Stream : Type 0 where
  pub state : StreamState
  pub buffer : List ℕ

pub data Call : Type 0 where
  allocate : Call
  send : ℕ → List ℕ → Call
  acknack : ℕ → ℕ → Call
  receive : ℕ → Call

unfoldable pub after : Call → Stream → Stream
after allocate x = record { state = (alloc_of x.state).state; buffer = x.buffer }
after (send n message) x =
    record { state = (record_of x.state n (length message) (length x.buffer)).state; buffer = record_bytes x.state n message x.buffer }
after (acknack first bitmap) x = record { state = (acknowledge x.state first bitmap).state; buffer = x.buffer }
after (receive n) x = record { state = (received_of x.state n).state; buffer = x.buffer }

unfoldable pub after_all : List Call → Stream → Stream
after_all [] x = x
after_all (c ∷ cs) x = after_all cs (after c x)

-- whether a call neither records n anew nor acknowledges it
unfoldable pub spares : ℕ → Call → Bool
spares n allocate = true
spares n (send m message) = not (m == n)
spares n (acknack first bitmap) = not (seq_lt n first)
spares n (receive m) = true

unfoldable pub AllSpare : ℕ → List Call → Type 0
AllSpare n [] = Unit {0}
AllSpare n (c ∷ cs) = (spares n c ≡ true) × AllSpare n cs
