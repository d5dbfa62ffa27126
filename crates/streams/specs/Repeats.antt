-- What an ACKNACK repeats, said of the DATA replies alone, whatever comes to the stream and in any order.
use Rattle.std.specs.Prelude.{◌≡◌, ℕ, ◌<◌, true, false, List, [], ◌∷◌, ◌++◌, length, ◌≢◌, Some}
use mathlib.Core.List.{Memᴰ}
use Rattle.std.specs.List.{slice_get}
use Rattle.streams.specs.Sequence.{plus, seq_lt}
use Rattle.streams.specs.Acknowledged.{bit_of}
use Rattle.streams.specs.View.{Kept, fresh_of, sent_in, acknack_in, repeated_in, receive_in}

-- a DATA reply is sent, an ACKNACK comes with its first number and its bitmap, a message comes with its number
pub data Event (A : Type 0) : Type 0 where
  sent : A → Event A
  acknacked : ℕ → ℕ → Event A
  received : ℕ → Event A

unfoldable pub on_event : {A : Type 0} → Event A → Kept A → Kept A
on_event (sent x) k = sent_in x k
on_event (acknacked first bitmap) k = acknack_in first k
on_event (received n) k = receive_in n k

-- one behind the other, from a stream that was just opened
unfoldable pub on_events : {A : Type 0} → List (Event A) → Kept A → Kept A
on_events [] k = k
on_events (e ∷ es) k = on_events es (on_event e k)

abbrev pub stream_after : {A : Type 0} → ℕ → List (Event A) → Kept A
stream_after id es = on_events es (fresh_of id)

-- the messages of the DATA replies, in the order in which they were sent
unfoldable pub data_of : {A : Type 0} → List (Event A) → List A
data_of [] = []
data_of (sent x ∷ es) = x ∷ data_of es
data_of (acknacked first bitmap ∷ es) = data_of es
data_of (received n ∷ es) = data_of es

-- the number of the k-th of them, counted from 0: "after 65,535 comes 0"
abbrev pub number_of : ℕ → ℕ
number_of k = plus 0 k

-- of these messages x is the last that took the number n
pub record LastUnder {A : Type 0} (n : ℕ) (x : A) (messages : List A) : Type 0 where
  pub k : ℕ
  pub message : slice_get messages k ≡ Some x
  pub number : number_of k ≡ n
  pub last : (j : ℕ) → k < j → j < length messages → number_of j ≢ n

-- and the bitmap asks for that number
pub record AskedLast {A : Type 0} (first bitmap : ℕ) (x : A) (messages : List A) : Type 0 where
  pub bit : ℕ
  pub low : bit < 16
  pub asked : bit_of bitmap bit ≡ true
  pub message : LastUnder (plus first bit) x messages

-- no ACKNACK among the events acknowledges n
abbrev pub Spared : {A : Type 0} → ℕ → List (Event A) → Type 0
Spared n es = (first bitmap : ℕ) → Memᴰ (acknacked first bitmap) es → seq_lt n first ≡ false

pub record RepeatsAsSent {A : Type 0} (id : ℕ) (es : List (Event A)) : Type 0 where
  -- document 02, W5: "each DATA reply now takes the next send sequence": behind so many of them, the next one takes the number of so many
  pub next : (stream_after id es).next ≡ number_of (length (data_of es))
  -- "and is held": what is held under a number is what was last sent under it
  pub held : (n : ℕ) (x : A) → (stream_after id es).held n ≡ Some x → LastUnder n x (data_of es)
  -- it stays held until it is acknowledged, or its number taken again by the 65,536th behind it
  pub kept : (before behind : List (Event A)) (x : A) → es ≡ before ++ (sent x ∷ behind) → length (data_of behind) < 65536
      → let n = number_of (length (data_of before)) in Spared n behind → (stream_after id es).held n ≡ Some x
  -- "An ACKNACK is answered by the listed messages, byte for byte": each is what was last sent under a number that the bitmap asks for
  pub repeated : (first bitmap : ℕ) (x : A) → Memᴰ x (repeated_in (acknack_in first (stream_after id es)).held first bitmap) → AskedLast first bitmap x (data_of es)
