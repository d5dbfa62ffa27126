-- What the first number of a HEARTBEAT is, said of the held numbers alone: by document 02 (W2), and by document 01, whose rule the original has.
use Rattle.std.specs.Prelude.{◌≡◌, ℕ, ◌<◌, ◌≤◌, true, false}
use Rattle.streams.specs.declared.state.StreamState.{StreamState}
use Rattle.streams.specs.Sequence.{minus}
use Rattle.streams.specs.Places.{is_held}

-- n is held and no held number comes before it; "or the next to send if none is held"
pub record FirstBy (before : ℕ → ℕ → Type 0) (s : StreamState) (n : ℕ) : Type 0 where
  pub held : (m : ℕ) → is_held s m ≡ true → is_held s n ≡ true
  pub first : (m : ℕ) → is_held s m ≡ true → before n m
  pub empty : ((m : ℕ) → is_held s m ≡ false) → n ≡ s.next_send_seq

-- document 02: "the held one with the greatest forward distance to the next to send"
abbrev pub Furthest : StreamState → ℕ → Type 0
Furthest s = FirstBy (λ n m. minus s.next_send_seq m ≤ minus s.next_send_seq n) s

-- document 01: "the numerically least held number"
abbrev pub Least : StreamState → ℕ → Type 0
Least = FirstBy (λ n m. n ≤ m)

-- sequence numbers have 16 bits, as those of every stream in memory
pub record SixteenBits (s : StreamState) : Type 0 where
  pub next : s.next_send_seq < 65536
  pub held : (m : ℕ) → is_held s m ≡ true → m < 65536

-- document 02: "where every held number is below the next to send"
abbrev pub AllBelow : StreamState → Type 0
AllBelow s = (m : ℕ) → is_held s m ≡ true → m < s.next_send_seq
