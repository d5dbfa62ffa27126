-- A stream and its row: what is written is what is read and shown.
use Prim.Native.Nat.{ℕ, suc, ◌+◌, ◌%◌, ◌<◌}
use mathlib.Core.Path.{◌≡◌, refl, sym, ap, ◌∙◌}
use mathlib.Core.List.{List, [], ◌∷◌}
use native.Mathlib.Omega.{arith}
use lib.ListN.{length, get_or}
use Rattle.streams.specs.Acknowledged.{list_from, sixteen}
use Rattle.streams.specs.State.{new_stream}
use Rattle.streams.specs.Sent.{bytes_in}
use Rattle.streams.specs.View.{Sound, kept_of, fresh_of}
use Rattle.streams.specs.declared.state.StreamState.{StreamState}
use Rattle.streams.proofs.Agree.{Agree, same_held, same_sound}
use Rattle.streams.proofs.Dropped.{sixteen_at, sixteen_length}
use Rattle.streams.proofs.Kept.{new_kept}
use Rattle.sessions.specs.Streams.{number_at, row_from, stream_row, stream_of}
use Rattle.sessions.specs.View.{stream_shown}

-- a row's stream has a number of 8 bits
pub row_small : (w : List ℕ) → (stream_of w).stream_id < 256
unfolding stream_of
row_small w = omega arith

module _ (s : StreamState) where
  back_numbers : (stream_of (stream_row s)).numbers ≡ sixteen (number_at s.numbers)
  unfolding stream_of row_from sixteen list_from
  back_numbers = refl

  back_lengths : (stream_of (stream_row s)).lengths ≡ sixteen (number_at s.lengths)
  unfolding stream_of row_from sixteen list_from
  back_lengths = refl

  -- the sixteen places are those that were written, whatever stood behind them
  pub back_agrees : Agree (stream_of (stream_row s)) s
  back_agrees j h = (
    ap (λ (l : List ℕ). get_or l j 0) back_numbers ∙ sixteen_at (number_at s.numbers) j h,
    ap (λ (l : List ℕ). get_or l j 0) back_lengths ∙ sixteen_at (number_at s.lengths) j h,
  )

  pub row_shown : (buffer : List ℕ) → s.stream_id < 256 → stream_shown buffer (stream_row s) ≡ kept_of (bytes_in buffer) s
  unfolding stream_of row_from
  row_shown buffer a =
      let m : s.stream_id % 256 ≡ s.stream_id = omega arith in
      λ i. record { number = m i; next = s.next_send_seq; expected = s.next_recv_seq; held = λ n. same_held s (stream_of (stream_row s)) back_agrees (bytes_in buffer) n i }

  pub row_sound : Sound s → Sound (stream_of (stream_row s))
  row_sound d =
      same_sound s (stream_of (stream_row s)) back_agrees d (ap length back_numbers ∙ sixteen_length (number_at s.numbers)) (ap length back_lengths ∙ sixteen_length (number_at s.lengths))

pub new_shown : (buffer : List ℕ) (n : ℕ) → n < 256 → stream_shown buffer (stream_row (new_stream n)) ≡ fresh_of n
new_shown buffer n h = row_shown (new_stream n) buffer h ∙ new_kept (bytes_in buffer) n

-- ---- a stream of sixteen places that is written is the stream that is read

words_all : (xs ys : List ℕ) (i : ℕ) → ((j : ℕ) → get_or ys (i + j) 0 ≡ get_or xs j 0) → list_from (number_at ys) (length xs) i ≡ xs
unfolding list_from
words_all [] ys i h = refl
words_all (x ∷ xs) ys i h =
    let z : i + 0 ≡ i = omega arith in
    ap (λ (k : ℕ). get_or ys k 0 ∷ list_from (number_at ys) (length xs) (suc i)) (sym z)
    ∙ ap (λ (y : ℕ). y ∷ list_from (number_at ys) (length xs) (suc i)) (h 0)
    ∙ ap (λ (l : List ℕ). x ∷ l) (words_all xs ys (suc i) (λ j. let e : suc i + j ≡ i + suc j = omega arith in ap (λ (k : ℕ). get_or ys k 0) e ∙ h (suc j)))

all_sixteen : (xs : List ℕ) → length xs ≡ 16 → sixteen (number_at xs) ≡ xs
unfolding sixteen
all_sixteen xs e = ap (λ (k : ℕ). list_from (number_at xs) k 0) (sym e) ∙ words_all xs xs 0 (λ j. let z : 0 + j ≡ j = omega arith in ap (λ (k : ℕ). get_or xs k 0) z)

pub stream_back_lem : (s : StreamState) → s.stream_id < 256 → length s.numbers ≡ 16 → length s.lengths ≡ 16 → stream_of (stream_row s) ≡ s
unfolding stream_of row_from sixteen list_from
stream_back_lem s a b c =
    let m : s.stream_id % 256 ≡ s.stream_id = omega arith in
    λ i. record { stream_id = m i; next_send_seq = s.next_send_seq; next_recv_seq = s.next_recv_seq; numbers = all_sixteen s.numbers b i; lengths = all_sixteen s.lengths c i }
