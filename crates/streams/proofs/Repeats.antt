-- What `process_acknack` leaves and lists: nothing before the first number is held, and what is listed is what is held and asked for.
use Rattle.std.proofs.Common.{◌≡◌, ℕ, zero, suc, ◌+◌, ◌-◌, ◌/◌, ◌%◌, ◌^◌, ◌<◌, ◌≤◌, Bool, true, false, cond, List, ◌∷◌, length, take, replicate, refl, ap, ◌∙◌, ⊎_elim, eq-or-lt_of_le, div-one, arith, shr-shr, eqb-true}
use mathlib.Core.List.Memᴰ
use mathlib.Core.List.{Memᴰ}
use lib.Count.{ones, ones_step, ones-le}
use lib.Seq.{take-append_seam}
use Rattle.streams.specs.declared.state.StreamState.{StreamState}
use Rattle.streams.specs.Sequence.{plus, seq_lt}
use Rattle.streams.specs.Places.{is_held}
use Rattle.streams.specs.Acknowledged.{bit_of, wanted, repeats_from, repeats, padded, repeats_of, drop_before, acknowledge, UpperBound}
use Rattle.streams.proofs.places.Laws.{never}
use Rattle.streams.proofs.Dropped.{dropped}

-- "those still held whose bit is set": m is the number of a bit of the bitmap, and is held
pub record Asked (s : StreamState) (first bitmap m : ℕ) : Type 0 where
  pub bit : ℕ
  pub low : bit < 16
  pub asked : bit_of bitmap bit ≡ true
  pub number : m ≡ plus first bit
  pub held : is_held s m ≡ true

module _ (s : StreamState) (first bitmap : ℕ) where
  wanted_true : (bit : ℕ) → wanted s first bitmap bit ≡ true → (bit_of bitmap bit ≡ true) × (is_held s (plus first bit) ≡ true)
  unfolding wanted
  wanted_true bit e = by (bit_of bitmap bit) refl e
    where
      by : (t : Bool) → bit_of bitmap bit ≡ t → cond t (is_held s (plus first bit)) false ≡ true → (bit_of bitmap bit ≡ true) × (is_held s (plus first bit) ≡ true)
      by true b h = (b, h)
      by false b h = absurd (never h refl)

  listed_from : (m k bit : ℕ) → bit + k ≤ 16 → Memᴰ m (repeats_from s first bitmap k bit) → Asked s first bitmap m
  unfolding repeats_from
  listed_from m zero bit h i = absurd (Memᴰ.not-nil i)
  listed_from m (suc k) bit h i = by (wanted s first bitmap bit) refl (listed_from m k (suc bit) (omega arith)) i
    where
      rest : List ℕ
      rest = repeats_from s first bitmap k (suc bit)

      here : wanted s first bitmap bit ≡ true → m ≡ plus first bit → Asked s first bitmap m
      here e same =
          let w = wanted_true bit e in record { bit = bit; low = omega arith; asked = w.0; number = same; held = rw same w.1 }

      by : (t : Bool) → wanted s first bitmap bit ≡ t → (Memᴰ m rest → Asked s first bitmap m) → Memᴰ m (cond t (plus first bit ∷ rest) rest)
          → Asked s first bitmap m
      by true e later j = ⊎_elim (here e) later (Memᴰ.cases_cons j)
      by false e later j = later j

  kept_from : (bit k i : ℕ) → i ≤ bit → bit < i + k → wanted s first bitmap bit ≡ true → Memᴰ (plus first bit) (repeats_from s first bitmap k i)
  unfolding repeats_from
  kept_from bit zero i h l e = absurd (omega arith)
  kept_from bit (suc k) i h l e =
      ⊎_elim here (λ less. behind (wanted s first bitmap i) (kept_from bit k (suc i) less (omega arith) e)) (eq-or-lt_of_le h)
    where
      rest : List ℕ
      rest = repeats_from s first bitmap k (suc i)

      behind : (t : Bool) → Memᴰ (plus first bit) rest → Memᴰ (plus first bit) (cond t (plus first i ∷ rest) rest)
      behind true j = Memᴰ.tail j
      behind false j = j

      here : i ≡ bit → Memᴰ (plus first bit) (cond (wanted s first bitmap i) (plus first i ∷ rest) rest)
      here same = rw (same, e) (Memᴰ.head refl)

  -- at most as many as there are bits set
  count_from_lem : (k bit : ℕ) → length (repeats_from s first bitmap k bit) ≤ ones (bitmap / 2 ^ bit)
  unfolding repeats_from
  count_from_lem zero bit = omega arith
  count_from_lem (suc k) bit = by (wanted s first bitmap bit) refl (count_from_lem k (suc bit))
    where
      rest : List ℕ
      rest = repeats_from s first bitmap k (suc bit)

      next : bitmap / 2 ^ bit / 2 ≡ bitmap / 2 ^ suc bit
      next = shr-shr bitmap bit 1 ∙ ap (λ (b : ℕ). bitmap / 2 ^ b) (omega arith)

      step : ones (bitmap / 2 ^ bit) ≡ bitmap / 2 ^ bit % 2 + ones (bitmap / 2 ^ suc bit)
      step = ones_step (bitmap / 2 ^ bit) ∙ rw next

      by : (t : Bool) → wanted s first bitmap bit ≡ t → length rest ≤ ones (bitmap / 2 ^ suc bit) → length (cond t (plus first bit ∷ rest) rest) ≤ ones (bitmap / 2 ^ bit)
      by true e less = omega (arith, step, eqb-true (bitmap / 2 ^ bit % 2) 1 (wanted_true bit e).0)
      by false e less = omega (arith, step)

  pub listed_asked : (m : ℕ) → Memᴰ m (repeats s first bitmap) → Asked s first bitmap m
  unfolding repeats
  listed_asked m i = listed_from m 16 0 (omega arith) i

  pub asked_listed : (m : ℕ) → Asked s first bitmap m → Memᴰ m (repeats s first bitmap)
  unfolding repeats wanted
  asked_listed m a = rw a.number (kept_from a.bit 16 0 (omega arith) a.low (rw (a.asked, ← a.number) a.held))

  pub listed_count : length (repeats s first bitmap) ≤ ones bitmap
  unfolding repeats
  listed_count = rw (div-one bitmap) at (count_from_lem 16 0)

-- the answer of `process_acknack`: its state, and the numbers that its first `count` places list
module _ (s : StreamState) (first bitmap : ℕ) where
  pub left : (m : ℕ) → is_held (acknowledge s first bitmap).state m ≡ cond (seq_lt m first) false (is_held s m)
  unfolding acknowledge repeats_of
  left m = dropped s first m

  pub none_before : (m : ℕ) → seq_lt m first ≡ true → is_held (acknowledge s first bitmap).state m ≡ false
  none_before m e = left m ∙ rw e

  pub answer_lists : let a = acknowledge s first bitmap in take a.count a.repeats ≡ repeats a.state first bitmap
  unfolding acknowledge repeats_of padded
  answer_lists = let l = repeats (drop_before s first) first bitmap in take-append_seam l (replicate (16 - length l) 0)

  -- "how many messages the bitmap asks for and how many were repeated": the second is at most the first, and that at most sixteen
  pub upper_bound : bitmap < 65536 → UpperBound (acknowledge s first bitmap)
  unfolding acknowledge repeats_of
  upper_bound h = record { repeats_most = listed_count (drop_before s first) first bitmap; asked_most = ones-le 16 bitmap h }
