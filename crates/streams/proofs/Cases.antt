-- Document 01's lettered cases d to j, added to the wire's table.
use Rattle.std.proofs.Common.{◌≡◌, ℕ, suc, Bool, true, false, cond, ◌||◌, eqb, List, [], ◌∷◌, sym, refl, ap, ◌∙◌, arith, eqb-true}
use Rattle.codec.proofs.Cases.{Table as Wire, cases as wire-cases}
use Rattle.streams.specs.declared.state.StreamState.{StreamState}
use Rattle.streams.specs.Sequence.{plus, seq_lt}
use Rattle.streams.specs.Places.{is_held}
use Rattle.streams.specs.Acknowledged.{wanted, repeats_from, repeats, acknowledge, repeats_of, padded, heartbeat_of}
use Rattle.streams.specs.Oldest.{SixteenBits}
use Rattle.streams.specs.Received.{bit_value, bitmap_from, bitmap_of, acknack_of}
use Rattle.streams.proofs.Repeats.{left}
use Rattle.streams.proofs.places.Laws.{never}
use Rattle.streams.proofs.Oldest.{no_other}

-- the numbers held are those of a list
unfoldable pub among : ℕ → List ℕ → Bool
among m [] = false
among m (n ∷ ns) = eqb m n || among m ns

abbrev pub HoldsOnly : StreamState → List ℕ → Type 0
HoldsOnly s ns = (m : ℕ) → is_held s m ≡ among m ns

-- d to h: a stream that expects 0 answers the heartbeat (first, last) with this bitmap
abbrev pub Bitmap : ℕ → ℕ → ℕ → Type 0
Bitmap first last bitmap = (s : StreamState) → s.next_recv_seq ≡ 0 → (acknack_of s first last).nack_bitmap ≡ bitmap

pub record Table : Type 0 where
  -- a, b, c and k
  pub wire : Wire
  -- "Expected 0; d: (0,2) gives bitmap 7"
  pub d : Bitmap 0 2 7
  -- "e: (2,3) gives 13"
  pub e : Bitmap 2 3 13
  -- "f: (0,65,535) gives 0"
  pub f : Bitmap 0 65535 0
  -- "g: (0,32,767) gives 65,535"
  pub g : Bitmap 0 32767 65535
  -- "h: (0,32,768) gives 0"
  pub h : Bitmap 0 32768 0
  -- "i: held 65,534, 65,535, 0, 1; ACKNACK first 0, bitmap 3 leaves and lists 0, 1."
  pub i : (s : StreamState) → HoldsOnly s (65534 ∷ 65535 ∷ 0 ∷ 1 ∷ [])
      → HoldsOnly (acknowledge s 0 3).state (0 ∷ 1 ∷ []) × ((acknowledge s 0 3).repeats ≡ 0 ∷ 1 ∷ 0 ∷ 0 ∷ 0 ∷ 0 ∷ 0 ∷ 0 ∷ 0 ∷ 0 ∷ 0 ∷ 0 ∷ 0 ∷ 0 ∷ 0 ∷ 0 ∷ []) × ((acknowledge s 0 3).count ≡ 2)
  -- "j: held 65,535, 0, next 1": document 02, W2: "Case j then gives (65,535, 0)."
  pub j : (s : StreamState) → HoldsOnly s (65535 ∷ 0 ∷ []) → s.next_send_seq ≡ 1 → heartbeat_of s ≡ record { first_unacked_seq = 65535; last_seq = 0 }

bitmaps : (first last bitmap : ℕ) → bitmap_of 0 first last ≡ bitmap → Bitmap first last bitmap
unfolding acknack_of
bitmaps first last bitmap e s z = rw z e

-- bitmap 3 asks for the first two numbers
module _ (s : StreamState) where
  takes : (k bit : ℕ) → wanted s 0 3 bit ≡ true → repeats_from s 0 3 (suc k) bit ≡ plus 0 bit ∷ repeats_from s 0 3 k (suc bit)
  unfolding repeats_from
  takes k bit e = rw e

  asks : (is_held s 0 ≡ true → wanted s 0 3 0 ≡ true) × (is_held s 1 ≡ true → wanted s 0 3 1 ≡ true)
  unfolding wanted
  asks = (λ e. e, λ e. e)

  no_more : repeats_from s 0 3 14 2 ≡ []
  unfolding repeats_from wanted
  no_more = refl

  first_two : is_held s 0 ≡ true → is_held s 1 ≡ true → repeats s 0 3 ≡ 0 ∷ 1 ∷ []
  unfolding repeats
  first_two a b = takes 15 0 (asks.0 a) ∙ ap (λ (l : List ℕ). 0 ∷ l) (takes 14 1 (asks.1 b) ∙ ap (λ (l : List ℕ). 1 ∷ l) no_more)

module _ (s : StreamState) where
  leaves : HoldsOnly s (65534 ∷ 65535 ∷ 0 ∷ 1 ∷ []) → HoldsOnly (acknowledge s 0 3).state (0 ∷ 1 ∷ [])
  unfolding among seq_lt
  leaves k m = left s 0 3 m ∙ rw (k m) (by (eqb m 65534) (eqb m 65535) (eqb m 0) (eqb m 1) refl refl refl refl)
    where
      nothing : (t : Bool) → cond t false false ≡ false
      nothing true = refl
      nothing false = refl

      by : (a b c d : Bool) → eqb m 65534 ≡ a → eqb m 65535 ≡ b → eqb m 0 ≡ c → eqb m 1 ≡ d
          → cond (seq_lt m 0) false (among m (65534 ∷ 65535 ∷ 0 ∷ 1 ∷ [])) ≡ among m (0 ∷ 1 ∷ [])
      by true b c d p q r t = rw (eqb-true m 65534 p)
      by false true c d p q r t = rw (eqb-true m 65535 q)
      by false false true d p q r t = rw (eqb-true m 0 r)
      by false false false true p q r t = rw (eqb-true m 1 t)
      by false false false false p q r t = rw (p, q, r, t) (nothing (seq_lt m 0))

  lists : HoldsOnly s (65534 ∷ 65535 ∷ 0 ∷ 1 ∷ []) → repeats (acknowledge s 0 3).state 0 3 ≡ 0 ∷ 1 ∷ []
  unfolding among
  lists k = first_two (acknowledge s 0 3).state (leaves k 0) (leaves k 1)

  answers : HoldsOnly s (65534 ∷ 65535 ∷ 0 ∷ 1 ∷ []) → ((acknowledge s 0 3).repeats ≡ padded (0 ∷ 1 ∷ [])) × ((acknowledge s 0 3).count ≡ 2)
  unfolding acknowledge repeats_of
  answers k = rw (lists k) (refl, refl)

  pub names : HoldsOnly s (65535 ∷ 0 ∷ []) → s.next_send_seq ≡ 1 → heartbeat_of s ≡ record { first_unacked_seq = 65535; last_seq = 0 }
  unfolding heartbeat_of among
  names k e = rw (sym (no_other s bits 65535 (record { held = λ m h. k 65535; first = λ m h. only m h (λ z. omega (arith, e)) (λ z. omega (arith, e)); empty = λ f. absurd (never (k 65535) (f 65535)) })), e)
    where
      -- what holds of both numbers holds of every held one
      only : {A : Type 0} → (m : ℕ) → is_held s m ≡ true → (m ≡ 65535 → A) → (m ≡ 0 → A) → A
      only {A} m h x y = by (eqb m 65535) (eqb m 0) refl refl (sym (k m) ∙ h)
        where
          by : (a b : Bool) → eqb m 65535 ≡ a → eqb m 0 ≡ b → among m (65535 ∷ 0 ∷ []) ≡ true → A
          by true b p q t = x (eqb-true m 65535 p)
          by false true p q t = y (eqb-true m 0 q)
          by false false p q t = absurd (never (rw (p, q) at t) refl)

      bits : SixteenBits s
      bits = record { next = omega arith; held = λ m h. only m h (λ z. omega arith) (λ z. omega arith) }

pub cases : Table
unfolding bitmap_of bitmap_from bit_value seq_lt padded
cases = record {
  wire = wire-cases;
  d = bitmaps 0 2 7 refl;
  e = bitmaps 2 3 13 refl;
  f = bitmaps 0 65535 0 refl;
  g = bitmaps 0 32767 65535 refl;
  h = bitmaps 0 32768 0 refl;
  i = λ s k. (leaves s k, (answers s k).0, (answers s k).1);
  j = names;
}
