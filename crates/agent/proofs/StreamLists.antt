-- A session's list of streams, by number: what opening one, an ACKNACK and a DATA reply that is held change of the stream of each number.
use Rattle.std.specs.Prelude.{Option, None, Some}
use Prim.Native.Nat.{ℕ, zero, suc}
use mathlib.Core.Path.{◌≡◌, refl, sym, ap, ◌∙◌, subst}
use mathlib.Core.Logic.{◌≢◌}
use mathlib.Core.Bool.{Bool, true, false, cond}
use mathlib.Core.List.{List, [], ◌∷◌, ◌++◌}
use borrow.Author.Tests.{eqb-true, eq-eqb, ne_eqb}
use lib.Dec.{eqb, ltb}
use lib.ListN.{length}
use Rattle.streams.specs.Sequence.{seq_lt}
use Rattle.streams.specs.Acknowledged.{bit_of}
use Rattle.streams.specs.View.{fresh_of, acknack_in, repeated_from, repeated_in}
use Rattle.isolation.specs.Rules.{Bytes}
use Rattle.isolation.proofs.Simulation.{none_some}
use Rattle.sessions.specs.View.{KeptStream, stream_in, open_if, open_in, write_in}
use Rattle.sessions.proofs.ViewStreams.{found_number}
use Rattle.agent.specs.Local.{acknowledged_by}
use Rattle.agent.specs.RulesStreams.{repeats_from}

-- the stream of a number, or one just opened where there is none
abbrev pub or_fresh : ℕ → Option KeptStream → KeptStream
or_fresh n (Some k) = k
or_fresh n None = fresh_of n

-- ---- opened

more_now : (ks : List KeptStream) (n m : ℕ) → or_fresh m (stream_in (ks ++ (fresh_of n ∷ [])) m) ≡ or_fresh m (stream_in ks m)
unfolding stream_in
more_now [] n m = by (eqb n m) refl
  where
    by : (b : Bool) → eqb n m ≡ b → or_fresh m (cond b (Some (fresh_of n)) None) ≡ fresh_of m
    by true e = ap (λ (i : ℕ). fresh_of i) (eqb-true n m e)
    by false e = refl
more_now (k ∷ ks) n m = by (eqb k.number m) (more_now ks n m)
  where
    by : (b : Bool) → or_fresh m (stream_in (ks ++ (fresh_of n ∷ [])) m) ≡ or_fresh m (stream_in ks m)
        → or_fresh m (cond b (Some k) (stream_in (ks ++ (fresh_of n ∷ [])) m)) ≡ or_fresh m (cond b (Some k) (stream_in ks m))
    by true later = refl
    by false later = later

pub open_now : (ks : List KeptStream) (n m : ℕ) → or_fresh m (stream_in (open_in ks n) m) ≡ or_fresh m (stream_in ks m)
open_now ks n m = by (stream_in ks n)
  where
    room : (b : Bool) → or_fresh m (stream_in (cond b (ks ++ (fresh_of n ∷ [])) ks) m) ≡ or_fresh m (stream_in ks m)
    room true = more_now ks n m
    room false = refl

    by : (x : Option KeptStream) → or_fresh m (stream_in (open_if x ks n) m) ≡ or_fresh m (stream_in ks m)
    by (Some k) = refl
    by None = room (ltb (length ks) 8)

-- ---- written back

pub written_here : (ks : List KeptStream) (x k : KeptStream) → stream_in ks k.number ≡ Some x → stream_in (write_in ks k) k.number ≡ Some k
unfolding stream_in write_in
written_here [] x k e = absurd (none_some e)
written_here (y ∷ ks) x k e = by (eqb y.number k.number) refl e (written_here ks x k)
  where
    by : (b : Bool) → eqb y.number k.number ≡ b → cond b (Some y) (stream_in ks k.number) ≡ Some x
        → (stream_in ks k.number ≡ Some x → stream_in (write_in ks k) k.number ≡ Some k) → stream_in (cond b (k ∷ ks) (y ∷ write_in ks k)) k.number ≡ Some k
    by true q e later = ap (λ (b : Bool). cond b (Some k) (stream_in ks k.number)) (eq-eqb k.number k.number refl)
    by false q e later = ap (λ (b : Bool). cond b (Some y) (stream_in (write_in ks k) k.number)) q ∙ later e

written_elsewhere : (ks : List KeptStream) (k : KeptStream) (m : ℕ) → m ≢ k.number → stream_in (write_in ks k) m ≡ stream_in ks m
unfolding stream_in write_in
written_elsewhere [] k m h = refl
written_elsewhere (y ∷ ks) k m h = by (eqb y.number k.number) refl (written_elsewhere ks k m h)
  where
    by : (b : Bool) → eqb y.number k.number ≡ b → stream_in (write_in ks k) m ≡ stream_in ks m → stream_in (cond b (k ∷ ks) (y ∷ write_in ks k)) m ≡ cond (eqb y.number m) (Some y) (stream_in ks m)
    by true q later =
        ap (λ (b : Bool). cond b (Some k) (stream_in ks m)) (ne_eqb k.number m (λ z. h (sym z)))
        ∙ ap (λ (b : Bool). cond b (Some y) (stream_in ks m)) (sym (ne_eqb y.number m (λ z. h (sym z ∙ eqb-true y.number k.number q))))
    by false q later = ap (λ (x : Option KeptStream). cond (eqb y.number m) (Some y) x) later

-- a stream that is open under n, with one of its number in its place
module _ (ks : List KeptStream) (n : ℕ) (x k : KeptStream) (found : stream_in ks n ≡ Some x) (same : k.number ≡ x.number) where
  number : k.number ≡ n
  number = same ∙ found_number ks n x found

  pub write_here : or_fresh n (stream_in (write_in ks k) n) ≡ k
  write_here =
      let open-there : stream_in ks k.number ≡ Some x = ap (λ (m : ℕ). stream_in ks m) number ∙ found in
      ap (or_fresh n) (subst (λ (m : ℕ). stream_in (write_in ks k) m ≡ Some k) number (written_here ks x k open-there))

  pub write_elsewhere : (m : ℕ) → m ≢ n → or_fresh m (stream_in (write_in ks k) m) ≡ or_fresh m (stream_in ks m)
  write_elsewhere m h = ap (or_fresh m) (written_elsewhere ks k m (λ z. h (z ∙ number)))

-- ---- an ACKNACK

-- a stream just opened holds nothing that it could drop
none_dropped : (n first : ℕ) → fresh_of n ≡ acknack_in {A = Bytes} first (fresh_of n)
none_dropped n first = λ j. record { number = n; next = 0; expected = 0; held = λ m. by (seq_lt m first) j }
  where
    by : (b : Bool) → ◌≡◌ {A = Option Bytes} None (cond b None None)
    by true = refl
    by false = refl

pub acknack_here : (ks : List KeptStream) (n first : ℕ) → or_fresh n (stream_in (acknowledged_by first (stream_in ks n) ks) n) ≡ acknack_in first (or_fresh n (stream_in ks n))
acknack_here ks n first = by (stream_in ks n) refl
  where
    by : (x : Option KeptStream) → stream_in ks n ≡ x → or_fresh n (stream_in (acknowledged_by first x ks) n) ≡ acknack_in first (or_fresh n x)
    by None e = ap (or_fresh n) e ∙ none_dropped n first
    by (Some k) e = write_here ks n k (acknack_in first k) e refl

pub acknack_elsewhere : (ks : List KeptStream) (n first m : ℕ) → m ≢ n → or_fresh m (stream_in (acknowledged_by first (stream_in ks n) ks) m) ≡ or_fresh m (stream_in ks m)
acknack_elsewhere ks n first m h = by (stream_in ks n) refl
  where
    by : (x : Option KeptStream) → stream_in ks n ≡ x → or_fresh m (stream_in (acknowledged_by first x ks) m) ≡ or_fresh m (stream_in ks m)
    by None e = refl
    by (Some k) e = write_elsewhere ks n k (acknack_in first k) e refl m h

-- a ninth stream holds nothing, and so nothing of it is repeated
none_repeated : (first bitmap k bit : ℕ) → [] ≡ repeated_from {A = Bytes} (λ m. None) first bitmap k bit
unfolding repeated_from
none_repeated first bitmap zero bit = refl
none_repeated first bitmap (suc k) bit = by (bit_of bitmap bit) (none_repeated first bitmap k (suc bit))
  where
    by : (b : Bool) → [] ≡ repeated_from {A = Bytes} (λ m. None) first bitmap k (suc bit) → [] ≡ cond b [] [] ++ repeated_from {A = Bytes} (λ m. None) first bitmap k (suc bit)
    by true later = later
    by false later = later

pub repeats_now : (n first bitmap : ℕ) → n ≢ 0 → (x : Option KeptStream) → repeats_from n first bitmap x ≡ repeated_in (or_fresh n x).held first bitmap
unfolding repeated_in
repeats_now n first bitmap h None = none_repeated first bitmap 16 0
repeats_now n first bitmap h (Some k) = ap (λ (b : Bool). cond b [] (repeated_in k.held first bitmap)) (ne_eqb n 0 h)
