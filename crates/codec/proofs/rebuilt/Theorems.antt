-- The check of rebuilt bytes goes by the grammar (`specs/Promises.antt`, `ChecksRebuilt`).
use Prim.Native.Nat.{ℕ, ◌<◌}
use mathlib.Core.Path.{◌≡◌, refl, sym, ◌∙◌, ap}
use mathlib.Core.Bool.{true, false}
use mathlib.Core.List.{List, [], ◌∷◌, map}
use native.Mathlib.Omega.{arith}
use lib.ListN.{length, length-map}
use Rattle.codec.specs.Answers.{gives, refused_as, rebuilt_answer}
use Rattle.codec.specs.Bytes.{AllBytes}
use Rattle.codec.specs.Reading.{Item}
use Rattle.codec.specs.Grammar.{Said, Subs, none, next, said_in}
use Rattle.codec.specs.Rebuilt.{any_barred, rebuilt_of, rebuilt_reading}
use Rattle.codec.specs.Promises.{one_barred, RebuiltExactly, ChecksRebuilt}
use Rattle.codec.specs.declared.refusals.Refusal.TheVariants.{NotInFragments}
use Rattle.codec.proofs.Complete.{subs_back, subs_long}
use Rattle.codec.proofs.Sound.{subs_sound}
use Rattle.codec.proofs.rebuilt.Laws.{rebuilt_reads, rebuilt_is, rebuilt_bars, whole_some, some_bytes, whole_reads, reading_passed, reading_refused}
use Rattle.std.specs.Prelude.{Err, Ok, Result}
use Rattle.codec.specs.declared.refusals.Refusal.{Refusal}

-- barred as they are read, and as they are said
same_barred : (s : List ℕ) (xs : List Item) → any_barred xs ≡ one_barred (map (said_in s) xs)
same_barred s [] = refl
same_barred s (x ∷ xs) = rw (same_barred s xs)

some_said : {xs : List Said} {bytes : List ℕ} → Subs xs bytes → (length bytes ≡ 0 → ⊥) → 0 < length xs
some_said none h = absurd (h refl)
some_said (next o k) h = omega arith

module _ (s : List ℕ) where
  -- bytes that are submessages by the grammar: where there is one at least, the check is that from their start
  read_answer : (x : Said) (xs : List Said) → Subs (x ∷ xs) s → one_barred (x ∷ xs) ≡ false
      → (rebuilt_of s ≡ Ok (length (x ∷ xs))) × (rebuilt_reading s ≡ x ∷ xs)
  read_answer x xs k b =
      let r = subs_back s 0 k refl (omega arith) in
      let clear : any_barred r.found ≡ false = same_barred s r.found ∙ rw r.said b in
      let size : length r.found ≡ length (x ∷ xs) = sym (length-map r.found (said_in s)) ∙ ap length r.said in
      let is : rebuilt_of s ≡ Ok (length (x ∷ xs)) = sym (whole_some s (λ z. omega (arith, z, subs_long k))) ∙ rebuilt_is s 0 r.found r.read clear ∙ rw size in
      (is, reading_passed s (length (x ∷ xs)) r.found is r.read ∙ r.said)

  read_barred : (xs : List Said) → Subs xs s → one_barred xs ≡ true → rebuilt_of s ≡ Err NotInFragments
  read_barred [] k b = let z : ◌≡◌ {A = ℕ} 0 1 = cc in absurd (omega arith)
  read_barred (x ∷ xs) k b =
      let r = subs_back s 0 k refl (omega arith) in
      sym (whole_some s (λ z. omega (arith, z, subs_long k))) ∙ rebuilt_bars s 0 r.found r.read (same_barred s r.found ∙ rw r.said b)

  -- what the check gave
  gives_is : (q : Result ℕ Refusal) (n : ℕ) → rebuilt_answer q ≡ gives n → q ≡ Ok n
  gives_is (Ok k) n e = cc
  gives_is (Err r) n e = let z : ◌≡◌ {A = ℕ} 0 1 = cc in absurd (omega arith)

  refused_is : (q : Result ℕ Refusal) → rebuilt_of s ≡ q → (number byte : ℕ) → rebuilt_answer q ≡ refused_as number byte → rebuilt_reading s ≡ []
  refused_is (Ok k) d number byte e = let z : ◌≡◌ {A = ℕ} 0 1 = cc in absurd (omega arith)
  refused_is (Err r) d number byte e = reading_refused s r d

  module _ (small : AllBytes s) where
    -- what is read passes the grammar
    read_only : (n : ℕ) → rebuilt_of s ≡ Ok n
        → Subs (rebuilt_reading s) s × (one_barred (rebuilt_reading s) ≡ false) × (length (rebuilt_reading s) ≡ n) × (0 < n)
    read_only n e =
        let h = some_bytes s n e in
        let r = rebuilt_reads s 0 n (whole_reads s n e) in
        let said = reading_passed s n r.0 e r.1 in
        let k : Subs (map (said_in s) r.0) s = subs_sound s small 0 r.0 r.1 in
        let size : length (map (said_in s) r.0) ≡ n = length-map r.0 (said_in s) ∙ r.3 in
        rw said (k, sym (same_barred s r.0) ∙ r.2, size, rw (← size) (some_said k h))

    pub rebuilt_exactly : RebuiltExactly s
    rebuilt_exactly =
        record {
          accepts = λ x xs k b. let r = read_answer x xs k b in (rw r.0, r.1);
          only = λ n e. read_only n (gives_is (rebuilt_of s) n e);
          bars = λ xs k b. rw (read_barred xs k b);
          nothing = refused_is (rebuilt_of s) refl;
        }

pub checks_rebuilt : ChecksRebuilt
checks_rebuilt s small = rebuilt_exactly s small
