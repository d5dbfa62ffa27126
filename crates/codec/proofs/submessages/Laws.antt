-- Laws of kinds and codes: one that was read has its own byte, and one that is refused gives the byte.
use Prim.Native.Nat.{ℕ}
use mathlib.Core.Path.{◌≡◌, refl, sym}
use mathlib.Core.Bool.{true}
use borrow.Author.Tests.{eqb-true}
use lib.Dec.{eqb}
use Rattle.codec.specs.Submessages.{kind_byte, kind_of, code_byte, code_of}
use Rattle.codec.specs.declared.refusals.Refusal.TheVariants.{UnknownObjectKind, UnknownStatusCode}
use Rattle.codec.proofs.Either.{either}
use Rattle.std.specs.Prelude.{Err, Ok, Result}
use Rattle.codec.specs.declared.submessages.ObjectKind.{ObjectKind}
use Rattle.codec.specs.declared.refusals.Refusal.{Refusal}
use Rattle.codec.specs.declared.submessages.StatusCode.{StatusCode}

abbrev pub KindIs : ℕ → Result ObjectKind Refusal → Type 0
KindIs b (Ok k) = kind_byte k ≡ b
KindIs b (Err r) = r ≡ UnknownObjectKind b

pub kind_is : (b : ℕ) → KindIs b (kind_of b)
unfolding kind_of
kind_is b =
    let P = KindIs b in
    let own : (n : ℕ) → eqb b n ≡ true → n ≡ b = λ n e. sym (eqb-true b n e) in
    either P (eqb b 1) _ _ (own 1) (λ _.
    either P (eqb b 2) _ _ (own 2) (λ _.
    either P (eqb b 3) _ _ (own 3) (λ _.
    either P (eqb b 4) _ _ (own 4) (λ _.
    either P (eqb b 5) _ _ (own 5) (λ _.
    either P (eqb b 6) _ _ (own 6) (λ _. refl))))))

abbrev pub CodeIs : ℕ → Result StatusCode Refusal → Type 0
CodeIs b (Ok k) = code_byte k ≡ b
CodeIs b (Err r) = r ≡ UnknownStatusCode b

pub code_is : (b : ℕ) → CodeIs b (code_of b)
unfolding code_of
code_is b =
    let P = CodeIs b in
    let own : (n : ℕ) → eqb b n ≡ true → n ≡ b = λ n e. sym (eqb-true b n e) in
    either P (eqb b 0) _ _ (own 0) (λ _.
    either P (eqb b 1) _ _ (own 1) (λ _.
    either P (eqb b 2) _ _ (own 2) (λ _.
    either P (eqb b 3) _ _ (own 3) (λ _.
    either P (eqb b 4) _ _ (own 4) (λ _. refl)))))
