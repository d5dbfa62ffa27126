-- Laws of failures: what each one says, what holds where there is none, and where a submessage ends or why it is refused.
use Prim.Native.Nat.{ℕ, ◌+◌, ◌-◌, ◌≤◌, ◌<◌}
use mathlib.Core.Path.{◌≡◌, refl, sym, ◌∙◌, ap}
use mathlib.Core.Bool.{true, false}
use mathlib.Core.List.{List}
use native.Mathlib.Decide.{dec_le, ℕ_discrete}
use native.Mathlib.Nat.{lt_of_not-le}
use native.Mathlib.Omega.{arith}
use borrow.Author.Tests.{eqb-true, eqb-false, ltb-true, ltb-false}
use lib.Dec.{eqb, ltb}
use lib.ListN.{get_or, length}
use Rattle.codec.specs.Answers.{number_in, parsed_answer}
use Rattle.codec.specs.Bytes.{word_at}
use Rattle.codec.specs.Layouts.{least_of, layout_at, create_at, create_of, status_at, status_of}
use Rattle.codec.specs.Reading.{payload_at, read_at, failure_at, end_of, end_at, items_at}
use Rattle.codec.specs.Refusals.{number_of}
use Rattle.codec.specs.Submessages.{kind_of, code_of}
use Rattle.codec.specs.declared.header.MessageHeader.{MessageHeader}
use Rattle.codec.specs.declared.refusals.Refusal.{Refusal}
use Rattle.codec.specs.declared.refusals.Refusal.TheVariants.{BufferTooShort, UnknownSubmessageId, UnknownObjectKind, UnknownStatusCode, PayloadLengthMismatch}
use Rattle.codec.proofs.Either.{either}
use Rattle.codec.proofs.layouts.Laws.{enough, least_rest}
use Rattle.codec.proofs.reading.Laws.{payload_cut, payload_unlisted, payload_under, payload_laid, payload_ends, read_payload, read_short, read_placed, Ends, counted, counted_sub}
use Rattle.codec.proofs.submessages.Laws.{KindIs, kind_is, CodeIs, code_is}
use Rattle.std.specs.Prelude.{Err, Ok, Result}
use Rattle.codec.specs.declared.layouts.Cursor.{Cursor}
use Rattle.codec.specs.declared.submessages.ObjectKind.{ObjectKind}
use Rattle.codec.specs.declared.layouts.Span.{Span}
use Rattle.codec.specs.declared.submessages.StatusCode.{StatusCode}
use Rattle.codec.specs.declared.submessages.Submessage.{Submessage}

-- the number of an answer, and equal answers have equal numbers
abbrev pub number : Result (Submessage × Span × Cursor) Refusal → ℕ
number q = number_in (parsed_answer q)

pub same_number : {q r : Result (Submessage × Span × Cursor) Refusal} → q ≡ r → number q ≡ number r
same_number e = ap number e

-- ---- what a failure says: one for each rule, with what it found

pub data Failure (s : List ℕ) (id p len : ℕ) : Refusal → Type 0 where
  cut : length s < p + len → Failure s id p len BufferTooShort
  unknown : p + len ≤ length s → least_of id ≡ 255 → Failure s id p len (UnknownSubmessageId id)
  short : p + len ≤ length s → len < least_of id → Failure s id p len PayloadLengthMismatch
  kind : p + len ≤ length s → 5 ≤ len → id ≡ 1 → Failure s id p len (UnknownObjectKind (get_or s (p + 2) 0))
  code : p + len ≤ length s → 3 ≤ len → id ≡ 5 → Failure s id p len (UnknownStatusCode (get_or s (p + 2) 0))

abbrev pub FailureIf : List ℕ → ℕ → ℕ → ℕ → Result (Submessage × Span × Cursor) Refusal → Type 0
FailureIf s id p len (Ok (m, x, c)) = Unit
FailureIf s id p len (Err r) = Failure s id p len r

module _ (s : List ℕ) (p len : ℕ) (room : p + len ≤ length s) where
  create_failure : (id : ℕ) → id ≡ 1 → 5 ≤ len → (k : Result ObjectKind Refusal) → KindIs (get_or s (p + 2) 0) k → FailureIf s id p len (create_of s p len k)
  create_failure id e h (Ok k) w = tt
  create_failure id e h (Err r) w = rw w (kind room h e)

  status_failure : (id : ℕ) → id ≡ 5 → 3 ≤ len → (k : Result StatusCode Refusal) → CodeIs (get_or s (p + 2) 0) k → FailureIf s id p len (status_of s p len k)
  status_failure id e h (Ok k) w = tt
  status_failure id e h (Err r) w = rw w (code room h e)

  layout_failure : (id : ℕ) → least_of id ≤ len → FailureIf s id p len (layout_at s id p len)
  unfolding layout_at create_at status_at least_of
  layout_failure id h =
      let P = FailureIf s id p len in
      let long : (k : ℕ) → eqb id k ≡ true → least_of k ≤ len = λ k e. enough id k len (eqb-true id k e) h in
      let not : (k : ℕ) → eqb id k ≡ false → id ≡ k → ⊥ = λ k e. eqb-false id k e in
      either P (eqb id 0) _ _ (λ _. tt) (λ a.
      either P (eqb id 1) _ _ (λ e. create_failure id (eqb-true id 1 e) (long 1 e) (kind_of _) (kind_is _)) (λ b.
      either P (eqb id 2) _ _ (λ _. tt) (λ c.
      either P (eqb id 5) _ _ (λ e. status_failure id (eqb-true id 5 e) (long 5 e) (code_of _) (code_is _)) (λ d.
      either P (eqb id 7) _ _ (λ _. tt) (λ e.
      either P (eqb id 8) _ _ (λ _. tt) (λ f.
      either P (eqb id 9) _ _ (λ _. tt) (λ g.
      either P (eqb id 13) _ _ (λ _. tt) (λ h.
      either P (eqb id 14) _ _ (λ _. tt) (λ i.
      either P (eqb id 15) _ _ (λ _. tt) (λ j.
      unknown room (least_rest id (not 0 a) (not 1 b) (not 2 c) (not 5 d) (not 7 e) (not 8 f) (not 9 g) (not 13 h) (not 14 i) (not 15 j))))))))))))

pub payload_failure : (s : List ℕ) (id p len : ℕ) → FailureIf s id p len (payload_at s id p len)
unfolding payload_at
payload_failure s id p len =
    let P = FailureIf s id p len in
    either P (ltb (length s) (p + len)) _ _ (λ h. cut (ltb-true (length s) (p + len) h)) (λ h.
    let room = ltb-false (length s) (p + len) h in
    either P (eqb (least_of id) 255) _ _ (λ e. unknown room (eqb-true (least_of id) 255 e)) (λ _.
    either P (ltb len (least_of id)) _ _ (λ k. short room (ltb-true len (least_of id) k)) (λ k. layout_failure s p len room id (ltb-false len (least_of id) k))))

-- ---- where there is none

-- the whole payload is there and long enough, and the id's layout says what was read
pub record Met (s : List ℕ) (id p len : ℕ) (q : Result (Submessage × Span × Cursor) Refusal) : Type 0 where
  pub room : p + len ≤ length s
  pub least : least_of id ≤ len
  pub laid : layout_at s id p len ≡ q

module _ (s : List ℕ) (id p len : ℕ) where
  pub payload_met : number (payload_at s id p len) ≡ 0 → Met s id p len (payload_at s id p len)
  payload_met e =
      elim (dec_le (p + len) (length s)) [
        | no h ↦ let z : ◌≡◌ {A = ℕ} 1 0 = same_number (payload_cut s id p len (lt_of_not-le h)) ∙ e in absurd (omega arith)
        | yes h ↦
            elim (ℕ_discrete (least_of id) 255) [
              | yes k ↦ let z : ◌≡◌ {A = ℕ} 2 0 = same_number (payload_unlisted s id p len h k) ∙ e in absurd (omega arith)
              | no k ↦
                  elim (dec_le (least_of id) len) [
                    | no j ↦ let z : ◌≡◌ {A = ℕ} 5 0 = same_number (payload_under s id p len h k (lt_of_not-le j)) ∙ e in absurd (omega arith)
                    | yes j ↦ record { room = h; least = j; laid = payload_laid s id p len h k j }
                  ]
            ]
      ]

  -- of the rules that are left behind the least length, only kind and code can fail
  only_marks : (r : Refusal) → Failure s id p len r → p + len ≤ length s → (least_of id ≡ 255 → ⊥) → least_of id ≤ len → (id ≡ 1 → ⊥) → (id ≡ 5 → ⊥) → ⊥
  only_marks r (cut h) room listed least a b = omega (arith, h)
  only_marks r (unknown h e) room listed least a b = listed e
  only_marks r (short h k) room listed least a b = omega (arith, k)
  only_marks r (kind h k e) room listed least a b = a e
  only_marks r (code h k e) room listed least a b = b e

  passes : (q : Result (Submessage × Span × Cursor) Refusal) → FailureIf s id p len q → Ends (p + len) q → p + len ≤ length s → (least_of id ≡ 255 → ⊥) → least_of id ≤ len → (id ≡ 1 → ⊥) → (id ≡ 5 → ⊥)
      → Ok (p + len) ≡ end_of q
  passes (Ok (m, x, c)) f ends room listed least a b = rw ends.0
  passes (Err r) f ends room listed least a b = absurd (only_marks r f room listed least a b)

  pub unmarked : p + len ≤ length s → (least_of id ≡ 255 → ⊥) → least_of id ≤ len → (id ≡ 1 → ⊥) → (id ≡ 5 → ⊥) → Ok (p + len) ≡ end_of (payload_at s id p len)
  unmarked room = passes (payload_at s id p len) (payload_failure s id p len) (payload_ends s id p len room) room

pub same_end : {q r : Result (Submessage × Span × Cursor) Refusal} → q ≡ r → end_of q ≡ end_of r
same_end e = ap end_of e

abbrev pub MetAt : List ℕ → ℕ → Type 0
MetAt s at = Met s (get_or s at 0) (at + 4) (word_at s (at + 2)) (read_at s at)

module _ (s : List ℕ) (at : ℕ) where
  pub read_met : failure_at s at ≡ 0 → MetAt s at
  unfolding failure_at
  read_met e =
      elim (dec_le (at + 4) (length s)) [
        | no h ↦ let z : ◌≡◌ {A = ℕ} 1 0 = same_number (read_short s at (lt_of_not-le h)) ∙ e in absurd (omega arith)
        | yes h ↦
            let k = read_payload s at (get_or s at 0) (word_at s (at + 2)) h refl refl in
            rw k (payload_met s (get_or s at 0) (at + 4) (word_at s (at + 2)) (same_number (sym k) ∙ e))
      ]

-- ---- where a submessage ends, as `end_at` gives it

-- one that has an end was read, and ends there
pub record Ended (s : List ℕ) (at e : ℕ) : Type 0 where
  pub says : Submessage
  pub span : Span
  pub behind : Cursor
  pub read : read_at s at ≡ Ok (says, span, behind)
  pub end : behind.at ≡ e
  pub none : failure_at s at ≡ 0
  pub ahead : at + 4 ≤ e
  pub within : e ≤ length s
  pub least : least_of (get_or s at 0) ≤ e - (at + 4)
  pub laid : layout_at s (get_or s at 0) (at + 4) (e - (at + 4)) ≡ read_at s at

module _ (s : List ℕ) (at e : ℕ) where
  ended_answer : (q : Result (Submessage × Span × Cursor) Refusal) → read_at s at ≡ q → end_of q ≡ Ok e → Ended s at e
  unfolding failure_at
  ended_answer (Ok (m, x, c)) r h =
      let same : ◌≡◌ {A = ℕ} c.at e = cc in
      let none : failure_at s at ≡ 0 = rw r in
      let met = read_met s at none in
      let there = read_placed s at m x c r in
      let ends : Ends (at + 4 + word_at s (at + 2)) (read_at s at) = rw (read_payload s at (get_or s at 0) (word_at s (at + 2)) (omega (arith, met.room)) refl refl) (payload_ends s (get_or s at 0) (at + 4) (word_at s (at + 2)) met.room) in
      let stands : Ends (at + 4 + word_at s (at + 2)) (Ok (m, x, c)) = rw r at ends in
      let len : e - (at + 4) ≡ word_at s (at + 2) = omega (arith, stands.0) in
      record { says = m; span = x; behind = c; read = r; end = same; none = none; ahead = omega (arith, there.ahead); within = omega (arith, there.within); least = rw len met.least; laid = rw len met.laid }
  ended_answer (Err r) d h = absurd (cc)

  pub ended : end_at s at ≡ Ok e → Ended s at e
  unfolding end_at
  ended h = ended_answer (read_at s at) refl h

-- one that has none was refused, and its failure has the refusal's number
module _ (s : List ℕ) (at : ℕ) (r : Refusal) where
  refused_answer : (q : Result (Submessage × Span × Cursor) Refusal) → read_at s at ≡ q → end_of q ≡ Err r → (read_at s at ≡ Err r) × (failure_at s at ≡ number_of r)
  unfolding failure_at
  refused_answer (Ok (m, x, c)) d h = absurd (cc)
  refused_answer (Err w) d h = let same : ◌≡◌ {A = Refusal} w r = cc in (d ∙ ap Err same, rw (d, same))

  pub refused_end : end_at s at ≡ Err r → (read_at s at ≡ Err r) × (failure_at s at ≡ number_of r)
  unfolding end_at
  refused_end h = refused_answer (read_at s at) refl h

-- the count goes on behind the payload
pub counted_past : (h : MessageHeader) (s : List ℕ) (at n e : ℕ) → at < length s → end_at s at ≡ Ok e
    → counted h n (items_at s at) ≡ counted h (n + 1) (items_at s e)
counted_past h s at n e k d =
    let w = ended s at e d in
    counted_sub h s at n w.says w.span w.behind k w.read ∙ rw w.end
