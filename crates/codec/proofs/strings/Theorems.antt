-- Theorems of strings: one is read exactly where it stands by the grammar, its bytes being text.
use Prim.Native.Nat.{ℕ, suc, ◌+◌, ◌≤◌, ◌<◌}
use mathlib.Core.Path.{◌≡◌, refl, sym, ap, ◌∙◌}
use mathlib.Core.Bool.{Bool, true, false, cond}
use mathlib.Core.List.{List, ◌++◌}
use native.Mathlib.Omega.{arith}
use borrow.Author.Tests.{ltb-true, ltb-false}
use lib.Dec.{ltb}
use lib.ListN.{length, take, drop, length-append, length-drop, take-append-drop}
use lib.Seq.{drop-drop, length-take-le}
use Rattle.codec.specs.Answers.{gives, refused_as, string_answer}
use Rattle.codec.specs.Bytes.{AllBytes, le16, word_at}
use Rattle.codec.specs.Reading.{part_of}
use Rattle.codec.specs.Strings.{string_bytes, span_at, string_at}
use Rattle.codec.specs.Text.{IsText, well_formed}
use Rattle.codec.specs.Grammar.{IsString}
use Rattle.codec.specs.declared.layouts.Span.{Span}
use Rattle.codec.specs.declared.refusals.Refusal.TheVariants.{BufferTooShort, IllFormed}
use Rattle.codec.proofs.Complete.{part_is}
use Rattle.codec.proofs.Sound.{part_taken}
use Rattle.codec.proofs.Pieces.{word_small, word_piece, word_back, drop_behind}
use Rattle.codec.proofs.strings.Laws.{string_none, string_cut, string_told, string_text, string_ill}
use Rattle.codec.proofs.text.Theorems.{text_well, well_text}
use Rattle.std.specs.Prelude.{Err, Ok, Result}
use Rattle.codec.specs.declared.refusals.Refusal.{Refusal}

module _ (s : List ℕ) (at : ℕ) where
  pub cut_short : length s < at + 2 + word_at s at → Err BufferTooShort ≡ string_at s at
  cut_short h = by (ltb (length s) (at + 2)) refl
    where
      by : (b : Bool) → ltb (length s) (at + 2) ≡ b → Err BufferTooShort ≡ string_at s at
      by true e = string_none s at (ltb-true (length s) (at + 2) e)
      by false e = string_cut s at (ltb-false (length s) (at + 2) e) h

  -- a string that is given is whole and its own, and its bytes are well-formed
  pub record Given (x : Span) : Type 0 where
    pub whole : at + 2 + word_at s at ≤ length s
    pub own : x ≡ span_at s at
    pub well : well_formed (part_of s x) ≡ true

  given_by : at + 2 + word_at s at ≤ length s → (b : Bool) → well_formed (part_of s (span_at s at)) ≡ b → (x : Span) → cond b (Ok (span_at s at)) (Err IllFormed) ≡ Ok x → Given x
  given_by h true t x e =
      let same : span_at s at ≡ x = cc in
      record { whole = h; own = sym same; well = rw (← same) t }
  given_by h false t x e = let z : ◌≡◌ {A = ℕ} 0 1 = cc in absurd (omega arith)

  pub string_given : (x : Span) → string_at s at ≡ Ok x → Given x
  string_given x e = by (ltb (length s) (at + 2 + word_at s at)) refl
    where
      by : (b : Bool) → ltb (length s) (at + 2 + word_at s at) ≡ b → Given x
      by true f =
          let short = cut_short (ltb-true (length s) (at + 2 + word_at s at) f) in
          let z : ◌≡◌ {A = ℕ} 0 1 = cc in absurd (omega arith)
      by false f =
          let whole = ltb-false (length s) (at + 2 + word_at s at) f in
          given_by whole (well_formed (part_of s (span_at s at))) refl x (string_told s at whole ∙ e)

  -- where a string stands by the grammar, its length and its bytes are read
  module _ (text behind : List ℕ) (g : IsString text behind (drop at s)) where
    length_there : word_at s at ≡ length text
    unfolding string_bytes le16
    length_there = word_back s at (length text) (text ++ behind) g.stands g.long

    bytes_there : drop (at + 2) s ≡ text ++ behind
    unfolding string_bytes le16
    bytes_there = drop_behind s at (le16 (length text)) (text ++ behind) 2 g.stands refl

    whole_there : at + 2 + length text ≤ length s
    unfolding string_bytes le16
    whole_there =
        let e : length (drop at s) ≡ suc (suc (length (text ++ behind))) = ap (λ (l : List ℕ). length l) g.stands in
        omega (arith, e, length-append text behind, length-drop at s)

    pub part_there : part_of s (span_at s at) ≡ text
    part_there = rw length_there (part_is s (at + 2) (length text) text behind bytes_there refl whole_there)

    pub read_there : string_at s at ≡ Ok (span_at s at)
    read_there = sym (string_text s at (rw length_there whole_there) (rw part_there (text_well text g.is_text)))

    pub behind_there : drop (at + 2 + word_at s at) s ≡ behind
    behind_there = rw length_there (drop_behind s (at + 2) text behind (length text) bytes_there refl)

  -- and back: what is whole stands there
  module _ (h : at + 2 + word_at s at ≤ length s) where
    part_taken_there : part_of s (span_at s at) ≡ take (word_at s at) (drop (at + 2) s)
    part_taken_there = part_taken s (at + 2) (word_at s at) h

    long_there : length (part_of s (span_at s at)) ≡ word_at s at
    long_there = rw part_taken_there (length-take-le (word_at s at) (drop (at + 2) s) (omega (arith, length-drop (at + 2) s)))

    stands_there : AllBytes s → drop at s ≡ string_bytes (part_of s (span_at s at)) ++ drop (at + 2 + word_at s at) s
    unfolding string_bytes le16
    stands_there small =
        let n = word_at s at in
        let behind = drop (at + 2) s in
        let first : drop at s ≡ le16 n ++ behind = sym (take-append-drop 2 (drop at s)) ∙ rw (← word_piece s small at (omega arith), drop-drop 2 at s) in
        let second : behind ≡ take n behind ++ drop (at + 2 + n) s = sym (take-append-drop n behind) ∙ rw (drop-drop n (at + 2) s) in
        first ∙ rw (long_there, part_taken_there) (ap (λ (l : List ℕ). le16 n ++ l) second)

  pub only_text : AllBytes s → (x : Span) → string_answer (string_at s at) ≡ gives x → (x ≡ span_at s at) × IsString (part_of s x) (drop (x.start + x.len) s) (drop at s)
  only_text small x e = by (string_at s at) refl e
    where
      by : (r : Result Span Refusal) → string_at s at ≡ r → string_answer r ≡ gives x → (x ≡ span_at s at) × IsString (part_of s x) (drop (x.start + x.len) s) (drop at s)
      by (Ok y) f e =
          let same : y ≡ x = cc in
          let g = string_given x (f ∙ rw same) in (
            g.own,
            rw g.own (record { stands = stands_there g.whole small; long = rw (long_there g.whole) (word_small s small at); is_text = rw (← g.own) (well_text _ g.well) }),
          )
      by (Err r) f e = let z : ◌≡◌ {A = ℕ} 0 1 = cc in absurd (omega arith)

  pub not_text : at + 2 + word_at s at ≤ length s → (IsText (part_of s (span_at s at)) → ⊥) → string_answer (string_at s at) ≡ refused_as 18 0
  not_text h n = by (well_formed (part_of s (span_at s at))) refl
    where
      by : (b : Bool) → well_formed (part_of s (span_at s at)) ≡ b → string_answer (string_at s at) ≡ refused_as 18 0
      by true e = absurd (n (well_text _ e))
      by false e = ap string_answer (sym (string_ill s at h e))
