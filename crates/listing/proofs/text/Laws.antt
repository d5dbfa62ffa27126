-- Pieces of text put one behind the other are one piece, and a text put at the start fits or is past the end.
use Prim.Native.Nat.{ℕ, zero, suc, ◌+◌, ◌-◌, ◌≤◌, ◌<◌}
use mathlib.Core.Path.{◌≡◌, refl, sym, ap, ◌∙◌}
use mathlib.Core.Bool.{Bool, true, false, cond}
use mathlib.Core.List.{List, [], ◌∷◌, ◌++◌, append_assoc, append-nil}
use native.Mathlib.Decide.{dec_le}
use native.Mathlib.Nat.{min-eq_left, min-eq_right, lt_of_not-le, add-zero}
use native.Mathlib.Omega.{arith}
use lib.ListN.{get_or, length, take, set, length-append}
use lib.Seq.{sets, length-sets, set_out, take-length}
use Rattle.codec.specs.Bytes.{put_of, put_bytes}
use Rattle.codec.specs.declared.refusals.Refusal.TheVariants.{OutputTooShort}
use Rattle.codec.proofs.bytes.Laws.{put_sets, put_short, put_fits}
use Rattle.listing.specs.Text.{reach, Put, Adds}
use Rattle.listing.specs.Decimal.{decimal_of}
use Rattle.listing.specs.declared.text.Page.{Page}
use Rattle.listing.specs.Lines.{fields_of, line_of}
use Rattle.std.specs.Prelude.{Err, Ok}

-- ---- how far a text comes

reach_fits : (edge at n : ℕ) → at + n ≤ edge → reach edge at n ≡ at + n
unfolding reach
reach_fits edge at n h = let k : n ≤ edge - at = omega arith in rw (min-eq_left k)

reach_over : (edge at n : ℕ) → edge ≤ at + n → at ≤ edge → reach edge at n ≡ edge
unfolding reach
reach_over edge at n h k = let j : edge - at ≤ n = omega arith in rw (min-eq_right j) (omega arith)

reach_past : (edge at n : ℕ) → edge ≤ at → reach edge at n ≡ at
unfolding reach
reach_past edge at n h = let j : edge - at ≤ n = omega arith in rw (min-eq_right j) (omega arith)

reach_none : (edge at : ℕ) → reach edge at 0 ≡ at
unfolding reach
reach_none edge at = let j : 0 ≤ edge - at = omega arith in rw (min-eq_left j) (omega arith)

reach_reach : (edge at a b : ℕ) → reach edge (reach edge at a) b ≡ reach edge at (a + b)
reach_reach edge at a b =
    elim (dec_le edge at) [
      | yes h ↦ rw (reach_past edge at a h, reach_past edge at b h, reach_past edge at (a + b) h)
      | no h ↦
          elim (dec_le (at + a) edge) [
            | yes k ↦
                rw (reach_fits edge at a k)
                (elim (dec_le (at + a + b) edge) [
                  | yes j ↦ reach_fits edge (at + a) b j ∙ sym (reach_fits edge at (a + b) (omega arith) ∙ omega arith)
                  | no j ↦ reach_over edge (at + a) b (omega arith) k ∙ sym (reach_over edge at (a + b) (omega arith) (omega arith))
                ])
            | no k ↦ rw (reach_over edge at a (omega arith) (omega arith), reach_over edge at (a + b) (omega arith) (omega arith)) (reach_past edge edge b (omega arith))
          ]
    ]

-- ---- bytes that have no place are left out

sets_out : (l : List ℕ) (i : ℕ) (vs : List ℕ) → length l ≤ i → sets l i vs ≡ l
sets_out l i [] h = refl
sets_out l i (a ∷ vs) h = rw (set_out l i a h) (sets_out l (suc i) vs (omega arith))

sets_append : (l : List ℕ) (i : ℕ) (a b : List ℕ) → sets (sets l i a) (i + length a) b ≡ sets l i (a ++ b)
sets_append l i [] b = rw (add-zero i)
sets_append l i (x ∷ a) b =
    let e : i + suc (length a) ≡ suc i + length a = omega arith in
    rw e (sets_append (set l i x) (suc i) a b)

-- where a text ends, and where it would end if all of it had a place, are the same place for the next piece
sets_reach : (l : List ℕ) (at n : ℕ) (b : List ℕ) → sets l (reach (length l + 1) at n) b ≡ sets l (at + n) b
sets_reach l at n b =
    elim (dec_le (at + n) (length l + 1)) [
      | yes h ↦ rw (reach_fits (length l + 1) at n h)
      | no h ↦
          elim (dec_le (length l + 1) at) [
            | yes k ↦ rw (reach_past (length l + 1) at n k) (sets_out l at b (omega arith) ∙ sym (sets_out l (at + n) b (omega arith)))
            | no k ↦ rw (reach_over (length l + 1) at n (omega arith) (omega arith)) (sets_out l (length l + 1) b (omega arith) ∙ sym (sets_out l (at + n) b (omega arith)))
          ]
    ]

-- ---- pieces

-- the output is as long as it was
bytes_length : (write : Bool) (out : List ℕ) (at : ℕ) (text : List ℕ) → length (cond write (sets out at text) out) ≡ length out
bytes_length true out at text = length-sets out at text
bytes_length false out at text = refl

pub put_length : {write : Bool} {out : List ℕ} {at : ℕ} {text : List ℕ} {r : ℕ} {out' : List ℕ} → Put write out at text r out' → length out' ≡ length out
put_length {write} {out} {at} {text} p = rw p.bytes (bytes_length write out at text)

none_changed : (write : Bool) (out : List ℕ) → out ≡ cond write out out
none_changed true out = refl
none_changed false out = refl

pub put_none : (write : Bool) (out : List ℕ) (at : ℕ) → Put write out at [] at out
put_none write out at = record { end = sym (reach_none (length out + 1) at); bytes = none_changed write out }

-- the second piece stands behind the first
both_there : (write : Bool) (out : List ℕ) (at : ℕ) (a : List ℕ) (r : ℕ) (b : List ℕ) → r ≡ reach (length out + 1) at (length a)
    → cond write (sets (cond write (sets out at a) out) r b) (cond write (sets out at a) out) ≡ cond write (sets out at (a ++ b)) out
both_there false out at a r b e = refl
both_there true out at a r b e =
    let l : length out ≡ length (sets out at a) = sym (length-sets out at a) in
    let f : r ≡ reach (length (sets out at a) + 1) at (length a) = e ∙ ap (λ (k : ℕ). reach (k + 1) at (length a)) l in
    rw (f, sets_reach (sets out at a) at (length a) b) (sets_append out at a b)

pub put_then : {write : Bool} {out : List ℕ} {at : ℕ} {a b : List ℕ} {r : ℕ} {mid : List ℕ} {r' : ℕ} {out' : List ℕ}
    → Put write out at a r mid → Put write mid r b r' out' → Put write out at (a ++ b) r' out'
put_then {write} {out} {at} {a} {b} {r} {mid} {r'} {out'} p q =
    let l : length mid ≡ length out = put_length p in
    let far : reach (length mid + 1) r (length b) ≡ reach (length out + 1) at (length (a ++ b))
    = rw (l, p.end, length-append a b) (reach_reach (length out + 1) at (length a) (length b)) in
    record { end = q.end ∙ far; bytes = q.bytes ∙ rw p.bytes (both_there write out at a r b p.end) }

-- ---- a byte: past the end, behind the last place, and with a place

module _ (out : List ℕ) (at b : ℕ) where
  left_out : (write : Bool) → length out ≤ at → out ≡ cond write (set out at b) out
  left_out true h = sym (set_out out at b h)
  left_out false h = refl

  pub put_past : (write : Bool) → length out < at → Put write out at (b ∷ []) at out
  put_past write h = record { end = sym (reach_past (length out + 1) at 1 (omega arith)); bytes = left_out write (omega arith) }

  pub put_over : (write : Bool) → at ≡ length out → Put write out at (b ∷ []) (at + 1) out
  put_over write h = record { end = sym (reach_fits (length out + 1) at 1 (omega arith)); bytes = left_out write (omega arith) }

  pub put_measured : (write : Bool) → write ≡ false → at ≤ length out → Put write out at (b ∷ []) (at + 1) out
  put_measured write w h = record { end = sym (reach_fits (length out + 1) at 1 (omega arith)); bytes = rw w }

  pub put_placed : (write : Bool) → write ≡ true → at < length out → Put write out at (b ∷ []) (at + 1) (set out at b)
  put_placed write w h = record { end = sym (reach_fits (length out + 1) at 1 (omega arith)); bytes = rw w }

-- ---- pages

pub adds_none : (p : Page) → Adds p [] p
adds_none p = record { put = put_none p.write p.out.now p.at; write = refl; out = refl }

pub adds_then : {p q r : Page} {a b : List ℕ} → Adds p a q → Adds q b r → Adds p (a ++ b) r
adds_then {p} {q} {r} {a} {b} f g =
    let there : Put p.write q.out.now q.at b r.at r.out.now = rw f.write at g.put in
    record { put = put_then f.put there; write = g.write ∙ f.write; out = g.out ∙ f.out }

-- ---- a text at the start: what its measure says, and what it leaves

module _ (out text : List ℕ) (end : ℕ) (out₁ : List ℕ) (write : Bool) (measured : Put write out 0 text end out₁) (quiet : write ≡ false) where
  kept : out₁ ≡ out
  kept = measured.bytes ∙ rw quiet

  measure : (length text ≤ length out → end ≡ length text) × (length out < length text → end ≡ length out + 1)
  measure = (
    λ h. measured.end ∙ reach_fits (length out + 1) 0 (length text) (omega arith) ∙ omega arith,
    λ h. measured.end ∙ reach_over (length out + 1) 0 (length text) (omega arith) (omega arith),
  )

  pub text_short : length out < end → (Err OutputTooShort ≡ put_of out 0 text) × (out₁ ≡ put_bytes out 0 text)
  text_short h =
      rw kept
      (elim (dec_le (length text) (length out)) [
        | yes k ↦ let n = measure.0 k in absurd (omega arith)
        | no k ↦ put_short out 0 text (omega arith)
      ])

  pub text_fits : end ≤ length out → (e : ℕ) (out₂ : List ℕ) → Put true out₁ 0 text e out₂ → (Ok end ≡ put_of out 0 text) × (out₂ ≡ put_bytes out 0 text)
  text_fits h e out₂ p =
      elim (dec_le (length text) (length out)) [
        | yes k ↦
            let f = put_fits out 0 text (omega arith) in
            (rw (measure.0 k) f.0, p.bytes ∙ rw kept (put_sets out 0 text (omega arith)) ∙ f.1)
        | no k ↦ let n = measure.1 (lt_of_not-le k) in absurd (omega arith)
      ]

-- ---- lines

-- one number more
pub fields_more : (ns : List ℕ) (i : ℕ) → i < length ns → fields_of (take (suc i) ns) ≡ fields_of (take i ns) ++ (32 ∷ decimal_of (get_or ns i 0))
fields_more [] i h = absurd (omega arith)
fields_more (n ∷ ns) zero h = append-nil (32 ∷ decimal_of n)
fields_more (n ∷ ns) (suc i) h =
    ap (λ (l : List ℕ). (32 ∷ decimal_of n) ++ l) (fields_more ns i (omega arith)) ∙ sym (append_assoc (32 ∷ decimal_of n) (fields_of (take i ns)) (32 ∷ decimal_of (get_or ns i 0)))

pub line_end : (word ns : List ℕ) (i : ℕ) → i ≡ length ns → word ++ (fields_of (take i ns) ++ (10 ∷ [])) ≡ line_of word ns
unfolding line_of
line_end word ns i e = rw (e, take-length ns)
