-- The reader of bytes accepts exactly RFC 3629's text.
use Prim.Native.Nat.{ℕ, suc, ◌≤◌}
use mathlib.Core.Path.{◌≡◌, refl, sym, ◌∙◌, ap, subst}
use mathlib.Core.Bool.{Bool, true, false, cond}
use mathlib.Core.List.{List, [], ◌∷◌, ◌++◌}
use mathlib.Core.Logic.{inl, inr}
use native.Mathlib.Omega.{arith}
use Rattle.codec.specs.Text.{Range, Row, table, Within, Fits, Character, IsText, empty, next, in_range, never, behind_first, well_from, well_formed}
use Rattle.codec.proofs.text.Laws.{in_range_lem, above_range, range_true, false_true, Apart, table_apart}
use Rattle.codec.proofs.text.Fits.{never_well}

-- ---- what is accepted is text

-- a first byte, and what fits behind it, are a character
behind_char : (rows : List Row) (b : ℕ) (c : List ℕ) → Fits (behind_first rows b) c → Character rows (b ∷ c)
behind_char [] b [] f = f
behind_char [] b (x ∷ c) f = omega (arith, f.0.0, f.0.1)
behind_char (r ∷ rows) b c f = by (in_range r.first b) refl f (behind_char rows b c)
  where
    by : (x : Bool) → in_range r.first b ≡ x → Fits (cond x r.rest (behind_first rows b)) c → (Fits (behind_first rows b) c → Character rows (b ∷ c))
        → Character (r ∷ rows) (b ∷ c)
    by true e f g = inl (range_true r.first b e, f)
    by false e f g = inr (g f)

-- bytes of which the first ones are what is left of a character, and the others text
pub record Parted (rs : List Range) (s : List ℕ) : Type 0 where
  pub first : List ℕ
  pub behind : List ℕ
  pub whole : first ++ behind ≡ s
  pub fits : Fits rs first
  pub text : IsText behind

begun : (b : ℕ) (s : List ℕ) → Parted (behind_first table b) s → Parted [] (b ∷ s)
begun b s p =
    record {
      first = [];
      behind = b ∷ s;
      whole = refl;
      fits = tt;
      text = subst (λ (l : List ℕ). IsText (b ∷ l)) p.whole (next (b ∷ p.first) p.behind (behind_char table b p.first p.fits) p.text);
    }

within : (r : Range) (rs : List Range) (b : ℕ) (s : List ℕ) → Within r b → Parted rs s → Parted (r ∷ rs) (b ∷ s)
within r rs b s w p = record { first = b ∷ p.first; behind = p.behind; whole = ap (λ (l : List ℕ). b ∷ l) p.whole; fits = (w, p.fits); text = p.text }

parts : (rs : List Range) (s : List ℕ) → well_from rs s ≡ true → Parted rs s
parts [] [] e = record { first = []; behind = []; whole = refl; fits = tt; text = empty }
parts (r ∷ rs) [] e = absurd (false_true e)
parts [] (b ∷ s) e = begun b s (parts (behind_first table b) s e)
parts (r ∷ rs) (b ∷ s) e = by (in_range r b) refl e (parts rs s)
  where
    by : (x : Bool) → in_range r b ≡ x → well_from (cond x rs never) s ≡ true → (well_from rs s ≡ true → Parted rs s) → Parted (r ∷ rs) (b ∷ s)
    by true f e g = within r rs b s (range_true r b f) (g e)
    by false f e g = absurd (false_true (sym (never_well s) ∙ e))

pub well_text : (s : List ℕ) → well_formed s ≡ true → IsText s
unfolding well_formed
well_text s e = by (parts [] s e)
  where
    by : Parted [] s → IsText s
    by p = bare p.first p.whole p.fits
      where
        bare : (c : List ℕ) → c ++ p.behind ≡ s → Fits [] c → IsText s
        bare [] w f = subst IsText w p.text
        bare (b ∷ c) w f = absurd f

-- ---- text is accepted

-- a character's first byte tells its row
char_behind : (rows : List Row) (k : ℕ) → Apart k rows → (b : ℕ) (c : List ℕ) → Character rows (b ∷ c) → (k ≤ b) × Fits (behind_first rows b) c
char_behind [] k a b c h = absurd h
char_behind (r ∷ rows) k a b c (inl f) = (omega (arith, a.0.0, f.0.0), rw (in_range_lem r.first b f.0) f.1)
char_behind (r ∷ rows) k a b c (inr h) =
    let t = char_behind rows (suc r.first.to) a.1 b c h in
    (omega (arith, a.0.0, a.0.1, t.0), rw (above_range r.first b (omega (arith, t.0))) t.1)

no_char : (rows : List Row) → Character rows [] → ⊥
no_char [] h = h
no_char (r ∷ rows) (inl f) = f
no_char (r ∷ rows) (inr h) = no_char rows h

-- bytes that fit what is left of a character are passed
well_past : (rs : List Range) (c s : List ℕ) → Fits rs c → well_from rs (c ++ s) ≡ well_from [] s
well_past [] [] s f = refl
well_past [] (b ∷ c) s f = absurd f
well_past (r ∷ rs) [] s f = absurd f
well_past (r ∷ rs) (b ∷ c) s f = ap (λ (x : Bool). well_from (cond x rs never) (c ++ s)) (in_range_lem r b f.0) ∙ well_past rs c s f.1

char_past : (c s : List ℕ) → Character table c → well_from [] (c ++ s) ≡ well_from [] s
char_past [] s h = absurd (no_char table h)
char_past (b ∷ c) s h = well_past (behind_first table b) c s (char_behind table 0 table_apart b c h).1

text_from : (s : List ℕ) → IsText s → well_from [] s ≡ true
text_from s empty = refl
text_from s (next c behind h t) = char_past c behind h ∙ text_from behind t

pub text_well : (s : List ℕ) → IsText s → well_formed s ≡ true
unfolding well_formed
text_well s t = text_from s t
