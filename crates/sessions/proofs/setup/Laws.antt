-- A store that is cleared record by record, and what set-up accepts.
use Prim.Native.Nat.{ℕ, zero, suc, ◌+◌, ◌<◌, ◌≤◌}
use mathlib.Core.Path.{◌≡◌, refl, ap, ◌∙◌}
use mathlib.Core.Bool.{Bool, true, false, cond}
use mathlib.Core.List.{List, [], ◌∷◌, ◌++◌}
use native.Mathlib.Omega.{arith}
use borrow.Author.Tests.{leb-true}
use lib.Dec.{leb}
use Rattle.std.proofs.Common.{append_assoc}
use lib.ListN.{length, set, get_or, take, drop, replicate, length-append, length-drop, length-replicate, get_or-replicate, get_or-append}
use Rattle.sessions.specs.Need.{held_need, parts_need, lengths_need, rebuilt_need, fragments_fit, stores_fit}
use Rattle.sessions.specs.Setup.{cleared}

-- ---- one record more

module _ {A : Type 0} (x : A) where
  one_more : (n : ℕ) (store : List A) → n < length store → set (replicate n x ++ drop n store) n x ≡ replicate (suc n) x ++ drop (suc n) store
  one_more n [] h = let z : ⊥ = omega arith in absurd z
  one_more zero (y ∷ store) h = refl
  one_more (suc n) (y ∷ store) h = ap (λ (t : List A). x ∷ t) (one_more n store (omega arith))

  pub cleared_more : (n : ℕ) (store : List A) → n < length store → set (cleared n x store) n x ≡ cleared (n + 1) x store
  unfolding cleared
  cleared_more n store h = let e : suc n ≡ n + 1 = omega arith in one_more n store h ∙ ap (λ (k : ℕ). replicate k x ++ drop k store) e

  -- a part that is cleared whole
  pub cleared_part : (n : ℕ) (store : List A) → cleared n x (take n store) ++ drop n store ≡ cleared n x store
  unfolding cleared
  cleared_part n store = rw (none n store) (simp append_assoc)
    where
      none : (k : ℕ) (l : List A) → drop k (take k l) ≡ []
      none zero l = refl
      none (suc k) [] = refl
      none (suc k) (y ∷ l) = none k l

  pub cleared_length : (n : ℕ) (store : List A) → n ≤ length store → length (cleared n x store) ≡ length store
  unfolding cleared
  cleared_length n store h = rw (length-append (replicate n x) (drop n store), length-replicate n x, length-drop n store) (omega arith)

  pub cleared_at : (n : ℕ) (store : List A) (i : ℕ) (d : A) → i < n → get_or (cleared n x store) i d ≡ x
  unfolding cleared
  cleared_at n store i d h = get_or-append (replicate n x) (drop n store) d i (rw (length-replicate n x) h) ∙ get_or-replicate n i x d h

-- ---- what is accepted

-- both of two tests hold
pub both : (a b : Bool) → cond a b false ≡ true → (a ≡ true) × (b ≡ true)
both true b e = (refl, e)
both false b e = let z : ◌≡◌ {A = ℕ} 0 1 = cc in absurd (omega arith)

module _ (sessions streams objects held parts lengths rebuilt max : ℕ) where
  pub record Long : Type 0 where
    pub clients : max ≤ 255
    pub sessions_long : 256 ≤ sessions
    pub streams_long : 2048 ≤ streams
    pub objects_long : 8192 ≤ objects
    pub held_long : held_need max ≤ held
    pub parts_long : parts_need max ≤ parts
    pub lengths_long : lengths_need max ≤ lengths
    pub rebuilt_long : rebuilt_need ≤ rebuilt

  pub accepts : stores_fit sessions streams objects held parts lengths rebuilt max ≡ true → Long
  unfolding stores_fit
  accepts e =
      let a = both (leb max 255) _ e in
      let b = both (leb 256 sessions) _ a.1 in
      let c = both (leb 2048 streams) _ b.1 in
      let d = both (leb 8192 objects) _ c.1 in
      let f = both (leb (held_need max) held) (fragments_fit parts lengths rebuilt max) d.1 in
      let g = both (leb (parts_need max) parts) _ f.1 in
      let h = both (leb (lengths_need max) lengths) (leb rebuilt_need rebuilt) g.1 in
      record {
        clients = leb-true max 255 a.0;
        sessions_long = leb-true 256 sessions b.0;
        streams_long = leb-true 2048 streams c.0;
        objects_long = leb-true 8192 objects d.0;
        held_long = leb-true (held_need max) held f.0;
        parts_long = leb-true (parts_need max) parts g.0;
        lengths_long = leb-true (lengths_need max) lengths h.0;
        rebuilt_long = leb-true rebuilt_need rebuilt h.1;
      }
