-- Laws of the records of a session.
use Prim.Native.Nat.{ℕ, ◌≤◌}
use mathlib.Core.Path.{◌≡◌, refl}
use mathlib.Core.List.{List}
use native.Mathlib.Omega.{arith}
use mathlib.Core.Bool.{Bool, true, false, cond}
use lib.Dec.{leb}
use borrow.Author.Tests.{le-leb, leb-true}
use lib.ListN.{length}
use Rattle.codec.specs.declared.refusals.Refusal.TheVariants.{OverLimit}
use Rattle.sessions.specs.Table.{is_free, named_of, records_fit, reached_of}
use Rattle.std.specs.Prelude.{Err, Ok}

module _ (rows : List (List ℕ)) (id used most store need : ℕ) where
  pub reach_named : need ≤ store → used ≤ most → named_of rows id ≡ reached_of rows id used most store need
  unfolding reached_of records_fit
  reach_named enough h = rw (le-leb need store enough, le-leb used most h)

  -- what is reached lies within its limits
  pub record Fits : Type 0 where
    pub rows_long : 256 ≤ length rows
    pub store_long : need ≤ store
    pub count : used ≤ most
    pub live : is_free rows id ≡ false

  pub live_fits : reached_of rows id used most store need ≡ (Ok true) → Fits
  unfolding reached_of records_fit named_of
  live_fits e = go (leb need store) (leb used most) (leb 256 (length rows)) (is_free rows id) refl refl refl refl e
    where
      go : (a b d f : Bool) → leb need store ≡ a → leb used most ≡ b → leb 256 (length rows) ≡ d → is_free rows id ≡ f
          → cond (cond a b false) (cond d (cond f (Ok false) (Ok true)) (Err OverLimit)) (Err OverLimit) ≡ (Ok true) → Fits
      go true true true false p q r s z = record { rows_long = leb-true 256 (length rows) r; store_long = leb-true need store p; count = leb-true used most q; live = s }
      go true true true true p q r s z = let n : ◌≡◌ {A = ℕ} 0 1 = cc in absurd (omega arith)
      go true true false f p q r s z = let n : ◌≡◌ {A = ℕ} 0 1 = cc in absurd (omega arith)
      go true false d f p q r s z = let n : ◌≡◌ {A = ℕ} 0 1 = cc in absurd (omega arith)
      go false b d f p q r s z = let n : ◌≡◌ {A = ℕ} 0 1 = cc in absurd (omega arith)

  pub free_named : reached_of rows id used most store need ≡ (Ok false) → is_free rows id ≡ true
  unfolding reached_of records_fit named_of
  free_named e = go (cond (leb need store) (leb used most) false) (leb 256 (length rows)) (is_free rows id) refl e
    where
      go : (a b f : Bool) → is_free rows id ≡ f → cond a (cond b (cond f (Ok false) (Ok true)) (Err OverLimit)) (Err OverLimit) ≡ (Ok false) → is_free rows id ≡ true
      go true true true s z = s
      go true true false s z = let n : ◌≡◌ {A = ℕ} 0 1 = cc in absurd (omega arith)
      go true false f s z = let n : ◌≡◌ {A = ℕ} 0 1 = cc in absurd (omega arith)
      go false b f s z = let n : ◌≡◌ {A = ℕ} 0 1 = cc in absurd (omega arith)
