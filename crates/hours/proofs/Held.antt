-- A minute is open exactly if some window of its day holds it, and none is outside the week if set-up takes the windows.
use Prim.Native.Nat.{ℕ, ◌≤◌, ◌<◌}
use mathlib.Core.Path.{◌≡◌, refl, sym, ap, ◌∙◌, subst}
use mathlib.Core.Bool.{Bool, true, false, cond}
use mathlib.Core.Logic.{◌⊎◌, inl, inr}
use mathlib.Core.List.Memᴰ
use mathlib.Core.List.{List, [], ◌∷◌, ◌++◌, Memᴰ}
use native.Mathlib.Omega.{arith}
use borrow.Author.Tests.{eqb-true, leb-true, ltb-true, eq-eqb, le-leb, lt-ltb, ltb-false, leb-false, le-ltb}
use lib.Dec.{eqb, leb, ltb}
use Rattle.hours.specs.Windows.{Window, holds, is_open, behind_all, of_day, fits, all_fit_behind}
use Rattle.hours.specs.Week.{is_minute}
use Rattle.hours.specs.Promises.{HeldBy}
use Rattle.std.proofs.lemmas.Bool.{false≢true}

-- ---- of one window

pub record Holds (w : Window) (day minute : ℕ) : Type 0 where
  pub its_day : w.day ≡ day
  pub begun : w.from ≤ minute
  pub not_over_lem : minute < w.to

module _ (w : Window) (day minute : ℕ) where
  pub holds_so : holds w day minute ≡ true → Holds w day minute
  holds_so e = go (eqb w.day day) (leb w.from minute) refl refl e
    where
      go : (x y : Bool) → eqb w.day day ≡ x → leb w.from minute ≡ y → cond x (cond y (ltb minute w.to) false) false ≡ true → Holds w day minute
      go true true p q r = record { its_day = eqb-true w.day day p; begun = leb-true w.from minute q; not_over_lem = ltb-true minute w.to r }
      go true false p q r = absurd (false≢true r)
      go false y p q r = absurd (false≢true r)

  pub so_holds : Holds w day minute → holds w day minute ≡ true
  so_holds h = rw (eq-eqb w.day day h.its_day, le-leb w.from minute h.begun) (lt-ltb minute w.to h.not_over_lem)

-- ---- of all

pub open_held : (ws : List Window) (day minute : ℕ) → is_open ws day minute ≡ true → HeldBy ws day minute
unfolding is_open
open_held [] day minute e = absurd (false≢true e)
open_held (w ∷ ws) day minute e = go (holds w day minute) refl e (λ f. open_held ws day minute f)
  where
    go : (b : Bool) → holds w day minute ≡ b → cond b true (is_open ws day minute) ≡ true → (is_open ws day minute ≡ true → HeldBy ws day minute) → HeldBy (w ∷ ws) day minute
    go true h e r =
        let s = holds_so w day minute h in
        record { window = w; among = Memᴰ.head refl; of_that_day = s.its_day; begun = s.begun; not_over = s.not_over_lem }
    go false h e r =
        let s = r e in
        record { window = s.window; among = Memᴰ.tail s.among; of_that_day = s.of_that_day; begun = s.begun; not_over = s.not_over }

-- a window of the list that holds the minute
held_open_at : (ws : List Window) (w : Window) (day minute : ℕ) → Memᴰ w ws → holds w day minute ≡ true → is_open ws day minute ≡ true
unfolding is_open
held_open_at [] w day minute m h = absurd (Memᴰ.not-nil m)
held_open_at (v ∷ ws) w day minute m h = go (Memᴰ.cases_cons m) (λ n. held_open_at ws w day minute n h)
  where
    if_later : (b : Bool) → is_open ws day minute ≡ true → cond b true (is_open ws day minute) ≡ true
    if_later true e = refl
    if_later false e = e

    go : (w ≡ v) ⊎ Memᴰ w ws → (Memᴰ w ws → is_open ws day minute ≡ true) → cond (holds v day minute) true (is_open ws day minute) ≡ true
    go (inl e) r = ap (λ (b : Bool). cond b true (is_open ws day minute)) (subst (λ (u : Window). holds u day minute ≡ true) e h)
    go (inr n) r = if_later (holds v day minute) (r n)

pub held_open : (ws : List Window) (day minute : ℕ) → HeldBy ws day minute → is_open ws day minute ≡ true
held_open ws day minute h =
    held_open_at ws h.window day minute h.among (so_holds h.window day minute (record { its_day = h.of_that_day; begun = h.begun; not_over_lem = h.not_over }))

-- ---- windows that set-up takes

-- a window within a day of the week, and not empty
pub record Placed (w : Window) : Type 0 where
  pub of_week : w.day ≤ 6
  pub some_minute : w.from < w.to
  pub of_day_lem : w.to ≤ 1440

pub fits_placed : (before : List Window) (w : Window) → fits before w ≡ true → Placed w
fits_placed before w e = go (ltb 6 w.day) (leb w.to w.from) (ltb 1440 w.to) refl refl refl e
  where
    go : (x y z : Bool) → ltb 6 w.day ≡ x → leb w.to w.from ≡ y → ltb 1440 w.to ≡ z
        → cond x false (cond y false (cond z false (cond (behind_all before w.day w.from) (ltb (of_day before w.day) 8) false))) ≡ true → Placed w
    go true y z p q r e = absurd (false≢true e)
    go false true z p q r e = absurd (false≢true e)
    go false false true p q r e = absurd (false≢true e)
    go false false false p q r e = record { of_week = ltb-false 6 w.day p; some_minute = leb-false w.to w.from q; of_day_lem = ltb-false 1440 w.to r }

both : (a b : Bool) → cond a b false ≡ true → (a ≡ true) × (b ≡ true)
both true b e = (refl, e)
both false b e = absurd (false≢true e)

pub first_placed : (before : List Window) (w : Window) (ws : List Window) → all_fit_behind before (w ∷ ws) ≡ true → Placed w × (all_fit_behind (before ++ (w ∷ [])) ws ≡ true)
unfolding all_fit_behind
first_placed before w ws e =
    let s = both (fits before w) (all_fit_behind (before ++ (w ∷ [])) ws) e in
    (fits_placed before w s.0, s.1)

-- a window of the week holds minutes of the week only
pub placed_holds : (w : Window) (day minute : ℕ) → Placed w → holds w day minute ≡ true → is_minute day minute ≡ true
placed_holds w day minute p h =
    let s = holds_so w day minute h in
    rw (le-ltb 6 day (omega (arith, s.its_day, p.of_week))) (le-leb minute 1439 (omega (arith, s.not_over_lem, p.of_day_lem)))

pub none_outside : (before ws : List Window) (day minute : ℕ) → all_fit_behind before ws ≡ true → is_minute day minute ≡ false → is_open ws day minute ≡ false
unfolding is_open
none_outside before [] day minute e o = refl
none_outside before (w ∷ ws) day minute e o =
    let s = first_placed before w ws e in
    go (holds w day minute) refl (none_outside (before ++ (w ∷ [])) ws day minute s.1 o)
  where
    go : (b : Bool) → holds w day minute ≡ b → is_open ws day minute ≡ false → cond b true (is_open ws day minute) ≡ false
    go true h r = absurd (false≢true (sym o ∙ placed_holds w day minute (first_placed before w ws e).0 h))
    go false h r = r
