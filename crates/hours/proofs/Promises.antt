-- The promises of `specs/Promises.antt`, proved.
use Rattle.std.specs.Prelude.{None}
use Prim.Native.Nat.{ℕ, ◌≤◌}
use mathlib.Core.Path.{◌≡◌, refl, sym, ◌∙◌, subst}
use mathlib.Core.Bool.{true, false}
use mathlib.Core.List.Memᴰ
use mathlib.Core.List.{List, [], ◌∷◌}
use native.Mathlib.Omega.{arith}
use lib.ListN.{length}
use Rattle.hours.specs.Windows.{Window, week_minutes, is_open, all_fit}
use Rattle.hours.specs.Week.{is_minute, kept_hours, open_in, first_open}
use Rattle.hours.specs.Promises.{OpenExactly, KeepsWindows, FirstOpenRight, NeverExactly}
use Rattle.std.proofs.lemmas.Bool.{false≢true}
use Rattle.hours.proofs.week.Laws.{is_minute_lem}
use Rattle.hours.proofs.Held.{open_held, held_open, first_placed}
use Rattle.hours.proofs.Kept.{keeps}
use Rattle.hours.proofs.Search.{first_of, none_of, all_closed}
use Rattle.hours.proofs.Round.{reached}

pub open_exactly : OpenExactly
open_exactly ws day minute = (open_held ws day minute, held_open ws day minute)

pub keeps_windows : KeepsWindows
keeps_windows = keeps

-- the same as one equation of functions, for whoever looks minutes up in the store
pub opens_same : (ws : List Window) (hours : List ℕ) → all_fit ws ≡ true → week_minutes ≤ length hours → open_in (kept_hours ws hours) ≡ is_open ws
opens_same ws hours f l = λ i day minute. keeps ws hours f l day minute i

pub first_open_right : FirstOpenRight
first_open_right opens day minute u e =
    let f = first_of opens (day, minute) week_minutes u e in
    record { steps = f.steps; within_week = f.soon; there = f.there; is_it = f.it; closed_before = f.closed }

-- the first window's first minute is one that the search comes to
found : (w : Window) (ws : List Window) (day minute : ℕ) → all_fit (w ∷ ws) ≡ true → is_minute day minute ≡ true → first_open (is_open (w ∷ ws)) day minute ≡ None → ⊥
found w ws day minute f m e =
    let p = (first_placed [] w ws f).0 in
    let r = reached (day, minute) (w.day, w.from) (is_minute_lem day minute m) (p.of_week, omega (arith, p.some_minute, p.of_day_lem)) in
    let shut = none_of (is_open (w ∷ ws)) (day, minute) week_minutes e r.steps r.within in
    let open' = held_open (w ∷ ws) w.day w.from (record { window = w; among = Memᴰ.head refl; of_that_day = refl; begun = omega arith; not_over = p.some_minute }) in
    false≢true (sym (subst (λ (t : ℕ × ℕ). is_open (w ∷ ws) t.0 t.1 ≡ false) r.there shut) ∙ open')

pub never_exactly : NeverExactly
unfolding is_open
never_exactly [] day minute f m = (λ e. refl, λ e. all_closed (is_open []) (λ d k. refl) (day, minute) week_minutes)
never_exactly (w ∷ ws) day minute f m = (λ e. absurd (found w ws day minute f m e), λ e. absurd (let z : ◌≡◌ {A = ℕ} 0 1 = cc in omega arith))
