-- Going on minute by minute, every minute of the week is reached from every other before the week is round.
use Prim.Native.Nat.{ℕ, zero, suc, ◌+◌, ◌*◌, ◌-◌, ◌≤◌, ◌<◌}
use mathlib.Core.Path.{◌≡◌, refl, ap, ◌∙◌}
use mathlib.Core.Bool.{Bool, true, false, cond}
use native.Mathlib.Omega.{arith}
use borrow.Author.Tests.{eqb-true, eqb-false, ltb-false, ltb-true}
use lib.Dec.{eqb, ltb}
use Rattle.hours.specs.Windows.{week_minutes}
use Rattle.hours.specs.Week.{minute_after}
use Rattle.hours.specs.Promises.{later}

-- a minute of the week, and its place in it
abbrev pub OfWeek : ℕ × ℕ → Type 0
OfWeek t = (t.0 ≤ 6) × (t.1 ≤ 1439)

abbrev pub place : ℕ × ℕ → ℕ
place t = 1440 * t.0 + t.1

-- a place belongs to one minute
same_place : (t u : ℕ × ℕ) → OfWeek t → OfWeek u → place t ≡ place u → t ≡ u
same_place t u p q e =
    let days : t.0 ≡ u.0 = omega (arith, p.1, q.1) in
    let minutes : t.1 ≡ u.1 = omega (arith, days) in
    λ i. (days i, minutes i)

pub record Next (t u : ℕ × ℕ) : Type 0 where
  pub of_week : OfWeek u
  pub on : place t < 10079 → place u ≡ place t + 1
  pub round : place t ≡ 10079 → place u ≡ 0

next : (t : ℕ × ℕ) → OfWeek t → Next t (minute_after t)
next t p = go (eqb t.1 1439) (eqb t.0 6) refl refl
  where
    go : (x y : Bool) → eqb t.1 1439 ≡ x → eqb t.0 6 ≡ y → Next t (cond x (cond y 0 (t.0 + 1), 0) (t.0, t.1 + 1))
    go true true e f =
        let a = eqb-true t.1 1439 e in
        let b = eqb-true t.0 6 f in
        record { of_week = (omega arith, omega arith); on = λ h. absurd (omega (arith, h, a, b)); round = λ h. refl }
    go true false e f =
        let a = eqb-true t.1 1439 e in
        let b : t.0 < 6 = omega (arith, p.0, eqb-false t.0 6 f) in
        record { of_week = (omega (arith, b), omega arith); on = λ h. omega (arith, a); round = λ h. absurd (omega (arith, h, a, b)) }
    go false y e f =
        let a : t.1 < 1439 = omega (arith, p.1, eqb-false t.1 1439 e) in
        record { of_week = (p.0, omega (arith, a)); on = λ h. omega arith; round = λ h. absurd (omega (arith, h, a, p.0)) }

-- within the week a step further is a place further
later_on : (k : ℕ) (t : ℕ × ℕ) → OfWeek t → place t + k < 10080 → OfWeek (later k t) × (place (later k t) ≡ place t + k)
later_on zero t p h = (p, omega arith)
later_on (suc k) t p h =
    let n = next t p in
    let e = n.on (omega arith) in
    let r = later_on k (minute_after t) n.of_week (omega (arith, e, h)) in
    (r.0, omega (arith, e, r.1))

later_after : (a b : ℕ) (t : ℕ × ℕ) → later (a + suc b) t ≡ later b (minute_after (later a t))
later_after zero b t = let e : zero + suc b ≡ suc b = omega arith in ap (λ (k : ℕ). later k t) e
later_after (suc a) b t = let e : suc a + suc b ≡ suc (a + suc b) = omega arith in ap (λ (k : ℕ). later k t) e ∙ later_after a b (minute_after t)

pub record Reached (t u : ℕ × ℕ) : Type 0 where
  pub steps : ℕ
  pub within : steps < week_minutes
  pub there : later steps t ≡ u

ahead : (t u : ℕ × ℕ) → OfWeek t → OfWeek u → place t ≤ place u → Reached t u
ahead t u p q h =
    let k = place u - place t in
    let r = later_on k t p (omega (arith, q.0, q.1, h)) in
    record { steps = k; within = omega (arith, q.0, q.1); there = same_place (later k t) u r.0 q (omega (arith, r.1, h)) }

-- through the week's last minute
behind : (t u : ℕ × ℕ) → OfWeek t → OfWeek u → place u < place t → Reached t u
behind t u p q h =
    let a = 10079 - place t in
    let b = place u in
    let last = later_on a t p (omega (arith, p.0, p.1)) in
    let first = next (later a t) last.0 in
    let zeroth = first.round (omega (arith, last.1, p.0, p.1)) in
    let r = later_on b (minute_after (later a t)) first.of_week (omega (arith, zeroth, q.0, q.1)) in
    record {
      steps = a + suc b;
      within = omega (arith, h, p.0, p.1);
      there = later_after a b t ∙ same_place (later b (minute_after (later a t))) u r.0 q (omega (arith, r.1, zeroth));
    }

pub reached : (t u : ℕ × ℕ) → OfWeek t → OfWeek u → Reached t u
reached t u p q = go (ltb (place u) (place t)) refl
  where
    go : (b : Bool) → ltb (place u) (place t) ≡ b → Reached t u
    go true e = behind t u p q (ltb-true (place u) (place t) e)
    go false e = ahead t u p q (ltb-false (place u) (place t) e)
