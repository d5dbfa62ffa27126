-- W8's second answer: it is open, at or after, and no open minute lies between; none only if no minute of those looked at is open.
use Rattle.std.specs.Prelude.{Option, None, Some}
use Prim.Native.Nat.{ℕ, zero, suc, ◌<◌}
use mathlib.Core.Path.{◌≡◌, refl, sym, ap, subst}
use mathlib.Core.Bool.{Bool, true, false, cond}
use native.Mathlib.Omega.{arith}
use Rattle.hours.specs.Week.{minute_after, first_open_from}
use Rattle.hours.specs.Promises.{later}

module _ (opens : ℕ → ℕ → Bool) where
  abbrev pub open_at : ℕ × ℕ → Bool
  open_at t = opens t.0 t.1

  -- among n minutes
  pub record Among (t u : ℕ × ℕ) (n : ℕ) : Type 0 where
    pub steps : ℕ
    pub soon : steps < n
    pub there : later steps t ≡ u
    pub it : open_at u ≡ true
    pub closed : (j : ℕ) → j < steps → open_at (later j t) ≡ false

  none_some : {u : ℕ × ℕ} → None ≡ Some u → ⊥
  none_some e = let z : ◌≡◌ {A = ℕ} 0 1 = cc in omega arith

  abbrev time_of : ℕ × ℕ → Option (ℕ × ℕ) → ℕ × ℕ
  time_of t None = t
  time_of t (Some u) = u

  pub first_of : (t : ℕ × ℕ) (n : ℕ) (u : ℕ × ℕ) → first_open_from opens t n ≡ Some u → Among t u n
  unfolding first_open_from
  first_of t zero u e = absurd (none_some e)
  first_of t (suc n) u e = go (open_at t) refl e (λ f. first_of (minute_after t) n u f)
    where
      go : (b : Bool) → open_at t ≡ b → cond b (Some t) (first_open_from opens (minute_after t) n) ≡ Some u
          → (first_open_from opens (minute_after t) n ≡ Some u → Among (minute_after t) u n) → Among t u (suc n)
      go true o e r =
          let z : t ≡ u = ap (time_of t) e in
          record { steps = 0; soon = omega arith; there = z; it = subst (λ (v : ℕ × ℕ). open_at v ≡ true) z o; closed = λ j h. absurd (omega (arith, h)) }
      go false o e r = record { steps = suc f.steps; soon = omega (arith, f.soon); there = f.there; it = f.it; closed = closed' }
        where
          f : Among (minute_after t) u n
          f = r e

          closed' : (j : ℕ) → j < suc f.steps → open_at (later j t) ≡ false
          closed' zero h = o
          closed' (suc j) h = f.closed j (omega (arith, h))

  pub none_of : (t : ℕ × ℕ) (n : ℕ) → first_open_from opens t n ≡ None → (j : ℕ) → j < n → open_at (later j t) ≡ false
  unfolding first_open_from
  none_of t zero e j h = absurd (omega (arith, h))
  none_of t (suc n) e j h = go (open_at t) refl e (λ f i k. none_of (minute_after t) n f i k) j h
    where
      go : (b : Bool) → open_at t ≡ b → cond b (Some t) (first_open_from opens (minute_after t) n) ≡ None
          → (first_open_from opens (minute_after t) n ≡ None → (i : ℕ) → i < n → open_at (later i (minute_after t)) ≡ false) → (j : ℕ) → j < suc n → open_at (later j t) ≡ false
      go true o e r j h = absurd (none_some (sym e))
      go false o e r zero h = o
      go false o e r (suc i) h = r e i (omega (arith, h))

  -- where nothing is open nothing is found
  pub all_closed : ((day minute : ℕ) → opens day minute ≡ false) → (t : ℕ × ℕ) (n : ℕ) → first_open_from opens t n ≡ None
  unfolding first_open_from
  all_closed c t zero = refl
  all_closed c t (suc n) = rw (c t.0 t.1) (all_closed c (minute_after t) n)
