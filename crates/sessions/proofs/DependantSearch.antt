-- The search for a dependant, record by record in a row.
use Rattle.std.proofs.Common.{ℕ, ◌≡◌, refl, Bool, true, false, cond, List, [], ◌∷◌, map, take}
use mathlib.Core.Bool.{◌||◌, true≢false}
use lib.Dec.{eqb}
use Rattle.std.specs.List.{list_any}
use Rattle.sessions.specs.View.{Entry, entry_of, listed}
use Rattle.sessions.specs.Dependants.{depends_on, dependant_in}
use Rattle.sessions.specs.Removal.{is_above}
use Rattle.sessions.specs.declared.objects.Object.{Object}

-- a kind that nothing depends on
pub leaf : (es : List Entry) (x : Entry) → is_above x.kind ≡ false → dependant_in es x ≡ false
leaf [] x e = refl
leaf (y ∷ es) x e = by (eqb x.kind 1) (eqb x.kind 2) (eqb y.parent x.number) e (leaf es x e)
  where
    by : (b c d : Bool) → cond b true c ≡ false → dependant_in es x ≡ false
        → cond (cond d (cond b (eqb y.kind 2) (cond c (cond (eqb y.kind 5) true (eqb y.kind 6)) false)) false) true (dependant_in es x) ≡ false
    by true c d e r = absurd (true≢false e)
    by false true d e r = absurd (true≢false e)
    by false false true e r = r
    by false false false e r = r

-- the dependant is one of the records in use
pub any_listed : (row : List Object) (used : ℕ) (e : Entry) → dependant_in (listed used row) e ≡ list_any (λ x. depends_on (entry_of x) e) (take used row)
unfolding listed
any_listed row used e = go (take used row)
  where
    go : (xs : List Object) → dependant_in (map entry_of xs) e ≡ list_any (λ x. depends_on (entry_of x) e) xs
    go [] = refl
    go (x ∷ xs) = rw (go xs) (by (depends_on (entry_of x) e) (list_any (λ y. depends_on (entry_of y) e) xs))
      where
        by : (b d : Bool) → cond b true d ≡ (b || d)
        by true d = refl
        by false d = refl
