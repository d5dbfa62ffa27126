-- One element of a list is stored, and what a part of the list shows of it.
use Prim.Native.Nat.{ℕ, zero, suc, ◌+◌, ◌-◌, ◌<◌, ◌≤◌}
use mathlib.Core.Path.{◌≡◌, refl, ap, ◌∙◌}
use mathlib.Core.List.{List, [], ◌∷◌, map}
use native.Mathlib.Omega.{arith}
use lib.ListN.{take, drop, set}
use lib.Seq.{drop-set-add, drop-set-lt, take-set-lt, take-set-le}

module _ {A : Type 0} (l : List A) (a w k : ℕ) (x : A) where
  -- behind or before the part, nothing of it changes
  pub part_below : k < a → take w (drop a (set l k x)) ≡ take w (drop a l)
  part_below h = ap (take w) (drop-set-lt a l k x h)

  pub part_above : a + w ≤ k → take w (drop a (set l k x)) ≡ take w (drop a l)
  part_above h =
      let e : k ≡ a + (k - a) = omega arith in
      ap (λ (j : ℕ). take w (drop a (set l j x))) e ∙ ap (take w) (drop-set-add a l (k - a) x) ∙ take-set-le w (drop a l) (k - a) x (omega arith)

  -- within it, its own element does
  pub part_within : k < w → take w (drop a (set l (a + k) x)) ≡ set (take w (drop a l)) k x
  part_within h = ap (take w) (drop-set-add a l k x) ∙ take-set-lt w (drop a l) k x h

pub map_set : {A B : Type 0} (f : A → B) (l : List A) (i : ℕ) (x : A) → map f (set l i x) ≡ set (map f l) i (f x)
map_set f [] i x = refl
map_set f (y ∷ l) zero x = refl
map_set f (y ∷ l) (suc i) x = ap (λ (t : List _). f y ∷ t) (map_set f l i x)

pub map_take : {A B : Type 0} (f : A → B) (n : ℕ) (l : List A) → map f (take n l) ≡ take n (map f l)
map_take f zero l = refl
map_take f (suc n) [] = refl
map_take f (suc n) (y ∷ l) = ap (λ (t : List _). f y ∷ t) (map_take f n l)
