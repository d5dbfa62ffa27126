-- The definitions of W8's windows, a window further along the rows that the host lends.
use Prim.Native.Nat.{ℕ, ◌+◌, ◌<◌}
use mathlib.Core.Path.{◌≡◌, refl, sym, ap, ◌∙◌}
use mathlib.Core.Bool.{Bool, true, false, cond, not, ◌||◌}
use mathlib.Core.List.{List, [], ◌∷◌, ◌++◌, map-append}
use lib.Dec.{eqb, ltb}
use lib.ListN.{length, get_or, take, drop}
use lib.Seq.{drop-cons, take-suc}
use Rattle.std.proofs.Common.{add-one}
use Rattle.std.proofs.lemmas.List.Recursion.{is_sum_by}
use Rattle.std.specs.List.{list_any, count_by}
use Rattle.hours.specs.Windows.{Window, window_of, windows_of, holds, is_open, behind_all, of_day, fits, all_fit_behind}

-- ---- a chain over the rows says what the definition says of the windows

pub any_open : (rows : List (List ℕ)) (day minute : ℕ) → list_any (λ row. holds (window_of row) day minute) rows ≡ is_open (windows_of rows) day minute
unfolding is_open
any_open [] day minute = refl
any_open (row ∷ rows) day minute = rw (← any_open rows day minute) (or_cond (holds (window_of row) day minute) _)
  where
    or_cond : (x y : Bool) → (x || y) ≡ cond x true y
    or_cond true y = refl
    or_cond false y = refl

module _ (day from : ℕ) where
  abbrev pub late : List ℕ → Bool
  late row = cond (eqb (window_of row).day day) (ltb from (window_of row).to) false

  pub none_late : (rows : List (List ℕ)) → not (list_any late rows) ≡ behind_all (windows_of rows) day from
  unfolding behind_all
  none_late [] = refl
  none_late (row ∷ rows) = rw (← none_late rows) (passed_over (eqb (window_of row).day day) (ltb from (window_of row).to) (list_any late rows))
    where
      -- a window of another weekday, or one that ends in time, is passed over
      passed_over : (x y r : Bool) → not (cond x y false || r) ≡ cond x (cond y false (not r)) (not r)
      passed_over true true r = refl
      passed_over true false r = refl
      passed_over false y r = refl

pub count_of_day : (rows : List (List ℕ)) (day : ℕ) → of_day (windows_of rows) day ≡ count_by (λ row. eqb (window_of row).day day) rows
unfolding of_day
count_of_day rows day = is_sum_by (λ rows. of_day (windows_of rows) day) (λ row. cond (eqb (window_of row).day day) 1 0) refl (λ _ _. refl) rows

-- ---- whether all windows fit

module _ (rows : List (List ℕ)) (i : ℕ) (h : i < length rows) where
  here : drop i rows ≡ get_or rows i [] ∷ drop (i + 1) rows
  here = rw (add-one i) (drop-cons rows i [] h)

  windows_more : windows_of (take (i + 1) rows) ≡ windows_of (take i rows) ++ (window_of (get_or rows i []) ∷ [])
  windows_more = rw (add-one i, take-suc rows i [] h) (map-append window_of (take i rows) (get_or rows i [] ∷ []))

  pub fit_by : (b : Bool) → fits (windows_of (take i rows)) (window_of (get_or rows i [])) ≡ b
      → all_fit_behind (windows_of (take i rows)) (windows_of (drop i rows)) ≡ cond b (all_fit_behind (windows_of (take (i + 1) rows)) (windows_of (drop (i + 1) rows))) false
  unfolding all_fit_behind
  fit_by b e =
      ap (λ (l : List (List ℕ)). all_fit_behind (windows_of (take i rows)) (windows_of l)) here
      ∙ ap (λ (x : Bool). cond x (all_fit_behind (windows_of (take i rows) ++ (window_of (get_or rows i []) ∷ [])) (windows_of (drop (i + 1) rows))) false) e
      ∙ ap (λ (ws : List Window). cond b (all_fit_behind ws (windows_of (drop (i + 1) rows))) false) (sym windows_more)
