-- Document 02, W8: the windows that set-up takes, and which minutes they open.
use Rattle.std.specs.Prelude.{ℕ, ◌+◌, ◌*◌, Bool, true, false, cond, List, [], ◌∷◌, ◌++◌, map, eqb, leb, ltb, get_or, Err, Ok, Result}
use Rattle.codec.specs.declared.refusals.Refusal.TheVariants.{OverLimit, WindowFault}
use Rattle.codec.specs.declared.refusals.Refusal.{Refusal}

-- "Each weekday, 0 to 6, has up to 8 windows in which striking is open, from and to in minutes of the day, 0 to 1,440."
pub record Window : Type 0 where
  pub day : ℕ
  pub from : ℕ
  pub to : ℕ

-- "Each weekday, 0 to 6", of 1,440 minutes
abbrev pub week_minutes : ℕ
week_minutes = 7 * 1440

-- as the host lends them: rows of three numbers
abbrev pub window_of : List ℕ → Window
window_of row = record { day = get_or row 0 0; from = get_or row 1 0; to = get_or row 2 0 }

abbrev pub windows_of : List (List ℕ) → List Window
windows_of rows = map window_of rows

-- "With 480 to 1,320, minute 480 is open and 1,320 closed."
abbrev pub holds : Window → ℕ → ℕ → Bool
holds w day minute = cond (eqb w.day day) (cond (leb w.from minute) (ltb minute w.to) false) false

-- a minute of a weekday is open if some window holds it
unfoldable pub is_open : List Window → ℕ → ℕ → Bool
is_open [] day minute = false
is_open (w ∷ ws) day minute = cond (holds w day minute) true (is_open ws day minute)

-- ---- 19: "a window empty, outside the day, overlapping, out of order or a ninth", in the order given

-- "Windows ascend and may touch.": none of the weekday's earlier windows ends behind `from`
unfoldable pub behind_all : List Window → ℕ → ℕ → Bool
behind_all [] day from = true
behind_all (e ∷ es) day from = cond (eqb e.day day) (cond (ltb from e.to) false (behind_all es day from)) (behind_all es day from)

-- how many windows a weekday has
unfoldable pub of_day : List Window → ℕ → ℕ
of_day [] day = 0
of_day (e ∷ es) day = cond (eqb e.day day) 1 0 + of_day es day

-- a window behind those before it
abbrev pub fits : List Window → Window → Bool
fits before w =
    cond (ltb 6 w.day) false
    (cond (leb w.to w.from) false
    (cond (ltb 1440 w.to) false
    (cond (behind_all before w.day w.from) (ltb (of_day before w.day) 8) false)))

-- all of them, `before` being those before them, in the order given
unfoldable pub all_fit_behind : List Window → List Window → Bool
all_fit_behind before [] = true
all_fit_behind before (w ∷ ws) = cond (fits before w) (all_fit_behind (before ++ (w ∷ [])) ws) false

abbrev pub all_fit : List Window → Bool
all_fit ws = all_fit_behind [] ws

-- "19, .. at set-up after 16": 16 here is of the store for the week's minutes, which has so many bytes
unfoldable pub checked_of : ℕ → List Window → Result (Unit {0}) Refusal
checked_of bytes ws = cond (leb week_minutes bytes) (cond (all_fit ws) (Ok tt) (Err WindowFault)) (Err OverLimit)
