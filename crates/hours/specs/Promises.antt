-- What is promised of quiet hours, as statements; `proofs/Promises.antt` proves each.
use Rattle.std.specs.Prelude.{ℕ, zero, suc, ◌≤◌, ◌<◌, ◌≡◌, Bool, true, false, length, Option, None, Some}
use mathlib.Core.List.{List, [], Memᴰ}
use Rattle.hours.specs.Windows.{Window, week_minutes, is_open, all_fit}
use Rattle.hours.specs.Week.{is_minute, kept_hours, open_in, minute_after, first_open}

-- some window of that day holds the minute: "480 is open and 1,320 closed"
pub record HeldBy (ws : List Window) (day minute : ℕ) : Type 0 where
  pub window : Window
  pub among : Memᴰ window ws
  pub of_that_day : window.day ≡ day
  pub begun : window.from ≤ minute
  pub not_over : minute < window.to

-- a minute is open exactly if some window of its day holds it
abbrev pub OpenExactly : Type 0
OpenExactly = (ws : List Window) (day minute : ℕ) → (is_open ws day minute ≡ true → HeldBy ws day minute) × (HeldBy ws day minute → is_open ws day minute ≡ true)

-- what set-up keeps of windows that it takes says of every minute what they say
abbrev pub KeepsWindows : Type 0
KeepsWindows =
    (ws : List Window) (hours : List ℕ) → all_fit ws ≡ true → week_minutes ≤ length hours → (day minute : ℕ)
    → open_in (kept_hours ws hours) day minute ≡ is_open ws day minute

-- the minute k minutes later, round the week
abbrev pub later : ℕ → ℕ × ℕ → ℕ × ℕ
later zero t = t
later (suc k) t = later k (minute_after t)

-- u is the first open minute at or after t: it is open, so many minutes later, and none between is
pub record First (opens : ℕ → ℕ → Bool) (t u : ℕ × ℕ) : Type 0 where
  pub steps : ℕ
  pub within_week : steps < week_minutes
  pub there : later steps t ≡ u
  pub is_it : opens u.0 u.1 ≡ true
  pub closed_before : (j : ℕ) → j < steps → opens (later j t).0 (later j t).1 ≡ false

abbrev pub FirstOpenRight : Type 0
FirstOpenRight = (opens : ℕ → ℕ → Bool) (day minute : ℕ) (u : ℕ × ℕ) → first_open opens day minute ≡ Some u → First opens (day, minute) u

-- "none exactly if no day has a window", of windows that set-up takes
abbrev pub NeverExactly : Type 0
NeverExactly =
    (ws : List Window) (day minute : ℕ) → all_fit ws ≡ true → is_minute day minute ≡ true
    → (first_open (is_open ws) day minute ≡ None → ws ≡ []) × (ws ≡ [] → first_open (is_open ws) day minute ≡ None)
