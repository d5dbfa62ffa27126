-- Document 02, W8: the week's minutes, as they are kept between calls, and the first open one.
use Rattle.std.specs.Prelude.{ℕ, zero, suc, ◌+◌, ◌*◌, ◌/◌, ◌%◌, Bool, true, false, cond, not, List, [], ◌∷◌, ◌++◌, eqb, leb, ltb, get_or, drop, length, Err, None, Ok, Option, Result, Some}
use Rattle.codec.specs.declared.refusals.Refusal.TheVariants.{OverLimit, NoSuchMinute}
use Rattle.hours.specs.Windows.{Window, week_minutes, is_open}
use Rattle.codec.specs.declared.refusals.Refusal.{Refusal}

-- 20: "weekday over 6 or minute over 1,439"
abbrev pub is_minute : ℕ → ℕ → Bool
is_minute day minute = cond (ltb 6 day) false (leb minute 1439)

-- ---- a byte for each minute of the week, 1 where it is open: so that a minute is looked up by one byte, however many windows its day has

abbrev pub open_byte : Bool → ℕ
open_byte b = cond b 1 0

-- of n minutes of the week from one on
unfoldable pub minutes_from : List Window → ℕ → ℕ → List ℕ
minutes_from ws i zero = []
minutes_from ws i (suc n) = open_byte (is_open ws (i / 1440) (i % 1440)) ∷ minutes_from ws (suc i) n

-- what set-up leaves in the store; what stands behind the week stays, and so does a shorter store
unfoldable pub kept_hours : List Window → List ℕ → List ℕ
kept_hours ws hours = cond (leb week_minutes (length hours)) (minutes_from ws 0 week_minutes ++ drop week_minutes hours) hours

-- whether the store says that a minute is open; what is no minute of the week is not
unfoldable pub open_in : List ℕ → ℕ → ℕ → Bool
open_in hours day minute = cond (is_minute day minute) (not (eqb (get_or hours (1440 * day + minute) 0) 0)) false

-- ---- "A second answer gives the first open minute at or after a given one, round the week"

-- the next minute: after the last of a day comes the first of the next, and after weekday 6 comes 0
abbrev pub minute_after : ℕ × ℕ → ℕ × ℕ
minute_after t = cond (eqb t.1 1439) (cond (eqb t.0 6) 0 (t.0 + 1), 0) (t.0, t.1 + 1)

-- of n minutes from one on
unfoldable pub first_open_from : (ℕ → ℕ → Bool) → ℕ × ℕ → ℕ → Option (ℕ × ℕ)
first_open_from opens t zero = None
first_open_from opens t (suc n) = cond (opens t.0 t.1) (Some t) (first_open_from opens (minute_after t) n)

abbrev pub first_open : (ℕ → ℕ → Bool) → ℕ → ℕ → Option (ℕ × ℕ)
first_open opens day minute = first_open_from opens (day, minute) week_minutes

abbrev pub found_as : Option (ℕ × ℕ) → Result (Option (ℕ × ℕ)) Refusal
found_as None = Ok None
found_as (Some t) = Ok (Some t)

-- 16 of the store, then "20 for a bad question"
unfoldable pub first_open_of : List ℕ → ℕ → ℕ → Result (Option (ℕ × ℕ)) Refusal
first_open_of hours day minute =
    cond (leb week_minutes (length hours))
    (cond (is_minute day minute) (found_as (first_open (open_in hours) day minute)) (Err NoSuchMinute))
    (Err OverLimit)
