-- The kept bytes say of every minute what the windows say.
use Prim.Native.Nat.{ℕ, zero, suc, ◌+◌, ◌*◌, ◌/◌, ◌%◌, ◌≤◌, ◌<◌}
use mathlib.Core.Path.{◌≡◌, refl, sym, ap, ◌∙◌}
use mathlib.Core.Bool.{Bool, true, false, not}
use mathlib.Core.List.{List, []}
use native.Mathlib.Omega.{arith}
use lib.Dec.{eqb}
use lib.ListN.{length, get_or, drop, get_or-append}
use Rattle.hours.specs.Windows.{Window, week_minutes, is_open, all_fit}
use Rattle.hours.specs.Week.{is_minute, open_byte, minutes_from, kept_hours, open_in}
use Rattle.hours.proofs.week.Laws.{is_minute_lem, length_minutes, kept_until, kept_week, byte_of, look_up}
use Rattle.hours.proofs.Held.{none_outside}

-- the byte at a place is that of the minute there
byte_at : (ws : List Window) (i n j k : ℕ) → j < n → k ≡ i + j → get_or (minutes_from ws i n) j 0 ≡ byte_of ws k
unfolding minutes_from
byte_at ws i zero j k h e = let z : ⊥ = omega arith in absurd z
byte_at ws i (suc n) zero k h e = let z : i ≡ k = omega arith in ap (byte_of ws) z
byte_at ws i (suc n) (suc j) k h e = byte_at ws (suc i) n j k (omega arith) (omega arith)

kept_byte : (ws : List Window) (hours : List ℕ) (n j : ℕ) → j < n → get_or (kept_until ws n hours) j 0 ≡ byte_of ws j
unfolding kept_until
kept_byte ws hours n j h =
    let l = length_minutes ws 0 n in
    get_or-append (minutes_from ws 0 n) (drop n hours) 0 j (omega arith) ∙ byte_at ws 0 n j j h (omega arith)

byte_says : (b : Bool) → not (eqb (open_byte b) 0) ≡ b
byte_says true = refl
byte_says false = refl

-- a place among the bytes tells the weekday and the minute
place_day : (day minute : ℕ) → minute ≤ 1439 → (1440 * day + minute) / 1440 ≡ day
place_day day minute h = omega arith

place_minute : (day minute : ℕ) → minute ≤ 1439 → (1440 * day + minute) % 1440 ≡ minute
place_minute day minute h = omega arith

pub keeps : (ws : List Window) (hours : List ℕ) → all_fit ws ≡ true → week_minutes ≤ length hours → (day minute : ℕ) → open_in (kept_hours ws hours) day minute ≡ is_open ws day minute
keeps ws hours f l day minute = go (is_minute day minute) refl
  where
    go : (b : Bool) → is_minute day minute ≡ b → open_in (kept_hours ws hours) day minute ≡ is_open ws day minute
    go false e = look_up (kept_hours ws hours) day minute false e ∙ sym (none_outside [] ws day minute f e)
    go true e =
        let m = is_minute_lem day minute e in
        let at = 1440 * day + minute in
        let byte : get_or (kept_hours ws hours) at 0 ≡ byte_of ws at = ap (λ (h : List ℕ). get_or h at 0) (sym (kept_week ws hours l)) ∙ kept_byte ws hours week_minutes at (omega arith) in
        look_up (kept_hours ws hours) day minute true e
        ∙ ap (λ (b : ℕ). not (eqb b 0)) byte
        ∙ byte_says (is_open ws (at / 1440) (at % 1440))
        ∙ (λ i. is_open ws (place_day day minute m.1 i) (place_minute day minute m.1 i))
