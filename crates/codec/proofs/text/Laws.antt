-- Laws of RFC 3629's table: its rows lie apart, so a first byte tells its row; and the ranges that are left, as the code keeps them.
use Prim.Native.Nat.{ℕ, zero, suc, ◌-◌, ◌≤◌, ◌<◌}
use mathlib.Core.Path.{◌≡◌, refl, sym, ◌∙◌, ap}
use mathlib.Core.Bool.{Bool, true, false, ◌&&◌}
use mathlib.Core.List.{List, [], ◌∷◌}
use native.Mathlib.Omega.{arith}
use borrow.Author.Tests.{leb-true, le-leb, lt-leb, le-ltb, lt-ltb}
use lib.Dec.{leb}
use lib.ListN.{get_or, length, drop}
use Rattle.codec.specs.Text.{Range, range, tail, Row, row, table, Within, in_range, never, behind_first, tails, waiting, ranges_of}
use Rattle.codec.specs.declared.text.Wait.{Wait}

-- ---- a byte and a range

pub in_range_lem : (r : Range) (b : ℕ) → Within r b → in_range r b ≡ true
in_range_lem r b w = rw (le-leb r.from b w.0, le-leb b r.to w.1)

pub below_range : (r : Range) (b : ℕ) → b < r.from → in_range r b ≡ false
below_range r b h = rw (lt-leb r.from b h)

pub false_true : false ≡ true → ⊥
false_true e = let z : ◌≡◌ {A = ℕ} 0 1 = cc in omega arith

and_false : (x : Bool) → (x && false) ≡ false
and_false true = refl
and_false false = refl

pub above_range : (r : Range) (b : ℕ) → r.to < b → in_range r b ≡ false
above_range r b h = rw (lt-leb b r.to h) (and_false (leb r.from b))

pub none_in : (b : ℕ) → in_range (range 1 0) b ≡ false
none_in zero = refl
none_in (suc b) = above_range (range 1 0) (suc b) (omega arith)

-- ---- the rows lie apart, each first range behind the one before

abbrev pub Apart : ℕ → List Row → Type 0
Apart k [] = Unit
Apart k (r ∷ rows) = ((k ≤ r.first.from) × (r.first.from ≤ r.first.to)) × Apart (suc r.first.to) rows

pub table_apart : Apart 0 table
unfolding table
table_apart = ((omega arith, omega arith), ((omega arith, omega arith), ((omega arith, omega arith), ((omega arith, omega arith), ((omega arith, omega arith), ((omega arith, omega arith), ((omega arith, omega arith), ((omega arith, omega arith), ((omega arith, omega arith), tt)))))))))

abbrev pub no_row : Row
no_row = row 1 0 []

-- a byte within the first range of a row is told by that row
row_at : (rows : List Row) (k : ℕ) → Apart k rows → (i : ℕ) → i < length rows → (b : ℕ) → Within (get_or rows i no_row).first b
    → (k ≤ b) × (behind_first rows b ≡ (get_or rows i no_row).rest)
row_at [] k a i h b w = absurd (omega arith)
row_at (r ∷ rows) k a zero h b w = (omega (arith, a.0.0, w.0), rw (in_range_lem r.first b w))
row_at (r ∷ rows) k a (suc i) h b w =
    let t = row_at rows (suc r.first.to) a.1 i (omega arith) b w in
    (omega (arith, a.0.0, a.0.1, t.0), rw (above_range r.first b (omega (arith, t.0))) t.1)

pub range_true : (r : Range) (b : ℕ) → in_range r b ≡ true → Within r b
range_true r b e = go (leb r.from b) (leb b r.to) refl refl e
  where
    go : (x y : Bool) → leb r.from b ≡ x → leb b r.to ≡ y → (x && y) ≡ true → Within r b
    go true true e f g = (leb-true r.from b e, leb-true b r.to f)
    go true false e f g = absurd (false_true g)
    go false y e f g = absurd (false_true g)

-- a byte before all rows, between two, or behind all, begins no character
row_below : (rows : List Row) (k b : ℕ) → Apart k rows → b < k → behind_first rows b ≡ never
row_below [] k b a h = refl
row_below (r ∷ rows) k b a h = rw (below_range r.first b (omega (arith, a.0.0))) (row_below rows (suc r.first.to) b a.1 (omega (arith, a.0.0, a.0.1)))

row_between : (r next : Row) (rows : List Row) (k b : ℕ) → Apart k (r ∷ next ∷ rows) → r.first.to < b → b < next.first.from → behind_first (r ∷ next ∷ rows) b ≡ never
row_between r next rows k b a low high =
    rw (above_range r.first b low, below_range next.first b high) (row_below rows (suc next.first.to) b a.1.1 (omega (arith, a.1.0.1)))

abbrev end : ℕ → List Row → ℕ
end k [] = k
end k (r ∷ rows) = end (suc r.first.to) rows

row_above : (rows : List Row) (k b : ℕ) → Apart k rows → end k rows ≤ b → (k ≤ b) × (behind_first rows b ≡ never)
row_above [] k b a h = (h, refl)
row_above (r ∷ rows) k b a h =
    let t = row_above rows (suc r.first.to) b a.1 h in
    (omega (arith, a.0.0, a.0.1, t.0), rw (above_range r.first b (omega (arith, t.0))) t.1)

-- what the code answers by the first byte
pub first_at : (b i : ℕ) (w : Wait) → i < length table → Within (get_or table i no_row).first b → ranges_of w ≡ (get_or table i no_row).rest → ranges_of w ≡ behind_first table b
first_at b i w h k e = e ∙ sym (row_at table 0 table_apart i h b k).1

-- "UTF8-1 = %x00-7F": a character of its own
pub first_plain : (b : ℕ) → b < 0x80 → [] ≡ behind_first table b
unfolding table
first_plain b h = sym (row_at table 0 table_apart 0 (omega arith) b (omega arith, omega arith)).1

-- between the first two rows, and above them all
pub first_between : (b : ℕ) → 0x80 ≤ b → b < 0xC2 → ranges_of (record { need = 4; low = 0; high = 0 }) ≡ behind_first table b
unfolding ranges_of table
first_between b h k = sym (row_between (row 0x00 0x7F []) (row 0xC2 0xDF (tail ∷ [])) (drop 2 table) 0 b table_apart (omega arith) (omega arith))

pub first_above : (b : ℕ) → 0xF4 < b → ranges_of (record { need = 4; low = 0; high = 0 }) ≡ behind_first table b
unfolding ranges_of table
first_above b h = sym (row_above table 0 b table_apart (omega arith)).1

-- ---- the ranges that the code keeps

module _ (w : Wait) where
  abbrev pub bounds : Range
  bounds = range w.low w.high

  pub none_left : w.need ≡ 0 → ranges_of w ≡ []
  unfolding ranges_of
  none_left e = rw e

  pub some_left : 1 ≤ w.need → w.need ≤ 3 → ranges_of w ≡ bounds ∷ tails (w.need - 1)
  unfolding ranges_of
  some_left low high =
      let e : w.need ≡ suc (w.need - 1) = omega arith in
      rw (le-ltb 3 w.need high) (ap (λ (n : ℕ). waiting n bounds) e)

  pub many_left : w.need ≤ 3 → length (ranges_of w) ≡ w.need
  unfolding ranges_of
  many_left h = rw (le-ltb 3 w.need h) (by w.need)
    where
      many_tails : (n : ℕ) → length (tails n) ≡ n
      many_tails zero = refl
      many_tails (suc n) = ap suc (many_tails n)

      by : (n : ℕ) → length (waiting n bounds) ≡ n
      by zero = refl
      by (suc n) = ap suc (many_tails n)

  pub ill_left : 3 < w.need → ranges_of w ≡ never
  unfolding ranges_of
  ill_left h = rw (lt-ltb 3 w.need h)
