-- How many sessions are live: none where all ids are free, and how the number goes on with a row.
use Prim.Native.Nat.{ℕ, zero, suc, ◌+◌, ◌<◌, ◌≤◌}
use mathlib.Core.Path.{◌≡◌, refl}
use mathlib.Core.Logic.{◌≢◌}
use mathlib.Core.Bool.{Bool, true, false, cond}
use mathlib.Core.List.{List, []}
use native.Mathlib.Omega.{arith}
use borrow.Author.Tests.{eqb-true, eqb-false, lt-ltb, ne_eqb}
use lib.Dec.{eqb}
use lib.ListN.{set}
use lib.Seq.{get_or-set_other}
use Rattle.sessions.specs.Table.{is_free}
use Rattle.sessions.specs.Opening.{after, live_from, live_of, free_from, free_of, chosen_of}
use Rattle.std.specs.Prelude.{Ok}

pub none_counted : (rows : List (List ℕ)) (n i : ℕ) → ((j : ℕ) → j < i + n → is_free rows j ≡ true) → live_from (is_free rows) i n ≡ 0
unfolding live_from
none_counted rows zero i free = refl
none_counted rows (suc n) i free = rw (free i (omega arith), none_counted rows n (suc i) (λ j h. free j (omega arith))) refl

-- ---- another row under one id

module _ (rows : List (List ℕ)) (id : ℕ) (row : List ℕ) where
  pub free_elsewhere : (j : ℕ) → j ≢ id → is_free (set rows id row) j ≡ is_free rows j
  free_elsewhere j h = rw (get_or-set_other rows id j row [] h)

  live_behind : (n i : ℕ) → id < i → live_from (is_free (set rows id row)) i n ≡ live_from (is_free rows) i n
  unfolding live_from
  live_behind zero i h = refl
  live_behind (suc n) i h = rw (free_elsewhere i (λ e. omega arith), live_behind n (suc i) (omega arith)) refl

  -- the number changes by that id alone
  live_from_lem : (n i : ℕ) → i ≤ id → id < i + n
      → live_from (is_free (set rows id row)) i n + cond (is_free rows id) 0 1 ≡ live_from (is_free rows) i n + cond (is_free (set rows id row) id) 0 1
  unfolding live_from
  live_from_lem zero i a b = let z : ⊥ = omega arith in absurd z
  live_from_lem (suc n) i a b = by (λ q. live_from_lem n (suc i) (omega (arith, q)) (omega arith)) (eqb i id) refl
    where
      swap : (a b c : ℕ) → a + b + c ≡ c + b + a
      swap a b c = omega arith

      by : (i ≢ id → live_from (is_free (set rows id row)) (suc i) n + cond (is_free rows id) 0 1 ≡ live_from (is_free rows) (suc i) n + cond (is_free (set rows id row) id) 0 1)
          → (f : Bool) → eqb i id ≡ f
          → cond (is_free (set rows id row) i) 0 1 + live_from (is_free (set rows id row)) (suc i) n + cond (is_free rows id) 0 1
          ≡ cond (is_free rows i) 0 1 + live_from (is_free rows) (suc i) n + cond (is_free (set rows id row) id) 0 1
      by ih true e =
          let q : i ≡ id = eqb-true i id e in
          rw (q, live_behind n (suc id) (omega arith)) (swap (cond (is_free (set rows id row) id) 0 1) (live_from (is_free rows) (suc id) n) (cond (is_free rows id) 0 1))
      by ih false e = let q : i ≢ id = eqb-false i id e in rw (free_elsewhere i q) (omega (arith, ih q))

  pub live_changed : 1 ≤ id → id ≤ 255 → live_of (set rows id row) + cond (is_free rows id) 0 1 ≡ live_of rows + cond (is_free (set rows id row) id) 0 1
  unfolding live_of
  live_changed a b = live_from_lem 255 1 a (omega arith)

-- ---- where the id at the pointer is free, the next session gets it

pub opens_at : (rows : List (List ℕ)) (max next : ℕ) → live_of rows < max → 1 ≤ next → is_free rows next ≡ true → chosen_of rows max next ≡ Ok (next, (after next))
unfolding chosen_of free_of free_from
opens_at rows max next h a e = rw (lt-ltb (live_of rows) max h, e, ne_eqb next 0 (λ z. omega arith)) refl
