-- Laws of the table of least lengths and of the choice of a layout.
use Prim.Native.Nat.{ℕ, ◌≤◌, ◌<◌}
use native.Mathlib.Decide.{dec_le, ℕ_discrete}
use native.Mathlib.Nat.{lt_of_not-le}
use native.Mathlib.Omega.{arith}
use lib.ListN.{get_or-eq_default}
use mathlib.Core.Path.{◌≡◌}
use mathlib.Core.List.{List}
use borrow.Author.Tests.{ne_eqb}
use Rattle.codec.specs.Layouts.{least_table, least_of, layout_at}
use Rattle.codec.specs.declared.refusals.Refusal.TheVariants.{UnknownSubmessageId}
use Rattle.std.specs.Prelude.{Err}

-- a payload that is long enough for its id, where the id is known
pub enough : (id k len : ℕ) → id ≡ k → least_of id ≤ len → least_of k ≤ len
enough id k len e h = rw e at h

-- an id that is none of the ten is refused
pub unlisted : (s : List ℕ) (id p len : ℕ) → (id ≡ 0 → ⊥) → (id ≡ 1 → ⊥) → (id ≡ 2 → ⊥) → (id ≡ 5 → ⊥) → (id ≡ 7 → ⊥)
    → (id ≡ 8 → ⊥) → (id ≡ 9 → ⊥) → (id ≡ 13 → ⊥) → (id ≡ 14 → ⊥) → (id ≡ 15 → ⊥) → Err (UnknownSubmessageId id) ≡ layout_at s id p len
unfolding layout_at
unlisted s id p len a b c d e f g h i j =
    rw (ne_eqb id 0 a, ne_eqb id 1 b, ne_eqb id 2 c, ne_eqb id 5 d, ne_eqb id 7 e, ne_eqb id 8 f, ne_eqb id 9 g, ne_eqb id 13 h, ne_eqb id 14 i, ne_eqb id 15 j)

-- an id that is none of the ten has the mark: below 6, below 13, and behind the list
least_low : (id : ℕ) → id < 6 → (id ≡ 0 → ⊥) → (id ≡ 1 → ⊥) → (id ≡ 2 → ⊥) → (id ≡ 5 → ⊥) → least_of id ≡ 255
unfolding least_of
least_low id h a b c d = elim (ℕ_discrete id 3) [ yes k ↦ rw k | no k ↦ let e : id ≡ 4 = omega arith in rw e ]

least_middle : (id : ℕ) → 6 ≤ id → id < 13 → (id ≡ 7 → ⊥) → (id ≡ 8 → ⊥) → (id ≡ 9 → ⊥) → least_of id ≡ 255
unfolding least_of
least_middle id low high a b c =
    elim (dec_le id 9) [
      | yes h ↦ let e : id ≡ 6 = omega arith in rw e
      | no h ↦
          elim (ℕ_discrete id 10) [
            | yes k ↦ rw k
            | no k ↦ elim (ℕ_discrete id 11) [ yes j ↦ rw j | no j ↦ let e : id ≡ 12 = omega (arith, lt_of_not-le h) in rw e ]
          ]
    ]

past_list : (id : ℕ) → 13 ≤ id → (id ≡ 13 → ⊥) → (id ≡ 14 → ⊥) → (id ≡ 15 → ⊥) → 16 ≤ id
past_list id h a b c = omega arith

pub least_rest : (id : ℕ) → (id ≡ 0 → ⊥) → (id ≡ 1 → ⊥) → (id ≡ 2 → ⊥) → (id ≡ 5 → ⊥) → (id ≡ 7 → ⊥)
    → (id ≡ 8 → ⊥) → (id ≡ 9 → ⊥) → (id ≡ 13 → ⊥) → (id ≡ 14 → ⊥) → (id ≡ 15 → ⊥) → least_of id ≡ 255
unfolding least_of
least_rest id a b c d e f g h i j =
    elim (dec_le 6 id) [
      | no low ↦ least_low id (lt_of_not-le low) a b c d
      | yes low ↦
          elim (dec_le 13 id) [
            | no middle ↦ least_middle id low (lt_of_not-le middle) e f g
            | yes middle ↦ get_or-eq_default least_table 255 (past_list id middle h i j)
          ]
    ]
