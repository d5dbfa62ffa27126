-- In a list of objects with different numbers each object is found by its number, and a drop takes that one alone.
use Prim.Native.Nat.{ℕ, ◌-◌, ◌<◌}
use mathlib.Core.Path.{◌≡◌, refl, sym, ap, ◌∙◌}
use mathlib.Core.Logic.{◌≢◌}
use mathlib.Core.Bool.{Bool, true, false}
use mathlib.Core.List.{List}
use native.Mathlib.Omega.{arith}
use native.Mathlib.Decide.{dec_le}
use borrow.Author.Tests.{eqb-true, eqb-false}
use lib.Dec.{eqb}
use lib.ListN.{length, get_or, set, length-set, length-map, get_or-map}
use lib.Seq.{get_or-set_same, get_or-set_other, get_or-take, length-take-le}
use Rattle.sessions.specs.View.{Entry, blank_entry, place_in, held_at, find_in, drop_at, drop_in, Distinct, object_numbers}
use Rattle.sessions.proofs.Kept.{FoundIn, place_found, drop_distinct}
use Rattle.std.specs.Prelude.{None, Some, Option}

pub absent : {B : Type 0} {b : B} → ◌≡◌ {A = Option B} None (Some b) → ⊥
absent {B} {b} e = let z : ◌≡◌ {A = ℕ} 0 1 = cc in omega arith

pub same : (e x : Entry) → Some e ≡ Some x → e ≡ x
same e x p = ap (λ (o : Option Entry). elim o [ None ↦ e | Some y ↦ y ]) p

-- an object at its place in a list
pub record Among (es : List Entry) (e : Entry) : Type 0 where
  pub at : ℕ
  pub inside : at < length es
  pub is : get_or es at blank_entry ≡ e

-- what is found is there, with its number
pub found_among : (es : List Entry) (n : ℕ) (e : Entry) → find_in es n ≡ Some e → Among es e × (e.number ≡ n)
found_among es n e = by (place_in es n) (place_found es n)
  where
    by : (p : Option ℕ) → FoundIn es n p → held_at es p ≡ Some e → Among es e × (e.number ≡ n)
    by (Some k) f q = let z = same (get_or es k blank_entry) e q in (record { at = k; inside = f.0; is = z }, ap (λ (x : Entry). x.number) (sym z) ∙ f.1)
    by None f q = absurd (absent q)

pub one_place : (es : List Entry) → Distinct (object_numbers es) → (i j : ℕ) → i < length es → j < length es → (get_or es i blank_entry).number ≡ (get_or es j blank_entry).number → i ≡ j
unfolding Distinct
one_place es d i j a c q =
    let l = length-map es (λ (e : Entry). e.number) in
    d i j (omega (arith, l)) (omega (arith, l)) (get_or-map (λ (e : Entry). e.number) es i blank_entry ∙ q ∙ sym (get_or-map (λ (e : Entry). e.number) es j blank_entry))

-- and what is there is found
pub among_found : (es : List Entry) → Distinct (object_numbers es) → (e : Entry) → Among es e → find_in es e.number ≡ Some e
among_found es d e a = by (place_in es e.number) (place_found es e.number)
  where
    by : (p : Option ℕ) → FoundIn es e.number p → held_at es p ≡ Some e
    by (Some k) f =
        let z : k ≡ a.at = one_place es d k a.at f.0 a.inside (f.1 ∙ ap (λ (x : Entry). x.number) (sym a.is)) in
        ap (λ (i : ℕ). Some (get_or es i blank_entry)) z ∙ ap Some a.is
    by None f = absurd (f a.at a.inside (ap (λ (x : Entry). x.number) a.is))

-- ---- a drop

module _ (es : List Entry) (d : Distinct (object_numbers es)) (n : ℕ) where
  -- of the object at place k: the last one comes there
  module _ (k : ℕ) (k< : k < length es) where
    abbrev left : List Entry
    left = drop_at es (Some k)

    left_length : length left ≡ length es - 1
    left_length = length-take-le (length es - 1) (set es k (get_or es (length es - 1) blank_entry)) (rw (length-set es k (get_or es (length es - 1) blank_entry)) (omega arith))

    left_other : (i : ℕ) → i < length es - 1 → i ≢ k → get_or left i blank_entry ≡ get_or es i blank_entry
    left_other i h q = get_or-take (length es - 1) (set es k (get_or es (length es - 1) blank_entry)) i blank_entry h ∙ get_or-set_other es k i (get_or es (length es - 1) blank_entry) blank_entry q

    left_there : k < length es - 1 → get_or left k blank_entry ≡ get_or es (length es - 1) blank_entry
    left_there h = get_or-take (length es - 1) (set es k (get_or es (length es - 1) blank_entry)) k blank_entry h ∙ get_or-set_same es k (get_or es (length es - 1) blank_entry) blank_entry k<

    -- what is left was there, at another place
    left_among : (e : Entry) → Among left e → (a : Among es e) × (a.at ≢ k)
    left_among e a = by (eqb a.at k) refl
      where
        below : a.at < length es - 1
        below = omega (arith, a.inside, left_length)

        by : (b : Bool) → eqb a.at k ≡ b → (x : Among es e) × (x.at ≢ k)
        by true q =
            let z : a.at ≡ k = eqb-true a.at k q in
            (record { at = length es - 1; inside = omega arith; is = sym (left_there (omega (arith, z, below))) ∙ ap (λ (i : ℕ). get_or left i blank_entry) (sym z) ∙ a.is }, λ y. omega (arith, z, below))
        by false q =
            let z : a.at ≢ k = eqb-false a.at k q in
            (record { at = a.at; inside = omega (arith, below); is = sym (left_other a.at below z) ∙ a.is }, z)

    -- what was at another place is left
    among_left : (e : Entry) (a : Among es e) → a.at ≢ k → Among left e
    among_left e a q =
        elim (dec_le (length es - 1) a.at) [
          | yes h ↦
              let last : a.at ≡ length es - 1 = omega (arith, a.inside) in
              let there : k < length es - 1 = omega (arith, q, a.inside) in
              record { at = k; inside = rw left_length there; is = left_there there ∙ ap (λ (i : ℕ). get_or es i blank_entry) (sym last) ∙ a.is }
          | no h ↦
              let below : a.at < length es - 1 = omega arith in
              record { at = a.at; inside = rw left_length below; is = left_other a.at below q ∙ a.is }
        ]

  pub drop_kept : (m : ℕ) (e : Entry) → find_in (drop_in es n) m ≡ Some e → (find_in es m ≡ Some e) × (m ≢ n)
  drop_kept m e = by (place_in es n) (place_found es n)
    where
      by : (p : Option ℕ) → FoundIn es n p → find_in (drop_at es p) m ≡ Some e → (find_in es m ≡ Some e) × (m ≢ n)
      by (Some k) f q =
          let g = found_among (drop_at es (Some k)) m e q in
          let a = left_among k f.0 e g.0 in (
            ap (find_in es) (sym g.1) ∙ among_found es d e a.0,
            λ z. a.1 (one_place es d a.0.at k a.0.inside f.0 (ap (λ (x : Entry). x.number) a.0.is ∙ g.1 ∙ z ∙ sym f.1)),
          )
      by None f q =
          let g = found_among es m e q in
          (q, λ z. f g.0.at g.0.inside (ap (λ (x : Entry). x.number) g.0.is ∙ g.1 ∙ z))

  pub drop_other : (m : ℕ) (e : Entry) → m ≢ n → find_in es m ≡ Some e → find_in (drop_in es n) m ≡ Some e
  drop_other m e h q = by (place_in es n) (place_found es n) (drop_distinct es d n)
    where
      g : Among es e × (e.number ≡ m)
      g = found_among es m e q

      by : (p : Option ℕ) → FoundIn es n p → Distinct (object_numbers (drop_at es p)) → find_in (drop_at es p) m ≡ Some e
      by (Some k) f c =
          let other : g.0.at ≢ k = λ z. h (sym g.1 ∙ ap (λ (x : Entry). x.number) (sym g.0.is) ∙ ap (λ (i : ℕ). (get_or es i blank_entry).number) z ∙ f.1) in
          ap (find_in (drop_at es (Some k))) (sym g.1) ∙ among_found (drop_at es (Some k)) c e (among_left k f.0 e g.0 other)
      by None f c = q
