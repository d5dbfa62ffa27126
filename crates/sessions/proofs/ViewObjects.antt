-- The view of a session's objects: a row changed by an operation shows the list changed by document 01's.
use Prim.Native.Nat.{ℕ, ◌-◌, ◌<◌, ◌≤◌}
use mathlib.Core.Path.{◌≡◌, refl, sym, ap, ◌∙◌}
use mathlib.Core.Bool.{Bool, true, false, cond}
use mathlib.Core.List.{List, [], ◌∷◌, map, map-append}
use native.Mathlib.Omega.{arith}
use native.Mathlib.Numerals.{add-one}
use lib.ListN.{length, take, get_or, set, length-map, get_or-map}
use lib.Seq.{length-take-le, get_or-take, take-take, take-set-lt, take-suc-set}
use Rattle.codec.specs.declared.submessages.ObjectNumber.{ObjectNumber}
use Rattle.sessions.specs.Objects.{blank, object_place, LastOf, found_of, slot_of, used_after, stored_row}
use Rattle.sessions.specs.Dependants.{has_dependant}
use Rattle.sessions.specs.Removal.{remove_in, depended_in, removed_row}
use Rattle.sessions.specs.View.{Entry, entry_of, blank_entry, listed, place_in, held_at, find_in, put_entry, put_in, drop_at, Distinct, object_numbers}
use Rattle.sessions.specs.declared.objects.Object.{Object}
use Rattle.sessions.proofs.FoundAgain.{one_place}
use Rattle.sessions.proofs.Kept.{FoundIn, place_found}
use Rattle.sessions.proofs.ObjectSearch.{Under, place_under, search_last}
use Rattle.sessions.proofs.Parts.{map_set, map_take}
use Rattle.std.specs.Prelude.{Err, None, Ok, Result, Some, Option}
use Rattle.codec.specs.declared.refusals.Refusal.{Refusal}

-- the record that was found, as an entry
abbrev pub entry_found : Result (Option Object) Refusal → Option Entry
entry_found (Ok (Some o)) = Some (entry_of o)
entry_found (Ok None) = None
entry_found (Err r) = None

module _ (row : List Object) (used : ℕ) (fits : used ≤ length row) where
  pub listed_length : length (listed used row) ≡ used
  unfolding listed
  listed_length = length-map (take used row) entry_of ∙ length-take-le used row fits

  pub listed_at : (i : ℕ) → i < used → get_or (listed used row) i blank_entry ≡ entry_of (get_or row i blank)
  unfolding listed
  listed_at i h = get_or-map entry_of (take used row) i blank ∙ ap entry_of (get_or-take used row i blank h)

  -- ---- the search

  last_found : (n : ObjectNumber) (p : Option ℕ) → LastOf row used n p → FoundIn (listed used row) n.0 p
  last_found n (Some i) l = (rw listed_length l.0, ap (λ (e : Entry). e.number) (listed_at i l.0) ∙ l.1)
  last_found n None l = λ i h q. let w : i < used = rw listed_length at h in l i w (ap (λ (e : Entry). e.number) (sym (listed_at i w)) ∙ q)

  -- in a row of different numbers the search down and the list's, which goes up, end at the same place
  pub place_shown : Distinct (object_numbers (listed used row)) → (n : ObjectNumber) → object_place row used n ≡ place_in (listed used row) n.0
  place_shown different n =
      by (object_place row used n) (place_in (listed used row) n.0) (last_found n (object_place row used n) (search_last row n used)) (place_found (listed used row) n.0)
    where
      by : (p q : Option ℕ) → FoundIn (listed used row) n.0 p → FoundIn (listed used row) n.0 q → p ≡ q
      by (Some i) (Some k) f g = ap Some (one_place (listed used row) different i k f.0 g.0 (f.1 ∙ sym g.1))
      by (Some i) None f g = absurd (g i f.0 f.1)
      by None (Some k) f g = absurd (f k g.0 g.1)
      by None None f g = refl

  -- ---- find

  held_shown : (p : Option ℕ) → Under used p → entry_found (found_of row p) ≡ held_at (listed used row) p
  held_shown (Some i) h = ap Some (sym (listed_at i h))
  held_shown None h = refl

  pub find_shown : Distinct (object_numbers (listed used row)) → (n : ObjectNumber) → entry_found (found_of row (object_place row used n)) ≡ find_in (listed used row) n.0
  find_shown different n = held_shown (object_place row used n) (place_under row n used) ∙ ap (held_at (listed used row)) (place_shown different n)

  -- ---- put

  put_at_lem : (p : Option ℕ) (o : Object) → Under used p → slot_of p used < length row → listed (used_after p used) (set row (slot_of p used) o) ≡ put_entry (listed used row) p (entry_of o)
  unfolding listed
  put_at_lem (Some i) o h l = ap (map entry_of) (take-set-lt used row i o h) ∙ map_set entry_of (take used row) i o
  put_at_lem None o h l =
      ap (λ (k : ℕ). map entry_of (take k (set row used o))) (add-one used)
      ∙ ap (map entry_of) (take-suc-set row used o l)
      ∙ map-append entry_of (take used row) (o ∷ [])

  pub put_shown : Distinct (object_numbers (listed used row)) → (o : Object) → slot_of (object_place row used o.number) used < length row
      → listed (used_after (object_place row used o.number) used) (stored_row row used o) ≡ put_in (listed used row) (entry_of o)
  put_shown different o l = put_at_lem (object_place row used o.number) o (place_under row o.number used) l ∙ ap (λ (p : Option ℕ). put_entry (listed used row) p (entry_of o)) (place_shown different o.number)

  -- ---- remove

  drop_at_lem : (i : ℕ) → i < used → listed (used - 1) (set row i (get_or row (used - 1) blank)) ≡ drop_at (listed used row) (Some i)
  unfolding listed
  drop_at_lem i h =
      let x = get_or row (used - 1) blank in
      let last : get_or (map entry_of (take used row)) (used - 1) blank_entry ≡ entry_of x = get_or-map entry_of (take used row) (used - 1) blank ∙ ap entry_of (get_or-take used row (used - 1) blank (omega arith)) in
      ap (map entry_of) (sym (take-take (used - 1) used (set row i x) (omega arith)))
      ∙ map_take entry_of (used - 1) (take used (set row i x))
      ∙ ap (λ (l : List Object). take (used - 1) (map entry_of l)) (take-set-lt used row i x h)
      ∙ ap (take (used - 1)) (map_set entry_of (take used row) i x)
      ∙ ap (λ (e : Entry). take (used - 1) (set (map entry_of (take used row)) i e)) (sym last)
      ∙ ap (λ (n : ℕ). take (n - 1) (set (map entry_of (take used row)) i (get_or (map entry_of (take used row)) (n - 1) blank_entry))) (sym (length-map (take used row) entry_of ∙ length-take-le used row fits))

  -- whether the record at a place has a dependant, as the list says
  abbrev pub depended_at : Option ℕ → Bool
  depended_at (Some i) = depended_in row used (get_or row i blank)
  depended_at None = false

  pub depended_shown : Distinct (object_numbers (listed used row)) → (n : ObjectNumber) → depended_at (object_place row used n) ≡ has_dependant (listed used row) (find_in (listed used row) n.0)
  depended_shown different n = by (object_place row used n) (place_under row n used) ∙ ap (λ (p : Option ℕ). has_dependant (listed used row) (held_at (listed used row) p)) (place_shown different n)
    where
      by : (p : Option ℕ) → Under used p → depended_at p ≡ has_dependant (listed used row) (held_at (listed used row) p)
      by (Some i) h = ap (λ (e : Entry). has_dependant (listed used row) (Some e)) (sym (listed_at i h))
      by None h = refl

  -- how many records a removal leaves
  abbrev pub left : Option ℕ → ℕ
  left (Some i) = cond (depended_at (Some i)) used (used - 1)
  left None = used

  pub drop_shown : Distinct (object_numbers (listed used row)) → (n : ObjectNumber) → listed (left (object_place row used n)) (removed_row row used (object_place row used n)) ≡ remove_in (listed used row) n.0
  drop_shown different n =
      by (object_place row used n) (place_under row n used)
      ∙ (λ i. cond (depended_shown different n i) (listed used row) (drop_at (listed used row) (place_shown different n i)))
    where
      by : (p : Option ℕ) → Under used p → listed (left p) (removed_row row used p) ≡ cond (depended_at p) (listed used row) (drop_at (listed used row) p)
      by (Some i) h = at (depended_at (Some i))
        where
          at : (b : Bool) → listed (cond b used (used - 1)) (cond b row (set row i (get_or row (used - 1) blank))) ≡ cond b (listed used row) (drop_at (listed used row) (Some i))
          at true = refl
          at false = drop_at_lem i h
      by None h = refl
