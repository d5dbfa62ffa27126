-- Laws of a session's row in the store of objects.
use Prim.Native.Nat.{ℕ, ◌+◌, ◌-◌, ◌<◌, ◌≤◌}
use mathlib.Core.Path.{◌≡◌, refl, sym, ap, ◌∙◌}
use mathlib.Core.List.{List}
use native.Mathlib.Omega.{arith}
use borrow.Rule.Slice.PartMut.{mid_of, put_mid}
use lib.ListN.{length}
use lib.Seq.{drop-drop}
use Rattle.sessions.specs.Table.{reached_of}
use Rattle.sessions.proofs.table.Laws.{live_fits}
use Rattle.codec.specs.declared.submessages.ObjectNumber.{ObjectNumber}
use Rattle.walk.proofs.Parts.{part_len}
use Rattle.sessions.specs.Objects.{object_place, stored_of, stored_row}
use Rattle.sessions.specs.SessionObjects.{first_object, object_row, with_object_row, used_of, objects_named, found_by, found_object, stored_by, stored_object, stored_in, stored_objects}
use Rattle.sessions.specs.Removal.{taken_of, removed_row, taken_by, taken_object, removed_in, removed_objects, depended_by, depended_object}
use Rattle.sessions.specs.ObjectList.{list_by, list_of, list_out_by, list_out}
use Rattle.sessions.specs.declared.objects.Object.{Object}
use Rattle.std.specs.Prelude.{Bool, Ok, Result, true}
use Rattle.codec.specs.declared.refusals.Refusal.{Refusal}

-- ---- the part that is lent is the session's row

module _ (objects : List Object) (id : ℕ) where
  width : first_object id + 32 - first_object id ≡ 32
  width = omega arith

  pub row_lent : mid_of (first_object id) (first_object id + 32 - first_object id) objects ≡ object_row objects id
  unfolding object_row
  row_lent = rw width

  pub row_back : (row : List Object) → put_mid (first_object id) (first_object id + 32 - first_object id) objects row ≡ with_object_row objects id row
  unfolding with_object_row
  row_back row = rw (width, drop-drop 32 (first_object id) objects)

module _ (sessions : List (List ℕ)) (objects : List Object) (id : ℕ) where
  abbrev lent : List Object
  lent = mid_of (first_object id) (first_object id + 32 - first_object id) objects

  -- a row that is reached lies in the store, has 32 records, and has room for those in use
  pub record Lent : Type 0 where
    pub inside : first_object id + 32 ≤ length objects
    pub long : length lent ≡ 32
    pub within : used_of sessions id ≤ length lent

  pub named_is : objects_named sessions (length objects) id ≡ reached_of sessions id (used_of sessions id) 32 (length objects) 8192
  unfolding objects_named
  named_is = refl

  pub lent_row : objects_named sessions (length objects) id ≡ (Ok true) → id < 256 → Lent
  lent_row e h =
      let f = live_fits sessions id (used_of sessions id) 32 (length objects) 8192 (sym named_is ∙ e) in
      let i : first_object id + 32 ≤ length objects = omega (arith, f.store_long) in
      let l : length lent ≡ 32 = part_len (first_object id) (first_object id + 32 - first_object id) objects (omega arith) ∙ omega arith in
      record { inside = i; long = l; within = omega (arith, f.count) }

  pub reached_row : (store : ℕ) → id < 256 → objects_named sessions store id ≡ Ok true → (first_object id + 32 ≤ store) × (used_of sessions id ≤ 32)
  unfolding objects_named
  reached_row store h e = let f = live_fits sessions id (used_of sessions id) 32 store 8192 e in (omega (arith, f.store_long), f.count)

  module _ (n : ObjectNumber) where
    pub found_is : (w : Result Bool Refusal) → objects_named sessions (length objects) id ≡ w → found_by w sessions objects id n ≡ found_object sessions objects id n
    unfolding found_object
    found_is w e = ap (λ (v : Result Bool Refusal). found_by v sessions objects id n) (sym e)

    pub taken_is : (w : Result Bool Refusal) → objects_named sessions (length objects) id ≡ w → taken_by w sessions objects id n ≡ taken_object sessions objects id n
    unfolding taken_object
    taken_is w e = ap (λ (v : Result Bool Refusal). taken_by v sessions objects id n) (sym e)

    pub taken_lent : objects_named sessions (length objects) id ≡ (Ok true) → taken_of lent (used_of sessions id) (object_place lent (used_of sessions id) n) ≡ taken_object sessions objects id n
    taken_lent e = ap (λ (row : List Object). taken_of row (used_of sessions id) (object_place row (used_of sessions id) n)) (row_lent objects id) ∙ taken_is (Ok true) e

    pub removed_is : (w : Result Bool Refusal) → objects_named sessions (length objects) id ≡ w → removed_in w sessions objects id n ≡ removed_objects sessions objects id n
    unfolding removed_objects
    removed_is w e = ap (λ (v : Result Bool Refusal). removed_in v sessions objects id n) (sym e)

    pub removed_lent : objects_named sessions (length objects) id ≡ (Ok true)
        → put_mid (first_object id) (first_object id + 32 - first_object id) objects (removed_row lent (used_of sessions id) (object_place lent (used_of sessions id) n)) ≡ removed_objects sessions objects id n
    removed_lent e =
        row_back objects id (removed_row lent (used_of sessions id) (object_place lent (used_of sessions id) n))
        ∙ ap (λ (row : List Object). with_object_row objects id (removed_row row (used_of sessions id) (object_place row (used_of sessions id) n))) (row_lent objects id)
        ∙ removed_is (Ok true) e

  module _ (o : Object) where
    pub depended_is : (w : Result Bool Refusal) → objects_named sessions (length objects) id ≡ w → depended_by w sessions objects id o ≡ depended_object sessions objects id o
    unfolding depended_object
    depended_is w e = ap (λ (v : Result Bool Refusal). depended_by v sessions objects id o) (sym e)

    pub stored_is : (w : Result Bool Refusal) → objects_named sessions (length objects) id ≡ w → stored_by w sessions objects id o ≡ stored_object sessions objects id o
    unfolding stored_object
    stored_is w e = ap (λ (v : Result Bool Refusal). stored_by v sessions objects id o) (sym e)

    pub stored_lent : objects_named sessions (length objects) id ≡ (Ok true) → stored_of lent (used_of sessions id) o ≡ stored_object sessions objects id o
    stored_lent e = ap (λ (row : List Object). stored_of row (used_of sessions id) o) (row_lent objects id) ∙ stored_is (Ok true) e

    pub kept_is : (w : Result Bool Refusal) → objects_named sessions (length objects) id ≡ w → stored_in w sessions objects id o ≡ stored_objects sessions objects id o
    unfolding stored_objects
    kept_is w e = ap (λ (v : Result Bool Refusal). stored_in v sessions objects id o) (sym e)

    pub kept_lent : objects_named sessions (length objects) id ≡ (Ok true)
        → put_mid (first_object id) (first_object id + 32 - first_object id) objects (stored_row lent (used_of sessions id) o) ≡ stored_objects sessions objects id o
    kept_lent e =
        row_back objects id (stored_row lent (used_of sessions id) o)
        ∙ ap (λ (row : List Object). with_object_row objects id (stored_row row (used_of sessions id) o)) (row_lent objects id)
        ∙ kept_is (Ok true) e

  module _ (out : List ℕ) where
    pub list_is : (w : Result Bool Refusal) → objects_named sessions (length objects) id ≡ w
        → (list_by w sessions objects id out ≡ list_of sessions objects id out) × (list_out_by w sessions objects id out ≡ list_out sessions objects id out)
    unfolding list_of list_out
    list_is w e = (ap (λ (v : Result Bool Refusal). list_by v sessions objects id out) (sym e), ap (λ (v : Result Bool Refusal). list_out_by v sessions objects id out) (sym e))
