-- The view of a session's objects in the tables: what find, put and remove show and change of it, and that they change nothing else.
use Prim.Native.Nat.{ℕ, ◌+◌, ◌-◌, ◌*◌, ◌<◌, ◌≤◌}
use mathlib.Core.Path.{◌≡◌, refl, sym, ap, ◌∙◌}
use mathlib.Core.Logic.{◌≢◌}
use mathlib.Core.Bool.{Bool, true, false, cond}
use mathlib.Core.List.{List, ◌++◌}
use native.Mathlib.Omega.{arith}
use borrow.Author.Tests.{lt-ltb, le-ltb, leb-true, leb-false}
use borrow.Rule.Slice.PartMut.{set_mid_at, put_same}
use lib.Dec.{eqb, leb}
use lib.ListN.{length, take, drop, get_or, set, length-set, length-drop}
use lib.Seq.{drop-drop, drop_at, take_at, length-take-le, set_out}
use Rattle.codec.specs.declared.submessages.ObjectNumber.{ObjectNumber}
use Rattle.sessions.specs.Table.{session_at}
use Rattle.sessions.specs.Objects.{blank, object_place, slot_of, used_after, stored_row}
use Rattle.sessions.specs.SessionObjects.{first_object, object_row, with_object_row, used_of, counted_session, keep_used, objects_named, found_object, stored_object, stored_objects, keep_stored}
use Rattle.sessions.specs.Removal.{remove_in, taken_of, removed_row, keep_removed}
use Rattle.sessions.specs.Held.{held_part}
use Rattle.sessions.specs.View.{Tables, Entry, Local, Part, entry_of, listed, stream_rows, table_part, session_shown, local_shown, local_of, objects_of, find_in, put_in, Distinct, object_numbers}
use Rattle.sessions.specs.Calls.{put_tables, drop_tables}
use Rattle.sessions.specs.declared.objects.Object.{Object}
use Rattle.sessions.specs.declared.objects.Stored.TheVariants.{Count, Full}
use Rattle.sessions.specs.declared.objects.Taken.TheVariants.{Gone, Depended}
use Rattle.sessions.proofs.ObjectSearch.{Under, place_under}
use Rattle.sessions.proofs.Parts.{part_below, part_above}
use Rattle.sessions.proofs.ViewObjects.{entry_found, find_shown, put_shown, depended_at, left, drop_shown}
use Rattle.sessions.proofs.ViewTable.{parts_of, lengths_of, kept_here, kept_elsewhere}
use Rattle.sessions.proofs.session_objects.Laws.{lent_row, found_is, stored_is, kept_is, taken_is, removed_is}
use Rattle.sessions.proofs.table.Laws.{live_fits}
use Rattle.std.specs.Prelude.{None, Ok, Some, Option}

-- ---- a session's row in the store

module _ (objects : List Object) (id : ℕ) (inside : first_object id + 32 ≤ length objects) where
  pub row_length : length (object_row objects id) ≡ 32
  unfolding object_row
  row_length = length-take-le 32 (drop (first_object id) objects) (rw (length-drop (first_object id) objects) (omega arith))

  -- one record stored in the row is one record stored in the store
  pub row_set : (k : ℕ) (x : Object) → k < 32 → with_object_row objects id (set (object_row objects id) k x) ≡ set objects (first_object id + k) x
  unfolding with_object_row object_row
  row_set k x h =
      ap (λ (l : List Object). take (first_object id) objects ++ (set (take 32 (drop (first_object id) objects)) k x ++ l)) (sym (drop-drop 32 (first_object id) objects))
      ∙ set_mid_at (first_object id) 32 k objects x (rw (length-take-le 32 (drop (first_object id) objects) (rw (length-drop (first_object id) objects) (omega arith))) h)

  pub row_same : with_object_row objects id (object_row objects id) ≡ objects
  unfolding with_object_row object_row
  row_same =
      ap (λ (l : List Object). take (first_object id) objects ++ (take 32 (drop (first_object id) objects) ++ l)) (sym (drop-drop 32 (first_object id) objects))
      ∙ put_same (first_object id) 32 objects

  -- the row that is put is the row that is seen
  pub row_seen : (row : List Object) → length row ≡ 32 → object_row (with_object_row objects id row) id ≡ row
  unfolding with_object_row object_row
  row_seen row e =
      ap (take 32) (drop_at (take (first_object id) objects) (row ++ drop (first_object id + 32) objects) (first_object id) (length-take-le (first_object id) objects (omega arith)))
      ∙ take_at row (drop (first_object id + 32) objects) 32 e

pub row_elsewhere : (objects : List Object) (id k j : ℕ) (x : Object) → k < 32 → j ≢ id → object_row (set objects (first_object id + k) x) j ≡ object_row objects j
unfolding object_row
row_elsewhere objects id k j x h n = by (leb j id) refl
  where
    by : (b : Bool) → leb j id ≡ b → take 32 (drop (32 * j) (set objects (32 * id + k) x)) ≡ take 32 (drop (32 * j) objects)
    by true e = part_above objects (32 * j) 32 (32 * id + k) x (omega (arith, leb-true j id e, n))
    by false e = part_below objects (32 * j) 32 (32 * id + k) x (omega (arith, leb-false j id e))

-- ---- the operations

-- a session with other objects
abbrev pub with_objects : List Entry → Option Local → Option Local
with_objects es None = None
with_objects es (Some l) = Some (record { id = l.id; key = l.key; last = l.last; objects = es; streams = l.streams; store = l.store })

-- a part with n objects in another row
abbrev pub with_counted : ℕ → List Object → Part → Part
with_counted n row p = record { session = counted_session p.session n; objects = row; streams = p.streams; held = p.held; parts = p.parts; lengths = p.lengths }

counted_shown : (id n : ℕ) (row : List Object) (p : Part) → local_shown id (with_counted n row p) ≡ with_objects (listed n row) (local_shown id p)
counted_shown id n row p = by (eqb p.session.live 0)
  where
    by : (b : Bool) → cond b None (Some (session_shown id (with_counted n row p))) ≡ with_objects (listed n row) (cond b None (Some (session_shown id p)))
    by true = refl
    by false = refl

module _ (t : Tables) (id : ℕ) (id< : id < 256) (live : objects_named t.sessions (length t.objects) id ≡ (Ok true)) where
  abbrev row : List Object
  row = object_row t.objects id

  abbrev used : ℕ
  used = used_of t.sessions id

  abbrev place : ObjectNumber → Option ℕ
  place n = object_place row used n

  pub inside : first_object id + 32 ≤ length t.objects
  inside = (lent_row t.sessions t.objects id live id<).inside

  pub fits : used ≤ length row
  fits = let w = lent_row t.sessions t.objects id live id< in rw (row_length t.objects id inside) (omega (arith, w.within, w.long))

  rows_long : id < length t.sessions
  unfolding objects_named
  rows_long = omega (arith, (live_fits t.sessions id used 32 (length t.objects) 8192 live).rows_long)

  -- ---- find

  pub find_view : Distinct (object_numbers (objects_of t id)) → (n : ObjectNumber) → entry_found (found_object t.sessions t.objects id n) ≡ find_in (objects_of t id) n.0
  find_view different n = ap entry_found (sym (found_is t.sessions t.objects id n (Ok true) live)) ∙ find_shown row used fits different n

  -- ---- put

  module _ (o : Object) (room : slot_of (place o.number) used < 32) where
    pub in_row : slot_of (place o.number) used < length row
    in_row = rw (row_length t.objects id inside) room

    -- the answer is the number of objects
    pub put_counts : stored_object t.sessions t.objects id o ≡ Ok (Count (used_after (place o.number) used))
    put_counts =
        sym (stored_is t.sessions t.objects id o (Ok true) live)
        ∙ ap (λ (b : Bool). cond b (Ok (Count (used_after (place o.number) used))) (Ok Full)) (lt-ltb (slot_of (place o.number) used) (length row) in_row)

    pub put_rows : keep_stored t.sessions id (stored_object t.sessions t.objects id o) ≡ keep_used t.sessions id (used_after (place o.number) used)
    put_rows = ap (keep_stored t.sessions id) put_counts

    put_store : stored_objects t.sessions t.objects id o ≡ with_object_row t.objects id (stored_row row used o)
    put_store = sym (kept_is t.sessions t.objects id o (Ok true) live)

    pub put_set : stored_objects t.sessions t.objects id o ≡ set t.objects (first_object id + slot_of (place o.number) used) o
    put_set = put_store ∙ row_set t.objects id inside (slot_of (place o.number) used) o room

    pub put_part : table_part (put_tables t id o) id ≡ with_counted (used_after (place o.number) used) (stored_row row used o) (table_part t id)
    put_part =
        let e = ap (λ (rows : List (List ℕ)). session_at rows id) put_rows ∙ kept_here t.sessions id (counted_session (session_at t.sessions id) (used_after (place o.number) used)) rows_long in
        λ i. record {
          session = e i;
          held = held_part t.held (e i);
          parts = parts_of t (e i);
          lengths = lengths_of t (e i);
          objects = (ap (λ (l : List Object). object_row l id) put_store ∙ row_seen t.objects id inside (stored_row row used o) (length-set row (slot_of (place o.number) used) o ∙ row_length t.objects id inside)) i;
          streams = stream_rows t.streams id;
        }

    pub put_part_elsewhere : (j : ℕ) → j ≢ id → table_part (put_tables t id o) j ≡ table_part t j
    put_part_elsewhere j h =
        let e = ap (λ (rows : List (List ℕ)). session_at rows j) put_rows ∙ kept_elsewhere t.sessions id (counted_session (session_at t.sessions id) (used_after (place o.number) used)) j h in
        λ i. record {
          session = e i;
          held = held_part t.held (e i);
          parts = parts_of t (e i);
          lengths = lengths_of t (e i);
          objects = (ap (λ (l : List Object). object_row l j) put_set ∙ row_elsewhere t.objects id (slot_of (place o.number) used) j o room h) i;
          streams = stream_rows t.streams j;
        }

    pub put_here : Distinct (object_numbers (objects_of t id)) → local_of (put_tables t id o) id ≡ with_objects (put_in (objects_of t id) (entry_of o)) (local_of t id)
    put_here different =
        ap (local_shown id) put_part
        ∙ counted_shown id (used_after (place o.number) used) (stored_row row used o) (table_part t id)
        ∙ ap (λ (es : List Entry). with_objects es (local_of t id)) (put_shown row used fits different o in_row)

    pub put_elsewhere : (j : ℕ) → j ≢ id → local_of (put_tables t id o) j ≡ local_of t j
    put_elsewhere j h = ap (local_shown j) (put_part_elsewhere j h)

  -- a 33rd number has no place, and nothing changes
  module _ (o : Object) (none_left : 32 ≤ slot_of (place o.number) used) where
    past_row : length row ≤ slot_of (place o.number) used
    past_row = rw (row_length t.objects id inside) none_left

    pub put_full : stored_object t.sessions t.objects id o ≡ (Ok Full)
    put_full =
        sym (stored_is t.sessions t.objects id o (Ok true) live)
        ∙ ap (λ (b : Bool). cond b (Ok (Count (used_after (place o.number) used))) (Ok Full)) (le-ltb (slot_of (place o.number) used) (length row) past_row)

    pub put_nothing : put_tables t id o ≡ t
    put_nothing = λ i. record { sessions = ap (keep_stored t.sessions id) put_full i; streams = t.streams; objects = kept i; held = t.held; parts = t.parts; lengths = t.lengths; rebuilt = t.rebuilt }
      where
        kept : stored_objects t.sessions t.objects id o ≡ t.objects
        kept = sym (kept_is t.sessions t.objects id o (Ok true) live) ∙ ap (with_object_row t.objects id) (set_out row (slot_of (place o.number) used) o past_row) ∙ row_same t.objects id inside

  -- ---- remove

  abbrev last : Object
  last = get_or row (used - 1) blank

  -- the tables without the record at place k
  abbrev pub gone : ℕ → Tables
  gone k = record { sessions = keep_used t.sessions id (used - 1); streams = t.streams; objects = with_object_row t.objects id (set row k last); held = t.held; parts = t.parts; lengths = t.lengths; rebuilt = t.rebuilt }

  -- the tables after a removal, by the place of what is removed: what has a dependant stays
  abbrev pub dropped : Option ℕ → Tables
  dropped (Some k) = cond (depended_at row used fits (Some k)) t (gone k)
  dropped None = t

  pub by_place : (n : ObjectNumber) → drop_tables t id n ≡ dropped (place n)
  by_place n =
      (λ i. record {
        sessions = ap (keep_removed t.sessions id) (sym (taken_is t.sessions t.objects id n (Ok true) live)) i;
        streams = t.streams;
        objects = sym (removed_is t.sessions t.objects id n (Ok true) live) i;
        held = t.held;
        parts = t.parts;
        lengths = t.lengths;
        rebuilt = t.rebuilt;
      })
      ∙ by (place n)
    where
      at : (k : ℕ) (b : Bool)
          → ◌≡◌ {A = Tables}
          (record { sessions = keep_removed t.sessions id (cond b (Ok Depended) (Ok (Gone (get_or row k blank)))); streams = t.streams; objects = with_object_row t.objects id (cond b row (set row k last)); held = t.held; parts = t.parts; lengths = t.lengths; rebuilt = t.rebuilt })
          (cond b t (gone k))
      at k true = λ i. record { sessions = t.sessions; streams = t.streams; objects = row_same t.objects id inside i; held = t.held; parts = t.parts; lengths = t.lengths; rebuilt = t.rebuilt }
      at k false = refl

      by : (p : Option ℕ)
          → ◌≡◌ {A = Tables}
          (record { sessions = keep_removed t.sessions id (taken_of row used p); streams = t.streams; objects = with_object_row t.objects id (removed_row row used p); held = t.held; parts = t.parts; lengths = t.lengths; rebuilt = t.rebuilt })
          (dropped p)
      by (Some k) = at k (depended_at row used fits (Some k))
      by None = λ i. record { sessions = t.sessions; streams = t.streams; objects = row_same t.objects id inside i; held = t.held; parts = t.parts; lengths = t.lengths; rebuilt = t.rebuilt }

  pub dropped_part : (p : Option ℕ) → Under used p → table_part (dropped p) id ≡ with_counted (left row used fits p) (removed_row row used p) (table_part t id)
  dropped_part (Some k) h = by (depended_at row used fits (Some k))
    where
      by : (b : Bool) → table_part (cond b t (gone k)) id ≡ with_counted (cond b used (used - 1)) (cond b row (set row k last)) (table_part t id)
      by true = refl
      by false =
          let e = kept_here t.sessions id (counted_session (session_at t.sessions id) (used - 1)) rows_long in
          λ i. record {
            session = e i;
            held = held_part t.held (e i);
            parts = parts_of t (e i);
            lengths = lengths_of t (e i);
            objects = row_seen t.objects id inside (set row k last) (length-set row k last ∙ row_length t.objects id inside) i;
            streams = stream_rows t.streams id;
          }
  dropped_part None h = refl

  -- the store with a record less, as one record that is set
  pub gone_set : (k : ℕ) → k < used → (gone k).objects ≡ set t.objects (first_object id + k) last
  gone_set k h = row_set t.objects id inside k last (omega (arith, row_length t.objects id inside, fits))

  pub dropped_part_elsewhere : (j : ℕ) → j ≢ id → (p : Option ℕ) → Under used p → table_part (dropped p) j ≡ table_part t j
  dropped_part_elsewhere j h (Some k) u = by (depended_at row used fits (Some k))
    where
      by : (b : Bool) → table_part (cond b t (gone k)) j ≡ table_part t j
      by true = refl
      by false =
          let e = kept_elsewhere t.sessions id (counted_session (session_at t.sessions id) (used - 1)) j h in
          λ i. record {
            session = e i;
            held = held_part t.held (e i);
            parts = parts_of t (e i);
            lengths = lengths_of t (e i);
            objects = (ap (λ (l : List Object). object_row l j) (gone_set k u) ∙ row_elsewhere t.objects id k j last (omega (arith, row_length t.objects id inside, fits)) h) i;
            streams = stream_rows t.streams j;
          }
  dropped_part_elsewhere j h None u = refl

  pub drop_here : Distinct (object_numbers (objects_of t id)) → (n : ObjectNumber) → local_of (drop_tables t id n) id ≡ with_objects (remove_in (objects_of t id) n.0) (local_of t id)
  drop_here different n =
      ap (λ (u : Tables). local_of u id) (by_place n)
      ∙ ap (local_shown id) (dropped_part (place n) (place_under row n used))
      ∙ counted_shown id (left row used fits (place n)) (removed_row row used (place n)) (table_part t id)
      ∙ ap (λ (es : List Entry). with_objects es (local_of t id)) (drop_shown row used fits different n)

  pub drop_elsewhere : (n : ObjectNumber) (j : ℕ) → j ≢ id → local_of (drop_tables t id n) j ≡ local_of t j
  drop_elsewhere n j h = ap (λ (u : Tables). local_of u j) (by_place n) ∙ ap (local_shown j) (dropped_part_elsewhere j h (place n) (place_under row n used))
