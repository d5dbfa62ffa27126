-- The square of CREATE, DELETE and WRITE_DATA.
use Prim.Native.Nat.{ℕ, ◌<◌, ◌≤◌}
use mathlib.Core.Path.{◌≡◌, refl, sym, ap, ◌∙◌, subst}
use mathlib.Core.Bool.{Bool, true, false, cond}
use mathlib.Core.List.{List}
use native.Mathlib.Omega.{arith}
use borrow.Author.Tests.{lt-leb, le-leb, leb-false, ltb-true, ltb-false}
use lib.Dec.{eqb, leb, ltb}
use lib.ListN.{length, get_or}
use Rattle.codec.specs.Reading.{part_of}
use Rattle.codec.specs.Submessages.{kind_byte}
use Rattle.codec.specs.declared.layouts.Span.{Span}
use Rattle.codec.specs.declared.submessages.CreatePayload.{CreatePayload}
use Rattle.codec.specs.declared.submessages.ObjectKind.{ObjectKind}
use Rattle.codec.specs.declared.submessages.ObjectKind.TheVariants.{Participant, Topic, Publisher, Subscriber, DataWriter, DataReader}
use Rattle.codec.specs.declared.submessages.ObjectNumber.{ObjectNumber}
use Rattle.codec.specs.declared.submessages.DeletePayload.{DeletePayload}
use Rattle.codec.specs.declared.submessages.WriteDataPayload.{WriteDataPayload}
use Rattle.codec.specs.declared.submessages.StatusCode.TheVariants as status
use Rattle.codec.specs.declared.submessages.StatusCode.TheVariants.{ErrUnknownRef, ErrInvalidData, ErrIncompatible, ErrResources}
use Rattle.codec.specs.declared.submessages.Submessage.TheVariants as sub
use Rattle.sessions.specs.Table.{is_free, session_at}
use Rattle.sessions.specs.Objects.{blank, handle_of, implicit_of, object_place, found_of, slot_of}
use Rattle.sessions.specs.SessionObjects.{object_row, used_of, found_object}
use Rattle.sessions.specs.Dependants.{dependant_in, has_dependant}
use Rattle.sessions.specs.Removal.{remove_in, depended_in, taken_of, taken_object, depended_found}
use Rattle.sessions.specs.Room.{room_for, room_of}
use Rattle.sessions.specs.View.{Tables, Entry, Local, entry_of, blank_entry, place_in, held_at, find_in, put_in, drop_at}
use Rattle.sessions.specs.Calls.{SoundStream, SoundTables, put_tables, drop_tables}
use Rattle.sessions.specs.declared.objects.Handle.{Handle}
use Rattle.sessions.specs.declared.objects.Object.{Object}
use Rattle.sessions.specs.declared.objects.Taken.{Taken}
use Rattle.sessions.specs.declared.objects.Taken.TheVariants as taken
use Rattle.sessions.specs.declared.room.Room.{Room}
use Rattle.sessions.specs.declared.room.Room.TheVariants as room
use Rattle.sessions.proofs.ObjectSearch.{Under, place_under}
use Rattle.sessions.proofs.ViewObjects.{entry_found, listed_length, listed_at, place_shown}
use Rattle.sessions.proofs.ViewStores as stores
use Rattle.sessions.proofs.ViewStores.{fits, find_view, put_here, put_elsewhere, drop_here, drop_elsewhere}
use Rattle.sessions.proofs.session_objects.Laws.{found_is, taken_is, depended_is}
use Rattle.moves.specs.Calls.{Call, create_writer, create_reader, write_data, delete_entity, creating, writing, deleting}
use Rattle.agent.specs.Local.{with_objects, no_place, full, listing, dropping, entry_handle, handle_at}
use Rattle.agent.specs.Parents.{of_kind, both_handles, handles_above, handles_named}
use Rattle.moves.specs.Names.{names_in}
use Rattle.moves.specs.Moves.{found_handle, handle_of_kind, parent_of, topic_by, endpoint_call, endpoint_for, write_by, write_move, dropped_move, delete_move}
use Rattle.moves.specs.Proxy.{call_as}
use Rattle.moves.specs.Rows.{endpoint_in, create_move, created_sessions, created_objects, room_move, room_sessions, room_objects}
use Rattle.agent.specs.RulesObjects.{Move, Names, says, asks, if_handle, if_handles, names_of, create_named, create_with, create_for, on_create, drops, delete_found, on_delete, on_write}
use Rattle.moves.specs.declared.moves.Move as code
use Rattle.moves.specs.declared.moves.Move.TheVariants.{Status}
use Rattle.agent.proofs.NameParts.{bytes_of, names_same}
use Rattle.agent.proofs.Square.{outcome, shown_at, Meets, Squares, shown_live, reach_objects}
use Rattle.std.specs.Prelude.{Err, None, Ok, Result, Some, Option}
use Rattle.codec.specs.declared.refusals.Refusal.{Refusal}

-- ---- handles

-- a handle as the rules have it
abbrev pub handle_shown : Option Handle → Option ℕ
handle_shown (Some h) = Some h.0
handle_shown None = None

own_shown : (o : Object) → handle_shown (handle_of o) ≡ (entry_of o).handle
own_shown o = by (eqb o.bridged 0)
  where
    by : (b : Bool) → handle_shown (cond b None (Some (record { 0 = o.handle }))) ≡ cond b None (Some o.handle)
    by true = refl
    by false = refl

handle_shown_lem : (f : Result (Option Object) Refusal) → handle_shown (found_handle f) ≡ entry_handle (entry_found f)
handle_shown_lem (Ok (Some o)) = own_shown o
handle_shown_lem (Ok None) = refl
handle_shown_lem (Err r) = refl

-- the same of an object held with its kind
kind_shown : (kind : ObjectKind) (f : Result (Option Object) Refusal) → handle_shown (handle_of_kind f (kind_byte kind)) ≡ entry_handle (of_kind kind (entry_found f))
kind_shown kind (Ok (Some o)) = by (eqb o.kind (kind_byte kind))
  where
    by : (b : Bool) → handle_shown (cond b (handle_of o) None) ≡ entry_handle (cond b (Some (entry_of o)) None)
    by true = own_shown o
    by false = refl
kind_shown kind (Ok None) = refl
kind_shown kind (Err r) = refl

both_none : (x : Option ℕ) → both_handles x None ≡ None
both_none None = refl
both_none (Some p) = refl

module _ {most : ℕ} (t : Tables) (sound : SoundTables SoundStream most t) (id : ℕ) (id< : id < 256) (live : is_free t.sessions id ≡ false) (d : List ℕ) (n : ℕ) (body : Span) where
  abbrev l : Local
  l = shown_at t id

  abbrev found_at : ObjectNumber → Result (Option Object) Refusal
  found_at number = found_object t.sessions t.objects id number

  pub handle_view : (number : ObjectNumber) → handle_at number.0 l ≡ handle_shown (found_handle (found_at number))
  handle_view number = ap entry_handle (sym (find_view t id id< (reach_objects t sound id id< live) (sound.each id id<).objects_differ number)) ∙ sym (handle_shown_lem (found_at number))

  -- the two handles that a parent number names, by the objects that are fetched
  named_view : (parent : ℕ)
      → handles_named l.objects parent
      ≡ both_handles (handle_shown (handle_of_kind (found_at (parent_of (found_at (record { 0 = parent })))) 1)) (handle_shown (handle_of_kind (found_at (record { 0 = parent })) 2))
  named_view parent = ap (λ (x : Option Entry). handles_above l.objects (of_kind Topic x)) (found_view (record { 0 = parent })) ∙ by (found_at (record { 0 = parent }))
    where
      found_view : (number : ObjectNumber) → find_in l.objects number.0 ≡ entry_found (found_at number)
      found_view number = sym (find_view t id id< (reach_objects t sound id id< live) (sound.each id id<).objects_differ number)

      above : (number : ObjectNumber) → entry_handle (of_kind Participant (find_in l.objects number.0)) ≡ handle_shown (handle_of_kind (found_at number) 1)
      above number = ap (λ (x : Option Entry). entry_handle (of_kind Participant x)) (found_view number) ∙ sym (kind_shown Participant (found_at number))

      topic : (o : Object) (b : Bool)
          → handles_above l.objects (cond b (Some (entry_of o)) None) ≡ both_handles (handle_shown (handle_of_kind (found_at (record { 0 = o.parent })) 1)) (handle_shown (cond b (handle_of o) None))
      topic o true = λ i. both_handles (above (record { 0 = o.parent }) i) (sym (own_shown o) i)
      topic o false = sym (both_none (handle_shown (handle_of_kind (found_at (record { 0 = o.parent })) 1)))

      by : (f : Result (Option Object) Refusal) → handles_above l.objects (of_kind Topic (entry_found f)) ≡ both_handles (handle_shown (handle_of_kind (found_at (parent_of f)) 1)) (handle_shown (handle_of_kind f 2))
      by (Ok (Some o)) = topic o (eqb o.kind 2)
      by (Ok None) = sym (both_none (handle_shown (handle_of_kind (found_at (record { 0 = 0 })) 1)))
      by (Err r) = sym (both_none (handle_shown (handle_of_kind (found_at (record { 0 = 0 })) 1)))

  -- where the tables stay
  stays : (rule : Move) (m : code.Move) → rule ≡ outcome d t id n l m → Meets t d id n rule t m
  stays rule m e = record { after = l; shows = shown_live t id live; moves = e; elsewhere = λ j h. refl }

  -- ---- WRITE_DATA

  -- with a handle's option, and whether the minute is open
  abbrev writes : Bool → ObjectNumber → Option ℕ → Move
  writes is_open number h =
      if_handle h (λ w. cond is_open (asks n number.0 writing (write_data w (part_of d body)) l) (says n number.0 ErrIncompatible l)) (says n number.0 ErrUnknownRef l)

  write_moves : (is_open : Bool) (number : ObjectNumber) (h : Option Handle) → writes is_open number (handle_shown h) ≡ outcome d t id n l (write_by is_open number body h)
  write_moves true number (Some w) = refl
  write_moves false number (Some w) = refl
  write_moves is_open number None = refl

  pub write_square : (is_open : Bool) (p : WriteDataPayload) → Squares is_open (sub.WriteData p) t d id n body
  write_square is_open p =
      let number = p.writer_id in
      stays (on_write is_open n number.0 (part_of d body) l) (write_move is_open number body (found_at number))
      (ap (writes is_open number) (handle_view number) ∙ write_moves is_open number (found_handle (found_at number)))

  -- ---- the row

  abbrev row : List Object
  row = object_row t.objects id

  abbrev used : ℕ
  used = used_of t.sessions id

  count_shown : length l.objects ≡ used
  count_shown = listed_length row used (fits t id id< (reach_objects t sound id id< live))

  place_view : (number : ObjectNumber) → object_place row used number ≡ place_in l.objects number.0
  place_view number = place_shown row used (fits t id id< (reach_objects t sound id id< live)) (sound.each id id<).objects_differ number

  -- the object at a place, as the list has it
  entry_at : (k : ℕ) → k < used → get_or l.objects k blank_entry ≡ entry_of (get_or row k blank)
  entry_at k h = listed_at row used (fits t id id< (reach_objects t sound id id< live)) k h

  -- ---- DELETE

  -- what is left
  abbrev gone : ObjectNumber → Tables
  gone number = drop_tables t id number

  abbrev removing : ℕ → Local
  removing number = with_objects l (remove_in l.objects number)

  delete_at_lem : (number : ObjectNumber) (p : Option ℕ) → place_in l.objects number.0 ≡ p → Under used p
      → delete_found n number.0 (held_at l.objects p) l
      ≡ outcome d (gone number) id n (with_objects l (cond (has_dependant l.objects (held_at l.objects p)) l.objects (drop_at l.objects p))) (delete_move number (taken_of row used p))
  delete_at_lem number (Some k) q h =
      ap (λ (e : Entry). delete_found n number.0 (Some e) l) (entry_at k h)
      ∙ by (depended_in row used x)
      ∙ ap (λ (e : Entry). outcome d (gone number) id n (with_objects l (cond (dependant_in l.objects e) l.objects (drop_at l.objects (Some k)))) (delete_move number (taken_of row used (Some k)))) (sym (entry_at k h))
    where
      x : Object
      x = get_or row k blank

      left : Local
      left = with_objects l (drop_at l.objects (Some k))

      dropped : dropping number.0 l ≡ left
      dropped = ap (λ (p : Option ℕ). with_objects l (drop_at l.objects p)) q

      has : (h : Option Handle) → if_handle (handle_shown h) (λ x. asks n number.0 deleting (delete_entity x) left) (says n number.0 status.Ok left) ≡ outcome d (gone number) id n left (dropped_move number h)
      has (Some h) = refl
      has None = refl

      by : (b : Bool)
          → cond b (says n number.0 ErrIncompatible l) (drops n number.0 (entry_of x).handle l)
          ≡ outcome d (gone number) id n (with_objects l (cond b l.objects (drop_at l.objects (Some k)))) (delete_move number (cond b (Ok taken.Depended) (Ok (taken.Gone x))))
      by true = refl
      by false =
          ap (λ (m : Local). if_handle (entry_of x).handle (λ h. asks n number.0 deleting (delete_entity h) m) (says n number.0 status.Ok m)) dropped
          ∙ ap (λ (h : Option ℕ). if_handle h (λ h. asks n number.0 deleting (delete_entity h) left) (says n number.0 status.Ok left)) (sym (own_shown x))
          ∙ has (handle_of x)
  delete_at_lem number None q h = refl

  delete_moves : (number : ObjectNumber) → on_delete n number.0 l ≡ outcome d (gone number) id n (removing number.0) (delete_move number (taken_object t.sessions t.objects id number))
  delete_moves number =
      delete_at_lem number (place_in l.objects number.0) refl (subst (Under used) (place_view number) (place_under row number used))
      ∙ ap (λ (p : Option ℕ). outcome d (gone number) id n (removing number.0) (delete_move number (taken_of row used p))) (sym (place_view number))
      ∙ ap (λ (x : Result Taken Refusal). outcome d (gone number) id n (removing number.0) (delete_move number x)) (taken_is t.sessions t.objects id number (Ok true) (reach_objects t sound id id< live))

  pub delete_square : (is_open : Bool) (p : DeletePayload) → Squares is_open (sub.Delete p) t d id n body
  delete_square is_open p =
      let number = p.object_id in
      let reached = reach_objects t sound id id< live in
      record {
        after = removing number.0;
        shows = drop_here t id id< reached (sound.each id id<).objects_differ number ∙ ap (stores.with_objects (remove_in l.objects number.0)) (shown_live t id live);
        moves = delete_moves number;
        elsewhere = drop_elsewhere t id id< reached number;
      }

  -- ---- CREATE

  -- where there is room: not past the count, and no dependant of the object that has the number
  abbrev room_by : Bool → Bool → Result Room Refusal
  room_by past depended = cond past (Ok room.Full) (cond depended (Ok room.Depended) (Ok room.Free))

  room_view : (number : ObjectNumber) → room_of t.sessions t.objects id number ≡ room_by (full number.0 l) (has_dependant l.objects (find_in l.objects number.0))
  unfolding room_of
  room_view number =
      ap (λ (f : Result (Option Object) Refusal). room_for f (depended_found t.sessions t.objects id f) (session_at t.sessions id)) (sym (found_is t.sessions t.objects id number (Ok true) (reach_objects t sound id id< live)))
      ∙ by (object_place row used number) (place_under row number used)
      ∙ ap (λ (p : Option ℕ). room_by (no_place (held_at l.objects p) l.objects) (has_dependant l.objects (held_at l.objects p))) (place_view number)
    where
      count : (b : Bool) → ltb used 32 ≡ b → ◌≡◌ {A = Result Room Refusal} (cond b (Ok room.Free) (Ok room.Full)) (cond (leb 32 (length l.objects)) (Ok room.Full) (Ok room.Free))
      count true e = rw (lt-leb 32 (length l.objects) (rw count_shown (ltb-true used 32 e))) refl
      count false e = rw (le-leb 32 (length l.objects) (rw count_shown (ltb-false used 32 e))) refl

      by : (p : Option ℕ) → Under used p
          → room_for (found_of row p) (depended_found t.sessions t.objects id (found_of row p)) (session_at t.sessions id)
          ≡ room_by (no_place (held_at l.objects p) l.objects) (has_dependant l.objects (held_at l.objects p))
      by (Some i) h =
          ap (λ (b : Bool). cond b (Ok room.Depended) (Ok room.Free))
          (sym (depended_is t.sessions t.objects id (get_or row i blank) (Ok true) (reach_objects t sound id id< live)) ∙ ap (λ (e : Entry). dependant_in l.objects e) (sym (entry_at i h)))
      by None h = ap (λ (b : Bool). cond b (Ok room.NotLive) (cond (ltb used 32) (Ok room.Free) (Ok room.Full))) live ∙ count (ltb used 32) refl

  -- where there is room, the object has a place in the row
  pub slot_in : (number : ObjectNumber) → full number.0 l ≡ false → slot_of (object_place row used number) used < 32
  slot_in number e =
      by (object_place row used number) (place_under row number used) (ap (λ (p : Option ℕ). no_place (held_at l.objects p) l.objects) (place_view number) ∙ e)
    where
      few : used ≤ 32
      few = (sound.each id id<).few_objects

      by : (p : Option ℕ) → Under used p → no_place (held_at l.objects p) l.objects ≡ false → slot_of p used < 32
      by (Some i) h e = omega (arith, few)
      by None h e = let a : length l.objects < 32 = leb-false 32 (length l.objects) e in omega (arith, count_shown)

  -- a Topic, by its names and its parent's handle
  named_moves : (number : ObjectNumber) (parent : ℕ) (x : Option (Span × Span)) (h : Option Handle) → handle_at parent l ≡ handle_shown h
      → create_named (bytes_of d x) n number.0 parent l ≡ outcome d t id n l (topic_by number parent x h)
  named_moves number parent (Some (name, type)) (Some p) e = rw e
  named_moves number parent (Some (name, type)) None e = rw e
  named_moves number parent None (Some p) e = refl
  named_moves number parent None None e = refl

  topic_moves : (number : ObjectNumber) (parent : ℕ) (h : Option Handle) → handle_at parent l ≡ handle_shown h
      → create_named (names_of (part_of d body)) n number.0 parent l ≡ outcome d t id n l (topic_by number parent (names_in d body) h)
  topic_moves number parent h e = ap (λ (x : Option Names). create_named x n number.0 parent l) (sym (names_same d body)) ∙ named_moves number parent (names_in d body) h e

  -- a writer or a reader, whose call is made of the two handles
  with_moves : (number : ObjectNumber) (kind : ObjectKind) (parent : ℕ) (call : ℕ → ℕ → Call)
      → ((p t : Handle) → call_as d (endpoint_call (kind_byte kind) p t) ≡ call p.0 t.0)
      → (p q : Option Handle)
      → if_handles (both_handles (handle_shown p) (handle_shown q)) (λ p t. asks n number.0 (creating (kind_byte kind) parent) (call p t) l) (says n number.0 ErrInvalidData l)
      ≡ outcome d t id n l (endpoint_for number (kind_byte kind) parent p q)
  with_moves number kind parent call e (Some p) (Some t) = ap (λ (c : Call). asks n number.0 (creating (kind_byte kind) parent) c l) (sym (e p t))
  with_moves number kind parent call e (Some p) None = refl
  with_moves number kind parent call e None t = refl

  with_view : (number : ObjectNumber) (kind : ObjectKind) (parent : ℕ) (call : ℕ → ℕ → Call)
      → ((p t : Handle) → call_as d (endpoint_call (kind_byte kind) p t) ≡ call p.0 t.0)
      → create_with kind n number.0 parent call l ≡ outcome d t id n l (endpoint_in t.sessions t.objects id number (kind_byte kind) parent)
  with_view number kind parent call e =
      let topic = found_at (record { 0 = parent }) in
      ap (λ (x : Option (ℕ × ℕ)). if_handles x (λ p t. asks n number.0 (creating (kind_byte kind) parent) (call p t) l) (says n number.0 ErrInvalidData l)) (named_view parent)
      ∙ with_moves number kind parent call e (handle_of_kind (found_at (parent_of topic)) 1) (handle_of_kind topic 2)

  -- a Publisher or a Subscriber is listed
  lists : (number : ObjectNumber) (kind parent : ℕ) → full number.0 l ≡ false
      → Meets t d id n (says n number.0 status.Ok (listing number.0 kind None parent l)) (put_tables t id (implicit_of number kind parent)) (Status number status.Ok)
  lists number kind parent e =
      let o = implicit_of number kind parent in
      let reached = reach_objects t sound id id< live in
      record {
        after = listing number.0 kind None parent l;
        shows = put_here t id id< reached o (slot_in number e) (sound.each id id<).objects_differ ∙ ap (stores.with_objects (put_in l.objects (entry_of o))) (shown_live t id live);
        moves = refl;
        elsewhere = put_elsewhere t id id< reached o (slot_in number e);
      }

  module _ (p : CreatePayload) where
    abbrev number : ObjectNumber
    number = p.object_id

    abbrev rule : Move
    rule = create_for p.kind n number.0 p.parent_id (part_of d body) l

    abbrev created_in : ObjectKind → Tables
    created_in k =
        record {
          sessions = created_sessions k t.sessions t.objects id number p.parent_id;
          streams = t.streams;
          objects = created_objects k t.sessions t.objects id number p.parent_id;
          held = t.held;
          parts = t.parts;
          lengths = t.lengths;
          rebuilt = t.rebuilt;
        }

    -- each kind, where there is room
    free_square : (k : ObjectKind) → full number.0 l ≡ false
        → Meets t d id n (create_for k n number.0 p.parent_id (part_of d body) l) (created_in k) (create_move k t.sessions t.objects d id number p.parent_id body)
    free_square Participant e = stays _ _ refl
    free_square Topic e =
        let parent : ObjectNumber = record { 0 = p.parent_id } in
        stays _ _ (topic_moves number p.parent_id (found_handle (found_at parent)) (handle_view parent))
    free_square Publisher e = lists number 3 p.parent_id e
    free_square Subscriber e = lists number 4 p.parent_id e
    free_square DataWriter e = stays _ _ (with_view number DataWriter p.parent_id create_writer (λ p t. refl))
    free_square DataReader e = stays _ _ (with_view number DataReader p.parent_id create_reader (λ p t. refl))

    abbrev room_tables : Result Room Refusal → Tables
    room_tables r =
        record {
          sessions = room_sessions r t.sessions t.objects id number p.kind p.parent_id;
          streams = t.streams;
          objects = room_objects r t.sessions t.objects id number p.kind p.parent_id;
          held = t.held;
          parts = t.parts;
          lengths = t.lengths;
          rebuilt = t.rebuilt;
        }

    pub create_square : (is_open : Bool) → Squares is_open (sub.Create p) t d id n body
    create_square is_open =
        subst (λ (r : Result Room Refusal). Meets t d id n (on_create p.kind n number.0 p.parent_id (part_of d body) l) (room_tables r) (room_move r t.sessions t.objects d id number p.kind p.parent_id body))
        (sym (room_view number)) (by (full number.0 l) (has_dependant l.objects (find_in l.objects number.0)) refl)
      where
        by : (b c : Bool) → full number.0 l ≡ b
            → Meets t d id n (cond b (says n number.0 ErrResources l) (cond c (says n number.0 ErrIncompatible l) rule)) (room_tables (room_by b c)) (room_move (room_by b c) t.sessions t.objects d id number p.kind p.parent_id body)
        by true c e = stays _ _ refl
        by false true e = stays _ _ refl
        by false false e = free_square p.kind e
