-- Each call leads from sound tables to sound tables: what it changes of the part of an id, and of the lengths of the stores.
use Prim.Native.Nat.{ℕ, ◌+◌, ◌-◌, ◌<◌, ◌≤◌}
use mathlib.Core.Path.{◌≡◌, refl, sym, ap, ◌∙◌, subst}
use mathlib.Core.Logic.{◌≢◌}
use mathlib.Core.Bool.{Bool, true, false, cond}
use mathlib.Core.List.{List, []}
use native.Mathlib.Omega.{arith}
use borrow.Author.Tests.{eqb-true, eqb-false, ltb-true, leb-true, leb-false}
use lib.Dec.{eqb, leb, ltb}
use lib.ListN.{length, get_or, set, length-set}
use lib.Seq.{get_or-set_same, get_or-set_other}
use Rattle.codec.specs.Reassembly.{any_of}
use Rattle.codec.specs.Inserts.{slots_of, held_in}
use Rattle.codec.specs.Inserts as codec
use Rattle.codec.specs.declared.refusals.Refusal.TheVariants.{SessionFull, OverLimit}
use Rattle.codec.specs.declared.submessages.ObjectNumber.{ObjectNumber}
use Rattle.streams.specs.State.{new_stream}
use Rattle.streams.specs.declared.state.StreamState.{StreamState}
use Rattle.sessions.specs.Table.{row_of, session_of, session_at, keep_session, table_fits, is_free, named_of, kept_rows, touched_session, touched_rows, ended_session, ended_rows}
use Rattle.sessions.specs.Need.{held_need, parts_need, lengths_need, rebuilt_need, stores_fit}
use Rattle.sessions.specs.Opening.{after, live_of, free_of, open_fits, chosen_of, created_of, free_slot}
use Rattle.sessions.specs.Held.{held_part}
use Rattle.sessions.specs.Fragments.{buffer_with}
use Rattle.sessions.specs.Setup.{no_stream, empty_sessions, empty_streams, empty_objects, first_id, set_up_of}
use Rattle.sessions.specs.Sweep.{goes, expired_ids, swept_rows, evicted_rows}
use Rattle.sessions.specs.Streams.{stream_row, stream_of, streams_fit, first_stream}
use Rattle.sessions.specs.Objects.{blank, slot_of, used_after, object_place}
use Rattle.sessions.specs.SessionObjects.{object_row, used_of, counted_session, objects_named, stored_object, keep_stored}
use Rattle.sessions.specs.Removal.{taken_object, keep_removed}
use Rattle.sessions.specs.SessionStreams.{streams_used, streamed_session, streams_named, stream_place, opened_count, state_at, read_as}
use Rattle.sessions.specs.View.{Tables, Part, Entry, KeptStream, entry_of, listed, shown_from, opened, stream_rows, table_part, stream_in, Distinct, object_numbers, stream_numbers}
use Rattle.sessions.specs.Calls.{with_sessions, set_up_tables, create_tables, put_tables, drop_tables, open_tables, write_tables, Lasting, SoundPart, SoundSlots, SoundTables, LeadsTo}
use Rattle.sessions.specs.declared.objects.Object.{Object}
use Rattle.sessions.specs.declared.objects.Stored.{Stored}
use Rattle.sessions.specs.declared.objects.Stored.TheVariants as stored
use Rattle.sessions.specs.declared.objects.Taken.{Taken}
use Rattle.sessions.specs.declared.objects.Taken.TheVariants as taken
use Rattle.sessions.specs.declared.session_streams.StreamPlace.{StreamPlace}
use Rattle.sessions.specs.declared.session_streams.StreamPlace.TheVariants.{Have, Add, Full, NotLive}
use Rattle.sessions.specs.declared.session_streams.StreamRead.{StreamRead}
use Rattle.sessions.specs.declared.table.ClientSession.{ClientSession}
use Rattle.sessions.proofs.ObjectSearch.{Under, place_under}
use Rattle.sessions.proofs.Chosen.{found_by_lem}
use Rattle.sessions.proofs.Kept.{none_distinct, one_distinct, put_distinct, remove_distinct, open_distinct, write_numbers}
use Rattle.sessions.proofs.Reached.{named_when}
use Rattle.sessions.proofs.ViewObjects.{depended_at, left, put_shown, drop_shown}
use Rattle.sessions.proofs.ViewTable as table
use Rattle.sessions.proofs.Slots as slots
use Rattle.sessions.proofs.StreamBack.{new_shown, row_shown}
use Rattle.sessions.proofs.ViewStores as stores
use Rattle.sessions.proofs.ViewStreams as streams
use Rattle.sessions.proofs.session_objects.Laws.{taken_is, stored_is, kept_is, removed_is}
use Rattle.sessions.proofs.setup.Laws.{Long, accepts, both, cleared_at, cleared_length}
use Rattle.sessions.proofs.table.Laws.{reach_named}
use Rattle.std.specs.Prelude.{Err, None, Ok, Option, Result, Some}
use Rattle.codec.specs.declared.refusals.Refusal.{Refusal}

never : {b : Bool} → b ≡ true → b ≡ false → ⊥
never p q = let z : ◌≡◌ {A = ℕ} 0 1 = cc in omega arith

kept_length_lem : (w : Result Bool Refusal) (rows : List (List ℕ)) (id : ℕ) (s : ClientSession) → length (kept_rows w rows id s) ≡ length rows
kept_length_lem (Ok true) rows id s = length-set rows id (row_of s)
kept_length_lem (Ok false) rows id s = refl
kept_length_lem (Err r) rows id s = refl

-- a store of no fragments
pub no_fragments : (parts lengths : List ℕ) → codec.Sound (record { buffer = buffer_with 0 0; slots = parts; lengths = lengths })
unfolding any_of slots_of held_in
no_fragments parts lengths = record { there = omega arith; entries = omega arith; within = refl; counted = refl }

-- no pointer past the last id leads to one past it
module _ (sessions streams : List (List ℕ)) (max next : ℕ) (next< : next < 256) where
  fits_next : open_fits sessions streams max next ≡ true → 1 ≤ next
  unfolding open_fits
  fits_next e =
      let a = (both (table_fits sessions) _ e).1 in
      let b = (both (streams_fit streams) _ a).1 in
      ltb-true 0 next (both (leb max 255) (ltb 0 next) b).1

  fits_max : open_fits sessions streams max next ≡ true → max ≤ 255
  unfolding open_fits
  fits_max e =
      let a = (both (table_fits sessions) _ e).1 in
      let b = (both (streams_fit streams) _ a).1 in
      leb-true max 255 (both (leb max 255) (ltb 0 next) b).0

  fresh_id : open_fits sessions streams max next ≡ true → free_of sessions next ≢ 0 → (1 ≤ free_of sessions next) × (free_of sessions next < 256)
  fresh_id e n = let f = found_by_lem sessions next (fits_next e) (omega arith) n in (f.1, omega (arith, f.2))

module _ (P : StreamState → Type 0) (lasting : Lasting P) (most : ℕ) where
  -- ---- a part of which nothing is in use

  ended_sound : (t : Tables) (p : Part) → SoundPart P (table.with_session t ended_session p)
  unfolding listed opened shown_from
  ended_sound t p = record {
    few_objects = omega arith;
    few_streams = omega arith;
    objects_differ = none_distinct;
    streams_differ = none_distinct;
    written = λ k h. let z : ⊥ = omega arith in absurd z;
    few_fragments = omega arith;
    fragments = no_fragments (table.parts_of t ended_session) (table.lengths_of t ended_session);
    fragments_gone = λ e. refl;
    stream_zero = λ e. absurd (never refl e);
  }

  -- ---- tables that differ in the part of one id

  record Changed (t t' : Tables) (id : ℕ) : Type 0 where
    pub sessions_length : length t'.sessions ≡ length t.sessions
    pub streams_length : length t'.streams ≡ length t.streams
    pub objects_length : length t'.objects ≡ length t.objects
    pub held_length : length t'.held ≡ length t.held
    pub parts_length : length t'.parts ≡ length t.parts
    pub lengths_length : length t'.lengths ≡ length t.lengths
    pub rebuilt_length : length t'.rebuilt ≡ length t.rebuilt
    pub elsewhere : (j : ℕ) → j ≢ id → table_part t' j ≡ table_part t j
    pub here : SoundPart P (table_part t' id)

  -- the session of an id that is still live has the slot that it had
  abbrev SameSlot : Tables → Tables → ℕ → Type 0
  SameSlot t t' id = is_free t'.sessions id ≡ false → (session_at t'.sessions id).slot ≡ (session_at t.sessions id).slot

  module _ (t : Tables) (d : SoundTables P most t) where
    pub same_led : LeadsTo P most t t
    same_led = record { sound = d; sessions_length = refl; streams_length = refl; objects_length = refl; held_length = refl; parts_length = refl; lengths_length = refl; rebuilt_length = refl }

    same_changed : (id : ℕ) → id < 256 → Changed t t id
    same_changed id h = record { sessions_length = refl; streams_length = refl; objects_length = refl; held_length = refl; parts_length = refl; lengths_length = refl; rebuilt_length = refl; elsewhere = λ j n. refl; here = d.each id h }

    -- the slots stay sound where those of live sessions stay
    pub same_slots : (rows : List (List ℕ)) → ((j : ℕ) → j < 256 → is_free rows j ≡ false → (is_free t.sessions j ≡ false) × ((session_at rows j).slot ≡ (session_at t.sessions j).slot)) → SoundSlots most rows
    same_slots rows f = record {
      under = λ j h e. let g = f j h e in rw g.1 (d.slots.under j h g.0);
      differ = λ i j a b x y e. let p = f i a x in let q = f j b y in d.slots.differ i j a b p.0 q.0 (sym p.1 ∙ e ∙ q.1);
    }

    session_elsewhere : (t' : Tables) (id : ℕ) → Changed t t' id → (j : ℕ) → j ≢ id → session_at t'.sessions j ≡ session_at t.sessions j
    session_elsewhere t' id c j h = ap (λ (p : Part). p.session) (c.elsewhere j h)

    changed_slots : (t' : Tables) (id : ℕ) → is_free t.sessions id ≡ false → Changed t t' id → SameSlot t t' id → SoundSlots most t'.sessions
    changed_slots t' id live c same = same_slots t'.sessions (λ j h e. by j e (eqb j id) refl)
      where
        by : (j : ℕ) → is_free t'.sessions j ≡ false → (b : Bool) → eqb j id ≡ b → (is_free t.sessions j ≡ false) × ((session_at t'.sessions j).slot ≡ (session_at t.sessions j).slot)
        by j e true q = let z : j ≡ id = eqb-true j id q in (ap (is_free t.sessions) z ∙ live, rw z (same (ap (is_free t'.sessions) (sym z) ∙ e)))
        by j e false q =
            let z = session_elsewhere t' id c j (eqb-false j id q) in
            (sym (ap (λ (s : ClientSession). eqb s.live 0) z) ∙ e, ap (λ (s : ClientSession). s.slot) z)

    changed_led : (t' : Tables) (id : ℕ) → 1 ≤ id → Changed t t' id → SoundSlots most t'.sessions → LeadsTo P most t t'
    changed_led t' id low c slots = record {
      sound = record {
        sessions_need_lem = rw c.sessions_length d.sessions_need_lem;
        streams_need_lem = rw c.streams_length d.streams_need_lem;
        objects_need_lem = rw c.objects_length d.objects_need_lem;
        held_need_lem = rw c.held_length d.held_need_lem;
        parts_need_lem = rw c.parts_length d.parts_need_lem;
        lengths_need_lem = rw c.lengths_length d.lengths_need_lem;
        rebuilt_need_lem = rw c.rebuilt_length d.rebuilt_need_lem;
        zero_free = ap (λ (p : Part). eqb p.session.live 0) (c.elsewhere 0 (λ e. omega arith)) ∙ d.zero_free;
        slots = slots;
        each = λ j h. by j h (eqb j id) refl;
      };
      sessions_length = c.sessions_length;
      streams_length = c.streams_length;
      objects_length = c.objects_length;
      held_length = c.held_length;
      parts_length = c.parts_length;
      lengths_length = c.lengths_length;
      rebuilt_length = c.rebuilt_length;
    }
      where
        by : (j : ℕ) → j < 256 → (b : Bool) → eqb j id ≡ b → SoundPart P (table_part t' j)
        by j h true e = subst (λ (k : ℕ). SoundPart P (table_part t' k)) (sym (eqb-true j id e)) c.here
        by j h false e = subst (SoundPart P) (sym (c.elsewhere j (eqb-false j id e))) (d.each j h)

    -- id 0 is not live
    live_id : (id : ℕ) → is_free t.sessions id ≡ false → 1 ≤ id
    live_id id e = by (eqb id 0) refl
      where
        by : (b : Bool) → eqb id 0 ≡ b → 1 ≤ id
        by true z = absurd (never d.zero_free (sym (ap (is_free t.sessions) (eqb-true id 0 z)) ∙ e))
        by false z = let n : id ≢ 0 = eqb-false id 0 z in omega (arith, n)

    -- a call on an id changes nothing where it is not live
    call_led : (t' : Tables) (id : ℕ) → (is_free t.sessions id ≡ true → t' ≡ t) → (is_free t.sessions id ≡ false → Changed t t' id × SameSlot t t' id) → LeadsTo P most t t'
    call_led t' id free live = by (is_free t.sessions id) refl
      where
        by : (b : Bool) → is_free t.sessions id ≡ b → LeadsTo P most t t'
        by true e = subst (LeadsTo P most t) (sym (free e)) same_led
        by false e = let c = live e in changed_led t' id (live_id id e) c.0 (changed_slots t' id e c.0 c.1)

    -- ---- what an id names: never 16

    pub objects_named_lem : (id : ℕ) → id < 256 → objects_named t.sessions (length t.objects) id ≡ cond (is_free t.sessions id) (Ok false) (Ok true)
    unfolding objects_named
    objects_named_lem id h =
        sym (reach_named t.sessions id (used_of t.sessions id) 32 (length t.objects) 8192 d.objects_need_lem (d.each id h).few_objects)
        ∙ named_when t.sessions id d.sessions_need_lem

    pub streams_named_lem : (id : ℕ) → id < 256 → streams_named t.sessions (length t.streams) id ≡ cond (is_free t.sessions id) (Ok false) (Ok true)
    unfolding streams_named
    streams_named_lem id h =
        sym (reach_named t.sessions id (streams_used t.sessions id) 8 (length t.streams) 2048 d.streams_need_lem (d.each id h).few_streams)
        ∙ named_when t.sessions id d.sessions_need_lem

    -- ---- a session that changes

    module _ (id : ℕ) (id< : id < 256) (s : ClientSession) where
      session_changed : SoundPart P (table.with_session t s (table_part t id)) → is_free t.sessions id ≡ false → Changed t (table.changed t id d.sessions_need_lem id< s) id
      session_changed g live = record {
        sessions_length = kept_length_lem (named_of t.sessions id) t.sessions id s;
        streams_length = refl;
        objects_length = refl;
        held_length = refl;
        parts_length = refl;
        lengths_length = refl;
        rebuilt_length = refl;
        elsewhere = table.changed_elsewhere t id d.sessions_need_lem id< s;
        here = subst (SoundPart P) (sym (table.changed_here t id d.sessions_need_lem id< s live)) g;
      }

      session_led : SoundPart P (table.with_session t s (table_part t id)) → (eqb s.live 0 ≡ false → s.slot ≡ (session_at t.sessions id).slot) → LeadsTo P most t (table.changed t id d.sessions_need_lem id< s)
      session_led g same = call_led (table.changed t id d.sessions_need_lem id< s) id (table.changed_free t id d.sessions_need_lem id< s) (λ e. (session_changed g e, slot_same e))
        where
          slot_same : is_free t.sessions id ≡ false → SameSlot t (table.changed t id d.sessions_need_lem id< s) id
          slot_same e f =
              let z = ap (λ (p : Part). p.session) (table.changed_here t id d.sessions_need_lem id< s e) in
              ap (λ (x : ClientSession). x.slot) z ∙ same (sym (ap (λ (x : ClientSession). eqb x.live 0) z) ∙ f)

    pub touch_led : (id time : ℕ) → id < 256 → LeadsTo P most t (with_sessions t (touched_rows t.sessions id time))
    unfolding touched_rows
    touch_led id time h =
        let g = d.each id h in
        session_led id h (touched_session (session_at t.sessions id) time)
        (record { few_objects = g.few_objects; few_streams = g.few_streams; objects_differ = g.objects_differ; streams_differ = g.streams_differ; written = g.written; few_fragments = g.few_fragments; fragments = g.fragments; fragments_gone = g.fragments_gone; stream_zero = g.stream_zero })
        (λ e. refl)

    pub remove_led : (id : ℕ) → id < 256 → LeadsTo P most t (with_sessions t (ended_rows t.sessions id))
    unfolding ended_rows
    remove_led id h = session_led id h ended_session (ended_sound t (table_part t id)) (λ e. absurd (never refl e))

    -- ---- a sweep

    swept_led : (time timeout : ℕ) → LeadsTo P most t (with_sessions t (swept_rows t.sessions time timeout))
    unfolding swept_rows
    swept_led time timeout = record {
      sound = record {
        sessions_need_lem = rw long d.sessions_need_lem;
        streams_need_lem = d.streams_need_lem;
        objects_need_lem = d.objects_need_lem;
        held_need_lem = d.held_need_lem;
        parts_need_lem = d.parts_need_lem;
        lengths_need_lem = d.lengths_need_lem;
        rebuilt_need_lem = d.rebuilt_need_lem;
        zero_free = ap (λ (s : ClientSession). eqb s.live 0) first ∙ d.zero_free;
        slots = same_slots (swept_rows t.sessions time timeout) (λ j h e. still j h e (eqb j 0) refl);
        each = λ j h. by j h (eqb j 0) refl;
      };
      sessions_length = long;
      streams_length = refl;
      objects_length = refl;
      held_length = refl;
      parts_length = refl;
      lengths_length = refl;
      rebuilt_length = refl;
    }
      where
        long : length (swept_rows t.sessions time timeout) ≡ length t.sessions
        long = table.swept_all time timeout t.sessions 1 255

        first : session_at (swept_rows t.sessions time timeout) 0 ≡ session_at t.sessions 0
        first = table.swept_outside time timeout t.sessions 1 255 0 (λ a b. omega arith)

        -- who is left was there, with the same slot
        stayed : (j : ℕ) (g : Bool) → eqb (cond g ended_session (session_at t.sessions j)).live 0 ≡ false
            → (is_free t.sessions j ≡ false) × ((cond g ended_session (session_at t.sessions j)).slot ≡ (session_at t.sessions j).slot)
        stayed j true e = absurd (never refl e)
        stayed j false e = (e, refl)

        still : (j : ℕ) → j < 256 → is_free (swept_rows t.sessions time timeout) j ≡ false → (b : Bool) → eqb j 0 ≡ b
            → (is_free t.sessions j ≡ false) × ((session_at (swept_rows t.sessions time timeout) j).slot ≡ (session_at t.sessions j).slot)
        still j h e true q =
            let z : j ≡ 0 = eqb-true j 0 q in
            let w = ap (session_at (swept_rows t.sessions time timeout)) z ∙ first ∙ sym (ap (session_at t.sessions) z) in
            (sym (ap (λ (s : ClientSession). eqb s.live 0) w) ∙ e, ap (λ (s : ClientSession). s.slot) w)
        still j h e false q =
            let n : j ≢ 0 = eqb-false j 0 q in
            let w = ap (λ (p : Part). p.session) (table.swept_part time timeout t j d.sessions_need_lem (omega (arith, n)) h) in
            let g = stayed j (goes t.sessions time timeout j) (sym (ap (λ (s : ClientSession). eqb s.live 0) w) ∙ e) in
            (g.0, ap (λ (s : ClientSession). s.slot) w ∙ g.1)

        either : (j : ℕ) → j < 256 → (g : Bool) → SoundPart P (table.with_session t (cond g ended_session (session_at t.sessions j)) (table_part t j))
        either j h true = ended_sound t (table_part t j)
        either j h false = d.each j h

        by : (j : ℕ) → j < 256 → (b : Bool) → eqb j 0 ≡ b → SoundPart P (table_part (with_sessions t (swept_rows t.sessions time timeout)) j)
        by j h true e =
            subst (λ (k : ℕ). SoundPart P (table_part (with_sessions t (swept_rows t.sessions time timeout)) k)) (sym (eqb-true j 0 e))
            (subst (SoundPart P) (sym (ap (λ (s : ClientSession). table.with_session t s (table_part t 0)) first)) (d.each 0 (omega arith)))
        by j h false e =
            let n : j ≢ 0 = eqb-false j 0 e in
            subst (SoundPart P) (sym (table.swept_part time timeout t j d.sessions_need_lem (omega (arith, n)) h)) (either j h (goes t.sessions time timeout j))

    pub sweep_led : (time timeout : ℕ) (out : List ℕ) → LeadsTo P most t (with_sessions t (evicted_rows t.sessions time timeout out))
    unfolding evicted_rows
    sweep_led time timeout out = by (table_fits t.sessions) (ltb (length out) (length (expired_ids t.sessions time timeout)))
      where
        by : (a b : Bool) → LeadsTo P most t (with_sessions t (cond a (cond b t.sessions (swept_rows t.sessions time timeout)) t.sessions))
        by true true = same_led
        by true false = swept_led time timeout
        by false b = same_led

    -- ---- objects

    module _ (id : ℕ) (id< : id < 256) where
      module _ (free : is_free t.sessions id ≡ true) where
        no_objects : objects_named t.sessions (length t.objects) id ≡ (Ok false)
        no_objects = objects_named_lem id id< ∙ ap (λ (b : Bool). cond b (Ok false) (Ok true)) free

        put_free : (o : Object) → put_tables t id o ≡ t
        put_free o = λ i. record {
          sessions = ap (keep_stored t.sessions id) (sym (stored_is t.sessions t.objects id o (Ok false) no_objects)) i;
          streams = t.streams;
          objects = sym (kept_is t.sessions t.objects id o (Ok false) no_objects) i;
          held = t.held;
          parts = t.parts;
          lengths = t.lengths;
          rebuilt = t.rebuilt;
        }

        drop_free : (n : ObjectNumber) → drop_tables t id n ≡ t
        drop_free n = λ i. record {
          sessions = ap (keep_removed t.sessions id) (sym (taken_is t.sessions t.objects id n (Ok false) no_objects)) i;
          streams = t.streams;
          objects = sym (removed_is t.sessions t.objects id n (Ok false) no_objects) i;
          held = t.held;
          parts = t.parts;
          lengths = t.lengths;
          rebuilt = t.rebuilt;
        }

        no_streams : streams_named t.sessions (length t.streams) id ≡ (Ok false)
        no_streams = streams_named_lem id id< ∙ ap (λ (b : Bool). cond b (Ok false) (Ok true)) free

      module _ (live : is_free t.sessions id ≡ false) where
        its_objects : objects_named t.sessions (length t.objects) id ≡ (Ok true)
        its_objects = objects_named_lem id id< ∙ ap (λ (b : Bool). cond b (Ok false) (Ok true)) live

        its_streams : streams_named t.sessions (length t.streams) id ≡ (Ok true)
        its_streams = streams_named_lem id id< ∙ ap (λ (b : Bool). cond b (Ok false) (Ok true)) live

        g : SoundPart P (table_part t id)
        g = d.each id id<

        abbrev row : List Object
        row = object_row t.objects id

        abbrev used : ℕ
        used = used_of t.sessions id

        fits : used ≤ length row
        fits = stores.fits t id id< its_objects

        put_changed : (o : Object) → Changed t (put_tables t id o) id
        put_changed o = by (leb 32 (slot_of (object_place row used o.number) used)) refl
          where
            few : (p : Option ℕ) → slot_of p used < 32 → used_after p used ≤ 32
            few (Some k) h = g.few_objects
            few None h = omega arith

            by : (b : Bool) → leb 32 (slot_of (object_place row used o.number) used) ≡ b → Changed t (put_tables t id o) id
            by true e =
                subst (λ (u : Tables). Changed t u id) (sym (stores.put_nothing t id id< its_objects o (leb-true 32 (slot_of (object_place row used o.number) used) e)))
                (same_changed id id<)
            by false e =
                let room : slot_of (object_place row used o.number) used < 32 = leb-false 32 (slot_of (object_place row used o.number) used) e in
                record {
                  sessions_length =
                      ap length (stores.put_rows t id id< its_objects o room)
                      ∙ length-set t.sessions id (row_of (counted_session (session_at t.sessions id) (used_after (object_place row used o.number) used)));
                  streams_length = refl;
                  objects_length = ap length (stores.put_set t id id< its_objects o room) ∙ length-set t.objects _ o;
                  held_length = refl;
                  parts_length = refl;
                  lengths_length = refl;
                  rebuilt_length = refl;
                  elsewhere = stores.put_part_elsewhere t id id< its_objects o room;
                  here =
                      subst (SoundPart P) (sym (stores.put_part t id id< its_objects o room))
                      (record {
                        few_objects = few (object_place row used o.number) room;
                        few_streams = g.few_streams;
                        objects_differ =
                            subst (λ (es : List Entry). Distinct (object_numbers es)) (sym (put_shown row used fits g.objects_differ o (stores.in_row t id id< its_objects o room)))
                            (put_distinct (listed used row) g.objects_differ (entry_of o));
                        streams_differ = g.streams_differ;
                        written = g.written;
                        few_fragments = g.few_fragments;
                        fragments = g.fragments;
                        fragments_gone = g.fragments_gone;
                        stream_zero = g.stream_zero;
                      });
                }

        drop_changed : (n : ObjectNumber) → Changed t (drop_tables t id n) id
        drop_changed n = subst (λ (u : Tables). Changed t u id) (sym (stores.by_place t id id< its_objects n)) changed
          where
            p : Option ℕ
            p = object_place row used n

            under : Under used p
            under = place_under row n used

            -- a length that stays where the record goes
            same : (long : Tables → ℕ) (q : Option ℕ) → Under used q → ((k : ℕ) → k < used → long (stores.gone t id id< its_objects k) ≡ long t) → long (stores.dropped t id id< its_objects q) ≡ long t
            same long (Some k) h f = by (depended_at row used fits (Some k))
              where
                by : (b : Bool) → long (cond b t (stores.gone t id id< its_objects k)) ≡ long t
                by true = refl
                by false = f k h
            same long None h f = refl

            few : (q : Option ℕ) → left row used fits q ≤ 32
            few (Some k) = by (depended_at row used fits (Some k))
              where
                by : (b : Bool) → cond b used (used - 1) ≤ 32
                by true = g.few_objects
                by false = let f : used ≤ 32 = g.few_objects in omega arith
            few None = g.few_objects

            changed : Changed t (stores.dropped t id id< its_objects p) id
            changed = record {
              sessions_length = same (λ (u : Tables). length u.sessions) p under (λ k h. length-set t.sessions id (row_of (counted_session (session_at t.sessions id) (used - 1))));
              streams_length = same (λ (u : Tables). length u.streams) p under (λ k h. refl);
              objects_length = same (λ (u : Tables). length u.objects) p under (λ k h. ap length (stores.gone_set t id id< its_objects k h) ∙ length-set t.objects _ _);
              held_length = same (λ (u : Tables). length u.held) p under (λ k h. refl);
              parts_length = same (λ (u : Tables). length u.parts) p under (λ k h. refl);
              lengths_length = same (λ (u : Tables). length u.lengths) p under (λ k h. refl);
              rebuilt_length = same (λ (u : Tables). length u.rebuilt) p under (λ k h. refl);
              elsewhere = λ j h. stores.dropped_part_elsewhere t id id< its_objects j h p under;
              here =
                  subst (SoundPart P) (sym (stores.dropped_part t id id< its_objects p under))
                  (record {
                    few_objects = few p;
                    few_streams = g.few_streams;
                    objects_differ = subst (λ (es : List Entry). Distinct (object_numbers es)) (sym (drop_shown row used fits g.objects_differ n)) (remove_distinct (listed used row) g.objects_differ n.0);
                    streams_differ = g.streams_differ;
                    written = g.written;
                    few_fragments = g.few_fragments;
                    fragments = g.fragments;
                    fragments_gone = g.fragments_gone;
                    stream_zero = g.stream_zero;
                  });
            }

        -- ---- streams

        abbrev rows : List (List ℕ)
        rows = stream_rows t.streams id

        abbrev open_now : ℕ
        open_now = streams_used t.sessions id

        eight : length rows ≡ 8
        eight = streams.eight t id id< its_streams

        -- a row that is written at a place, and the others
        set_written : (s : StreamState) → P s → (k : ℕ) → k < 8 → (i : ℕ) → (i ≢ k → P (stream_of (get_or rows i []))) → P (stream_of (get_or (set rows k (stream_row s)) i []))
        set_written s w k h i other = by (eqb i k) refl
          where
            by : (b : Bool) → eqb i k ≡ b → P (stream_of (get_or (set rows k (stream_row s)) i []))
            by true e =
                subst (λ (m : ℕ). P (stream_of (get_or (set rows k (stream_row s)) m []))) (sym (eqb-true i k e))
                (subst (λ (l : List ℕ). P (stream_of l)) (sym (get_or-set_same rows k (stream_row s) [] (omega (arith, eight)))) (lasting.reads s w))
            by false e =
                subst (λ (l : List ℕ). P (stream_of l)) (sym (get_or-set_other rows k i (stream_row s) [] (eqb-false i k e))) (other (eqb-false i k e))

        add_changed : (n : ℕ) (n< : n < 256) → open_now < 8 → stream_in (streams.shown t id id< its_streams) n ≡ None → Changed t (streams.joined t id id< its_streams n n< (Ok (Add open_now))) id
        add_changed n n< room absent = record {
          sessions_length = length-set t.sessions id (row_of (streamed_session (session_at t.sessions id) (open_now + 1)));
          streams_length = length-set t.streams (first_stream id + open_now) (stream_row (new_stream n));
          objects_length = refl;
          held_length = refl;
          parts_length = refl;
          lengths_length = refl;
          rebuilt_length = refl;
          elsewhere = streams.added_elsewhere t id id< its_streams n n< room;
          here =
              subst (SoundPart P) (sym (streams.added_part t id id< its_streams n n< room))
              (record {
                few_objects = g.few_objects;
                few_streams = omega arith;
                objects_differ = g.objects_differ;
                streams_differ =
                    subst (λ (ks : List KeptStream). Distinct (stream_numbers ks)) (sym (streams.added_shown t id id< its_streams n n< room absent))
                    (open_distinct (streams.shown t id id< its_streams) n g.streams_differ);
                written = λ i h. set_written (new_stream n) (lasting.opens n) open_now room i (λ e. g.written i (omega (arith, e)));
                few_fragments = g.few_fragments;
                fragments = g.fragments;
                fragments_gone = g.fragments_gone;
                stream_zero = λ e. let z = g.stream_zero e in (omega (arith, z.0), ap (λ (l : List ℕ). (stream_of l).stream_id) (get_or-set_other rows open_now 0 (stream_row (new_stream n)) [] (λ q. omega (arith, z.0, q))) ∙ z.1);
              });
        }

        open_changed : (n : ℕ) → n < 256 → Changed t (open_tables t id n) id
        open_changed n n< = by (stream_place t.sessions t.streams id n) (streams.seen t id id< its_streams n)
          where
            by : (p : Result StreamPlace Refusal) → streams.Seen t id id< its_streams n p → Changed t (streams.joined t id id< its_streams n n< p) id
            by (Ok (Have k)) s = same_changed id id<
            by (Ok (Add k)) s =
                subst (λ (m : ℕ). Changed t (streams.joined t id id< its_streams n n< (Ok (Add m))) id) (sym s.0) (add_changed n n< s.1 s.2)
            by (Ok Full) s = same_changed id id<
            by (Ok NotLive) s = absurd s
            by (Err r) s = absurd s

        write_changed : (s : StreamState) → s.stream_id < 256 → P s → Changed t (write_tables t id s) id
        write_changed s s< w = by (stream_place t.sessions t.streams id s.stream_id) (streams.seen t id id< its_streams s.stream_id)
          where
            -- what is written in the first place has the number that was there
            first_number : (k : ℕ) → streams.Seen t id id< its_streams s.stream_id (Ok (Have k)) → (1 ≤ open_now) × ((stream_of (get_or rows 0 [])).stream_id ≡ 0) → (b : Bool) → eqb 0 k ≡ b
                → (stream_of (get_or (set rows k (stream_row s)) 0 [])).stream_id ≡ 0
            first_number k e z true q =
                let y : 0 ≡ k = eqb-true 0 k q in
                let m = streams.place_number t id id< its_streams s.stream_id k e in
                let o : s.stream_id ≡ 0 = sym m ∙ ap (λ (j : ℕ). (stream_of (get_or rows j [])).stream_id) (sym y) ∙ z.1 in
                ap (λ (j : ℕ). (stream_of (get_or (set rows j (stream_row s)) 0 [])).stream_id) (sym y)
                ∙ ap (λ (l : List ℕ). (stream_of l).stream_id) (get_or-set_same rows 0 (stream_row s) [] (omega (arith, eight)))
                ∙ ap (λ (x : KeptStream). x.number) (row_shown s [] s<)
                ∙ o
            first_number k e z false q = ap (λ (l : List ℕ). (stream_of l).stream_id) (get_or-set_other rows k 0 (stream_row s) [] (eqb-false 0 k q)) ∙ z.1

            over : (k : ℕ) → streams.Seen t id id< its_streams s.stream_id (Ok (Have k)) → Changed t (streams.writing t id id< its_streams s s< (Ok (Have k))) id
            over k e = record {
              sessions_length = refl;
              streams_length = length-set t.streams (first_stream id + k) (stream_row s);
              objects_length = refl;
              held_length = refl;
              parts_length = refl;
              lengths_length = refl;
              rebuilt_length = refl;
              elsewhere = streams.written_elsewhere t id id< its_streams s s< k e.0;
              here =
                  subst (SoundPart P) (sym (streams.written_part t id id< its_streams s s< k e.0))
                  (record {
                    few_objects = g.few_objects;
                    few_streams = g.few_streams;
                    objects_differ = g.objects_differ;
                    streams_differ =
                        subst Distinct
                        (sym (ap stream_numbers (streams.written_shown t id id< its_streams s s< k e) ∙ write_numbers (streams.shown t id id< its_streams) (streams.with_buffer t id id< its_streams s s< (Ok (Have k)))))
                        g.streams_differ;
                    written = λ i h. set_written s w k (let f : open_now ≤ 8 = g.few_streams in let l : k < open_now = e.0 in omega arith) i (λ q. g.written i h);
                    few_fragments = g.few_fragments;
                    fragments = g.fragments;
                    fragments_gone = g.fragments_gone;
                    stream_zero = λ q. let z = g.stream_zero q in (z.0, first_number k e z (eqb 0 k) refl);
                  });
            }

            by : (p : Result StreamPlace Refusal) → streams.Seen t id id< its_streams s.stream_id p → Changed t (streams.writing t id id< its_streams s s< p) id
            by (Ok (Have k)) e = over k e
            by (Ok (Add k)) e = same_changed id id<
            by (Ok Full) e = same_changed id id<
            by (Ok NotLive) e = absurd e
            by (Err r) e = absurd e

      -- a session keeps its slot whatever it lists
      kept_slot : (s : ClientSession) → s.slot ≡ (session_at t.sessions id).slot → (session_at (keep_session t.sessions id s) id).slot ≡ (session_at t.sessions id).slot
      kept_slot s e = ap (λ (x : ClientSession). x.slot) (table.kept_here t.sessions id s (let l = d.sessions_need_lem in omega (arith, l))) ∙ e

      put_slot : (o : Object) → (session_at (put_tables t id o).sessions id).slot ≡ (session_at t.sessions id).slot
      put_slot o = by (stored_object t.sessions t.objects id o)
        where
          by : (r : Result Stored Refusal) → (session_at (keep_stored t.sessions id r) id).slot ≡ (session_at t.sessions id).slot
          by (Ok (stored.Count n)) = kept_slot (counted_session (session_at t.sessions id) n) refl
          by (Ok stored.Full) = refl
          by (Ok stored.NotLive) = refl
          by (Err r) = refl

      drop_slot : (n : ObjectNumber) → (session_at (drop_tables t id n).sessions id).slot ≡ (session_at t.sessions id).slot
      drop_slot n = by (taken_object t.sessions t.objects id n)
        where
          by : (r : Result Taken Refusal) → (session_at (keep_removed t.sessions id r) id).slot ≡ (session_at t.sessions id).slot
          by (Ok (taken.Gone o)) = kept_slot (counted_session (session_at t.sessions id) _) refl
          by (Ok taken.Depended) = refl
          by (Ok taken.Nothing) = refl
          by (Err r) = refl

      open_slot : (n : ℕ) → (session_at (open_tables t id n).sessions id).slot ≡ (session_at t.sessions id).slot
      open_slot n = by (stream_place t.sessions t.streams id n)
        where
          by : (p : Result StreamPlace Refusal) → (session_at (opened_count p t.sessions id) id).slot ≡ (session_at t.sessions id).slot
          by (Ok (Have k)) = refl
          by (Ok (Add k)) = kept_slot (streamed_session (session_at t.sessions id) (k + 1)) refl
          by (Ok Full) = refl
          by (Ok NotLive) = refl
          by (Err r) = refl

      -- what `read_stream` hands back is known as what is written back is
      pub read_lasts : (n : ℕ) → P (read_as (stream_place t.sessions t.streams id n) t.streams id).state
      read_lasts n = by (is_free t.sessions id) refl
        where
          at : is_free t.sessions id ≡ false → (p : Result StreamPlace Refusal) → ((k : ℕ) → p ≡ Ok (Have k) → k < streams_used t.sessions id) → P (state_at p t.streams id)
          at e (Ok (Have k)) f =
              let used< : streams_used t.sessions id ≤ 8 = (d.each id id<).few_streams in
              let l : k < streams_used t.sessions id = f k refl in
              subst (λ (w : List ℕ). P (stream_of w)) (streams.row_at t id id< (its_streams e) k (omega arith)) ((d.each id id<).written k l)
          at e (Ok (Add k)) f = lasting.opens 0
          at e (Ok Full) f = lasting.opens 0
          at e (Ok NotLive) f = lasting.opens 0
          at e (Err r) f = lasting.opens 0

          by : (b : Bool) → is_free t.sessions id ≡ b → P (read_as (stream_place t.sessions t.streams id n) t.streams id).state
          by true e = subst (λ (r : StreamRead). P r.state) (sym (streams.read_gone t id (no_streams e) n)) (lasting.opens 0)
          by false e = at e (stream_place t.sessions t.streams id n) (λ k q. (subst (streams.Seen t id id< (its_streams e) n) q (streams.seen t id id< (its_streams e) n)).0)

      pub put_led : (o : Object) → LeadsTo P most t (put_tables t id o)
      put_led o = call_led (put_tables t id o) id (λ e. put_free e o) (λ e. (put_changed e o, λ f. put_slot o))

      pub drop_led : (n : ObjectNumber) → LeadsTo P most t (drop_tables t id n)
      drop_led n = call_led (drop_tables t id n) id (λ e. drop_free e n) (λ e. (drop_changed e n, λ f. drop_slot n))

      pub open_led : (n : ℕ) → n < 256 → LeadsTo P most t (open_tables t id n)
      open_led n h = call_led (open_tables t id n) id (λ e. (streams.open_gone t id (no_streams e) n).1) (λ e. (open_changed e n h, λ f. open_slot n))

      pub write_led : (s : StreamState) → s.stream_id < 256 → P s → LeadsTo P most t (write_tables t id s)
      write_led s h w = call_led (write_tables t id s) id (λ e. (streams.write_gone t id (no_streams e) s).1) (λ e. (write_changed e s h w, λ f. refl))

    -- ---- a new session

    module _ (id next key time : ℕ) (id< : id < 256) where
      abbrev made : ClientSession
      made = table.made t id next key time d.sessions_need_lem d.streams_need_lem id<

      new_part : SoundPart P (record { session = made; objects = object_row t.objects id; streams = set (stream_rows t.streams id) 0 (stream_row (new_stream 0)); held = held_part t.held made; parts = table.parts_of t made; lengths = table.lengths_of t made })
      unfolding listed
      new_part = record {
        few_objects = omega arith;
        few_streams = omega arith;
        objects_differ = none_distinct;
        streams_differ = subst (λ (ks : List KeptStream). Distinct (stream_numbers ks)) (sym (table.one_open t id next key time d.sessions_need_lem d.streams_need_lem id< (held_part t.held made))) (one_distinct 0);
        written = λ k h. subst (λ (m : ℕ). P (stream_of (get_or (set (stream_rows t.streams id) 0 (stream_row (new_stream 0))) m []))) (let z : 0 ≡ k = omega arith in z) first_written;
        few_fragments = omega arith;
        fragments = no_fragments (table.parts_of t made) (table.lengths_of t made);
        fragments_gone = λ e. refl;
        stream_zero = λ e. (omega arith, ap (λ (l : List ℕ). (stream_of l).stream_id) first_row ∙ ap (λ (x : KeptStream). x.number) (new_shown [] 0 (omega arith)));
      }
        where
          eight_rows : length (stream_rows t.streams id) ≡ 8
          eight_rows = table.streams_length t.streams id d.streams_need_lem id<

          first_row : get_or (set (stream_rows t.streams id) 0 (stream_row (new_stream 0))) 0 [] ≡ stream_row (new_stream 0)
          first_row = get_or-set_same (stream_rows t.streams id) 0 (stream_row (new_stream 0)) [] (omega (arith, eight_rows))

          first_written : P (stream_of (get_or (set (stream_rows t.streams id) 0 (stream_row (new_stream 0))) 0 []))
          first_written = subst (λ (l : List ℕ). P (stream_of l)) (sym first_row) (lasting.reads (new_stream 0) (lasting.opens 0))

      new_changed : Changed t (table.opened_tables t id next key time) id
      new_changed = record {
        sessions_length = length-set t.sessions id (row_of made);
        streams_length = length-set t.streams (first_stream id) (stream_row (new_stream 0));
        objects_length = refl;
        held_length = refl;
        parts_length = refl;
        lengths_length = refl;
        rebuilt_length = refl;
        elsewhere = table.opened_elsewhere t id next key time d.sessions_need_lem d.streams_need_lem id<;
        here = subst (SoundPart P) (sym (table.opened_here t id next key time d.sessions_need_lem d.streams_need_lem id<)) new_part;
      }

      -- the new session's slot is below the limit, and no live session has it
      module _ (max : ℕ) (max≤ : max ≤ 255) (under : max ≤ most) (live : live_of t.sessions < max) where
        abbrev slot : ℕ
        slot = free_slot t.sessions

        here_slot : (session_at (table.opened_tables t id next key time).sessions id).slot ≡ slot
        here_slot = ap (λ (p : Part). p.session.slot) (table.opened_here t id next key time d.sessions_need_lem d.streams_need_lem id<)

        abbrev rows' : List (List ℕ)
        rows' = (table.opened_tables t id next key time).sessions

        -- of another session
        other_live : (j : ℕ) → j ≢ id → is_free rows' j ≡ false → is_free t.sessions j ≡ false
        other_live j n e = sym (ap (λ (s : ClientSession). eqb s.live 0) (session_elsewhere (table.opened_tables t id next key time) id new_changed j n)) ∙ e

        other_slot : (j : ℕ) → j ≢ id → (session_at rows' j).slot ≡ (session_at t.sessions j).slot
        other_slot j n = ap (λ (s : ClientSession). s.slot) (session_elsewhere (table.opened_tables t id next key time) id new_changed j n)

        other_differs : (j : ℕ) → j < 256 → j ≢ id → is_free rows' j ≡ false → (session_at rows' j).slot ≢ slot
        other_differs j h n e q =
            let l = other_live j n e in
            slots.not_its t.sessions slot (slots.slot_free t.sessions max max≤ live) j (live_id j l) (omega arith) l (sym (other_slot j n) ∙ q)

        new_slots : SoundSlots most rows'
        new_slots = record {
          under = λ j h e. under_by j h e (eqb j id) refl;
          differ = λ i j a b x y e. differ_by i j a b x y e (eqb i id) refl (eqb j id) refl;
        }
          where
            under_by : (j : ℕ) → j < 256 → is_free rows' j ≡ false → (b : Bool) → eqb j id ≡ b → (session_at rows' j).slot < most
            under_by j h e true q =
                let z : j ≡ id = eqb-true j id q in
                let s : (session_at rows' j).slot ≡ slot = ap (λ (k : ℕ). (session_at rows' k).slot) z ∙ here_slot in
                let w = slots.slot_under t.sessions max max≤ live in
                omega (arith, s, w)
            under_by j h e false q = let n = eqb-false j id q in rw (other_slot j n) (d.slots.under j h (other_live j n e))

            differ_by : (i j : ℕ) → i < 256 → j < 256 → is_free rows' i ≡ false → is_free rows' j ≡ false → (session_at rows' i).slot ≡ (session_at rows' j).slot
                → (p : Bool) → eqb i id ≡ p → (q : Bool) → eqb j id ≡ q → i ≡ j
            differ_by i j a b x y e true p true q = eqb-true i id p ∙ sym (eqb-true j id q)
            differ_by i j a b x y e true p false q =
                absurd (other_differs j b (eqb-false j id q) y (sym e ∙ ap (λ (k : ℕ). (session_at rows' k).slot) (eqb-true i id p) ∙ here_slot))
            differ_by i j a b x y e false p true q =
                absurd (other_differs i a (eqb-false i id p) x (e ∙ ap (λ (k : ℕ). (session_at rows' k).slot) (eqb-true j id q) ∙ here_slot))
            differ_by i j a b x y e false p false q =
                let m = eqb-false i id p in
                let n = eqb-false j id q in
                d.slots.differ i j a b (other_live i m x) (other_live j n y) (sym (other_slot i m) ∙ e ∙ other_slot j n)

        new_led : 1 ≤ id → LeadsTo P most t (table.opened_tables t id next key time)
        new_led low = changed_led (table.opened_tables t id next key time) id low new_changed new_slots

    pub create_led : (max next key time : ℕ) → next < 256 → max ≤ most → LeadsTo P most t (create_tables (created_of t.sessions t.streams max next) t key time)
    unfolding created_of chosen_of
    create_led max next key time h m = by (open_fits t.sessions t.streams max next) refl (ltb (live_of t.sessions) max) refl (eqb (free_of t.sessions next) 0) refl
      where
        f : ℕ
        f = free_of t.sessions next

        answered : Bool → Bool → Bool → Result (ℕ × ℕ) Refusal
        answered a b c = cond a (cond b (cond c (Err SessionFull) (Ok (f, (after f)))) (Err SessionFull)) (Err OverLimit)

        by : (a : Bool) → open_fits t.sessions t.streams max next ≡ a → (b : Bool) → ltb (live_of t.sessions) max ≡ b → (c : Bool) → eqb (free_of t.sessions next) 0 ≡ c → LeadsTo P most t (create_tables (answered a b c) t key time)
        by true e true l true z = same_led
        by true e true l false z =
            let i = fresh_id t.sessions t.streams max next h e (eqb-false (free_of t.sessions next) 0 z) in
            new_led f (after f) key time i.1 max (fits_max t.sessions t.streams max next h e) m (ltb-true (live_of t.sessions) max l) i.0
        by true e false l c z = same_led
        by false e b l c z = same_led

  -- ---- set-up

  -- stores in which no id is live and no record in use
  empty_sound : (t : Tables) → 256 ≤ length t.sessions → 2048 ≤ length t.streams → 8192 ≤ length t.objects
      → held_need most ≤ length t.held → parts_need most ≤ length t.parts → lengths_need most ≤ length t.lengths → rebuilt_need ≤ length t.rebuilt
      → ((id : ℕ) → id < 256 → session_at t.sessions id ≡ ended_session) → SoundTables P most t
  empty_sound t a b c l p q r e = record {
    sessions_need_lem = a;
    streams_need_lem = b;
    objects_need_lem = c;
    held_need_lem = l;
    parts_need_lem = p;
    lengths_need_lem = q;
    rebuilt_need_lem = r;
    slots = record { under = λ id h f. absurd (never (free id h) f); differ = λ i j h k f g q. absurd (never (free i h) f) };
    zero_free = ap (λ (s : ClientSession). eqb s.live 0) (e 0 (omega arith));
    each = λ id h. subst (SoundPart P) (sym (ap (λ (s : ClientSession). table.with_session t s (table_part t id)) (e id h))) (ended_sound t (table_part t id));
  }
    where
      free : (id : ℕ) → id < 256 → is_free t.sessions id ≡ true
      free id h = ap (λ (s : ClientSession). eqb s.live 0) (e id h)

  -- whatever stood in the stores, if set-up accepts them
  pub ready_led : (t : Tables) (max next : ℕ) → Long (length t.sessions) (length t.streams) (length t.objects) (length t.held) (length t.parts) (length t.lengths) (length t.rebuilt) max
      → held_need most ≤ length t.held → parts_need most ≤ length t.parts → lengths_need most ≤ length t.lengths → LeadsTo P most t (set_up_tables (Ok next) t)
  ready_led t max next long held-room parts-room lengths-room = record {
    sound = empty_sound (set_up_tables (Ok next) t) (rw sessions_same long.sessions_long) (rw streams_same long.streams_long) (rw objects_same long.objects_long) held-room parts-room lengths-room long.rebuilt_long
        (λ id h. ap session_of (cleared_at (row_of ended_session) 256 t.sessions id [] h));
    sessions_length = sessions_same;
    streams_length = streams_same;
    objects_length = objects_same;
    held_length = refl;
    parts_length = refl;
    lengths_length = refl;
    rebuilt_length = refl;
  }
    where
      sessions_same : length (empty_sessions t.sessions) ≡ length t.sessions
      sessions_same = cleared_length (row_of ended_session) 256 t.sessions long.sessions_long

      streams_same : length (empty_streams t.streams) ≡ length t.streams
      streams_same = cleared_length no_stream 2048 t.streams long.streams_long

      objects_same : length (empty_objects t.objects) ≡ length t.objects
      objects_same = cleared_length blank 8192 t.objects long.objects_long

  pub set_up_led : (max : ℕ) (t : Tables) → SoundTables P most t → LeadsTo P most t (set_up_tables (set_up_of (length t.sessions) (length t.streams) (length t.objects) (length t.held) (length t.parts) (length t.lengths) (length t.rebuilt) max) t)
  unfolding set_up_of
  set_up_led max t d = by (stores_fit (length t.sessions) (length t.streams) (length t.objects) (length t.held) (length t.parts) (length t.lengths) (length t.rebuilt) max) refl
    where
      by : (b : Bool) → stores_fit (length t.sessions) (length t.streams) (length t.objects) (length t.held) (length t.parts) (length t.lengths) (length t.rebuilt) max ≡ b → LeadsTo P most t (set_up_tables (cond b (Ok first_id) (Err OverLimit)) t)
      by true e = ready_led t max first_id (accepts (length t.sessions) (length t.streams) (length t.objects) (length t.held) (length t.parts) (length t.lengths) (length t.rebuilt) max e) d.held_need_lem d.parts_need_lem d.lengths_need_lem
      by false e = same_led t d
