-- The view of a session's fragments: what a fragment shows and changes of it, what it completes, and that nothing else changes (document 02, W6).
use Prim.Native.Nat.{ℕ, suc, ◌*◌, ◌-◌, ◌<◌, ◌≤◌}
use mathlib.Core.Path.{◌≡◌, refl, sym, ap, ◌∙◌, subst}
use mathlib.Core.Logic.{◌≢◌}
use mathlib.Core.Bool.{Bool, true, false, cond}
use mathlib.Core.List.{List, []}
use native.Mathlib.Omega.{arith}
use borrow.Author.Tests.{le-leb, le-ltb, ltb-true, ltb-false, eqb-true, eqb-false}
use lib.Dec.{eqb, ltb}
use lib.ListN.{length, take, drop, length-set}
use lib.Seq.{set_out}
use Rattle.codec.specs.Bytes.{put_bytes}
use Rattle.codec.specs.Reassembly.{under_need}
use Rattle.codec.specs.Inserts.{Slot, slots_of}
use Rattle.codec.specs.declared.refusals.Refusal.TheVariants.{OverLimit}
use Rattle.codec.proofs.reassembly.View.{take_put}
use Rattle.streams.specs.declared.state.StreamState.{StreamState}
use Rattle.sessions.specs.Table.{row_of, session_at, keep_session, table_fits, is_free, named_of}
use Rattle.sessions.specs.Held.{held_part}
use Rattle.sessions.specs.SessionObjects.{object_row}
use Rattle.sessions.specs.Sending.{room_of, buffer_in, with_buffer}
use Rattle.sessions.specs.FragmentStore.{FragmentStore, allowed, slots_with, whole_of, store_behind, gathered_store, gathered_bytes}
use Rattle.sessions.specs.Fragments.{slot_stretch, parts_stretch, lengths_stretch, buffer_with, gathered_in, parts_after, lengths_after, gathered_session, is_live, takes, own_parts, own_lengths, gathered, gathered_rows, gathered_parts, gathered_lengths, gathered_rebuilt}
use Rattle.sessions.specs.View.{Tables, Local, Part, stream_rows, table_part, store_shown, session_shown, local_shown, objects_shown, streams_shown, local_of}
use Rattle.sessions.specs.Calls.{gather_tables, SoundTables}
use Rattle.sessions.specs.declared.fragments.Gathered.{Gathered}
use Rattle.sessions.specs.declared.fragments.Gathered.TheVariants.{Nothing, Held, Whole}
use Rattle.sessions.specs.declared.sending.Stretch.{Stretch}
use Rattle.sessions.specs.declared.table.ClientSession.{ClientSession}
use Rattle.sessions.proofs.Buffers.{with_same, with_length, put_back}
use Rattle.sessions.proofs.ViewTable.{kept_here, kept_elsewhere}
use Rattle.sessions.proofs.sending.Laws.{buffer_length}
use Rattle.sessions.proofs.fragments.Laws.{Stands, stretch_stands, has_slot_lem, part_here, slot_apart, not_taken, taken_is}
use Rattle.sessions.proofs.fragments.Store.{Allowed, allowed_is, parts_length, lengths_length, rebuilt_keeps, ends, slots_left, fragment_ends}
use Rattle.std.specs.Prelude.{Err, Ok, Option, None, Some}

-- ---- any tables

-- a fragment that is taken: of a live session, and allowed
pub record Taking (sessions : List (List ℕ)) (id nr total len : ℕ) : Type 0 where
  pub live : is_free sessions id ≡ false
  pub ok : allowed nr total len ≡ true

pub taking : (sessions : List (List ℕ)) (id nr total len : ℕ) → takes sessions id nr total len ≡ true → Taking sessions id nr total len
unfolding named_of
taking sessions id nr total len = by (table_fits sessions) (is_free sessions id) refl (allowed nr total len) refl
  where
    by : (x y : Bool) → is_free sessions id ≡ y → (z : Bool) → allowed nr total len ≡ z → cond (is_live (cond x (cond y (Ok false) (Ok true)) (Err OverLimit))) z false ≡ true → Taking sessions id nr total len
    by true false p true q e = record { live = p; ok = q }
    by true false p false q e = let i : ◌≡◌ {A = ℕ} 0 1 = cc in absurd (omega arith)
    by true true p z q e = let i : ◌≡◌ {A = ℕ} 0 1 = cc in absurd (omega arith)
    by false y p z q e = let i : ◌≡◌ {A = ℕ} 0 1 = cc in absurd (omega arith)

-- a part of a store of which nothing but the stretch has changed
abbrev pub Refilled : List ℕ → Stretch → List ℕ → Type 0
Refilled store a after = (part : List ℕ) × (length part ≡ room_of a) × (after ≡ with_buffer store a part)

module _ (sessions : List (List ℕ)) (parts lengths rebuilt : List ℕ) (id nr total : ℕ) (body : List ℕ) where
  abbrev s : ClientSession
  s = session_at sessions id

  abbrev a : Stretch
  a = parts_stretch s (length parts)

  abbrev b : Stretch
  b = lengths_stretch s (length lengths)

  parts_in : Stands 32768 s.slot (length parts) a
  parts_in = stretch_stands 32768 s.slot (length parts)

  lengths_in : Stands 64 s.slot (length lengths) b
  lengths_in = stretch_stands 64 s.slot (length lengths)

  own_parts_lem : length (own_parts sessions parts id) ≡ room_of a
  own_parts_lem = buffer_length parts a parts_in.1 parts_in.2

  own_lengths_lem : length (own_lengths sessions lengths id) ≡ room_of b
  own_lengths_lem = buffer_length lengths b lengths_in.1 lengths_in.2

  after_parts : length (parts_after s (own_parts sessions parts id) (own_lengths sessions lengths id) nr total body) ≡ room_of a
  after_parts = parts_length s (own_parts sessions parts id) (own_lengths sessions lengths id) nr total body ∙ own_parts_lem

  after_lengths : length (lengths_after s (own_parts sessions parts id) (own_lengths sessions lengths id) nr total body) ≡ room_of b
  after_lengths = lengths_length s (own_parts sessions parts id) (own_lengths sessions lengths id) nr total body ∙ own_lengths_lem

  -- nothing changes but the session's part of the stores and the place of rebuilt bytes
  pub gather_put_back : Refilled parts a (gathered_parts sessions parts lengths id nr total body)
      × Refilled lengths b (gathered_lengths sessions parts lengths id nr total body)
      × (drop 32768 (gathered_rebuilt sessions parts lengths rebuilt id nr total body) ≡ drop 32768 rebuilt)
  gather_put_back = by (takes sessions id nr total (length body)) refl
    where
      by : (x : Bool) → takes sessions id nr total (length body) ≡ x
          → Refilled parts a (gathered_parts sessions parts lengths id nr total body)
          × Refilled lengths b (gathered_lengths sessions parts lengths id nr total body)
          × (drop 32768 (gathered_rebuilt sessions parts lengths rebuilt id nr total body) ≡ drop 32768 rebuilt)
      by true e =
          let t = taken_is sessions parts lengths rebuilt id nr total body e s refl a b refl refl in
          let few = (allowed_is nr total (length body) (taking sessions id nr total (length body) e).ok).few_parts in
          let k = rebuilt_keeps s (own_parts sessions parts id) (own_lengths sessions lengths id) nr total body rebuilt few in (
            (parts_after s (own_parts sessions parts id) (own_lengths sessions lengths id) nr total body, after_parts, sym t.2),
            (lengths_after s (own_parts sessions parts id) (own_lengths sessions lengths id) nr total body, after_lengths, sym t.3),
            sym (ap (drop 32768) t.4) ∙ k.1,
          )
      by false e =
          let t = not_taken sessions parts lengths rebuilt id nr total body e in (
            (own_parts sessions parts id, own_parts_lem, sym t.2 ∙ sym (with_same parts a)),
            (own_lengths sessions lengths id, own_lengths_lem, sym t.3 ∙ sym (with_same lengths b)),
            sym (ap (drop 32768) t.4),
          )

  -- with its old part put back each store is as it was
  pub parts_back : put_bytes (gathered_parts sessions parts lengths id nr total body) a.start (own_parts sessions parts id) ≡ parts
  parts_back =
      let g = gather_put_back.0 in
      ap (λ (l : List ℕ). put_bytes l a.start (own_parts sessions parts id)) g.2 ∙ put_back parts a parts_in.1 parts_in.2 g.0 g.1

  pub lengths_back : put_bytes (gathered_lengths sessions parts lengths id nr total body) b.start (own_lengths sessions lengths id) ≡ lengths
  lengths_back =
      let g = gather_put_back.1 in
      ap (λ (l : List ℕ). put_bytes l b.start (own_lengths sessions lengths id)) g.2 ∙ put_back lengths b lengths_in.1 lengths_in.2 g.0 g.1

  -- each store is as long as it was
  pub gather_lengths : (length (gathered_rows sessions parts lengths rebuilt id nr total body) ≡ length sessions)
      × (length (gathered_parts sessions parts lengths id nr total body) ≡ length parts)
      × (length (gathered_lengths sessions parts lengths id nr total body) ≡ length lengths)
      × (length (gathered_rebuilt sessions parts lengths rebuilt id nr total body) ≡ length rebuilt)
  gather_lengths =
      let g = gather_put_back in
      let r = by (takes sessions id nr total (length body)) refl in (
        r.0,
        ap length g.0.2 ∙ with_length parts a parts_in.1 parts_in.2 g.0.0 g.0.1,
        ap length g.1.2 ∙ with_length lengths b lengths_in.1 lengths_in.2 g.1.0 g.1.1,
        r.1,
      )
    where
      by : (x : Bool) → takes sessions id nr total (length body) ≡ x
          → (length (gathered_rows sessions parts lengths rebuilt id nr total body) ≡ length sessions) × (length (gathered_rebuilt sessions parts lengths rebuilt id nr total body) ≡ length rebuilt)
      by true e =
          let t = taken_is sessions parts lengths rebuilt id nr total body e s refl a b refl refl in
          let few = (allowed_is nr total (length body) (taking sessions id nr total (length body) e).ok).few_parts in
          let k = rebuilt_keeps s (own_parts sessions parts id) (own_lengths sessions lengths id) nr total body rebuilt few in
          (sym (ap length t.1) ∙ length-set sessions id _, sym (ap length t.4) ∙ k.0)
      by false e = let t = not_taken sessions parts lengths rebuilt id nr total body e in (sym (ap length t.1), sym (ap length t.4))

  -- what is said of a session but not of its fragments stays in every row
  pub gather_row : {A : Type 0} (say : ClientSession → A) → ((x : ClientSession) (g : Gathered) → say (gathered_session x g) ≡ say x)
      → (j : ℕ) → say (session_at (gathered_rows sessions parts lengths rebuilt id nr total body) j) ≡ say (session_at sessions j)
  gather_row say same j = by (takes sessions id nr total (length body)) refl
    where
      g : Gathered
      g = gathered_in s (own_parts sessions parts id) (own_lengths sessions lengths id) rebuilt nr total body

      own : (x : Bool) → ltb id (length sessions) ≡ x → say (session_at (keep_session sessions id (gathered_session s g)) id) ≡ say s
      own true q = ap say (kept_here sessions id (gathered_session s g) (ltb-true id (length sessions) q)) ∙ same s g
      own false q = ap (λ (rows : List (List ℕ)). say (session_at rows id)) (set_out sessions id (row_of (gathered_session s g)) (ltb-false id (length sessions) q))

      row : (x : Bool) → eqb j id ≡ x → say (session_at (keep_session sessions id (gathered_session s g)) j) ≡ say (session_at sessions j)
      row true q = let z : j ≡ id = eqb-true j id q in rw z (own (ltb id (length sessions)) refl)
      row false q = ap say (kept_elsewhere sessions id (gathered_session s g) j (eqb-false j id q))

      by : (x : Bool) → takes sessions id nr total (length body) ≡ x → say (session_at (gathered_rows sessions parts lengths rebuilt id nr total body) j) ≡ say (session_at sessions j)
      by true e = sym (ap (λ (rows : List (List ℕ)). say (session_at rows j)) (taken_is sessions parts lengths rebuilt id nr total body e s refl a b refl refl).1) ∙ row (eqb j id) refl
      by false e = sym (ap (λ (rows : List (List ℕ)). say (session_at rows j)) (not_taken sessions parts lengths rebuilt id nr total body e).1)

  -- and every row but the session's own
  pub row_elsewhere : (j : ℕ) → j ≢ id → session_at (gathered_rows sessions parts lengths rebuilt id nr total body) j ≡ session_at sessions j
  row_elsewhere j n = by (takes sessions id nr total (length body)) refl
    where
      by : (x : Bool) → takes sessions id nr total (length body) ≡ x → session_at (gathered_rows sessions parts lengths rebuilt id nr total body) j ≡ session_at sessions j
      by true e = sym (ap (λ (rows : List (List ℕ)). session_at rows j) (taken_is sessions parts lengths rebuilt id nr total body e s refl a b refl refl).1) ∙ kept_elsewhere sessions id _ j n
      by false e = sym (ap (λ (rows : List (List ℕ)). session_at rows j) (not_taken sessions parts lengths rebuilt id nr total body e).1)

  pub gather_slot : (j : ℕ) → (session_at (gathered_rows sessions parts lengths rebuilt id nr total body) j).slot ≡ (session_at sessions j).slot
  gather_slot = gather_row (λ (x : ClientSession). x.slot) same
    where
      same : (x : ClientSession) (g : Gathered) → (gathered_session x g).slot ≡ x.slot
      same x Nothing = refl
      same x (Held c) = refl
      same x (Whole n) = refl

  pub gather_live : (j : ℕ) → (session_at (gathered_rows sessions parts lengths rebuilt id nr total body) j).live ≡ (session_at sessions j).live
  gather_live = gather_row (λ (x : ClientSession). x.live) same
    where
      same : (x : ClientSession) (g : Gathered) → (gathered_session x g).live ≡ x.live
      same x Nothing = refl
      same x (Held c) = refl
      same x (Whole n) = refl

-- the tables where it isn't taken, and where it is
module _ (t : Tables) (id nr total : ℕ) (body : List ℕ) where
  pub gather_nothing : takes t.sessions id nr total (length body) ≡ false
      → (gather_tables t id nr total body ≡ t) × (gathered t.sessions t.parts t.lengths t.rebuilt id nr total body ≡ Nothing)
  gather_nothing e =
      let n = not_taken t.sessions t.parts t.lengths t.rebuilt id nr total body e in (
        λ i. record { sessions = sym n.1 i; streams = t.streams; objects = t.objects; held = t.held; parts = sym n.2 i; lengths = sym n.3 i; rebuilt = sym n.4 i },
        sym n.0,
      )

  -- a fragment of an id that is not live changes nothing
  pub gather_still : is_free t.sessions id ≡ true → (gather_tables t id nr total body ≡ t) × (gathered t.sessions t.parts t.lengths t.rebuilt id nr total body ≡ Nothing)
  gather_still e = gather_nothing (by (takes t.sessions id nr total (length body)) refl)
    where
      by : (x : Bool) → takes t.sessions id nr total (length body) ≡ x → takes t.sessions id nr total (length body) ≡ false
      by true q = let l = (taking t.sessions id nr total (length body) q).live in let i : ◌≡◌ {A = ℕ} 0 1 = cc (l, e) in absurd (omega arith)
      by false q = q

  abbrev session : ClientSession
  session = session_at t.sessions id

  abbrev pub own : List ℕ
  own = own_parts t.sessions t.parts id

  abbrev pub its : List ℕ
  its = own_lengths t.sessions t.lengths id

  abbrev pub comes_to : Gathered
  comes_to = gathered_in session own its t.rebuilt nr total body

  -- the session's own part behind it
  abbrev pub part_with : Gathered → Part
  part_with g =
      record { session = gathered_session session g; objects = object_row t.objects id; streams = stream_rows t.streams id; held = held_part t.held session; parts = parts_after session own its nr total body; lengths = lengths_after session own its nr total body }

  module _ (so : takes t.sessions id nr total (length body) ≡ true) where
    abbrev after : Tables
    after = gather_tables t id nr total body

    -- the stores, by what is put into them
    rows_are : keep_session t.sessions id (gathered_session session comes_to) ≡ after.sessions
    rows_are = (taken_is t.sessions t.parts t.lengths t.rebuilt id nr total body so session refl _ _ refl refl).1

    parts_are : with_buffer t.parts (parts_stretch session (length t.parts)) (parts_after session own its nr total body) ≡ after.parts
    parts_are = (taken_is t.sessions t.parts t.lengths t.rebuilt id nr total body so session refl _ _ refl refl).2

    lengths_are : with_buffer t.lengths (lengths_stretch session (length t.lengths)) (lengths_after session own its nr total body) ≡ after.lengths
    lengths_are = (taken_is t.sessions t.parts t.lengths t.rebuilt id nr total body so session refl _ _ refl refl).3

    parts_long : length after.parts ≡ length t.parts
    parts_long = (gather_lengths t.sessions t.parts t.lengths t.rebuilt id nr total body).1

    lengths_long : length after.lengths ≡ length t.lengths
    lengths_long = (gather_lengths t.sessions t.parts t.lengths t.rebuilt id nr total body).2

    pub gather_part : id < length t.sessions → table_part after id ≡ part_with comes_to
    gather_part inside = λ i. record {
      session = row i;
      objects = object_row t.objects id;
      streams = stream_rows t.streams id;
      held = held_same i;
      parts = parts_same i;
      lengths = lengths_same i;
    }
      where
        row : session_at after.sessions id ≡ gathered_session session comes_to
        row = sym (ap (λ (rows : List (List ℕ)). session_at rows id) rows_are) ∙ kept_here t.sessions id (gathered_session session comes_to) inside

        held_by : (g : Gathered) → held_part t.held (gathered_session session g) ≡ held_part t.held session
        held_by Nothing = refl
        held_by (Held d) = refl
        held_by (Whole n) = refl

        held_same : held_part t.held (session_at after.sessions id) ≡ held_part t.held session
        held_same = ap (held_part t.held) row ∙ held_by comes_to

        slot : (session_at after.sessions id).slot ≡ session.slot
        slot = gather_slot t.sessions t.parts t.lengths t.rebuilt id nr total body id

        parts_same : own_parts after.sessions after.parts id ≡ parts_after session own its nr total body
        parts_same =
            (λ i. buffer_in after.parts (slot_stretch 32768 (slot i) (parts_long i)))
            ∙ sym (ap (λ (l : List ℕ). buffer_in l (parts_stretch session (length t.parts))) parts_are)
            ∙ part_here t.parts (parts_stretch session (length t.parts)) (stretch_stands 32768 session.slot (length t.parts)).1 (stretch_stands 32768 session.slot (length t.parts)).2 (parts_after session own its nr total body) (after_parts t.sessions t.parts t.lengths t.rebuilt id nr total body)

        lengths_same : own_lengths after.sessions after.lengths id ≡ lengths_after session own its nr total body
        lengths_same =
            (λ i. buffer_in after.lengths (slot_stretch 64 (slot i) (lengths_long i)))
            ∙ sym (ap (λ (l : List ℕ). buffer_in l (lengths_stretch session (length t.lengths))) lengths_are)
            ∙ part_here t.lengths (lengths_stretch session (length t.lengths)) (stretch_stands 64 session.slot (length t.lengths)).1 (stretch_stands 64 session.slot (length t.lengths)).2 (lengths_after session own its nr total body) (after_lengths t.sessions t.parts t.lengths t.rebuilt id nr total body)

    -- the part of another id, whose slot is another
    pub part_elsewhere : (j : ℕ) → j ≢ id → session.slot ≢ (session_at t.sessions j).slot → table_part after j ≡ table_part t j
    part_elsewhere j n apart = λ i. record {
      session = row i;
      objects = object_row t.objects j;
      streams = stream_rows t.streams j;
      held = held_part t.held (row i);
      parts = parts_same i;
      lengths = lengths_same i;
    }
      where
        row : session_at after.sessions j ≡ session_at t.sessions j
        row = row_elsewhere t.sessions t.parts t.lengths t.rebuilt id nr total body j n

        parts_same : own_parts after.sessions after.parts j ≡ own_parts t.sessions t.parts j
        parts_same =
            (λ i. buffer_in after.parts (parts_stretch (row i) (parts_long i)))
            ∙ sym (ap (λ (l : List ℕ). buffer_in l (parts_stretch (session_at t.sessions j) (length t.parts))) parts_are)
            ∙ slot_apart 32768 session.slot (session_at t.sessions j).slot apart t.parts (parts_after session own its nr total body) (after_parts t.sessions t.parts t.lengths t.rebuilt id nr total body)

        lengths_same : own_lengths after.sessions after.lengths j ≡ own_lengths t.sessions t.lengths j
        lengths_same =
            (λ i. buffer_in after.lengths (lengths_stretch (row i) (lengths_long i)))
            ∙ sym (ap (λ (l : List ℕ). buffer_in l (lengths_stretch (session_at t.sessions j) (length t.lengths))) lengths_are)
            ∙ slot_apart 64 session.slot (session_at t.sessions j).slot apart t.lengths (lengths_after session own its nr total body) (after_lengths t.sessions t.parts t.lengths t.rebuilt id nr total body)

-- ---- a session's store in the view

abbrev pub store_of : Tables → ℕ → FragmentStore
store_of t id = store_shown (table_part t id)

abbrev pub with_store : FragmentStore → Option Local → Option Local
with_store st None = None
with_store st (Some l) = Some (record { id = l.id; key = l.key; last = l.last; objects = l.objects; streams = l.streams; store = st })

-- how many bytes an answer says are rebuilt
abbrev pub whole_in : Gathered → Option ℕ
whole_in Nothing = None
whole_in (Held b) = None
whole_in (Whole n) = Some n

-- ---- sound tables

module _ (P : StreamState → Type 0) (most : ℕ) (t : Tables) (d : SoundTables P most t) (few : most ≤ 255) (id : ℕ) (id< : id < 256) where
  -- the other sessions
  pub gather_elsewhere : (nr total : ℕ) (body : List ℕ) (j : ℕ) → j ≢ id → j < 256 → local_of (gather_tables t id nr total body) j ≡ local_of t j
  gather_elsewhere nr total body j n j< = by (takes t.sessions id nr total (length body)) refl
    where
      live_same : (session_at (gather_tables t id nr total body).sessions j).live ≡ (session_at t.sessions j).live
      live_same = gather_live t.sessions t.parts t.lengths t.rebuilt id nr total body j

      go : takes t.sessions id nr total (length body) ≡ true → (x : Bool) → is_free t.sessions j ≡ x → local_of (gather_tables t id nr total body) j ≡ local_of t j
      go so true e =
          ap (λ (x : Bool). cond x None (Some (session_shown j (table_part (gather_tables t id nr total body) j)))) (ap (λ (m : ℕ). eqb m 0) live_same ∙ e)
          ∙ sym (ap (λ (x : Bool). cond x None (Some (session_shown j (table_part t j)))) e)
      go so false e =
          let l = (taking t.sessions id nr total (length body) so).live in
          ap (local_shown j) (part_elsewhere t id nr total body so j n (λ q. n (d.slots.differ j id j< id< e l (sym q))))

      by : (x : Bool) → takes t.sessions id nr total (length body) ≡ x → local_of (gather_tables t id nr total body) j ≡ local_of t j
      by true e = go e (is_free t.sessions j) refl
      by false e = ap (λ (u : Tables). local_of u j) (gather_nothing t id nr total body e).0

  module _ (live : is_free t.sessions id ≡ false) where
    abbrev here : ClientSession
    here = session_at t.sessions id

    slot_few : here.slot < most
    slot_few = d.slots.under id id< live

    parts_full : length (own_parts t.sessions t.parts id) ≡ 32768
    parts_full =
        let h = slot_few in
        let n = d.parts_need_lem in
        let e = has_slot_lem 32768 here.slot (length t.parts) (omega (arith, h, few)) (omega (arith, h, n)) in
        own_parts_lem t.sessions t.parts t.lengths t.rebuilt id 0 0 [] ∙ ap room_of e ∙ (let z : 32768 * suc here.slot - 32768 * here.slot ≡ 32768 = omega arith in z)

    lengths_full : length (own_lengths t.sessions t.lengths id) ≡ 64
    lengths_full =
        let h = slot_few in
        let n = d.lengths_need_lem in
        let e = has_slot_lem 64 here.slot (length t.lengths) (omega (arith, h, few)) (omega (arith, h, n)) in
        own_lengths_lem t.sessions t.parts t.lengths t.rebuilt id 0 0 [] ∙ ap room_of e ∙ (let z : 64 * suc here.slot - 64 * here.slot ≡ 64 = omega arith in z)

    module _ (nr total : ℕ) (body : List ℕ) where
      abbrev ps : List ℕ
      ps = own_parts t.sessions t.parts id

      abbrev ls : List ℕ
      ls = own_lengths t.sessions t.lengths id

      takes_is : takes t.sessions id nr total (length body) ≡ allowed nr total (length body)
      unfolding named_of
      takes_is = rw (le-leb 256 (length t.sessions) d.sessions_need_lem, live)

      enough : Allowed nr total (length body) → under_need total 512 (length ps) (length ls) ≡ false
      unfolding under_need
      enough ok =
          let h = ok.few_parts in
          let p = parts_full in
          let q = lengths_full in
          rw (le-ltb (length ps) (total * 512) (omega (arith, h, p)), le-ltb (length ls) total (omega (arith, h, q)))

      ended : (ok : Allowed nr total (length body)) → ends here ps ls (d.each id id<).fragments nr total body ok t.rebuilt (whole_of (slots_with (store_of t id) nr total body))
      ended ok = fragment_ends here ps ls (d.each id id<).fragments nr total body ok (enough ok) t.rebuilt d.rebuilt_need_lem

      -- ---- what is shown of the session behind it: "A repeated fragment replaces the body held", and so on

      abbrev shown_with : FragmentStore → Local
      shown_with st =
          record { id = id; key = here.client_key; last = here.last_activity; objects = objects_shown (table_part t id); streams = streams_shown (table_part t id); store = st }

      shown_live : (st : FragmentStore) → with_store st (local_of t id) ≡ Some (shown_with st)
      shown_live st = ap (λ (x : Bool). with_store st (cond x None (Some (session_shown id (table_part t id))))) live

      shown_behind : (ok : Allowed nr total (length body)) (o : Option (List ℕ)) → ends here ps ls (d.each id id<).fragments nr total body ok t.rebuilt o
          → local_shown id (part_with t id nr total body (comes_to t id nr total body)) ≡ Some (shown_with (store_behind total (slots_with (store_of t id) nr total body) o))
      unfolding slots_of
      shown_behind ok None e =
          ap (λ (g : Gathered). local_shown id (part_with t id nr total body g)) e.1
          ∙ ap (λ (x : Bool). cond x None (Some (session_shown id (part_with t id nr total body (Held (buffer_with total e.0)))))) live
          ∙ ap (λ (v : List Slot). Some (shown_with (record { total = total; slots = v }))) (slots_left here ps ls (d.each id id<).fragments nr total body ok (enough ok))
      shown_behind ok (Some bytes) e =
          ap (λ (g : Gathered). local_shown id (part_with t id nr total body g)) e.0
          ∙ ap (λ (x : Bool). cond x None (Some (session_shown id (part_with t id nr total body (Whole (length bytes)))))) live

      pub gather_here : local_of (gather_tables t id nr total body) id ≡ with_store (gathered_store (store_of t id) nr total body) (local_of t id)
      gather_here = by (allowed nr total (length body)) refl
        where
          behind : FragmentStore
          behind = store_behind total (slots_with (store_of t id) nr total body) (whole_of (slots_with (store_of t id) nr total body))

          by : (x : Bool) → allowed nr total (length body) ≡ x → local_of (gather_tables t id nr total body) id ≡ with_store (gathered_store (store_of t id) nr total body) (local_of t id)
          by true e =
              let ok = allowed_is nr total (length body) e in
              let n = d.sessions_need_lem in
              ap (local_shown id) (gather_part t id nr total body (takes_is ∙ e) (omega (arith, n, id<)))
              ∙ shown_behind ok (whole_of (slots_with (store_of t id) nr total body)) (ended ok)
              ∙ sym (shown_live behind)
              ∙ sym (ap (λ (x : Bool). with_store (cond x behind (store_of t id)) (local_of t id)) e)
          by false e =
              ap (λ (u : Tables). local_of u id) (gather_nothing t id nr total body (takes_is ∙ e)).0
              ∙ ap (λ (x : Bool). cond x None (Some (session_shown id (table_part t id)))) live
              ∙ sym (shown_live (store_of t id))
              ∙ sym (ap (λ (x : Bool). with_store (cond x behind (store_of t id)) (local_of t id)) e)

      -- ---- what it is answered, and the rebuilt bytes in their place

      abbrev pub Answered : Option (List ℕ) → Type 0
      Answered None = whole_in (gathered t.sessions t.parts t.lengths t.rebuilt id nr total body) ≡ None
      Answered (Some bytes) =
          (gathered t.sessions t.parts t.lengths t.rebuilt id nr total body ≡ Whole (length bytes))
          × (take (length bytes) (gather_tables t id nr total body).rebuilt ≡ bytes)
          × (length bytes ≤ 32768)

      pub gather_answer : Answered (gathered_bytes (store_of t id) nr total body)
      gather_answer = by (allowed nr total (length body)) refl
        where
          told : (so : takes t.sessions id nr total (length body) ≡ true) (ok : Allowed nr total (length body)) (o : Option (List ℕ))
              → ends here ps ls (d.each id id<).fragments nr total body ok t.rebuilt o → Answered o
          told so ok None e =
              let c = taken_is t.sessions t.parts t.lengths t.rebuilt id nr total body so here refl _ _ refl refl in
              ap whole_in (sym c.0 ∙ e.1)
          told so ok (Some bytes) e =
              let c = taken_is t.sessions t.parts t.lengths t.rebuilt id nr total body so here refl _ _ refl refl in
              (sym c.0 ∙ e.0, ap (take (length bytes)) (sym c.4 ∙ e.1) ∙ take_put t.rebuilt bytes, e.2)

          by : (x : Bool) → allowed nr total (length body) ≡ x → Answered (gathered_bytes (store_of t id) nr total body)
          by true e =
              let ok = allowed_is nr total (length body) e in
              subst Answered (sym (ap (λ (x : Bool). cond x (whole_of (slots_with (store_of t id) nr total body)) None) e)) (told (takes_is ∙ e) ok (whole_of (slots_with (store_of t id) nr total body)) (ended ok))
          by false e =
              subst Answered (sym (ap (λ (x : Bool). cond x (whole_of (slots_with (store_of t id) nr total body)) None) e)) (ap whole_in (gather_nothing t id nr total body (takes_is ∙ e)).1)

      pub gather_missing : gathered_bytes (store_of t id) nr total body ≡ None → whole_in (gathered t.sessions t.parts t.lengths t.rebuilt id nr total body) ≡ None
      gather_missing e = subst Answered e gather_answer

      pub gather_whole : (bytes : List ℕ) → gathered_bytes (store_of t id) nr total body ≡ Some bytes
          → (gathered t.sessions t.parts t.lengths t.rebuilt id nr total body ≡ Whole (length bytes))
          × (take (length bytes) (gather_tables t id nr total body).rebuilt ≡ bytes)
          × (length bytes ≤ 32768)
      gather_whole bytes e = subst Answered e gather_answer
