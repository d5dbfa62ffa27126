-- The view of the sessions: what touching, removing, opening and sweeping change of it, and that they change nothing else.
use Prim.Native.Nat.{ℕ, zero, suc, ◌+◌, ◌-◌, ◌*◌, ◌<◌, ◌≤◌}
use mathlib.Core.Path.{◌≡◌, refl, sym, ap, ◌∙◌}
use mathlib.Core.Logic.{◌≢◌}
use mathlib.Core.Bool.{Bool, true, false, cond}
use mathlib.Core.List.{List, [], ◌∷◌}
use native.Mathlib.Omega.{arith}
use borrow.Author.Tests.{le-leb, eqb-true, eqb-false, leb-true, leb-false}
use lib.Dec.{eqb, leb, ltb}
use lib.ListN.{length, take, drop, set, length-set, length-drop}
use lib.Seq.{get_or-set_same, get_or-set_other, length-take-le}
use Rattle.codec.specs.Inserts.{slots_of}
use Rattle.streams.specs.State.{new_stream}
use Rattle.streams.specs.View.{fresh_of}
use Rattle.sessions.specs.Table.{session_at, session_of, row_of, keep_session, is_free, named_of, kept_rows, touched_session, touched_rows, ended_session, ended_rows, new_session}
use Rattle.sessions.specs.Sweep.{goes, expired_from, swept_at, swept_from, swept_rows}
use Rattle.sessions.specs.SessionObjects.{object_row}
use Rattle.sessions.specs.Streams.{stream_row, first_stream}
use Rattle.sessions.specs.Opening.{free_slot}
use Rattle.sessions.specs.Held.{held_part, buffer_at}
use Rattle.sessions.specs.Sending.{buffer_in}
use Rattle.sessions.specs.Fragments.{parts_stretch, lengths_stretch}
use Rattle.sessions.specs.FragmentStore.{empty_store}
use Rattle.sessions.specs.View.{Tables, KeptStream, Local, Part, start_of, shown_from, stream_rows, listed, opened, table_part, session_shown, local_shown, local_of, lapsed, expired_at}
use Rattle.sessions.specs.Calls.{with_sessions, create_tables}
use Rattle.sessions.specs.declared.table.ClientSession.{ClientSession}
use Rattle.sessions.proofs.StreamBack.{new_shown}
use Rattle.sessions.proofs.Parts.{part_below, part_above, part_within}
use Rattle.std.specs.Prelude.{Err, Ok, Result, Option, None, Some}
use Rattle.codec.specs.declared.refusals.Refusal.{Refusal}

-- ---- one row of the table

module _ (rows : List (List ℕ)) (id : ℕ) (s : ClientSession) where
  pub kept_here : id < length rows → session_at (keep_session rows id s) id ≡ s
  kept_here h = ap session_of (get_or-set_same rows id (row_of s) [] h)

  pub kept_elsewhere : (j : ℕ) → j ≢ id → session_at (keep_session rows id s) j ≡ session_at rows j
  kept_elsewhere j h = ap session_of (get_or-set_other rows id j (row_of s) [] h)

  -- a change of a live session: here, elsewhere, and where the id is free
  live_named : 256 ≤ length rows → is_free rows id ≡ false → named_of rows id ≡ (Ok true)
  unfolding named_of
  live_named h e = rw (le-leb 256 (length rows) h, e)

  free_named : 256 ≤ length rows → is_free rows id ≡ true → named_of rows id ≡ (Ok false)
  unfolding named_of
  free_named h e = rw (le-leb 256 (length rows) h, e)

  pub live_here : 256 ≤ length rows → id < 256 → is_free rows id ≡ false → session_at (kept_rows (named_of rows id) rows id s) id ≡ s
  live_here h l e = rw (live_named h e) (kept_here (omega arith))

  pub live_elsewhere : (j : ℕ) → j ≢ id → session_at (kept_rows (named_of rows id) rows id s) j ≡ session_at rows j
  live_elsewhere j h = by (named_of rows id)
    where
      by : (w : Result Bool Refusal) → session_at (kept_rows w rows id s) j ≡ session_at rows j
      by (Ok true) = kept_elsewhere j h
      by (Ok false) = refl
      by (Err r) = refl

  pub free_kept : 256 ≤ length rows → is_free rows id ≡ true → kept_rows (named_of rows id) rows id s ≡ rows
  free_kept h e = rw (free_named h e) refl

-- ---- the tables with other sessions in them

-- what a session has of the stores of fragments
abbrev pub parts_of : Tables → ClientSession → List ℕ
parts_of t s = buffer_in t.parts (parts_stretch s (length t.parts))

abbrev pub lengths_of : Tables → ClientSession → List ℕ
lengths_of t s = buffer_in t.lengths (lengths_stretch s (length t.lengths))

-- a part with another session, and what is then its part of the stores by slot
abbrev pub with_session : Tables → ClientSession → Part → Part
with_session t s p = record { session = s; objects = p.objects; streams = p.streams; held = held_part t.held s; parts = parts_of t s; lengths = lengths_of t s }

module _ (t : Tables) (id : ℕ) (long : 256 ≤ length t.sessions) (id< : id < 256) where
  -- a live session that becomes s, and the others
  module _ (s : ClientSession) where
    abbrev pub changed : Tables
    changed = with_sessions t (kept_rows (named_of t.sessions id) t.sessions id s)

    pub changed_here : is_free t.sessions id ≡ false → table_part changed id ≡ with_session t s (table_part t id)
    changed_here e = ap (λ (x : ClientSession). with_session t x (table_part t id)) (live_here t.sessions id s long id< e)

    pub changed_elsewhere : (j : ℕ) → j ≢ id → table_part changed j ≡ table_part t j
    changed_elsewhere j h = ap (λ (x : ClientSession). with_session t x (table_part t j)) (live_elsewhere t.sessions id s j h)

    -- an id that is not live stays so
    pub changed_free : is_free t.sessions id ≡ true → changed ≡ t
    changed_free e = ap (with_sessions t) (free_kept t.sessions id s long e)

  not_live : is_free t.sessions id ≡ true → local_of t id ≡ None
  not_live e = rw e refl

  -- ---- touch

  abbrev pub touched_local : ℕ → Option Local → Option Local
  touched_local time None = None
  touched_local time (Some l) = Some (record { id = l.id; key = l.key; last = time; objects = l.objects; streams = l.streams; store = l.store })

  pub touch_here : (time : ℕ) → local_of (with_sessions t (touched_rows t.sessions id time)) id ≡ touched_local time (local_of t id)
  unfolding touched_rows
  touch_here time = by (is_free t.sessions id) refl
    where
      s : ClientSession
      s = touched_session (session_at t.sessions id) time

      shown : eqb (session_at t.sessions id).live 0 ≡ false → local_shown id (with_session t s (table_part t id)) ≡ touched_local time (local_of t id)
      shown e = rw e refl

      by : (b : Bool) → is_free t.sessions id ≡ b → local_of (changed s) id ≡ touched_local time (local_of t id)
      by true e = ap (λ (u : Tables). local_of u id) (changed_free s e) ∙ not_live e ∙ sym (ap (touched_local time) (not_live e))
      by false e = ap (local_shown id) (changed_here s e) ∙ shown e

  pub touch_elsewhere : (time j : ℕ) → j ≢ id → local_of (with_sessions t (touched_rows t.sessions id time)) j ≡ local_of t j
  unfolding touched_rows
  touch_elsewhere time j h = ap (local_shown j) (changed_elsewhere (touched_session (session_at t.sessions id) time) j h)

  -- ---- remove: nothing is left of the session

  pub remove_here : local_of (with_sessions t (ended_rows t.sessions id)) id ≡ None
  unfolding ended_rows
  remove_here = by (is_free t.sessions id) refl
    where
      by : (b : Bool) → is_free t.sessions id ≡ b → local_of (changed ended_session) id ≡ None
      by true e = ap (λ (u : Tables). local_of u id) (changed_free ended_session e) ∙ not_live e
      by false e = ap (local_shown id) (changed_here ended_session e)

  pub remove_elsewhere : (j : ℕ) → j ≢ id → local_of (with_sessions t (ended_rows t.sessions id)) j ≡ local_of t j
  unfolding ended_rows
  remove_elsewhere j h = ap (local_shown j) (changed_elsewhere ended_session j h)

-- ---- create_session

-- the tables where it opens one
abbrev pub opened_tables : Tables → ℕ → ℕ → ℕ → ℕ → Tables
opened_tables t id next key time = create_tables (Ok (id, next)) t key time

-- a row of streams that another session's does not touch
pub streams_elsewhere : (streams : List (List ℕ)) (id k j : ℕ) (w : List ℕ) → k < 8 → j ≢ id → stream_rows (set streams (first_stream id + k) w) j ≡ stream_rows streams j
unfolding stream_rows
streams_elsewhere streams id k j w h n = by (leb j id) refl
  where
    by : (b : Bool) → leb j id ≡ b → take 8 (drop (8 * j) (set streams (8 * id + k) w)) ≡ take 8 (drop (8 * j) streams)
    by true e = part_above streams (8 * j) 8 (8 * id + k) w (omega (arith, leb-true j id e, n))
    by false e = part_below streams (8 * j) 8 (8 * id + k) w (omega (arith, leb-false j id e))

pub streams_here : (streams : List (List ℕ)) (id k : ℕ) (w : List ℕ) → k < 8 → stream_rows (set streams (first_stream id + k) w) id ≡ set (stream_rows streams id) k w
unfolding stream_rows
streams_here streams id k w h = part_within streams (8 * id) 8 k w h

first_row : (id : ℕ) → first_stream id ≡ first_stream id + 0
first_row id = omega arith

pub streams_first : (streams : List (List ℕ)) (id : ℕ) (w : List ℕ) → stream_rows (set streams (first_stream id) w) id ≡ set (stream_rows streams id) 0 w
streams_first streams id w = ap (λ (k : ℕ). stream_rows (set streams k w) id) (first_row id) ∙ streams_here streams id 0 w (omega arith)

pub first_elsewhere : (streams : List (List ℕ)) (id j : ℕ) (w : List ℕ) → j ≢ id → stream_rows (set streams (first_stream id) w) j ≡ stream_rows streams j
first_elsewhere streams id j w h = ap (λ (k : ℕ). stream_rows (set streams k w) j) (first_row id) ∙ streams_elsewhere streams id 0 j w (omega arith) h

pub streams_length : (streams : List (List ℕ)) (id : ℕ) → 2048 ≤ length streams → id < 256 → length (stream_rows streams id) ≡ 8
unfolding stream_rows
streams_length streams id h l = length-take-le 8 (drop (8 * id) streams) (rw (length-drop (8 * id) streams) (omega arith))

module _ (t : Tables) (id next key time : ℕ) (long : 256 ≤ length t.sessions) (store : 2048 ≤ length t.streams) (id< : id < 256) where
  -- the new session has the lowest slot that no live one has
  abbrev pub made : ClientSession
  made = new_session key time (free_slot t.sessions)

  -- the part of the new session: nothing of the last holder of its rows is in use
  pub opened_here : table_part (opened_tables t id next key time) id
      ≡ record { session = made; objects = object_row t.objects id; streams = set (stream_rows t.streams id) 0 (stream_row (new_stream 0)); held = held_part t.held made; parts = parts_of t made; lengths = lengths_of t made }
  opened_here =
      let e = kept_here t.sessions id made (omega arith) in
      λ i. record { session = e i; objects = object_row t.objects id; streams = streams_first t.streams id (stream_row (new_stream 0)) i; held = held_part t.held (e i); parts = parts_of t (e i); lengths = lengths_of t (e i) }

  pub opened_elsewhere : (j : ℕ) → j ≢ id → table_part (opened_tables t id next key time) j ≡ table_part t j
  opened_elsewhere j h =
      let e = kept_elsewhere t.sessions id made j h in
      λ i. record { session = e i; objects = object_row t.objects j; streams = first_elsewhere t.streams id j (stream_row (new_stream 0)) h i; held = held_part t.held (e i); parts = parts_of t (e i); lengths = lengths_of t (e i) }

  pub one_open : (held : List ℕ) → opened 1 held (set (stream_rows t.streams id) 0 (stream_row (new_stream 0))) ≡ fresh_of 0 ∷ []
  unfolding opened shown_from
  one_open held = by (stream_rows t.streams id) (streams_length t.streams id store id<)
    where
      by : (l : List (List ℕ)) → length l ≡ 8 → shown_from held 0 (take 1 (set l 0 (stream_row (new_stream 0)))) ≡ fresh_of 0 ∷ []
      by [] e = let z : ⊥ = omega arith in absurd z
      by (x ∷ l) e = ap (λ (k : KeptStream). k ∷ []) (new_shown (buffer_at held 0) 0 (omega arith))

  pub open_here : local_of (opened_tables t id next key time) id ≡ Some (start_of id key time)
  unfolding listed slots_of
  open_here =
      ap (local_shown id) opened_here
      ∙ ap (λ (ks : List KeptStream). Some (record { id = id; key = key; last = time; objects = []; streams = ks; store = empty_store })) (one_open (held_part t.held made))

  pub open_elsewhere : (j : ℕ) → j ≢ id → local_of (opened_tables t id next key time) j ≡ local_of t j
  open_elsewhere j h = ap (local_shown j) (opened_elsewhere j h)

-- ---- a sweep

module _ (time timeout : ℕ) where
  swept_at_here : (rows : List (List ℕ)) (i : ℕ) → i < length rows → session_at (swept_at rows time timeout i) i ≡ cond (goes rows time timeout i) ended_session (session_at rows i)
  unfolding swept_at
  swept_at_here rows i h = by (goes rows time timeout i)
    where
      by : (b : Bool) → session_at (cond b (keep_session rows i ended_session) rows) i ≡ cond b ended_session (session_at rows i)
      by true = kept_here rows i ended_session h
      by false = refl

  swept_at_other : (rows : List (List ℕ)) (i j : ℕ) → j ≢ i → session_at (swept_at rows time timeout i) j ≡ session_at rows j
  unfolding swept_at
  swept_at_other rows i j h = by (goes rows time timeout i)
    where
      by : (b : Bool) → session_at (cond b (keep_session rows i ended_session) rows) j ≡ session_at rows j
      by true = kept_elsewhere rows i ended_session j h
      by false = refl

  swept_length : (rows : List (List ℕ)) (i : ℕ) → length (swept_at rows time timeout i) ≡ length rows
  unfolding swept_at
  swept_length rows i = by (goes rows time timeout i)
    where
      by : (b : Bool) → length (cond b (keep_session rows i ended_session) rows) ≡ length rows
      by true = length-set rows i (row_of ended_session)
      by false = refl

  pub swept_all : (rows : List (List ℕ)) (i n : ℕ) → length (swept_from rows time timeout i n) ≡ length rows
  unfolding swept_from
  swept_all rows i zero = refl
  swept_all rows i (suc n) = swept_all (swept_at rows time timeout i) (suc i) n ∙ swept_length rows i

  -- what goes is seen in the session's own row
  goes_same : (rows rows' : List (List ℕ)) (j : ℕ) → session_at rows' j ≡ session_at rows j → goes rows' time timeout j ≡ goes rows time timeout j
  unfolding goes
  goes_same rows rows' j e = ap (λ (s : ClientSession). cond (eqb s.live 0) false (ltb timeout (time - s.last_activity))) e

  pub swept_outside : (rows : List (List ℕ)) (i n j : ℕ) → (i ≤ j → j < i + n → ⊥) → session_at (swept_from rows time timeout i n) j ≡ session_at rows j
  unfolding swept_from
  swept_outside rows i zero j h = refl
  swept_outside rows i (suc n) j h =
      swept_outside (swept_at rows time timeout i) (suc i) n j (λ a b. h (omega arith) (omega arith))
      ∙ swept_at_other rows i j (λ e. h (omega arith) (omega arith))

  swept_inside : (rows : List (List ℕ)) (i n j : ℕ) → i + n ≤ length rows → i ≤ j → j < i + n → session_at (swept_from rows time timeout i n) j ≡ cond (goes rows time timeout j) ended_session (session_at rows j)
  unfolding swept_from
  swept_inside rows i zero j l a b = let z : ⊥ = omega arith in absurd z
  swept_inside rows i (suc n) j l a b =
      by (λ q. swept_inside (swept_at rows time timeout i) (suc i) n j (rw (swept_length rows i) (omega arith)) (omega (arith, q)) (omega arith)) (eqb j i) refl
    where
      by : (j ≢ i → session_at (swept_from (swept_at rows time timeout i) time timeout (suc i) n) j ≡ cond (goes (swept_at rows time timeout i) time timeout j) ended_session (session_at (swept_at rows time timeout i) j))
          → (b : Bool) → eqb j i ≡ b → session_at (swept_from (swept_at rows time timeout i) time timeout (suc i) n) j ≡ cond (goes rows time timeout j) ended_session (session_at rows j)
      by ih true e =
          let q : j ≡ i = eqb-true j i e in
          rw q (swept_outside (swept_at rows time timeout i) (suc i) n i (λ c d. omega arith) ∙ swept_at_here rows i (omega arith))
      by ih false e =
          let q : j ≢ i = eqb-false j i e in
          let o = swept_at_other rows i j q in
          ih q
          ∙ ap (λ (g : Bool). cond g ended_session (session_at (swept_at rows time timeout i) j)) (goes_same rows (swept_at rows time timeout i) j o)
          ∙ ap (cond (goes rows time timeout j) ended_session) o

  -- a session of the view goes exactly if it is expired
  pub goes_view : (t : Tables) (j : ℕ) → goes t.sessions time timeout j ≡ lapsed time timeout (local_of t j)
  unfolding goes
  goes_view t j = by (is_free t.sessions j)
    where
      by : (b : Bool) → cond b false (ltb timeout (time - (session_at t.sessions j).last_activity))
          ≡ lapsed time timeout (cond b None (Some (session_shown j (table_part t j))))
      by true = refl
      by false = refl

  -- what is left of a session's part
  pub swept_part : (t : Tables) (j : ℕ) → 256 ≤ length t.sessions → 1 ≤ j → j < 256
      → table_part (with_sessions t (swept_rows t.sessions time timeout)) j ≡ with_session t (cond (goes t.sessions time timeout j) ended_session (session_at t.sessions j)) (table_part t j)
  unfolding swept_rows
  swept_part t j long a b = ap (λ (s : ClientSession). with_session t s (table_part t j)) (swept_inside t.sessions 1 255 j (omega arith) a (omega arith))

  -- "a sweep when it is expired, ends it"; every other session stays
  pub sweep_view : (t : Tables) (j : ℕ) → 256 ≤ length t.sessions → 1 ≤ j → j < 256
      → local_of (with_sessions t (swept_rows t.sessions time timeout)) j ≡ cond (lapsed time timeout (local_of t j)) None (local_of t j)
  sweep_view t j long a b = ap (local_shown j) (swept_part t j long a b) ∙ by (goes t.sessions time timeout j) ∙ ap (λ (g : Bool). cond g None (local_of t j)) (goes_view t j)
    where
      by : (g : Bool) → local_shown j (with_session t (cond g ended_session (session_at t.sessions j)) (table_part t j)) ≡ cond g None (local_of t j)
      by true = refl
      by false = refl

  -- the ids that a sweep lists are those of the expired sessions
  pub listed_view : (t : Tables) (i n : ℕ) → expired_from (goes t.sessions time timeout) i n ≡ expired_from (expired_at t time timeout) i n
  listed_view t i n = ap (λ (gone : ℕ → Bool). expired_from gone i n) same
    where
      same : ◌≡◌ {A = ℕ → Bool} (goes t.sessions time timeout) (expired_at t time timeout)
      same = λ i id. goes_view t id i
