-- The view of a session's streams in the tables: what opening, reading and writing back show and change of it, and that they change nothing else.
use Rattle.std.specs.Option.{option_map}
use Prim.Native.Nat.{ℕ, zero, suc, ◌+◌, ◌<◌, ◌≤◌}
use mathlib.Core.Path.{◌≡◌, refl, sym, ap, ◌∙◌, subst}
use mathlib.Core.Logic.{◌≢◌}
use mathlib.Core.Bool.{Bool, true, false, cond}
use mathlib.Core.List.{List, [], ◌∷◌, ◌++◌}
use native.Mathlib.Omega.{arith}
use native.Mathlib.Numerals.{add-one}
use borrow.Author.Tests.{eqb-true, lt-ltb, le-ltb, ltb-true, ltb-false, leb-true, leb-false}
use lib.Dec.{eqb, leb, ltb}
use lib.ListN.{length, take, drop, get_or, set}
use lib.Seq.{length-take-le, get_or-take, get_or-drop, take-set-lt, take-suc-set}
use Rattle.codec.specs.Answers.{Answer, gives, refused_as}
use Rattle.streams.specs.Places.{first_from}
use Rattle.streams.specs.State.{new_stream}
use Rattle.streams.specs.Sent.{bytes_in}
use Rattle.streams.specs.View.{Kept, kept_of, fresh_of}
use Rattle.streams.specs.declared.state.StreamState.{StreamState}
use Rattle.streams.proofs.places.Laws.{found_from, before_from}
use Rattle.sessions.specs.Table.{session_at}
use Rattle.sessions.specs.Streams.{stream_of, stream_row, stream_at, first_stream}
use Rattle.sessions.specs.SessionStreams.{streams_used, streamed_session, streams_named, is_stream, placed_as, stream_place, opened_as, opened_count, opened_in, named_as, read_as, written_in}
use Rattle.sessions.specs.SessionObjects.{object_row}
use Rattle.sessions.specs.Held.{held_part, buffer_at}
use Rattle.sessions.specs.View.{Tables, KeptStream, Local, Part, stream_shown, shown_from, opened, stream_rows, table_part, session_shown, local_shown, local_of, streams_of, stream_in, open_if, open_in, write_in}
use Rattle.sessions.specs.Answers.{opened_answer, stream_answer, read_answer}
use Rattle.sessions.specs.Calls.{open_tables, write_tables}
use Rattle.sessions.specs.declared.session_streams.StreamPlace.{StreamPlace}
use Rattle.sessions.specs.declared.session_streams.StreamPlace.TheVariants.{Have, Add, Full, NotLive}
use Rattle.sessions.specs.declared.session_streams.StreamNamed.TheVariants as stream
use Rattle.sessions.proofs.ShownStreams.{shown_length, shown_at_lem, shown_set, shown_append}
use Rattle.sessions.proofs.StreamBack.{new_shown, row_shown}
use Rattle.sessions.proofs.ViewTable.{parts_of, lengths_of, kept_here, kept_elsewhere, streams_here, streams_elsewhere, streams_length}
use Rattle.sessions.proofs.session_streams.Laws.{place_is}
use Rattle.sessions.proofs.table.Laws.{live_fits}
use Rattle.std.specs.Prelude.{Err, Ok, Result, Option, None, Some}
use Rattle.codec.specs.declared.refusals.Refusal.{Refusal}

-- ---- document 01's list of streams, by the place of a number

module _ {A : Type 0} (blank : Kept A) where
  abbrev hit : List (Kept A) → ℕ → ℕ → Bool
  hit ks n j = eqb (get_or ks j blank).number n

  -- the first stream of that number is found, and is the one that is written over
  found_at : (ks : List (Kept A)) (n p : ℕ) → p < length ks → hit ks n p ≡ true → ((j : ℕ) → j < p → hit ks n j ≡ false) → stream_in ks n ≡ Some (get_or ks p blank)
  unfolding stream_in
  found_at [] n p h e f = let z : ⊥ = omega arith in absurd z
  found_at (k ∷ ks) n zero h e f = rw e
  found_at (k ∷ ks) n (suc p) h e f = rw (f 0 (omega arith)) (found_at ks n p (omega arith) e (λ j l. f (suc j) (omega arith)))

  written_at : (ks : List (Kept A)) (k : Kept A) (p : ℕ) → p < length ks → hit ks k.number p ≡ true → ((j : ℕ) → j < p → hit ks k.number j ≡ false) → write_in ks k ≡ set ks p k
  unfolding write_in
  written_at [] k p h e f = let z : ⊥ = omega arith in absurd z
  written_at (x ∷ xs) k zero h e f = rw e
  written_at (x ∷ xs) k (suc p) h e f = rw (f 0 (omega arith)) (ap (λ (l : List (Kept A)). x ∷ l) (written_at xs k p (omega arith) e (λ j l. f (suc j) (omega arith))))

  -- where None has that number, None is found and nothing is written
  not_found : (ks : List (Kept A)) (n : ℕ) → ((j : ℕ) → j < length ks → hit ks n j ≡ false) → stream_in ks n ≡ None
  unfolding stream_in
  not_found [] n f = refl
  not_found (k ∷ ks) n f = rw (f 0 (omega arith)) (not_found ks n (λ j l. f (suc j) (omega arith)))

  not_written : (ks : List (Kept A)) (k : Kept A) → ((j : ℕ) → j < length ks → hit ks k.number j ≡ false) → write_in ks k ≡ ks
  unfolding write_in
  not_written [] k f = refl
  not_written (x ∷ xs) k f = rw (f 0 (omega arith)) (ap (λ (l : List (Kept A)). x ∷ l) (not_written xs k (λ j l. f (suc j) (omega arith))))

-- the stream that is found has that number
pub found_number : {A : Type 0} (ks : List (Kept A)) (n : ℕ) (x : Kept A) → stream_in ks n ≡ Some x → x.number ≡ n
unfolding stream_in
found_number [] n x e = let z : ◌≡◌ {A = ℕ} 0 1 = cc in absurd (omega arith)
found_number (k ∷ ks) n x e = by (eqb k.number n) refl e (found_number ks n x)
  where
    by : (b : Bool) → eqb k.number n ≡ b → cond b (Some k) (stream_in ks n) ≡ Some x → (stream_in ks n ≡ Some x → x.number ≡ n) → x.number ≡ n
    by true q e later = let z : k ≡ x = cc in ap (λ (y : Kept _). y.number) (sym z) ∙ eqb-true k.number n q
    by false q e later = later e

-- ---- a session with other streams

abbrev pub with_streams : List KeptStream → Option Local → Option Local
with_streams ks None = None
with_streams ks (Some l) = Some (record { id = l.id; key = l.key; last = l.last; objects = l.objects; streams = ks; store = l.store })

-- a part with n streams in other rows
abbrev pub with_streamed : ℕ → List (List ℕ) → Part → Part
with_streamed n rows p = record { session = streamed_session p.session n; objects = p.objects; streams = rows; held = p.held; parts = p.parts; lengths = p.lengths }

streamed_shown : (id n : ℕ) (rows : List (List ℕ)) (p : Part) → local_shown id (with_streamed n rows p) ≡ with_streams (opened n p.held rows) (local_shown id p)
streamed_shown id n rows p = by (eqb p.session.live 0)
  where
    by : (b : Bool) → cond b None (Some (session_shown id (with_streamed n rows p))) ≡ with_streams (opened n p.held rows) (cond b None (Some (session_shown id p)))
    by true = refl
    by false = refl

-- ---- answers

-- a stream that was read, as the view shows it with its buffer
abbrev pub read_shown : List ℕ → Answer (Option (Option StreamState)) → Answer (Option (Option KeptStream))
read_shown buffer (gives None) = gives None
read_shown buffer (gives (Some o)) = gives (Some (option_map (kept_of (bytes_in buffer)) o))
read_shown buffer (refused_as number byte) = refused_as number byte

-- whether a stream is open
abbrev pub is_open : {A : Type 0} → Option (Kept A) → Bool
is_open (Some k) = true
is_open None = false

-- ---- the tables

-- "No such session": nothing is opened, read or written
module _ (t : Tables) (id : ℕ) (gone : streams_named t.sessions (length t.streams) id ≡ (Ok false)) where
  pub no_place : (n : ℕ) → stream_place t.sessions t.streams id n ≡ (Ok NotLive)
  no_place n = sym (place_is t.sessions t.streams id n (Ok false) gone)

  pub open_gone : (n : ℕ) → (opened_answer (opened_as (stream_place t.sessions t.streams id n)) ≡ gives None) × (open_tables t id n ≡ t)
  open_gone n =
      (ap (λ (p : Result StreamPlace Refusal). opened_answer (opened_as p)) (no_place n), λ i. record { sessions = opened_count (no_place n i) t.sessions id; streams = opened_in (no_place n i) t.streams id n; objects = t.objects; held = t.held; parts = t.parts; lengths = t.lengths; rebuilt = t.rebuilt })

  pub read_gone : (n : ℕ) → read_as (stream_place t.sessions t.streams id n) t.streams id ≡ record { answer = (Ok stream.NotLive); state = new_stream 0 }
  read_gone n = ap (λ (p : Result StreamPlace Refusal). read_as p t.streams id) (no_place n)

  pub write_gone : (s : StreamState) → (stream_answer (named_as (stream_place t.sessions t.streams id s.stream_id)) ≡ gives None) × (write_tables t id s ≡ t)
  write_gone s = (ap (λ (p : Result StreamPlace Refusal). stream_answer (named_as p)) (no_place s.stream_id), λ i. record { sessions = t.sessions; streams = written_in (no_place s.stream_id i) t.streams id s; objects = t.objects; held = t.held; parts = t.parts; lengths = t.lengths; rebuilt = t.rebuilt })

module _ (t : Tables) (id : ℕ) (id< : id < 256) (live : streams_named t.sessions (length t.streams) id ≡ (Ok true)) where
  abbrev pub rows : List (List ℕ)
  rows = stream_rows t.streams id

  abbrev pub used : ℕ
  used = streams_used t.sessions id

  abbrev pub shown : List KeptStream
  shown = streams_of t id

  abbrev pub part : List ℕ
  part = held_part t.held (session_at t.sessions id)

  -- what stands for a stream behind the last
  abbrev pub blank : KeptStream
  blank = stream_shown [] []

  -- the buffer of the stream of a number, by its place
  abbrev pub buffer_by : Result StreamPlace Refusal → List ℕ
  buffer_by (Ok (Have k)) = buffer_at part k
  buffer_by (Ok (Add k)) = []
  buffer_by (Ok Full) = []
  buffer_by (Ok NotLive) = []
  buffer_by (Err r) = []

  few : used ≤ 8
  unfolding streams_named
  few = (live_fits t.sessions id used 8 (length t.streams) 2048 live).count

  store : 2048 ≤ length t.streams
  unfolding streams_named
  store = (live_fits t.sessions id used 8 (length t.streams) 2048 live).store_long

  rows_long : id < length t.sessions
  unfolding streams_named
  rows_long = omega (arith, (live_fits t.sessions id used 8 (length t.streams) 2048 live).rows_long)

  pub eight : length rows ≡ 8
  eight = streams_length t.streams id store id<

  open_length : length shown ≡ used
  unfolding opened
  open_length = shown_length part 0 (take used rows) ∙ length-take-le used rows (rw eight few)

  pub row_at : (k : ℕ) → k < 8 → get_or rows k [] ≡ get_or t.streams (first_stream id + k) []
  unfolding stream_rows
  row_at k h = get_or-take 8 (drop (first_stream id) t.streams) k [] h ∙ get_or-drop (first_stream id) t.streams k []

  pub open_at : (k : ℕ) → k < used → get_or shown k blank ≡ kept_of (bytes_in (buffer_at part k)) (stream_at t.streams (first_stream id + k))
  unfolding opened
  open_at k h =
      shown_at_lem part (take used rows) k blank (rw (length-take-le used rows (rw eight few)) h)
      ∙ ap (stream_shown (buffer_at part k)) (get_or-take used rows k [] h ∙ row_at k (omega (arith, few)))

  -- ---- where the stream of a number is, read off the list

  module _ (n : ℕ) where
    abbrev pub place : Result StreamPlace Refusal
    place = stream_place t.sessions t.streams id n

    sought : ℕ
    sought = first_from (is_stream t.streams (first_stream id) n) used 0

    hit_is : (j : ℕ) → j < used → hit blank shown n j ≡ is_stream t.streams (first_stream id) n j
    hit_is j h = ap (λ (k : KeptStream). eqb k.number n) (open_at j h)

    before : (j : ℕ) → j < used → j < sought → hit blank shown n j ≡ false
    unfolding sought
    before j h l = hit_is j h ∙ before_from (is_stream t.streams (first_stream id) n) used 0 j (omega arith) l

    there : sought < used → hit blank shown n sought ≡ true
    unfolding sought
    there h = hit_is sought h ∙ found_from (is_stream t.streams (first_stream id) n) used 0 (omega arith)

    -- what a place says of the list
    abbrev pub Seen : Result StreamPlace Refusal → Type 0
    Seen (Ok (Have k)) = (k < used) × (stream_in shown n ≡ Some (get_or shown k blank)) × ((x : KeptStream) → x.number ≡ n → write_in shown x ≡ set shown k x)
    Seen (Ok (Add k)) = (k ≡ used) × (used < 8) × (stream_in shown n ≡ None) × ((x : KeptStream) → x.number ≡ n → write_in shown x ≡ shown)
    Seen (Ok Full) = (8 ≤ used) × (stream_in shown n ≡ None) × ((x : KeptStream) → x.number ≡ n → write_in shown x ≡ shown)
    Seen (Ok NotLive) = ⊥
    Seen (Err r) = ⊥

    seen_place : Seen (placed_as sought used)
    seen_place = by (ltb sought used) refl (leb 8 used) refl
      where
        none_has : used ≤ sought → (j : ℕ) → j < length shown → hit blank shown n j ≡ false
        none_has h j l = before j (omega (arith, open_length)) (omega (arith, open_length))

        miss : ltb sought used ≡ false → (stream_in shown n ≡ None) × ((x : KeptStream) → x.number ≡ n → write_in shown x ≡ shown)
        miss a = (
          not_found blank shown n (none_has (ltb-false sought used a)),
          λ x e. not_written blank shown x (rw e (none_has (ltb-false sought used a))),
        )

        by : (a : Bool) → ltb sought used ≡ a → (b : Bool) → leb 8 used ≡ b → Seen (cond a (Ok (Have sought)) (cond b (Ok Full) (Ok (Add used))))
        by true a b c =
            let h : sought < used = ltb-true sought used a in
            let l : sought < length shown = omega (arith, open_length) in (
              h,
              found_at blank shown n sought l (there h) (λ j k. before j (omega arith) k),
              λ x e. written_at blank shown x sought l (rw e (there h)) (λ j k. rw e (before j (omega arith) k)),
            )
        by false a true c = (leb-true 8 used c, (miss a).0, (miss a).1)
        by false a false c = (refl, leb-false 8 used c, (miss a).0, (miss a).1)

    pub seen : Seen place
    unfolding sought
    seen = subst Seen (place_is t.sessions t.streams id n (Ok true) live) seen_place

  -- the stream at the place found has that number
  pub at_number : (n k : ℕ) → Seen n (Ok (Have k)) → (stream_at t.streams (first_stream id + k)).stream_id ≡ n
  at_number n k s = sym (ap (λ (x : KeptStream). x.number) (open_at k s.0)) ∙ found_number shown n (get_or shown k blank) s.1

  pub place_number : (n k : ℕ) → Seen n (Ok (Have k)) → (stream_of (get_or rows k [])).stream_id ≡ n
  place_number n k s = ap (λ (w : List ℕ). (stream_of w).stream_id) (row_at k (omega (arith, few, s.0))) ∙ at_number n k s

  -- a row that is written over, in a part in which the other streams have the buffers that they had
  pub opened_set : (other : List ℕ) (k : ℕ) → k < used → ((j : ℕ) → j < used → j ≢ k → buffer_at other j ≡ buffer_at part j) → (w : List ℕ)
      → opened used other (set rows k w) ≡ set shown k (stream_shown (buffer_at other k) w)
  unfolding opened
  opened_set other k h same w =
      ap (shown_from other 0) (take-set-lt used rows k w h)
      ∙ shown_set part other (take used rows) k w (λ j l n. same j (omega (arith, length-take-le used rows (rw eight few))) n)

  -- where nothing is written the list stays
  same_streams : local_of t id ≡ with_streams shown (local_of t id)
  same_streams = streamed_shown id used rows (table_part t id)

  -- ---- read

  pub read_view : (n : ℕ) → read_shown (buffer_by (place n)) (read_answer (read_as (place n) t.streams id)) ≡ gives (Some (stream_in shown n))
  read_view n = by (place n) (seen n)
    where
      by : (p : Result StreamPlace Refusal) → Seen n p → read_shown (buffer_by p) (read_answer (read_as p t.streams id)) ≡ gives (Some (stream_in shown n))
      by (Ok (Have k)) s = ap (λ (o : Option KeptStream). gives (Some o)) (ap Some (sym (open_at k s.0)) ∙ sym s.1)
      by (Ok (Add k)) s = ap (λ (o : Option KeptStream). gives (Some o)) (sym s.2)
      by (Ok Full) s = ap (λ (o : Option KeptStream). gives (Some o)) (sym s.1)
      by (Ok NotLive) s = absurd s
      by (Err r) s = absurd s

  -- what writing back answers
  pub write_answer : (n : ℕ) → stream_answer (named_as (place n)) ≡ gives (Some (is_open (stream_in shown n)))
  write_answer n = by (place n) (seen n)
    where
      by : (p : Result StreamPlace Refusal) → Seen n p → stream_answer (named_as p) ≡ gives (Some (is_open (stream_in shown n)))
      by (Ok (Have k)) s = ap (λ (o : Option KeptStream). gives (Some (is_open o))) (sym s.1)
      by (Ok (Add k)) s = ap (λ (o : Option KeptStream). gives (Some (is_open o))) (sym s.2)
      by (Ok Full) s = ap (λ (o : Option KeptStream). gives (Some (is_open o))) (sym s.1)
      by (Ok NotLive) s = absurd s
      by (Err r) s = absurd s

  -- ---- write back

  module _ (s : StreamState) (s< : s.stream_id < 256) where
    -- the tables, by the place of the stream
    abbrev pub writing : Result StreamPlace Refusal → Tables
    writing p = record { sessions = t.sessions; streams = written_in p t.streams id s; objects = t.objects; held = t.held; parts = t.parts; lengths = t.lengths; rebuilt = t.rebuilt }

    pub written_part : (k : ℕ) → k < used → table_part (writing (Ok (Have k))) id ≡ with_streamed used (set rows k (stream_row s)) (table_part t id)
    written_part k h = λ i. record { session = session_at t.sessions id; objects = object_row t.objects id; streams = streams_here t.streams id k (stream_row s) (omega (arith, few)) i; held = part; parts = parts_of t (session_at t.sessions id); lengths = lengths_of t (session_at t.sessions id) }

    pub written_elsewhere : (k : ℕ) → k < used → (j : ℕ) → j ≢ id → table_part (writing (Ok (Have k))) j ≡ table_part t j
    written_elsewhere k h j l = λ i. record { session = session_at t.sessions j; objects = object_row t.objects j; streams = streams_elsewhere t.streams id k j (stream_row s) (omega (arith, few)) l i; held = held_part t.held (session_at t.sessions j); parts = parts_of t (session_at t.sessions j); lengths = lengths_of t (session_at t.sessions j) }

    -- the state as it is shown with the buffer of its place
    abbrev pub with_buffer : Result StreamPlace Refusal → KeptStream
    with_buffer p = kept_of (bytes_in (buffer_by p)) s

    pub written_shown : (k : ℕ) → Seen s.stream_id (Ok (Have k)) → opened used part (set rows k (stream_row s)) ≡ write_in shown (with_buffer (Ok (Have k)))
    written_shown k e = opened_set part k e.0 (λ j h n. refl) (stream_row s) ∙ ap (set shown k) (row_shown s (buffer_at part k) s<) ∙ sym (e.2 (with_buffer (Ok (Have k))) refl)

    -- the stream of that number is written over; where there is None, nothing is written
    pub write_here : local_of (write_tables t id s) id ≡ with_streams (write_in shown (with_buffer (place s.stream_id))) (local_of t id)
    write_here = by (place s.stream_id) (seen s.stream_id)
      where
        by : (p : Result StreamPlace Refusal) → Seen s.stream_id p → local_of (writing p) id ≡ with_streams (write_in shown (with_buffer p)) (local_of t id)
        by (Ok (Have k)) e =
            ap (local_shown id) (written_part k e.0)
            ∙ streamed_shown id used (set rows k (stream_row s)) (table_part t id)
            ∙ ap (λ (ks : List KeptStream). with_streams ks (local_of t id)) (written_shown k e)
        by (Ok (Add k)) e = same_streams ∙ ap (λ (ks : List KeptStream). with_streams ks (local_of t id)) (sym (e.3 (with_buffer (Ok (Add k))) refl))
        by (Ok Full) e = same_streams ∙ ap (λ (ks : List KeptStream). with_streams ks (local_of t id)) (sym (e.2 (with_buffer (Ok Full)) refl))
        by (Ok NotLive) e = absurd e
        by (Err r) e = absurd e

    pub write_elsewhere : (j : ℕ) → j ≢ id → local_of (write_tables t id s) j ≡ local_of t j
    write_elsewhere j h = by (place s.stream_id) (seen s.stream_id)
      where
        by : (p : Result StreamPlace Refusal) → Seen s.stream_id p → local_of (writing p) j ≡ local_of t j
        by (Ok (Have k)) e = ap (local_shown j) (written_elsewhere k e.0 j h)
        by (Ok (Add k)) e = refl
        by (Ok Full) e = refl
        by (Ok NotLive) e = refl
        by (Err r) e = refl

  -- ---- open

  -- it is open where it was, or where the session has fewer than eight
  pub open_answer : (n : ℕ) → opened_answer (opened_as (place n)) ≡ gives (Some (cond (is_open (stream_in shown n)) true (ltb (length shown) 8)))
  open_answer n = by (place n) (seen n)
    where
      by : (p : Result StreamPlace Refusal) → Seen n p → opened_answer (opened_as p) ≡ gives (Some (cond (is_open (stream_in shown n)) true (ltb (length shown) 8)))
      by (Ok (Have k)) s = rw s.1 refl
      by (Ok (Add k)) s = rw (s.2, lt-ltb (length shown) 8 (omega (arith, open_length, s.1))) refl
      by (Ok Full) s = rw (s.1, le-ltb (length shown) 8 (omega (arith, open_length, s.0))) refl
      by (Ok NotLive) s = absurd s
      by (Err r) s = absurd s

  module _ (n : ℕ) (n< : n < 256) where
    -- the tables, by the place of the stream
    abbrev pub joined : Result StreamPlace Refusal → Tables
    joined p = record { sessions = opened_count p t.sessions id; streams = opened_in p t.streams id n; objects = t.objects; held = t.held; parts = t.parts; lengths = t.lengths; rebuilt = t.rebuilt }

    opened_more : used < 8 → opened (used + 1) part (set rows used (stream_row (new_stream n))) ≡ shown ++ (fresh_of n ∷ [])
    unfolding opened
    opened_more h =
        ap (λ (k : ℕ). shown_from part 0 (take k (set rows used (stream_row (new_stream n))))) (add-one used)
        ∙ ap (shown_from part 0) (take-suc-set rows used (stream_row (new_stream n)) (rw eight h))
        ∙ shown_append part (take used rows) (stream_row (new_stream n))
        ∙ ap (λ (k : KeptStream). shown_from part 0 (take used rows) ++ (k ∷ [])) (new_shown (buffer_at part (length (take used rows))) n n<)

    pub added_part : used < 8 → table_part (joined (Ok (Add used))) id ≡ with_streamed (used + 1) (set rows used (stream_row (new_stream n))) (table_part t id)
    added_part room =
        let e = kept_here t.sessions id (streamed_session (session_at t.sessions id) (used + 1)) rows_long in
        λ i. record {
          session = e i;
          held = held_part t.held (e i);
          parts = parts_of t (e i);
          lengths = lengths_of t (e i);
          objects = object_row t.objects id;
          streams = streams_here t.streams id used (stream_row (new_stream n)) room i;
        }

    pub added_elsewhere : used < 8 → (j : ℕ) → j ≢ id → table_part (joined (Ok (Add used))) j ≡ table_part t j
    added_elsewhere room j h =
        let e = kept_elsewhere t.sessions id (streamed_session (session_at t.sessions id) (used + 1)) j h in
        λ i. record {
          session = e i;
          held = held_part t.held (e i);
          parts = parts_of t (e i);
          lengths = lengths_of t (e i);
          objects = object_row t.objects j;
          streams = streams_elsewhere t.streams id used j (stream_row (new_stream n)) room h i;
        }

    pub added_shown : used < 8 → stream_in shown n ≡ None → opened (used + 1) part (set rows used (stream_row (new_stream n))) ≡ open_in shown n
    added_shown room e =
        opened_more room
        ∙ ap (λ (b : Bool). cond b (shown ++ (fresh_of n ∷ [])) shown) (sym (lt-ltb (length shown) 8 (omega (arith, open_length))))
        ∙ ap (λ (o : Option KeptStream). open_if o shown n) (sym e)

    -- the stream is opened where it is not; a ninth isn't
    pub open_here : local_of (open_tables t id n) id ≡ with_streams (open_in shown n) (local_of t id)
    open_here = by (place n) (seen n)
      where
        by : (p : Result StreamPlace Refusal) → Seen n p → local_of (joined p) id ≡ with_streams (open_in shown n) (local_of t id)
        by (Ok (Have k)) s = same_streams ∙ ap (λ (o : Option KeptStream). with_streams (open_if o shown n) (local_of t id)) (sym s.1)
        by (Ok (Add k)) s =
            ap (λ (m : ℕ). local_of (joined (Ok (Add m))) id) s.0
            ∙ ap (local_shown id) (added_part s.1)
            ∙ streamed_shown id (used + 1) (set rows used (stream_row (new_stream n))) (table_part t id)
            ∙ ap (λ (ks : List KeptStream). with_streams ks (local_of t id)) (added_shown s.1 s.2)
        by (Ok Full) s =
            same_streams
            ∙ ap (λ (b : Bool). with_streams (cond b (shown ++ (fresh_of n ∷ [])) shown) (local_of t id)) (sym (le-ltb (length shown) 8 (omega (arith, open_length, s.0))))
            ∙ ap (λ (o : Option KeptStream). with_streams (open_if o shown n) (local_of t id)) (sym s.1)
        by (Ok NotLive) s = absurd s
        by (Err r) s = absurd s

    pub open_elsewhere : (j : ℕ) → j ≢ id → local_of (open_tables t id n) j ≡ local_of t j
    open_elsewhere j h = by (place n) (seen n)
      where
        by : (p : Result StreamPlace Refusal) → Seen n p → local_of (joined p) j ≡ local_of t j
        by (Ok (Have k)) s = refl
        by (Ok (Add k)) s = ap (λ (m : ℕ). local_of (joined (Ok (Add m))) j) s.0 ∙ ap (local_shown j) (added_elsewhere s.1 j h)
        by (Ok Full) s = refl
        by (Ok NotLive) s = refl
        by (Err r) s = refl
