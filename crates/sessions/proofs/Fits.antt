-- What is known before anything is touched: within the limits no call answers 16, and room is what a put finds.
use Prim.Native.Nat.{ℕ, ◌<◌, ◌≤◌}
use mathlib.Core.Path.{◌≡◌, refl, sym, ap, ◌∙◌}
use mathlib.Core.Bool.{Bool, true, false, cond}
use mathlib.Core.List.{List}
use native.Mathlib.Omega.{arith}
use borrow.Author.Tests.{lt-ltb}
use lib.Dec.{leb, ltb}
use lib.ListN.{length, get_or}
use Rattle.codec.specs.Answers.{gives, number_in}
use Rattle.codec.specs.declared.submessages.ObjectNumber.{ObjectNumber}
use Rattle.streams.specs.Places.{first_from}
use Rattle.sessions.specs.Table.{session_at, is_free, named_of, got_by, got_of}
use Rattle.sessions.specs.Objects.{blank, object_place, found_of, slot_of, used_after}
use Rattle.sessions.specs.SessionObjects.{object_row, used_of, objects_named, found_by, found_object, stored_by, stored_object}
use Rattle.sessions.specs.Streams.{first_stream}
use Rattle.sessions.specs.SessionStreams.{streams_used, streams_named, is_stream, place_by, stream_place, opened_as, named_as}
use Rattle.sessions.specs.Limits.{limits_of}
use Rattle.sessions.specs.Removal.{depended_in, taken_of, taken_by, taken_object, depended_found}
use Rattle.sessions.specs.Room.{room_for, room_of}
use Rattle.sessions.specs.Answers.{limits_answer, got_answer, named_answer, found_answer, taken_answer, stored_answer, room_answer, opened_answer, stream_answer}
use Rattle.sessions.specs.declared.objects.Object.{Object}
use Rattle.sessions.specs.declared.objects.Stored.{Stored}
use Rattle.sessions.specs.declared.objects.Taken.TheVariants as taken
use Rattle.sessions.specs.declared.objects.Stored.TheVariants as stored
use Rattle.sessions.specs.declared.room.Room.{Room}
use Rattle.sessions.specs.declared.room.Room.TheVariants.{Free, Full, Depended, NotLive}
use Rattle.sessions.specs.declared.session_streams.StreamPlace.{StreamPlace}
use Rattle.sessions.specs.declared.session_streams.StreamPlace.TheVariants.{Have, Add}
use Rattle.sessions.specs.declared.session_streams.StreamPlace.TheVariants as place
use Rattle.sessions.proofs.ObjectSearch.{Under, place_under}
use Rattle.sessions.proofs.Reached.{named_when}
use Rattle.sessions.proofs.limits.Laws.{Kept, kept_limits}
use Rattle.sessions.proofs.table.Laws.{reach_named, live_fits, free_named}
use Rattle.sessions.proofs.session_objects.Laws.{lent_row, row_lent, named_is}
use Rattle.std.specs.Prelude.{Err, None, Ok, Option, Result, Some}
use Rattle.codec.specs.declared.refusals.Refusal.{Refusal}

-- ---- within the limits no call on that id is refused

module _ (sessions streams : List (List ℕ)) (objects : List Object) (id : ℕ) where
  -- each number is 0, so that none is 16
  pub record NoneRefused : Type 0 where
    pub get : number_in (got_answer (got_of sessions id)) ≡ 0
    -- touch and remove
    pub named : number_in (named_answer (named_of sessions id)) ≡ 0
    pub find : (n : ObjectNumber) → number_in (found_answer (found_object sessions objects id n)) ≡ 0
    pub take : (n : ObjectNumber) → number_in (taken_answer (taken_object sessions objects id n)) ≡ 0
    pub put : (o : Object) → number_in (stored_answer (stored_object sessions objects id o)) ≡ 0
    pub room : (n : ObjectNumber) → number_in (room_answer (room_of sessions objects id n)) ≡ 0
    pub open_stream_lem : (n : ℕ) → number_in (opened_answer (opened_as (stream_place sessions streams id n))) ≡ 0
    -- read_stream and write_stream
    pub stream : (n : ℕ) → number_in (stream_answer (named_as (stream_place sessions streams id n))) ≡ 0

  -- what an id names, by whether it is free
  abbrev by_free : Bool → Result Bool Refusal
  by_free free = cond free (Ok false) (Ok true)

  module _ (room parts : ℕ) (lengths : List ℕ) (rebuilt max stream : ℕ) (k : Kept sessions streams objects room parts lengths rebuilt max id stream) where
    names : named_of sessions id ≡ by_free (is_free sessions id)
    names = named_when sessions id k.stores.sessions_long

    names_objects : objects_named sessions (length objects) id ≡ by_free (is_free sessions id)
    unfolding objects_named
    names_objects = sym (reach_named sessions id (used_of sessions id) 32 (length objects) 8192 k.stores.objects_long k.objects_few) ∙ names

    names_streams : streams_named sessions (length streams) id ≡ by_free (is_free sessions id)
    unfolding streams_named
    names_streams = sym (reach_named sessions id (streams_used sessions id) 8 (length streams) 2048 k.stores.streams_long k.streams_few) ∙ names

    got_none : number_in (got_answer (got_of sessions id)) ≡ 0
    unfolding got_of
    got_none = rw names (by (is_free sessions id))
      where
        by : (f : Bool) → number_in (got_answer (got_by (by_free f) sessions id)) ≡ 0
        by true = refl
        by false = refl

    named_none : number_in (named_answer (named_of sessions id)) ≡ 0
    named_none = rw names (by (is_free sessions id))
      where
        by : (f : Bool) → number_in (named_answer (by_free f)) ≡ 0
        by true = refl
        by false = refl

    -- a search refuses nothing
    held : (row : List Object) (p : Option ℕ) → number_in (found_answer (found_of row p)) ≡ 0
    held row (Some i) = refl
    held row None = refl

    find_none : (n : ObjectNumber) → number_in (found_answer (found_object sessions objects id n)) ≡ 0
    unfolding found_object
    find_none n = rw names_objects (by (is_free sessions id))
      where
        by : (f : Bool) → number_in (found_answer (found_by (by_free f) sessions objects id n)) ≡ 0
        by true = refl
        by false = held (object_row objects id) (object_place (object_row objects id) (used_of sessions id) n)

    take_none : (n : ObjectNumber) → number_in (taken_answer (taken_object sessions objects id n)) ≡ 0
    unfolding taken_object
    take_none n = rw names_objects (by (is_free sessions id))
      where
        at : (row : List Object) (used : ℕ) (p : Option ℕ) → number_in (taken_answer (taken_of row used p)) ≡ 0
        at row used (Some i) = stays (depended_in row used (get_or row i blank))
          where
            stays : (b : Bool) → number_in (taken_answer (cond b (Ok taken.Depended) (Ok (taken.Gone (get_or row i blank))))) ≡ 0
            stays true = refl
            stays false = refl
        at row used None = refl

        by : (f : Bool) → number_in (taken_answer (taken_by (by_free f) sessions objects id n)) ≡ 0
        by true = refl
        by false = at (object_row objects id) (used_of sessions id) (object_place (object_row objects id) (used_of sessions id) n)

    put_none : (o : Object) → number_in (stored_answer (stored_object sessions objects id o)) ≡ 0
    unfolding stored_object
    put_none o = rw names_objects (by (is_free sessions id))
      where
        fits : (f : Bool) (n : ℕ) → number_in (stored_answer (cond f (Ok (stored.Count n)) (Ok stored.Full))) ≡ 0
        fits true n = refl
        fits false n = refl

        by : (f : Bool) → number_in (stored_answer (stored_by (by_free f) sessions objects id o)) ≡ 0
        by true = refl
        by false = let p = object_place (object_row objects id) (used_of sessions id) o.number in fits (ltb (slot_of p (used_of sessions id)) (length (object_row objects id))) (used_after p (used_of sessions id))

    room_none : (n : ObjectNumber) → number_in (room_answer (room_of sessions objects id n)) ≡ 0
    unfolding room_of
    room_none n = by (found_object sessions objects id n) (depended_found sessions objects id (found_object sessions objects id n)) (find_none n)
      where
        beside : (f g : Bool) → number_in (room_answer (cond f (Ok NotLive) (cond g (Ok Free) (Ok Full)))) ≡ 0
        beside true g = refl
        beside false true = refl
        beside false false = refl

        by : (r : Result (Option Object) Refusal) (b : Bool) → number_in (found_answer r) ≡ 0 → number_in (room_answer (room_for r b (session_at sessions id))) ≡ 0
        by (Ok (Some o)) true e = refl
        by (Ok (Some o)) false e = refl
        by (Ok None) b e = beside (is_free sessions id) (ltb (used_of sessions id) 32)
        by (Err r) b e = e

    stream_none : (n : ℕ) → (number_in (opened_answer (opened_as (stream_place sessions streams id n))) ≡ 0) × (number_in (stream_answer (named_as (stream_place sessions streams id n))) ≡ 0)
    unfolding stream_place
    stream_none n = rw names_streams (by (is_free sessions id))
      where
        Fine : Result StreamPlace Refusal → Type 0
        Fine p = (number_in (opened_answer (opened_as p)) ≡ 0) × (number_in (stream_answer (named_as p)) ≡ 0)

        placed : (f g : Bool) (k used : ℕ) → Fine (cond f (Ok (Have k)) (cond g (Ok place.Full) (Ok (Add used))))
        placed true g k used = (refl, refl)
        placed false true k used = (refl, refl)
        placed false false k used = (refl, refl)

        by : (f : Bool) → Fine (place_by (by_free f) sessions streams id n)
        by true = (refl, refl)
        by false =
            let used = streams_used sessions id in
            let k = first_from (is_stream streams (first_stream id) n) used 0 in
            placed (ltb k used) (leb 8 used) k used

  -- "right after 15", with one check for all of them
  pub within_none : (held parts : ℕ) (lengths : List ℕ) (rebuilt max stream : ℕ) → limits_answer (limits_of sessions streams objects held parts lengths rebuilt max id stream) ≡ gives tt → NoneRefused
  within_none held parts lengths rebuilt max stream e =
      let k = kept_limits sessions streams objects held parts lengths rebuilt max id stream (by (limits_of sessions streams objects held parts lengths rebuilt max id stream) e) in
      record {
        get = got_none held parts lengths rebuilt max stream k;
        named = named_none held parts lengths rebuilt max stream k;
        find = find_none held parts lengths rebuilt max stream k;
        take = take_none held parts lengths rebuilt max stream k;
        put = put_none held parts lengths rebuilt max stream k;
        room = room_none held parts lengths rebuilt max stream k;
        open_stream_lem = λ n. (stream_none held parts lengths rebuilt max stream k n).0;
        stream = λ n. (stream_none held parts lengths rebuilt max stream k n).1;
      }
    where
      by : (r : Result (Unit {0}) Refusal) → limits_answer r ≡ gives tt → r ≡ (Ok tt)
      by (Ok tt) e = refl
      by (Err r) e = let z : ◌≡◌ {A = ℕ} 0 1 = cc in absurd (omega arith)

-- ---- room

-- what storing an object comes to, told as room
abbrev pub room_as : Result Stored Refusal → Result Room Refusal
room_as (Ok (stored.Count n)) = (Ok Free)
room_as (Ok stored.Full) = (Ok Full)
room_as (Ok stored.NotLive) = (Ok NotLive)
room_as (Err r) = Err r

module _ (sessions : List (List ℕ)) (objects : List Object) (id : ℕ) (id< : id < 256) (o : Object) where
  abbrev row : List Object
  row = object_row objects id

  abbrev used : ℕ
  used = used_of sessions id

  -- whether the object of that number is there and has a dependant
  abbrev held_up : Bool
  held_up = depended_found sessions objects id (found_object sessions objects id o.number)

  in_row : is_free sessions id ≡ false → used ≤ 32 → length row ≡ 32 → (p : Option ℕ) → Under used p
      → room_for (found_of row p) (depended_found sessions objects id (found_of row p)) (session_at sessions id)
      ≡ cond (depended_found sessions objects id (found_of row p)) (Ok Depended) (room_as (cond (ltb (slot_of p used) (length row)) (Ok (stored.Count (used_after p used))) (Ok stored.Full)))
  in_row live few long (Some i) u = rw (lt-ltb i (length row) (omega arith)) refl
  in_row live few long None u = rw (live, long) (by (ltb used 32))
    where
      by : (b : Bool) → cond b (Ok Free) (Ok Full) ≡ room_as (cond b (Ok (stored.Count (used_after None used))) (Ok stored.Full))
      by true = refl
      by false = refl

  -- there is room exactly where putting an object of that number finds it, unless one has the number and a dependant
  pub room_put : room_of sessions objects id o.number ≡ cond held_up (Ok Depended) (room_as (stored_object sessions objects id o))
  unfolding room_of found_object stored_object
  room_put = by (objects_named sessions (length objects) id) refl
    where
      by : (w : Result Bool Refusal) → objects_named sessions (length objects) id ≡ w
          → room_for (found_by w sessions objects id o.number) (depended_found sessions objects id (found_by w sessions objects id o.number)) (session_at sessions id)
          ≡ cond (depended_found sessions objects id (found_by w sessions objects id o.number)) (Ok Depended) (room_as (stored_by w sessions objects id o))
      by (Ok true) e =
          let f = live_fits sessions id used 32 (length objects) 8192 (sym (named_is sessions objects id) ∙ e) in
          let l = lent_row sessions objects id e id< in
          in_row f.live f.count (sym (ap length (row_lent objects id)) ∙ l.long) (object_place row used o.number) (place_under row o.number used)
      by (Ok false) e = rw (free_named sessions id used 32 (length objects) 8192 (sym (named_is sessions objects id) ∙ e)) refl
      by (Err r) e = refl

  -- a number that is held is no 33rd
  full_none : stored_object sessions objects id o ≡ (Ok stored.Full) → held_up ≡ false
  unfolding found_object stored_object
  full_none = by (objects_named sessions (length objects) id) refl
    where
      at : used ≤ length row → (p : Option ℕ) → Under used p → ◌≡◌ {A = Result Stored Refusal} (cond (ltb (slot_of p used) (length row)) (Ok (stored.Count (used_after p used))) (Ok stored.Full)) (Ok stored.Full)
          → depended_found sessions objects id (found_of row p) ≡ false
      at long (Some i) u e = counts (rw (lt-ltb i (length row) (omega arith)) at e)
        where
          counts : ◌≡◌ {A = Result Stored Refusal} (Ok (stored.Count (used_after (Some i) used))) (Ok stored.Full) → depended_found sessions objects id (found_of row (Some i)) ≡ false
          counts e = let s : ◌≡◌ {A = Stored} (stored.Count (used_after (Some i) used)) stored.Full = cc in let z : ◌≡◌ {A = ℕ} 0 1 = cc in absurd (omega arith)
      at long None u e = refl

      by : (w : Result Bool Refusal) → objects_named sessions (length objects) id ≡ w → stored_by w sessions objects id o ≡ (Ok stored.Full) → depended_found sessions objects id (found_by w sessions objects id o.number) ≡ false
      by (Ok true) e h =
          let f = live_fits sessions id used 32 (length objects) 8192 (sym (named_is sessions objects id) ∙ e) in
          let l = lent_row sessions objects id e id< in
          at (let n : length row ≡ 32 = sym (ap length (row_lent objects id)) ∙ l.long in omega (arith, f.count)) (object_place row used o.number) (place_under row o.number used) h
      by (Ok false) e h = refl
      by (Err r) e h = refl

  -- "full" exactly if a put would say so
  pub full_exactly : (room_of sessions objects id o.number ≡ (Ok Full) → stored_object sessions objects id o ≡ (Ok stored.Full))
      × (stored_object sessions objects id o ≡ (Ok stored.Full) → room_of sessions objects id o.number ≡ (Ok Full))
  full_exactly = (
    λ e. by held_up (stored_object sessions objects id o) (sym room_put ∙ e),
    λ e. room_put ∙ ap (λ (b : Bool). cond b (Ok Depended) (room_as (stored_object sessions objects id o))) (full_none e) ∙ ap room_as e,
  )
    where
      by : (b : Bool) (r : Result Stored Refusal) → cond b (Ok Depended) (room_as r) ≡ (Ok Full) → r ≡ (Ok stored.Full)
      by true r e = let z : ◌≡◌ {A = ℕ} 0 1 = cc in absurd (omega arith)
      by false (Ok (stored.Count n)) e = let z : ◌≡◌ {A = ℕ} 0 1 = cc in absurd (omega arith)
      by false (Ok stored.Full) e = refl
      by false (Ok stored.NotLive) e = let z : ◌≡◌ {A = ℕ} 0 1 = cc in absurd (omega arith)
      by false (Err r) e = let z : ◌≡◌ {A = ℕ} 0 1 = cc in absurd (omega arith)
