-- What a call may change of the lent stores: the sessions' rows, the first stream's of each, the streams and objects of the session that it names, the
-- buffer of the stream that it names, that session's fragments, and the place of rebuilt bytes.
use Prim.Native.Nat.{ℕ, zero, suc, ◌+◌, ◌-◌, ◌*◌, ◌<◌, ◌≤◌}
use mathlib.Core.Path.{◌≡◌, refl, sym, ap, ◌∙◌, subst}
use mathlib.Core.Bool.{Bool, true, false, cond, not}
use mathlib.Core.List.{List, [], ◌∷◌, ◌++◌}
use native.Mathlib.Omega.{arith}
use native.Mathlib.Nat.{zero-add, suc-add}
use borrow.Author.Tests.{ltb-true, ltb-false, leb-false, eqb-false}
use lib.Dec.{eqb, leb, ltb}
use lib.ListN.{length, get_or, set, take, drop, take-append-drop}
use lib.Seq.{set_out, length-take-le, take-append_seam, drop-append_seam}
use Rattle.codec.specs.Bytes.{put_bytes}
use Rattle.codec.specs.Reading.{read_at, part_of}
use Rattle.codec.specs.Rebuilt.{rebuilt_of}
use Rattle.codec.specs.declared.refusals.Refusal.TheVariants.{OverLimit, SessionFull}
use Rattle.codec.specs.declared.submessages.AcknackPayload.{AcknackPayload}
use Rattle.codec.specs.declared.submessages.ObjectKind.{ObjectKind}
use Rattle.codec.specs.declared.submessages.ObjectKind.TheVariants.{Participant, Topic, Publisher, Subscriber, DataWriter, DataReader}
use Rattle.codec.specs.declared.submessages.ObjectNumber.{ObjectNumber}
use Rattle.streams.specs.Places.{first_from}
use Rattle.streams.specs.Sent.{alloc_of, record_of}
use Rattle.streams.specs.State.{new_stream}
use Rattle.streams.specs.declared.state.StreamState.{StreamState}
use Rattle.sessions.specs.Table.{row_of, named_of, table_fits, is_free, keep_session, kept_rows, new_session, touched_session, session_at, touched_rows, got_of}
use Rattle.sessions.specs.Opening.{after, live_of, free_from, free_of, open_fits, taken_as, chosen_of, created_of, free_slot}
use Rattle.sessions.specs.Need.{store_bytes, most_fragments}
use Rattle.sessions.specs.Objects.{blank, implicit_of, object_place}
use Rattle.sessions.specs.Room.{room_of}
use Rattle.sessions.specs.Streams.{first_stream, stream_row, stream_at, streams_fit}
use Rattle.sessions.specs.SessionObjects.{object_row, with_object_row, counted_session, used_of, objects_named, found_object, stored_in, stored_object, stored_objects, keep_stored}
use Rattle.sessions.specs.Removal.{depended_in, taken_object, removed_row, removed_in, removed_objects, keep_removed}
use Rattle.sessions.specs.SessionStreams.{streams_used, streamed_session, streams_named, is_stream, placed_as, place_by, stream_place, opened_in, opened_count, written_in}
use Rattle.sessions.specs.Sending.{room_of as roomIn, buffer_in, with_buffer, stretch_at, buffer_stretch, sent_row, sent_streams_at, sent_streams, sent_held}
use Rattle.sessions.specs.Fragments.{slot_stretch, parts_stretch, lengths_stretch, gathered_session, takes, gathered, gathered_rows}
use Rattle.sessions.specs.Calls.{create_tables, gather_tables}
use Rattle.sessions.specs.View.{Tables}
use Rattle.sessions.specs.declared.fragments.Gathered.{Gathered}
use Rattle.sessions.specs.declared.fragments.Gathered.TheVariants as gathers
use Rattle.sessions.specs.declared.objects.Object.{Object}
use Rattle.sessions.specs.declared.objects.Taken.{Taken as Removed}
use Rattle.sessions.specs.declared.objects.Taken.TheVariants as removed
use Rattle.sessions.specs.declared.objects.Stored.{Stored}
use Rattle.sessions.specs.declared.objects.Stored.TheVariants as stored
use Rattle.sessions.specs.declared.room.Room.{Room}
use Rattle.sessions.specs.declared.room.Room.TheVariants as room
use Rattle.sessions.specs.declared.sending.Stretch.{Stretch}
use Rattle.sessions.specs.declared.session_streams.StreamNamed.{StreamNamed}
use Rattle.sessions.specs.declared.session_streams.StreamNamed.TheVariants as named-stream
use Rattle.sessions.specs.declared.session_streams.StreamRead.{StreamRead}
use Rattle.sessions.specs.declared.table.ClientSession.{ClientSession}
use Rattle.sessions.proofs.table.Laws.{live_fits}
use Rattle.sessions.proofs.sending.Laws.{buffer_length}
use Rattle.sessions.proofs.Buffers.{with_same, put_back as put-buffer-back}
use Rattle.sessions.proofs.Chosen.{found_by_lem}
use Rattle.sessions.proofs.ViewSending.{held_back}
use Rattle.sessions.proofs.ViewTable.{kept_here, kept_elsewhere}
use Rattle.sessions.proofs.ViewFragments.{Refilled, gather_put_back, gather_lengths, gather_slot, gather_live}
use Rattle.sessions.proofs.fragments.Laws.{stretch_stands}
use Rattle.codec.proofs.reassembly.Left.{Keeps as SameFrom}
use Rattle.moves.specs.Moves.{found_handle}
use Rattle.moves.specs.Rows.{Rows as Stores, created_sessions, created_objects, room_sessions, room_objects, handled_in, handled_rows}
use Rattle.moves.specs.RowsStreams.{opened_sessions, opened_rows, read_of, acknowledged_rows, stream_rows, read_sessions, read_rows}
use Rattle.agent.specs.Lent.{rows_of, rebuilt_part}
use Rattle.agent.specs.Step.{opened, joined_replies}
use Rattle.agent.specs.Run.{Turned, Acted, is_live, pointer_of, greeted, id_opened, opening, touched_in, touched_tables, delivered, taken_of, inside_by, inside_turned, work_in, work_at, entered_ran, left_acted, left_by, whole_len, whole_turned, fragment_turned, sub_turned, turned, goes_on, before, run_in, run_at}
use Rattle.agent.specs.Legs.{entered}
use Rattle.moves.specs.Answers.{keeps_of, says_of}
use Rattle.agent.specs.Answered.{answered_sessions, answered_streams, answered_objects, answered_held}
use Rattle.agent.specs.Host.{begun_by, begun_bytes, begun_sessions, begun_streams, begun_objects, begun_held, rows_begun, held_begun, first_ran, resumed_acted, resumed, performed}
use Rattle.agent.specs.Dry.{same, session_spot, stream_spot, object_spot, copied, restored, kept_in, back_in, rebuilt_place}
use Rattle.moves.specs.declared.answers.Says.{Says}
use Rattle.moves.specs.declared.answers.Says.TheVariants as says
use Rattle.moves.specs.declared.handle.Opening.{Opening}
use Rattle.moves.specs.declared.handle.Opening.TheVariants.{Client, Fragment, Other, Unread}
use Rattle.agent.specs.declared.judge.Start.{Start}
use Rattle.agent.specs.declared.turn.Frame.{Frame}
use Rattle.moves.specs.declared.handle.Asked.{Asked}
use Rattle.moves.specs.declared.handle.Group.{Group}
use Rattle.moves.specs.declared.handle.Group.TheVariants.{Creates, Deletes, Writes, Reads, Streams, Neither}
use Rattle.agent.specs.declared.turn.Ran.{Ran}
use Rattle.agent.specs.declared.turn.Taken.{Taken}
use Rattle.agent.proofs.Back.{spot_first, spot_own, KeptBut, kept_same, kept_then, kept_set, put_back, stretch_back, kept_back, bytes_long, bytes_back}
use Rattle.std.proofs.lemmas.List.{drop-drop}
use Rattle.agent.proofs.Running.{run_end}
use Rattle.agent.proofs.Resumed.{performed_held}
use Rattle.std.specs.Prelude.{Err, None, Ok, Option, Result, Some}
use Rattle.moves.specs.declared.proxy.BridgeAnswer.{BridgeAnswer}
use Rattle.sessions.specs.declared.objects.Handle.{Handle}
use Rattle.codec.specs.declared.refusals.Refusal.{Refusal}
use Rattle.moves.specs.declared.proxy.Task.{Task}

-- ---- one store

abbrev pub Rows : List (List ℕ) → List (List ℕ) → Type 0
Rows xs ys = KeptBut [] session_spot 256 xs ys

abbrev pub RowsOf : ℕ → List (List ℕ) → List (List ℕ) → Type 0
RowsOf id xs ys = KeptBut [] (stream_spot id) 264 xs ys

abbrev pub RecordsOf : ℕ → List Object → List Object → Type 0
RecordsOf id xs ys = KeptBut blank (object_spot (32 * id)) 32 xs ys

rows_same : (xs : List (List ℕ)) → Rows xs xs
rows_same xs = kept_same [] session_spot 256 xs

streams_same : (id : ℕ) (xs : List (List ℕ)) → RowsOf id xs xs
streams_same id xs = kept_same [] (stream_spot id) 264 xs

records_same : (id : ℕ) (xs : List Object) → RecordsOf id xs xs
records_same id xs = kept_same blank (object_spot (32 * id)) 32 xs

row_set : (xs : List (List ℕ)) (id : ℕ) (row : List ℕ) → id < 256 → Rows xs (set xs id row)
row_set xs id row h = kept_set [] session_spot 256 xs id row h

-- a session is live in the slot that it had
abbrev pub Stays : ℕ → List (List ℕ) → List (List ℕ) → Type 0
Stays id s u = ((session_at u id).live ≡ (session_at s id).live) × ((session_at u id).slot ≡ (session_at s id).slot)

-- its own row, changed so
abbrev pub Own : ℕ → List (List ℕ) → List (List ℕ) → Type 0
Own id s u = Rows s u × Stays id s u

own_same : (id : ℕ) (s : List (List ℕ)) → Own id s s
own_same id s = (rows_same s, (refl, refl))

stays_then : (id : ℕ) (s u v : List (List ℕ)) → Stays id s u → Stays id u v → Stays id s v
stays_then id s u v a b = (b.0 ∙ a.0, b.1 ∙ a.1)

own_then : (id : ℕ) (s u v : List (List ℕ)) → Own id s u → Own id u v → Own id s v
own_then id s u v a b = (kept_then [] session_spot 256 s u v a.0 b.0, stays_then id s u v a.1 b.1)

own_row : (s : List (List ℕ)) (id : ℕ) (x : ClientSession) → id < 256 → x.live ≡ (session_at s id).live → x.slot ≡ (session_at s id).slot → Own id s (keep_session s id x)
own_row s id x h a b = (row_set s id (row_of x) h, go (ltb id (length s)) refl)
  where
    go : (c : Bool) → ltb id (length s) ≡ c → Stays id s (keep_session s id x)
    go true e = let k = kept_here s id x (ltb-true id (length s) e) in (ap (λ (z : ClientSession). z.live) k ∙ a, ap (λ (z : ClientSession). z.slot) k ∙ b)
    go false e = let k = set_out s id (row_of x) (ltb-false id (length s) e) in (ap (λ (rows : List (List ℕ)). (session_at rows id).live) k, ap (λ (rows : List (List ℕ)). (session_at rows id).slot) k)

own_set : (xs : List (List ℕ)) (id k : ℕ) (row : List ℕ) → k < 8 → RowsOf id xs (set xs (8 * id + k) row)
own_set xs id k row h =
    let e : 8 * id + (256 + k - 256) ≡ 8 * id + k = omega arith in
    subst (λ (p : ℕ). RowsOf id xs (set xs p row)) (sym (spot_own id (256 + k) (omega arith)) ∙ e) (kept_set [] (stream_spot id) 264 xs (256 + k) row (omega (arith, h)))

first_set : (xs : List (List ℕ)) (id j : ℕ) (row : List ℕ) → j < 256 → RowsOf id xs (set xs (8 * j) row)
first_set xs id j row h = subst (λ (p : ℕ). RowsOf id xs (set xs p row)) (sym (spot_first id j h)) (kept_set [] (stream_spot id) 264 xs j row (omega (arith, h)))

-- ---- a session's records among the others

module _ {A : Type 0} where
  part_in : (l : List A) (w k : ℕ) (x : A) → k < w → set (take w l) k x ++ drop w l ≡ set l k x
  part_in l zero k x h = let z : ⊥ = omega arith in absurd z
  part_in [] (suc w) k x h = refl
  part_in (y ∷ l) (suc w) zero x h = ap (λ (t : List A). x ∷ t) (take-append-drop w l)
  part_in (y ∷ l) (suc w) (suc k) x h = ap (λ (t : List A). y ∷ t) (part_in l w k x (omega arith))

  part_out : (l : List A) (w k : ℕ) (x : A) → w ≤ k → set (take w l) k x ++ drop w l ≡ l
  part_out [] zero k x h = refl
  part_out [] (suc w) k x h = refl
  part_out (y ∷ l) zero k x h = refl
  part_out (y ∷ l) (suc w) zero x h = let z : ⊥ = omega arith in absurd z
  part_out (y ∷ l) (suc w) (suc k) x h = ap (λ (t : List A). y ∷ t) (part_out l w k x (omega arith))

  behind_in : (a : ℕ) (l : List A) (w k : ℕ) (x : A) → k < w → take a l ++ (set (take w (drop a l)) k x ++ drop (a + w) l) ≡ set l (a + k) x
  behind_in zero l w k x h = rw (zero-add w, zero-add k) (part_in l w k x h)
  behind_in (suc a) [] zero k x h = rw (suc-add a 0)
  behind_in (suc a) [] (suc w) k x h = rw (suc-add a (suc w))
  behind_in (suc a) (y ∷ l) w k x h = rw (suc-add a w, suc-add a k) (ap (λ (t : List A). y ∷ t) (behind_in a l w k x h))

  behind_out : (a : ℕ) (l : List A) (w k : ℕ) (x : A) → w ≤ k → take a l ++ (set (take w (drop a l)) k x ++ drop (a + w) l) ≡ l
  behind_out zero l w k x h = rw (zero-add w) (part_out l w k x h)
  behind_out (suc a) [] zero k x h = rw (suc-add a 0)
  behind_out (suc a) [] (suc w) k x h = rw (suc-add a (suc w))
  behind_out (suc a) (y ∷ l) w k x h = rw (suc-add a w) (ap (λ (t : List A). y ∷ t) (behind_out a l w k x h))

  behind_same : (a : ℕ) (l : List A) (w : ℕ) → take a l ++ (take w (drop a l) ++ drop (a + w) l) ≡ l
  behind_same zero l w = rw (zero-add w) (take-append-drop w l)
  behind_same (suc a) [] zero = rw (suc-add a 0)
  behind_same (suc a) [] (suc w) = rw (suc-add a (suc w))
  behind_same (suc a) (y ∷ l) w = rw (suc-add a w) (ap (λ (t : List A). y ∷ t) (behind_same a l w))

record_set : (o : List Object) (id k : ℕ) (x : Object) → RecordsOf id o (with_object_row o id (set (object_row o id) k x))
unfolding with_object_row object_row
record_set o id k x = go (ltb k 32) refl
  where
    go : (b : Bool) → ltb k 32 ≡ b → RecordsOf id o (take (32 * id) o ++ (set (take 32 (drop (32 * id) o)) k x ++ drop (32 * id + 32) o))
    go true e = subst (RecordsOf id o) (sym (behind_in (32 * id) o 32 k x (ltb-true k 32 e))) (kept_set blank (object_spot (32 * id)) 32 o k x (ltb-true k 32 e))
    go false e = subst (RecordsOf id o) (sym (behind_out (32 * id) o 32 k x (ltb-false k 32 e))) (records_same id o)

record_same : (o : List Object) (id : ℕ) → RecordsOf id o (with_object_row o id (object_row o id))
unfolding with_object_row object_row
record_same o id = subst (RecordsOf id o) (sym (behind_same (32 * id) o 32)) (records_same id o)

-- ---- what the calls on the tables leave

module _ (id : ℕ) (below : id < 256) where
  touched_kept : (s : List (List ℕ)) (time : ℕ) → Own id s (touched_rows s id time)
  unfolding touched_rows
  touched_kept s time = go (named_of s id)
    where
      go : (w : Result Bool Refusal) → Own id s (kept_rows w s id (touched_session (session_at s id) time))
      go (Ok true) = own_row s id (touched_session (session_at s id) time) below refl refl
      go (Ok false) = own_same id s
      go (Err r) = own_same id s

  count_kept : (s : List (List ℕ)) (r : Result Stored Refusal) → Own id s (keep_stored s id r)
  count_kept s (Ok (stored.Count n)) = own_row s id (counted_session (session_at s id) n) below refl refl
  count_kept s (Ok stored.Full) = own_same id s
  count_kept s (Ok stored.NotLive) = own_same id s
  count_kept s (Err r) = own_same id s

  less_kept : (s : List (List ℕ)) (x : Result Removed Refusal) → Own id s (keep_removed s id x)
  less_kept s (Ok (removed.Gone o)) = own_row s id (counted_session (session_at s id) (used_of s id - 1)) below refl refl
  less_kept s (Ok removed.Depended) = own_same id s
  less_kept s (Ok removed.Nothing) = own_same id s
  less_kept s (Err r) = own_same id s

stored_kept : (s : List (List ℕ)) (o : List Object) (id : ℕ) (x : Object) → RecordsOf id o (stored_objects s o id x)
unfolding stored_objects
stored_kept s o id x = go (objects_named s (length o) id)
  where
    go : (w : Result Bool Refusal) → RecordsOf id o (stored_in w s o id x)
    go (Ok true) = record_set o id _ x
    go (Ok false) = records_same id o
    go (Err r) = records_same id o

removed_kept : (s : List (List ℕ)) (o : List Object) (id : ℕ) (n : ObjectNumber) → RecordsOf id o (removed_objects s o id n)
unfolding removed_objects
removed_kept s o id n = go (objects_named s (length o) id)
  where
    row : List Object
    row = object_row o id

    used : ℕ
    used = used_of s id

    at : (p : Option ℕ) → RecordsOf id o (with_object_row o id (removed_row (object_row o id) (used_of s id) p))
    at (Some i) = by (depended_in row used (get_or row i blank))
      where
        by : (b : Bool) → RecordsOf id o (with_object_row o id (cond b row (set row i (get_or row (used - 1) blank))))
        by true = record_same o id
        by false = record_set o id i _
    at None = record_same o id

    go : (w : Result Bool Refusal) → RecordsOf id o (removed_in w s o id n)
    go (Ok true) = at (object_place (object_row o id) (used_of s id) n)
    go (Ok false) = records_same id o
    go (Err r) = records_same id o

-- a stream's place is among the eight of its session
few_streams : (s x : List (List ℕ)) (id : ℕ) → streams_named s (length x) id ≡ (Ok true) → streams_used s id ≤ 8
unfolding streams_named
few_streams s x id e = (live_fits s id (streams_used s id) 8 (length x) 2048 e).count

module _ (s x : List (List ℕ)) (id n : ℕ) where
  abbrev found_at : ℕ
  found_at = first_from (is_stream x (first_stream id) n) (streams_used s id) 0

  abbrev used : ℕ
  used = streams_used s id

  open_rows : RowsOf id x (opened_rows s x id n)
  unfolding stream_place
  open_rows = go (streams_named s (length x) id) refl
    where
      placed : used ≤ 8 → (b c : Bool) → ltb found_at used ≡ b → leb 8 used ≡ c → RowsOf id x (opened_in (placed_as found_at used) x id n)
      placed few true c p q = rw p (streams_same id x)
      placed few false true p q = rw (p, q) (streams_same id x)
      placed few false false p q = rw (p, q) (own_set x id used (stream_row (new_stream n)) (leb-false 8 used q))

      go : (w : Result Bool Refusal) → streams_named s (length x) id ≡ w → RowsOf id x (opened_in (place_by w s x id n) x id n)
      go (Ok true) e = placed (few_streams s x id e) (ltb found_at used) (leb 8 used) refl refl
      go (Ok false) e = streams_same id x
      go (Err r) e = streams_same id x

  open_sessions : id < 256 → Own id s (opened_sessions s x id n)
  unfolding stream_place
  open_sessions below = go (streams_named s (length x) id)
    where
      placed : (b c : Bool) → ltb found_at used ≡ b → leb 8 used ≡ c → Own id s (opened_count (placed_as found_at used) s id)
      placed true c p q = rw p (own_same id s)
      placed false true p q = rw (p, q) (own_same id s)
      placed false false p q = rw (p, q) (own_row s id (streamed_session (session_at s id) (used + 1)) below refl refl)

      go : (w : Result Bool Refusal) → Own id s (opened_count (place_by w s x id n) s id)
      go (Ok true) = placed (ltb found_at used) (leb 8 used) refl refl
      go (Ok false) = own_same id s
      go (Err r) = own_same id s

  written_rows : (state : StreamState) → RowsOf id x (written_in (stream_place s x id n) x id state)
  unfolding stream_place
  written_rows state = go (streams_named s (length x) id) refl
    where
      placed : used ≤ 8 → (b c : Bool) → ltb found_at used ≡ b → leb 8 used ≡ c → RowsOf id x (written_in (placed_as found_at used) x id state)
      placed few true c p q = let l = ltb-true found_at used p in rw p (own_set x id found_at (stream_row state) (omega (arith, l, few)))
      placed few false true p q = rw (p, q) (streams_same id x)
      placed few false false p q = rw (p, q) (streams_same id x)

      go : (w : Result Bool Refusal) → streams_named s (length x) id ≡ w → RowsOf id x (written_in (place_by w s x id n) x id state)
      go (Ok true) e = placed (few_streams s x id e) (ltb found_at used) (leb 8 used) refl refl
      go (Ok false) e = streams_same id x
      go (Err r) e = streams_same id x

  -- a message that is held changes its stream's row
  sent_rows_lem : (h message : List ℕ) → RowsOf id x (sent_streams s x h id n message)
  unfolding sent_streams stream_place
  sent_rows_lem h message = go (streams_named s (length x) id) refl
    where
      kept : (k : ℕ) → k < 8 → (w : Result (Option ℕ) Refusal) (state : StreamState) → RowsOf id x (sent_row w x (first_stream id + k) state)
      kept k l (Ok (Some i)) state = own_set x id k (stream_row (alloc_of state).state) l
      kept k l (Ok None) state = streams_same id x
      kept k l (Err r) state = streams_same id x

      placed : used ≤ 8 → (b c : Bool) → ltb found_at used ≡ b → leb 8 used ≡ c → RowsOf id x (sent_streams_at (placed_as found_at used) s x h id message)
      placed few true c p q =
          let l = ltb-true found_at used p in
          let state = stream_at x (first_stream id + found_at) in
          let r = record_of state state.next_send_seq (length message) (roomIn (stretch_at s (length h) id found_at)) in
          rw p (kept found_at (omega (arith, l, few)) r.slot r.state)
      placed few false true p q = rw (p, q) (streams_same id x)
      placed few false false p q = rw (p, q) (streams_same id x)

      go : (w : Result Bool Refusal) → streams_named s (length x) id ≡ w → RowsOf id x (sent_streams_at (place_by w s x id n) s x h id message)
      go (Ok true) e = placed (few_streams s x id e) (ltb found_at used) (leb 8 used) refl refl
      go (Ok false) e = streams_same id x
      go (Err r) e = streams_same id x

-- the id of a new session, and the pointer behind it, are at most 255
free_most : (free : ℕ → Bool) (n i : ℕ) → i < 256 → free_from free i n < 256
unfolding free_from
free_most free zero i h = omega arith
free_most free (suc n) i h = go (free_most free n (after i) (next (eqb i 255) refl)) (free i)
  where
    next : (b : Bool) → eqb i 255 ≡ b → cond b 1 (i + 1) < 256
    next true e = omega arith
    next false e = let q = eqb-false i 255 e in omega (arith, q, h)

    go : free_from free (after i) n < 256 → (b : Bool) → cond b i (free_from free (after i) n) < 256
    go l true = h
    go l false = l

-- and no session was live under it
abbrev CreatedFits : List (List ℕ) → Result (ℕ × ℕ) Refusal → Type 0
CreatedFits s (Ok (id, next)) = (id < 256) × (next < 256) × (is_free s id ≡ true)
CreatedFits s (Err r) = Unit {0}

created_fits : (s x : List (List ℕ)) (max next : ℕ) → next < 256 → CreatedFits s (created_of s x max next)
unfolding created_of chosen_of free_of open_fits
created_fits s x max next h = fits (table_fits s) (streams_fit x) (leb max 255) (ltb 0 next) refl
  where
    id : ℕ
    id = free_from (is_free s) next 255

    low : id < 256
    low = free_most (is_free s) 255 next h

    behind : (b : Bool) → eqb id 255 ≡ b → cond b 1 (id + 1) < 256
    behind true e = omega arith
    behind false e = let q = eqb-false id 255 e in omega (arith, q, low)

    taken : 0 < next → (b : Bool) → eqb id 0 ≡ b → CreatedFits s (cond b (Err SessionFull) (Ok (id, (after id))))
    taken some true e = tt
    taken some false e = (low, behind (eqb id 255) refl, (found_by_lem s next (omega (arith, some)) (omega (arith, h)) (eqb-false id 0 e)).0)

    room : 0 < next → (c : Bool) → CreatedFits s (cond c (taken_as id) (Err SessionFull))
    room some true = taken some (eqb id 0) refl
    room some false = tt

    fits : (a b c e : Bool) → ltb 0 next ≡ e → CreatedFits s (cond (cond a (cond b (cond c e false) false) false) (cond (ltb (live_of s) max) (taken_as id) (Err SessionFull)) (Err OverLimit))
    fits true true true true q = room (ltb-true 0 next q) (ltb (live_of s) max)
    fits true true true false q = tt
    fits true true false e q = tt
    fits true false c e q = tt
    fits false b c e q = tt

-- ---- the rows and records of all stores

pub record TablesKept (id : ℕ) (t u : Tables) : Type 0 where
  pub sessions_kept : Rows t.sessions u.sessions
  pub streams_kept : RowsOf id t.streams u.streams
  pub objects_kept : RecordsOf id t.objects u.objects

same_tables : (id : ℕ) (t : Tables) → TablesKept id t t
same_tables id t = record { sessions_kept = rows_same t.sessions; streams_kept = streams_same id t.streams; objects_kept = records_same id t.objects }

then_tables : (id : ℕ) (t u v : Tables) → TablesKept id t u → TablesKept id u v → TablesKept id t v
then_tables id t u v a b = record {
  sessions_kept = kept_then [] session_spot 256 t.sessions u.sessions v.sessions a.sessions_kept b.sessions_kept;
  streams_kept = kept_then [] (stream_spot id) 264 t.streams u.streams v.streams a.streams_kept b.streams_kept;
  objects_kept = kept_then blank (object_spot (32 * id)) 32 t.objects u.objects v.objects a.objects_kept b.objects_kept;
}

-- what a submessage is handled over: of the sessions only its own row changes
record StoresKept (id : ℕ) (t u : Stores) : Type 0 where
  own_kept : Own id t.sessions u.sessions
  streams_kept : RowsOf id t.streams u.streams
  objects_kept : RecordsOf id t.objects u.objects

same_stores : (id : ℕ) (t : Stores) → StoresKept id t t
same_stores id t = record { own_kept = own_same id t.sessions; streams_kept = streams_same id t.streams; objects_kept = records_same id t.objects }

then_stores : (id : ℕ) (t u v : Stores) → StoresKept id t u → StoresKept id u v → StoresKept id t v
then_stores id t u v a b = record {
  own_kept = own_then id t.sessions u.sessions v.sessions a.own_kept b.own_kept;
  streams_kept = kept_then [] (stream_spot id) 264 t.streams u.streams v.streams a.streams_kept b.streams_kept;
  objects_kept = kept_then blank (object_spot (32 * id)) 32 t.objects u.objects v.objects a.objects_kept b.objects_kept;
}

tables_of_lem : (id : ℕ) (t u : Tables) → StoresKept id (rows_of t) (rows_of u) → TablesKept id t u
tables_of_lem id t u k = record { sessions_kept = k.own_kept.0; streams_kept = k.streams_kept; objects_kept = k.objects_kept }

module _ (id : ℕ) (below : id < 256) where
  created_sessions_lem : (k : ObjectKind) (s : List (List ℕ)) (o : List Object) (n : ObjectNumber) (p : ℕ) → Own id s (created_sessions k s o id n p)
  created_sessions_lem Participant s o n p = own_same id s
  created_sessions_lem Topic s o n p = own_same id s
  created_sessions_lem Publisher s o n p = count_kept id below s (stored_object s o id (implicit_of n 3 p))
  created_sessions_lem Subscriber s o n p = count_kept id below s (stored_object s o id (implicit_of n 4 p))
  created_sessions_lem DataWriter s o n p = own_same id s
  created_sessions_lem DataReader s o n p = own_same id s

  created_objects_lem : (k : ObjectKind) (s : List (List ℕ)) (o : List Object) (n : ObjectNumber) (p : ℕ) → RecordsOf id o (created_objects k s o id n p)
  created_objects_lem Participant s o n p = records_same id o
  created_objects_lem Topic s o n p = records_same id o
  created_objects_lem Publisher s o n p = stored_kept s o id (implicit_of n 3 p)
  created_objects_lem Subscriber s o n p = stored_kept s o id (implicit_of n 4 p)
  created_objects_lem DataWriter s o n p = records_same id o
  created_objects_lem DataReader s o n p = records_same id o

  room_sessions_lem : (r : Result Room Refusal) (s : List (List ℕ)) (o : List Object) (n : ObjectNumber) (k : ObjectKind) (p : ℕ) → Own id s (room_sessions r s o id n k p)
  room_sessions_lem (Ok room.Free) s o n k p = created_sessions_lem k s o n p
  room_sessions_lem (Ok room.Full) s o n k p = own_same id s
  room_sessions_lem (Ok room.Depended) s o n k p = own_same id s
  room_sessions_lem (Ok room.NotLive) s o n k p = own_same id s
  room_sessions_lem (Err x) s o n k p = own_same id s

  room_objects_lem : (r : Result Room Refusal) (s : List (List ℕ)) (o : List Object) (n : ObjectNumber) (k : ObjectKind) (p : ℕ) → RecordsOf id o (room_objects r s o id n k p)
  room_objects_lem (Ok room.Free) s o n k p = created_objects_lem k s o n p
  room_objects_lem (Ok room.Full) s o n k p = records_same id o
  room_objects_lem (Ok room.Depended) s o n k p = records_same id o
  room_objects_lem (Ok room.NotLive) s o n k p = records_same id o
  room_objects_lem (Err x) s o n k p = records_same id o

  acknowledged_kept : (s x : List (List ℕ)) (a : Result StreamNamed Refusal) (state : StreamState) (p : AcknackPayload) → RowsOf id x (acknowledged_rows s x id a state p)
  acknowledged_kept s x (Ok named-stream.Open) state p = written_rows s x id _ _
  acknowledged_kept s x (Ok named-stream.NotOpen) state p = streams_same id x
  acknowledged_kept s x (Ok named-stream.NotLive) state p = streams_same id x
  acknowledged_kept s x (Err r) state p = streams_same id x

  stream_rows_lem : (hears : Bool) (first second : ℕ) (s x : List (List ℕ)) (r : StreamRead) → RowsOf id x (stream_rows hears first second s x id r)
  stream_rows_lem true first second s x r = streams_same id x
  stream_rows_lem false first second s x r = acknowledged_kept s x r.answer r.state _

  read_sessions_lem : (h : Option Handle) (s x : List (List ℕ)) (n : ℕ) → Own id s (read_sessions h s x id n)
  read_sessions_lem (Some h) s x n = go (eqb n 0)
    where
      go : (b : Bool) → Own id s (cond b s (opened_sessions s x id n))
      go true = own_same id s
      go false = open_sessions s x id n below
  read_sessions_lem None s x n = own_same id s

  read_rows_lem : (h : Option Handle) (s x : List (List ℕ)) (n : ℕ) → RowsOf id x (read_rows h s x id n)
  read_rows_lem (Some h) s x n = go (eqb n 0)
    where
      go : (b : Bool) → RowsOf id x (cond b x (opened_rows s x id n))
      go true = streams_same id x
      go false = open_rows s x id n
  read_rows_lem None s x n = streams_same id x

  handled_kept : (g : Group) (q : Asked) (t : Stores) (n : ℕ) → StoresKept id t (handled_in g q t id n)
  handled_kept Creates q t n =
      let room = room_of t.sessions t.objects id q.number in
      record {
        own_kept = room_sessions_lem room t.sessions t.objects q.number q.kind q.parent;
        streams_kept = streams_same id t.streams;
        objects_kept = room_objects_lem room t.sessions t.objects q.number q.kind q.parent;
      }
  handled_kept Deletes q t n = record {
    own_kept = less_kept id below t.sessions (taken_object t.sessions t.objects id q.number);
    streams_kept = streams_same id t.streams;
    objects_kept = removed_kept t.sessions t.objects id q.number;
  }
  handled_kept Writes q t n = same_stores id t
  handled_kept Reads q t n =
      let h = found_handle (found_object t.sessions t.objects id q.number) in
      record {
        own_kept = read_sessions_lem h t.sessions t.streams n;
        streams_kept = read_rows_lem h t.sessions t.streams n;
        objects_kept = records_same id t.objects;
      }
  handled_kept Streams q t n =
      let s = opened_sessions t.sessions t.streams id n in
      let x = opened_rows t.sessions t.streams id n in
      let r = read_of s x id n in
      record {
        own_kept = open_sessions t.sessions t.streams id n below;
        streams_kept = kept_then [] (stream_spot id) 264 t.streams x (stream_rows q.hears q.first q.second s x id r) (open_rows t.sessions t.streams id n) (stream_rows_lem q.hears q.first q.second s x r);
        objects_kept = records_same id t.objects;
      }
  handled_kept Neither q t n = same_stores id t

  create_kept : (c : Result (ℕ × ℕ) Refusal) (t : Tables) (key time : ℕ) → CreatedFits t.sessions c → TablesKept id t (create_tables c t key time)
  create_kept (Ok (j, next)) t key time f = record {
    sessions_kept = row_set t.sessions j _ f.0;
    streams_kept = first_set t.streams id j _ f.0;
    objects_kept = records_same id t.objects;
  }
  create_kept (Err r) t key time f = same_tables id t

-- ---- one submessage, a run, a whole call

record Goes (id : ℕ) (t : Tables) (x : Turned) : Type 0 where
  tables_kept : TablesKept id t x.tables
  next_low : x.ran.next < 256

-- a submessage over what it is handled over: the pointer stays too
record Acts (id : ℕ) (t : Stores) (r : Ran) (a : Acted) : Type 0 where
  stores_kept : StoresKept id t a.rows
  next_stays : a.ran.next ≡ r.next

module _ (f : Frame) (below : f.session_id < 256) where
  abbrev named_id : ℕ
  named_id = f.session_id

  opening_goes : (t : Tables) (r : Ran) (key at : ℕ) → r.next < 256 → Goes named_id t (opening f t r key at)
  opening_goes t r key at h = go (created_of t.sessions t.streams f.max_clients r.next) (created_fits t.sessions t.streams f.max_clients r.next h)
    where
      open_next : (c : Result (ℕ × ℕ) Refusal) → CreatedFits t.sessions c → pointer_of c r.next < 256
      open_next (Ok (j, next)) g = g.1
      open_next (Err x) g = h

      go : (c : Result (ℕ × ℕ) Refusal) → CreatedFits t.sessions c → Goes named_id t (record { ran = greeted f r at c; tables = create_tables c t key f.moment.time; replies = opened (id_opened c) ∷ [] })
      go c g = record { tables_kept = create_kept named_id below c t key f.moment.time g; next_low = open_next c g }

  touched_stores : (t : Stores) → StoresKept named_id t (touched_in f t)
  touched_stores t = record { own_kept = touched_kept named_id below t.sessions f.moment.time; streams_kept = streams_same named_id t.streams; objects_kept = records_same named_id t.objects }

  passed_acts : (t : Stores) (r : Ran) (a : Acted) → a.rows ≡ t → a.ran.next ≡ r.next → Acts named_id t r a
  passed_acts t r a e n = record { stores_kept = subst (StoresKept named_id t) (sym e) (same_stores named_id t); next_stays = n }

  delivered_acts : (w : Result Bool Refusal) (t : Stores) (h d : List ℕ) (r : Ran) (x : Taken) → Acts named_id t r (delivered w f t h d r x)
  delivered_acts (Ok true) t h d r x =
      let u = touched_in f t in
      let q = x.asked in
      record { stores_kept = then_stores named_id t u (handled_rows q u named_id f.stream_id) (touched_stores t) (handled_kept named_id below q.group q u f.stream_id); next_stays = refl }
  delivered_acts (Ok false) t h d r x = record { stores_kept = touched_stores t; next_stays = refl }
  delivered_acts (Err y) t h d r x = record { stores_kept = touched_stores t; next_stays = refl }

  inside_acts : (t : Stores) (h s : List ℕ) (r : Ran) → Acts named_id t r (inside_turned f t h s r)
  unfolding inside_turned
  inside_acts t h s r = let x = taken_of (read_at s r.at) (length s) in go x x.asked.opening
    where
      go : (x : Taken) (o : Opening) → Acts named_id t r (inside_by o f t h s r x)
      go x Other = delivered_acts (named_of t.sessions named_id) t h s r x
      go x Client = passed_acts t r _ refl refl
      go x Fragment = passed_acts t r _ refl refl
      go x Unread = passed_acts t r _ refl refl

  work_in_acts : (n : ℕ) (h s : List ℕ) (r : Ran) (t : Stores) → Acts named_id t r (work_in n f h s r t)
  unfolding work_in
  work_in_acts zero h s r t = passed_acts t r _ refl refl
  work_in_acts (suc n) h s r t = go (goes_on (length s) r) (work_in_acts n h s (inside_turned f t h s r).ran (inside_turned f t h s r).rows)
    where
      x : Acted
      x = inside_turned f t h s r

      y : Acted
      y = work_in n f h s x.ran x.rows

      go : (b : Bool) → Acts named_id x.rows x.ran y
          → Acts named_id t r (cond b (record { ran = y.ran; rows = y.rows; replies = x.replies ++ y.replies }) (record { ran = r; rows = t; replies = [] }))
      go true k =
          let a = inside_acts t h s r in
          record { stores_kept = then_stores named_id t x.rows y.rows a.stores_kept k.stores_kept; next_stays = k.next_stays ∙ a.next_stays }
      go false k = passed_acts t r _ refl refl

  work_acts : (h s : List ℕ) (r : Ran) (t : Stores) → Acts named_id t r (work_at f h s r t)
  unfolding work_at
  work_acts h s r t = work_in_acts (length s - r.at) h s r t

  left_acts : (o : Result ℕ Refusal) (h s : List ℕ) (n : ℕ) (r : Ran) (at : ℕ) (t : Stores) → Acts named_id t r (left_by o f h s n r at t)
  left_acts (Ok k) h s n r at t = let a = work_acts h s (entered_ran r) t in record { stores_kept = a.stores_kept; next_stays = a.next_stays }
  left_acts (Err x) h s n r at t = passed_acts t r _ refl refl

  -- a FRAGMENT: its session's own row
  gathered_own : (s : List (List ℕ)) (parts lengths rebuilt : List ℕ) (nr total : ℕ) (body : List ℕ) → Own named_id s (gathered_rows s parts lengths rebuilt named_id nr total body)
  unfolding gathered_rows
  gathered_own s parts lengths rebuilt nr total body = go (takes s named_id nr total (length body)) (gathered s parts lengths rebuilt named_id nr total body)
    where
      kept : (g : Gathered) → Own named_id s (keep_session s named_id (gathered_session (session_at s named_id) g))
      kept gathers.Nothing = own_row s named_id (gathered_session (session_at s named_id) gathers.Nothing) below refl refl
      kept (gathers.Held b) = own_row s named_id (gathered_session (session_at s named_id) (gathers.Held b)) below refl refl
      kept (gathers.Whole n) = own_row s named_id (gathered_session (session_at s named_id) (gathers.Whole n)) below refl refl

      go : (b : Bool) (g : Gathered) → Own named_id s (cond b (keep_session s named_id (gathered_session (session_at s named_id) g)) s)
      go true g = kept g
      go false g = own_same named_id s

  record FragmentActs (t : Tables) (r : Ran) (x : Turned) : Type 0 where
    its_stores : StoresKept named_id (rows_of t) (rows_of x.tables)
    its_next : x.ran.next ≡ r.next

  fragment_acts : (t : Tables) (d : List ℕ) (r : Ran) (x : Taken) → FragmentActs t r (fragment_turned f t d r x)
  unfolding fragment_turned
  fragment_acts t d r x =
      let u = touched_tables f t in
      let nr = x.asked.first in
      let total = x.asked.second in
      let body = part_of d x.body in
      let v = gather_tables u named_id nr total body in
      let n = whole_len (gathered u.sessions u.parts u.lengths u.rebuilt named_id nr total body) in
      let s = rebuilt_part v.rebuilt n in
      let a = left_acts (rebuilt_of s) v.held s n r x.at (rows_of v) in
      let g : StoresKept named_id (rows_of u) (rows_of v) =
      record { own_kept = gathered_own u.sessions u.parts u.lengths u.rebuilt nr total body; streams_kept = streams_same named_id u.streams; objects_kept = records_same named_id u.objects } in
      record {
        its_stores = then_stores named_id (rows_of t) (rows_of u) _ (touched_stores (rows_of t)) (then_stores named_id (rows_of u) (rows_of v) _ g a.stores_kept);
        its_next = a.next_stays;
      }

  sub_goes : (o : Opening) (t : Tables) (d : List ℕ) (r : Ran) (x : Taken) → r.next < 256 → Goes named_id t (sub_turned o f t d r x)
  sub_goes Client t d r x h = opening_goes t r x.asked.key x.at h
  sub_goes Fragment t d r x h =
      let a = fragment_acts t d r x in
      let e = a.its_next in
      record { tables_kept = tables_of_lem named_id t _ a.its_stores; next_low = omega (arith, e, h) }
  sub_goes Other t d r x h =
      let a = delivered_acts (named_of t.sessions named_id) (rows_of t) t.held d r x in
      let e = a.next_stays in
      record { tables_kept = tables_of_lem named_id t _ a.stores_kept; next_low = omega (arith, e, h) }
  sub_goes Unread t d r x h = record { tables_kept = same_tables named_id t; next_low = h }

  turned_goes : (t : Tables) (d : List ℕ) (r : Ran) → r.next < 256 → Goes named_id t (turned f t d r)
  unfolding turned
  turned_goes t d r h = let x = taken_of (read_at d r.at) (length d) in sub_goes x.asked.opening t d r x h

  run_kept : (left : ℕ) (d : List ℕ) (r : Ran) (t : Tables) → r.next < 256 → TablesKept named_id t (run_in left f d r t).tables
  unfolding run_in
  run_kept zero d r t h = same_tables named_id t
  run_kept (suc left) d r t h = go (run_kept left d (turned f t d r).ran (turned f t d r).tables (turned_goes t d r h).next_low) (goes_on (length d) r)
    where
      go : TablesKept named_id (turned f t d r).tables (run_in left f d (turned f t d r).ran (turned f t d r).tables).tables → (b : Bool)
          → TablesKept named_id t (cond b (before (turned f t d r) (λ r' t'. run_in left f d r' t')) (record { ran = r; tables = t; replies = [] })).tables
      go k true = then_tables named_id t (turned f t d r).tables (run_in left f d (turned f t d r).ran (turned f t d r).tables).tables (turned_goes t d r h).tables_kept k
      go k false = same_tables named_id t

  begun_sessions_lem : (x : Option (ObjectNumber × Task × BridgeAnswer)) (s : List (List ℕ)) (o : List Object) → Own named_id s (begun_sessions x s o f)
  begun_sessions_lem None s o = own_same named_id s
  begun_sessions_lem (Some (number, task, a)) s o = go (got_of s named_id) (keeps_of number task a)
    where
      go : (g : Result (Option ClientSession) Refusal) (k : Option Object) → Own named_id s (answered_sessions g k s o named_id)
      go (Ok (Some y)) (Some z) = count_kept named_id below s (stored_object s o named_id z)
      go (Ok (Some y)) None = own_same named_id s
      go (Ok None) k = own_same named_id s
      go (Err r) k = own_same named_id s

  begun_objects_lem : (x : Option (ObjectNumber × Task × BridgeAnswer)) (s : List (List ℕ)) (o : List Object) → RecordsOf named_id o (begun_objects x s o f)
  begun_objects_lem None s o = records_same named_id o
  begun_objects_lem (Some (number, task, a)) s o = go (got_of s named_id) (keeps_of number task a)
    where
      go : (g : Result (Option ClientSession) Refusal) (k : Option Object) → RecordsOf named_id o (answered_objects g k s o named_id)
      go (Ok (Some y)) (Some z) = stored_kept s o named_id z
      go (Ok (Some y)) None = records_same named_id o
      go (Ok None) k = records_same named_id o
      go (Err r) k = records_same named_id o

  begun_streams_lem : (x : Option (ObjectNumber × Task × BridgeAnswer)) (s y : List (List ℕ)) (h sample : List ℕ) → RowsOf named_id y (begun_streams x s y h f sample)
  begun_streams_lem None s y h sample = streams_same named_id y
  begun_streams_lem (Some (number, task, a)) s y h sample = go (got_of s named_id) (says_of task a)
    where
      bytes : List ℕ
      bytes = begun_bytes number task a s y f sample

      held : (b : Bool) → RowsOf named_id y (cond b y (sent_streams s y h named_id f.stream_id bytes))
      held true = streams_same named_id y
      held false = sent_rows_lem s y named_id f.stream_id h bytes

      go : (g : Result (Option ClientSession) Refusal) (q : Says) → RowsOf named_id y (answered_streams g q f s y h bytes)
      go (Ok (Some z)) (says.Status code) = streams_same named_id y
      go (Ok (Some z)) says.Data = held (eqb f.stream_id 0)
      go (Ok None) q = streams_same named_id y
      go (Err r) q = streams_same named_id y

module _ (x : Start) (below : x.frame.session_id < 256) (low : x.next < 256) (t : Tables) (d sample : List ℕ) where
  abbrev its_id : ℕ
  its_id = x.frame.session_id

  begun_kept : StoresKept its_id (rows_of t) (rows_begun x (rows_of t) t.held sample)
  begun_kept = record {
    own_kept = begun_sessions_lem x.frame below x.resumes t.sessions t.objects;
    streams_kept = begun_streams_lem x.frame below x.resumes t.sessions t.streams t.held sample;
    objects_kept = begun_objects_lem x.frame below x.resumes t.sessions t.objects;
  }

  resumed_acts : (first : Ran) → first.next ≡ x.next → (s : List ℕ)
      → Acts its_id (rows_of t) first (left_acted (work_at x.frame (held_begun x (rows_of t) t.held sample) s first (rows_begun x (rows_of t) t.held sample)) x.left_end x.at)
  resumed_acts first e s =
      let u = rows_begun x (rows_of t) t.held sample in
      let a = work_acts x.frame below (held_begun x (rows_of t) t.held sample) s first u in
      record { stores_kept = then_stores its_id (rows_of t) u _ begun_kept a.stores_kept; next_stays = a.next_stays }

  resumed_goes : Goes its_id t (resumed x t sample)
  unfolding resumed_acted
  resumed_goes =
      let first = first_ran x (length (joined_replies (begun_by x.resumes t.sessions t.streams x.frame sample))) in
      let a = resumed_acts first refl (rebuilt_part t.rebuilt x.left_end) in
      let e = a.next_stays in
      record { tables_kept = tables_of_lem its_id t _ a.stores_kept; next_low = omega (arith, e, low) }

  pub performed_kept : TablesKept its_id t (performed x t d sample).tables
  unfolding performed run_at
  performed_kept =
      let y = resumed x t sample in
      let g = resumed_goes in
      then_tables its_id t y.tables (run_at x.frame d y.ran y.tables).tables g.tables_kept (run_kept x.frame below (length d - y.ran.at) d y.ran y.tables g.next_low)

  pub sessions_long : 256 ≤ length t.sessions → 256 ≤ length (performed x t d sample).tables.sessions
  sessions_long h = let e = performed_kept.sessions_kept.long in omega (arith, e, h)

  pub streams_long : 2048 ≤ length t.streams → 2048 ≤ length (performed x t d sample).tables.streams
  streams_long h = let e = performed_kept.streams_kept.long in omega (arith, e, h)

  pub objects_long : 8192 ≤ length t.objects → 32 * its_id + 32 ≤ length (performed x t d sample).tables.objects
  objects_long h = let e = performed_kept.objects_kept.long in omega (arith, e, h, below)

  -- and so the copies give the stores back
  pub sessions_back : (line : List (List ℕ)) → 256 ≤ length t.sessions → back_in (performed x t d sample).tables.sessions (kept_in line t.sessions 0 256) 0 256 ≡ t.sessions
  sessions_back line h =
      let after = (performed x t d sample).tables.sessions in
      kept_back [] 0 256 t.sessions after (subst (λ (spot : ℕ → ℕ). KeptBut [] spot 256 t.sessions after) (λ i k. sym (zero-add k) i) performed_kept.sessions_kept) line h

  pub streams_back : (line : List (List ℕ)) → 264 ≤ length line → restored same [] (stream_spot its_id) 264 (copied same [] (stream_spot its_id) 264 t.streams line) (performed x t d sample).tables.streams ≡ t.streams
  streams_back line h = put_back same same (λ row. refl) [] [] (stream_spot its_id) t.streams line 264 (performed x t d sample).tables.streams h performed_kept.streams_kept

  pub objects_back : (line : List Object) (first n : ℕ) → first ≡ 32 * its_id → n ≡ 32 → 8192 ≤ length t.objects
      → back_in (performed x t d sample).tables.objects (kept_in line t.objects first n) first n ≡ t.objects
  objects_back line first n e f h =
      let after = (performed x t d sample).tables.objects in
      rw (e, f) (kept_back blank (32 * its_id) 32 t.objects after performed_kept.objects_kept line (omega (arith, h, below)))

-- ---- and the buffer of the stream that the call names, which the answer's part may fill

module _ (h : List ℕ) (b : Stretch) (low : b.start ≤ b.end) (within : b.end ≤ length h) where
  -- its own bytes put there again change nothing
  own_back : put_bytes h b.start (buffer_in h b) ≡ h
  own_back =
      ap (λ (l : List ℕ). put_bytes l b.start (buffer_in h b)) (sym (with_same h b))
      ∙ put-buffer-back h b low within (buffer_in h b) (buffer_length h b low within)

module _ (x : Start) (t : Tables) (d sample : List ℕ) where
  abbrev its_buffer : Stretch
  its_buffer = buffer_stretch t.sessions t.streams (length t.held) x.frame.session_id x.frame.stream_id

  module _ (low : its_buffer.start ≤ its_buffer.end) (within : its_buffer.end ≤ length t.held) where
    begun_back : (r : Option (ObjectNumber × Task × BridgeAnswer)) → put_bytes (begun_held r t.sessions t.streams t.held x.frame sample) its_buffer.start (buffer_in t.held its_buffer) ≡ t.held
    begun_back None = own_back t.held its_buffer low within
    begun_back (Some (number, task, a)) = go (got_of t.sessions x.frame.session_id) (says_of task a)
      where
        bytes : List ℕ
        bytes = begun_bytes number task a t.sessions t.streams x.frame sample

        sent : (b : Bool) → put_bytes (cond b t.held (sent_held t.sessions t.streams t.held x.frame.session_id x.frame.stream_id bytes)) its_buffer.start (buffer_in t.held its_buffer) ≡ t.held
        sent true = own_back t.held its_buffer low within
        sent false = held_back t.sessions t.streams t.held x.frame.session_id x.frame.stream_id bytes

        go : (g : Result (Option ClientSession) Refusal) (q : Says) → put_bytes (answered_held g q x.frame t.sessions t.streams t.held bytes) its_buffer.start (buffer_in t.held its_buffer) ≡ t.held
        go (Ok (Some z)) (says.Status code) = own_back t.held its_buffer low within
        go (Ok (Some z)) says.Data = sent (eqb x.frame.stream_id 0)
        go (Ok None) q = own_back t.held its_buffer low within
        go (Err r) q = own_back t.held its_buffer low within

    its_own : put_bytes (performed x t d sample).tables.held its_buffer.start (buffer_in t.held its_buffer) ≡ t.held
    its_own = ap (λ (l : List ℕ). put_bytes l its_buffer.start (buffer_in t.held its_buffer)) (performed_held x t d sample) ∙ begun_back x.resumes

    pub held_long : length (performed x t d sample).tables.held ≡ length t.held
    held_long = bytes_long t.held (performed x t d sample).tables.held its_buffer low within its_own

    pub buffer_back : (line : List ℕ) → back_in (performed x t d sample).tables.held (kept_in line t.held its_buffer.start (its_buffer.end - its_buffer.start)) its_buffer.start (its_buffer.end - its_buffer.start) ≡ t.held
    buffer_back = bytes_back t.held (performed x t d sample).tables.held its_buffer low within its_own

-- ---- a session's fragments and the place of rebuilt bytes, in a run of which the session is live

-- a store of which nothing but a stretch may have changed
abbrev Inside : Stretch → List ℕ → List ℕ → Type 0
Inside b xs ys = (length ys ≡ length xs) × (take b.start ys ≡ take b.start xs) × (drop (roomIn b) (drop b.start ys) ≡ drop (roomIn b) (drop b.start xs))

inside_same : (b : Stretch) (xs : List ℕ) → Inside b xs xs
inside_same b xs = (refl, refl, refl)

inside_then : (b : Stretch) (xs ys zs : List ℕ) → Inside b xs ys → Inside b ys zs → Inside b xs zs
inside_then b xs ys zs k l = (l.0 ∙ k.0, l.1 ∙ k.1, l.2 ∙ k.2)

module _ (b : Stretch) (xs : List ℕ) (low : b.start ≤ b.end) (within : b.end ≤ length xs) where
  refilled_inside : (ys : List ℕ) → length ys ≡ length xs → Refilled xs b ys → Inside b xs ys
  unfolding with_buffer
  refilled_inside ys long (part, n, e) =
      let front = take b.start xs in
      let back = drop (roomIn b) (drop b.start xs) in
      let k = length-take-le b.start xs (omega (arith, low, within)) in (
        long,
        ap (take b.start) e ∙ (ap (λ (m : ℕ). take m (front ++ (part ++ back))) (sym k) ∙ take-append_seam front (part ++ back)),
        ap (λ (l : List ℕ). drop (roomIn b) (drop b.start l)) e
            ∙ (ap (λ (m : ℕ). drop (roomIn b) (drop m (front ++ (part ++ back)))) (sym k)
            ∙ (ap (drop (roomIn b)) (drop-append_seam front (part ++ back)) ∙ (ap (λ (m : ℕ). drop m (part ++ back)) (sym n) ∙ drop-append_seam part back))),
      )

  -- with its old bytes put back it is as it was
  inside_refilled : (ys : List ℕ) → Inside b xs ys → ys ≡ with_buffer xs b (buffer_in ys b)
  unfolding with_buffer buffer_in
  inside_refilled ys k =
      let part = take (roomIn b) (drop b.start ys) in
      sym (with_same ys b) ∙ (λ i. k.1 i ++ (part ++ k.2 i))

  inside_back : (ys : List ℕ) → Inside b xs ys → put_bytes ys b.start (buffer_in xs b) ≡ xs
  inside_back ys k =
      let long = k.0 in
      ap (λ (l : List ℕ). put_bytes l b.start (buffer_in xs b)) (inside_refilled ys k)
      ∙ put-buffer-back xs b low within (buffer_in ys b) (buffer_length ys b low (omega (arith, within, long)))

  inside_kept : (ys line : List ℕ) → Inside b xs ys → back_in ys (kept_in line xs b.start (b.end - b.start)) b.start (b.end - b.start) ≡ xs
  inside_kept ys line k =
      let n = b.end - b.start in
      let rest : drop (b.start + n) ys ≡ drop (b.start + n) xs = sym (drop-drop n b.start ys) ∙ (k.2 ∙ drop-drop n b.start xs) in
      stretch_back line xs ys b.start n (omega (arith, low, within)) k.1 rest

module _ (id : ℕ) where
  abbrev pub its_parts : Tables → Stretch
  its_parts t = parts_stretch (session_at t.sessions id) (length t.parts)

  abbrev pub its_lengths : Tables → Stretch
  its_lengths t = lengths_stretch (session_at t.sessions id) (length t.lengths)

  pub record FragmentsKept (t u : Tables) : Type 0 where
    pub parts_kept : Inside (its_parts t) t.parts u.parts
    pub lengths_kept_lem : Inside (its_lengths t) t.lengths u.lengths
    pub rebuilt_kept : SameFrom 32768 t.rebuilt u.rebuilt
    pub stays : Stays id t.sessions u.sessions

  only_sessions : (t u : Tables) → u.parts ≡ t.parts → u.lengths ≡ t.lengths → u.rebuilt ≡ t.rebuilt → Stays id t.sessions u.sessions → FragmentsKept t u
  only_sessions t u p l r s = record {
    parts_kept = subst (Inside (its_parts t) t.parts) (sym p) (inside_same (its_parts t) t.parts);
    lengths_kept_lem = subst (Inside (its_lengths t) t.lengths) (sym l) (inside_same (its_lengths t) t.lengths);
    rebuilt_kept = (ap length r, ap (drop 32768) r);
    stays = s;
  }

  same_fragments : (t : Tables) → FragmentsKept t t
  same_fragments t = only_sessions t t refl refl refl (refl, refl)

  then_fragments : (t u v : Tables) → FragmentsKept t u → FragmentsKept u v → FragmentsKept t v
  then_fragments t u v a b = record {
    parts_kept = inside_then (its_parts t) t.parts u.parts v.parts a.parts_kept (subst (λ (b : Stretch). Inside b u.parts v.parts) parts_same b.parts_kept);
    lengths_kept_lem = inside_then (its_lengths t) t.lengths u.lengths v.lengths a.lengths_kept_lem (subst (λ (b : Stretch). Inside b u.lengths v.lengths) lengths_same b.lengths_kept_lem);
    rebuilt_kept = (b.rebuilt_kept.0 ∙ a.rebuilt_kept.0, b.rebuilt_kept.1 ∙ a.rebuilt_kept.1);
    stays = stays_then id t.sessions u.sessions v.sessions a.stays b.stays;
  }
    where
      parts_same : its_parts u ≡ its_parts t
      parts_same = λ i. slot_stretch store_bytes (a.stays.1 i) (a.parts_kept.0 i)

      lengths_same : its_lengths u ≡ its_lengths t
      lengths_same = λ i. slot_stretch most_fragments (a.stays.1 i) (a.lengths_kept_lem.0 i)

  gather_kept : (t : Tables) (nr total : ℕ) (body : List ℕ) → FragmentsKept t (gather_tables t id nr total body)
  gather_kept t nr total body =
      let s = session_at t.sessions id in
      let g = gather_put_back t.sessions t.parts t.lengths t.rebuilt id nr total body in
      let l = gather_lengths t.sessions t.parts t.lengths t.rebuilt id nr total body in
      let p = stretch_stands 32768 s.slot (length t.parts) in
      let q = stretch_stands 64 s.slot (length t.lengths) in
      record {
        parts_kept = refilled_inside (its_parts t) t.parts p.1 p.2 (gather_tables t id nr total body).parts l.1 g.0;
        lengths_kept_lem = refilled_inside (its_lengths t) t.lengths q.1 q.2 (gather_tables t id nr total body).lengths l.2 g.1;
        rebuilt_kept = (l.3, g.2);
        stays = (gather_live t.sessions t.parts t.lengths t.rebuilt id nr total body id, gather_slot t.sessions t.parts t.lengths t.rebuilt id nr total body id);
      }

module _ (f : Frame) (below : f.session_id < 256) where
  abbrev its : ℕ
  its = f.session_id

  abbrev Lives : Tables → Type 0
  Lives t = is_free t.sessions its ≡ false

  still_lives : (t u : Tables) → Lives t → Stays its t.sessions u.sessions → Lives u
  still_lives t u e s = ap (λ (n : ℕ). eqb n 0) s.0 ∙ e

  -- a session that is opened has another id
  create_stays : (c : Result (ℕ × ℕ) Refusal) (t : Tables) (key time : ℕ) → CreatedFits t.sessions c → Lives t → Stays its t.sessions (create_tables c t key time).sessions
  create_stays (Ok (j, next)) t key time g e =
      let other : its ≡ j → ⊥ = λ q. (let z : ◌≡◌ {A = ℕ} 0 1 = cc (e, g.2, q) in omega (arith, z)) in
      let k = kept_elsewhere t.sessions j (new_session key time (free_slot t.sessions)) its other in
      (ap (λ (z : ClientSession). z.live) k, ap (λ (z : ClientSession). z.slot) k)
  create_stays (Err r) t key time g e = (refl, refl)

  fragment_fragments : (t : Tables) (d : List ℕ) (r : Ran) (x : Taken) → FragmentsKept its t (fragment_turned f t d r x).tables
  unfolding fragment_turned
  fragment_fragments t d r x =
      let u = touched_tables f t in
      let nr = x.asked.first in
      let total = x.asked.second in
      let body = part_of d x.body in
      let v = gather_tables u its nr total body in
      let n = whole_len (gathered u.sessions u.parts u.lengths u.rebuilt its nr total body) in
      let s = rebuilt_part v.rebuilt n in
      let a = left_acts f below (rebuilt_of s) v.held s n r x.at (rows_of v) in
      then_fragments its t u (whole_turned f v n r x.at).tables (only_sessions its t u refl refl refl (touched_kept its below t.sessions f.moment.time).1)
      (then_fragments its u v (whole_turned f v n r x.at).tables (gather_kept its u nr total body) (only_sessions its v (whole_turned f v n r x.at).tables refl refl refl a.stores_kept.own_kept.1))

  sub_fragments : (o : Opening) (t : Tables) (d : List ℕ) (r : Ran) (x : Taken) → r.next < 256 → Lives t → FragmentsKept its t (sub_turned o f t d r x).tables
  sub_fragments Client t d r x h e =
      let c = created_of t.sessions t.streams f.max_clients r.next in
      only_sessions its t _ refl refl refl (create_stays c t x.asked.key f.moment.time (created_fits t.sessions t.streams f.max_clients r.next h) e)
  sub_fragments Fragment t d r x h e = fragment_fragments t d r x
  sub_fragments Other t d r x h e =
      only_sessions its t _ refl refl refl (delivered_acts f below (named_of t.sessions its) (rows_of t) t.held d r x).stores_kept.own_kept.1
  sub_fragments Unread t d r x h e = same_fragments its t

  turned_fragments : (t : Tables) (d : List ℕ) (r : Ran) → r.next < 256 → Lives t → FragmentsKept its t (turned f t d r).tables
  unfolding turned
  turned_fragments t d r h e = let x = taken_of (read_at d r.at) (length d) in sub_fragments x.asked.opening t d r x h e

  in_fragments : (left : ℕ) (d : List ℕ) (r : Ran) (t : Tables) → r.next < 256 → Lives t → FragmentsKept its t (run_in left f d r t).tables
  unfolding run_in
  in_fragments zero d r t h e = same_fragments its t
  in_fragments (suc left) d r t h e =
      let k = turned_fragments t d r h e in
      go k (in_fragments left d (turned f t d r).ran (turned f t d r).tables (turned_goes f below t d r h).next_low (still_lives t (turned f t d r).tables e k.stays)) (goes_on (length d) r)
    where
      go : FragmentsKept its t (turned f t d r).tables → FragmentsKept its (turned f t d r).tables (run_in left f d (turned f t d r).ran (turned f t d r).tables).tables → (b : Bool)
          → FragmentsKept its t (cond b (before (turned f t d r) (λ r' t'. run_in left f d r' t')) (record { ran = r; tables = t; replies = [] })).tables
      go k l true = then_fragments its t (turned f t d r).tables (run_in left f d (turned f t d r).ran (turned f t d r).tables).tables k l
      go k l false = same_fragments its t

  lives_by : (s : List (List ℕ)) → is_live (named_of s its) ≡ true → is_free s its ≡ false
  unfolding named_of
  lives_by s = go (table_fits s) (is_free s its)
    where
      go : (a b : Bool) → is_live (cond a (cond b (Ok false) (Ok true)) (Err OverLimit)) ≡ true → b ≡ false
      go true true e = let z : ◌≡◌ {A = ℕ} 0 1 = cc in absurd (omega (arith, z))
      go true false e = refl
      go false b e = let z : ◌≡◌ {A = ℕ} 0 1 = cc in absurd (omega (arith, z))

  -- a run that has entered
  pub run_fragments : (d : List ℕ) (r : Ran) (t : Tables) → r.next < 256 → entered f (length d) r t.sessions ≡ true → FragmentsKept its t (run_at f d r t).tables
  unfolding run_at
  run_fragments d r t h e = go (is_live (named_of t.sessions its)) refl (goes_on (length d) r) refl e
    where
      go : (a : Bool) → is_live (named_of t.sessions its) ≡ a → (b : Bool) → goes_on (length d) r ≡ b → cond a true (not b) ≡ true → FragmentsKept its t (run_in (length d - r.at) f d r t).tables
      go true p b q z = in_fragments (length d - r.at) d r t h (lives_by t.sessions p)
      go false p true q z = let n : ◌≡◌ {A = ℕ} 0 1 = cc in absurd (omega (arith, n))
      go false p false q z = subst (λ (y : Turned). FragmentsKept its t y.tables) (sym (run_end f d r t q)) (same_fragments its t)

  -- the place of rebuilt bytes, in any run
  turned_rebuilt : (t : Tables) (d : List ℕ) (r : Ran) → SameFrom 32768 t.rebuilt (turned f t d r).tables.rebuilt
  unfolding turned
  turned_rebuilt t d r = let x = taken_of (read_at d r.at) (length d) in go x x.asked.opening
    where
      go : (x : Taken) (o : Opening) → SameFrom 32768 t.rebuilt (sub_turned o f t d r x).tables.rebuilt
      go x Client = (refl, refl)
      go x Fragment = (fragment_fragments t d r x).rebuilt_kept
      go x Other = (refl, refl)
      go x Unread = (refl, refl)

  in_rebuilt : (left : ℕ) (d : List ℕ) (r : Ran) (t : Tables) → SameFrom 32768 t.rebuilt (run_in left f d r t).tables.rebuilt
  unfolding run_in
  in_rebuilt zero d r t = (refl, refl)
  in_rebuilt (suc left) d r t = go (turned_rebuilt t d r) (in_rebuilt left d (turned f t d r).ran (turned f t d r).tables) (goes_on (length d) r)
    where
      go : SameFrom 32768 t.rebuilt (turned f t d r).tables.rebuilt → SameFrom 32768 (turned f t d r).tables.rebuilt (run_in left f d (turned f t d r).ran (turned f t d r).tables).tables.rebuilt → (b : Bool)
          → SameFrom 32768 t.rebuilt (cond b (before (turned f t d r) (λ r' t'. run_in left f d r' t')) (record { ran = r; tables = t; replies = [] })).tables.rebuilt
      go k l true = (l.0 ∙ k.0, l.1 ∙ k.1)
      go k l false = (refl, refl)

  run_rebuilt : (d : List ℕ) (r : Ran) (t : Tables) → SameFrom 32768 t.rebuilt (run_at f d r t).tables.rebuilt
  unfolding run_at
  run_rebuilt d r t = in_rebuilt (length d - r.at) d r t

-- ---- and so the copies give them back

module _ (f : Frame) (below : f.session_id < 256) (d : List ℕ) (r : Ran) (t : Tables) where
  abbrev after_run : Tables
  after_run = (run_at f d r t).tables

  rebuilt_inside : Inside rebuilt_place t.rebuilt after_run.rebuilt
  rebuilt_inside = let k = run_rebuilt f below d r t in (k.0, refl, k.1)

  pub rebuilt_long : length after_run.rebuilt ≡ length t.rebuilt
  rebuilt_long = rebuilt_inside.0

  pub rebuilt_back : (line : List ℕ) → 32768 ≤ length t.rebuilt → back_in (run_at f d r t).tables.rebuilt (kept_in line t.rebuilt 0 32768) 0 32768 ≡ t.rebuilt
  rebuilt_back line h = inside_kept rebuilt_place t.rebuilt (omega arith) h after_run.rebuilt line rebuilt_inside

  module _ (low : r.next < 256) (e : entered f (length d) r t.sessions ≡ true) where
    abbrev kept_so : FragmentsKept f.session_id t after_run
    kept_so = run_fragments f below d r t low e

    -- the stretches as the code finds them
    pub parts_back : (line : List ℕ) (b : Stretch) → b ≡ its_parts f.session_id t → b.start ≤ b.end → b.end ≤ length t.parts
        → back_in after_run.parts (kept_in line t.parts b.start (b.end - b.start)) b.start (b.end - b.start) ≡ t.parts
    parts_back line b is lo hi =
        inside_kept b t.parts lo hi after_run.parts line (subst (λ (b : Stretch). Inside b t.parts after_run.parts) (sym is) kept_so.parts_kept)

    pub lengths_back : (line : List ℕ) (b : Stretch) → b ≡ its_lengths f.session_id t → b.start ≤ b.end → b.end ≤ length t.lengths
        → back_in after_run.lengths (kept_in line t.lengths b.start (b.end - b.start)) b.start (b.end - b.start) ≡ t.lengths
    lengths_back line b is lo hi =
        inside_kept b t.lengths lo hi after_run.lengths line (subst (λ (b : Stretch). Inside b t.lengths after_run.lengths) (sym is) kept_so.lengths_kept_lem)

    pub parts_long : length after_run.parts ≡ length t.parts
    parts_long = kept_so.parts_kept.0

    pub lengths_long : length after_run.lengths ≡ length t.lengths
    lengths_long = kept_so.lengths_kept_lem.0
