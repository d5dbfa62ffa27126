-- The FRAGMENTs of a datagram that can't complete their message: the least of their totals, one header at a time; what a session has received, which grows by one at most with each
-- of them and with nothing else; and so a FRAGMENT of a sparse datagram gets no reply.
use Prim.Native.Nat.{ℕ, zero, suc, ◌+◌, ◌-◌, ◌≤◌, ◌<◌, min}
use mathlib.Core.Path.{◌≡◌, refl, sym, ap, ◌∙◌, subst}
use mathlib.Core.Bool.{Bool, true, false, cond, not}
use mathlib.Core.List.{List, []}
use native.Mathlib.Omega.{arith}
use borrow.Author.Tests.{eqb-true, eqb-false, ltb-true, ltb-false, le-ltb, eq-eqb}
use lib.Dec.{eqb, leb, ltb}
use lib.ListN.{get_or, length}
use lib.Seq.{set_out}
use Rattle.codec.specs.Bytes.{word_at}
use Rattle.codec.specs.Layouts.{least_of, layout_at, fragment_at, bodied_at}
use Rattle.codec.specs.Submessages.{id_of}
use Rattle.codec.specs.Reading.{payload_at, read_at, part_of}
use Rattle.codec.specs.Reassembly.{under_need, is_free, store_over, grown, recounted, slot_over, insert_check, inserted_if, insert_check_of, insert_of, insert_slots, insert_lengths, assemble_of, new_of}
use Rattle.codec.specs.declared.layouts.Cursor.{Cursor}
use Rattle.codec.specs.declared.layouts.Span.{Span}
use Rattle.codec.specs.declared.reassembly.ReassemblyBuffer.{ReassemblyBuffer}
use Rattle.codec.specs.declared.refusals.Refusal.TheVariants.{BufferTooShort, PayloadLengthMismatch, OverLimit}
use Rattle.codec.specs.declared.submessages.FragmentPayload.{FragmentPayload}
use Rattle.codec.specs.declared.submessages.ObjectKind.{ObjectKind}
use Rattle.codec.specs.declared.submessages.ObjectKind.TheVariants.{Participant, Topic, Publisher, Subscriber, DataWriter, DataReader}
use Rattle.codec.specs.declared.submessages.ObjectNumber.{ObjectNumber}
use Rattle.codec.specs.declared.submessages.Submessage.{Submessage}
use Rattle.codec.specs.declared.submessages.Submessage.TheVariants as sub
use Rattle.codec.proofs.Either.{either}
use Rattle.codec.proofs.reading.Laws.{read_payload}
use Rattle.codec.proofs.rebuilt.Laws.{whole_none}
use Rattle.streams.specs.Places.{first_from}
use Rattle.sessions.specs.Table.{row_of, session_at, keep_session, new_session, touched_session, kept_rows, named_of, touched_rows, got_of}
use Rattle.sessions.specs.Opening.{created_of, free_slot}
use Rattle.sessions.specs.Objects.{implicit_of}
use Rattle.sessions.specs.Room.{room_of}
use Rattle.sessions.specs.SessionObjects.{counted_session, used_of, found_object, stored_object, keep_stored}
use Rattle.sessions.specs.Removal.{taken_object, keep_removed}
use Rattle.sessions.specs.Streams.{first_stream}
use Rattle.sessions.specs.SessionStreams.{streams_used, streamed_session, streams_named, is_stream, place_by, stream_place, opened_count}
use Rattle.sessions.specs.Fragments.{buffer_with, store_for, lengths_for, gathered_by, gathered_with, assembled_as, gathered_in, gathered_session, takes, own_parts, own_lengths, gathered, gathered_rows}
use Rattle.sessions.specs.Calls.{gather_tables, create_tables}
use Rattle.sessions.specs.View.{Tables}
use Rattle.sessions.specs.declared.fragments.Gathered.{Gathered}
use Rattle.sessions.specs.declared.fragments.Gathered.TheVariants as gathers
use Rattle.sessions.specs.declared.objects.Object.{Object}
use Rattle.sessions.specs.declared.objects.Stored.{Stored}
use Rattle.sessions.specs.declared.objects.Stored.TheVariants as stored
use Rattle.sessions.specs.declared.objects.Taken.{Taken as Removed}
use Rattle.sessions.specs.declared.objects.Taken.TheVariants as removed
use Rattle.sessions.specs.declared.room.Room.{Room}
use Rattle.sessions.specs.declared.room.Room.TheVariants as room
use Rattle.sessions.specs.declared.table.ClientSession.{ClientSession}
use Rattle.sessions.proofs.ViewTable.{kept_here, kept_elsewhere}
use Rattle.moves.specs.Moves.{found_handle}
use Rattle.moves.specs.Rows.{Rows, asks_of, created_sessions, room_sessions, handled_in}
use Rattle.moves.specs.RowsStreams.{opened_sessions, read_sessions}
use Rattle.moves.specs.Answers.{keeps_of}
use Rattle.moves.specs.declared.handle.Asked.{Asked}
use Rattle.moves.specs.declared.handle.Group.{Group}
use Rattle.moves.specs.declared.handle.Group.TheVariants.{Creates, Deletes, Writes, Reads, Streams, Neither}
use Rattle.moves.specs.declared.handle.Opening.TheVariants.{Client, Other}
use Rattle.agent.specs.Answered.{answered_sessions}
use Rattle.agent.specs.Lent.{rows_of, rebuilt_part}
use Rattle.agent.specs.Run.{Turned, touched_in, touched_tables, delivered, taken_of, whole_len, left_by, with_acted, whole_turned, fragment_turned, sub_turned, turned}
use Rattle.agent.specs.Host.{begun_sessions, one_of, ids_at, unbound, total_at, lesser, headers_in, least_at, received_most, sparse, brings}
use Rattle.agent.specs.declared.judge.Start.{Start}
use Rattle.agent.specs.declared.turn.Frame.{Frame}
use Rattle.agent.specs.declared.turn.Ran.{Ran}
use Rattle.agent.specs.declared.turn.Taken.{Taken}
use Rattle.agent.proofs.Acknacks.{read_says_lem, next, headers_end, headers_more, headers_read, one_at, ids_read, is_bound}
use Rattle.agent.proofs.Written.{none_part}
use Rattle.std.specs.Prelude.{Err, None, Ok, Option, Result, Some}
use Rattle.moves.specs.declared.proxy.BridgeAnswer.{BridgeAnswer}
use Rattle.sessions.specs.declared.objects.Handle.{Handle}
use Rattle.codec.specs.declared.refusals.Refusal.{Refusal}
use Rattle.moves.specs.declared.proxy.Task.{Task}

-- ---- the least total

-- the lesser of two, as both are met
pub record Lesser (a b : ℕ) : Type 0 where
  pub first : lesser a b ≤ a
  pub second : lesser a b ≤ b
  pub most : (c : ℕ) → c ≤ a → c ≤ b → c ≤ lesser a b

pub lesser_is : (a b : ℕ) → Lesser a b
lesser_is a b = go (ltb b a) refl
  where
    go : (e : Bool) → ltb b a ≡ e → Lesser a b
    go true e =
        let h = ltb-true b a e in
        let z : lesser a b ≡ b = ap (λ (c : Bool). cond c b a) e in
        record { first = omega (arith, h, z); second = omega (arith, z); most = λ c p q. omega (arith, q, z) }
    go false e =
        let h = ltb-false b a e in
        let z : lesser a b ≡ a = ap (λ (c : Bool). cond c b a) e in
        record { first = omega (arith, z); second = omega (arith, h, z); most = λ c p q. omega (arith, p, z) }

-- the code's answer for two
pub lesser_first : (a b : ℕ) → a ≤ b → a ≡ lesser a b
lesser_first a b h = sym (ap (λ (c : Bool). cond c b a) (le-ltb b a h))

pub lesser_min : (a b c : ℕ) → c ≡ min a b → c ≡ lesser a b
lesser_min a b c e =
    let l = lesser_is a b in
    let h = l.most c (omega (arith, e)) (omega (arith, e)) in
    let p = l.first in
    let q = l.second in
    omega (arith, e, h, p, q)

pub lesser_few : (a b c : ℕ) → c ≡ lesser a b → a ≤ 65536 → c ≤ 65536
lesser_few a b c e h = let l = (lesser_is a b).first in omega (arith, e, h, l)

lesser_both : (a b c : ℕ) → lesser (lesser a b) c ≡ lesser a (lesser b c)
lesser_both a b c =
    let x = lesser_is a b in
    let y = lesser_is (lesser a b) c in
    let z = lesser_is b c in
    let w = lesser_is a (lesser b c) in
    let p = x.first in
    let q = x.second in
    let r = y.first in
    let s = y.second in
    let t = z.first in
    let u = z.second in
    let v = w.first in
    let o = w.second in
    let k = w.most (lesser (lesser a b) c) (omega (arith, p, r)) (z.most (lesser (lesser a b) c) (omega (arith, q, r)) s) in
    let l = y.most (lesser a (lesser b c)) (x.most (lesser a (lesser b c)) v (omega (arith, o, t))) (omega (arith, o, u)) in
    omega (arith, k, l)

module _ (d : List ℕ) where
  -- the lesser of one's total and what is behind it
  abbrev least : ℕ → ℕ → ℕ
  least at n = lesser (total_at d at) n

  -- where a submessage is read, it is at most that one's and at most the least behind it
  least_read : (at : ℕ) (m : Submessage) (x : Span) (c : Cursor) → read_at d at ≡ Ok (m, x, c) → (least_at d at ≤ total_at d at) × (least_at d at ≤ least_at d c.at)
  least_read at m x c e =
      let l = headers_read least 65536 d at m x c e in
      let z = lesser_is (total_at d at) (least_at d c.at) in
      let a = z.first in
      let b = z.second in
      (omega (arith, l, a), omega (arith, l, b))

  -- the loop: the least so far and the least from here on are the least of all
  module _ (from at n : ℕ) (all : lesser n (least_at d at) ≡ least_at d from) where
    pub least_again : at + 4 ≤ length d → (k : ℕ) → k ≡ total_at d at → (j : ℕ) → j ≡ lesser n k → (l : ℕ) → l ≡ word_at d (at + 2) → lesser j (least_at d (at + 4 + l)) ≡ least_at d from
    least_again h k q j r l e =
        (λ i. lesser (r i) (least_at d (at + 4 + e i))) ∙ ap (λ (m : ℕ). lesser (lesser n m) (least_at d (next d at))) q
        ∙ lesser_both n (total_at d at) (least_at d (next d at)) ∙ (ap (lesser n) (sym (headers_more least 65536 d at h)) ∙ all)

    pub least_done : length d < at + 4 → n ≤ 65536 → n ≡ least_at d from
    least_done h few = lesser_first n 65536 few ∙ (ap (lesser n) (sym (headers_end least 65536 d at h)) ∙ all)

  few : (n at : ℕ) → headers_in least 65536 n d at ≤ 65536
  unfolding headers_in
  few zero at = omega arith
  few (suc n) at = go (ltb (length d) (at + 4)) (few n (next d at))
    where
      rest : ℕ
      rest = headers_in least 65536 n d (next d at)

      go : (b : Bool) → rest ≤ 65536 → cond b 65536 (lesser (total_at d at) rest) ≤ 65536
      go true h = omega arith
      go false h = let z = (lesser_is (total_at d at) rest).second in omega (arith, h, z)

  -- before the loop
  pub least_all : (from : ℕ) → lesser 65536 (least_at d from) ≡ least_at d from
  least_all from =
      let h = few (length d - from) from in
      let z = lesser_is 65536 (least_at d from) in
      let a = z.second in
      let b = z.most (least_at d from) h (omega arith) in
      omega (arith, a, b)

-- the total at a place
total_by : (d : List ℕ) (at : ℕ) (a b : Bool) → eqb (get_or d at 0) 0x0F ≡ a → ltb (length d) (at + 8) ≡ b → cond a (cond b 0 (word_at d (at + 6))) 65536 ≡ total_at d at
total_by d at a b p q = λ i. cond (sym p i) (cond (sym q i) 0 (word_at d (at + 6))) 65536

-- a FRAGMENT that is read says its total
abbrev total_in : Result (Submessage × Span × Cursor) Refusal → ℕ
total_in (Ok (m, x, c)) = (asks_of m).second
total_in (Err r) = 0

module _ (d : List ℕ) (at : ℕ) (p : FragmentPayload) (x : Span) (c : Cursor) (e : read_at d at ≡ Ok ((sub.Fragment p), x, c)) where
  own_id : get_or d at 0 ≡ 0x0F
  own_id = (read_says_lem d at (sub.Fragment p) x c e).own

  abbrev len : ℕ
  len = word_at d (at + 2)

  within : at + 4 + len ≤ length d
  within =
      let k = read_says_lem d at (sub.Fragment p) x c e in
      let n = k.next in
      let w = k.within in
      omega (arith, n, w)

  laid : (4 ≤ len) × (p.total_fragments ≡ word_at d (at + 4 + 2))
  unfolding payload_at least_of layout_at
  laid = go (ltb (length d) (at + 4 + len)) (ltb len 4) refl (sym (read_payload d at 0x0F len (let w = within in omega (arith, w)) own_id refl) ∙ e)
    where
      go : (a b : Bool) → ltb len 4 ≡ b
          → cond a (Err BufferTooShort) (cond b (Err PayloadLengthMismatch) (bodied_at (fragment_at d (at + 4)) 4 (at + 4) len)) ≡ Ok ((sub.Fragment p), x, c)
          → (4 ≤ len) × (p.total_fragments ≡ word_at d (at + 4 + 2))
      go true b q z = let n : ◌≡◌ {A = ℕ} 0 1 = cc in absurd (omega (arith, n))
      go false true q z = let n : ◌≡◌ {A = ℕ} 0 1 = cc in absurd (omega (arith, n))
      go false false q z = (ltb-false len 4 q, sym (ap total_in z))

  total_read : total_at d at ≡ p.total_fragments
  total_read =
      let w = within in
      let l = laid.0 in
      let n : at + 4 + 2 ≡ at + 6 = omega arith in
      sym (total_by d at true false (eq-eqb (get_or d at 0) 0x0F own_id) (le-ltb (length d) (at + 8) (omega (arith, w, l)))) ∙ (ap (word_at d) (sym n) ∙ sym laid.1)

-- ---- what a session has received

module _ (id : ℕ) where
  abbrev pub received : List (List ℕ) → ℕ
  received s = (session_at s id).received

  -- by so much more at most
  abbrev Grows : ℕ → List (List ℕ) → List (List ℕ) → Type 0
  Grows k s u = received u ≤ received s + k

  grows_same : (s : List (List ℕ)) → Grows 0 s s
  grows_same s = omega arith

  grows_row : (k : ℕ) (s : List (List ℕ)) (j : ℕ) (x : ClientSession) → x.received ≤ (session_at s j).received + k → Grows k s (keep_session s j x)
  grows_row k s j x h = go (eqb id j) refl (ltb j (length s)) refl
    where
      go : (a : Bool) → eqb id j ≡ a → (b : Bool) → ltb j (length s) ≡ b → Grows k s (keep_session s j x)
      go true e true l =
          subst (λ (i : ℕ). (session_at (keep_session s j x) i).received ≤ (session_at s i).received + k) (sym (eqb-true id j e))
          (let q = ap (λ (z : ClientSession). z.received) (kept_here s j x (ltb-true j (length s) l)) in omega (arith, q, h))
      go true e false l = let q = ap (λ (rows : List (List ℕ)). (session_at rows id).received) (set_out s j (row_of x) (ltb-false j (length s) l)) in omega (arith, q)
      go false e b l = let q = ap (λ (z : ClientSession). z.received) (kept_elsewhere s j x id (eqb-false id j e)) in omega (arith, q)

  kept_row : (s : List (List ℕ)) (x : ClientSession) → x.received ≡ received s → Grows 0 s (keep_session s id x)
  kept_row s x e = grows_row 0 s id x (omega (arith, e))

  -- nothing but a FRAGMENT counts
  touched_grows : (s : List (List ℕ)) (time : ℕ) → Grows 0 s (touched_rows s id time)
  unfolding touched_rows
  touched_grows s time = go (named_of s id)
    where
      go : (w : Result Bool Refusal) → Grows 0 s (kept_rows w s id (touched_session (session_at s id) time))
      go (Ok true) = kept_row s (touched_session (session_at s id) time) refl
      go (Ok false) = grows_same s
      go (Err r) = grows_same s

  stored_grows : (s : List (List ℕ)) (r : Result Stored Refusal) → Grows 0 s (keep_stored s id r)
  stored_grows s (Ok (stored.Count n)) = kept_row s (counted_session (session_at s id) n) refl
  stored_grows s (Ok stored.Full) = grows_same s
  stored_grows s (Ok stored.NotLive) = grows_same s
  stored_grows s (Err r) = grows_same s

  removed_grows : (s : List (List ℕ)) (x : Result Removed Refusal) → Grows 0 s (keep_removed s id x)
  removed_grows s (Ok (removed.Gone o)) = kept_row s (counted_session (session_at s id) (used_of s id - 1)) refl
  removed_grows s (Ok removed.Depended) = grows_same s
  removed_grows s (Ok removed.Nothing) = grows_same s
  removed_grows s (Err r) = grows_same s

  stream_grows : (s x : List (List ℕ)) (n : ℕ) → Grows 0 s (opened_sessions s x id n)
  unfolding stream_place
  stream_grows s x n = go (streams_named s (length x) id)
    where
      used : ℕ
      used = streams_used s id

      go : (w : Result Bool Refusal) → Grows 0 s (opened_count (place_by w s x id n) s id)
      go (Ok true) =
          either (λ p. Grows 0 s (opened_count p s id)) (ltb (first_from (is_stream x (first_stream id) n) used 0) used) _ _ (λ _. grows_same s) (λ _.
          either (λ p. Grows 0 s (opened_count p s id)) (leb 8 used) _ _ (λ _. grows_same s) (λ _. kept_row s (streamed_session (session_at s id) (used + 1)) refl))
      go (Ok false) = grows_same s
      go (Err r) = grows_same s

  created_grows : (k : ObjectKind) (s : List (List ℕ)) (o : List Object) (n : ObjectNumber) (p : ℕ) → Grows 0 s (created_sessions k s o id n p)
  created_grows Participant s o n p = grows_same s
  created_grows Topic s o n p = grows_same s
  created_grows Publisher s o n p = stored_grows s (stored_object s o id (implicit_of n 3 p))
  created_grows Subscriber s o n p = stored_grows s (stored_object s o id (implicit_of n 4 p))
  created_grows DataWriter s o n p = grows_same s
  created_grows DataReader s o n p = grows_same s

  room_grows : (r : Result Room Refusal) (s : List (List ℕ)) (o : List Object) (n : ObjectNumber) (k : ObjectKind) (p : ℕ) → Grows 0 s (room_sessions r s o id n k p)
  room_grows (Ok room.Free) s o n k p = created_grows k s o n p
  room_grows (Ok room.Full) s o n k p = grows_same s
  room_grows (Ok room.Depended) s o n k p = grows_same s
  room_grows (Ok room.NotLive) s o n k p = grows_same s
  room_grows (Err x) s o n k p = grows_same s

  read_grows : (h : Option Handle) (s x : List (List ℕ)) (n : ℕ) → Grows 0 s (read_sessions h s x id n)
  read_grows (Some h) s x n = go (eqb n 0)
    where
      go : (b : Bool) → Grows 0 s (cond b s (opened_sessions s x id n))
      go true = grows_same s
      go false = stream_grows s x n
  read_grows None s x n = grows_same s

  handled_grows : (g : Group) (q : Asked) (t : Rows) (n : ℕ) → Grows 0 t.sessions (handled_in g q t id n).sessions
  handled_grows Creates q t n = room_grows (room_of t.sessions t.objects id q.number) t.sessions t.objects q.number q.kind q.parent
  handled_grows Deletes q t n = removed_grows t.sessions (taken_object t.sessions t.objects id q.number)
  handled_grows Writes q t n = grows_same t.sessions
  handled_grows Reads q t n = read_grows (found_handle (found_object t.sessions t.objects id q.number)) t.sessions t.streams n
  handled_grows Streams q t n = stream_grows t.sessions t.streams n
  handled_grows Neither q t n = grows_same t.sessions

  -- a session begins with none
  create_grows : (c : Result (ℕ × ℕ) Refusal) (t : Tables) (key time : ℕ) → Grows 0 t.sessions (create_tables c t key time).sessions
  create_grows (Ok (j, next)) t key time = grows_row 0 t.sessions j (new_session key time (free_slot t.sessions)) (omega arith)
  create_grows (Err r) t key time = grows_same t.sessions

begun_grows : (x : Option (ObjectNumber × Task × BridgeAnswer)) (s : List (List ℕ)) (o : List Object) (f : Frame) → Grows f.session_id 0 s (begun_sessions x s o f)
begun_grows None s o f = grows_same f.session_id s
begun_grows (Some (number, task, a)) s o f = go (got_of s f.session_id) (keeps_of number task a)
  where
    go : (g : Result (Option ClientSession) Refusal) (k : Option Object) → Grows f.session_id 0 s (answered_sessions g k s o f.session_id)
    go (Ok (Some y)) (Some z) = stored_grows f.session_id s (stored_object s o f.session_id z)
    go (Ok (Some y)) None = grows_same f.session_id s
    go (Ok None) k = grows_same f.session_id s
    go (Err r) k = grows_same f.session_id s

-- ---- a FRAGMENT, over its session's store: it counts one more at most, and completes nothing where one more isn't its total

-- the store that it leaves
abbrev Counts : ReassemblyBuffer → Result (ReassemblyBuffer × Bool) Refusal → Type 0
Counts b (Ok (after, all)) =
    (after.received_count ≤ b.received_count + 1) × (after.total_fragments ≡ b.total_fragments) × (all ≡ eqb after.received_count after.total_fragments)
Counts b (Err r) = Unit {0}

grown_few : (n held : ℕ) → grown n held ≤ n + 1
unfolding grown
grown_few n held = go (is_free held)
  where
    go : (b : Bool) → cond b (n + 1) n ≤ n + 1
    go true = omega arith
    go false = omega arith

insert_counts : (b : ReassemblyBuffer) (slots lengths : List ℕ) (nr : ℕ) (body : List ℕ) → Counts b (insert_of b slots lengths nr body)
unfolding insert_of insert_check_of insert_check
insert_counts b slots lengths nr body =
    let held = get_or lengths nr 0 in
    let answer = Ok ((recounted b held), (eqb (grown b.received_count held) b.total_fragments)) in
    either (λ k. Counts b (inserted_if k answer)) (store_over b (length slots) (length lengths)) _ _ (λ _. tt) (λ _.
    either (λ k. Counts b (inserted_if k answer)) (ltb nr b.total_fragments) _ _ (λ _.
    either (λ k. Counts b (inserted_if k answer)) (slot_over b held) _ _ (λ _. tt) (λ _.
    either (λ k. Counts b (inserted_if k answer)) (ltb b.width (length body)) _ _ (λ _. tt) (λ _. (grown_few b.received_count held, refl, refl)))) (λ _. tt))

module _ (s : ClientSession) (total : ℕ) where
  abbrev Adds : Gathered → Type 0
  Adds g = ((gathered_session s g).received ≤ s.received + 1) × (s.received + 1 < total → whole_len g ≡ 0)

  none_added : Adds gathers.Nothing
  none_added = (omega arith, λ _. refl)

  module _ (b : ReassemblyBuffer) (few : b.received_count ≤ s.received) (its : b.total_fragments ≡ total) (parts lengths rebuilt : List ℕ) where
    held_added : (after : ReassemblyBuffer) → after.received_count ≤ b.received_count + 1 → Adds (gathers.Held after)
    held_added after h = (omega (arith, h, few), λ _. refl)

    assembled_added : (after : ReassemblyBuffer) → after.received_count ≤ b.received_count + 1 → after.received_count ≡ total → (w : Result ℕ Refusal) → Adds (assembled_as w after)
    assembled_added after h e (Ok n) = (omega arith, λ l. absurd (omega (arith, h, few, e, l)))
    assembled_added after h e (Err r) = held_added after h

    insert_added : (i : Result (ReassemblyBuffer × Bool) Refusal) → Counts b i → Adds (gathered_by i parts lengths rebuilt)
    insert_added (Ok (after, true)) k =
        assembled_added after k.0 (eqb-true after.received_count after.total_fragments (sym k.2) ∙ (k.1 ∙ its)) (assemble_of after parts lengths rebuilt)
    insert_added (Ok (after, false)) k = held_added after k.0
    insert_added (Err r) k = none_added

  store_added : (b : ReassemblyBuffer) → b.received_count ≤ s.received → b.total_fragments ≡ total → (parts lengths rebuilt : List ℕ) (nr : ℕ) (body : List ℕ)
      → Adds (gathered_with (Ok b) parts lengths rebuilt nr body)
  store_added b few its parts lengths rebuilt nr body =
      insert_added b few its (insert_slots b parts lengths nr body) (insert_lengths b parts lengths nr body) rebuilt (insert_of b parts lengths nr body) (insert_counts b parts lengths nr body)

  in_added : (parts lengths rebuilt : List ℕ) (nr : ℕ) (body : List ℕ) → Adds (gathered_in s parts lengths rebuilt nr total body)
  unfolding gathered_in store_for new_of
  in_added parts lengths rebuilt nr body = go (eqb s.total total) (leb s.received 64) (under_need total 512 (length parts) (length lengths))
    where
      entries : List ℕ
      entries = lengths_for s total parts lengths

      go : (same low short : Bool)
          → Adds
          (gathered_with
          (cond same (cond low (Ok (buffer_with total s.received)) (Err OverLimit)) (cond short (Err OverLimit) (Ok (buffer_with total 0))))
          parts entries rebuilt nr body)
      go true true short = store_added (buffer_with total s.received) (omega arith) refl parts entries rebuilt nr body
      go true false short = none_added
      go false low true = none_added
      go false low false = store_added (buffer_with total 0) (omega arith) refl parts entries rebuilt nr body

module _ (id : ℕ) (s : List (List ℕ)) (parts lengths rebuilt : List ℕ) (nr total : ℕ) (body : List ℕ) where
  gathered_added : Adds (session_at s id) total (gathered s parts lengths rebuilt id nr total body)
  unfolding gathered
  gathered_added = go (takes s id nr total (length body))
    where
      go : (b : Bool) → Adds (session_at s id) total (cond b (gathered_in (session_at s id) (own_parts s parts id) (own_lengths s lengths id) rebuilt nr total body) gathers.Nothing)
      go true = in_added (session_at s id) total (own_parts s parts id) (own_lengths s lengths id) rebuilt nr body
      go false = none_added (session_at s id) total

  gathered_grows : Grows id 1 s (gathered_rows s parts lengths rebuilt id nr total body)
  unfolding gathered_rows
  gathered_grows = go (takes s id nr total (length body))
    where
      g : Gathered
      g = gathered s parts lengths rebuilt id nr total body

      go : (b : Bool) → Grows id 1 s (cond b (keep_session s id (gathered_session (session_at s id) g)) s)
      go true = grows_row id 1 s id (gathered_session (session_at s id) g) gathered_added.0
      go false = omega arith

-- ---- a submessage of a run

module _ (f : Frame) (d : List ℕ) where
  abbrev mine : ℕ
  mine = f.session_id

  -- k: 1 for a FRAGMENT, 0 for any other
  record Goes (k : ℕ) (t : Tables) (x : Turned) : Type 0 where
    more : received mine x.tables.sessions ≤ received mine t.sessions + k
    silent : 1 ≤ k → x.replies ≡ []

  fragment_goes : (t : Tables) (r : Ran) (x : Taken) → received mine t.sessions + 1 < x.asked.second → Goes 1 t (fragment_turned f t d r x)
  unfolding fragment_turned
  fragment_goes t r x low =
      subst (λ (n : ℕ). Goes 1 t (whole_turned f v n r x.at)) (sym zero_long)
      (subst (λ (y : Result ℕ Refusal). Goes 1 t (with_acted v (left_by y f v.held (rebuilt_part v.rebuilt 0) 0 r x.at (rows_of v))))
      (whole_none (rebuilt_part v.rebuilt 0) (ap length (none_part v.rebuilt)))
      (record { more = omega (arith, touched, grows); silent = λ _. refl }))
    where
      u : Tables
      u = touched_tables f t

      v : Tables
      v = gather_tables u mine x.asked.first x.asked.second (part_of d x.body)

      touched : received mine u.sessions ≤ received mine t.sessions + 0
      touched = touched_grows mine t.sessions f.moment.time

      grows : received mine v.sessions ≤ received mine u.sessions + 1
      grows = gathered_grows mine u.sessions u.parts u.lengths u.rebuilt x.asked.first x.asked.second (part_of d x.body)

      zero_long : whole_len (gathered u.sessions u.parts u.lengths u.rebuilt mine x.asked.first x.asked.second (part_of d x.body)) ≡ 0
      zero_long = (gathered_added mine u.sessions u.parts u.lengths u.rebuilt x.asked.first x.asked.second (part_of d x.body)).1 (omega (arith, touched, low))

  delivered_grows : (w : Result Bool Refusal) (t : Rows) (h : List ℕ) (r : Ran) (x : Taken) → Grows mine 0 t.sessions (delivered w f t h d r x).rows.sessions
  delivered_grows (Ok true) t h r x =
      let a = touched_grows mine t.sessions f.moment.time in
      let b = handled_grows mine x.asked.group x.asked (touched_in f t) f.stream_id in
      omega (arith, a, b)
  delivered_grows (Ok false) t h r x = touched_grows mine t.sessions f.moment.time
  delivered_grows (Err y) t h r x = touched_grows mine t.sessions f.moment.time

  module _ (t : Tables) (r : Ran) (z : Span) (c : Cursor) where
    abbrev took : Submessage → Taken
    took m = taken_of (Ok (m, z, c)) (length d)

    opening_goes : (m : Submessage) → Goes 0 t (sub_turned Client f t d r (took m))
    opening_goes m =
        let c = created_of t.sessions t.streams f.max_clients r.next in
        record { more = create_grows mine c t (asks_of m).key f.moment.time; silent = λ h. absurd (omega (arith, h)) }

    other_goes : (m : Submessage) → Goes 0 t (sub_turned Other f t d r (took m))
    other_goes m = record { more = delivered_grows (named_of t.sessions mine) (rows_of t) t.held r (took m); silent = λ h. absurd (omega (arith, h)) }

    sub_goes : (m : Submessage) → (one_of 0x0F (id_of m) ≡ 1 → received mine t.sessions + 1 < (asks_of m).second)
        → Goes (one_of 0x0F (id_of m)) t (sub_turned (asks_of m).opening f t d r (took m))
    sub_goes (sub.CreateClient p) low = opening_goes (sub.CreateClient p)
    sub_goes (sub.Create p) low = other_goes (sub.Create p)
    sub_goes (sub.Delete p) low = other_goes (sub.Delete p)
    sub_goes (sub.Status p) low = other_goes (sub.Status p)
    sub_goes (sub.WriteData p) low = other_goes (sub.WriteData p)
    sub_goes (sub.ReadData p) low = other_goes (sub.ReadData p)
    sub_goes (sub.Data p) low = other_goes (sub.Data p)
    sub_goes (sub.Heartbeat p) low = other_goes (sub.Heartbeat p)
    sub_goes (sub.Acknack p) low = other_goes (sub.Acknack p)
    sub_goes (sub.Fragment p) low = fragment_goes t r (took (sub.Fragment p)) (low refl)

  -- from a place on no FRAGMENT completes its message
  abbrev pub Sparse : List (List ℕ) → ℕ → Type 0
  Sparse s at = 0 < ids_at 0x0F d at → received mine s + ids_at 0x0F d at < least_at d at

  module _ (at : ℕ) (m : Submessage) (z : Span) (c : Cursor) (e : read_at d at ≡ Ok (m, z, c)) where
    -- nor does the first
    first_sparse : (s : List (List ℕ)) → Sparse s at → one_of 0x0F (id_of m) ≡ 1 → received mine s + 1 < (asks_of m).second
    first_sparse s q one = total_of m e one
      where
        total_of : (m : Submessage) → read_at d at ≡ Ok (m, z, c) → one_of 0x0F (id_of m) ≡ 1 → received mine s + 1 < (asks_of m).second
        total_of (sub.Fragment p) k o =
            let i = ids_read 0x0F d at (sub.Fragment p) z c k in
            let w : one_at 0x0F d at ≡ 1 = ap (one_of 0x0F) (own_id d at p z c k) in
            let l = (least_read d at (sub.Fragment p) z c k).0 in
            let n = total_read d at p z c k in
            let b = q (omega (arith, i, w)) in
            omega (arith, i, w, l, n, b)
        total_of (sub.CreateClient p) k o = absurd (omega (arith, o))
        total_of (sub.Create p) k o = absurd (omega (arith, o))
        total_of (sub.Delete p) k o = absurd (omega (arith, o))
        total_of (sub.Status p) k o = absurd (omega (arith, o))
        total_of (sub.WriteData p) k o = absurd (omega (arith, o))
        total_of (sub.ReadData p) k o = absurd (omega (arith, o))
        total_of (sub.Data p) k o = absurd (omega (arith, o))
        total_of (sub.Heartbeat p) k o = absurd (omega (arith, o))
        total_of (sub.Acknack p) k o = absurd (omega (arith, o))

    next_sparse : (s u : List (List ℕ)) → Sparse s at → received mine u ≤ received mine s + one_at 0x0F d at → Sparse u c.at
    next_sparse s u q g some =
        let i = ids_read 0x0F d at m z c e in
        let l = (least_read d at m z c e).1 in
        let b = q (omega (arith, i, some)) in
        omega (arith, i, l, b, g)

  -- the turn of a run: what is behind it is sparse again, and a FRAGMENT is silent
  module _ (t : Tables) (r : Ran) (m : Submessage) (z : Span) (c : Cursor) (e : read_at d r.at ≡ Ok (m, z, c)) (q : Sparse t.sessions r.at) where
    turned_goes : Goes (one_at 0x0F d r.at) t (turned f t d r)
    unfolding turned
    turned_goes =
        rw e
        (subst (λ (id : ℕ). Goes (one_of 0x0F id) t (sub_turned (asks_of m).opening f t d r (took t r z c m))) (sym (read_says_lem d r.at m z c e).own)
        (sub_goes t r z c m (first_sparse r.at m z c e t.sessions q)))

    pub turned_sparse : Sparse (turned f t d r).tables.sessions c.at
    turned_sparse = next_sparse r.at m z c e t.sessions (turned f t d r).tables.sessions q turned_goes.more

    pub turned_silent : 1 ≤ one_at 0x0F d r.at → (turned f t d r).replies ≡ []
    turned_silent = turned_goes.silent

  -- with no more received it stays sparse
  fewer_sparse : (at : ℕ) (s u : List (List ℕ)) → Sparse s at → received mine u ≤ received mine s + 0 → Sparse u at
  fewer_sparse at s u q g some = let b = q some in omega (arith, b, g)

-- ---- a whole call

module _ (x : Start) (s : List (List ℕ)) (d : List ℕ) where
  abbrev count : ℕ
  count = ids_at 0x0F d x.at

  abbrev holds : ℕ
  holds = received x.frame.session_id s

  sparse_by : (a b : Bool) → eqb count 0 ≡ a → ltb (received_most x s d) (least_at d x.at) ≡ b → cond a true b ≡ sparse x s d
  sparse_by a b p q = λ i. cond (sym p i) true (sym q i)

  sparse_at : sparse x s d ≡ true → Sparse x.frame d s x.at
  sparse_at e = go (eqb count 0) refl e
    where
      go : (b : Bool) → eqb count 0 ≡ b → cond b true (ltb (received_most x s d) (least_at d x.at)) ≡ true → Sparse x.frame d s x.at
      go true q z = λ some. let n = eqb-true count 0 q in absurd (omega (arith, n, some))
      go false q z = λ _. let h = ltb-true (received_most x s d) (least_at d x.at) z in omega (arith, h)

  -- behind the answer's part too
  pub begun_sparse : (o : List Object) → sparse x s d ≡ true → Sparse x.frame d (begun_sessions x.resumes s o x.frame) x.at
  begun_sparse o e = fewer_sparse x.frame d x.at s (begun_sessions x.resumes s o x.frame) (sparse_at e) (begun_grows x.resumes s o x.frame)

  pub none_sparse : count ≡ 0 → true ≡ sparse x s d
  none_sparse e = sparse_by true _ (eq-eqb count 0 e) refl

  brings_by : (a b : Bool) → eqb x.left_at x.left_end ≡ a → sparse x s d ≡ b → cond a (not b) true ≡ brings x s d
  brings_by a b p q = λ i. cond (sym p i) (not (sym q i)) true

  -- what has a bound brings none
  pub bound_brings : unbound x d ≡ false → brings x s d ≡ false
  bound_brings e = let z = is_bound x d e in sym (brings_by true true (eq-eqb x.left_at x.left_end z.0) (sym (none_sparse z.1)))

  pub brings_none : brings x s d ≡ false → (x.left_at ≡ x.left_end) × (sparse x s d ≡ true)
  brings_none e = go (eqb x.left_at x.left_end) (sparse x s d) refl refl e
    where
      go : (a b : Bool) → eqb x.left_at x.left_end ≡ a → sparse x s d ≡ b → cond a (not b) true ≡ false → (x.left_at ≡ x.left_end) × (sparse x s d ≡ true)
      go true true p q z = (eqb-true x.left_at x.left_end p, q)
      go true false p q z = let n : ◌≡◌ {A = ℕ} 0 1 = cc in absurd (omega (arith, n))
      go false b p q z = let n : ◌≡◌ {A = ℕ} 0 1 = cc in absurd (omega (arith, n))
