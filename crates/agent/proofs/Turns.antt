-- One submessage of a run: how far it takes the place on, and how much is replied to it at most; and all rebuilt submessages (W6) behind a FRAGMENT.
use Prim.Native.Nat.{ℕ, zero, suc, ◌+◌, ◌-◌, ◌*◌, ◌≤◌, ◌<◌}
use mathlib.Core.Path.{◌≡◌, refl, sym, ap, ◌∙◌, subst}
use mathlib.Core.Bool.{Bool, true, false, cond, not}
use mathlib.Core.List.{List, [], ◌∷◌, ◌++◌, append-nil}
use native.Mathlib.Omega.{arith}
use borrow.Author.Tests.{eq-eqb, ltb-true}
use lib.Dec.{eqb, ltb}
use lib.ListN.{get_or, length}
use Rattle.codec.specs.Submessages.{id_of}
use Rattle.codec.specs.Reading.{read_at, part_of}
use Rattle.codec.specs.Rebuilt.{rebuilt_of}
use Rattle.codec.specs.declared.layouts.Cursor.{Cursor}
use Rattle.codec.specs.declared.layouts.Span.{Span}
use Rattle.codec.specs.declared.submessages.AcknackPayload.{AcknackPayload}
use Rattle.codec.specs.declared.submessages.HeartbeatPayload.{HeartbeatPayload}
use Rattle.codec.specs.declared.submessages.ObjectKind.{ObjectKind}
use Rattle.codec.specs.declared.submessages.ObjectKind.TheVariants as kind
use Rattle.codec.specs.declared.submessages.ObjectNumber.{ObjectNumber}
use Rattle.codec.specs.declared.submessages.StatusCode.TheVariants.{ErrResources}
use Rattle.codec.specs.declared.submessages.Submessage.{Submessage}
use Rattle.codec.specs.declared.submessages.Submessage.TheVariants as sub
use Rattle.sessions.specs.Opening.{created_of}
use Rattle.sessions.specs.Room.{room_of}
use Rattle.sessions.specs.SessionObjects.{found_object}
use Rattle.sessions.specs.Removal.{taken_object}
use Rattle.sessions.specs.Objects.{handle_of}
use Rattle.sessions.specs.Table.{named_of}
use Rattle.sessions.specs.Fragments.{gathered}
use Rattle.sessions.specs.Calls.{gather_tables}
use Rattle.sessions.specs.View.{Tables}
use Rattle.sessions.specs.declared.objects.Taken.{Taken as Removed}
use Rattle.sessions.specs.declared.objects.Taken.TheVariants as removed
use Rattle.sessions.specs.declared.objects.Object.{Object}
use Rattle.sessions.specs.declared.objects.Handle.{Handle}
use Rattle.sessions.specs.declared.room.Room.{Room}
use Rattle.sessions.specs.declared.room.Room.TheVariants as room
use Rattle.sessions.specs.declared.session_streams.StreamNamed.{StreamNamed}
use Rattle.sessions.specs.declared.session_streams.StreamNamed.TheVariants as stream
use Rattle.sessions.specs.declared.session_streams.StreamRead.{StreamRead}
use Rattle.sessions.proofs.AnyRows.{Numbered, read_number}
use Rattle.streams.specs.Places.{is_full}
use Rattle.streams.specs.declared.state.StreamState.{StreamState}
use Rattle.moves.specs.Moves.{found_handle, handle_of_kind, parent_of, topic_by, endpoint_for, write_by, read_call, read_on, dropped_move, delete_move, heartbeat_on, acknack_on, move_bytes}
use Rattle.moves.specs.Names.{names_in}
use Rattle.moves.specs.Rows.{Rows, asks_of, endpoint_in, create_move, room_move, handled_by, handled_move}
use Rattle.moves.specs.RowsStreams.{opened_sessions, opened_rows, read_of, stream_move, read_move}
use Rattle.agent.specs.Host.{one_of}
use Rattle.agent.specs.Lent.{rows_of, rebuilt_part}
use Rattle.agent.specs.Run.{Turned, Acted, counted, count_replies, greeting, greeting_bytes, id_opened, opening, passed, replies_by, touched_in, touched_tables, taken_of, delivered, inside_by, inside_turned, is_call, goes_on, work_in, work_at, entered_ran, left_by, whole_len, fragment_turned, sub_turned, turned_by, turned}
use Rattle.agent.specs.Step.{Reply, opened, replied, bytes_of, joined_replies}
use Rattle.moves.specs.declared.handle.Asked.{Asked}
use Rattle.moves.specs.declared.handle.Group.{Group}
use Rattle.moves.specs.declared.handle.Group.TheVariants.{Creates, Deletes, Writes, Reads, Streams, Neither}
use Rattle.moves.specs.declared.handle.Opening.{Opening}
use Rattle.moves.specs.declared.handle.Opening.TheVariants.{Client, Fragment, Other, Unread}
use Rattle.moves.specs.declared.moves.Move.{Move}
use Rattle.moves.specs.declared.moves.Move.TheVariants.{Greets, Status, Acknack, Repeats, Calls, Silent}
use Rattle.agent.specs.declared.turn.Frame.{Frame}
use Rattle.agent.specs.declared.turn.Ran.{Ran}
use Rattle.agent.specs.declared.turn.Taken.{Taken}
use Rattle.agent.proofs.Acknacks.{read_says_lem}
use Rattle.agent.proofs.MoveBytes.{move_long_lem}
use Rattle.agent.proofs.Repeated.{repeats_long}
use Rattle.agent.proofs.Loops.{Loop, whole_end, whole_more, whole_told}
use Rattle.std.specs.Prelude.{Err, None, Ok, Option, Result, Some}
use Rattle.codec.specs.declared.refusals.Refusal.{Refusal}

-- ---- only an ACKNACK on a stream other than 0 is answered by held messages

-- how many lists of them a move replies
abbrev repeating : Move → ℕ
repeating (Greets id code) = 0
repeating (Status number code) = 0
repeating (Acknack p) = 0
repeating (Repeats p) = 1
repeating (Calls number task call) = 0
repeating Silent = 0

abbrev Brief : Move → Type 0
Brief m = repeating m ≡ 0

topic_brief : (number : ObjectNumber) (parent : ℕ) (names : Option (Span × Span)) (h : Option Handle) → Brief (topic_by number parent names h)
topic_brief number parent (Some (name, type)) (Some p) = refl
topic_brief number parent None (Some p) = refl
topic_brief number parent names None = refl

endpoint_brief : (number : ObjectNumber) (k parent : ℕ) (h t : Option Handle) → Brief (endpoint_for number k parent h t)
endpoint_brief number k parent (Some p) (Some t) = refl
endpoint_brief number k parent (Some p) None = refl
endpoint_brief number k parent None t = refl

fetched_brief : (s : List (List ℕ)) (o : List Object) (id : ℕ) (number : ObjectNumber) (k parent : ℕ) → Brief (endpoint_in s o id number k parent)
fetched_brief s o id number k parent =
    let topic = found_object s o id (record { 0 = parent }) in endpoint_brief number k parent (handle_of_kind (found_object s o id (parent_of topic)) 1) (handle_of_kind topic 2)

create_brief : (k : ObjectKind) (s : List (List ℕ)) (o : List Object) (d : List ℕ) (id : ℕ) (number : ObjectNumber) (parent : ℕ) (body : Span) → Brief (create_move k s o d id number parent body)
create_brief kind.Participant s o d id number parent body = refl
create_brief kind.Topic s o d id number parent body = topic_brief number parent (names_in d body) (found_handle (found_object s o id (record { 0 = parent })))
create_brief kind.Publisher s o d id number parent body = refl
create_brief kind.Subscriber s o d id number parent body = refl
create_brief kind.DataWriter s o d id number parent body = fetched_brief s o id number 5 parent
create_brief kind.DataReader s o d id number parent body = fetched_brief s o id number 6 parent

room_brief : (x : Result Room Refusal) (s : List (List ℕ)) (o : List Object) (d : List ℕ) (id : ℕ) (number : ObjectNumber) (k : ObjectKind) (parent : ℕ) (body : Span) → Brief (room_move x s o d id number k parent body)
room_brief (Ok room.Free) s o d id number k parent body = create_brief k s o d id number parent body
room_brief (Ok room.Full) s o d id number k parent body = refl
room_brief (Ok room.Depended) s o d id number k parent body = refl
room_brief (Ok room.NotLive) s o d id number k parent body = refl
room_brief (Err r) s o d id number k parent body = refl

dropped_brief : (number : ObjectNumber) (h : Option Handle) → Brief (dropped_move number h)
dropped_brief number (Some h) = refl
dropped_brief number None = refl

delete_brief : (number : ObjectNumber) (x : Result Removed Refusal) → Brief (delete_move number x)
delete_brief number (Ok (removed.Gone o)) = dropped_brief number (handle_of o)
delete_brief number (Ok removed.Depended) = refl
delete_brief number (Ok removed.Nothing) = refl
delete_brief number (Err r) = refl

write_brief : (is_open : Bool) (number : ObjectNumber) (body : Span) (h : Option Handle) → Brief (write_by is_open number body h)
write_brief true number body (Some w) = refl
write_brief false number body (Some w) = refl
write_brief is_open number body None = refl

full_brief : (b : Bool) (number : ObjectNumber) (h : Handle) → Brief (cond b (Status number ErrResources) (read_call number h))
full_brief true number h = refl
full_brief false number h = refl

read_on_brief : (a : Result StreamNamed Refusal) (s : StreamState) (number : ObjectNumber) (h : Handle) → Brief (read_on a s number h)
read_on_brief (Ok stream.Open) s number h = full_brief (is_full s) number h
read_on_brief (Ok stream.NotOpen) s number h = refl
read_on_brief (Ok stream.NotLive) s number h = refl
read_on_brief (Err r) s number h = refl

read_from_brief : (b : Bool) (r : StreamRead) (number : ObjectNumber) (h : Handle) → Brief (cond b (read_call number h) (read_on r.answer r.state number h))
read_from_brief true r number h = refl
read_from_brief false r number h = read_on_brief r.answer r.state number h

read_brief : (number : ObjectNumber) (h : Option Handle) (s x : List (List ℕ)) (id n : ℕ) → Brief (read_move number h s x id n)
read_brief number (Some h) s x id n = read_from_brief (eqb n 0) (read_of (opened_sessions s x id n) (opened_rows s x id n) id n) number h
read_brief number None s x id n = refl

heartbeat_brief : (a : Result StreamNamed Refusal) (s : StreamState) (p : HeartbeatPayload) → Brief (heartbeat_on a s p)
heartbeat_brief (Ok stream.Open) s p = refl
heartbeat_brief (Ok stream.NotOpen) s p = refl
heartbeat_brief (Ok stream.NotLive) s p = refl
heartbeat_brief (Err r) s p = refl

-- at most one list, and none on stream 0
abbrev Few : ℕ → ℕ → Move → Type 0
Few n most m = (repeating m ≤ most) × (n ≡ 0 → Brief m)

brief_few : (n most : ℕ) (m : Move) → Brief m → Few n most m
brief_few n most m b = (omega (arith, b), λ _. b)

unless_few : (b : Bool) (n : ℕ) (p : AcknackPayload) → (n ≡ 0 → b ≡ true) → Few n 1 (cond b Silent (Repeats p))
unless_few true n p h = brief_few n 1 Silent refl
unless_few false n p h = (omega arith, λ z. let e = h z in let q : ◌≡◌ {A = ℕ} 0 1 = cc in absurd (omega arith))

acknack_few : (n : ℕ) (a : Result StreamNamed Refusal) (s : StreamState) (p : AcknackPayload) → Numbered n a s → Few n 1 (acknack_on a s p)
acknack_few n (Ok stream.Open) s p own = unless_few (eqb s.stream_id 0) n p (λ z. eq-eqb s.stream_id 0 (own ∙ z))
acknack_few n (Ok stream.NotOpen) s p own = brief_few n 1 Silent refl
acknack_few n (Ok stream.NotLive) s p own = brief_few n 1 Silent refl
acknack_few n (Err r) s p own = brief_few n 1 Silent refl

stream_few : (hears : Bool) (first second n : ℕ) (r : StreamRead) → Numbered n r.answer r.state → Few n (cond (not hears) 1 0) (stream_move hears first second r)
stream_few true first second n r own =
    brief_few n 0 (stream_move true first second r) (heartbeat_brief r.answer r.state (record { first_unacked_seq = first; last_seq = second }))
stream_few false first second n r own = acknack_few n r.answer r.state (record { first_unacked_seq = first; nack_bitmap = second }) own

-- the group and the direction tell which submessage is an ACKNACK, and so does its id
abbrev lists : Group → Bool → ℕ
lists Creates hears = 0
lists Deletes hears = 0
lists Writes hears = 0
lists Reads hears = 0
lists Streams hears = cond (not hears) 1 0
lists Neither hears = 0

abbrev lists_of : Asked → ℕ
lists_of q = lists q.group q.hears

lists_own : (m : Submessage) → lists_of (asks_of m) ≡ one_of 0x0E (id_of m)
lists_own (sub.CreateClient p) = refl
lists_own (sub.Create p) = refl
lists_own (sub.Delete p) = refl
lists_own (sub.Status p) = refl
lists_own (sub.WriteData p) = refl
lists_own (sub.ReadData p) = refl
lists_own (sub.Data p) = refl
lists_own (sub.Heartbeat p) = refl
lists_own (sub.Acknack p) = refl
lists_own (sub.Fragment p) = refl

handled_few : (is_open : Bool) (g : Group) (q : Asked) (t : Rows) (d : List ℕ) (id n : ℕ) (body : Span) → Few n (lists g q.hears) (handled_by is_open g q t d id n body)
handled_few is_open Creates q t d id n body =
    brief_few n 0 (handled_by is_open Creates q t d id n body)
    (room_brief (room_of t.sessions t.objects id q.number) t.sessions t.objects d id q.number q.kind q.parent body)
handled_few is_open Deletes q t d id n body = brief_few n 0 (handled_by is_open Deletes q t d id n body) (delete_brief q.number (taken_object t.sessions t.objects id q.number))
handled_few is_open Writes q t d id n body =
    brief_few n 0 (handled_by is_open Writes q t d id n body) (write_brief is_open q.number body (found_handle (found_object t.sessions t.objects id q.number)))
handled_few is_open Reads q t d id n body =
    brief_few n 0 (handled_by is_open Reads q t d id n body)
    (read_brief q.number (found_handle (found_object t.sessions t.objects id q.number)) t.sessions t.streams id n)
handled_few is_open Streams q t d id n body =
    let s = opened_sessions t.sessions t.streams id n in
    let x = opened_rows t.sessions t.streams id n in
    stream_few q.hears q.first q.second n (read_of s x id n) (read_number s x id n)
handled_few is_open Neither q t d id n body = brief_few n 0 Silent refl

-- ---- how many bytes that is: 12 at most, and sixteen messages of 1,024 for each list

pub one_long : (x : Reply) → length (joined_replies (x ∷ [])) ≡ length (bytes_of x)
unfolding joined_replies
one_long x = ap length (append-nil (bytes_of x))

pub none_long : length (joined_replies []) ≡ 0
unfolding joined_replies
none_long = refl

replies_most : (f : Frame) (s x : List (List ℕ)) (h : List ℕ) (m : Move) → length (joined_replies (replies_by f s x h m)) ≤ 12 + 16384 * repeating m
replies_most f s x h (Greets id code) = let a = none_long in omega (arith, a)
replies_most f s x h (Status number code) =
    let a = one_long (replied f.session_id (move_bytes f.session_id f.stream_id (Status number code))) in
    let b = move_long_lem f.session_id f.stream_id (Status number code) in
    omega (arith, a, b)
replies_most f s x h (Acknack p) =
    let a = one_long (replied f.session_id (move_bytes f.session_id f.stream_id (Acknack p))) in
    let b = move_long_lem f.session_id f.stream_id (Acknack p) in
    omega (arith, a, b)
replies_most f s x h (Repeats p) = let a = repeats_long s x h f.session_id f.stream_id p in omega (arith, a)
replies_most f s x h (Calls number task call) = let a = none_long in omega (arith, a)
replies_most f s x h Silent = let a = none_long in omega (arith, a)

-- CREATE_CLIENT's STATUS
pub greeting_replied : (c : Result (ℕ × ℕ) Refusal) → bytes_of (opened (id_opened c)) ≡ greeting_bytes c
greeting_replied (Ok (id, next)) = refl
greeting_replied (Err r) = refl

greeting_long : (c : Result (ℕ × ℕ) Refusal) → length (greeting_bytes c) ≡ 11
greeting_long (Ok (id, next)) = move_long_lem 0 0 (greeting (Ok (id, next)))
greeting_long (Err r) = move_long_lem 0 0 (greeting (Err r))

-- what a submessage leaves: the place behind it, and its replies counted
pub record Leaves (f : Frame) (r : Ran) (at : ℕ) (x : Ran) (rs : List Reply) : Type 0 where
  pub place : x.at ≡ at
  pub told : x.wrote ≡ count_replies f.room r.wrote rs

-- and at most so many lists among them
record Short (f : Frame) (most : ℕ) (rs : List Reply) : Type 0 where
  short : length (joined_replies rs) ≤ 12 + 16384 * most
  zeroth : f.stream_id ≡ 0 → length (joined_replies rs) ≤ 12

none_short : (f : Frame) (most : ℕ) → Short f most []
none_short f most = let a = none_long in record { short = omega (arith, a); zeroth = λ _. omega (arith, a) }

pub passed_leaves : (f : Frame) (r : Ran) (at : ℕ) → Leaves f r at (passed r at) []
unfolding count_replies
passed_leaves f r at = record { place = refl; told = refl }

pub opening_leaves : (f : Frame) (t : Tables) (r : Ran) (key at : ℕ) → Leaves f r at (opening f t r key at).ran (opening f t r key at).replies
unfolding count_replies
opening_leaves f t r key at =
    let c = created_of t.sessions t.streams f.max_clients r.next in
    record { place = refl; told = ap (λ (bytes : List ℕ). counted f.room r.wrote (length bytes)) (sym (greeting_replied c)) }

opening_short : (f : Frame) (t : Tables) (r : Ran) (key at most : ℕ) → Short f most (opening f t r key at).replies
opening_short f t r key at most =
    let c = created_of t.sessions t.streams f.max_clients r.next in
    let a = one_long (opened (id_opened c)) in
    let b = ap length (greeting_replied c) in
    let n = greeting_long c in
    record { short = omega (arith, a, b, n); zeroth = λ _. omega (arith, a, b, n) }

module _ (f : Frame) (t : Rows) (h d : List ℕ) (r : Ran) (took : Taken) where
  abbrev left : Result Bool Refusal → Acted
  left n = delivered n f t h d r took

  pub delivered_leaves : (n : Result Bool Refusal) → Leaves f r took.at (left n).ran (left n).replies
  delivered_leaves (Ok true) = record { place = refl; told = refl }
  delivered_leaves (Ok false) = passed_leaves f r took.at
  delivered_leaves (Err x) = passed_leaves f r took.at

  delivered_short : (n : Result Bool Refusal) → Short f (lists_of took.asked) (left n).replies
  delivered_short (Ok true) =
      let u = touched_in f t in
      let q = took.asked in
      let m = handled_move f.moment.is_open q u d f.session_id f.stream_id took.body in
      let a = replies_most f (left (Ok true)).rows.sessions (left (Ok true)).rows.streams h m in
      let few = handled_few f.moment.is_open q.group q u d f.session_id f.stream_id took.body in
      let b = few.0 in
      record { short = omega (arith, a, b); zeroth = λ z. let c = few.1 z in omega (arith, a, c) }
  delivered_short (Ok false) = none_short f _
  delivered_short (Err x) = none_short f _

  inside_leaves : (o : Opening) → Leaves f r took.at (inside_by o f t h d r took).ran (inside_by o f t h d r took).replies
  inside_leaves Other = delivered_leaves (named_of t.sessions f.session_id)
  inside_leaves Client = passed_leaves f r took.at
  inside_leaves Fragment = passed_leaves f r took.at
  inside_leaves Unread = passed_leaves f r took.at

-- ---- a rebuilt submessage (W6), where their bytes aren't at their end

-- where the run is then, and its replies counted
pub record Inside (f : Frame) (s : List ℕ) (r : Ran) (x : Acted) : Type 0 where
  pub ahead : r.at < x.ran.at
  pub within : x.ran.at ≤ length s
  pub told : x.ran.wrote ≡ count_replies f.room r.wrote x.replies

pub insides : (f : Frame) (t : Rows) (h s : List ℕ) (r : Ran) → r.at < length s → Inside f s r (inside_turned f t h s r)
unfolding inside_turned
insides f t h s r l = go (read_at s r.at) refl
  where
    go : (q : Result (Submessage × Span × Cursor) Refusal) → read_at s r.at ≡ q → Inside f s r (inside_by (taken_of q (length s)).asked.opening f t h s r (taken_of q (length s)))
    go (Ok (m, x, c)) e =
        let k = inside_leaves f t h s r (taken_of (Ok (m, x, c)) (length s)) (asks_of m).opening in
        let said = read_says_lem s r.at m x c e in
        let p = k.place in
        let n = said.next in
        let w = said.within in
        record { ahead = omega (arith, n, p); within = omega (arith, w, p); told = k.told }
    go (Err x) e =
        let k = passed_leaves f r (length s) in
        record { ahead = l; within = omega arith; told = k.told }

-- where one is read, the run goes on behind it
pub inside_at : (f : Frame) (t : Rows) (h s : List ℕ) (r : Ran) (m : Submessage) (x : Span) (c : Cursor) → read_at s r.at ≡ Ok (m, x, c)
    → (inside_turned f t h s r).ran.at ≡ c.at
unfolding inside_turned
inside_at f t h s r m x c e = rw e (inside_leaves f t h s r (taken_of (Ok (m, x, c)) (length s)) (asks_of m).opening).place

-- ---- all rebuilt submessages

goes_by : (b : Bool) (at len : ℕ) → cond b false (ltb at len) ≡ true → at < len
goes_by true at len e = let z : ◌≡◌ {A = ℕ} 0 1 = cc in absurd (omega arith)
goes_by false at len e = ltb-true at len e

pub goes_within : (len : ℕ) (r : Ran) → goes_on len r ≡ true → r.at < len
goes_within len r e = goes_by (is_call r.stop) r.at len e

module _ (f : Frame) (h s : List ℕ) where
  abbrev pub finished : Ran → Rows → Acted
  finished r t = record { ran = r; rows = t; replies = [] }

  abbrev pub followed : Acted → Acted → Acted
  followed x y = record { ran = y.ran; rows = y.rows; replies = x.replies ++ y.replies }

  pub work_none : (r : Ran) (t : Rows) → work_in zero f h s r t ≡ finished r t
  unfolding work_in
  work_none r t = refl

  pub work_one : (n : ℕ) (r : Ran) (t : Rows)
      → work_in (suc n) f h s r t ≡ cond (goes_on (length s) r) (followed (inside_turned f t h s r) (work_in n f h s (inside_turned f t h s r).ran (inside_turned f t h s r).rows)) (finished r t)
  unfolding work_in
  work_one n r t = refl

  pub work_whole : (r : Ran) (t : Rows) → work_at f h s r t ≡ work_in (length s - r.at) f h s r t
  unfolding work_at
  work_whole r t = refl

  abbrev pub work_loop : Loop Rows Acted
  work_loop =
      record {
        len = length s;
        room = f.room;
        goes = λ r t. goes_on (length s) r;
        turn = λ r t. inside_turned f t h s r;
        ran = λ x. x.ran;
        state = λ x. x.rows;
        replies = λ x. x.replies;
        still = finished;
        join = followed;
        all = λ n r t. work_in n f h s r t;
        whole = λ r t. work_at f h s r t;
        still_is = λ r t. (refl, refl, refl);
        join_is = λ x y. (refl, refl, refl);
        none_left = work_none;
        one_more = work_one;
        whole_is = work_whole;
        within = λ r t e. goes_within (length s) r e;
        ahead = λ r t e. (insides f t h s r (goes_within (length s) r e)).ahead;
        told = λ r t e. (insides f t h s r (goes_within (length s) r e)).told;
      }

  pub work_end : (r : Ran) (t : Rows) → goes_on (length s) r ≡ false → work_at f h s r t ≡ finished r t
  work_end r t e = whole_end work_loop r t e

  pub work_more : (r : Ran) (t : Rows) → goes_on (length s) r ≡ true
      → work_at f h s r t ≡ followed (inside_turned f t h s r) (work_at f h s (inside_turned f t h s r).ran (inside_turned f t h s r).rows)
  work_more r t e = whole_more work_loop r t e

  pub work_told : (r : Ran) (t : Rows) → (work_at f h s r t).ran.wrote ≡ count_replies f.room r.wrote (work_at f h s r t).replies
  work_told r t = whole_told work_loop r t

-- ---- a FRAGMENT

pub left_leaves : (o : Result ℕ Refusal) (f : Frame) (h s : List ℕ) (n : ℕ) (r : Ran) (at : ℕ) (t : Rows) → Leaves f r at (left_by o f h s n r at t).ran (left_by o f h s n r at t).replies
left_leaves (Ok k) f h s n r at t = record { place = refl; told = work_told f h s (entered_ran r) t }
left_leaves (Err x) f h s n r at t = passed_leaves f r at

module _ (f : Frame) (t : Tables) (d : List ℕ) (r : Ran) (took : Taken) where
  pub fragment_leaves : Leaves f r took.at (fragment_turned f t d r took).ran (fragment_turned f t d r took).replies
  unfolding fragment_turned
  fragment_leaves =
      let id = f.session_id in
      let u = touched_tables f t in
      let body = part_of d took.body in
      let v = gather_tables u id took.asked.first took.asked.second body in
      let n = whole_len (gathered u.sessions u.parts u.lengths u.rebuilt id took.asked.first took.asked.second body) in
      let s = rebuilt_part v.rebuilt n in
      left_leaves (rebuilt_of s) f v.held s n r took.at (rows_of v)

  sub_leaves : (o : Opening) → Leaves f r took.at (sub_turned o f t d r took).ran (sub_turned o f t d r took).replies
  sub_leaves Client = opening_leaves f t r took.asked.key took.at
  sub_leaves Fragment = fragment_leaves
  sub_leaves Other = delivered_leaves f (rows_of t) t.held d r took (named_of t.sessions f.session_id)
  sub_leaves Unread = passed_leaves f r took.at

  -- but for a FRAGMENT, whose rebuilt submessages are not bound
  abbrev Bounded : Opening → Type 0
  Bounded o = Short f (lists_of took.asked) (sub_turned o f t d r took).replies

  opening_bound : Bounded Client
  opening_bound = opening_short f t r took.asked.key took.at (lists_of took.asked)

  other_bound : Bounded Other
  other_bound = delivered_short f (rows_of t) t.held d r took (named_of t.sessions f.session_id)

sub_short : (f : Frame) (t : Tables) (d : List ℕ) (r : Ran) (m : Submessage) (x : Span) (c : Cursor) → one_of 0x0F (id_of m) ≡ 0
    → let took = taken_of (Ok (m, x, c)) (length d) in Short f (lists_of (asks_of m)) (sub_turned (asks_of m).opening f t d r took).replies
sub_short f t d r (sub.CreateClient p) x c e = opening_bound f t d r (taken_of (Ok ((sub.CreateClient p), x, c)) (length d))
sub_short f t d r (sub.Create p) x c e = other_bound f t d r (taken_of (Ok ((sub.Create p), x, c)) (length d))
sub_short f t d r (sub.Delete p) x c e = other_bound f t d r (taken_of (Ok ((sub.Delete p), x, c)) (length d))
sub_short f t d r (sub.Status p) x c e = other_bound f t d r (taken_of (Ok ((sub.Status p), x, c)) (length d))
sub_short f t d r (sub.WriteData p) x c e = other_bound f t d r (taken_of (Ok ((sub.WriteData p), x, c)) (length d))
sub_short f t d r (sub.ReadData p) x c e = other_bound f t d r (taken_of (Ok ((sub.ReadData p), x, c)) (length d))
sub_short f t d r (sub.Data p) x c e = other_bound f t d r (taken_of (Ok ((sub.Data p), x, c)) (length d))
sub_short f t d r (sub.Heartbeat p) x c e = other_bound f t d r (taken_of (Ok ((sub.Heartbeat p), x, c)) (length d))
sub_short f t d r (sub.Acknack p) x c e = other_bound f t d r (taken_of (Ok ((sub.Acknack p), x, c)) (length d))
sub_short f t d r (sub.Fragment p) x c e = absurd (omega (arith, e))

-- ---- a turn, where the datagram isn't at its end

-- where the run is then; its replies, which are short on stream 0 whatever was read but a FRAGMENT
pub record Turns (f : Frame) (d : List ℕ) (r : Ran) (x : Turned) : Type 0 where
  pub ahead : r.at < x.ran.at
  pub within : x.ran.at ≤ length d
  pub told : x.ran.wrote ≡ count_replies f.room r.wrote x.replies
  pub short : one_of 0x0F (get_or d r.at 0) ≡ 0 → length (joined_replies x.replies) ≤ 12 + 16384 * one_of 0x0E (get_or d r.at 0)
  pub zeroth : one_of 0x0F (get_or d r.at 0) ≡ 0 → f.stream_id ≡ 0 → length (joined_replies x.replies) ≤ 12

pub turns : (f : Frame) (t : Tables) (d : List ℕ) (r : Ran) → r.at < length d → Turns f d r (turned f t d r)
unfolding turned
turns f t d r h = go (read_at d r.at) refl
  where
    go : (q : Result (Submessage × Span × Cursor) Refusal) → read_at d r.at ≡ q → Turns f d r (turned_by q f t d r)
    go (Ok (m, x, c)) e =
        let l = sub_leaves f t d r (taken_of (Ok (m, x, c)) (length d)) (asks_of m).opening in
        let k = read_says_lem d r.at m x c e in
        let p = l.place in
        let n = k.next in
        let w = k.within in
        let b : one_of 0x0F (get_or d r.at 0) ≡ 0 → Short f (lists_of (asks_of m)) (turned_by (Ok (m, x, c)) f t d r).replies = λ z. sub_short f t d r m x c (ap (one_of 0x0F) (sym k.own) ∙ z) in
        record {
          ahead = omega (arith, n, p);
          within = omega (arith, w, p);
          told = l.told;
          short = λ z. subst (λ (most : ℕ). length (joined_replies (turned_by (Ok (m, x, c)) f t d r).replies) ≤ 12 + 16384 * most) (lists_own m ∙ ap (one_of 0x0E) (sym k.own)) (b z).short;
          zeroth = λ z. (b z).zeroth;
        }
    go (Err x) e =
        let l = passed_leaves f r (length d) in
        let b = none_short f (one_of 0x0E (get_or d r.at 0)) in
        record { ahead = h; within = omega arith; told = l.told; short = λ _. b.short; zeroth = λ _. b.zeroth }

-- where a submessage is read, the run goes on behind it
pub turned_at : (f : Frame) (t : Tables) (d : List ℕ) (r : Ran) (m : Submessage) (x : Span) (c : Cursor) → read_at d r.at ≡ Ok (m, x, c)
    → (turned f t d r).ran.at ≡ c.at
unfolding turned
turned_at f t d r m x c e = rw e (sub_leaves f t d r (taken_of (Ok (m, x, c)) (length d)) (asks_of m).opening).place
