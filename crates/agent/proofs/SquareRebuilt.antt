-- Rebuilt submessages over the lent tables go in step with `onto` over lists (W6): one behind the other, until a call is handed out or the end.
use Prim.Native.Nat.{ℕ, zero, suc, ◌-◌, ◌<◌, ◌≤◌}
use mathlib.Core.Path.{◌≡◌, refl, sym, ap, ◌∙◌, subst}
use mathlib.Core.Logic.{◌≢◌}
use mathlib.Core.Bool.{Bool, true, false, cond}
use mathlib.Core.List.{List, [], ◌∷◌, ◌++◌, map, append-nil}
use native.Mathlib.Omega.{arith}
use borrow.Author.Tests.{ltb-true, ltb-false, le-ltb}
use lib.Dec.{ltb}
use lib.ListN.{length}
use Rattle.codec.specs.Reading.{part_of, Item, Items, items, stopped, before as heads, onward, read_at, items_at}
use Rattle.codec.specs.Rebuilt.{barred, any_barred}
use Rattle.codec.specs.declared.layouts.Cursor.{Cursor}
use Rattle.codec.specs.declared.layouts.Span.{Span}
use Rattle.codec.specs.declared.submessages.ObjectNumber.{ObjectNumber}
use Rattle.codec.specs.declared.submessages.Submessage.{Submessage}
use Rattle.codec.specs.declared.submessages.Submessage.TheVariants as sub
use Rattle.codec.proofs.reading.Laws.{items_more, read_placed}
use Rattle.codec.proofs.rebuilt.Laws.{none_barred}
use Rattle.isolation.specs.Rules.{Bytes, done, calls}
use Rattle.sessions.specs.Table.{named_of, touched_rows}
use Rattle.sessions.specs.View.{Tables, Local, local_of}
use Rattle.sessions.specs.Calls.{SoundStream, SoundTables, LeadsTo}
use Rattle.sessions.proofs.Reached.{named_when}
use Rattle.sessions.proofs.SoundStreams.{stream_lasts}
use Rattle.sessions.proofs.Steps.{same_led}
use Rattle.moves.specs.Calls.{Call, Pending as Asked}
use Rattle.moves.specs.Proxy.{call_as, task_as}
use Rattle.moves.specs.Replies.{status_bytes, acknack_bytes}
use Rattle.moves.specs.Rows.{Rows, asks_of, handled_move, handled_rows}
use Rattle.moves.specs.declared.handle.Opening as handles
use Rattle.moves.specs.declared.handle.Opening.TheVariants as handle
use Rattle.moves.specs.declared.moves.Move as code
use Rattle.moves.specs.declared.moves.Move.TheVariants.{Greets, Status, Acknack, Repeats, Calls, Silent}
use Rattle.moves.specs.declared.proxy.BridgeCall.{BridgeCall}
use Rattle.moves.specs.declared.proxy.Task.{Task}
use Rattle.agent.specs.Brings.{In, in_of}
use Rattle.agent.specs.Lent.{with_rows}
use Rattle.agent.specs.Place.{ins_at}
use Rattle.agent.specs.RulesFragments.{Working, plain, behind, onto}
use Rattle.agent.specs.Run.{Acted, acted, delivered, repeats_in, touched_in, taken_of, inside_by, inside_turned, is_call, goes_on, work_in, work_at}
use Rattle.agent.specs.Step.{Reply, replied}
use Rattle.agent.specs.declared.turn.Frame.{Frame}
use Rattle.agent.specs.declared.turn.Ran.{Ran}
use Rattle.agent.specs.declared.turn.Stop.{Stop}
use Rattle.agent.specs.declared.turn.Stop.TheVariants as stop
use Rattle.agent.specs.declared.turn.Taken.{Taken}
use Rattle.agent.proofs.Place.{items_not, ins_end, ins_more}
use Rattle.agent.proofs.Square.{outcome, led_on, live_shown}
use Rattle.agent.proofs.SquareHandled.{turn_led, turn_square}
use Rattle.std.specs.Prelude.{Err, Ok, Result, Some}
use Rattle.codec.specs.declared.refusals.Refusal.{Refusal}

-- ---- what waits behind a call

pub onto_calls : (is : List In) (l : Local) (rs : List Bytes) (c : Call) (p : Asked) → onto is (calls l rs c p) ≡ calls l rs c (record { asked = p; left = is })
unfolding onto
onto_calls [] l rs c p = refl
onto_calls (i ∷ is) l rs c p = refl

-- what is kept of a call's submessage for its answer
abbrev pub asked_as : Frame → ObjectNumber → Task → Asked
asked_as f number task = record { stream = f.stream_id; number = number.0; task = task_as task }

-- ---- what the work on rebuilt submessages comes to, by what it stops at: done with all, or a call with the rest behind it

abbrev pub Worked : Frame → List ℕ → Stop → ℕ → Local → List Bytes → Working → Type 0
Worked f s stop.Nothing at l bs w = w ≡ done l bs
Worked f s (stop.Call number task call) at l bs w =
    (0 < length s) × (w ≡ calls l bs (call_as s call) (record { asked = asked_as f number task; left = ins_at f.moment f.stream_id s at }))
Worked f s (stop.Inside number task call a e) at l bs w = ⊥

-- behind replies
worked_behind : (f : Frame) (s : List ℕ) (x : Stop) (at : ℕ) (l : Local) (rs bs : List Bytes) (w : Working) → Worked f s x at l bs w → Worked f s x at l (rs ++ bs) (behind rs w)
worked_behind f s stop.Nothing at l rs bs w e = ap (behind rs) e
worked_behind f s (stop.Call number task call) at l rs bs w e = (e.0, ap (behind rs) e.1)
worked_behind f s (stop.Inside number task call a z) at l rs bs w e = e

-- the session l over the rows that were there, against what the work over them leaves; behind any replies, so that an answer's part may come first
pub record Works (f : Frame) (s : List ℕ) (t : Tables) (r : Ran) (from : Rows) (l : Local) (y : Acted) : Type 0 where
  pub after : Local
  pub bytes : List Bytes
  pub replies : y.replies ≡ map (replied f.session_id) bytes
  pub shows : local_of (with_rows t y.rows) f.session_id ≡ Some after
  pub moves : (bs : List Bytes) → Worked f s y.ran.stop y.ran.at after (bs ++ bytes) (onto (ins_at f.moment f.stream_id s r.at) (done l bs))
  pub elsewhere : (j : ℕ) → j ≢ f.session_id → local_of (with_rows t y.rows) j ≡ local_of (with_rows t from) j
  pub led : LeadsTo SoundStream f.max_clients (with_rows t from) (with_rows t y.rows)
  pub next : y.ran.next ≡ r.next
  pub within : y.ran.at ≤ length s
  pub reads : (ys : List Item) × (items_at s y.ran.at ≡ items ys) × (any_barred ys ≡ false)

pub map_behind : (id : ℕ) (xs ys : List Bytes) → map (replied id) xs ++ map (replied id) ys ≡ map (replied id) (xs ++ ys)
map_behind id [] ys = refl
map_behind id (x ∷ xs) ys = ap (λ (rs : List Reply). replied id x ∷ rs) (map_behind id xs ys)

-- none of them opens a session or is a FRAGMENT
other_opening : (m : Submessage) → barred m ≡ false → (asks_of m).opening ≡ handle.Other
other_opening (sub.CreateClient p) e = let z : ◌≡◌ {A = ℕ} 0 1 = cc in absurd (omega arith)
other_opening (sub.Create p) e = refl
other_opening (sub.Delete p) e = refl
other_opening (sub.Status p) e = refl
other_opening (sub.WriteData p) e = refl
other_opening (sub.ReadData p) e = refl
other_opening (sub.Data p) e = refl
other_opening (sub.Heartbeat p) e = refl
other_opening (sub.Acknack p) e = refl
other_opening (sub.Fragment p) e = let z : ◌≡◌ {A = ℕ} 0 1 = cc in absurd (omega arith)

module _ (f : Frame) (s : List ℕ) (t : Tables) where
  abbrev id : ℕ
  id = f.session_id

  abbrev n : ℕ
  n = f.stream_id

  abbrev h : List ℕ
  h = t.held

  -- ---- all of them, a turn at a time

  abbrev idle : Ran → Rows → Acted
  idle r from = record { ran = r; rows = from; replies = [] }

  abbrev then : Acted → Acted → Acted
  then x y = record { ran = y.ran; rows = y.rows; replies = x.replies ++ y.replies }

  work_ends : (left : ℕ) (r : Ran) (from : Rows) → goes_on (length s) r ≡ false → work_in left f h s r from ≡ idle r from
  unfolding work_in
  work_ends zero r from e = refl
  work_ends (suc left) r from e = rw e refl

  work_more : (left : ℕ) (r : Ran) (from : Rows) → goes_on (length s) r ≡ true
      → work_in (suc left) f h s r from ≡ then (inside_turned f from h s r) (work_in left f h s (inside_turned f from h s r).ran (inside_turned f from h s r).rows)
  unfolding work_in
  work_more left r from e = rw e refl

  idle_goes : (r : Ran) → r.stop ≡ stop.Nothing → goes_on (length s) r ≡ ltb r.at (length s)
  idle_goes r e = ap (λ (x : Stop). cond (is_call x) false (ltb r.at (length s))) e

  -- ---- "No such session": nothing is done

  pub record Still (r : Ran) (from : Rows) (y : Acted) : Type 0 where
    pub rows : y.rows ≡ from
    pub replies : y.replies ≡ []
    pub next : y.ran.next ≡ r.next
    pub stop : y.ran.stop ≡ r.stop

  module _ (from : Rows) (gone : named_of from.sessions id ≡ (Ok false)) where
    pub untouched : touched_in f from ≡ from
    unfolding touched_rows
    untouched = rw gone refl

    still_inside : (r : Ran) → Still r from (inside_turned f from h s r)
    unfolding inside_turned
    still_inside r = let x = taken_of (read_at s r.at) (length s) in by x.asked.opening x
      where
        by : (o : handles.Opening) (x : Taken) → Still r from (inside_by o f from h s r x)
        by handle.Other x = subst (λ (w : Result Bool Refusal). Still r from (delivered w f from h s r x)) (sym gone) (record { rows = untouched; replies = refl; next = refl; stop = refl })
        by handle.Client x = record { rows = refl; replies = refl; next = refl; stop = refl }
        by handle.Fragment x = record { rows = refl; replies = refl; next = refl; stop = refl }
        by handle.Unread x = record { rows = refl; replies = refl; next = refl; stop = refl }

    still_in : (left : ℕ) (r : Ran) → Still r from (work_in left f h s r from)
    unfolding work_in
    still_in zero r = record { rows = refl; replies = refl; next = refl; stop = refl }
    still_in (suc left) r = by (goes_on (length s) r) (λ r'. still_in left r')
      where
        x : Acted
        x = inside_turned f from h s r

        o : Still r from x
        o = still_inside r

        more : (to : Rows) → to ≡ from → ((r' : Ran) → Still r' from (work_in left f h s r' from)) → Still r from (then x (work_in left f h s x.ran to))
        more to e rest =
            let y = rest x.ran in
            rw e (record { rows = y.rows; replies = (λ i. o.replies i ++ y.replies i); next = y.next ∙ o.next; stop = y.stop ∙ o.stop })

        by : (b : Bool) → ((r' : Ran) → Still r' from (work_in left f h s r' from)) → Still r from (cond b (then x (work_in left f h s x.ran x.rows)) (idle r from))
        by true rest = more x.rows o.rows rest
        by false rest = record { rows = refl; replies = refl; next = refl; stop = refl }

  -- ---- a live session

  module _ (max≤ : f.max_clients ≤ 255) (id< : id < 256) (n< : n < 256) where
    abbrev ins_from : ℕ → List In
    ins_from at = ins_at f.moment n s at

    -- at the end
    ended : (r : Ran) (from : Rows) (l : Local) → SoundTables SoundStream f.max_clients (with_rows t from) → local_of (with_rows t from) id ≡ Some l → r.stop ≡ stop.Nothing
        → r.at ≤ length s → (ys : List Item) → items_at s r.at ≡ items ys → any_barred ys ≡ false → length s ≤ r.at → Works f s t r from l (idle r from)
    unfolding onto
    ended r from l sound is quiet within ys e none_of past = record {
      after = l;
      bytes = [];
      replies = refl;
      shows = is;
      moves = λ bs. subst (λ (x : Stop). Worked f s x r.at l (bs ++ []) (onto (ins_from r.at) (done l bs))) (sym quiet)
          (ap (λ (xs : List In). onto xs (done l bs)) (ins_end f.moment n s r.at past) ∙ ap (done l) (sym (append-nil bs)));
      elsewhere = λ j k. refl;
      led = same_led SoundStream stream_lasts f.max_clients (with_rows t from) sound;
      next = refl;
      within = within;
      reads = (ys, e, none_of);
    }

    abbrev Goes : ℕ → Type 0
    Goes left = (r : Ran) (from : Rows) (l : Local) (ys : List Item) → SoundTables SoundStream f.max_clients (with_rows t from) → local_of (with_rows t from) id ≡ Some l → r.stop ≡ stop.Nothing
        → r.at ≤ length s → items_at s r.at ≡ items ys → any_barred ys ≡ false → length s - r.at ≤ left → Works f s t r from l (work_in left f h s r from)

    -- one submessage and what is behind it
    module _ (left : ℕ) (go : Goes left) (r : Ran) (from to : Rows) (l after : Local) (i : In) (at : ℕ) (zs : List Item) (some_bytes : 0 < length s)
        (more : ins_from r.at ≡ i ∷ ins_from at)
        (shows : local_of (with_rows t to) id ≡ Some after)
        (elsewhere : (j : ℕ) → j ≢ id → local_of (with_rows t to) j ≡ local_of (with_rows t from) j)
        (led : LeadsTo SoundStream f.max_clients (with_rows t from) (with_rows t to))
        (within : at ≤ length s) (reads : items_at s at ≡ items zs) (none_of : any_barred zs ≡ false) (few : length s - at ≤ left) where
      -- its turn, with its replies
      abbrev spoke : ℕ → Stop → List Reply → Acted
      spoke wrote x rs = record { ran = record { next = r.next; at = at; wrote = wrote; stop = x }; rows = to; replies = rs }

      next_is : (bs : List Bytes) → onto (ins_from r.at) (done l bs) ≡ behind bs (onto (ins_from at) (plain l i))
      unfolding onto
      next_is bs = ap (λ (xs : List In). onto xs (done l bs)) more

      speaks : (wrote : ℕ) (bytes : List Bytes) → plain l i ≡ done after bytes → Works f s t r from l (then (spoke wrote stop.Nothing (map (replied id) bytes)) (work_in left f h s (spoke wrote stop.Nothing []).ran to))
      speaks wrote bytes e =
          let y = go (spoke wrote stop.Nothing []).ran to after zs led.sound shows refl within reads none_of few in
          let z = work_in left f h s (spoke wrote stop.Nothing []).ran to in
          record {
            after = y.after;
            bytes = bytes ++ y.bytes;
            replies = ap (λ (rs : List Reply). map (replied id) bytes ++ rs) y.replies ∙ map_behind id bytes y.bytes;
            shows = y.shows;
            moves = λ bs. subst (Worked f s z.ran.stop z.ran.at y.after (bs ++ (bytes ++ y.bytes)))
                (sym (next_is bs ∙ ap (λ (m : _). behind bs (onto (ins_from at) m)) e))
                (worked_behind f s z.ran.stop z.ran.at y.after bs (bytes ++ y.bytes) (onto (ins_from at) (done after bytes)) (y.moves bytes));
            elsewhere = λ j k. y.elsewhere j k ∙ elsewhere j k;
            led = led_on led y.led;
            next = y.next;
            within = y.within;
            reads = y.reads;
          }

      asks : (wrote : ℕ) (number : ObjectNumber) (task : Task) (call : BridgeCall) → plain l i ≡ calls after [] (call_as s call) (asked_as f number task)
          → Works f s t r from l (then (spoke wrote (stop.Call number task call) []) (work_in left f h s (spoke wrote (stop.Call number task call) []).ran to))
      asks wrote number task call e =
          rw (work_ends left (spoke wrote (stop.Call number task call) []).ran to refl)
          record {
            after = after;
            bytes = [];
            replies = refl;
            shows = shows;
            moves = λ bs. (some_bytes, next_is bs ∙ ap (λ (m : _). behind bs (onto (ins_from at) m)) e ∙ ap (behind bs) (onto_calls (ins_from at) after [] (call_as s call) (asked_as f number task)));
            elsewhere = elsewhere;
            led = led;
            next = refl;
            within = within;
            reads = (zs, reads, none_of);
          }

      one : (w : code.Move) → plain l i ≡ outcome s (with_rows t to) id n after w → Works f s t r from l (then (acted f r at w to h) (work_in left f h s (acted f r at w to h).ran to))
      one (Greets other code) e = speaks _ [] e
      one (Status number code) e = speaks _ (status_bytes id n number.0 code ∷ []) e
      one (Acknack p) e = speaks _ (acknack_bytes id n p.first_unacked_seq p.nack_bitmap ∷ []) e
      one (Repeats p) e = speaks _ (repeats_in to.sessions to.streams h id n p) e
      one (Calls number task call) e = asks _ number task call e
      one Silent e = speaks _ [] e

    -- the first of them, as it is read
    inside_is : (r : Ran) (from : Rows) (m : Submessage) (x : Span) (c : Cursor) → named_of from.sessions id ≡ (Ok true) → barred m ≡ false → read_at s r.at ≡ Ok (m, x, c)
        → inside_turned f from h s r ≡ acted f r c.at (handled_move f.moment.is_open (asks_of m) (touched_in f from) s id n x) (handled_rows (asks_of m) (touched_in f from) id n) h
    unfolding inside_turned
    inside_is r from m x c live b e =
        let taken : Taken = record { asked = asks_of m; body = x; at = c.at } in
        ap (λ (p : Result (Submessage × Span × Cursor) Refusal). let z = taken_of p (length s) in inside_by z.asked.opening f from h s r z) e
        ∙ ap (λ (o : handles.Opening). inside_by o f from h s r taken) (other_opening m b)
        ∙ ap (λ (w : Result Bool Refusal). delivered w f from h s r taken) live

    goes_on_lem : (left : ℕ) → Goes left
    goes_on_lem zero r from l ys sound is quiet within e none_of few =
        subst (Works f s t r from l) (sym (work_ends zero r from (idle_goes r quiet ∙ le-ltb r.at (length s) (omega arith)))) (ended r from l sound is quiet within ys e none_of (omega arith))
    goes_on_lem (suc left) r from l ys sound is quiet within e none_of few = by (ltb r.at (length s)) refl (goes_on_lem left)
      where
        turn : Acted
        turn = inside_turned f from h s r

        All : Type 0
        All = Works f s t r from l (then turn (work_in left f h s turn.ran turn.rows))

        live : named_of from.sessions id ≡ (Ok true)
        live = named_when from.sessions id sound.sessions_need_lem ∙ ap (λ (b : Bool). cond b (Ok false) (Ok true)) (live_shown (with_rows t from) id l is)

        inside : r.at < length s → Goes left → (q : Result (Submessage × Span × Cursor) Refusal) → read_at s r.at ≡ q → All
        inside k go (Err x) g = absurd (items_not ys x (sym (items_more s r.at k ∙ ap (λ (q : Result (Submessage × Span × Cursor) Refusal). onward q (items_at s)) g) ∙ e))
        inside k go (Ok (m, x, c)) g = on (items_at s c.at) refl
          where
            first : Item
            first = record { says = m; span = x }

            on : (i : Items) → items_at s c.at ≡ i → All
            on (stopped z) j = absurd (items_not ys z (sym (items_more s r.at k ∙ ap (λ (q : Result (Submessage × Span × Cursor) Refusal). onward q (items_at s)) g ∙ ap (heads first) j) ∙ e))
            on (items zs) j =
                let whole : items (first ∷ zs) ≡ items ys = sym (items_more s r.at k ∙ ap (λ (q : Result (Submessage × Span × Cursor) Refusal). onward q (items_at s)) g ∙ ap (heads first) j) ∙ e in
                let same : first ∷ zs ≡ ys = cc in
                let b = none_barred first zs (ap any_barred same ∙ none_of) in
                let p = read_placed s r.at m x c g in
                let a = p.ahead in
                let u = touched_in f from in
                let q = turn_square (with_rows t from) sound max≤ id id< f.moment l is n n< m s x in
                subst (λ (v : Acted). Works f s t r from l (then v (work_in left f h s v.ran v.rows))) (sym (inside_is r from m x c live b.0 g))
                (one left go r from (handled_rows (asks_of m) u id n) l q.after (in_of f.moment n m (part_of s x)) c.at zs (omega (arith, k)) (ins_more f.moment n s r.at m x c zs k g j) q.shows q.elsewhere
                (turn_led (with_rows t from) sound max≤ id id< f.moment l is n n< m) p.within j b.1 (omega (arith, a, few)) (handled_move f.moment.is_open (asks_of m) u s id n x) q.moves)

        by : (b : Bool) → ltb r.at (length s) ≡ b → Goes left → Works f s t r from l (work_in (suc left) f h s r from)
        by true q go = subst (Works f s t r from l) (sym (work_more left r from (idle_goes r quiet ∙ q))) (inside (ltb-true r.at (length s) q) go (read_at s r.at) refl)
        by false q go = subst (Works f s t r from l) (sym (work_ends (suc left) r from (idle_goes r quiet ∙ q))) (ended r from l sound is quiet within ys e none_of (ltb-false r.at (length s) q))

    -- the work from a place of bytes that were checked
    pub work_square : (r : Ran) (from : Rows) (l : Local) (ys : List Item) → SoundTables SoundStream f.max_clients (with_rows t from) → local_of (with_rows t from) id ≡ Some l → r.stop ≡ stop.Nothing
        → r.at ≤ length s → items_at s r.at ≡ items ys → any_barred ys ≡ false → Works f s t r from l (work_at f t.held s r from)
    unfolding work_at
    work_square r from l ys sound is quiet within e none_of = goes_on_lem (length s - r.at) r from l ys sound is quiet within e none_of (omega arith)

  pub still_square : (from : Rows) → named_of from.sessions id ≡ (Ok false) → (r : Ran) → Still r from (work_at f t.held s r from)
  unfolding work_at
  still_square from gone r = still_in from gone (length s - r.at) r
