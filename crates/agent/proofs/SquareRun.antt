-- A run over the lent tables goes in step with the run of the agent's definitions.
use Prim.Native.Nat.{ℕ, zero, suc, ◌-◌, ◌<◌, ◌≤◌}
use mathlib.Core.Path.{◌≡◌, refl, sym, ap, ◌∙◌, subst}
use mathlib.Core.Bool.{Bool, true, false, cond}
use mathlib.Core.List.{List, [], ◌∷◌, ◌++◌, append-nil}
use native.Mathlib.Omega.{arith}
use borrow.Author.Tests.{ltb-true, ltb-false, le-ltb}
use lib.Dec.{ltb}
use lib.ListN.{length}
use Rattle.codec.specs.Reading.{part_of, Item, Items, items, stopped, before as heads, onward, read_at, items_at}
use Rattle.codec.specs.declared.layouts.Cursor.{Cursor}
use Rattle.codec.specs.declared.layouts.Span.{Span}
use Rattle.codec.specs.declared.submessages.FragmentPayload.{FragmentPayload}
use Rattle.codec.specs.declared.submessages.Submessage.{Submessage}
use Rattle.codec.specs.declared.submessages.Submessage.TheVariants as sub
use Rattle.codec.proofs.reading.Laws.{items_more, read_placed}
use Rattle.isolation.specs.Rules.{done, Sub, opens}
use Rattle.sessions.specs.Table.{is_free, named_of}
use Rattle.sessions.specs.Opening.{created_of}
use Rattle.sessions.specs.View.{Tables, Local, local_of, absent}
use Rattle.sessions.specs.Calls.{SoundStream, SoundTables, LeadsTo, create_tables}
use Rattle.sessions.proofs.Reached.{free_view, named_when}
use Rattle.sessions.proofs.SoundStreams.{stream_lasts}
use Rattle.sessions.proofs.Steps.{same_led}
use Rattle.moves.specs.Calls.{Call}
use Rattle.moves.specs.Proxy.{call_as}
use Rattle.agent.specs.Brings.{Opening, In, in_of, sub_from}
use Rattle.agent.specs.RulesFragments.{Working, plain, onto, brought, gathering}
use Rattle.moves.specs.Rows.{asks_of}
use Rattle.agent.specs.Lent.{rows_of, with_rows, rebuilt_part}
use Rattle.agent.specs.Place.{subs_at, ins_at}
use Rattle.agent.specs.Run.{Turned, stop_of, greeting, id_opened, opening, delivered, with_acted, fragment_turned, turned_by, turned, is_call, goes_on, before, run_in, run_at}
use Rattle.agent.specs.Step as agent
use Rattle.agent.specs.Step.{Open, Reply, opened, behind, keep, act, deliver, run, open_as}
use Rattle.agent.specs.Whole.{session_in}
use Rattle.agent.specs.declared.turn.Frame.{Frame}
use Rattle.agent.specs.declared.turn.Ran.{Ran}
use Rattle.agent.specs.declared.turn.Stop.{Stop}
use Rattle.agent.specs.declared.turn.Stop.TheVariants as stop
use Rattle.agent.proofs.Place.{items_not, subs_end, subs_more}
use Rattle.agent.proofs.Square.{led_on}
use Rattle.agent.proofs.SquareFragments.{Kept, Moved, Acts, Quiet, plain_acts, fragment_acts, fragment_quiet}
use Rattle.agent.proofs.SquareOpen.{view_of, at_in, keep_view, chosen_view, pointer_in, creates_led, open_view}
use Rattle.agent.proofs.SquareRebuilt.{asked_as, untouched}
use Rattle.std.specs.Prelude.{Err, Ok, Result, Option, None, Some}
use Rattle.codec.specs.declared.refusals.Refusal.{Refusal}

-- ---- what a run stops at

-- the call handed out, and what is open then: its place is the one behind its submessage; it shows parts of its datagram, or (W6) of the rebuilt bytes, and then the
-- other rebuilt submessages wait
abbrev pub stop_as : Frame → List ℕ → List ℕ → Stop → ℕ → Option (Call × Open)
stop_as f d rebuilt stop.Nothing at = None
stop_as f d rebuilt (stop.Call number task call) at =
    Some (
      call_as d call,
      record {
        session = f.session_id;
        pending = record { asked = asked_as f number task; left = [] };
        rest = subs_at f.moment f.stream_id d at;
      },
    )
stop_as f d rebuilt (stop.Inside number task call a e) at =
    Some (
      call_as (rebuilt_part rebuilt e) call,
      record {
        session = f.session_id;
        pending = record { asked = asked_as f number task; left = ins_at f.moment f.stream_id (rebuilt_part rebuilt e) a };
        rest = subs_at f.moment f.stream_id d at;
      },
    )

-- what waits reads
abbrev pub StopKept : List ℕ → Stop → Type 0
StopKept rebuilt stop.Nothing = Unit {0}
StopKept rebuilt (stop.Call number task call) = Unit {0}
StopKept rebuilt (stop.Inside number task call a e) = Kept rebuilt a e

-- a run of the definitions from t on, against what the code's run leaves
pub record RunSquare (f : Frame) (d : List ℕ) (t : Tables) (y : agent.Ran) (x : Turned) : Type 0 where
  pub tables : y.tables ≡ view_of x.ran.next x.tables
  pub replies : y.replies ≡ x.replies
  pub stop : y.stop ≡ stop_as f d x.tables.rebuilt x.ran.stop x.ran.at
  pub led : LeadsTo SoundStream f.max_clients t x.tables
  pub low : 1 ≤ x.ran.next
  pub high : x.ran.next ≤ 255
  pub within : x.ran.at ≤ length d
  pub reads : (ys : List Item) × (items_at d x.ran.at ≡ items ys)
  pub kept : StopKept x.tables.rebuilt x.ran.stop

module _ (f : Frame) (d : List ℕ) (max≤ : f.max_clients ≤ 255) (id< : f.session_id < 256) (n< : f.stream_id < 256) where
  abbrev max : ℕ
  max = f.max_clients

  abbrev id : ℕ
  id = f.session_id

  abbrev n : ℕ
  n = f.stream_id

  abbrev rest_at : ℕ → List (Sub Opening In)
  rest_at at = subs_at f.moment n d at

  abbrev runs : List (Sub Opening In) → agent.Tables → agent.Ran
  runs ss t = run max id ss t

  -- ---- one submessage

  -- what the definitions do behind it
  abbrev onward_from : Stop → Turned → agent.Ran
  onward_from stop.Nothing x = behind x.replies (runs (rest_at x.ran.at) (view_of x.ran.next x.tables))
  onward_from (stop.Call number task call) x =
      record { tables = view_of x.ran.next x.tables; replies = x.replies; stop = stop_as f d x.tables.rebuilt (stop.Call number task call) x.ran.at }
  onward_from (stop.Inside number task call a e) x =
      record { tables = view_of x.ran.next x.tables; replies = x.replies; stop = stop_as f d x.tables.rebuilt (stop.Inside number task call a e) x.ran.at }

  pub record Turns (t : Tables) (y : agent.Ran) (at : ℕ) (x : Turned) : Type 0 where
    pub goes : y ≡ onward_from x.ran.stop x
    pub led : LeadsTo SoundStream max t x.tables
    pub low : 1 ≤ x.ran.next
    pub high : x.ran.next ≤ 255
    pub place : x.ran.at ≡ at
    pub kept : StopKept x.tables.rebuilt x.ran.stop

  -- one that the header's session is to handle: it acts, or there is no such session
  module _ (t : Tables) (sound : SoundTables SoundStream max t) (next : ℕ) (low : 1 ≤ next) (high : next ≤ 255) (at : ℕ) (rule : Local → Working) (x : Turned) where
    abbrev delivers : Option Local → agent.Ran
    delivers l = deliver id (rest_at at) (view_of next t) l rule (λ t'. runs (rest_at at) t')

    live_turns : (l : Local) → local_of t id ≡ Some l → Acts f d t next at (rule l) x → Turns t (delivers (session_in t id)) at x
    live_turns l e q = record {
      goes = ap delivers (at_in t id id< ∙ e) ∙ acts x.ran.stop q.moves;
      led = q.led;
      low = rw q.pointer low;
      high = rw q.pointer high;
      place = q.place;
      kept = waits x.ran.stop q.moves;
    }
      where
        view : keep id q.after (view_of next t) ≡ view_of x.ran.next x.tables
        view = keep_view next t x.tables id q.after id< q.shows q.elsewhere ∙ ap (λ (k : ℕ). view_of k x.tables) (sym q.pointer)

        acts : (s : Stop) → Moved f d x.tables.rebuilt s q.after q.bytes (rule l) → delivers (Some l) ≡ onward_from s x
        acts stop.Nothing m =
            ap (λ (w : Working). act id (rest_at at) (view_of next t) w (λ t'. runs (rest_at at) t')) m
            ∙ (λ i. behind (sym q.replies i) (runs (rest_at (sym q.place i)) (view i)))
        acts (stop.Call number task call) m =
            ap (λ (w : Working). act id (rest_at at) (view_of next t) w (λ t'. runs (rest_at at) t')) m
            ∙ (λ i. record { tables = view i; replies = sym q.replies i; stop = stop_as f d x.tables.rebuilt (stop.Call number task call) (sym q.place i) })
        acts (stop.Inside number task call a e) m =
            ap (λ (w : Working). act id (rest_at at) (view_of next t) w (λ t'. runs (rest_at at) t')) m.1
            ∙ (λ i. record { tables = view i; replies = sym q.replies i; stop = stop_as f d x.tables.rebuilt (stop.Inside number task call a e) (sym q.place i) })

        waits : (s : Stop) → Moved f d x.tables.rebuilt s q.after q.bytes (rule l) → StopKept x.tables.rebuilt s
        waits stop.Nothing m = tt
        waits (stop.Call number task call) m = tt
        waits (stop.Inside number task call a e) m = m.0

    gone_turns : local_of t id ≡ None → Quiet t next at x → Turns t (delivers (session_in t id)) at x
    gone_turns e q = record {
      goes = ap delivers (at_in t id id< ∙ e) ∙ (λ i. behind (sym q.replies i) (runs (rest_at (sym q.place i)) (view_of (sym q.pointer i) (sym q.tables i)))) ∙ ap (λ (s : Stop). onward_from s x) (sym q.stop);
      led = subst (LeadsTo SoundStream max t) (sym q.tables) (same_led SoundStream stream_lasts max t sound);
      low = rw q.pointer low;
      high = rw q.pointer high;
      place = q.place;
      kept = subst (StopKept x.tables.rebuilt) (sym q.stop) tt;
    }

    pub session_turns : ((l : Local) → local_of t id ≡ Some l → Acts f d t next at (rule l) x) → (local_of t id ≡ None → Quiet t next at x)
        → Turns t (deliver id (rest_at at) (view_of next t) (session_in t id) rule (λ t'. runs (rest_at at) t')) at x
    session_turns acts quiet = by (local_of t id) refl
      where
        by : (l : Option Local) → local_of t id ≡ l → Turns t (delivers (session_in t id)) at x
        by None e = gone_turns e (quiet e)
        by (Some l) e = live_turns l e (acts l e)

  module _ (t : Tables) (sound : SoundTables SoundStream max t) (r : Ran) (idle : r.stop ≡ stop.Nothing) (low : 1 ≤ r.next) (high : r.next ≤ 255) (at : ℕ) where
    abbrev v : agent.Tables
    v = view_of r.next t

    -- CREATE_CLIENT
    module _ (key : ℕ) where
      abbrev o : Opening
      o = record { time = f.moment.time; key = key }

      abbrev c : Result (ℕ × ℕ) Refusal
      c = created_of t.sessions t.streams max r.next

      greets_on : (c : Result (ℕ × ℕ) Refusal) → stop_of (greeting c) ≡ stop.Nothing
      greets_on (Ok (i, k)) = refl
      greets_on (Err x) = refl

      client_goes : runs (opens o ∷ rest_at at) v ≡ behind (opened (id_opened c) ∷ []) (runs (rest_at at) (view_of (opening f t r key at).ran.next (create_tables c t key f.moment.time)))
      unfolding run
      client_goes =
          ap (λ (x : Option ℕ). behind (opened x ∷ []) (runs (rest_at at) (open_as o v x))) (sym (chosen_view t max sound r.next max≤ low high))
          ∙ ap (λ (u : agent.Tables). behind (opened (id_opened c) ∷ []) (runs (rest_at at) u)) (open_view t max sound r.next max≤ low high key f.moment.time)

      client_turns : Turns t (runs (opens o ∷ rest_at at) v) at (opening f t r key at)
      client_turns =
          let p = pointer_in t max sound r.next max≤ low high in
          record {
            goes = client_goes ∙ ap (λ (s : Stop). onward_from s (opening f t r key at)) (sym (greets_on c));
            led = creates_led t max sound r.next max≤ low high key f.moment.time;
            low = p.0;
            high = p.1;
            place = refl;
            kept = subst (StopKept t.rebuilt) (sym (greets_on c)) tt;
          }

    named_free : (b : Bool) → is_free t.sessions id ≡ b → named_of t.sessions id ≡ cond b (Ok false) (Ok true)
    named_free b e = named_when t.sessions id sound.sessions_need_lem ∙ ap (λ (b : Bool). cond b (Ok false) (Ok true)) e

    -- a submessage as it stands
    plain_turns : (m : Submessage) (body : Span)
        → Turns t (deliver id (rest_at at) v (session_in t id) (λ l. onto [] (plain l (in_of f.moment n m (part_of d body)))) (λ t'. runs (rest_at at) t')) at
        (with_acted t (delivered (named_of t.sessions id) f (rows_of t) t.held d r (record { asked = asks_of m; body = body; at = at })))
    plain_turns m body =
        session_turns t sound r.next low high at (λ l. onto [] (plain l (in_of f.moment n m (part_of d body)))) (X (named_of t.sessions id))
        (λ l e. subst (λ (w : Result Bool Refusal). Acts f d t r.next at (onto [] (plain l (in_of f.moment n m (part_of d body)))) (X w)) (sym (named_free false (free_view t id ∙ ap absent e))) (plain_acts f d max≤ id< n< t sound r at l e m body))
        (λ e. let z = named_free true (free_view t id ∙ ap absent e) in
        subst (λ (w : Result Bool Refusal). Quiet t r.next at (X w)) (sym z) (record { tables = ap (with_rows t) (untouched f d t (rows_of t) z); replies = refl; stop = idle; pointer = refl; place = refl }))
      where
        X : Result Bool Refusal → Turned
        X w = with_acted t (delivered w f (rows_of t) t.held d r (record { asked = asks_of m; body = body; at = at }))

    fragment_turns : (p : FragmentPayload) (body : Span)
        → Turns t (deliver id (rest_at at) v (session_in t id) (λ l. let i = in_of f.moment n (sub.Fragment p) (part_of d body) in onto (brought p i l) (done (gathering p i l) [])) (λ t'. runs (rest_at at) t')) at
        (fragment_turned f t d r (record { asked = asks_of (sub.Fragment p); body = body; at = at }))
    fragment_turns p body =
        session_turns t sound r.next low high at (λ l. let i = in_of f.moment n (sub.Fragment p) (part_of d body) in onto (brought p i l) (done (gathering p i l) []))
        (fragment_turned f t d r (record { asked = asks_of (sub.Fragment p); body = body; at = at }))
        (λ l e. fragment_acts f d max≤ id< n< t sound r at idle p body l e)
        (λ e. let b = free_view t id ∙ ap absent e in fragment_quiet f d max≤ id< n< t sound r at idle p body b (named_free true b))

  module _ (t : Tables) (sound : SoundTables SoundStream max t) (r : Ran) (idle : r.stop ≡ stop.Nothing) (low : 1 ≤ r.next) (high : r.next ≤ 255) where
    -- each kind
    sub_turns : (m : Submessage) (body : Span) (k : Cursor)
        → Turns t (runs (sub_from f.moment n m (part_of d body) ∷ rest_at k.at) (view_of r.next t)) k.at (turned_by (Ok (m, body, k)) f t d r)
    unfolding run
    sub_turns (sub.CreateClient p) body k = client_turns t sound r idle low high k.at p.client_key
    sub_turns (sub.Create p) body k = plain_turns t sound r idle low high k.at (sub.Create p) body
    sub_turns (sub.Delete p) body k = plain_turns t sound r idle low high k.at (sub.Delete p) body
    sub_turns (sub.Status p) body k = plain_turns t sound r idle low high k.at (sub.Status p) body
    sub_turns (sub.WriteData p) body k = plain_turns t sound r idle low high k.at (sub.WriteData p) body
    sub_turns (sub.ReadData p) body k = plain_turns t sound r idle low high k.at (sub.ReadData p) body
    sub_turns (sub.Data p) body k = plain_turns t sound r idle low high k.at (sub.Data p) body
    sub_turns (sub.Heartbeat p) body k = plain_turns t sound r idle low high k.at (sub.Heartbeat p) body
    sub_turns (sub.Acknack p) body k = plain_turns t sound r idle low high k.at (sub.Acknack p) body
    sub_turns (sub.Fragment p) body k = fragment_turns t sound r idle low high k.at p body

    read_turns : (m : Submessage) (body : Span) (k : Cursor) → read_at d r.at ≡ Ok (m, body, k)
        → Turns t (runs (sub_from f.moment n m (part_of d body) ∷ rest_at k.at) (view_of r.next t)) k.at (turned f t d r)
    unfolding turned
    read_turns m body k e = rw e (sub_turns m body k)

  -- ---- all of them

  abbrev idle_run : Ran → Tables → Turned
  idle_run r t = record { ran = r; tables = t; replies = [] }

  -- a run that is at the end, or whose call is handed out
  run_ends : (left : ℕ) (r : Ran) (t : Tables) → goes_on (length d) r ≡ false → run_in left f d r t ≡ idle_run r t
  unfolding run_in
  run_ends zero r t e = refl
  run_ends (suc left) r t e = rw e refl

  run_more : (left : ℕ) (r : Ran) (t : Tables) → goes_on (length d) r ≡ true → run_in (suc left) f d r t ≡ before (turned f t d r) (λ r' t'. run_in left f d r' t')
  unfolding run_in
  run_more left r t e = rw e refl

  idle_goes : (r : Ran) → r.stop ≡ stop.Nothing → goes_on (length d) r ≡ ltb r.at (length d)
  idle_goes r idle = ap (λ (s : Stop). cond (is_call s) false (ltb r.at (length d))) idle

  -- at the end of the datagram
  ended : (r : Ran) (t : Tables) → SoundTables SoundStream max t → r.stop ≡ stop.Nothing → 1 ≤ r.next → r.next ≤ 255 → r.at ≤ length d → (ys : List Item) → items_at d r.at ≡ items ys → length d ≤ r.at
      → RunSquare f d t (runs (rest_at r.at) (view_of r.next t)) (idle_run r t)
  unfolding run
  ended r t sound idle low high within ys e h =
      let z : runs (rest_at r.at) (view_of r.next t) ≡ record { tables = view_of r.next t; replies = []; stop = None } = ap (λ (ss : List (Sub Opening In)). runs ss (view_of r.next t)) (subs_end f.moment n d r.at h) in
      record {
        tables = ap (λ (y : agent.Ran). y.tables) z;
        replies = ap (λ (y : agent.Ran). y.replies) z;
        stop = ap (λ (y : agent.Ran). y.stop) z ∙ ap (λ (s : Stop). stop_as f d t.rebuilt s r.at) (sym idle);
        led = same_led SoundStream stream_lasts max t sound;
        low = low;
        high = high;
        within = within;
        reads = (ys, e);
        kept = subst (StopKept t.rebuilt) (sym idle) tt;
      }

  abbrev Goes : ℕ → Type 0
  Goes left = (r : Ran) (t : Tables) (ys : List Item) → SoundTables SoundStream max t → r.stop ≡ stop.Nothing → 1 ≤ r.next → r.next ≤ 255 → r.at ≤ length d
      → items_at d r.at ≡ items ys → length d - r.at ≤ left → RunSquare f d t (runs (rest_at r.at) (view_of r.next t)) (run_in left f d r t)

  -- behind one submessage
  behind_one : (left : ℕ) → Goes left → (t : Tables) (y : agent.Ran) (at : ℕ) (x : Turned) (ys : List Item) → Turns t y at x → at ≤ length d → items_at d at ≡ items ys → length d - at ≤ left
      → RunSquare f d t y (before x (λ r' t'. run_in left f d r' t'))
  behind_one left go t y at x ys q in-it reads h = subst (λ (z : agent.Ran). RunSquare f d t z (before x (λ r' t'. run_in left f d r' t'))) (sym q.goes) (by x.ran.stop refl)
    where
      within : x.ran.at ≤ length d
      within = let b = q.place in omega (arith, b, in-it)

      e : items_at d x.ran.at ≡ items ys
      e = ap (items_at d) q.place ∙ reads

      stops : is_call x.ran.stop ≡ true → run_in left f d x.ran x.tables ≡ idle_run x.ran x.tables
      stops z = run_ends left x.ran x.tables (ap (λ (b : Bool). cond b false (ltb x.ran.at (length d))) z)

      -- a call ends the run
      called : is_call x.ran.stop ≡ true
          → RunSquare f d t (record { tables = view_of x.ran.next x.tables; replies = x.replies; stop = stop_as f d x.tables.rebuilt x.ran.stop x.ran.at }) (before x (λ r' t'. run_in left f d r' t'))
      called z =
          rw (stops z)
          record { tables = refl; replies = sym (append-nil x.replies); stop = refl; led = q.led; low = q.low; high = q.high; within = within; reads = (ys, e); kept = q.kept }

      by : (s : Stop) → x.ran.stop ≡ s → RunSquare f d t (onward_from s x) (before x (λ r' t'. run_in left f d r' t'))
      by stop.Nothing z =
          let b = q.place in
          let y = go x.ran x.tables ys q.led.sound z q.low q.high within e (omega (arith, b, h)) in
          record {
            tables = y.tables;
            replies = ap (λ (rs : List Reply). x.replies ++ rs) y.replies;
            stop = y.stop;
            led = led_on q.led y.led;
            low = y.low;
            high = y.high;
            within = y.within;
            reads = y.reads;
            kept = y.kept;
          }
      by (stop.Call number task call) z =
          subst (λ (s : Stop). RunSquare f d t (record { tables = view_of x.ran.next x.tables; replies = x.replies; stop = stop_as f d x.tables.rebuilt s x.ran.at }) (before x (λ r' t'. run_in left f d r' t'))) z
          (called (ap is_call z))
      by (stop.Inside number task call a c) z =
          subst (λ (s : Stop). RunSquare f d t (record { tables = view_of x.ran.next x.tables; replies = x.replies; stop = stop_as f d x.tables.rebuilt s x.ran.at }) (before x (λ r' t'. run_in left f d r' t'))) z
          (called (ap is_call z))

  goes_on_lem : (left : ℕ) → Goes left
  goes_on_lem zero r t ys sound idle low high within e h =
      subst (λ (x : Turned). RunSquare f d t (runs (rest_at r.at) (view_of r.next t)) x)
      (sym (run_ends zero r t (idle_goes r idle ∙ le-ltb r.at (length d) (omega arith))))
      (ended r t sound idle low high within ys e (omega arith))
  goes_on_lem (suc left) r t ys sound idle low high within e h = by (ltb r.at (length d)) refl (goes_on_lem left)
    where
      inside : r.at < length d → Goes left → (q : Result (Submessage × Span × Cursor) Refusal) → read_at d r.at ≡ q → RunSquare f d t (runs (rest_at r.at) (view_of r.next t)) (before (turned f t d r) (λ r' t'. run_in left f d r' t'))
      inside k go (Err x) g = absurd (items_not ys x (sym (items_more d r.at k ∙ ap (λ (q : Result (Submessage × Span × Cursor) Refusal). onward q (items_at d)) g) ∙ e))
      inside k go (Ok (m, x, c)) g = on (items_at d c.at) refl
        where
          on : (i : Items) → items_at d c.at ≡ i → RunSquare f d t (runs (rest_at r.at) (view_of r.next t)) (before (turned f t d r) (λ r' t'. run_in left f d r' t'))
          on (stopped z) j = absurd (items_not ys z (sym (items_more d r.at k ∙ ap (λ (q : Result (Submessage × Span × Cursor) Refusal). onward q (items_at d)) g ∙ ap (λ (i : Items). heads (record { says = m; span = x }) i) j) ∙ e))
          on (items zs) j =
              let p = read_placed d r.at m x c g in
              let a = p.ahead in
              let q = read_turns t sound r idle low high m x c g in
              subst (λ (ss : List (Sub Opening In)). RunSquare f d t (runs ss (view_of r.next t)) (before (turned f t d r) (λ r' t'. run_in left f d r' t'))) (sym (subs_more f.moment n d r.at m x c zs k g j))
              (behind_one left go t (runs (sub_from f.moment n m (part_of d x) ∷ rest_at c.at) (view_of r.next t)) c.at (turned f t d r) zs q p.within j (omega (arith, a, h)))

      by : (b : Bool) → ltb r.at (length d) ≡ b → Goes left → RunSquare f d t (runs (rest_at r.at) (view_of r.next t)) (run_in (suc left) f d r t)
      by true q go = subst (λ (x : Turned). RunSquare f d t (runs (rest_at r.at) (view_of r.next t)) x) (sym (run_more left r t (idle_goes r idle ∙ q))) (inside (ltb-true r.at (length d) q) go (read_at d r.at) refl)
      by false q go = subst (λ (x : Turned). RunSquare f d t (runs (rest_at r.at) (view_of r.next t)) x) (sym (run_ends (suc left) r t (idle_goes r idle ∙ q))) (ended r t sound idle low high within ys e (ltb-false r.at (length d) q))

  -- the run from a place of a datagram that was checked
  pub run_square : (r : Ran) (t : Tables) (ys : List Item) → SoundTables SoundStream max t → r.stop ≡ stop.Nothing → 1 ≤ r.next → r.next ≤ 255 → r.at ≤ length d → items_at d r.at ≡ items ys
      → RunSquare f d t (run max f.session_id (subs_at f.moment f.stream_id d r.at) (view_of r.next t)) (run_at f d r t)
  unfolding run_at
  run_square r t ys sound idle low high within e = goes_on_lem (length d - r.at) r t ys sound idle low high within e (omega arith)

  -- and behind what begins it
  pub turns_on : (t : Tables) (y : agent.Ran) (at : ℕ) (x : Turned) (ys : List Item) → Turns t y at x → at ≤ length d → items_at d at ≡ items ys → RunSquare f d t y (before x (λ r' t'. run_at f d r' t'))
  unfolding run_at
  turns_on t y at x ys q within e =
      let b = q.place in behind_one (length d - x.ran.at) (goes_on_lem (length d - x.ran.at)) t y at x ys q within e (omega (arith, b))
