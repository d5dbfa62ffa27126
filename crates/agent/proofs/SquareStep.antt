-- The square of one call of the host: what the entry points' definitions leave, read as the step over lists has it, is what that step leaves.
use Prim.Native.Nat.{ℕ, ◌+◌, ◌<◌, ◌≤◌}
use mathlib.Core.Path.{◌≡◌, refl, sym, ap, ◌∙◌, subst}
use mathlib.Core.Bool.{Bool, true, false, cond}
use mathlib.Core.List.{List, [], map}
use native.Mathlib.Omega.{arith}
use borrow.Author.Tests.{ltb-true, ltb-false, lt-ltb, le-ltb, le-leb, leb-true, leb-false, ne_eqb}
use lib.Dec.{leb, ltb}
use lib.ListN.{length, get_or}
use Rattle.codec.specs.Bytes.{AllBytes, put_at}
use Rattle.codec.specs.Header.{header_of}
use Rattle.codec.specs.Reading.{Item, Items, items, stopped, Message, message, refused, under, message_of, checked_of, count_at, check_of, items_at}
use Rattle.codec.specs.Grammar.{said_in, reading_of, reading}
use Rattle.codec.specs.Rebuilt.{rebuilt_at}
use Rattle.codec.specs.Refusals.{number_of, byte_of}
use Rattle.codec.specs.declared.refusals.Refusal.{Refusal}
use Rattle.codec.specs.declared.refusals.Refusal.TheVariants.{BufferTooShort, OutOfTurn, OverLimit, TooLong, StoreFull, OutputTooShort, NoSuchMinute, WindowFault}
use Rattle.codec.proofs.reading.Laws.{items_end}
use Rattle.codec.proofs.rebuilt.Laws.{rebuilt_is}
use Rattle.isolation.specs.Rules.{Sub}
use Rattle.hours.specs.Windows.{Window, week_minutes, is_open, all_fit, checked_of as checkedWindows}
use Rattle.hours.specs.Week.{is_minute, kept_hours, open_in}
use Rattle.hours.proofs.Promises.{opens_same}
use Rattle.hours.proofs.week.Laws.{length_kept, kept_week}
use Rattle.sessions.specs.Limits.{limits_of}
use Rattle.sessions.specs.Setup.{set_up_of, leaves}
use Rattle.sessions.specs.Sweep.{expired_ids, evicted_rows, swept_rows}
use Rattle.sessions.specs.Table.{is_free, ended_rows}
use Rattle.sessions.specs.View.{Tables, Local, local_of, absent}
use Rattle.sessions.specs.Calls.{SoundTables, SoundStream, with_sessions, set_up_tables}
use Rattle.streams.proofs.Soundness.{sound_limits}
use Rattle.sessions.proofs.Calls.{within_limits}
use Rattle.sessions.proofs.Empty.{long, first_is}
use Rattle.sessions.proofs.Reached.{free_view, named_when}
use Rattle.sessions.proofs.SoundStreams.{stream_lasts}
use Rattle.sessions.proofs.Steps.{remove_led, sweep_led, ready_led}
use Rattle.moves.specs.Calls as calls
use Rattle.moves.specs.Calls.{fits}
use Rattle.moves.specs.Proxy.{call_as, answer_as, task_as}
use Rattle.agent.specs.Brings.{Opening, In, moment_of}
use Rattle.agent.specs.Lent.{rebuilt_part}
use Rattle.agent.specs.Place.{subs_at, ins_at}
use Rattle.agent.specs.RulesFragments.{resumed}
use Rattle.agent.specs.Step as step
use Rattle.agent.specs.Step.{Reply, joined_replies, with_id, run, continued, settle, begin, stays, lapsed_ids, is_live, empty_agent, call_of, open_of, with_tables, with_locals}
use Rattle.agent.specs.Run.{Turned, work_in, work_at, run_at}
use Rattle.agent.specs.Judge as judge
use Rattle.agent.specs.Judge.{record_sound, datagram_start, answer_start, answer_slot, placed_judged, checked_judged, minute_judged, datagram_judged, rest_judged, answer_judged, session_of, stream_of, slot_of, left_kept, is_read, judged_by, judge_of}
use Rattle.agent.specs.Host as host
use Rattle.agent.specs.Host.{Leaves, performed, finished_of, finish, processed_by, process_of, idle_of, removed_as, removed_by, removed_rows, set_up_by, set_up_as, no_given}
use Rattle.agent.specs.Whole.{State, Event, datagram, answer, removal, sweep, Did, did_by, removed_result, with_rows, step_of, session_in, agent_of, event_of, set_up_with, empty_of}
use Rattle.agent.specs.declared.judge.Input.TheVariants as input
use Rattle.agent.specs.declared.judge.Start.{Start}
use Rattle.agent.specs.declared.judge.Turn.TheVariants as turn
use Rattle.moves.specs.declared.proxy.BridgeAnswer.{BridgeAnswer}
use Rattle.moves.specs.declared.proxy.BridgeAnswer.TheVariants.{Created, Done, Sample, NoSample, Failed}
use Rattle.moves.specs.declared.proxy.Task.{Task}
use Rattle.moves.specs.declared.proxy.Task.TheVariants.{Creating, Writing, Reading, Deleting}
use Rattle.agent.specs.declared.state.Agent.{Agent}
use Rattle.agent.specs.declared.state.Given.{Given}
use Rattle.agent.specs.declared.state.Moment.{Moment}
use Rattle.agent.specs.declared.state.Pending.{Pending}
use Rattle.agent.specs.declared.turn.Frame.{Frame}
use Rattle.agent.specs.declared.turn.Ran.{Ran}
use Rattle.agent.specs.declared.turn.Stop.{Stop}
use Rattle.agent.specs.declared.turn.Stop.TheVariants as stop
use Rattle.agent.proofs.CallRoom.{RoomAt, StopRoom, stop_room, continued_room}
use Rattle.agent.proofs.MoveBytes.{data_payload_long}
use Rattle.agent.proofs.Place.{ins_end, whole_as}
use Rattle.agent.proofs.Planned.{sweep_to, swept_as}
use Rattle.agent.proofs.Performed.{performed_told}
use Rattle.agent.proofs.Square.{shown_live, live_shown, same_local}
use Rattle.agent.proofs.SquareAnswer.{resumes_acts, resumes_quiet}
use Rattle.agent.proofs.Written.{none_part}
use Rattle.agent.proofs.SquareFragments.{Left, Acts}
use Rattle.agent.proofs.SquareHeld.{held_same}
use Rattle.agent.proofs.SquareHost.{empty_view, remove_view, swept_view, swept_ids}
use Rattle.agent.proofs.SquareOpen.{view_of, at_in}
use Rattle.agent.proofs.SquareRebuilt.{asked_as}
use Rattle.agent.proofs.SquareRun.{stop_as, StopKept, RunSquare, Turns, session_turns, turns_on, run_square}
use Rattle.std.specs.Prelude.{Err, None, Ok, Result, Some, Option}
use Rattle.codec.specs.declared.header.MessageHeader.{MessageHeader}

-- ---- what holds of all states that calls lead to

-- the open call: its datagram reads from its place on, and so do rebuilt bytes (W6); and what its answer may list has room
pub record WaitsFor (t : Tables) (d : List ℕ) (p : Pending) : Type 0 where
  pub session_in_lem : p.session_id < 256
  pub stream_in_lem : p.stream_id < 256
  pub within : p.at ≤ length d
  pub reads : (ys : List Item) × (items_at d p.at ≡ items ys)
  pub left : Left t.rebuilt p.left_at p.left_end
  pub room : RoomAt (task_as p.task) p.number.0 (session_in t p.session_id)

abbrev pub Waits : Tables → List ℕ → Option Pending → Type 0
Waits t d None = Unit {0}
Waits t d (Some p) = WaitsFor t d p

pub record Inv (st : State) : Type 0 where
  pub few : st.agent.max_clients ≤ 255
  pub low : 1 ≤ st.agent.next
  pub high : st.agent.next ≤ 255
  pub sound : SoundTables SoundStream st.agent.max_clients st.tables
  pub week : week_minutes ≤ length st.hours
  pub waits : Waits st.tables st.lent st.agent.waits

-- a call's result against the step's over lists, and the state that it leaves
pub record Same (c : Did) (d : step.Did) : Type 0 where
  pub agent : agent_of c.state ≡ d.agent
  pub out : c.out ≡ d.out
  pub result : c.result ≡ d.result
  pub inv : Inv c.state

refuses : (st : State) (d out : List ℕ) (r : Refusal) → Inv st → Same (did_by st.hours d st.lent (host.refuse st.agent st.tables out r)) (step.refuse (agent_of st) out (number_of r) (byte_of r))
refuses st d out r v = record { agent = refl; out = refl; result = refl; inv = v }

-- ---- behind a run: 13, or the replies and what is open then

module _ (st : State) (v : Inv st) (out d : List ℕ) (x : Start) (session_in_lem : x.frame.session_id < 256) (stream_in_lem : x.frame.stream_id < 256)
    (most-is : x.frame.max_clients ≡ st.agent.max_clients) where
  abbrev f : Frame
  f = x.frame

  abbrev turned_as : ℕ → ℕ → ℕ → Stop → Tables → List Reply → Turned
  turned_as next at wrote s t rs = record { ran = record { next = next; at = at; wrote = wrote; stop = s }; tables = t; replies = rs }

  abbrev leaves_as : Bool → Turned → Leaves
  leaves_as b y =
      cond b (host.refuse st.agent st.tables out OutputTooShort)
      (record { processed = finished_of st.agent x y.ran; tables = y.tables; out = put_at out 0 (joined_replies y.replies); replies = y.replies })

  abbrev ran_as : ℕ → ℕ → Stop → Tables → List Reply → step.Ran
  ran_as next at s t rs = record { tables = view_of next t; replies = rs; stop = stop_as f d t.rebuilt s at }

  abbrev settled_as : Bool → step.Ran → step.Did
  settled_as b r =
      cond b (step.refuse (agent_of st) out 13 0)
      (record { agent = with_tables (agent_of st) r.tables (open_of r.stop); out = put_at out 0 (joined_replies r.replies); result = step.ran r.replies (call_of r.stop) })

  module _ (next at wrote : ℕ) (t : Tables) (rs : List Reply) (low : 1 ≤ next) (high : next ≤ 255) (within : at ≤ length d) (reads : (ys : List Item) × (items_at d at ≡ items ys))
      (sound : SoundTables SoundStream st.agent.max_clients t) where
    -- where no rebuilt submessage waits there is None
    none_left : ins_at f.moment f.stream_id (rebuilt_part t.rebuilt 0) 0 ≡ []
    none_left = ins_end f.moment f.stream_id (rebuilt_part t.rebuilt 0) 0 (let z = ap length (none_part t.rebuilt) in omega (arith, z))

    none_reads : Left t.rebuilt 0 0
    none_reads = record { few = omega arith; within = omega arith; said = []; reads = items_end (rebuilt_part t.rebuilt 0) 0 (let z = ap length (none_part t.rebuilt) in omega (arith, z)); none_barred = refl }

    finishes : (s : Stop) (b : Bool) → StopKept t.rebuilt s → StopRoom (stop_as f d t.rebuilt s at) (view_of next t) → Same (did_by st.hours d st.lent (leaves_as b (turned_as next at wrote s t rs))) (settled_as b (ran_as next at s t rs))
    finishes s true k e = refuses st d out OutputTooShort v
    finishes stop.Nothing false k e =
        record { agent = refl; out = refl; result = refl; inv = record { few = v.few; low = low; high = high; sound = sound; week = v.week; waits = tt } }
    finishes (stop.Call number task call) false k e =
        record {
          agent = ap (λ (left : List In). with_tables (agent_of st) (view_of next t) (Some (record { session = f.session_id; pending = record { asked = asked_as f number task; left = left }; rest = subs_at f.moment f.stream_id d at }))) none_left;
          out = refl;
          result = refl;
          inv = record { few = v.few; low = low; high = high; sound = sound; week = v.week; waits = record { session_in_lem = session_in_lem; stream_in_lem = stream_in_lem; within = within; reads = reads; left = none_reads; room = e } };
        }
    finishes (stop.Inside number task call a c) false k e =
        record {
          agent = refl;
          out = refl;
          result = let h = k.0 in ap (λ (b : Bool). step.ran rs (Some (call_as (cond b d (rebuilt_part t.rebuilt c)) call))) (ne_eqb c 0 (λ z. omega (arith, z, h)));
          inv = record { few = v.few; low = low; high = high; sound = sound; week = v.week; waits = record { session_in_lem = session_in_lem; stream_in_lem = stream_in_lem; within = within; reads = reads; left = k.1; room = e } };
        }

  settles : (t : Tables) (y : Turned) (r : step.Ran) → ltb (length out) y.ran.wrote ≡ ltb (length out) (length (joined_replies y.replies)) → RunSquare f d t r y → StopRoom r.stop r.tables
      → Same (did_by st.hours d st.lent (finish st.agent st.tables out x y)) (settle (agent_of st) out r)
  settles t y r w q e =
      let z : r ≡ ran_as y.ran.next y.ran.at y.ran.stop y.tables y.replies = λ i. record { tables = q.tables i; replies = q.replies i; stop = q.stop i } in
      subst (λ (r : step.Ran). Same (did_by st.hours d st.lent (finish st.agent st.tables out x y)) (settle (agent_of st) out r)) (sym z)
      (subst (λ (b : Bool). Same (did_by st.hours d st.lent (leaves_as b y)) (settle (agent_of st) out (ran_as y.ran.next y.ran.at y.ran.stop y.tables y.replies))) (sym w)
      (finishes y.ran.next y.ran.at y.ran.wrote y.tables y.replies q.low q.high q.within q.reads (subst (λ (m : ℕ). SoundTables SoundStream m y.tables) most-is q.led.sound)
      y.ran.stop (ltb (length out) (length (joined_replies y.replies))) q.kept (subst (λ (r : step.Ran). StopRoom r.stop r.tables) z e)))

-- ---- an answer in its turn, and 12

fits_same : (task : Task) (b : BridgeAnswer) (sample : List ℕ) → fits (task_as task) (answer_as b sample) ≡ fits (task_as task) (answer_as b [])
fits_same task (Created h) sample = refl
fits_same task Done sample = refl
fits_same (Creating kind parent) Sample sample = refl
fits_same Writing Sample sample = refl
fits_same Reading Sample sample = refl
fits_same Deleting Sample sample = refl
fits_same task NoSample sample = refl
fits_same task Failed sample = refl

long_same : (p : calls.Pending) (b : BridgeAnswer) (sample : List ℕ) → step.too_long p (answer_as b sample) ≡ judge.too_long b (length sample)
long_same p (Created h) sample = refl
long_same p Done sample = refl
long_same p Sample sample = ap (λ (k : ℕ). ltb 65535 k) (data_payload_long p.number sample) ∙ by (ltb 65533 (length sample)) refl
  where
    by : (b : Bool) → ltb 65533 (length sample) ≡ b → ltb 65535 (2 + length sample) ≡ b
    by true e = let h = ltb-true 65533 (length sample) e in lt-ltb 65535 (2 + length sample) (omega (arith, h))
    by false e = let h = ltb-false 65533 (length sample) e in le-ltb 65535 (2 + length sample) (omega (arith, h))
long_same p NoSample sample = refl
long_same p Failed sample = refl

-- ---- 16 is never answered

module _ (t : Tables) (max : ℕ) (sound : SoundTables SoundStream max t) (timeout next : ℕ) (few : max ≤ 255) (low : 1 ≤ next) (high : next ≤ 255) (hours : List ℕ) (week : week_minutes ≤ length hours) (lent : List ℕ) where
  abbrev agent_with : Option Pending → Agent
  agent_with w = record { max_clients = max; timeout_ms = timeout; next = next; waits = w }

  abbrev state_with : Option Pending → State
  state_with w = record { agent = agent_with w; tables = t; hours = hours; lent = lent }

  record_sound_lem : (w : Option Pending) → record_sound (agent_with w) ≡ true
  record_sound_lem w = rw (le-ltb 255 max few, ne_eqb next 0 (λ e. omega arith)) refl

  limits : (id n : ℕ) → id < 256 → limits_of t.sessions t.streams t.objects (length t.held) (length t.parts) t.lengths (length t.rebuilt) max id n ≡ (Ok tt)
  limits id n h = within_limits SoundStream stream_lasts max (λ s w. sound_limits s w.sound) t sound few id n h

  free : idle_of None (agent_with None) ≡ (Ok tt)
  free = ap (λ (b : Bool). cond b (Ok tt) (Err OverLimit)) (record_sound_lem None)

  -- ---- a datagram

  module _ (given : Given) (d out : List ℕ) (small : AllBytes d) where
    abbrev moment : Moment
    moment = moment_of (open_in hours) given

    abbrev a : Agent
    a = agent_with None

    abbrev st : State
    st = state_with None

    v : Inv st
    v = record { few = few; low = low; high = high; sound = sound; week = week; waits = tt }

    first_in : get_or d 0 0 < 256
    unfolding AllBytes
    first_in = small 0

    second_in : get_or d 1 0 < 256
    unfolding AllBytes
    second_in = small 1

    abbrev room : ℕ
    room = length out

    judge_datagram : judge_of t hours d a input.Datagram given 0 room ≡ minute_judged hours d a given room
    unfolding judge_of
    judge_datagram =
        ap (λ (l : Result (Unit {0}) Refusal). datagram_judged hours d a l given room) (limits (get_or d 0 0) (get_or d 1 0) first_in)
        ∙ ap (λ (b : Bool). cond b (cond (ltb (length hours) week_minutes) (Err OverLimit) (minute_judged hours d a given room)) (Err OverLimit)) (record_sound_lem None)
        ∙ ap (λ (b : Bool). cond b (Err OverLimit) (minute_judged hours d a given room)) (le-ltb (length hours) week_minutes week)

    abbrev Goes : Message → Type 0
    Goes m = Same (did_by hours d lent (processed_by (checked_judged a moment room (checked_of m)) a t out d [])) (begin (agent_of st) out given (reading_of d m))

    -- where no answer comes first and no rebuilt submessage waits, all of it is the run
    performed_is : (x : Start) → x.resumes ≡ None → x.left_at ≡ 0 → x.left_end ≡ 0
        → performed x t d [] ≡ run_at x.frame d (record { next = x.next; at = x.at; wrote = 0; stop = stop.Nothing }) t
    unfolding performed host.resumed_acted work_at work_in joined_replies
    performed_is x a b c = rw (a, b, c, none_part t.rebuilt) refl

    message_goes : (xs : List Item) → 4 < length d → items_at d 4 ≡ items xs → message_of d ≡ message (header_of d) xs → Goes (message (header_of d) xs)
    unfolding header_of reading
    message_goes xs h e m =
        let head = header_of d in
        let x = datagram_start a moment head room in
        let r : Ran = record { next = next; at = 4; wrote = 0; stop = stop.Nothing } in
        let p = performed_is x refl refl refl in
        let q = run_square x.frame d few first_in second_in r t xs sound refl low high (omega arith) e in
        subst (λ (ss : List (Sub Opening In)). Same (did_by hours d lent (finish a t out x (performed x t d []))) (settle (agent_of st) out (run max head.session_id ss (view_of next t))))
        (sym (whole_as moment d head (map (said_in d) xs) (ap (reading_of d) m)))
        (settles st v out d x first_in second_in refl t (performed x t d []) (run max head.session_id (subs_at moment head.stream_id d 4) (view_of next t))
        (performed_told x t d []) (subst (RunSquare x.frame d t (run max head.session_id (subs_at moment head.stream_id d 4) (view_of next t))) (sym p) q)
        (stop_room max head.session_id (subs_at moment head.stream_id d 4) (view_of next t)))

    message_is : (b : Bool) → leb (length d) 4 ≡ b → (i : Items) → items_at d 4 ≡ i → message_of d ≡ cond b (refused BufferTooShort) (under (header_of d) i)
    unfolding message_of
    message_is b e i q =
        ap (λ (b : Bool). cond b (refused BufferTooShort) (under (header_of d) (items_at d 4))) e
        ∙ ap (λ (i : Items). cond b (refused BufferTooShort) (under (header_of d) i)) q

    goes : (b : Bool) → leb (length d) 4 ≡ b → (i : Items) → items_at d 4 ≡ i → Goes (message_of d)
    goes true e i q = subst Goes (sym (message_is true e i q)) (refuses st d out BufferTooShort v)
    goes false e (stopped r) q = subst Goes (sym (message_is false e (stopped r) q)) (refuses st d out r v)
    goes false e (items xs) q = let m = message_is false e (items xs) q in subst Goes (sym m) (message_goes xs (leb-false (length d) 4 e) q m)

    -- 20, or the datagram's bytes are looked at
    minute_goes : (b : Bool)
        → Same (did_by hours d lent (processed_by (cond b (checked_judged a moment room (check_of d)) (Err NoSuchMinute)) a t out d []))
        (cond b (begin (agent_of st) out given (reading_of d (message_of d))) (step.refuse (agent_of st) out 20 0))
    unfolding check_of
    minute_goes true = goes (leb (length d) 4) refl (items_at d 4) refl
    minute_goes false = refuses st d out NoSuchMinute v

    datagram_same : Same (step_of st (datagram given d small) out) (step.step (agent_of st) (step.datagram given d) out)
    unfolding step_of process_of step.step reading
    datagram_same =
        subst (λ (j : Result (Start × ℕ) Refusal). Same (did_by hours d lent (processed_by j a t out d [])) (cond (is_minute given.day given.minute) (begin (agent_of st) out given (reading_of d (message_of d))) (step.refuse (agent_of st) out 20 0)))
        (sym judge_datagram) (minute_goes (is_minute given.day given.minute))

  -- ---- a removal and a sweep

  idle_inv : (t' : Tables) → SoundTables SoundStream max t' → Inv (record { agent = agent_with None; tables = t'; hours = hours; lent = lent })
  idle_inv t' s = record { few = few; low = low; high = high; sound = s; week = week; waits = tt }

  removal_same : (id : ℕ) (small : id < 256) (out : List ℕ) → Same (step_of (state_with None) (removal id small) out) (step.step (agent_of (state_with None)) (step.removal id) out)
  unfolding step_of step.step put_at
  removal_same id small out =
      subst (λ (i : Result (Unit {0}) Refusal). Same (removes i) (lists (ltb (length out) 0))) (sym free)
      (subst (λ (b : Bool). Same (removes (Ok tt)) (lists b)) (sym (le-ltb (length out) 0 (omega arith)))
      record {
        agent = ap (λ (u : step.Tables). record { max = max; timeout = timeout; is_open = open_in hours; tables = u; waits = None }) (remove_view t sound next id small);
        out = refl;
        result = ap (λ (w : Result Bool Refusal). removed_result (removed_as w)) (named_when t.sessions id sound.sessions_need_lem) ∙ live_is (is_free t.sessions id) refl;
        inv = idle_inv (with_sessions t (ended_rows t.sessions id)) (remove_led SoundStream stream_lasts max t sound id small).sound;
      })
    where
      removes : Result (Unit {0}) Refusal → Did
      removes i = record { state = with_rows (state_with None) (removed_rows i t.sessions id); out = out; result = removed_result (removed_by i t.sessions id) }

      lists : Bool → step.Did
      lists b =
          cond b (step.refuse (agent_of (state_with None)) out 13 0)
          (record { agent = with_locals (agent_of (state_with None)) (with_id id None (session_in t)); out = put_at out 0 []; result = step.removed (is_live (session_in t id)) })

      live_is : (b : Bool) → is_free t.sessions id ≡ b → removed_result (removed_as (cond b (Ok false) (Ok true))) ≡ step.removed (is_live (session_in t id))
      live_is true e = let z : local_of t id ≡ None = rw e refl in sym (ap (λ (x : Option Local). step.removed (is_live x)) (at_in t id small ∙ z))
      live_is false e = sym (ap (λ (x : Option Local). step.removed (is_live x)) (at_in t id small ∙ shown_live t id e))

  swept_sound : (now : ℕ) (out : List ℕ) → leb 256 (length t.sessions) ≡ true → ltb (length out) (length (expired_ids t.sessions now timeout)) ≡ false → SoundTables SoundStream max (with_sessions t (swept_rows t.sessions now timeout))
  unfolding evicted_rows
  swept_sound now out need e =
      let s = t.sessions in
      let z : evicted_rows s now timeout out ≡ swept_rows s now timeout =
      ap (λ (f : Bool). cond f (cond (ltb (length out) (length (expired_ids s now timeout))) s (swept_rows s now timeout)) s) need ∙ ap (λ (b : Bool). cond b s (swept_rows s now timeout)) e in
      subst (λ (rows : List (List ℕ)). SoundTables SoundStream max (with_sessions t rows)) z (sweep_led SoundStream stream_lasts max t sound now timeout out).sound

  sweep_same : (now : ℕ) (out : List ℕ) → Same (step_of (state_with None) (sweep now) out) (step.step (agent_of (state_with None)) (step.sweep now) out)
  unfolding step.step
  sweep_same now out =
      subst (λ (d : Did). Same d (lists (lapsed_ids timeout now (session_in t)))) (sym (swept_as (state_with None) now out free need))
      (subst (λ (is : List ℕ). Same (sweep_to (state_with None) now (ltb (length out) (length ids)) out) (lists is)) (swept_ids t sound now timeout) (by (ltb (length out) (length ids)) refl))
    where
      need : leb 256 (length t.sessions) ≡ true
      need = le-leb 256 (length t.sessions) sound.sessions_need_lem

      ids : List ℕ
      ids = expired_ids t.sessions now timeout

      lists : List ℕ → step.Did
      lists is = step.finish (agent_of (state_with None)) out (with_locals (agent_of (state_with None)) (λ i. stays timeout now (session_in t i))) is (step.swept is)

      lists_if : Bool → step.Did
      lists_if b =
          cond b (step.refuse (agent_of (state_with None)) out 13 0)
          (record { agent = with_locals (agent_of (state_with None)) (λ i. stays timeout now (session_in t i)); out = put_at out 0 ids; result = step.swept ids })

      by : (b : Bool) → ltb (length out) (length ids) ≡ b → Same (sweep_to (state_with None) now b out) (lists_if b)
      by true e = record { agent = refl; out = refl; result = refl; inv = idle_inv t sound }
      by false e =
          record {
            agent = ap (λ (u : step.Tables). record { max = max; timeout = timeout; is_open = open_in hours; tables = u; waits = None }) (swept_view t sound now timeout next);
            out = refl;
            result = refl;
            inv = idle_inv (with_sessions t (swept_rows t.sessions now timeout)) (swept_sound now out need e);
          }

  -- ---- an answer, and what is out of turn

  module _ (p : Pending) (w : WaitsFor t lent p) where
    abbrev busy : State
    busy = state_with (Some p)

    busy_inv : Inv busy
    busy_inv = record { few = few; low = low; high = high; sound = sound; week = week; waits = w }

    module _ (b : BridgeAnswer) (sample out : List ℕ) where
      abbrev c : Agent
      c = agent_with (Some p)

      abbrev x : Start
      x = answer_start c p b (length out)

      abbrev n : ℕ
      n = length sample

      abbrev session : ℕ
      session = p.session_id

      abbrev rest : List (Sub Opening In)
      rest = subs_at p.moment p.stream_id lent p.at

      abbrev left : List In
      left = ins_at p.moment p.stream_id (rebuilt_part t.rebuilt p.left_end) p.left_at

      abbrev waits : step.Open
      waits = record { session = session; pending = record { asked = record { stream = p.stream_id; number = p.number.0; task = task_as p.task }; left = left }; rest = rest }

      abbrev goes_on : Result (Start × ℕ) Refusal
      goes_on = Ok (x, (length w.reads.0))

      abbrev place : Result (Option ℕ) Refusal
      place = answer_slot p b t.sessions t.streams (length t.held) n

      abbrev rest_as : Result (Start × ℕ) Refusal
      rest_as = cond (judge.too_long b n) (Err TooLong) (placed_judged place goes_on)

      -- rebuilt bytes are as they were when the call was handed out
      left_kept_lem : left_kept (rebuilt_part t.rebuilt p.left_end) p ≡ true
      left_kept_lem =
          let s = rebuilt_part t.rebuilt p.left_end in
          let q = w.left in
          ap (λ (e : Bool). cond e false (cond (ltb (length s) p.left_at) false (is_read (rebuilt_at s p.left_at)))) (le-ltb 32768 p.left_end q.few)
          ∙ ap (λ (e : Bool). cond e false (is_read (rebuilt_at s p.left_at))) (le-ltb (length s) p.left_at q.within)
          ∙ ap is_read (rebuilt_is s p.left_at q.said q.reads q.none_barred)

      rest_judged_lem : answer_judged lent t.rebuilt c (Ok tt) p b n place (length out) ≡ rest_as
      unfolding count_at
      rest_judged_lem =
          ap (λ (e : Bool). cond e (cond (left_kept (rebuilt_part t.rebuilt p.left_end) p) judges_rest (Err OverLimit)) (Err OverLimit)) (record_sound_lem (Some p))
          ∙ ap (λ (e : Bool). cond e judges_rest (Err OverLimit)) left_kept_lem
          ∙ ap (λ (e : Bool). cond e (Err OverLimit) (judges (count_at (judge.header_of p) lent p.at))) (le-ltb (length lent) p.at w.within)
          ∙ ap (λ (i : Items). judges (checked_of (under (judge.header_of p) i))) w.reads.1
        where
          judges : Result (MessageHeader × ℕ) Refusal → Result (Start × ℕ) Refusal
          judges k = rest_judged c p b n place (length out) k

          judges_rest : Result (Start × ℕ) Refusal
          judges_rest = cond (ltb (length lent) p.at) (Err OverLimit) (judges (count_at (judge.header_of p) lent p.at))

      judge_answer : judge_of t [] lent c (input.Answer b) no_given n (length out) ≡ cond (fits (task_as p.task) (answer_as b [])) rest_as (Err OutOfTurn)
      unfolding judge_of
      judge_answer = by (fits (task_as p.task) (answer_as b []))
        where
          by : (e : Bool)
              → (let x = cond e (Ok (turn.Answer p b)) (Err OutOfTurn) in
              judged_by [] lent t.rebuilt c (limits_of t.sessions t.streams t.objects (length t.held) (length t.parts) t.lengths (length t.rebuilt) max (session_of lent x) (stream_of lent x)) x no_given n (slot_of x t.sessions t.streams (length t.held) n) (length out))
              ≡ cond e rest_as (Err OutOfTurn)
          by true = ap (λ (l : Result (Unit {0}) Refusal). answer_judged lent t.rebuilt c l p b n place (length out)) (limits session p.stream_id w.session_in_lem) ∙ rest_judged_lem
          by false = refl

      -- 14
      abbrev over : Bool
      over = step.over_held waits (answer_as b sample) (view_of next t)

      answer_goes : over ≡ false → Same (did_by hours lent lent (finish c t out x (performed x t lent sample))) (settle (agent_of busy) out (continued max waits (answer_as b sample) (view_of next t)))
      unfolding performed
      answer_goes held =
          settles busy busy_inv out lent x w.session_in_lem w.stream_in_lem refl t (performed x t lent sample) (continued max waits (answer_as b sample) (view_of next t)) (performed_told x t lent sample)
          (turns_on f lent few w.session_in_lem w.stream_in_lem t (continued max waits (answer_as b sample) (view_of next t)) p.at (host.resumed x t sample) w.reads.0 begins w.within w.reads.1)
          (continued_room max waits (answer_as b sample) (view_of next t))
        where
          f : Frame
          f = x.frame

          begins : Turns f lent few w.session_in_lem w.stream_in_lem t (continued max waits (answer_as b sample) (view_of next t)) p.at (host.resumed x t sample)
          begins =
              session_turns f lent few w.session_in_lem w.stream_in_lem t sound next low high p.at (λ l. resumed l waits.pending (answer_as b sample)) (host.resumed x t sample)
              (λ l e. let live = live_shown t session l e in let same = same_local t session l e in
              subst (λ (l : Local). Acts f lent t next p.at (resumed l waits.pending (answer_as b sample)) (host.resumed x t sample)) same
              (resumes_acts t f sound few w.session_in_lem w.stream_in_lem p.number p.task b sample lent next p.at p.left_at p.left_end w.left rest live
              (subst (RoomAt (task_as p.task) p.number.0) (at_in t session w.session_in_lem ∙ shown_live t session live) w.room) held))
              (λ e. resumes_quiet t f sound few w.session_in_lem w.stream_in_lem p.number p.task b sample lent next p.at p.left_at p.left_end w.left (free_view t session ∙ ap absent e))

      answer_same : Same (step_of busy (answer b sample) out) (step.step (agent_of busy) (step.answer (answer_as b sample)) out)
      unfolding step_of process_of step.step
      answer_same =
          subst (λ (j : Result (Start × ℕ) Refusal). Same (judges j) (steps fitting long over)) (sym judge_answer)
          (subst (λ (e : Bool). Same (judges (cond fitted rest_as (Err OutOfTurn))) (steps e long over)) (sym (fits_same p.task b sample))
          (subst (λ (e : Bool). Same (judges (cond fitted rest_as (Err OutOfTurn))) (steps fitted e over)) (sym (long_same waits.pending.asked b sample))
          (subst (λ (j : Result (Start × ℕ) Refusal). Same (judges (cond fitted (cond (judge.too_long b n) (Err TooLong) j) (Err OutOfTurn))) (steps fitted (judge.too_long b n) over))
          (sym (held_same max t sound few p w.session_in_lem sample goes_on b left rest next))
          (by fitted (judge.too_long b n) over refl))))
        where
          fitted : Bool
          fitted = fits (task_as p.task) (answer_as b [])

          fitting : Bool
          fitting = fits (task_as p.task) (answer_as b sample)

          long : Bool
          long = step.too_long waits.pending.asked (answer_as b sample)

          judges : Result (Start × ℕ) Refusal → Did
          judges j = did_by hours lent lent (processed_by j c t out lent sample)

          steps : Bool → Bool → Bool → step.Did
          steps e z o =
              cond e
              (cond z (step.refuse (agent_of busy) out 12 0)
              (cond o (step.refuse (agent_of busy) out 14 0) (settle (agent_of busy) out (continued max waits (answer_as b sample) (view_of next t)))))
              (step.refuse (agent_of busy) out 15 0)

          by : (e z o : Bool) → over ≡ o → Same (judges (cond e (cond z (Err TooLong) (cond o (Err StoreFull) goes_on)) (Err OutOfTurn))) (steps e z o)
          by true true o h = refuses busy lent out TooLong busy_inv
          by true false true h = refuses busy lent out StoreFull busy_inv
          by true false false h = answer_goes h
          by false z o h = refuses busy lent out OutOfTurn busy_inv

    busy_same : (e : Event) (out : List ℕ) → Same (step_of busy e out) (step.step (agent_of busy) (event_of e) out)
    unfolding step_of process_of judge_of step.step
    busy_same (datagram given bytes small) out = refuses busy bytes out OutOfTurn busy_inv
    busy_same (answer b sample) out = answer_same b sample out
    busy_same (removal id small) out = record { agent = refl; out = refl; result = refl; inv = busy_inv }
    busy_same (sweep now) out = record { agent = refl; out = refl; result = refl; inv = busy_inv }

  idle_same : (e : Event) (out : List ℕ) → Same (step_of (state_with None) e out) (step.step (agent_of (state_with None)) (event_of e) out)
  unfolding step_of process_of judge_of step.step
  idle_same (datagram given bytes small) out = datagram_same given bytes out small
  idle_same (answer b sample) out = refuses (state_with None) lent out OutOfTurn (idle_inv t sound)
  idle_same (removal id small) out = removal_same id small out
  idle_same (sweep now) out = sweep_same now out

  pub call_same : (w : Option Pending) → Waits t lent w → (e : Event) (out : List ℕ) → Same (step_of (state_with w) e out) (step.step (agent_of (state_with w)) (event_of e) out)
  call_same None z e out = idle_same e out
  call_same (Some p) z e out = busy_same p z e out

-- every call of the host, in every state that calls lead to
pub step_square : (st : State) → Inv st → (e : Event) (out : List ℕ) → Same (step_of st e out) (step.step (agent_of st) (event_of e) out)
step_square st v e out = call_same st.tables st.agent.max_clients v.sound st.agent.timeout_ms st.agent.next v.few v.low v.high st.hours v.week st.lent st.agent.waits v.waits e out

-- ---- an agent just set up

-- windows that set-up takes, over a store for the week's minutes
checked_fit : (bytes : ℕ) (ws : List Window) → checkedWindows bytes ws ≡ (Ok tt) → (leb week_minutes bytes ≡ true) × (all_fit ws ≡ true)
unfolding checkedWindows
checked_fit bytes ws e = by (leb week_minutes bytes) (all_fit ws) e
  where
    by : (b c : Bool) → ◌≡◌ {A = Result (Unit {0}) Refusal} (cond b (cond c (Ok tt) (Err WindowFault)) (Err OverLimit)) (Ok tt) → (b ≡ true) × (c ≡ true)
    by true true e = (refl, refl)
    by true false e = let k : ◌≡◌ {A = ℕ} 0 1 = cc in absurd (omega arith)
    by false c e = let k : ◌≡◌ {A = ℕ} 0 1 = cc in absurd (omega arith)

kept_week_long : (ws : List Window) (hours : List ℕ) → week_minutes ≤ length hours → week_minutes ≤ length (kept_hours ws hours)
kept_week_long ws hours h =
    let k = length_kept ws week_minutes hours h in
    subst (λ (x : List ℕ). week_minutes ≤ length x) (kept_week ws hours h) (omega (arith, k, h))

pub record Empty (t : Tables) (hours : List ℕ) (ws : List Window) (max timeout : ℕ) (a : Agent) : Type 0 where
  pub agent : agent_of (empty_of t hours ws max a) ≡ empty_agent max timeout (is_open ws)
  pub inv : Inv (empty_of t hours ws max a)

pub empty_square : (t : Tables) (hours : List ℕ) (ws : List Window) (max timeout : ℕ) (a : Agent) → set_up_with t hours ws max timeout ≡ Ok a → Empty t hours ws max timeout a
empty_square t hours ws max timeout a e = by made refl (checkedWindows (length hours) ws) refl e
  where
    made : Result ℕ Refusal
    made = set_up_of (length t.sessions) (length t.streams) (length t.objects) (length t.held) (length t.parts) (length t.lengths) (length t.rebuilt) max

    states : Result ℕ Refusal → Agent → State
    states r a = record { agent = a; tables = set_up_tables r t; hours = leaves r (kept_hours ws hours) hours; lent = [] }

    by : (r : Result ℕ Refusal) → made ≡ r → (w : Result (Unit {0}) Refusal) → checkedWindows (length hours) ws ≡ w → set_up_as (set_up_by r w) max timeout ≡ Ok a → Empty t hours ws max timeout a
    by (Err r) q w k z = let k : ◌≡◌ {A = ℕ} 0 1 = cc in let n : ⊥ = omega arith in absurd n
    by (Ok next) q (Err r) k z = let k : ◌≡◌ {A = ℕ} 0 1 = cc in let n : ⊥ = omega arith in absurd n
    by (Ok next) q (Ok tt) k z =
        let fresh : Agent = record { max_clients = max; timeout_ms = timeout; next = next; waits = None } in
        let same : fresh ≡ a = cc in
        let first = first_is t.sessions t.streams t.objects (length t.held) (length t.parts) (length t.lengths) (length t.rebuilt) max next q in
        let kept = long t.sessions t.streams t.objects (length t.held) (length t.parts) (length t.lengths) (length t.rebuilt) max next q in
        let fit = checked_fit (length hours) ws k in
        let week = leb-true week_minutes (length hours) fit.0 in
        let st : states (Ok next) fresh ≡ empty_of t hours ws max a = λ i. states (set_up_by (sym q i) (sym k i)) (same i) in
        record {
          agent = sym (ap agent_of st)
              ∙ ap (λ (u : step.Tables). record { max = max; timeout = timeout; is_open = open_in (kept_hours ws hours); tables = u; waits = None }) (empty_view t max timeout (is_open ws) next first)
              ∙ ap (empty_agent max timeout) (opens_same ws hours fit.1 week);
          inv = subst Inv st (record { few = kept.clients; low = omega (arith, first); high = omega (arith, first); sound = (ready_led SoundStream stream_lasts max t max next kept kept.held_long kept.parts_long kept.lengths_long).sound; week = kept_week_long ws hours week; waits = tt });
        }
