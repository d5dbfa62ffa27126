-- What a call does is settled before the lent output is looked at: it is refused, or it has a result, for which the output is long enough or not.
use Prim.Native.Nat.{ℕ, ◌+◌}
use mathlib.Core.Path.{◌≡◌, refl, sym, ap, ◌∙◌}
use mathlib.Core.Logic.{◌≢◌}
use mathlib.Core.Bool.{Bool, true, false, cond, not}
use mathlib.Core.List.{List, []}
use native.Mathlib.Omega.{arith}
use borrow.Author.Tests.{le-ltb}
use lib.Dec.{eqb, leb, ltb}
use lib.ListN.{length, take, drop}
use lib.Seq.{take-append_seam}
use Rattle.codec.specs.Bytes.{put_at, put_of, put_bytes}
use Rattle.codec.specs.Reading.{Message, message, refused, message_of, checked_of, count_at, check_of}
use Rattle.codec.specs.Refusals.{number_of, byte_of}
use Rattle.codec.specs.declared.refusals.Refusal.TheVariants.{OutOfTurn, OverLimit, TooLong, StoreFull, OutputTooShort, NoSuchMinute}
use Rattle.streams.specs.Places.{first_from, in_limits, place_for}
use Rattle.streams.specs.Sent.{need, slot_for}
use Rattle.streams.specs.declared.state.StreamState.{StreamState}
use Rattle.sessions.specs.Limits.{limits_of}
use Rattle.sessions.specs.Sending.{room_of, stretch_at, data_slot}
use Rattle.sessions.specs.SessionStreams.{streams_used, streams_named, is_stream, stream_place}
use Rattle.sessions.specs.Streams.{stream_at, first_stream}
use Rattle.sessions.specs.Sweep.{expired_ids, evicted_of, evicted_out, evicted_rows, swept_rows}
use Rattle.sessions.specs.Table.{table_fits, is_free, named_of, records_fit, reached_of, kept_rows, ended_session, ended_rows}
use Rattle.sessions.specs.View.{Tables}
use Rattle.moves.specs.Calls.{fits}
use Rattle.moves.specs.Proxy.{call_as, answer_as, task_as}
use Rattle.moves.specs.declared.proxy.BridgeAnswer.TheVariants.{Created, Done, Sample, NoSample, Failed}
use Rattle.agent.specs.Step as step
use Rattle.agent.specs.Step.{Reply, joined_replies}
use Rattle.agent.specs.Run.{Turned}
use Rattle.hours.specs.Windows.{week_minutes}
use Rattle.hours.specs.Week.{is_minute, open_in}
use Rattle.agent.specs.Brings.{moment_of}
use Rattle.agent.specs.declared.state.Given.{Given}
use Rattle.agent.specs.declared.state.Moment.{Moment}
use Rattle.agent.specs.Judge.{record_sound, sound_of, turn_of, session_of, stream_of, header_of, too_long, slot_of, answer_start, placed_judged, checked_judged, left_kept, rest_judged, judged_by, judge_of}
use Rattle.agent.specs.Lent.{rebuilt_part}
use Rattle.agent.specs.Host as host
use Rattle.agent.specs.Host.{performed, finished_of, finish, processed_by, process_of, idle_of, removed_as, removed_by, removed_rows, swept_by, no_given}
use Rattle.agent.specs.Whole.{State, Event, datagram, answer, removal, sweep, Did, call_bytes, did_by, removed_result, swept_result, with_rows, step_of}
use Rattle.agent.specs.declared.judge.Input.{Input}
use Rattle.agent.specs.declared.judge.Input.TheVariants as input
use Rattle.agent.specs.declared.judge.Start.{Start}
use Rattle.agent.specs.declared.judge.Turn.{Turn}
use Rattle.agent.specs.declared.judge.Turn.TheVariants as turn
use Rattle.agent.specs.declared.state.Agent.{Agent}
use Rattle.agent.specs.declared.turn.Stop.{Stop}
use Rattle.agent.specs.declared.turn.Stop.TheVariants as stop
use Rattle.agent.proofs.Laws.{went}
use Rattle.agent.proofs.WireNumbers.{InMessage, message_wire}
use Rattle.agent.proofs.Rooms.{start_at, performed_alike}
use Rattle.agent.proofs.Performed.{performed_told}
use Rattle.std.specs.Prelude.{Err, None, Ok, Option, Result, Some}
use Rattle.codec.specs.declared.header.MessageHeader.{MessageHeader}
use Rattle.agent.specs.declared.state.Pending.{Pending}
use Rattle.codec.specs.declared.refusals.Refusal.{Refusal}

-- what a result says into the lent output: the replies in order, or the ids of a sweep
abbrev pub said_by : step.Result → List ℕ
said_by (step.refused number byte) = []
said_by (step.ran rs c) = joined_replies rs
said_by (step.removed b) = []
said_by (step.swept ids) = ids

-- the number of a refusal, 0 where nothing is refused
abbrev pub number_in : step.Result → ℕ
number_in (step.refused number byte) = number
number_in (step.ran rs c) = 0
number_in (step.removed b) = 0
number_in (step.swept ids) = 0

abbrev pub refusing : State → List ℕ → ℕ → ℕ → Did
refusing st out number byte = record { state = st; out = out; result = step.refused number byte }

-- ---- a plan, and the call by it

pub data Plan : Type 0 where
  stops : (number byte : ℕ) → Plan
  goes : State → step.Result → Plan

abbrev pub carry : State → Plan → List ℕ → Did
carry st (stops number byte) out = refusing st out number byte
carry st (goes st' q) out = cond (ltb (length out) (length (said_by q))) (refusing st out 13 0) (record { state = st'; out = put_at out 0 (said_by q); result = q })

abbrev pub Good : Plan → Type 0
Good (stops number byte) = number ≢ 13
Good (goes st q) = went q ≡ true

pub record Planned (st : State) (does : List ℕ → Did) : Type 0 where
  pub plan : Plan
  pub good : Good plan
  pub carries : (out : List ℕ) → does out ≡ carry st plan out

refuses : (st : State) (number byte : ℕ) → number ≢ 13 → Planned st (λ out. refusing st out number byte)
refuses st number byte h = record { plan = stops number byte; good = h; carries = λ out. refl }

none_before : (k : ℕ) → 0 + k ≡ k
none_before k = omega arith

-- ---- a datagram or an answer

-- 13 is not among what refuses it before it runs
abbrev Not13 : Result (Start × ℕ) Refusal → Type 0
Not13 (Ok (x, n)) = Unit {0}
Not13 (Err r) = number_of r ≢ 13

not_limit : number_of OverLimit ≢ 13
not_limit e = omega arith

not_turn : number_of OutOfTurn ≢ 13
not_turn e = omega arith

checked_not : (a : Agent) (moment : Moment) (room : ℕ) (s : List ℕ) (m : Message) → InMessage s m → Not13 (checked_judged a moment room (checked_of m))
checked_not a moment room s (message h xs) k = tt
checked_not a moment room s (refused r) k = let z = k.most in λ e. omega (arith, z, e)

abbrev TurnNot : Result Turn Refusal → Type 0
TurnNot (Ok turn.Datagram) = Unit {0}
TurnNot (Ok (turn.Answer p b)) = Unit {0}
TurnNot (Err r) = number_of r ≢ 13

in_turn_lem : (w : Option Pending) (i : Input) → TurnNot (turn_of w i)
in_turn_lem None input.Datagram = tt
in_turn_lem None (input.Answer b) = not_turn
in_turn_lem (Some p) input.Datagram = not_turn
in_turn_lem (Some p) (input.Answer b) = by (fits (task_as p.task) (answer_as b []))
  where
    by : (e : Bool) → TurnNot (cond e (Ok (turn.Answer p b)) (Err OutOfTurn))
    by true = tt
    by false = not_turn

-- nor among what refuses to hold a reply
abbrev SlotNot : Result (Option ℕ) Refusal → Type 0
SlotNot (Ok (Some i)) = Unit {0}
SlotNot (Ok None) = Unit {0}
SlotNot (Err r) = number_of r ≢ 13

not_full : number_of StoreFull ≢ 13
not_full e = omega arith

either_not : (b : Bool) (x y : Result (Option ℕ) Refusal) → SlotNot x → SlotNot y → SlotNot (cond b x y)
either_not true x y p q = p
either_not false x y p q = q

slot_for_not : (s : StreamState) (n len room : ℕ) → SlotNot (slot_for s n len room)
unfolding slot_for
slot_for_not s n len room =
    either_not (eqb s.stream_id 0) _ _ tt
    (either_not (ltb room need) _ _ not_limit
    (either_not (not (in_limits s)) _ _ not_limit
    (either_not (ltb 1024 len) _ _ not_full
    (either_not (leb 16 (place_for s n)) _ _ not_full tt))))

data_slot_not : (sessions streams : List (List ℕ)) (held id n len : ℕ) → SlotNot (data_slot sessions streams held id n len)
unfolding data_slot stream_place streams_named reached_of named_of
data_slot_not sessions streams held id n len =
    by (records_fit used 8 (length streams) 2048) (table_fits sessions) (is_free sessions id) (ltb k used) (leb 8 used) refl refl refl refl refl
  where
    used : ℕ
    used = streams_used sessions id

    k : ℕ
    k = first_from (is_stream streams (first_stream id) n) used 0

    by : (fits long free have full : Bool) → records_fit used 8 (length streams) 2048 ≡ fits → table_fits sessions ≡ long → is_free sessions id ≡ free → ltb k used ≡ have → leb 8 used ≡ full
        → SlotNot (data_slot sessions streams held id n len)
    by false long free have full f l e h u = rw f not_limit
    by true false free have full f l e h u = rw (f, l) not_limit
    by true true true have full f l e h u = rw (f, l, e) tt
    by true true false true full f l e h u =
        rw (f, l, e, h) (slot_for_not (stream_at streams (first_stream id + k)) (stream_at streams (first_stream id + k)).next_send_seq len (room_of (stretch_at sessions held id k)))
    by true true false false true f l e h u = rw (f, l, e, h, u) tt
    by true true false false false f l e h u = rw (f, l, e, h, u) tt

slot_not : (x : Result Turn Refusal) (s y : List (List ℕ)) (held n : ℕ) → SlotNot (slot_of x s y held n)
slot_not (Ok turn.Datagram) s y held n = tt
slot_not (Ok (turn.Answer p Sample)) s y held n =
    either_not (eqb p.stream_id 0) _ _ tt (either_not (ltb 1014 n) _ _ not_full (data_slot_not s y held p.session_id p.stream_id (10 + n)))
slot_not (Ok (turn.Answer p (Created h))) s y held n = tt
slot_not (Ok (turn.Answer p Done)) s y held n = tt
slot_not (Ok (turn.Answer p NoSample)) s y held n = tt
slot_not (Ok (turn.Answer p Failed)) s y held n = tt
slot_not (Err r) s y held n = tt

turn_not : (hours d rebuilt : List ℕ) (a : Agent) (l : Result (Unit {0}) Refusal) (x : Result Turn Refusal) (given : Given) (n : ℕ) (y : Result (Option ℕ) Refusal) (room : ℕ) → TurnNot x → SlotNot y → Not13 (judged_by hours d rebuilt a l x given n y room)
unfolding check_of
turn_not hours d rebuilt a l (Ok turn.Datagram) given n y room h k = by (sound_of a l) (ltb (length hours) week_minutes) (is_minute given.day given.minute)
  where
    moment : Moment
    moment = moment_of (open_in hours) given

    by : (b c e : Bool)
        → Not13 (cond b (cond c (Err OverLimit) (cond e (checked_judged a moment room (check_of d)) (Err NoSuchMinute))) (Err OverLimit))
    by true true e = not_limit
    by true false true = checked_not a moment room d (message_of d) (message_wire d)
    by true false false = λ z. omega arith
    by false c e = not_limit
turn_not hours d rebuilt a l (Ok (turn.Answer p b)) given n y room h k = by (sound_of a l) (left_kept (rebuilt_part rebuilt p.left_end) p) (ltb (length d) p.at) (count_at (header_of p) d p.at)
  where
    placed : (y : Result (Option ℕ) Refusal) → SlotNot y → (m : ℕ) → Not13 (placed_judged y (Ok ((answer_start a p b room), m)))
    placed (Ok (Some i)) k m = tt
    placed (Ok None) k m = tt
    placed (Err r) k m = k

    long : (c : Bool) (m : ℕ) → Not13 (cond c (Err TooLong) (placed_judged y (Ok ((answer_start a p b room), m))))
    long true m = λ e. omega arith
    long false m = placed y k m

    rest : (c : Result (MessageHeader × ℕ) Refusal) → Not13 (rest_judged a p b n y room c)
    rest (Ok (h, m)) = long (too_long b n) m
    rest (Err r) = not_limit

    by : (s w e : Bool) (c : Result (MessageHeader × ℕ) Refusal)
        → Not13 (cond s (cond w (cond e (Err OverLimit) (rest_judged a p b n y room c)) (Err OverLimit)) (Err OverLimit))
    by true true true c = not_limit
    by true true false c = rest c
    by true false e c = not_limit
    by false w e c = not_limit
turn_not hours d rebuilt a l (Err r) given n y room h k = h

-- and it does not look at the room
abbrev at_room : Result (Start × ℕ) Refusal → ℕ → Result (Start × ℕ) Refusal
at_room (Ok (x, n)) room = Ok ((start_at x room), n)
at_room (Err r) room = Err r

turn_room : (hours d rebuilt : List ℕ) (a : Agent) (l : Result (Unit {0}) Refusal) (x : Result Turn Refusal) (given : Given) (n : ℕ) (y : Result (Option ℕ) Refusal) (room : ℕ) → judged_by hours d rebuilt a l x given n y room ≡ at_room (judged_by hours d rebuilt a l x given n y 0) room
turn_room hours d rebuilt a l (Ok turn.Datagram) given n y room = by (sound_of a l) (ltb (length hours) week_minutes) (is_minute given.day given.minute) (check_of d)
  where
    at_room_lem : ℕ → Bool → Bool → Bool → Result (MessageHeader × ℕ) Refusal → Result (Start × ℕ) Refusal
    at_room_lem r b w e c =
        cond b (cond w (Err OverLimit) (cond e (checked_judged a (moment_of (open_in hours) given) r c) (Err NoSuchMinute))) (Err OverLimit)

    by : (b w e : Bool) (c : Result (MessageHeader × ℕ) Refusal) → at_room_lem room b w e c ≡ at_room (at_room_lem 0 b w e c) room
    by true true e c = refl
    by true false true (Ok (h, m)) = refl
    by true false true (Err r) = refl
    by true false false c = refl
    by false w e c = refl
turn_room hours d rebuilt a l (Ok (turn.Answer p b)) given n y room = by (sound_of a l) (left_kept (rebuilt_part rebuilt p.left_end) p) (ltb (length d) p.at) (count_at (header_of p) d p.at)
  where
    placed : (y : Result (Option ℕ) Refusal) (m : ℕ) → placed_judged y (Ok ((answer_start a p b room), m)) ≡ at_room (placed_judged y (Ok ((answer_start a p b 0), m))) room
    placed (Ok (Some i)) m = refl
    placed (Ok None) m = refl
    placed (Err r) m = refl

    long : (c : Bool) (m : ℕ)
        → cond c (Err TooLong) (placed_judged y (Ok ((answer_start a p b room), m))) ≡ at_room (cond c (Err TooLong) (placed_judged y (Ok ((answer_start a p b 0), m)))) room
    long true m = refl
    long false m = placed y m

    rest : (c : Result (MessageHeader × ℕ) Refusal) → rest_judged a p b n y room c ≡ at_room (rest_judged a p b n y 0 c) room
    rest (Ok (h, m)) = long (too_long b n) m
    rest (Err r) = refl

    by : (s w e : Bool) (c : Result (MessageHeader × ℕ) Refusal)
        → cond s (cond w (cond e (Err OverLimit) (rest_judged a p b n y room c)) (Err OverLimit)) (Err OverLimit)
        ≡ at_room (cond s (cond w (cond e (Err OverLimit) (rest_judged a p b n y 0 c)) (Err OverLimit)) (Err OverLimit)) room
    by true true true c = refl
    by true true false c = rest c
    by true false e c = refl
    by false w e c = refl
turn_room hours d rebuilt a l (Err r) given n y room = refl

module _ (t : Tables) (hours d : List ℕ) (a : Agent) (i : Input) (given : Given) (n : ℕ) where
  abbrev in_turn : Result Turn Refusal
  in_turn = turn_of a.waits i

  abbrev within : Result (Unit {0}) Refusal
  within =
      limits_of t.sessions t.streams t.objects (length t.held) (length t.parts) t.lengths (length t.rebuilt) a.max_clients (session_of d in_turn) (stream_of d in_turn)

  abbrev holds : Result (Option ℕ) Refusal
  holds = slot_of in_turn t.sessions t.streams (length t.held) n

  judge_not : Not13 (judge_of t hours d a i given n 0)
  unfolding judge_of
  judge_not = turn_not hours d t.rebuilt a within in_turn given n holds 0 (in_turn_lem a.waits i) (slot_not in_turn t.sessions t.streams (length t.held) n)

  judge_room : (room : ℕ) → judge_of t hours d a i given n room ≡ at_room (judge_of t hours d a i given n 0) room
  unfolding judge_of
  judge_room room = turn_room hours d t.rebuilt a within in_turn given n holds room

module _ (st : State) (d sample : List ℕ) where
  module _ (x : Start) (next at : ℕ) (t : Tables) (rs : List Reply) where
    abbrev turned_as : ℕ → Stop → Turned
    turned_as wrote s = record { ran = record { next = next; at = at; wrote = wrote; stop = s }; tables = t; replies = rs }

    -- a run that replied rs, of which so many bytes were counted
    abbrev finishes : Stop → ℕ → List ℕ → Did
    finishes s wrote out = did_by st.hours d st.lent (finish st.agent st.tables out (start_at x (length out)) (turned_as wrote s))

    abbrev full : Stop → ℕ → List ℕ → host.Leaves
    full s wrote out = record { processed = finished_of st.agent (start_at x (length out)) (turned_as wrote s).ran; tables = t; out = put_at out 0 (joined_replies rs); replies = rs }

    -- 13 sees whether they are too many
    abbrev Told : ℕ → List ℕ → Type 0
    Told wrote out = ltb (length out) wrote ≡ ltb (length out) (length (joined_replies rs))

    carried_as : (s : Stop) (wrote : ℕ) (out : List ℕ) (st' : State) (q : step.Result) → did_by st.hours d st.lent (full s wrote out) ≡ record { state = st'; out = put_at out 0 (joined_replies rs); result = q }
        → said_by q ≡ joined_replies rs → Told wrote out → finishes s wrote out ≡ carry st (goes st' q) out
    carried_as s wrote out st' q e f w =
        ap (λ (b : Bool). did_by st.hours d st.lent (cond b (host.refuse st.agent st.tables out OutputTooShort) (full s wrote out))) w
        ∙ by (ltb (length out) (length (joined_replies rs)))
        ∙ ap (λ (bs : List ℕ). cond (ltb (length out) (length bs)) (refusing st out 13 0) (record { state = st'; out = put_at out 0 bs; result = q })) (sym f)
      where
        by : (b : Bool) → did_by st.hours d st.lent (cond b (host.refuse st.agent st.tables out OutputTooShort) (full s wrote out))
            ≡ cond b (refusing st out 13 0) (record { state = st'; out = put_at out 0 (joined_replies rs); result = q })
        by true = refl
        by false = e

    finish_planned : (wrote : List ℕ → ℕ) → ((out : List ℕ) → Told (wrote out) out) → (s : Stop) → Planned st (λ out. finishes s (wrote out) out)
    finish_planned wrote w stop.Nothing =
        let st' = (did_by st.hours d st.lent (full stop.Nothing 0 [])).state in
        let q = step.ran rs None in
        record { plan = goes st' q; good = refl; carries = λ out. carried_as stop.Nothing (wrote out) out st' q refl refl (w out) }
    finish_planned wrote w (stop.Call number task call) =
        let s = stop.Call number task call in
        let st' = (did_by st.hours d st.lent (full s 0 [])).state in
        let q = step.ran rs (Some (call_as d call)) in
        record { plan = goes st' q; good = refl; carries = λ out. carried_as s (wrote out) out st' q refl refl (w out) }
    finish_planned wrote w (stop.Inside number task call a e) =
        let s = stop.Inside number task call a e in
        let st' = (did_by st.hours d st.lent (full s 0 [])).state in
        let q = step.ran rs (Some (call_as (call_bytes st'.agent.waits d t.rebuilt) call)) in
        record { plan = goes st' q; good = refl; carries = λ out. carried_as s (wrote out) out st' q refl refl (w out) }

  -- the same of any room, since that is told by the count alone
  judged_planned : (j : Result (Start × ℕ) Refusal) → Not13 j → Planned st (λ out. did_by st.hours d st.lent (processed_by (at_room j (length out)) st.agent st.tables out d sample))
  judged_planned (Err r) h = refuses st (number_of r) (byte_of r) h
  judged_planned (Ok (x, n)) h = record {
    plan = p.plan;
    good = p.good;
    carries = λ out. ap (λ (z : Turned). did_by st.hours d st.lent (finish st.agent st.tables out (start_at x (length out)) z)) (performed_alike x (length out) st.tables d sample) ∙ p.carries out;
  }
    where
      y : Turned
      y = performed x st.tables d sample

      in_room : List ℕ → Turned
      in_room out = performed (start_at x (length out)) st.tables d sample

      p : Planned st (λ out. finishes x y.ran.next y.ran.at y.tables y.replies y.ran.stop (in_room out).ran.wrote out)
      p =
          finish_planned x y.ran.next y.ran.at y.tables y.replies (λ out. (in_room out).ran.wrote)
          (λ out. performed_told (start_at x (length out)) st.tables d sample ∙ ap (λ (z : Turned). ltb (length out) (length (joined_replies z.replies))) (performed_alike x (length out) st.tables d sample))
          y.ran.stop

-- ---- a removal and a sweep

-- what a sweep has put at the start of the output
taken : (ids out : List ℕ) → take (length ids) (put_at out 0 ids) ≡ ids
unfolding put_at
taken ids out = take-append_seam ids (drop (0 + length ids) out)

module _ (st : State) where
  abbrev rows : List (List ℕ)
  rows = st.tables.sessions

  -- nothing is written
  silent : (st' : State) (b : Bool) → Planned st (λ out. record { state = st'; out = out; result = step.removed b })
  unfolding put_at
  silent st' b = record {
    plan = goes st' (step.removed b);
    good = refl;
    carries = λ out. sym (ap (λ (c : Bool). cond c (refusing st out 13 0) (record { state = st'; out = put_at out 0 []; result = step.removed b })) (le-ltb (length out) 0 (omega arith)));
  }

  abbrev NamedNot : Result Bool Refusal → Type 0
  NamedNot (Err r) = number_of r ≢ 13
  NamedNot (Ok true) = Unit {0}
  NamedNot (Ok false) = Unit {0}

  named_not : (id : ℕ) → NamedNot (named_of rows id)
  unfolding named_of
  named_not id = by (table_fits rows) (is_free rows id)
    where
      by : (b c : Bool) → NamedNot (cond b (cond c (Ok false) (Ok true)) (Err OverLimit))
      by true true = tt
      by true false = tt
      by false c = not_limit

  abbrev IdleNot : Result (Unit {0}) Refusal → Type 0
  IdleNot (Ok tt) = Unit {0}
  IdleNot (Err r) = number_of r ≢ 13

  idle_not : (w : Option Pending) → IdleNot (idle_of w st.agent)
  idle_not None = by (record_sound st.agent)
    where
      by : (b : Bool) → IdleNot (cond b (Ok tt) (Err OverLimit))
      by true = tt
      by false = not_limit
  idle_not (Some p) = not_turn

  removed_planned : (id : ℕ) (w : Result Bool Refusal) → NamedNot w → Planned st (λ out. record { state = with_rows st (kept_rows w rows id ended_session); out = out; result = removed_result (removed_as w) })
  removed_planned id (Err r) h = refuses st (number_of r) (byte_of r) h
  removed_planned id (Ok true) h = silent (with_rows st (kept_rows (Ok true) rows id ended_session)) true
  removed_planned id (Ok false) h = silent st false

  removal_planned : (id : ℕ) (i : Result (Unit {0}) Refusal) → IdleNot i → Planned st (λ out. record { state = with_rows st (removed_rows i rows id); out = out; result = removed_result (removed_by i rows id) })
  unfolding ended_rows
  removal_planned id (Ok tt) h = removed_planned id (named_of rows id) (named_not id)
  removal_planned id (Err r) h = refuses st (number_of r) (byte_of r) h

  module _ (now : ℕ) where
    abbrev ids : List ℕ
    ids = expired_ids rows now st.agent.timeout_ms

    abbrev out_if : Bool → Bool → List ℕ → List ℕ
    out_if f c out = cond f (cond c out (put_at out 0 ids)) out

    abbrev sweep_if : Bool → Bool → Bool → List ℕ → Did
    sweep_if f b c out =
        record {
          state = with_rows st (cond f (cond b rows (swept_rows rows now st.agent.timeout_ms)) rows);
          out = out_if f c out;
          result = swept_result (out_if f c out) (cond f (cond c (Err OutputTooShort) (Ok (length ids))) (Err OverLimit));
        }

    abbrev pub sweep_to : Bool → List ℕ → Did
    sweep_to b out = cond b (refusing st out 13 0) (record { state = with_rows st (swept_rows rows now st.agent.timeout_ms); out = put_at out 0 ids; result = step.swept ids })

    sweeps : (out : List ℕ) → sweep_if true (ltb (length out) (length ids)) (ltb (length out) (0 + length ids)) out ≡ sweep_to (ltb (length out) (length ids)) out
    sweeps out = ap (λ (k : ℕ). sweep_if true (ltb (length out) (length ids)) (ltb (length out) k) out) (none_before (length ids)) ∙ by (ltb (length out) (length ids))
      where
        by : (b : Bool) → sweep_if true b b out ≡ sweep_to b out
        by true = refl
        by false = ap (λ (is : List ℕ). record { state = with_rows st (swept_rows rows now st.agent.timeout_ms); out = put_at out 0 ids; result = step.swept is }) (taken ids out)

    fitting_planned : (f : Bool) → Planned st (λ out. sweep_if f (ltb (length out) (length ids)) (ltb (length out) (0 + length ids)) out)
    fitting_planned false = refuses st 16 0 not_limit
    fitting_planned true = record { plan = goes (with_rows st (swept_rows rows now st.agent.timeout_ms)) (step.swept ids); good = refl; carries = sweeps }

    abbrev sweep_by : Result (Unit {0}) Refusal → List ℕ → Did
    sweep_by i out =
        let o = host.swept_out i st.agent rows now out in
        record { state = with_rows st (host.swept_rows i st.agent rows now out); out = o; result = swept_result o (swept_by i st.agent rows now out) }

    -- a sweep in its turn, over tables of their need
    pub swept_as : (out : List ℕ) → idle_of st.agent.waits st.agent ≡ (Ok tt) → table_fits rows ≡ true → step_of st (sweep now) out ≡ sweep_to (ltb (length out) (length ids)) out
    unfolding step_of evicted_of evicted_out evicted_rows put_of put_bytes
    swept_as out e f =
        ap (λ (i : Result (Unit {0}) Refusal). sweep_by i out) e
        ∙ ap (λ (f : Bool). sweep_if f (ltb (length out) (length ids)) (ltb (length out) (0 + length ids)) out) f
        ∙ sweeps out

    sweep_planned : (i : Result (Unit {0}) Refusal) → IdleNot i → Planned st (sweep_by i)
    unfolding evicted_of evicted_out evicted_rows put_of put_bytes
    sweep_planned (Ok tt) h = fitting_planned (table_fits rows)
    sweep_planned (Err r) h = refuses st (number_of r) (byte_of r) h

-- a datagram or an answer, judged in any room
processed_planned : (st : State) (hours d sample : List ℕ) (i : Input) (given : Given)
    → Planned st (λ out. did_by st.hours d st.lent (processed_by (judge_of st.tables hours d st.agent i given (length sample) (length out)) st.agent st.tables out d sample))
processed_planned st hours d sample i given =
    let j = judge_of st.tables hours d st.agent i given (length sample) 0 in
    let p = judged_planned st d sample j (judge_not st.tables hours d st.agent i given (length sample)) in
    record {
      plan = p.plan;
      good = p.good;
      carries = λ out. ap (λ (j : Result (Start × ℕ) Refusal). did_by st.hours d st.lent (processed_by j st.agent st.tables out d sample)) (judge_room st.tables hours d st.agent i given (length sample) (length out)) ∙ p.carries out;
    }

pub planned : (st : State) (e : Event) → Planned st (λ out. step_of st e out)
unfolding step_of process_of
planned st (datagram given bytes small) = processed_planned st st.hours bytes [] input.Datagram given
planned st (answer b sample) = processed_planned st [] st.lent sample (input.Answer b) no_given
planned st (removal id small) = removal_planned st id (idle_of st.agent.waits st.agent) (idle_not st st.agent.waits)
planned st (sweep now) = sweep_planned st now (idle_of st.agent.waits st.agent) (idle_not st st.agent.waits)
