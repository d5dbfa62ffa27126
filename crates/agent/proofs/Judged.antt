-- What the judge lets through: the stores are long enough, the answer fits its call, and the submessages to run are counted; the
-- rebuilt submessages that wait (document 02, W6) stand in their place as they were read.
use Prim.Native.Nat.{ℕ, ◌+◌, ◌≤◌}
use mathlib.Core.Path.{◌≡◌, refl, sym, subst}
use mathlib.Core.Bool.{Bool, true, false, cond, true≢false}
use mathlib.Core.List.{List, []}
use native.Mathlib.Omega.{arith}
use borrow.Author.Tests.{ltb-false, le-leb}
use lib.Dec.{eqb, leb, ltb}
use lib.ListN.{length}
use lib.Seq.{length-take-le}
use Rattle.codec.specs.Reading.{part_of, Item, Items, items, stopped, items_at, refused, under, message_of, checked_of, count_at, check_of}
use Rattle.codec.specs.Header.{header_of as headerIn}
use Rattle.codec.specs.Rebuilt.{any_barred, rebuilt_at}
use Rattle.codec.proofs.reading.Laws.{items_end}
use Rattle.codec.proofs.rebuilt.Laws.{rebuilt_reads}
use Rattle.codec.specs.declared.header.MessageHeader.{MessageHeader}
use Rattle.codec.specs.declared.refusals.Refusal.TheVariants.{BufferTooShort, OverLimit, TooLong, OutOfTurn, StoreFull, NoSuchMinute}
use Rattle.sessions.specs.Limits.{limits_of}
use Rattle.sessions.specs.Need.{held_need, parts_need, lengths_need}
use Rattle.sessions.specs.Sending.{data_slot}
use Rattle.sessions.specs.View.{Tables}
use Rattle.sessions.proofs.limits.Laws.{kept_limits}
use Rattle.sessions.proofs.setup.Laws as stores
use Rattle.moves.specs.Calls.{fits}
use Rattle.moves.specs.Proxy.{answer_as, task_as}
use Rattle.moves.specs.Answers.{says_of}
use Rattle.agent.specs.Answered.{says_fits}
use Rattle.agent.specs.Lent.{rebuilt_part}
use Rattle.hours.specs.Windows.{week_minutes}
use Rattle.hours.specs.Week.{is_minute, open_in}
use Rattle.agent.specs.Brings.{moment_of}
use Rattle.agent.specs.declared.state.Given.{Given}
use Rattle.agent.specs.declared.state.Moment.{Moment}
use Rattle.agent.specs.Judge.{answers_of, turn_of, session_of, stream_of, record_sound, datagram_start, checked_judged, datagram_judged, too_long, answer_slot, slot_of, answer_start, placed_judged, rest_judged, header_of, is_read, left_kept, answer_judged, judged_by, judge_of}
use Rattle.agent.specs.Host.{resumes_fit}
use Rattle.agent.specs.declared.judge.Input.{Input}
use Rattle.agent.specs.declared.judge.Input.TheVariants as input
use Rattle.agent.specs.declared.judge.Start.{Start}
use Rattle.agent.specs.declared.judge.Turn.{Turn}
use Rattle.agent.specs.declared.judge.Turn.TheVariants as turn
use Rattle.moves.specs.declared.proxy.BridgeAnswer.{BridgeAnswer}
use Rattle.moves.specs.declared.proxy.BridgeAnswer.TheVariants.{Created, Done, Sample, NoSample, Failed}
use Rattle.moves.specs.declared.proxy.Task.{Task}
use Rattle.moves.specs.declared.proxy.Task.TheVariants.{Creating, Writing, Reading, Deleting}
use Rattle.agent.specs.declared.state.Agent.{Agent}
use Rattle.agent.specs.declared.state.Pending.{Pending}
use Rattle.std.specs.Prelude.{Err, None, Ok, Option, Result, Some}
use Rattle.codec.specs.declared.submessages.ObjectNumber.{ObjectNumber}
use Rattle.codec.specs.declared.refusals.Refusal.{Refusal}

-- ---- a checked datagram has as many submessages as were counted

abbrev pub CountedAs : List ℕ → ℕ → ℕ → Type 0
CountedAs d at n = (ys : List Item) × (items_at d at ≡ items ys) × (length ys ≡ n)

abbrev Counts : List ℕ → ℕ → Result (MessageHeader × ℕ) Refusal → Type 0
Counts d at (Ok (h, n)) = CountedAs d at n
Counts d at (Err r) = Unit {0}

counted_at : (h : MessageHeader) (d : List ℕ) (at : ℕ) → Counts d at (count_at h d at)
unfolding count_at
counted_at h d at = go (items_at d at) refl
  where
    go : (xs : Items) → items_at d at ≡ xs → Counts d at (checked_of (under h xs))
    go (items ys) e = (ys, e, refl)
    go (stopped r) e = tt

counted_whole : (d : List ℕ) → Counts d 4 (check_of d)
unfolding check_of message_of
counted_whole d = go (leb (length d) 4) (items_at d 4) refl
  where
    go : (b : Bool) (xs : Items) → items_at d 4 ≡ xs → Counts d 4 (checked_of (cond b (refused BufferTooShort) (under (headerIn d) xs)))
    go true xs e = tt
    go false (items ys) e = (ys, e, refl)
    go false (stopped r) e = tt

-- ---- the rebuilt submessages that wait: their bytes read from the place to the end, and none of them is barred

pub record Waits (place : List ℕ) (at end : ℕ) : Type 0 where
  pub end_most : end ≤ 32768
  pub within : at ≤ length (rebuilt_part place end)
  pub subs : List Item
  pub reads : items_at (rebuilt_part place end) at ≡ items subs
  pub none_of : any_barred subs ≡ false

-- the bytes are as many as they were, in a place that is long enough
pub left_length : (place : List ℕ) (end : ℕ) → end ≤ length place → length (rebuilt_part place end) ≡ end
unfolding part_of
left_length place end h = rw (le-leb (0 + end) (length place) (omega (arith, h))) (length-take-le end place h)

-- none wait behind a datagram's header
none_wait : (place : List ℕ) → Waits place 0 0
none_wait place =
    let none = left_length place 0 (omega arith) in
    record { end_most = omega arith; within = omega arith; subs = []; reads = items_end (rebuilt_part place 0) 0 (omega (arith, none)); none_of = refl }

is_passed : (r : Result ℕ Refusal) → is_read r ≡ true → (n : ℕ) × (r ≡ Ok n)
is_passed (Ok n) e = (n, refl)
is_passed (Err r) e = absurd (true≢false (sym e))

left_waits : (place : List ℕ) (p : Pending) → left_kept (rebuilt_part place p.left_end) p ≡ true → Waits place p.left_at p.left_end
left_waits place p = go (ltb 32768 p.left_end) (ltb (length left) p.left_at) refl refl
  where
    left : List ℕ
    left = rebuilt_part place p.left_end

    go : (b c : Bool) → ltb 32768 p.left_end ≡ b → ltb (length left) p.left_at ≡ c
        → cond b false (cond c false (is_read (rebuilt_at left p.left_at))) ≡ true → Waits place p.left_at p.left_end
    go true c e f k = absurd (true≢false (sym k))
    go false true e f k = absurd (true≢false (sym k))
    go false false e f k =
        let n = is_passed (rebuilt_at left p.left_at) k in
        let y = rebuilt_reads left p.left_at n.0 n.1 in
        record { end_most = ltb-false 32768 p.left_end e; within = ltb-false (length left) p.left_at f; subs = y.0; reads = y.1; none_of = y.2 }

-- ---- what goes

abbrev pub AnswerFits : Option (ObjectNumber × Task × BridgeAnswer) → Type 0
AnswerFits None = Unit {0}
AnswerFits (Some (number, task, a)) = fits (task_as task) (answer_as a []) ≡ true

pub record Sound (t : Tables) (d : List ℕ) (sample room : ℕ) (x : Start) (n : ℕ) : Type 0 where
  pub sessions_long : 256 ≤ length t.sessions
  pub streams_long : 2048 ≤ length t.streams
  pub objects_long : 8192 ≤ length t.objects
  pub clients : x.frame.max_clients ≤ 255
  pub held_long : held_need x.frame.max_clients ≤ length t.held
  pub parts_long : parts_need x.frame.max_clients ≤ length t.parts
  pub lengths_long : lengths_need x.frame.max_clients ≤ length t.lengths
  pub rebuilt_long : 32768 ≤ length t.rebuilt
  pub waits : Waits t.rebuilt x.left_at x.left_end
  pub sample_fits : resumes_fit x.resumes x.frame.stream_id sample ≡ true
  pub answer_fits : AnswerFits x.resumes
  pub counted : CountedAs d x.at n
  pub room_is : x.frame.room ≡ room

abbrev pub JudgedSound : Tables → List ℕ → ℕ → ℕ → Result (Start × ℕ) Refusal → Type 0
JudgedSound t d sample room (Ok (x, n)) = Sound t d sample room x n
JudgedSound t d sample room (Err r) = Unit {0}

-- 12 has refused the sample that is too long, and 14 the one that is too long to be held
abbrev Placed : Result (Option ℕ) Refusal → Type 0
Placed (Ok (Some i)) = Unit {0}
Placed (Ok None) = Unit {0}
Placed (Err r) = ⊥

sample_fits_in : (stream n : ℕ) (place : Result (Option ℕ) Refusal) → ltb 65533 n ≡ false → Placed (cond (eqb stream 0) (Ok None) (cond (ltb 1014 n) (Err StoreFull) place))
    → cond (eqb stream 0) (leb n 65533) (leb n 1014) ≡ true
sample_fits_in stream n place short = go (eqb stream 0) (ltb 1014 n) refl
  where
    go : (b c : Bool) → ltb 1014 n ≡ c → Placed (cond b (Ok None) (cond c (Err StoreFull) place)) → cond b (leb n 65533) (leb n 1014) ≡ true
    go true c e k = le-leb n 65533 (ltb-false 65533 n short)
    go false true e k = absurd k
    go false false e k = le-leb n 1014 (ltb-false 1014 n e)

module _ (t : Tables) (p : Pending) (n : ℕ) where
  abbrev its_slot : BridgeAnswer → Result (Option ℕ) Refusal
  its_slot a = answer_slot p a t.sessions t.streams (length t.held) n

  says_fits_lem : (task : Task) (a : BridgeAnswer) → too_long a n ≡ false → Placed (its_slot a) → says_fits (says_of task a) p.stream_id n ≡ true
  says_fits_lem (Creating kind parent) (Created h) e k = refl
  says_fits_lem (Creating kind parent) Done e k = refl
  says_fits_lem (Creating kind parent) Sample e k = refl
  says_fits_lem (Creating kind parent) NoSample e k = refl
  says_fits_lem (Creating kind parent) Failed e k = refl
  says_fits_lem Writing (Created h) e k = refl
  says_fits_lem Writing Done e k = refl
  says_fits_lem Writing Sample e k = refl
  says_fits_lem Writing NoSample e k = refl
  says_fits_lem Writing Failed e k = refl
  says_fits_lem Reading (Created h) e k = refl
  says_fits_lem Reading Done e k = refl
  says_fits_lem Reading Sample e k = sample_fits_in p.stream_id n (data_slot t.sessions t.streams (length t.held) p.session_id p.stream_id (10 + n)) e k
  says_fits_lem Reading NoSample e k = refl
  says_fits_lem Reading Failed e k = refl
  says_fits_lem Deleting (Created h) e k = refl
  says_fits_lem Deleting Done e k = refl
  says_fits_lem Deleting Sample e k = refl
  says_fits_lem Deleting NoSample e k = refl
  says_fits_lem Deleting Failed e k = refl

module _ (t : Tables) (hours d : List ℕ) (a : Agent) (given : Given) (sample room : ℕ) where
  abbrev Long : Type 0
  Long = stores.Long (length t.sessions) (length t.streams) (length t.objects) (length t.held) (length t.parts) (length t.lengths) (length t.rebuilt) a.max_clients

  abbrev within_at : ℕ → ℕ → Result (Unit {0}) Refusal
  within_at id n = limits_of t.sessions t.streams t.objects (length t.held) (length t.parts) t.lengths (length t.rebuilt) a.max_clients id n

  long_of : (id n : ℕ) → within_at id n ≡ (Ok tt) → Long
  long_of id n e = (kept_limits t.sessions t.streams t.objects (length t.held) (length t.parts) t.lengths (length t.rebuilt) a.max_clients id n e).stores

  abbrev Lets : Result (Start × ℕ) Refusal → Type 0
  Lets j = JudgedSound t d sample room j

  -- of a start that has the agent's clients
  sound_start : Long → (x : Start) (n : ℕ) → x.frame.max_clients ≡ a.max_clients → Waits t.rebuilt x.left_at x.left_end → resumes_fit x.resumes x.frame.stream_id sample ≡ true
      → AnswerFits x.resumes → CountedAs d x.at n → x.frame.room ≡ room → Sound t d sample room x n
  sound_start k x n m w fit f e r =
      record {
        sessions_long = k.sessions_long;
        streams_long = k.streams_long;
        objects_long = k.objects_long;
        clients = rw m k.clients;
        held_long = rw m k.held_long;
        parts_long = rw m k.parts_long;
        lengths_long = rw m k.lengths_long;
        rebuilt_long = k.rebuilt_long;
        waits = w;
        sample_fits = fit;
        answer_fits = f;
        counted = e;
        room_is = r;
      }

  checked_sound : Long → (moment : Moment) (c : Result (MessageHeader × ℕ) Refusal) → Counts d 4 c → Lets (checked_judged a moment room c)
  checked_sound k moment (Ok (h, n)) e = sound_start k (datagram_start a moment h room) n refl (none_wait t.rebuilt) refl tt e refl
  checked_sound k moment (Err r) e = tt

  datagram_sound : (id n : ℕ) → Lets (datagram_judged hours d a (within_at id n) given room)
  datagram_sound id n = go (within_at id n) refl
    where
      moment : Moment
      moment = moment_of (open_in hours) given

      within : Long → (b w m : Bool)
          → Lets (cond b (cond w (Err OverLimit) (cond m (checked_judged a moment room (check_of d)) (Err NoSuchMinute))) (Err OverLimit))
      within k true true m = tt
      within k true false true = checked_sound k moment (check_of d) (counted_whole d)
      within k true false false = tt
      within k false w m = tt

      go : (l : Result (Unit {0}) Refusal) → within_at id n ≡ l → Lets (datagram_judged hours d a l given room)
      go (Ok tt) e = within (long_of id n e) (record_sound a) (ltb (length hours) week_minutes) (is_minute given.day given.minute)
      go (Err r) e = tt

  module _ (p : Pending) (b : BridgeAnswer) (f : fits (task_as p.task) (answer_as b []) ≡ true) where
    abbrev place : Result (Option ℕ) Refusal
    place = its_slot t p sample b

    abbrev kept : Bool
    kept = left_kept (rebuilt_part t.rebuilt p.left_end) p

    rest_sound : Long → kept ≡ true → (c : Result (MessageHeader × ℕ) Refusal) → Counts d p.at c → Lets (rest_judged a p b sample place room c)
    rest_sound k w (Ok (h, n)) e = go (too_long b sample) refl place refl
      where
        goes : too_long b sample ≡ false → Placed place → Sound t d sample room (answer_start a p b room) n
        goes q s = sound_start k (answer_start a p b room) n refl (left_waits t.rebuilt p w) (says_fits_lem t p sample p.task b q s) f e refl

        go : (w : Bool) → too_long b sample ≡ w → (s : Result (Option ℕ) Refusal) → place ≡ s → Lets (cond w (Err TooLong) (placed_judged s (Ok ((answer_start a p b room), n))))
        go true q s g = tt
        go false q (Ok (Some i)) g = goes q (subst Placed (sym g) tt)
        go false q (Ok None) g = goes q (subst Placed (sym g) tt)
        go false q (Err r) g = tt
    rest_sound k w (Err r) e = tt

    answer_sound : (id n : ℕ) → Lets (answer_judged d t.rebuilt a (within_at id n) p b sample place room)
    answer_sound id n = go (within_at id n) refl
      where
        within : Long → (u v w : Bool) → kept ≡ v
            → Lets (cond u (cond v (cond w (Err OverLimit) (rest_judged a p b sample place room (count_at (header_of p) d p.at))) (Err OverLimit)) (Err OverLimit))
        within k true true true e = tt
        within k true true false e = rest_sound k e (count_at (header_of p) d p.at) (counted_at (header_of p) d p.at)
        within k true false w e = tt
        within k false v w e = tt

        go : (l : Result (Unit {0}) Refusal) → within_at id n ≡ l → Lets (answer_judged d t.rebuilt a l p b sample place room)
        go (Ok tt) e = within (long_of id n e) (record_sound a) kept (ltb (length d) p.at) refl
        go (Err r) e = tt

  abbrev TurnSound : Result Turn Refusal → Type 0
  TurnSound x = Lets (judged_by hours d t.rebuilt a (within_at (session_of d x) (stream_of d x)) x given sample (slot_of x t.sessions t.streams (length t.held) sample) room)

  answers_sound : (p : Pending) (b : BridgeAnswer) → TurnSound (answers_of p b)
  answers_sound p b = go (fits (task_as p.task) (answer_as b [])) refl
    where
      go : (w : Bool) → fits (task_as p.task) (answer_as b []) ≡ w → TurnSound (cond w (Ok (turn.Answer p b)) (Err OutOfTurn))
      go true f = answer_sound p b f p.session_id p.stream_id
      go false f = tt

  turn_sound : (w : Option Pending) (i : Input) → TurnSound (turn_of w i)
  turn_sound None input.Datagram = datagram_sound (session_of d (Ok turn.Datagram)) (stream_of d (Ok turn.Datagram))
  turn_sound None (input.Answer b) = tt
  turn_sound (Some p) input.Datagram = tt
  turn_sound (Some p) (input.Answer b) = answers_sound p b

  judge_sound : (i : Input) → Lets (judge_of t hours d a i given sample room)
  unfolding judge_of
  judge_sound i = turn_sound a.waits i

  pub judged_goes : (i : Input) (x : Start) (n : ℕ) → judge_of t hours d a i given sample room ≡ Ok (x, n) → Sound t d sample room x n
  judged_goes i x n e = subst (JudgedSound t d sample room) e (judge_sound i)
