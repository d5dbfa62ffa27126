-- The square of an answer: what the rules do to the session's lists and reply is what the tables do, read as lists.
use Prim.Native.Nat.{ℕ, ◌<◌, ◌≤◌}
use mathlib.Core.Path.{◌≡◌, refl, sym, ap, ◌∙◌, subst}
use mathlib.Core.Logic.{◌≢◌}
use mathlib.Core.Bool.{Bool, true, false, cond}
use mathlib.Core.List.{List, [], ◌∷◌, ◌++◌}
use native.Mathlib.Omega.{arith}
use borrow.Author.Tests.{eqb-false, ltb-false}
use lib.Dec.{eqb, ltb}
use lib.ListN.{length}
use Rattle.codec.specs.declared.submessages.ObjectNumber.{ObjectNumber}
use Rattle.isolation.specs.Rules.{done, Sub}
use Rattle.streams.specs.View.{sent_in}
use Rattle.streams.proofs.places.Laws.{never}
use Rattle.sessions.specs.Table.{is_free, session_at, got_by, got_of}
use Rattle.sessions.specs.Objects.{bridged_of}
use Rattle.sessions.specs.Sending.{sent_streams, sent_held}
use Rattle.sessions.specs.View.{Tables, KeptStream, Local, local_of, entry_of, put_in, stream_in, write_in}
use Rattle.sessions.specs.Calls.{SoundStream, SoundTables, LeadsTo}
use Rattle.sessions.specs.declared.objects.Handle.{Handle}
use Rattle.sessions.proofs.Reached.{named_when}
use Rattle.sessions.proofs.SoundStreams.{stream_lasts}
use Rattle.sessions.proofs.Steps.{same_led, put_led}
use Rattle.sessions.proofs.StepsSending.{send_led}
use Rattle.sessions.proofs.ViewSending.{next_view, next_none, send_here, send_unopened, send_elsewhere}
use Rattle.sessions.proofs.ViewStores as stores
use Rattle.sessions.proofs.ViewStores.{put_here, put_elsewhere}
use Rattle.sessions.proofs.ViewStreams as streams
use Rattle.moves.specs.Calls.{Pending as Asked}
use Rattle.agent.specs.Local.{full, listing, sending}
use Rattle.agent.specs.Lent.{lent, rows_of, with_rows, rebuilt_part}
use Rattle.moves.specs.Proxy.{answer_as, task_as}
use Rattle.moves.specs.Replies.{data_bytes}
use Rattle.moves.specs.RowsStreams.{read_of}
use Rattle.agent.specs.RulesObjects.{Move}
use Rattle.agent.specs.RulesAnswers.{sample_on, on_answer}
use Rattle.agent.specs.Brings.{Opening, In}
use Rattle.agent.specs.Host as host
use Rattle.agent.specs.Host.{first_ran}
use Rattle.agent.specs.Place.{ins_at}
use Rattle.agent.specs.RulesFragments.{onto, resumed, Pending}
use Rattle.agent.specs.Run.{Turned, Acted, work_at, inside_stop, left_ran}
use Rattle.agent.specs.Step.{Reply, joined_replies, crowded, crowded_in, over_held}
use Rattle.moves.specs.Answers.{keeps_of, says_of, kept_sessions, kept_objects}
use Rattle.agent.specs.Answered.{sequence_of, says_bytes, says_streams, says_held, answered_by, answered_sessions, answered_objects, answered_streams, answered_held}
use Rattle.moves.specs.declared.proxy.BridgeAnswer.{BridgeAnswer}
use Rattle.moves.specs.declared.proxy.BridgeAnswer.TheVariants.{Created, Done, Sample, NoSample, Failed}
use Rattle.moves.specs.declared.proxy.Task.{Task}
use Rattle.moves.specs.declared.proxy.Task.TheVariants.{Creating, Writing, Reading, Deleting}
use Rattle.agent.specs.declared.judge.Start.{Start}
use Rattle.agent.specs.declared.turn.Frame.{Frame}
use Rattle.agent.specs.declared.turn.Ran.{Ran}
use Rattle.agent.specs.declared.turn.Stop.{Stop}
use Rattle.agent.specs.Whole.{session_in}
use Rattle.agent.proofs.CallRoom.{RoomFor}
use Rattle.agent.proofs.MoveBytes.{data_long}
use Rattle.agent.proofs.Square.{led_on, shown_at, shown_live, reach_objects}
use Rattle.agent.proofs.SquareFragments.{Left, Moved, Acts, Quiet, left_acts}
use Rattle.agent.proofs.SquareObjects.{slot_in}
use Rattle.agent.proofs.SquareOpen.{view_of, at_in}
use Rattle.agent.proofs.SquareRebuilt.{work_square, still_square}
use Rattle.std.specs.Prelude.{None, Ok, Result, Some, Option}
use Rattle.sessions.specs.declared.table.ClientSession.{ClientSession}
use Rattle.codec.specs.declared.refusals.Refusal.{Refusal}

module _ {most : ℕ} (t : Tables) (sound : SoundTables SoundStream most t) (few : most ≤ 255) (f : Frame) (id< : f.session_id < 256) (number : ObjectNumber) (sample : List ℕ) where
  abbrev id : ℕ
  id = f.session_id

  abbrev n : ℕ
  n = f.stream_id

  abbrev l : Local
  l = shown_at t id

  abbrev pub pending : Task → Asked
  pending task = record { stream = n; number = number.0; task = task_as task }

  abbrev rule : Task → BridgeAnswer → Local → Move
  rule task b x = on_answer x (pending task) (answer_as b sample)

  -- its reply, and the tables behind it
  abbrev pub said : Task → BridgeAnswer → List ℕ
  said task b = says_bytes (says_of task b) f (sequence_of t.sessions t.streams f) number sample

  abbrev kept : Task → BridgeAnswer → Tables
  kept task b =
      lent (kept_sessions (keeps_of number task b) t.sessions t.objects id) (says_streams (says_of task b) f t.sessions t.streams t.held (said task b))
      (kept_objects (keeps_of number task b) t.sessions t.objects id) (says_held (says_of task b) f t.sessions t.streams t.held (said task b)) t.parts t.lengths t.rebuilt

  -- 14 has refused what its stream cannot hold
  abbrev pub Held : Task → BridgeAnswer → List In → List (Sub Opening In) → ℕ → Type 0
  Held task b left rest next = over_held (record { session = id; pending = record { asked = pending task; left = left }; rest = rest }) (answer_as b sample) (view_of next t) ≡ false

  -- ---- a live session

  pub record Answers (m : Move) (bytes : List ℕ) (t' : Tables) : Type 0 where
    pub after : Local
    pub moves : m ≡ done after (bytes ∷ [])
    pub shows : local_of t' id ≡ Some after
    pub elsewhere : (j : ℕ) → j < 256 → j ≢ id → local_of t' j ≡ local_of t j
    pub led : LeadsTo SoundStream most t t'

  module _ (live : is_free t.sessions id ≡ false) where
    -- the lists stay
    plain : (bytes : List ℕ) → Answers (done l (bytes ∷ [])) bytes t
    plain bytes = record { after = l; moves = refl; shows = shown_live t id live; elsewhere = λ j l h. refl; led = same_led SoundStream stream_lasts most t sound }

    -- "A CREATE that succeeds .. lists its object with the handle returned"
    lists : (kind parent : ℕ) (h : Handle) → full number.0 l ≡ false → Answers (rule (Creating kind parent) (Created h) l) (said (Creating kind parent) (Created h)) (kept (Creating kind parent) (Created h))
    lists kind parent h e =
        let o = bridged_of number kind h parent in
        let reached = reach_objects t sound id id< live in
        let slot = slot_in t sound id id< live [] 0 (record { start = 0; len = 0 }) number e in
        record {
          after = listing number.0 kind (Some h.0) parent l;
          moves = refl;
          shows = put_here t id id< reached o slot (sound.each id id<).objects_differ ∙ ap (stores.with_objects (put_in l.objects (entry_of o))) (shown_live t id live);
          elsewhere = λ j q. put_elsewhere t id id< reached o slot j;
          led = put_led SoundStream stream_lasts most t sound id id< o;
        }

    -- ---- a sample: on another stream than 0 it "takes the next send sequence in its header and is held" (W5)

    abbrev next_seq : ℕ
    next_seq = (read_of t.sessions t.streams id n).state.next_send_seq

    abbrev data_if : Bool → List ℕ
    data_if b = data_bytes id n (cond b 0 next_seq) number.0 sample

    abbrev sent_if : Bool → Tables
    sent_if b =
        lent t.sessions (cond b t.streams (sent_streams t.sessions t.streams t.held id n (data_if b)))
        t.objects (cond b t.held (sent_held t.sessions t.streams t.held id n (data_if b))) t.parts t.lengths t.rebuilt

    sampled : n ≢ 0 → length (data_if false) ≤ 1024 → (x : Option KeptStream) → stream_in l.streams n ≡ x → crowded x ≡ false
        → Answers (sample_on n number.0 sample x l) (data_if false) (sent_if false)
    sampled o h None e c =
        subst (Answers (sample_on n number.0 sample None l) (data_if false)) (sym (send_unopened most t sound few id id< live n (data_if false) e))
        (subst (λ (q : ℕ). Answers (sample_on n number.0 sample None l) (data_bytes id n q number.0 sample) t) (sym (next_none most t sound few id id< live n e)) (plain (data_bytes id n 0 number.0 sample)))
    sampled o h (Some k) e c =
        record {
          after = sending (data_if false) k l;
          moves = ap (λ (q : ℕ). let bytes = data_bytes id n q number.0 sample in done (sending bytes k l) (bytes ∷ [])) (sym (next_view most t sound few id id< live n k e));
          shows = send_here most t sound few id id< live n (data_if false) k o e h c ∙ ap (streams.with_streams (write_in l.streams (sent_in (data_if false) k))) (shown_live t id live);
          elsewhere = λ j q z. send_elsewhere most t sound few id id< live n (data_if false) j z q;
          led = send_led SoundStream stream_lasts most t sound id id< n (data_if false);
        }

    -- what 14 leaves of it
    sample_if : (b : Bool) → eqb n 0 ≡ b → cond b false (cond (ltb 1024 (length (data_bytes id n 0 number.0 sample))) true (crowded_in n (session_in t id))) ≡ false
        → Answers (cond b (done l (data_bytes id n 0 number.0 sample ∷ [])) (sample_on n number.0 sample (stream_in l.streams n) l)) (data_if b) (sent_if b)
    sample_if true e h = plain (data_if true)
    sample_if false e h = by (ltb 1024 (length (data_bytes id n 0 number.0 sample))) refl h
      where
        by : (c : Bool) → ltb 1024 (length (data_bytes id n 0 number.0 sample)) ≡ c → cond c true (crowded_in n (session_in t id)) ≡ false
            → Answers (sample_on n number.0 sample (stream_in l.streams n) l) (data_if false) (sent_if false)
        by true q h = absurd (never refl h)
        by false q h =
            let a = ltb-false 1024 (length (data_bytes id n 0 number.0 sample)) q in
            let x = data_long id n 0 number.0 sample in
            let y = data_long id n next_seq number.0 sample in
            sampled (eqb-false n 0 e) (omega (arith, a, x, y)) (stream_in l.streams n) refl (sym (ap (crowded_in n) (at_in t id id< ∙ shown_live t id live)) ∙ h)

    pub answers : (task : Task) (b : BridgeAnswer) (left : List In) (rest : List (Sub Opening In)) (next : ℕ) → RoomFor (task_as task) number.0 l → Held task b left rest next → Answers (rule task b l) (said task b) (kept task b)
    answers (Creating kind parent) (Created h) left rest next e w = lists kind parent h e
    answers (Creating kind parent) Done left rest next e w = plain (said (Creating kind parent) Done)
    answers (Creating kind parent) Sample left rest next e w = plain (said (Creating kind parent) Sample)
    answers (Creating kind parent) NoSample left rest next e w = plain (said (Creating kind parent) NoSample)
    answers (Creating kind parent) Failed left rest next e w = plain (said (Creating kind parent) Failed)
    answers Writing (Created h) left rest next e w = plain (said Writing (Created h))
    answers Writing Done left rest next e w = plain (said Writing Done)
    answers Writing Sample left rest next e w = plain (said Writing Sample)
    answers Writing NoSample left rest next e w = plain (said Writing NoSample)
    answers Writing Failed left rest next e w = plain (said Writing Failed)
    answers Reading (Created h) left rest next e w = plain (said Reading (Created h))
    answers Reading Done left rest next e w = plain (said Reading Done)
    answers Reading Sample left rest next e w = sample_if (eqb n 0) refl w
    answers Reading NoSample left rest next e w = plain (said Reading NoSample)
    answers Reading Failed left rest next e w = plain (said Reading Failed)
    answers Deleting (Created h) left rest next e w = plain (said Deleting (Created h))
    answers Deleting Done left rest next e w = plain (said Deleting Done)
    answers Deleting Sample left rest next e w = plain (said Deleting Sample)
    answers Deleting NoSample left rest next e w = plain (said Deleting NoSample)
    answers Deleting Failed left rest next e w = plain (said Deleting Failed)

-- ---- with the rebuilt submessages that waited behind its call (W6)

module _ (t : Tables) (f : Frame) (sound : SoundTables SoundStream f.max_clients t) (few : f.max_clients ≤ 255) (id< : f.session_id < 256) (n< : f.stream_id < 256)
    (number : ObjectNumber) (task : Task) (b : BridgeAnswer) (sample d : List ℕ) (next at left-at left-end : ℕ) (left : Left t.rebuilt left-at left-end) where
  abbrev start : Start
  start = record { frame = f; next = next; at = at; left_at = left-at; left_end = left-end; resumes = Some (number, task, b) }

  abbrev session : ℕ
  session = f.session_id

  abbrev waits : List In
  waits = ins_at f.moment f.stream_id (rebuilt_part t.rebuilt left-end) left-at

  abbrev kept_open : Pending
  kept_open = record { asked = pending t sound few f id< number sample task; left = waits }

  -- behind the answer, by whether its session is live
  abbrev begun : Result (Option ClientSession) Refusal → Tables
  begun g =
      let bytes = said t sound few f id< number sample task b in
      lent (answered_sessions g (keeps_of number task b) t.sessions t.objects session) (answered_streams g (says_of task b) f t.sessions t.streams t.held bytes)
      (answered_objects g (keeps_of number task b) t.sessions t.objects session) (answered_held g (says_of task b) f t.sessions t.streams t.held bytes) t.parts t.lengths t.rebuilt

  abbrev replies : Result (Option ClientSession) Refusal → List Reply
  replies g = answered_by g f (sequence_of t.sessions t.streams f) sample number task b

  abbrev first : Result (Option ClientSession) Refusal → Ran
  first g = first_ran start (length (joined_replies (replies g)))

  abbrev work : Result (Option ClientSession) Refusal → Acted
  work g = work_at f (begun g).held (rebuilt_part t.rebuilt left-end) (first g) (rows_of (begun g))

  abbrev turned_by : Result (Option ClientSession) Refusal → Turned
  turned_by g = record { ran = left_ran (work g).ran left-end at; tables = with_rows (begun g) (work g).rows; replies = replies g ++ (work g).replies }

  resumed_by : host.resumed start t sample ≡ turned_by (got_of t.sessions session)
  unfolding host.resumed_acted
  resumed_by = refl

  got_is : (c : Bool) → is_free t.sessions session ≡ c → got_of t.sessions session ≡ got_by (cond c (Ok false) (Ok true)) t.sessions session
  unfolding got_of
  got_is c z = ap (λ (w : Result Bool Refusal). got_by w t.sessions session) (named_when t.sessions session sound.sessions_need_lem ∙ ap (λ (c : Bool). cond c (Ok false) (Ok true)) z)

  pub resumes_acts : (rest : List (Sub Opening In)) → is_free t.sessions session ≡ false → RoomFor (task_as task) number.0 (shown_at t session) → Held t sound few f id< number sample task b waits rest next
      → Acts f d t next at (resumed (shown_at t session) kept_open (answer_as b sample)) (host.resumed start t sample)
  resumes_acts rest live e w =
      let g = Ok (Some (session_at t.sessions session)) in
      let a = answers t sound few f id< number sample live task b waits rest next e w in
      let k = work_square f (rebuilt_part t.rebuilt left-end) (begun g) few id< n< (first g) (rows_of (begun g)) a.after left.said a.led.sound a.shows refl left.within left.reads left.none_barred in
      let q = left_acts f d (begun g) (first g) (rows_of (begun g)) a.after (work g) left-end at left.few k (said t sound few f id< number sample task b ∷ []) in
      subst (Acts f d t next at (resumed (shown_at t session) kept_open (answer_as b sample))) (sym (resumed_by ∙ ap turned_by (got_is false live)))
      record {
        after = q.after;
        bytes = q.bytes;
        replies = q.replies;
        shows = q.shows;
        moves = subst (Moved f d t.rebuilt (turned_by g).ran.stop q.after q.bytes) (sym (ap (onto waits) a.moves)) q.moves;
        elsewhere = λ j h n. q.elsewhere j h n ∙ a.elsewhere j h n;
        led = led_on a.led q.led;
        pointer = q.pointer;
        place = q.place;
      }

  pub resumes_quiet : is_free t.sessions session ≡ true → Quiet t next at (host.resumed start t sample)
  resumes_quiet free =
      let gone = named_when t.sessions session sound.sessions_need_lem ∙ ap (λ (c : Bool). cond c (Ok false) (Ok true)) free in
      let o = still_square f (rebuilt_part t.rebuilt left-end) t (rows_of t) gone (first (Ok None)) in
      subst (Quiet t next at) (sym (resumed_by ∙ ap turned_by (got_is true free)))
      record { tables = ap (with_rows t) o.rows; replies = o.replies; stop = ap (λ (x : Stop). inside_stop x (work (Ok None)).ran.at left-end) o.stop; pointer = o.next; place = refl }
