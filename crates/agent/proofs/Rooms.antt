-- What a call does is the same for any room of the lent output, but for the count of the bytes that it replies.
use Prim.Native.Nat.{ℕ, zero, suc, ◌-◌}
use mathlib.Core.Path.{◌≡◌, refl, sym, ap, ◌∙◌}
use mathlib.Core.Bool.{Bool, true, false, cond}
use mathlib.Core.List.{List, [], ◌∷◌, ◌++◌}
use lib.ListN.{length}
use Rattle.codec.specs.Reading.{read_at, part_of}
use Rattle.codec.specs.Rebuilt.{rebuilt_of}
use Rattle.codec.specs.declared.submessages.ObjectNumber.{ObjectNumber}
use Rattle.sessions.specs.Calls.{gather_tables}
use Rattle.sessions.specs.Fragments.{gathered}
use Rattle.sessions.specs.Table.{named_of, got_of}
use Rattle.sessions.specs.View.{Tables}
use Rattle.moves.specs.Answers.{keeps_of, says_of, kept_sessions, kept_objects}
use Rattle.moves.specs.Rows.{Rows, handled_move, handled_rows}
use Rattle.moves.specs.declared.answers.Says.{Says}
use Rattle.moves.specs.declared.answers.Says.TheVariants as says
use Rattle.moves.specs.declared.handle.Opening.{Opening}
use Rattle.moves.specs.declared.handle.Opening.TheVariants.{Client, Fragment, Other, Unread}
use Rattle.moves.specs.declared.moves.Move.{Move}
use Rattle.moves.specs.declared.moves.Move.TheVariants.{Greets, Status, Acknack, Repeats, Calls, Silent}
use Rattle.agent.specs.Lent.{lent, rows_of, rebuilt_part}
use Rattle.agent.specs.Step.{Reply, replied, joined_replies}
use Rattle.agent.specs.Run.{Turned, Acted, touched_in, touched_tables, acted, taken_of, delivered, inside_by, inside_turned, goes_on, work_in, work_at, entered_ran, left_acted, left_by, whole_len, with_acted, whole_turned, fragment_turned, sub_turned, turned, before, run_in, run_at}
use Rattle.agent.specs.Answered.{sequence_of, says_bytes, says_streams, says_held, answered_by, answered_sessions, answered_streams, answered_objects, answered_held}
use Rattle.agent.specs.Host.{begun_by, begun_sessions, begun_streams, begun_objects, begun_held, first_ran, behind, resumed_acted, resumed, performed}
use Rattle.agent.specs.declared.judge.Start.{Start}
use Rattle.agent.specs.declared.turn.Frame.{Frame}
use Rattle.agent.specs.declared.turn.Ran.{Ran}
use Rattle.agent.specs.declared.turn.Taken.{Taken}
use Rattle.std.specs.Prelude.{Err, None, Ok, Option, Result, Some}
use Rattle.moves.specs.declared.proxy.BridgeAnswer.{BridgeAnswer}
use Rattle.sessions.specs.declared.table.ClientSession.{ClientSession}
use Rattle.codec.specs.declared.refusals.Refusal.{Refusal}
use Rattle.moves.specs.declared.proxy.Task.{Task}

-- a frame and a start with another room
abbrev pub frame_at : Frame → ℕ → Frame
frame_at f room = record { max_clients = f.max_clients; moment = f.moment; session_id = f.session_id; stream_id = f.stream_id; room = room }

abbrev pub start_at : Start → ℕ → Start
start_at x room = record { frame = frame_at x.frame room; next = x.next; at = x.at; left_at = x.left_at; left_end = x.left_end; resumes = x.resumes }

-- a run so far, with any count; and what is left but for the count
abbrev pub counting : Ran → ℕ → Ran
counting r wrote = record { next = r.next; at = r.at; wrote = wrote; stop = r.stop }

abbrev pub told : Turned → ℕ → Turned
told y wrote = record { ran = counting y.ran wrote; tables = y.tables; replies = y.replies }

abbrev pub told_in : Acted → ℕ → Acted
told_in y wrote = record { ran = counting y.ran wrote; rows = y.rows; replies = y.replies }

-- what goes on where a part ended, alike where both are
abbrev behind_turned : List Reply → Turned → Turned
behind_turned rs y = record { ran = y.ran; tables = y.tables; replies = rs ++ y.replies }

before_alike : (x y : Turned) → told x 0 ≡ told y 0 → (go og : Ran → Tables → Turned) → ((r : Ran) (wrote : ℕ) (t : Tables) → told (go r t) 0 ≡ told (og (counting r wrote) t) 0)
    → told (before x go) 0 ≡ told (before y og) 0
before_alike x y e go og later =
    ap (behind_turned x.replies) (later x.ran y.ran.wrote x.tables)
    ∙ (λ i. behind_turned (e i).replies (told (og (counting (e i).ran y.ran.wrote) (e i).tables) 0))

module _ (f : Frame) (room : ℕ) where
  abbrev g : Frame
  g = frame_at f room

  -- ---- a plain submessage, in bytes d, with h of the messages sent held

  module _ (h d : List ℕ) where
    acted_alike : (r : Ran) (wrote at : ℕ) (u : Rows) (m : Move) → told_in (acted f r at m u h) 0 ≡ told_in (acted g (counting r wrote) at m u h) 0
    acted_alike r wrote at u (Greets id code) = refl
    acted_alike r wrote at u (Status number code) = refl
    acted_alike r wrote at u (Acknack p) = refl
    acted_alike r wrote at u (Repeats p) = refl
    acted_alike r wrote at u (Calls number task call) = refl
    acted_alike r wrote at u Silent = refl

    delivered_alike : (w : Result Bool Refusal) (t : Rows) (r : Ran) (wrote : ℕ) (x : Taken) → told_in (delivered w f t h d r x) 0 ≡ told_in (delivered w g t h d (counting r wrote) x) 0
    delivered_alike (Ok true) t r wrote x =
        let u = touched_in f t in
        acted_alike r wrote x.at (handled_rows x.asked u f.session_id f.stream_id) (handled_move f.moment.is_open x.asked u d f.session_id f.stream_id x.body)
    delivered_alike (Ok false) t r wrote x = refl
    delivered_alike (Err z) t r wrote x = refl

    -- ---- rebuilt submessages

    inside_alike : (t : Rows) (r : Ran) (wrote : ℕ) → told_in (inside_turned f t h d r) 0 ≡ told_in (inside_turned g t h d (counting r wrote)) 0
    unfolding inside_turned
    inside_alike t r wrote = let x = taken_of (read_at d r.at) (length d) in by x x.asked.opening
      where
        by : (x : Taken) (o : Opening) → told_in (inside_by o f t h d r x) 0 ≡ told_in (inside_by o g t h d (counting r wrote) x) 0
        by x Client = refl
        by x Fragment = refl
        by x Unread = refl
        by x Other = delivered_alike (named_of t.sessions f.session_id) t r wrote x

    works_alike : (left : ℕ) (r : Ran) (wrote : ℕ) (t : Rows) → told_in (work_in left f h d r t) 0 ≡ told_in (work_in left g h d (counting r wrote) t) 0
    unfolding work_in
    works_alike zero r wrote t = refl
    works_alike (suc left) r wrote t = by (goes_on (length d) r) (works_alike left)
      where
        x : Acted
        x = inside_turned f t h d r

        y : Acted
        y = inside_turned g t h d (counting r wrote)

        e : told_in x 0 ≡ told_in y 0
        e = inside_alike t r wrote

        in_work : Frame → Ran → Rows → Acted
        in_work f r t = work_in left f h d r t

        by : (b : Bool) → ((r : Ran) (wrote : ℕ) (t : Rows) → told_in (in_work f r t) 0 ≡ told_in (in_work g (counting r wrote) t) 0)
            → told_in (cond b (behind x.replies (in_work f x.ran x.rows)) (record { ran = r; rows = t; replies = [] })) 0
            ≡ told_in (cond b (behind y.replies (in_work g y.ran y.rows)) (record { ran = counting r wrote; rows = t; replies = [] })) 0
        by true later =
            ap (behind x.replies) (later x.ran y.ran.wrote x.rows)
            ∙ (λ i. behind (e i).replies (told_in (in_work g (counting (e i).ran y.ran.wrote) (e i).rows) 0))
        by false later = refl

    work_alike : (r : Ran) (wrote : ℕ) (t : Rows) → told_in (work_at f h d r t) 0 ≡ told_in (work_at g h d (counting r wrote) t) 0
    unfolding work_at
    work_alike r wrote t = works_alike (length d - r.at) r wrote t

    left_alike : (q : Result ℕ Refusal) (n : ℕ) (r : Ran) (wrote at : ℕ) (t : Rows) → told_in (left_by q f h d n r at t) 0 ≡ told_in (left_by q g h d n (counting r wrote) at t) 0
    left_alike (Ok k) n r wrote at t = ap (λ (z : Acted). left_acted z n at) (work_alike (entered_ran r) wrote t)
    left_alike (Err x) n r wrote at t = refl

  -- ---- any submessage

  module _ (d : List ℕ) where
    whole_alike : (t : Tables) (n : ℕ) (r : Ran) (wrote at : ℕ) → told (whole_turned f t n r at) 0 ≡ told (whole_turned g t n (counting r wrote) at) 0
    whole_alike t n r wrote at = let s = rebuilt_part t.rebuilt n in ap (with_acted t) (left_alike t.held s (rebuilt_of s) n r wrote at (rows_of t))

    fragment_alike : (t : Tables) (r : Ran) (wrote : ℕ) (x : Taken) → told (fragment_turned f t d r x) 0 ≡ told (fragment_turned g t d (counting r wrote) x) 0
    unfolding fragment_turned
    fragment_alike t r wrote x =
        let u = touched_tables f t in
        let id = f.session_id in
        let nr = x.asked.first in
        let total = x.asked.second in
        let body = part_of d x.body in
        whole_alike (gather_tables u id nr total body) (whole_len (gathered u.sessions u.parts u.lengths u.rebuilt id nr total body)) r wrote x.at

    turned_alike : (t : Tables) (r : Ran) (wrote : ℕ) → told (turned f t d r) 0 ≡ told (turned g t d (counting r wrote)) 0
    unfolding turned
    turned_alike t r wrote = let x = taken_of (read_at d r.at) (length d) in by x x.asked.opening
      where
        by : (x : Taken) (o : Opening) → told (sub_turned o f t d r x) 0 ≡ told (sub_turned o g t d (counting r wrote) x) 0
        by x Client = refl
        by x Fragment = fragment_alike t r wrote x
        by x Unread = refl
        by x Other = ap (with_acted t) (delivered_alike t.held d (named_of t.sessions f.session_id) (rows_of t) r wrote x)

    runs_alike : (left : ℕ) (r : Ran) (wrote : ℕ) (t : Tables) → told (run_in left f d r t) 0 ≡ told (run_in left g d (counting r wrote) t) 0
    unfolding run_in
    runs_alike zero r wrote t = refl
    runs_alike (suc left) r wrote t = by (goes_on (length d) r) (runs_alike left)
      where
        x : Turned
        x = turned f t d r

        y : Turned
        y = turned g t d (counting r wrote)

        in_run : Frame → Ran → Tables → Turned
        in_run f r t = run_in left f d r t

        by : (b : Bool) → ((r : Ran) (wrote : ℕ) (t : Tables) → told (in_run f r t) 0 ≡ told (in_run g (counting r wrote) t) 0)
            → told (cond b (before x (in_run f)) (record { ran = r; tables = t; replies = [] })) 0 ≡ told (cond b (before y (in_run g)) (record { ran = counting r wrote; tables = t; replies = [] })) 0
        by true later = before_alike x y (turned_alike t r wrote) (in_run f) (in_run g) later
        by false later = refl

    run_alike : (r : Ran) (wrote : ℕ) (t : Tables) → told (run_at f d r t) 0 ≡ told (run_at g d (counting r wrote) t) 0
    unfolding run_at
    run_alike r wrote t = runs_alike (length d - r.at) r wrote t

  -- ---- the answer's part

  module _ (t : Tables) (sample : List ℕ) where
    says_bytes_lem : (q : Says) (sequence : ℕ) (number : ObjectNumber) → says_bytes q f sequence number sample ≡ says_bytes q g sequence number sample
    says_bytes_lem (says.Status code) sequence number = refl
    says_bytes_lem says.Data sequence number = refl

    says_streams_lem : (q : Says) (bytes : List ℕ) → says_streams q f t.sessions t.streams t.held bytes ≡ says_streams q g t.sessions t.streams t.held bytes
    says_streams_lem (says.Status code) bytes = refl
    says_streams_lem says.Data bytes = refl

    says_held_lem : (q : Says) (bytes : List ℕ) → says_held q f t.sessions t.streams t.held bytes ≡ says_held q g t.sessions t.streams t.held bytes
    says_held_lem (says.Status code) bytes = refl
    says_held_lem says.Data bytes = refl

    -- its reply and the tables
    abbrev begun : Option (ObjectNumber × Task × BridgeAnswer) → Frame → List Reply × Tables
    begun x f = (
      begun_by x t.sessions t.streams f sample,
      lent (begun_sessions x t.sessions t.objects f) (begun_streams x t.sessions t.streams t.held f sample)
          (begun_objects x t.sessions t.objects f) (begun_held x t.sessions t.streams t.held f sample) t.parts t.lengths t.rebuilt,
    )

    begun_alike : (x : Option (ObjectNumber × Task × BridgeAnswer)) → begun x f ≡ begun x g
    begun_alike None = refl
    begun_alike (Some (number, task, a)) = by (got_of t.sessions f.session_id)
      where
        q : Says
        q = says_of task a

        sequence : ℕ
        sequence = sequence_of t.sessions t.streams f

        bytes : says_bytes q f sequence number sample ≡ says_bytes q g sequence number sample
        bytes = says_bytes_lem q sequence number

        answered : Result (Option ClientSession) Refusal → Frame → List Reply × Tables
        answered w f = (
          answered_by w f sequence sample number task a,
          lent (answered_sessions w (keeps_of number task a) t.sessions t.objects f.session_id)
              (answered_streams w q f t.sessions t.streams t.held (says_bytes q f sequence number sample))
              (answered_objects w (keeps_of number task a) t.sessions t.objects f.session_id)
              (answered_held w q f t.sessions t.streams t.held (says_bytes q f sequence number sample)) t.parts t.lengths t.rebuilt,
        )

        by : (w : Result (Option ClientSession) Refusal) → answered w f ≡ answered w g
        by (Ok (Some y)) =
            let x = says_streams_lem q (says_bytes q f sequence number sample) ∙ ap (says_streams q g t.sessions t.streams t.held) bytes in
            let h = says_held_lem q (says_bytes q f sequence number sample) ∙ ap (says_held q g t.sessions t.streams t.held) bytes in
            λ i. (
              replied f.session_id (bytes i) ∷ [],
              lent (kept_sessions (keeps_of number task a) t.sessions t.objects f.session_id) (x i) (kept_objects (keeps_of number task a) t.sessions t.objects f.session_id) (h i)
                  t.parts t.lengths t.rebuilt,
            )
        by (Ok None) = refl
        by (Err r) = refl

-- and the rebuilt submessages that waited for it
module _ (x : Start) (room : ℕ) (t : Tables) (sample : List ℕ) where
  abbrev f : Frame
  f = x.frame

  abbrev goes : Frame → List Reply × Tables → Turned
  goes f p =
      with_acted p.1
      (behind p.0
      (left_acted (work_at f p.1.held (rebuilt_part t.rebuilt x.left_end) (first_ran x (length (joined_replies p.0))) (rows_of p.1)) x.left_end x.at))

  resumed_alike : told (resumed x t sample) 0 ≡ told (resumed (start_at x room) t sample) 0
  unfolding resumed_acted
  resumed_alike =
      let p = begun f room t sample x.resumes f in
      let n = length (joined_replies p.0) in
      let s = rebuilt_part t.rebuilt x.left_end in
      ap (λ (z : Acted). with_acted p.1 (behind p.0 (left_acted z x.left_end x.at))) (work_alike f room p.1.held s (first_ran x n) n (rows_of p.1))
      ∙ ap (λ (p : List Reply × Tables). told (goes (frame_at f room) p) 0) (begun_alike f room t sample x.resumes)

-- the whole call
pub performed_alike : (x : Start) (room : ℕ) (t : Tables) (d sample : List ℕ)
    → performed (start_at x room) t d sample ≡ told (performed x t d sample) (performed (start_at x room) t d sample).ran.wrote
unfolding performed
performed_alike x room t d sample = ap (λ (z : Turned). told z (performed (start_at x room) t d sample).ran.wrote) (sym e)
  where
    e : told (performed x t d sample) 0 ≡ told (performed (start_at x room) t d sample) 0
    e =
        before_alike (resumed x t sample) (resumed (start_at x room) t sample) (resumed_alike x room t sample) (λ r t'. run_at x.frame d r t') (λ r t'. run_at (frame_at x.frame room) d r t')
        (run_alike x.frame room d)
