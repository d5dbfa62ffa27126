-- 13 is exact: what is roomy is never too short; and what a call then leaves.
use Prim.Native.Nat.{ℕ, ◌+◌, ◌-◌, ◌*◌, ◌/◌, ◌≤◌}
use mathlib.Core.Path.{◌≡◌, refl, sym, ap, ◌∙◌}
use mathlib.Core.Bool.{Bool, true, false, cond}
use mathlib.Core.List.{List, []}
use native.Mathlib.Omega.{arith}
use borrow.Author.Tests.{ltb-false, leb-true, le-ltb, le-leb}
use lib.Dec.{eqb, leb, ltb}
use lib.ListN.{length, length-append}
use Rattle.codec.specs.declared.submessages.ObjectNumber.{ObjectNumber}
use Rattle.codec.specs.declared.submessages.StatusCode.{StatusCode}
use Rattle.codec.specs.declared.submessages.StatusCode.TheVariants as status
use Rattle.codec.specs.declared.submessages.StatusCode.TheVariants.{ErrUnknownRef, ErrInvalidData}
use Rattle.sessions.specs.Table.{got_of}
use Rattle.sessions.specs.View.{Tables}
use Rattle.agent.specs.Step.{joined_replies}
use Rattle.moves.specs.Calls.{fits}
use Rattle.moves.specs.Proxy.{answer_as, task_as}
use Rattle.moves.specs.Answers.{says_of}
use Rattle.agent.specs.Answered.{says_fits, sequence_of, says_bytes, answered_by}
use Rattle.agent.specs.Judge.{judge_of}
use Rattle.agent.specs.declared.state.Given.{Given}
use Rattle.agent.specs.Host.{begun_by, performed, resumes_fit, answer_most, first_most, ids_at, asks_in, brings, bounded, roomy, needed_of, Leaves, finished_of, refuse, finish, processed_by, process_of}
use Rattle.moves.specs.declared.answers.Says.TheVariants as says
use Rattle.agent.specs.declared.judge.Input.{Input}
use Rattle.agent.specs.declared.judge.Start.{Start}
use Rattle.moves.specs.declared.proxy.BridgeAnswer.{BridgeAnswer}
use Rattle.moves.specs.declared.proxy.BridgeAnswer.TheVariants.{Created, Done, Sample, NoSample, Failed}
use Rattle.moves.specs.declared.proxy.Task.{Task}
use Rattle.moves.specs.declared.proxy.Task.TheVariants.{Creating, Writing, Reading, Deleting}
use Rattle.agent.specs.declared.state.Agent.{Agent}
use Rattle.agent.specs.declared.turn.Frame.{Frame}
use Rattle.agent.proofs.Laws.{status_long}
use Rattle.agent.proofs.MoveBytes.{data_long}
use Rattle.agent.proofs.Counted.{fits_whole}
use Rattle.agent.proofs.Performed.{performed_told}
use Rattle.agent.proofs.Most.{performed_most}
use Rattle.agent.proofs.answers.Laws.{sample_fits}
use Rattle.agent.proofs.Acknacks.{ids_few}
use Rattle.agent.proofs.Sparse.{brings_none}
use Rattle.codec.specs.Bytes.{put_at}
use Rattle.agent.specs.Run.{put_replies, Turned}
use Rattle.agent.proofs.Judged.{AnswerFits, Sound}
use Rattle.codec.specs.declared.refusals.Refusal.TheVariants.{OutputTooShort}
use Rattle.std.specs.Prelude.{Err, None, Ok, Option, Result, Some}
use Rattle.sessions.specs.declared.table.ClientSession.{ClientSession}
use Rattle.codec.specs.declared.refusals.Refusal.{Refusal}

-- ---- how much a call can reply

no_fit : false ≡ true → ⊥
no_fit e = let z : ◌≡◌ {A = ℕ} 0 1 = ap (λ (b : Bool). cond b 1 0) e in omega (arith, z)

module _ (f : Frame) (sequence : ℕ) (bytes : List ℕ) (number : ObjectNumber) where
  status_most : (code : StatusCode) → length (says_bytes (says.Status code) f sequence number bytes) ≤ 11
  status_most code = let e = status_long f.session_id f.stream_id number.0 code in omega (arith, e)

  -- an answer that fits its call: DATA to a sample, else a STATUS
  says_most : (task : Task) (a : BridgeAnswer) → says_fits (says_of task a) f.stream_id (length bytes) ≡ true → fits (task_as task) (answer_as a []) ≡ true
      → length (says_bytes (says_of task a) f sequence number bytes) ≤ answer_most a (length bytes)
  says_most (Creating kind parent) (Created h) e m = status_most status.Ok
  says_most (Creating kind parent) Done e m = status_most ErrInvalidData
  says_most (Creating kind parent) Sample e m = absurd (no_fit m)
  says_most (Creating kind parent) NoSample e m = status_most ErrInvalidData
  says_most (Creating kind parent) Failed e m = status_most ErrInvalidData
  says_most Writing (Created h) e m = status_most ErrInvalidData
  says_most Writing Done e m = status_most status.Ok
  says_most Writing Sample e m = absurd (no_fit m)
  says_most Writing NoSample e m = status_most ErrInvalidData
  says_most Writing Failed e m = status_most ErrInvalidData
  says_most Reading (Created h) e m = status_most ErrInvalidData
  says_most Reading Done e m = status_most ErrInvalidData
  says_most Reading Sample e m =
      rw (le-leb (length bytes) 65533 (sample_fits f.stream_id (length bytes) e))
      (let l = data_long f.session_id f.stream_id sequence number.0 bytes in omega (arith, l))
  says_most Reading NoSample e m = status_most status.Ok
  says_most Reading Failed e m = status_most ErrInvalidData
  says_most Deleting (Created h) e m = status_most ErrUnknownRef
  says_most Deleting Done e m = status_most status.Ok
  says_most Deleting Sample e m = absurd (no_fit m)
  says_most Deleting NoSample e m = status_most ErrUnknownRef
  says_most Deleting Failed e m = status_most ErrUnknownRef

begun_most : (x : Option (ObjectNumber × Task × BridgeAnswer)) (s y : List (List ℕ)) (f : Frame) (bytes : List ℕ) → resumes_fit x f.stream_id (length bytes) ≡ true → AnswerFits x
    → length (joined_replies (begun_by x s y f bytes)) ≤ first_most x (length bytes)
unfolding joined_replies
begun_most None s y f bytes e m = omega arith
begun_most (Some (number, task, a)) s y f bytes e m = go (got_of s f.session_id)
  where
    go : (g : Result (Option ClientSession) Refusal) → length (joined_replies (answered_by g f (sequence_of s y f) bytes number task a)) ≤ answer_most a (length bytes)
    go (Ok (Some z)) =
        let l = length-append (says_bytes (says_of task a) f (sequence_of s y f) number bytes) [] in
        let k = says_most f (sequence_of s y f) bytes number task a e m in
        omega (arith, l, k)
    go (Ok None) = omega arith
    go (Err r) = omega arith

module _ (t : Tables) (d sample : List ℕ) (x : Start) (n room : ℕ) (k : Sound t d (length sample) room x n) where
  abbrev first : ℕ
  first = first_most x.resumes (length sample)

  most : brings x t.sessions d ≡ false → (performed x t d sample).ran.wrote ≤ first + 12 * n + 16384 * asks_in x d
  most e =
      let z = brings_none x t.sessions d e in
      let p = performed_most x t d sample z.0 k.counted.0 k.counted.1 z.1 in
      let q = begun_most x.resumes t.sessions t.streams x.frame sample k.sample_fits k.answer_fits in
      let c = k.counted.2 in
      omega (arith, p, q, c)

  -- there are no more ACKNACKs than submessages
  asks_few : asks_in x d ≤ n
  asks_few = go (eqb x.frame.stream_id 0)
    where
      go : (b : Bool) → cond b 0 (ids_at 0x0E d x.at) ≤ n
      go true = omega arith
      go false =
          let a = ids_few 0x0E d x.at k.counted.0 k.counted.1 in
          let c = k.counted.2 in
          omega (arith, a, c)

  bounded_most : brings x t.sessions d ≡ false → bounded room x n d (length sample) ≡ true → (performed x t d sample).ran.wrote ≤ room
  bounded_most plain e = go (ltb room first) (ltb ((room - first) / 12) n) (leb n spare) refl refl refl e
    where
      spare : ℕ
      spare = (room - first - 12 * n) / 16384

      go : (a b c : Bool) → ltb room first ≡ a → ltb ((room - first) / 12) n ≡ b → leb n spare ≡ c → cond a false (cond b false (cond c true (leb (asks_in x d) spare))) ≡ true
          → (performed x t d sample).ran.wrote ≤ room
      go true b c p q r s = absurd (no_fit s)
      go false true c p q r s = absurd (no_fit s)
      go false false true p q r s =
          let l = ltb-false room first p in
          let m = ltb-false ((room - first) / 12) n q in
          let a = leb-true n spare r in
          let b = asks_few in
          let w = most plain in
          omega (arith, l, m, a, b, w)
      go false false false p q r s =
          let l = ltb-false room first p in
          let m = ltb-false ((room - first) / 12) n q in
          let a = leb-true (asks_in x d) spare s in
          let w = most plain in
          omega (arith, l, m, a, w)

  roomy_most : roomy room x t.sessions n d (length sample) ≡ true → (performed x t d sample).ran.wrote ≤ room
  roomy_most e = go (brings x t.sessions d) refl e
    where
      go : (b : Bool) → brings x t.sessions d ≡ b → cond b false (bounded room x n d (length sample)) ≡ true → (performed x t d sample).ran.wrote ≤ room
      go true q z = absurd (no_fit z)
      go false q z = bounded_most q z

  pub thirteen : ltb room (needed_of (roomy room x t.sessions n d (length sample)) (performed x t d sample).ran.wrote) ≡ ltb room (performed x t d sample).ran.wrote
  thirteen = go (roomy room x t.sessions n d (length sample)) refl
    where
      w : ℕ
      w = (performed x t d sample).ran.wrote

      go : (b : Bool) → roomy room x t.sessions n d (length sample) ≡ b → ltb room (needed_of b w) ≡ ltb room w
      go true e = le-ltb room 0 (omega arith) ∙ sym (le-ltb room w (roomy_most e))
      go false e = refl

-- ---- what the call leaves

module _ (a : Agent) (t : Tables) (out d sample : List ℕ) (x : Start) where
  abbrev y : Turned
  y = performed x t d sample

  abbrev went : List ℕ → Leaves
  went o = record { processed = finished_of a x y.ran; tables = y.tables; out = o; replies = y.replies }

  abbrev whole : Leaves
  whole = went (put_at out 0 (joined_replies y.replies))

  finish_by : (b : Bool) → ltb (length out) y.ran.wrote ≡ b → cond b (refuse a t out OutputTooShort) whole ≡ finish a t out x y
  finish_by b e = ap (λ (c : Bool). cond c (refuse a t out OutputTooShort) whole) (sym e)

  pub finish_short : ltb (length out) y.ran.wrote ≡ true → refuse a t out OutputTooShort ≡ finish a t out x y
  finish_short e = finish_by true e

  -- the output's room is what the run counts by
  sent_out : x.frame.room ≡ length out → ltb (length out) y.ran.wrote ≡ false → put_replies x.frame.room out 0 y.replies ≡ put_at out 0 (joined_replies y.replies)
  sent_out long e =
      let r = x.frame.room in
      let short = sym (performed_told x t d sample) ∙ (ap (λ (n : ℕ). ltb n y.ran.wrote) long ∙ e) in
      fits_whole r out y.replies (omega (arith, long)) (ltb-false r (length (joined_replies y.replies)) short)

  -- what is left where the replies are written one by one
  pub finish_sent : x.frame.room ≡ length out → ltb (length out) y.ran.wrote ≡ false → went (put_replies x.frame.room out 0 y.replies) ≡ finish a t out x y
  finish_sent long e = ap went (sent_out long e) ∙ finish_by false e

pub process_by : (a : Agent) (t : Tables) (hours out d sample : List ℕ) (i : Input) (given : Given) (j : Result (Start × ℕ) Refusal) → judge_of t hours d a i given (length sample) (length out) ≡ j → processed_by j a t out d sample ≡ process_of a t hours out d sample i given
unfolding process_of
process_by a t hours out d sample i given j e = ap (λ (k : Result (Start × ℕ) Refusal). processed_by k a t out d sample) (sym e)

-- all that a call leaves, the replies apart
pub same_leaves : (x y : Leaves) → x ≡ y
    → (x.processed ≡ y.processed) × (x.tables.sessions ≡ y.tables.sessions) × (x.tables.streams ≡ y.tables.streams) × (x.tables.objects ≡ y.tables.objects)
    × (x.tables.held ≡ y.tables.held) × (x.tables.parts ≡ y.tables.parts) × (x.tables.lengths ≡ y.tables.lengths) × (x.tables.rebuilt ≡ y.tables.rebuilt) × (x.out ≡ y.out)
same_leaves x y e = (
  ap (λ (l : Leaves). l.processed) e,
  ap (λ (l : Leaves). l.tables.sessions) e,
  ap (λ (l : Leaves). l.tables.streams) e,
  ap (λ (l : Leaves). l.tables.objects) e,
  ap (λ (l : Leaves). l.tables.held) e,
  ap (λ (l : Leaves). l.tables.parts) e,
  ap (λ (l : Leaves). l.tables.lengths) e,
  ap (λ (l : Leaves). l.tables.rebuilt) e,
  ap (λ (l : Leaves). l.out) e,
)
