-- How much a call counts: the bytes of its replies, so that 13 sees whether they are too many.
use Prim.Native.Nat.{ℕ, ◌≤◌}
use mathlib.Core.Path.{◌≡◌, sym, ap, ◌∙◌}
use mathlib.Core.List.{List, [], ◌∷◌}
use native.Mathlib.Omega.{arith}
use borrow.Author.Tests.{le-ltb}
use lib.Dec.{ltb}
use lib.ListN.{length}
use Rattle.sessions.specs.Table.{got_of}
use Rattle.sessions.specs.View.{Tables}
use Rattle.moves.specs.Rows.{Rows}
use Rattle.agent.specs.Step.{Reply, joined_replies}
use Rattle.agent.specs.Lent.{rows_of, rebuilt_part}
use Rattle.agent.specs.Run.{count_replies, work_at, run_at}
use Rattle.agent.specs.Answered.{sequence_of, answered_by}
use Rattle.agent.specs.Host.{begun_by, rows_begun, held_begun, first_ran, resumed_acted, resumed, performed}
use Rattle.agent.specs.declared.judge.Start.{Start}
use Rattle.agent.specs.declared.turn.Frame.{Frame}
use Rattle.agent.proofs.Counted.{count_behind, count_exact, count_told}
use Rattle.agent.proofs.Turns.{one_long, none_long, work_told}
use Rattle.agent.proofs.Running.{run_told}
use Rattle.std.specs.Prelude.{Err, None, Ok, Option, Result, Some}
use Rattle.moves.specs.declared.proxy.BridgeAnswer.{BridgeAnswer}
use Rattle.sessions.specs.declared.table.ClientSession.{ClientSession}
use Rattle.codec.specs.declared.submessages.ObjectNumber.{ObjectNumber}
use Rattle.codec.specs.declared.refusals.Refusal.{Refusal}
use Rattle.moves.specs.declared.proxy.Task.{Task}

-- ---- the answer's part comes first, at the start of the output: one reply or none

one_counted : (room : ℕ) (x : Reply) → count_replies room 0 (x ∷ []) ≡ length (joined_replies (x ∷ []))
unfolding count_replies
one_counted room x = rw (le-ltb room 0 (omega arith)) (let a = one_long x in omega (arith, a))

none_counted : (room : ℕ) → count_replies room 0 [] ≡ length (joined_replies [])
unfolding count_replies
none_counted room = sym none_long

pub begun_counted : (room : ℕ) (x : Option (ObjectNumber × Task × BridgeAnswer)) (s y : List (List ℕ)) (f : Frame) (sample : List ℕ)
    → count_replies room 0 (begun_by x s y f sample) ≡ length (joined_replies (begun_by x s y f sample))
begun_counted room None s y f sample = none_counted room
begun_counted room (Some (number, task, a)) s y f sample = go (got_of s f.session_id)
  where
    go : (g : Result (Option ClientSession) Refusal) → count_replies room 0 (answered_by g f (sequence_of s y f) sample number task a) ≡ length (joined_replies (answered_by g f (sequence_of s y f) sample number task a))
    go (Ok (Some z)) = one_counted room _
    go (Ok None) = none_counted room
    go (Err r) = none_counted room

-- then the rebuilt submessages that waited for it
pub resumed_told : (x : Start) (t : Rows) (h rebuilt sample : List ℕ)
    → (resumed_acted x t h rebuilt sample).ran.wrote ≡ count_replies x.frame.room 0 (resumed_acted x t h rebuilt sample).replies
unfolding resumed_acted
resumed_told x t h rebuilt sample =
    let room = x.frame.room in
    let rs = begun_by x.resumes t.sessions t.streams x.frame sample in
    let s = rebuilt_part rebuilt x.left_end in
    let first = first_ran x (length (joined_replies rs)) in
    let y = work_at x.frame (held_begun x t h sample) s first (rows_begun x t h sample) in
    work_told x.frame (held_begun x t h sample) s first (rows_begun x t h sample)
    ∙ (ap (λ (n : ℕ). count_replies room n y.replies) (sym (begun_counted room x.resumes t.sessions t.streams x.frame sample)) ∙ sym (count_behind room 0 rs y.replies))

-- ---- a call, whole

module _ (x : Start) (t : Tables) (d sample : List ℕ) where
  abbrev room : ℕ
  room = x.frame.room

  abbrev all : List Reply
  all = (performed x t d sample).replies

  pub performed_counts : (performed x t d sample).ran.wrote ≡ count_replies x.frame.room 0 (performed x t d sample).replies
  unfolding performed
  performed_counts =
      let y = resumed x t sample in
      let z = run_at x.frame d y.ran y.tables in
      run_told x.frame d y.ran y.tables
      ∙ (ap (λ (n : ℕ). count_replies room n z.replies) (resumed_told x (rows_of t) t.held t.rebuilt sample) ∙ sym (count_behind room 0 y.replies z.replies))

  pub performed_told : ltb x.frame.room (performed x t d sample).ran.wrote ≡ ltb x.frame.room (length (joined_replies (performed x t d sample).replies))
  performed_told = ap (ltb room) performed_counts ∙ (count_told room 0 all ∙ ap (ltb room) (omega arith))

  -- and where there is room, the count is exact
  pub performed_exact : length (joined_replies (performed x t d sample).replies) ≤ x.frame.room → (performed x t d sample).ran.wrote ≡ length (joined_replies (performed x t d sample).replies)
  performed_exact h =
      let c = count_exact room 0 all (omega (arith, h)) in
      let w = performed_counts in
      omega (arith, c, w)
