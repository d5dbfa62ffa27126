-- How much a call replies at most, where no rebuilt submessage is among what it handles: the bound by which 13 spares a run.
use Prim.Native.Nat.{ℕ, zero, suc, ◌+◌, ◌-◌, ◌*◌, ◌≤◌, ◌<◌}
use mathlib.Core.Path.{◌≡◌, refl, sym, ap, ◌∙◌, subst}
use mathlib.Core.Bool.{Bool, true, false, cond}
use mathlib.Core.List.{List, [], ◌++◌, append-nil}
use native.Mathlib.Omega.{arith}
use borrow.Author.Tests.{eqb-true, le-ltb}
use lib.Dec.{eqb, leb}
use lib.ListN.{get_or, length, take, drop, length-take}
use Rattle.codec.specs.Reading.{read_at, part_of, Item, items, onward, items_at}
use Rattle.codec.specs.declared.layouts.Cursor.{Cursor}
use Rattle.codec.specs.declared.layouts.Span.{Span}
use Rattle.codec.specs.declared.submessages.Submessage.{Submessage}
use Rattle.codec.proofs.reading.Laws.{items_more}
use Rattle.sessions.specs.View.{Tables}
use Rattle.moves.specs.Rows.{Rows}
use Rattle.agent.specs.Step.{Reply, joined_replies}
use Rattle.agent.specs.Lent.{rows_of, rebuilt_part}
use Rattle.agent.specs.Run.{Turned, Acted, turned, goes_on, before, run_in, run_at, left_ran, left_acted}
use Rattle.agent.specs.Host.{begun_by, rows_begun, held_begun, first_ran, behind, resumed_acted, resumed, performed, ids_at, asks_in, sparse}
use Rattle.agent.specs.declared.judge.Start.{Start}
use Rattle.agent.specs.declared.turn.Frame.{Frame}
use Rattle.agent.specs.declared.turn.Ran.{Ran}
use Rattle.agent.proofs.Counted.{joined_long, count_most}
use Rattle.agent.proofs.Turns.{none_long, goes_within, turns, turned_at, work_end}
use Rattle.agent.proofs.Running.{idle, run_told}
use Rattle.agent.proofs.Acknacks.{item_first, one_at, asks_at, ids_read}
use Rattle.agent.proofs.Sparse.{Sparse, turned_sparse, turned_silent, begun_sparse}
use Rattle.std.specs.Prelude.{Err, Ok, Result}
use Rattle.codec.specs.declared.refusals.Refusal.{Refusal}

module _ (f : Frame) (d : List ℕ) where
  -- 12 bytes to a submessage at most, and 16,384 to an ACKNACK on a stream other than 0
  abbrev asks_from : ℕ → ℕ
  asks_from at = cond (eqb f.stream_id 0) 0 (ids_at 0x0E d at)

  abbrev asks_here : ℕ → ℕ
  asks_here at = cond (eqb f.stream_id 0) 0 (asks_at d at)

  asks_more : (at : ℕ) (m : Submessage) (z : Span) (c : Cursor) → read_at d at ≡ Ok (m, z, c) → asks_from at ≡ asks_here at + asks_from c.at
  asks_more at m z c e = go (eqb f.stream_id 0)
    where
      go : (b : Bool) → cond b 0 (ids_at 0x0E d at) ≡ cond b 0 (asks_at d at) + cond b 0 (ids_at 0x0E d c.at)
      go true = omega arith
      go false = ids_read 0x0E d at m z c e

  -- a FRAGMENT that completes nothing gets no reply
  turn_short : (r : Ran) (t : Tables) → r.at < length d → (1 ≤ one_at 0x0F d r.at → (turned f t d r).replies ≡ [])
      → length (joined_replies (turned f t d r).replies) ≤ 12 + 16384 * asks_here r.at
  turn_short r t h silent = by (eqb (get_or d r.at 0) 0x0F) refl
    where
      plain : one_at 0x0F d r.at ≡ 0 → (b : Bool) → eqb f.stream_id 0 ≡ b → length (joined_replies (turned f t d r).replies) ≤ 12 + 16384 * cond b 0 (asks_at d r.at)
      plain z true e = let a = (turns f t d r h).zeroth z (eqb-true f.stream_id 0 e) in omega (arith, a)
      plain z false e = (turns f t d r h).short z

      by : (b : Bool) → eqb (get_or d r.at 0) 0x0F ≡ b → length (joined_replies (turned f t d r).replies) ≤ 12 + 16384 * asks_here r.at
      by true e =
          let z : one_at 0x0F d r.at ≡ 1 = ap (λ (b : Bool). cond b 1 0) e in
          let a = ap (λ (rs : List Reply). length (joined_replies rs)) (silent (omega (arith, z))) in
          let b = none_long in
          omega (arith, a, b)
      by false e = plain (ap (λ (b : Bool). cond b 1 0) e) (eqb f.stream_id 0) refl

  in_most : (n : ℕ) (r : Ran) (t : Tables) (ys : List Item) → items_at d r.at ≡ items ys → Sparse f d t.sessions r.at
      → length (joined_replies (run_in n f d r t).replies) ≤ 12 * length ys + 16384 * asks_from r.at
  unfolding run_in joined_replies
  in_most zero r t ys i q = omega arith
  in_most (suc n) r t ys i q = go (goes_on (length d) r) refl (λ zs j p. in_most n (turned f t d r).ran (turned f t d r).tables zs j p)
    where
      x : Turned
      x = turned f t d r

      y : Turned
      y = run_in n f d x.ran x.tables

      Rest : Type 0
      Rest = (zs : List Item) → items_at d x.ran.at ≡ items zs → Sparse f d x.tables.sessions x.ran.at
          → length (joined_replies y.replies) ≤ 12 * length zs + 16384 * asks_from x.ran.at

      by : (q : Result (Submessage × Span × Cursor) Refusal) → read_at d r.at ≡ q → onward q (items_at d) ≡ items ys → r.at < length d → Rest
          → length (joined_replies (x.replies ++ y.replies)) ≤ 12 * length ys + 16384 * asks_from r.at
      by (Ok (m, z, c)) e j h rest =
          let k = item_first _ (items_at d c.at) ys j in
          let at : x.ran.at ≡ c.at = turned_at f t d r m z c e in
          let a = rest k.0 (ap (items_at d) at ∙ k.1) (subst (Sparse f d x.tables.sessions) (sym at) (turned_sparse f d t r m z c e q)) in
          let b = k.2 in
          let s = asks_more r.at m z c e ∙ ap (λ (v : ℕ). asks_here r.at + asks_from v) (sym at) in
          let w = turn_short r t h (turned_silent f d t r m z c e q) in
          let l = joined_long x.replies y.replies in
          omega (arith, a, b, s, w, l)
      by (Err z) e j h rest = let z : ◌≡◌ {A = ℕ} 0 1 = cc in absurd (omega arith)

      go : (b : Bool) → goes_on (length d) r ≡ b → Rest
          → length (joined_replies (cond b (before x (λ r' t'. run_in n f d r' t')) (idle r t)).replies) ≤ 12 * length ys + 16384 * asks_from r.at
      go true e rest = let h = goes_within (length d) r e in by (read_at d r.at) refl (sym (items_more d r.at h) ∙ i) h rest
      go false e rest = omega arith

  replies_most : (r : Ran) (t : Tables) (ys : List Item) → items_at d r.at ≡ items ys → Sparse f d t.sessions r.at
      → length (joined_replies (run_at f d r t).replies) ≤ 12 * length ys + 16384 * asks_from r.at
  unfolding run_at
  replies_most r t ys i q = in_most (length d - r.at) r t ys i q

  run_most : (r : Ran) (t : Tables) (ys : List Item) → items_at d r.at ≡ items ys → Sparse f d t.sessions r.at
      → (run_at f d r t).ran.wrote ≤ r.wrote + 12 * length ys + 16384 * asks_from r.at
  run_most r t ys i q =
      let a = run_told f d r t in
      let b = count_most f.room r.wrote (run_at f d r t).replies in
      let c = replies_most r t ys i q in
      omega (arith, a, b, c)

-- ---- where no rebuilt submessage waits, a call goes on in the datagram at once

module _ (x : Start) (t : Rows) (h rebuilt sample : List ℕ) (none : x.left_at ≡ x.left_end) where
  abbrev begun : List Reply
  begun = begun_by x.resumes t.sessions t.streams x.frame sample

  abbrev first : Ran
  first = first_ran x (length (joined_replies begun))

  abbrev waiting : List ℕ
  waiting = rebuilt_part rebuilt x.left_end

  few_wait : length waiting ≤ x.left_at
  unfolding part_of
  few_wait = go (leb (0 + x.left_end) (length rebuilt))
    where
      go : (b : Bool) → length (cond b (take x.left_end (drop 0 rebuilt)) []) ≤ x.left_at
      go true = let l = length-take x.left_end (drop 0 rebuilt) in omega (arith, l, none)
      go false = omega arith

  abbrev at_once : Acted
  at_once = record { ran = left_ran first x.left_end x.at; rows = rows_begun x t h sample; replies = begun }

  pub none_waits : resumed_acted x t h rebuilt sample ≡ at_once
  unfolding resumed_acted
  none_waits =
      ap (λ (y : Acted). behind begun (left_acted y x.left_end x.at))
      (work_end x.frame (held_begun x t h sample) waiting first (rows_begun x t h sample) (le-ltb x.left_at (length waiting) few_wait))
      ∙ ap (λ (rs : List Reply). record { ran = left_ran first x.left_end x.at; rows = rows_begun x t h sample; replies = rs }) (append-nil begun)

module _ (x : Start) (t : Tables) (d sample : List ℕ) (none : x.left_at ≡ x.left_end) where
  pub performed_most : (ys : List Item) → items_at d x.at ≡ items ys → sparse x t.sessions d ≡ true
      → (performed x t d sample).ran.wrote ≤ length (joined_replies (begun_by x.resumes t.sessions t.streams x.frame sample)) + 12 * length ys + 16384 * asks_in x d
  unfolding performed
  performed_most ys i q =
      let y = resumed x t sample in
      let e = none_waits x (rows_of t) t.held t.rebuilt sample none in
      let at : y.ran.at ≡ x.at = ap (λ (a : Acted). a.ran.at) e in
      let w = ap (λ (a : Acted). a.ran.wrote) e in
      let s : Sparse x.frame d y.tables.sessions y.ran.at =
      subst (λ (a : Acted). Sparse x.frame d a.rows.sessions a.ran.at) (sym e) (begun_sparse x t.sessions d t.objects q) in
      let m = run_most x.frame d y.ran y.tables ys (ap (items_at d) at ∙ i) s in
      let k = ap (λ (p : ℕ). cond (eqb x.frame.stream_id 0) 0 (ids_at 0x0E d p)) at in
      omega (arith, m, w, k)
