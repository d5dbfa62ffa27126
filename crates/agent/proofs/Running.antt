-- A run over the lent tables: one turn at a time, what it writes; the store of held messages stays.
use Prim.Native.Nat.{ℕ, zero, suc, ◌-◌}
use mathlib.Core.Path.{◌≡◌, refl, ◌∙◌}
use mathlib.Core.Bool.{Bool, true, false, cond}
use mathlib.Core.List.{List, [], ◌++◌}
use lib.ListN.{length}
use Rattle.codec.specs.Reading.{read_at}
use Rattle.sessions.specs.View.{Tables}
use Rattle.agent.specs.Run.{Turned, count_replies, taken_of, fragment_turned, sub_turned, turned, goes_on, before, run_in, run_at}
use Rattle.moves.specs.declared.handle.Opening.{Opening}
use Rattle.moves.specs.declared.handle.Opening.TheVariants.{Client, Fragment, Other, Unread}
use Rattle.agent.specs.declared.turn.Frame.{Frame}
use Rattle.agent.specs.declared.turn.Ran.{Ran}
use Rattle.agent.specs.declared.turn.Taken.{Taken}
use Rattle.agent.proofs.Loops.{Loop, whole_end, whole_more, whole_told}
use Rattle.agent.proofs.Turns.{goes_within, turns}

-- ---- one turn at a time

abbrev pub idle : Ran → Tables → Turned
idle r t = record { ran = r; tables = t; replies = [] }

abbrev pub joined : Turned → Turned → Turned
joined x y = record { ran = y.ran; tables = y.tables; replies = x.replies ++ y.replies }

module _ (f : Frame) (d : List ℕ) where
  pub run_none : (r : Ran) (t : Tables) → run_in zero f d r t ≡ idle r t
  unfolding run_in
  run_none r t = refl

  pub run_one : (n : ℕ) (r : Ran) (t : Tables) → run_in (suc n) f d r t ≡ cond (goes_on (length d) r) (before (turned f t d r) (λ r' t'. run_in n f d r' t')) (idle r t)
  unfolding run_in
  run_one n r t = refl

  pub run_whole : (r : Ran) (t : Tables) → run_at f d r t ≡ run_in (length d - r.at) f d r t
  unfolding run_at
  run_whole r t = refl

  abbrev pub run_loop : Loop Tables Turned
  run_loop =
      record {
        len = length d;
        room = f.room;
        goes = λ r t. goes_on (length d) r;
        turn = λ r t. turned f t d r;
        ran = λ x. x.ran;
        state = λ x. x.tables;
        replies = λ x. x.replies;
        still = idle;
        join = joined;
        all = λ n r t. run_in n f d r t;
        whole = λ r t. run_at f d r t;
        still_is = λ r t. (refl, refl, refl);
        join_is = λ x y. (refl, refl, refl);
        none_left = run_none;
        one_more = run_one;
        whole_is = run_whole;
        within = λ r t e. goes_within (length d) r e;
        ahead = λ r t e. (turns f t d r (goes_within (length d) r e)).ahead;
        told = λ r t e. (turns f t d r (goes_within (length d) r e)).told;
      }

  pub run_end : (r : Ran) (t : Tables) → goes_on (length d) r ≡ false → run_at f d r t ≡ idle r t
  run_end r t e = whole_end run_loop r t e

  pub run_more : (r : Ran) (t : Tables) → goes_on (length d) r ≡ true → run_at f d r t ≡ before (turned f t d r) (λ r' t'. run_at f d r' t')
  run_more r t e = whole_more run_loop r t e

  -- ---- the store of held messages stays

  pub fragment_held : (t : Tables) (r : Ran) (x : Taken) → (fragment_turned f t d r x).tables.held ≡ t.held
  unfolding fragment_turned
  fragment_held t r x = refl

  sub_held : (o : Opening) (t : Tables) (r : Ran) (x : Taken) → (sub_turned o f t d r x).tables.held ≡ t.held
  sub_held Client t r x = refl
  sub_held Fragment t r x = fragment_held t r x
  sub_held Other t r x = refl
  sub_held Unread t r x = refl

  pub turned_held : (t : Tables) (r : Ran) → (turned f t d r).tables.held ≡ t.held
  unfolding turned
  turned_held t r = let x = taken_of (read_at d r.at) (length d) in sub_held x.asked.opening t r x

  in_held : (n : ℕ) (r : Ran) (t : Tables) → (run_in n f d r t).tables.held ≡ t.held
  unfolding run_in
  in_held zero r t = refl
  in_held (suc n) r t = go (goes_on (length d) r) (in_held n (turned f t d r).ran (turned f t d r).tables ∙ turned_held t r)
    where
      go : (b : Bool) → (run_in n f d (turned f t d r).ran (turned f t d r).tables).tables.held ≡ t.held
          → (cond b (before (turned f t d r) (λ r' t'. run_in n f d r' t')) (idle r t)).tables.held ≡ t.held
      go true e = e
      go false e = refl

  pub run_held : (r : Ran) (t : Tables) → (run_at f d r t).tables.held ≡ t.held
  unfolding run_at
  run_held r t = in_held (length d - r.at) r t

  -- ---- what a run tells

  pub run_told : (r : Ran) (t : Tables) → (run_at f d r t).ran.wrote ≡ count_replies f.room r.wrote (run_at f d r t).replies
  run_told r t = whole_told run_loop r t
