-- The squares of set-up, a removal and a sweep: what they leave of the tables is what the agent's step leaves.
use Prim.Native.Nat.{ℕ, zero, suc, ◌+◌, ◌<◌, ◌≤◌}
use mathlib.Core.Path.{◌≡◌, refl, sym, ap, ◌∙◌}
use mathlib.Core.Bool.{Bool, true, false, cond}
use native.Mathlib.Omega.{arith}
use borrow.Author.Tests.{ltb-true}
use lib.Dec.{ltb}
use Rattle.sessions.specs.Table.{is_free, ended_rows}
use Rattle.sessions.specs.Sweep.{goes, expired_from, expired_ids, swept_rows}
use Rattle.sessions.specs.View.{Tables, Local, table_part, local_shown, local_of, lapsed}
use Rattle.sessions.specs.Calls.{SoundStream, SoundTables, with_sessions, set_up_tables}
use Rattle.sessions.specs.declared.table.ClientSession.{ClientSession}
use Rattle.sessions.proofs.Empty.{none_live}
use Rattle.sessions.proofs.ViewTable.{with_session, remove_here, remove_elsewhere, swept_outside, goes_view, sweep_view}
use Rattle.agent.specs.Step.{with_id, stays, lapsed_ids, empty_agent}
use Rattle.agent.specs.Whole.{session_in}
use Rattle.agent.proofs.SquareOpen.{view_of, at_in, with_view}
use Rattle.std.specs.Prelude.{Ok, Option, None, Some}

free_none : (t : Tables) (id : ℕ) → is_free t.sessions id ≡ true → local_of t id ≡ None
free_none t id e = rw e refl

-- ---- set-up

pub empty_view : (t : Tables) (max timeout : ℕ) (is_open : ℕ → ℕ → Bool) (next : ℕ) → next ≡ 1 → view_of next (set_up_tables (Ok next) t) ≡ (empty_agent max timeout is_open).tables
empty_view t max timeout is_open next e = λ i. record { next = e i; at = λ id. at_none id i }
  where
    at_none : (id : ℕ) → session_in (set_up_tables (Ok next) t) id ≡ None
    at_none id = by (ltb id 256) refl
      where
        by : (b : Bool) → ltb id 256 ≡ b → cond b (local_of (set_up_tables (Ok next) t) id) None ≡ None
        by true q = free_none (set_up_tables (Ok next) t) id (none_live t.sessions id (ltb-true id 256 q))
        by false q = refl

module _ {most : ℕ} (t : Tables) (sound : SoundTables SoundStream most t) where
  -- ---- a removal

  pub remove_view : (next id : ℕ) → id < 256 → view_of next (with_sessions t (ended_rows t.sessions id)) ≡ record { next = next; at = with_id id None (session_in t) }
  remove_view next id h =
      λ i. record {
        next = next;
        at = sym (with_view t (with_sessions t (ended_rows t.sessions id)) id h None (remove_here t id sound.sessions_need_lem h) (λ j l q. remove_elsewhere t id sound.sessions_need_lem h j q)) i;
      }

  -- ---- a sweep

  module _ (time timeout : ℕ) where
    abbrev swept : Tables
    swept = with_sessions t (swept_rows t.sessions time timeout)

    stays_as : (x : Option Local) → cond (lapsed time timeout x) None x ≡ stays timeout time x
    stays_as None = refl
    stays_as (Some l) = refl

    -- id 0 is not live, and is not swept
    zero_stays : local_of swept 0 ≡ local_of t 0
    unfolding swept_rows
    zero_stays = ap (λ (s : ClientSession). local_shown 0 (with_session t s (table_part t 0))) (swept_outside time timeout t.sessions 1 255 0 (λ a b. omega arith))

    swept_local : (j : ℕ) → j < 256 → local_of swept j ≡ stays timeout time (local_of t j)
    swept_local zero h = let z = free_none t 0 sound.zero_free in zero_stays ∙ z ∙ sym (ap (stays timeout time) z)
    swept_local (suc j) h = sweep_view time timeout t (suc j) sound.sessions_need_lem (omega arith) h ∙ stays_as (local_of t (suc j))

    pub swept_view : (next : ℕ) → view_of next swept ≡ record { next = next; at = λ j. stays timeout time (session_in t j) }
    swept_view next = λ i. record { next = next; at = λ j. at_swept j i }
      where
        at_swept : (j : ℕ) → session_in swept j ≡ stays timeout time (session_in t j)
        at_swept j = by (ltb j 256) refl
          where
            by : (b : Bool) → ltb j 256 ≡ b → cond b (local_of swept j) None ≡ stays timeout time (cond b (local_of t j) None)
            by true e = swept_local j (ltb-true j 256 e)
            by false e = refl

    listed_same : (n i : ℕ) → i + n ≤ 256 → expired_from (goes t.sessions time timeout) i n ≡ expired_from (λ j. lapsed time timeout (session_in t j)) i n
    unfolding expired_from
    listed_same zero i h = refl
    listed_same (suc n) i h = rw (goes_view time timeout t i, at_in t i (omega arith), listed_same n (suc i) (omega arith)) refl

    -- the ids that are listed
    pub swept_ids : expired_ids t.sessions time timeout ≡ lapsed_ids timeout time (session_in t)
    unfolding expired_ids lapsed_ids
    swept_ids = listed_same 255 1 (omega arith)
