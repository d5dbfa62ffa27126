-- What an exported call leaves, by whether it is done or refused.
use Prim.Native.Nat.{ℕ}
use mathlib.Core.Path.{◌≡◌, refl}
use mathlib.Core.Bool.{Bool, true, false}
use mathlib.Core.List.{List, []}
use borrow.Author.Tests.{eq-eqb, ne_eqb}
use lib.Dec.{eqb, leb}
use lib.ListN.{length}
use Rattle.std.specs.Prelude.{cond, Err, Ok, Result}
use Rattle.std.proofs.Common.{◌≢◌}
use Rattle.hours.specs.Windows.{windows_of}
use Rattle.hours.specs.Week.{kept_hours}
use Rattle.sessions.specs.Calls.{set_up_tables}
use Rattle.sessions.specs.Setup.{leaves}
use Rattle.sessions.specs.View.{Tables}
use Rattle.agent.specs.Host.{process_of, set_up_judged, set_up_as}
use Rattle.cabi.specs.Calls.{Left, refused_left, bad_call, called, input_in, given_in, processed_left, process_left, ready_records, ready_as, set_up_left}
use Rattle.cabi.specs.Answers.{refused_as}
use Rattle.cabi.specs.Record.{record_at, agent_in}
use Rattle.agent.specs.declared.judge.Input.{Input}
use Rattle.agent.specs.declared.state.Agent.{Agent}
use Rattle.codec.specs.declared.refusals.Refusal.{Refusal}
use Rattle.codec.specs.declared.refusals.Refusal.TheVariants.{OutOfTurn, OverLimit}

module _ (w : List (List ℕ)) (t : Tables) (hours out d sample : List ℕ) (input time day minute handle : ℕ) where
  abbrev left_by : Result (Agent × Input) Refusal → Left
  left_by (Ok (a, i)) = processed_left w hours (process_of a t hours out d sample i (given_in time day minute))
  left_by (Err r) = refused_left (refused_as r) w t hours out

  left_by_tests : (low none : Bool) → (let why = cond low (cond none 16 0) 15 in
      cond (eqb why 0) (processed_left w hours (process_of (agent_in (record_at w)) t hours out d sample (input_in input handle) (given_in time day minute))) (refused_left why w t hours out))
      ≡ left_by (cond low (cond none (Err OverLimit) (Ok (agent_in (record_at w), input_in input handle))) (Err OutOfTurn))
  left_by_tests false none = refl
  left_by_tests true true = refl
  left_by_tests true false = refl

  left_as_called : (x : Result (Agent × Input) Refusal) → x ≡ called w input handle → process_left w t hours out d sample input time day minute handle ≡ left_by x
  unfolding process_left
  left_as_called x e = rw e (left_by_tests (leb input 5) (eqb (length w) 0))

  -- both at once: what the call is refused as, or the agent and the input that it goes on with
  pub process_called : (a : Agent) (i : Input) → Ok (a, i) ≡ called w input handle
      → process_left w t hours out d sample input time day minute handle ≡ processed_left w hours (process_of a t hours out d sample i (given_in time day minute))
  process_called a i e = left_as_called (Ok (a, i)) e

  pub process_not_called : (r : Refusal) → Err r ≡ called w input handle
      → process_left w t hours out d sample input time day minute handle ≡ refused_left (refused_as r) w t hours out
  process_not_called r e = left_as_called (Err r) e

  pub process_done : bad_call (length w) input ≡ 0
      → process_left w t hours out d sample input time day minute handle ≡ processed_left w hours (process_of (agent_in (record_at w)) t hours out d sample (input_in input handle) (given_in time day minute))
  unfolding process_left
  process_done e = rw (eq-eqb _ _ e)

  pub process_refused : bad_call (length w) input ≢ 0
      → process_left w t hours out d sample input time day minute handle ≡ refused_left (bad_call (length w) input) w t hours out
  unfolding process_left
  process_refused e = rw (ne_eqb _ _ e)

module _ (w : List (List ℕ)) (t : Tables) (hours : List ℕ) (windows : List (List ℕ)) (max timeout : ℕ) where
  pub set_up_refused : length w ≡ 0 → set_up_left w t hours windows max timeout ≡ refused_left 16 w t hours []
  unfolding set_up_left
  set_up_refused e = rw (eq-eqb _ _ e)

  pub set_up_done : length w ≢ 0
      → set_up_left w t hours windows max timeout
      ≡ (let s = set_up_judged t (length hours) (windows_of windows) max in
      record { answer = ready_as (set_up_as s max timeout); records = ready_records w (set_up_as s max timeout); tables = set_up_tables s t; hours = leaves s (kept_hours (windows_of windows) hours) hours; out = [] })
  unfolding set_up_left
  set_up_done e = rw (ne_eqb _ _ e)
