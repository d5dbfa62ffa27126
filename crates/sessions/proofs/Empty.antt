-- What set-up leaves of any stores that it accepts: no id is live, and the first session gets id 1.
use Prim.Native.Nat.{ℕ, ◌<◌, ◌≤◌}
use mathlib.Core.Path.{◌≡◌, refl, ap, ◌∙◌}
use mathlib.Core.Bool.{Bool, true, false, cond}
use mathlib.Core.List.{List, [], ◌∷◌}
use native.Mathlib.Omega.{arith}
use borrow.Author.Tests.{le-leb}
use lib.ListN.{length}
use Rattle.codec.specs.Answers.{gives}
use Rattle.codec.specs.declared.refusals.Refusal.TheVariants.{OverLimit}
use Rattle.sessions.specs.Need.{stores_fit}
use Rattle.sessions.specs.Table.{row_of, ended_session, is_free, got_of}
use Rattle.sessions.specs.Opening.{live_of, counted_of, created_of}
use Rattle.sessions.specs.Answers.{got_answer, counted_answer, created_answer}
use Rattle.sessions.specs.Setup.{no_stream, empty_sessions, empty_streams, first_id, set_up_of}
use Rattle.sessions.specs.declared.objects.Object.{Object}
use Rattle.sessions.proofs.Counted.{none_counted, opens_at}
use Rattle.sessions.proofs.Reached.{named_when, created_when}
use Rattle.sessions.proofs.setup.Laws.{Long, accepts, cleared_at, cleared_length}
use Rattle.std.specs.Prelude.{Err, Ok, None}

-- id 0 included
pub none_live : (sessions : List (List ℕ)) (id : ℕ) → id < 256 → is_free (empty_sessions sessions) id ≡ true
none_live sessions id h = ap (λ (w : List ℕ). is_free (w ∷ []) 0) (cleared_at (row_of ended_session) 256 sessions id [] h)

pub live_none : (sessions : List (List ℕ)) → live_of (empty_sessions sessions) ≡ 0
unfolding live_of
live_none sessions = none_counted (empty_sessions sessions) 255 1 (λ j h. none_live sessions j (omega arith))

module _ (sessions streams : List (List ℕ)) (objects : List Object) (held parts lengths rebuilt max next : ℕ)
    (ok : set_up_of (length sessions) (length streams) (length objects) held parts lengths rebuilt max ≡ Ok next) where
  by_fits : (b : Bool) → cond b (Ok first_id) (Err OverLimit) ≡ Ok next → (b ≡ true) × (next ≡ first_id)
  by_fits true e = (refl, cc)
  by_fits false e = let z : ◌≡◌ {A = ℕ} 0 1 = cc in absurd (omega arith)

  accepted : (stores_fit (length sessions) (length streams) (length objects) held parts lengths rebuilt max ≡ true) × (next ≡ first_id)
  unfolding set_up_of
  accepted = by_fits (stores_fit (length sessions) (length streams) (length objects) held parts lengths rebuilt max) ok

  pub long : Long (length sessions) (length streams) (length objects) held parts lengths rebuilt max
  long = accepts (length sessions) (length streams) (length objects) held parts lengths rebuilt max accepted.0

  pub first_is : next ≡ first_id
  first_is = accepted.1

  -- the stores stay as long as they were
  pub rows_long : 256 ≤ length (empty_sessions sessions)
  rows_long = rw (cleared_length (row_of ended_session) 256 sessions long.sessions_long) long.sessions_long

  pub streams_long : 2048 ≤ length (empty_streams streams)
  streams_long = rw (cleared_length no_stream 2048 streams long.streams_long) long.streams_long

  -- no id names a session, None is counted, and the first one opened gets id 1
  pub gets_none : (id : ℕ) → id < 256 → got_answer (got_of (empty_sessions sessions) id) ≡ gives None
  unfolding got_of
  gets_none id h = rw (named_when (empty_sessions sessions) id rows_long, none_live sessions id h) refl

  pub counts_none : counted_answer (counted_of (empty_sessions sessions)) ≡ gives 0
  unfolding counted_of
  counts_none = rw (le-leb 256 (length (empty_sessions sessions)) rows_long, live_none sessions) refl

  pub first_opened : 1 ≤ max → created_answer (created_of (empty_sessions sessions) (empty_streams streams) max next) ≡ gives (1, 2)
  first_opened h =
      rw first_is
      (ap created_answer
      (created_when (empty_sessions sessions) (empty_streams streams) max 1 rows_long streams_long long.clients (omega arith)
      ∙ opens_at (empty_sessions sessions) max 1 (rw (live_none sessions) h) (omega arith) (none_live sessions 1 (omega arith))))
