-- A call as the code goes: the answer's part, the rebuilt submessages that waited for it, then the run; and the same with the run in two, its beginning and the rest.
use Prim.Native.Nat.{ℕ}
use mathlib.Core.Path.{◌≡◌, refl, sym, ap, ◌∙◌}
use mathlib.Core.Bool.{true}
use mathlib.Core.List.{List, ◌++◌}
use lib.ListN.{length}
use Rattle.sessions.specs.View.{Tables}
use Rattle.agent.specs.Step.{Reply, joined_replies}
use Rattle.agent.specs.Lent.{rows_of, with_rows, rebuilt_part}
use Rattle.agent.specs.Run.{Turned, Acted, put_replies, before, run_at, left_ran}
use Rattle.agent.specs.Legs.{Led, leg_at, enter_at, entered, plain_performed}
use Rattle.agent.specs.declared.leg.Mode.TheVariants.{Datagram, Rebuilt, Entering}
use Rattle.agent.specs.Host.{begun_by, held_begun, begun, first_ran, resumed_acted, resumed, performed}
use Rattle.agent.specs.declared.judge.Start.{Start}
use Rattle.agent.specs.declared.turn.Ran.{Ran}
use Rattle.agent.proofs.answers.Laws.{none_long}
use Rattle.agent.proofs.Counted.{put_replies_behind}
use Rattle.agent.proofs.Written.{no_replies}
use Rattle.agent.proofs.Running.{run_held}
use Rattle.agent.proofs.Performed.{begun_counted, resumed_told}
use Rattle.agent.proofs.Most.{none_waits}
use Rattle.agent.proofs.Legs.{leg_work}
use Rattle.agent.proofs.Entering.{run_enters, enter_entered}
use Rattle.std.specs.Prelude.{None}

-- ---- the answer's part, and what comes behind it

module _ (x : Start) (t : Tables) (sample out : List ℕ) where
  abbrev room : ℕ
  room = x.frame.room

  abbrev rs : List Reply
  rs = begun_by x.resumes t.sessions t.streams x.frame sample

  -- what the answer's part leaves: the bytes counted, the stores and the output
  pub record Begins (w : ℕ) (u : Tables) (v : List ℕ) : Type 0 where
    pub wrote : w ≡ length (joined_replies rs)
    pub stores : u ≡ begun x t sample
    pub written : v ≡ put_replies room out 0 rs

  -- and what the call leaves then
  abbrev pub Left : Turned → Ran → Tables → List ℕ → Type 0
  Left y r u v = (r ≡ y.ran) × (u ≡ y.tables) × (v ≡ put_replies room out 0 y.replies)

  -- as the code goes: the answer's part is asked for only where the call is an answer
  pub none_begun : x.resumes ≡ None → Begins 0 t out
  none_begun e = record { wrote = rw e none_long; stores = rw e refl; written = rw e (no_replies room out 0) }

  module _ (w : ℕ) (u : Tables) (v : List ℕ) (b : Begins w u v) where
    both_written : (ys : List Reply) → put_replies room v w ys ≡ put_replies room out 0 (rs ++ ys)
    both_written ys =
        (λ i. put_replies room (b.written i) (b.wrote i) ys)
        ∙ (ap (λ (n : ℕ). put_replies room (put_replies room out 0 rs) n ys) (sym (begun_counted room x.resumes t.sessions t.streams x.frame sample))
        ∙ sym (put_replies_behind room out 0 rs ys))

    left_by : (y : Turned) (r : Ran) (z : Tables) (ys : List Reply) → record { ran = r; tables = z; replies = rs ++ ys } ≡ y → Left y r z (put_replies room v w ys)
    left_by y r z ys e = (ap (λ (k : Turned). k.ran) e, ap (λ (k : Turned). k.tables) e, both_written ys ∙ ap (λ (k : Turned). put_replies room out 0 k.replies) e)

    pub at_once : x.left_at ≡ x.left_end → Left (resumed x t sample) (left_ran (first_ran x w) x.left_end x.at) u v
    at_once e =
        let k = none_waits x (rows_of t) t.held t.rebuilt sample e in (
          ap (λ (n : ℕ). left_ran (first_ran x n) x.left_end x.at) b.wrote ∙ sym (ap (λ (a : Acted). a.ran) k),
          b.stores ∙ sym (ap (λ (a : Acted). with_rows (begun x t sample) a.rows) k),
          b.written ∙ sym (ap (λ (a : Acted). put_replies room out 0 a.replies) k),
        )

    -- the rebuilt submessages that waited are a leg
    abbrev waited : ℕ → Tables → Led
    waited n z = leg_at Rebuilt x.frame z.held (rebuilt_part z.rebuilt x.left_end) (first_ran x n) (rows_of z)

    abbrev led_on : Led → Tables → Turned
    led_on y z = record { ran = left_ran y.leg.ran x.left_end x.at; tables = with_rows z y.rows; replies = rs ++ y.replies }

    waited_on : led_on (waited w u) u ≡ resumed x t sample
    unfolding resumed_acted
    waited_on =
        let z = begun x t sample in
        (λ i. led_on (waited (b.wrote i) (b.stores i)) (b.stores i))
        ∙ ap (λ (y : Led). led_on y z) (leg_work x.frame z.held (rebuilt_part z.rebuilt x.left_end) (first_ran x (length (joined_replies rs))) (rows_of z))

    pub led_behind : (s : List ℕ) → s ≡ rebuilt_part u.rebuilt x.left_end → let y = leg_at Rebuilt x.frame u.held s (first_ran x w) (rows_of u) in
        Left (resumed x t sample) (left_ran y.leg.ran x.left_end x.at) (with_rows u y.rows) (put_replies room v w y.replies)
    led_behind s e = let y = waited w u in rw e (left_by (resumed x t sample) (left_ran y.leg.ran x.left_end x.at) (with_rows u y.rows) y.replies waited_on)

    -- of a call without them, the submessages of the datagram are
    module _ (d : List ℕ) where
      abbrev leg_from : ℕ → Tables → Led
      leg_from n z = leg_at Datagram x.frame z.held d (left_ran (first_ran x n) x.left_end x.at) (rows_of z)

      abbrev gone_on : Led → Tables → Turned
      gone_on y z = record { ran = y.leg.ran; tables = with_rows z y.rows; replies = rs ++ y.replies }

      pub plain_behind : let y = leg_from w u in Left (plain_performed x t d sample) y.leg.ran (with_rows u y.rows) (put_replies room v w y.replies)
      plain_behind =
          let y = leg_from w u in
          let all : gone_on y u ≡ gone_on (leg_from (length (joined_replies rs)) (begun x t sample)) (begun x t sample) = λ i. gone_on (leg_from (b.wrote i) (b.stores i)) (b.stores i) in
          left_by (plain_performed x t d sample) y.leg.ran (with_rows u y.rows) y.replies all

-- ---- the whole call

pub performed_held : (x : Start) (t : Tables) (d sample : List ℕ) → (performed x t d sample).tables.held ≡ held_begun x (rows_of t) t.held sample
unfolding performed
performed_held x t d sample = let y = resumed x t sample in run_held x.frame d y.ran y.tables

module _ (x : Start) (t : Tables) (d sample : List ℕ) where
  abbrev its_room : ℕ
  its_room = x.frame.room

  abbrev before_run : Turned
  before_run = resumed x t sample

  abbrev its_run : Turned
  its_run = run_at x.frame d before_run.ran before_run.tables

  pub performed_by : (out : List ℕ) (r : Ran) (u : Tables) (v : List ℕ) → Left x t sample out before_run r u v
      → let y = run_at x.frame d r u in Left x t sample out (performed x t d sample) y.ran y.tables (put_replies its_room v r.wrote y.replies)
  unfolding performed
  performed_by out r u v b = (
    λ i. (run_at x.frame d (b.0 i) (b.1 i)).ran,
    λ i. (run_at x.frame d (b.0 i) (b.1 i)).tables,
    (λ i. put_replies its_room (b.2 i) (b.0 i).wrote (run_at x.frame d (b.0 i) (b.1 i)).replies)
        ∙ (ap (λ (n : ℕ). put_replies its_room (put_replies its_room out 0 before_run.replies) n its_run.replies) (resumed_told x (rows_of t) t.held t.rebuilt sample)
        ∙ sym (put_replies_behind its_room out 0 before_run.replies its_run.replies)),
  )

  -- its beginning and the rest
  abbrev pub began : Turned
  began = enter_at x.frame d before_run.ran before_run.tables

  abbrev rest : Turned
  rest = run_at x.frame d began.ran began.tables

  rest_is : its_run ≡ before began (λ r u. run_at x.frame d r u)
  rest_is = run_enters x.frame d before_run.ran before_run.tables

  -- as the code goes, a leg
  pub began_by : (r : Ran) (u : Tables) → r ≡ before_run.ran → u ≡ before_run.tables
      → let y = leg_at Entering x.frame u.held d r (rows_of u) in (y.leg.ran ≡ began.ran) × (with_rows u y.rows ≡ began.tables)
  began_by r u e k = (λ i. (enter_at x.frame d (e i) (k i)).ran, λ i. (enter_at x.frame d (e i) (k i)).tables)

  pub began_entered : entered x.frame (length d) began.ran began.tables.sessions ≡ true
  began_entered = enter_entered x.frame d before_run.ran before_run.tables

  module _ (r : Ran) (u : Tables) (e : r ≡ before_run.ran) (k : u ≡ before_run.tables) where
    abbrev its_leg : Led
    its_leg = leg_at Entering x.frame u.held d r (rows_of u)

    abbrev its_rest : Turned
    its_rest = run_at x.frame d its_leg.leg.ran (with_rows u its_leg.rows)

    rest_by : its_rest ≡ rest
    rest_by = let b = began_by r u e k in λ i. run_at x.frame d (b.0 i) (b.1 i)

    pub rest_wrote : its_rest.ran.wrote ≡ (performed x t d sample).ran.wrote
    unfolding performed
    rest_wrote = ap (λ (y : Turned). y.ran.wrote) rest_by ∙ sym (ap (λ (y : Turned). y.ran.wrote) rest_is)

    rest_tables : its_rest.tables ≡ (performed x t d sample).tables
    unfolding performed
    rest_tables = ap (λ (y : Turned). y.tables) rest_by ∙ sym (ap (λ (y : Turned). y.tables) rest_is)

    -- with the stores of fragments and the place of rebuilt bytes put back
    pub rest_kept : (v : Tables) → v ≡ record its_rest.tables { parts = u.parts; lengths = u.lengths; rebuilt = u.rebuilt }
        → v ≡ record (performed x t d sample).tables { parts = t.parts; lengths = t.lengths; rebuilt = t.rebuilt }
    rest_kept v w = w ∙ (λ i. record (rest_tables i) { parts = (k i).parts; lengths = (k i).lengths; rebuilt = (k i).rebuilt })
