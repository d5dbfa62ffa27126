-- Document 01's lettered case l, on what set-up leaves, added to the table of a to k.
use Prim.Native.Nat.{ℕ, ◌+◌, ◌-◌, ◌<◌, ◌≤◌}
use mathlib.Core.Path.{◌≡◌, refl, ap, ◌∙◌}
use mathlib.Core.Bool.{true, false}
use mathlib.Core.List.{List, [], ◌∷◌}
use native.Mathlib.Omega.{arith}
use lib.ListN.{length, set, length-set}
use lib.Seq.{get_or-set_same}
use Rattle.codec.specs.Answers.{Answer, gives}
use Rattle.streams.specs.State.{new_stream}
use Rattle.streams.proofs.Cases.{Table as Below, cases as below}
use Rattle.sessions.specs.Table.{row_of, new_session, ended_session, is_free, named_of, ended_rows}
use Rattle.sessions.specs.Streams.{stream_row, first_stream}
use Rattle.sessions.specs.Opening.{after, live_of, created_of, opened_rows, opened_streams, free_slot}
use Rattle.sessions.specs.Answers.{set_up_answer, created_answer, named_answer}
use Rattle.sessions.specs.Setup.{empty_sessions, empty_streams, set_up_of}
use Rattle.sessions.specs.declared.objects.Object.{Object}
use Rattle.sessions.proofs.Counted.{free_elsewhere, live_changed, opens_at}
use Rattle.sessions.proofs.Empty.{none_live, live_none, first_opened, rows_long, streams_long}
use Rattle.sessions.proofs.Reached.{named_when, created_when}
use Rattle.std.specs.Prelude.{Err, Ok, Result}
use Rattle.codec.specs.declared.refusals.Refusal.{Refusal}

-- ---- openings one behind the other

-- the stores of sessions and of streams
pub record Stores : Type 0 where
  pub sessions : List (List ℕ)
  pub streams : List (List ℕ)

-- the session that is opened next, with the pointer at `next`, under the limit 8: its id, and where the pointer goes on
abbrev pub opens : Stores → ℕ → Answer (ℕ × ℕ)
opens t next = created_answer (created_of t.sessions t.streams 8 next)

-- what it leaves, with that key and time
abbrev pub opened : ℕ → Stores → ℕ → ℕ → Stores
opened id t key time = record { sessions = opened_rows (Ok (id, (after id))) t.sessions key time; streams = opened_streams (Ok (id, (after id))) t.streams }

abbrev pub without : ℕ → Stores → Stores
without id t = record { sessions = ended_rows t.sessions id; streams = t.streams }

-- what set-up leaves
abbrev pub empty : List (List ℕ) → List (List ℕ) → Stores
empty sessions streams = record { sessions = empty_sessions sessions; streams = empty_streams streams }

-- sessions 1 to 3, each with any key and time
module _ (t : Stores) (key time : ℕ → ℕ) where
  abbrev pub one : Stores
  one = opened 1 t (key 1) (time 1)

  abbrev pub two : Stores
  two = opened 2 one (key 2) (time 2)

  abbrev pub three : Stores
  three = opened 3 two (key 3) (time 3)

-- "l: sessions 1 to 3, 2 removed, limit 8: the next is 4.", from stores and a pointer on
abbrev pub CaseL : Stores → ℕ → Type 0
CaseL t next =
    (key time : ℕ → ℕ)
    → (opens t next ≡ gives (1, 2))
    × (opens (one t key time) 2 ≡ gives (2, 3))
    × (opens (two t key time) 3 ≡ gives (3, 4))
    × (named_answer (named_of (three t key time).sessions 2) ≡ gives true)
    × (opens (without 2 (three t key time)) 4 ≡ gives (4, 5))

pub record Table : Type 0 where
  -- a to k
  pub streams : Below
  -- l, on what set-up leaves of any stores that it accepts
  pub l : (sessions streams : List (List ℕ)) (objects : List Object) (held parts lengths rebuilt next : ℕ)
      → set_up_answer (set_up_of (length sessions) (length streams) (length objects) held parts lengths rebuilt 8) ≡ gives next → CaseL (empty sessions streams) next

-- ---- k sessions are live, and the ids from n on are free

record Upto (t : Stores) (k n : ℕ) : Type 0 where
  sessions_long : 256 ≤ length t.sessions
  streams_long : 2048 ≤ length t.streams
  live : live_of t.sessions ≡ k
  free : (j : ℕ) → n ≤ j → j < 256 → is_free t.sessions j ≡ true

module _ (t : Stores) (k n : ℕ) (u : Upto t k n) (low : 1 ≤ n) (high : n ≤ 255) where
  opens_next : k < 8 → opens t n ≡ gives (n, after n)
  opens_next h =
      ap created_answer
      (created_when t.sessions t.streams 8 n u.sessions_long u.streams_long (omega arith) (omega arith)
      ∙ opens_at t.sessions 8 n (rw u.live h) low (u.free n (omega arith) (omega arith)))

  module _ (key time : ℕ) where
    is_live : is_free (opened n t key time).sessions n ≡ false
    is_live = ap (λ (w : List ℕ). is_free (w ∷ []) 0) (get_or-set_same t.sessions n (row_of (new_session key time (free_slot t.sessions))) [] (omega (arith, u.sessions_long)))

    goes_on : Upto (opened n t key time) (k + 1) (n + 1)
    goes_on =
        let c = live_changed t.sessions n (row_of (new_session key time (free_slot t.sessions))) low high in
        record {
          sessions_long = rw (length-set t.sessions n (row_of (new_session key time (free_slot t.sessions)))) u.sessions_long;
          streams_long = rw (length-set t.streams (first_stream n) (stream_row (new_stream 0))) u.streams_long;
          live = let d = rw (is_live, u.free n (omega arith) (omega arith)) at c in omega (arith, d, u.live);
          free = λ j a b. free_elsewhere t.sessions n (row_of (new_session key time (free_slot t.sessions))) j (λ e. omega arith) ∙ u.free j (omega arith) b;
        }

-- a live session below them is removed
module _ (t : Stores) (k n id : ℕ) (u : Upto t k n) (low : 1 ≤ id) (below : id < n) (high : n ≤ 255) (is : is_free t.sessions id ≡ false) where
  removes : named_of t.sessions id ≡ (Ok true)
  removes = named_when t.sessions id u.sessions_long ∙ rw is refl

  is_ended : without id t ≡ record { sessions = set t.sessions id (row_of ended_session); streams = t.streams }
  unfolding ended_rows
  is_ended = rw removes refl

  one_less : Upto (without id t) (k - 1) n
  one_less =
      let c = live_changed t.sessions id (row_of ended_session) low (omega arith) in
      rw is_ended
      record {
        sessions_long = rw (length-set t.sessions id (row_of ended_session)) u.sessions_long;
        streams_long = u.streams_long;
        live = let d = rw (is, get_or-set_same t.sessions id (row_of ended_session) [] (omega (arith, u.sessions_long))) at c in omega (arith, d, u.live);
        free = λ j a b. free_elsewhere t.sessions id (row_of ended_session) j (λ e. omega arith) ∙ u.free j a b;
      }

-- ---- the case

module _ (sessions streams : List (List ℕ)) (objects : List Object) (held parts lengths rebuilt next : ℕ) (ok : set_up_of (length sessions) (length streams) (length objects) held parts lengths rebuilt 8 ≡ Ok next) where
  from_none : Upto (empty sessions streams) 0 1
  from_none =
      record {
        sessions_long = rows_long sessions streams objects held parts lengths rebuilt 8 next ok;
        streams_long = streams_long sessions streams objects held parts lengths rebuilt 8 next ok;
        live = live_none sessions;
        free = λ j a b. none_live sessions j b;
      }

  case_l : CaseL (empty sessions streams) next
  case_l key time =
      let t = empty sessions streams in
      let u = goes_on t 0 1 from_none (omega arith) (omega arith) (key 1) (time 1) in
      let v = goes_on (one t key time) 1 2 u (omega arith) (omega arith) (key 2) (time 2) in
      let w = goes_on (two t key time) 2 3 v (omega arith) (omega arith) (key 3) (time 3) in
      let second = is_live (one t key time) 1 2 u (omega arith) (omega arith) (key 2) (time 2) in
      let still : is_free (three t key time).sessions 2 ≡ false =
      free_elsewhere (two t key time).sessions 3 (row_of (new_session (key 3) (time 3) (free_slot (two t key time).sessions))) 2 (λ e. omega arith) ∙ second in (
        first_opened sessions streams objects held parts lengths rebuilt 8 next ok (omega arith),
        opens_next (one t key time) 1 2 u (omega arith) (omega arith) (omega arith),
        opens_next (two t key time) 2 3 v (omega arith) (omega arith) (omega arith),
        ap named_answer (removes (three t key time) 3 4 2 w (omega arith) (omega arith) (omega arith) still),
        opens_next (without 2 (three t key time)) 2 4 (one_less (three t key time) 3 4 2 w (omega arith) (omega arith) (omega arith) still) (omega arith) (omega arith) (omega arith),
      )

ready : (r : Result ℕ Refusal) (next : ℕ) → set_up_answer r ≡ gives next → r ≡ Ok next
ready (Ok n) next e = let q : n ≡ next = cc in ap Ok q
ready (Err r) next e = let z : ◌≡◌ {A = ℕ} 0 1 = cc in absurd (omega arith)

pub cases : Table
cases =
    record {
      streams = below;
      l = λ sessions streams objects held parts lengths rebuilt next e. case_l sessions streams objects held parts lengths rebuilt next (ready (set_up_of (length sessions) (length streams) (length objects) held parts lengths rebuilt 8) next e);
    }
