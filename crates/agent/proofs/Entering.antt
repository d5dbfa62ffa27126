-- The beginning of a run, until the session that the header names is live: a run is its beginning and the rest (W6).
use Prim.Native.Nat.{ℕ, zero, suc, ◌-◌, ◌≤◌}
use mathlib.Core.Path.{◌≡◌, refl, sym, ap, ◌∙◌, subst}
use mathlib.Core.Bool.{Bool, true, false, cond, not}
use mathlib.Core.List.{List, [], ◌++◌, append_assoc}
use native.Mathlib.Omega.{arith}
use lib.ListN.{length}
use Rattle.codec.specs.Reading.{read_at, part_of}
use Rattle.sessions.specs.Table.{named_of, touched_rows}
use Rattle.sessions.specs.Fragments.{takes, gathered}
use Rattle.sessions.specs.Calls.{with_sessions, gather_tables}
use Rattle.sessions.specs.View.{Tables}
use Rattle.sessions.specs.declared.fragments.Gathered.{Gathered}
use Rattle.sessions.proofs.ViewFragments.{gather_nothing}
use Rattle.moves.specs.declared.handle.Opening.{Opening}
use Rattle.moves.specs.declared.handle.Opening.TheVariants.{Client, Fragment, Other, Unread}
use Rattle.agent.specs.Lent.{rows_of, with_rows, rebuilt_part}
use Rattle.agent.specs.Step.{Reply}
use Rattle.agent.specs.Run.{Turned, is_live, passed, taken_of, whole_len, left_by, with_acted, whole_turned, fragment_turned, sub_turned, turned, goes_on, before, run_at}
use Rattle.agent.specs.Legs.{step_of, plain_leg, Led, led_by, led, leg_in, leg_at, leg_turned, enter_at, entered}
use Rattle.agent.specs.declared.leg.Leg.{Leg}
use Rattle.agent.specs.declared.leg.Mode.TheVariants.{Entering}
use Rattle.agent.specs.declared.turn.Frame.{Frame}
use Rattle.agent.specs.declared.turn.Ran.{Ran}
use Rattle.agent.specs.declared.turn.Taken.{Taken}
use Rattle.agent.proofs.Turns.{goes_within, turns}
use Rattle.agent.proofs.Running.{run_more}
use Rattle.agent.proofs.Written.{no_bytes}
use Rattle.std.specs.Prelude.{Err, Ok, Result}
use Rattle.codec.specs.declared.refusals.Refusal.{Refusal}

-- ---- a submessage, before the session is live

not_live_takes : (s : List (List ℕ)) (id nr total len : ℕ) (w : Result Bool Refusal) → named_of s id ≡ w → is_live w ≡ false → takes s id nr total len ≡ false
not_live_takes s id nr total len (Ok true) e q = let z : ◌≡◌ {A = ℕ} 0 1 = ap (λ (b : Bool). cond b 1 0) (sym q) in absurd (omega (arith, z))
not_live_takes s id nr total len (Ok false) e q = rw e
not_live_takes s id nr total len (Err r) e q = rw e

not_live_touched : (s : List (List ℕ)) (id time : ℕ) (w : Result Bool Refusal) → named_of s id ≡ w → is_live w ≡ false → touched_rows s id time ≡ s
unfolding touched_rows
not_live_touched s id time (Ok true) e q = let z : ◌≡◌ {A = ℕ} 0 1 = ap (λ (b : Bool). cond b 1 0) (sym q) in absurd (omega (arith, z))
not_live_touched s id time (Ok false) e q = rw e
not_live_touched s id time (Err r) e q = rw e

module _ (f : Frame) (d : List ℕ) where
  abbrev its : List (List ℕ) → Bool
  its s = is_live (named_of s f.session_id)

  -- no bytes at all are refused
  none_whole : (t : Tables) (r : Ran) (at : ℕ) → whole_turned f t 0 r at ≡ record { ran = passed r at; tables = t; replies = [] }
  none_whole t r at = ap (λ (y : Result ℕ Refusal). with_acted t (left_by y f t.held (rebuilt_part t.rebuilt 0) 0 r at (rows_of t))) (no_bytes t.rebuilt)

  fragment_idle : (t : Tables) (r : Ran) (x : Taken) → its t.sessions ≡ false → fragment_turned f t d r x ≡ record { ran = passed r x.at; tables = t; replies = [] }
  unfolding fragment_turned
  fragment_idle t r x e =
      let id = f.session_id in
      let nr = x.asked.first in
      let total = x.asked.second in
      let body = part_of d x.body in
      let q = ap (with_sessions t) (not_live_touched t.sessions id f.moment.time (named_of t.sessions id) refl e) in
      let w = not_live_takes t.sessions id nr total (length body) (named_of t.sessions id) refl e in
      let g = gather_nothing t id nr total body w in
      ap (λ (u : Tables). whole_turned f (gather_tables u id nr total body) (whole_len (gathered u.sessions u.parts u.lengths u.rebuilt id nr total body)) r x.at) q
      ∙ (ap (λ (y : Gathered). whole_turned f (gather_tables t id nr total body) (whole_len y) r x.at) g.1
      ∙ (ap (λ (u : Tables). whole_turned f u 0 r x.at) g.0 ∙ none_whole t r x.at))

  sub_enters : (o : Opening) (t : Tables) (r : Ran) (x : Taken) → its t.sessions ≡ false
      → let y = led_by (step_of Entering o) f (rows_of t) t.held d r x in (sub_turned o f t d r x ≡ leg_turned y t) × (y.leg ≡ plain_leg y.leg.ran)
  sub_enters Client t r x e = (refl, refl)
  sub_enters Fragment t r x e = (fragment_idle t r x e, refl)
  sub_enters Other t r x e = (refl, refl)
  sub_enters Unread t r x e = (refl, refl)

  turned_enters : (t : Tables) (r : Ran) → its t.sessions ≡ false
      → let y = led Entering f (rows_of t) t.held d r in (turned f t d r ≡ leg_turned y t) × (y.leg ≡ plain_leg y.leg.ran)
  unfolding turned led
  turned_enters t r e = let x = taken_of (read_at d r.at) (length d) in sub_enters x.asked.opening t r x e

  -- ---- a run is its beginning, and what is left then

  abbrev rest : Turned → Turned
  rest x = before x (λ r t. run_at f d r t)

  past_ends : (r : Ran) → length d - r.at ≤ 0 → (b : Bool) → goes_on (length d) r ≡ b → b ≡ false
  past_ends r h true e = let w = goes_within (length d) r e in absurd (omega (arith, w, h))
  past_ends r h false e = refl

  abbrev Entered : Ran → List (List ℕ) → Type 0
  Entered r s = entered f (length d) r s ≡ true

  idle_entered : (r : Ran) (s : List (List ℕ)) → goes_on (length d) r ≡ false → Entered r s
  idle_entered r s e = go (its s)
    where
      go : (b : Bool) → cond b true (not (goes_on (length d) r)) ≡ true
      go true = refl
      go false = ap not e

  record Begins (r : Ran) (t : Tables) (y : Led) : Type 0 where
    splits : run_at f d r t ≡ rest (leg_turned y t)
    there : Entered y.leg.ran y.rows.sessions

  begins_in : (n : ℕ) (r : Ran) (t : Tables) → length d - r.at ≤ n → Begins r t (leg_in n Entering f t.held d (plain_leg r) (rows_of t))
  unfolding leg_in
  begins_in zero r t h = record { splits = refl; there = idle_entered r t.sessions (past_ends r h (goes_on (length d) r) refl) }
  begins_in (suc n) r t h = go (its t.sessions) refl (goes_on (length d) r) refl (λ a. begins_in n x.leg.ran (with_rows t x.rows) a)
    where
      x : Led
      x = led Entering f (rows_of t) t.held d r

      y : Led
      y = leg_in n Entering f t.held d (plain_leg x.leg.ran) x.rows

      further : Leg → Led
      further l = let z = leg_in n Entering f t.held d l x.rows in record { leg = z.leg; rows = z.rows; replies = x.replies ++ z.replies }

      resting : Led
      resting = record { leg = plain_leg r; rows = rows_of t; replies = [] }

      go : (b : Bool) → its t.sessions ≡ b → (c : Bool) → goes_on (length d) r ≡ c → (length d - x.leg.ran.at ≤ n → Begins x.leg.ran (with_rows t x.rows) y)
          → Begins r t (cond (cond b false c) (further x.leg) resting)
      go true e c q later = record { splits = refl; there = ap (λ (b : Bool). cond b true (not (goes_on (length d) r))) e }
      go false e false q later = record { splits = refl; there = idle_entered r t.sessions q }
      go false e true q later =
          let w = goes_within (length d) r q in
          let k = turned_enters t r e in
          let a = (turns f t d r w).ahead in
          let p = ap (λ (z : Turned). z.ran.at) k.0 in
          let m = later (omega (arith, a, p, w, h)) in
          let v = run_at f d y.leg.ran (with_rows t y.rows) in
          let splits = run_more f d r t q ∙ (ap rest k.0 ∙ (ap (λ (z : Turned). record { ran = z.ran; tables = z.tables; replies = x.replies ++ z.replies }) m.splits ∙ ap (λ (rs : List Reply). record { ran = v.ran; tables = v.tables; replies = rs }) (sym (append_assoc x.replies y.replies v.replies)))) in
          subst (Begins r t) (ap further (sym k.1)) (record { splits = splits; there = m.there })

  pub run_enters : (r : Ran) (t : Tables) → run_at f d r t ≡ before (enter_at f d r t) (λ r' t'. run_at f d r' t')
  unfolding leg_at
  run_enters r t = (begins_in (length d - r.at) r t (omega arith)).splits

  pub enter_entered : (r : Ran) (t : Tables) → entered f (length d) (enter_at f d r t).ran (enter_at f d r t).tables.sessions ≡ true
  unfolding leg_at
  enter_entered r t = (begins_in (length d - r.at) r t (omega arith)).there
