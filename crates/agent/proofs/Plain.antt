-- A call without rebuilt submessages (W6): no FRAGMENT is among what it handles and none waits, so it is the answer's part and one leg.
use Prim.Native.Nat.{ℕ, zero, suc, ◌+◌, ◌-◌}
use mathlib.Core.Path.{◌≡◌, refl, sym, ap, ◌∙◌}
use mathlib.Core.Bool.{Bool, true, false, cond}
use mathlib.Core.List.{List, [], ◌++◌, append-nil}
use native.Mathlib.Omega.{arith}
use lib.ListN.{get_or, length}
use Rattle.codec.specs.Submessages.{id_of}
use Rattle.codec.specs.Reading.{read_at}
use Rattle.codec.specs.declared.submessages.Submessage.{Submessage}
use Rattle.codec.specs.declared.submessages.Submessage.TheVariants as sub
use Rattle.sessions.specs.View.{Tables}
use Rattle.moves.specs.Rows.{Rows, asks_of}
use Rattle.agent.specs.Lent.{rows_of, with_rows}
use Rattle.agent.specs.Step.{Reply}
use Rattle.agent.specs.Run.{Turned, Acted, taken_of, with_acted, goes_on, before, run_at}
use Rattle.agent.specs.Host.{begun_by, held_begun, with_held, performed, one_of, ids_at, unbound}
use Rattle.agent.specs.Legs.{step_of, plain_leg, Led, led_by, led, is_kept, leg_in, leg_at, leg_turned, kept_by, plain_performed}
use Rattle.agent.specs.declared.judge.Start.{Start}
use Rattle.agent.specs.declared.leg.Leg.{Leg}
use Rattle.agent.specs.declared.leg.Mode.TheVariants.{Datagram}
use Rattle.agent.specs.declared.turn.Frame.{Frame}
use Rattle.agent.specs.declared.turn.Ran.{Ran}
use Rattle.agent.specs.declared.turn.Taken.{Taken}
use Rattle.agent.proofs.Acknacks.{read_says_lem, headers_end, ids_read, is_bound}
use Rattle.agent.proofs.Most.{none_waits}
use Rattle.agent.proofs.Running.{run_end}
use Rattle.agent.proofs.Legs.{way_leaves, leg_ended, run_strides}
use Rattle.std.specs.Prelude.{Err, None, Ok, Option, Result}
use Rattle.codec.specs.declared.layouts.Cursor.{Cursor}
use Rattle.codec.specs.declared.refusals.Refusal.{Refusal}
use Rattle.codec.specs.declared.layouts.Span.{Span}

-- ---- without a FRAGMENT among them, no submessage ends the leg

module _ (f : Frame) (h d : List ℕ) where
  abbrev Plain : Leg → Type 0
  Plain l = (l ≡ plain_leg l.ran) × (ids_at 0x0F d l.ran.at ≡ 0)

  own_way : (m : Submessage) (t : Rows) (r : Ran) (x : Taken) → one_of 0x0F (id_of m) ≡ 0 → let l = (led_by (step_of Datagram (asks_of m).opening) f t h d r x).leg in l ≡ plain_leg l.ran
  own_way (sub.CreateClient p) t r x e = refl
  own_way (sub.Create p) t r x e = refl
  own_way (sub.Delete p) t r x e = refl
  own_way (sub.Status p) t r x e = refl
  own_way (sub.WriteData p) t r x e = refl
  own_way (sub.ReadData p) t r x e = refl
  own_way (sub.Data p) t r x e = refl
  own_way (sub.Heartbeat p) t r x e = refl
  own_way (sub.Acknack p) t r x e = refl
  own_way (sub.Fragment p) t r x e = absurd (omega (arith, e))

  led_plain : (t : Rows) (r : Ran) → ids_at 0x0F d r.at ≡ 0 → Plain (led Datagram f t h d r).leg
  unfolding led
  led_plain t r none = go (read_at d r.at) refl
    where
      go : (q : Result (Submessage × Span × Cursor) Refusal) → read_at d r.at ≡ q → Plain (led_by (step_of Datagram (taken_of q (length d)).asked.opening) f t h d r (taken_of q (length d))).leg
      go (Ok (m, z, c)) e =
          let took = taken_of (Ok (m, z, c)) (length d) in
          let k = ids_read 0x0F d r.at m z c e in
          let own = ap (one_of 0x0F) (read_says_lem d r.at m z c e).own in
          let at = ap (ids_at 0x0F d) (way_leaves f t h d r took (step_of Datagram (asks_of m).opening)).place in
          (own_way m t r took (omega (arith, k, own, none)), omega (arith, at, k, none))
      go (Err z) e = (refl, headers_end (λ p n. one_of 0x0F (get_or d p 0) + n) 0 d (length d) (omega arith))

  in_plain : (n : ℕ) (r : Ran) (t : Rows) → ids_at 0x0F d r.at ≡ 0 → (leg_in n Datagram f h d (plain_leg r) t).leg.found ≡ None
  unfolding leg_in
  in_plain zero r t none = refl
  in_plain (suc n) r t none = go (goes_on (length d) r) (led_plain t r none) (in_plain n x.leg.ran x.rows)
    where
      x : Led
      x = led Datagram f t h d r

      go : (b : Bool) → Plain x.leg → (ids_at 0x0F d x.leg.ran.at ≡ 0 → (leg_in n Datagram f h d (plain_leg x.leg.ran) x.rows).leg.found ≡ None)
          → (cond {A = Led} b
          (let y = leg_in n Datagram f h d x.leg x.rows in record { leg = y.leg; rows = y.rows; replies = x.replies ++ y.replies })
          (record { leg = plain_leg r; rows = t; replies = [] })
          ).leg.found ≡ None
      go true p later = ap (λ (l : Leg). (leg_in n Datagram f h d l x.rows).leg.found) p.0 ∙ later p.1
      go false p later = refl

  leg_plain : (r : Ran) (t : Rows) → ids_at 0x0F d r.at ≡ 0 → (leg_at Datagram f h d r t).leg.found ≡ None
  unfolding leg_at
  leg_plain r t none = in_plain (length d - r.at) r t none

-- ---- so a run is one leg

module _ (f : Frame) (d : List ℕ) (r : Ran) (t : Tables) (none : ids_at 0x0F d r.at ≡ 0) where
  abbrev y : Led
  y = leg_at Datagram f t.held d r (rows_of t)

  abbrev rest : Turned
  rest = run_at f d y.leg.ran (with_rows t y.rows)

  abbrev onward : Option Taken → Turned
  onward g = before (before (leg_turned y t) (λ r' t'. kept_by g f d r' t')) (λ r' t'. run_at f d r' t')

  abbrev answered : Turned → Turned
  answered v = record { ran = v.ran; tables = v.tables; replies = (y.replies ++ []) ++ v.replies }

  at_end : goes_on (length d) y.leg.ran ≡ false
  at_end = ap (λ (g : Option Taken). cond (is_kept g) false (goes_on (length d) y.leg.ran)) (sym (leg_plain f t.held d r (rows_of t) none)) ∙ leg_ended Datagram f t.held d r (rows_of t)

  run_plain : run_at f d r t ≡ leg_turned y t
  run_plain =
      run_strides f d r t
      ∙ (ap onward (leg_plain f t.held d r (rows_of t) none)
      ∙ (ap answered (run_end f d y.leg.ran (with_rows t y.rows) at_end)
      ∙ ap (λ (rs : List Reply). record { ran = y.leg.ran; tables = with_rows t y.rows; replies = rs }) (append-nil (y.replies ++ []) ∙ append-nil y.replies)))

-- ---- and a call the answer's part, and one leg

module _ (x : Start) (t : Tables) (d sample : List ℕ) (bound : unbound x d ≡ false) where
  abbrev held : List ℕ
  held = held_begun x (rows_of t) t.held sample

  pub performed_plain : performed x t d sample ≡ plain_performed x t d sample
  unfolding performed
  performed_plain =
      let b = is_bound x d bound in
      ap (λ (a : Acted). before (with_acted (with_held t held) a) (λ r u. run_at x.frame d r u)) (none_waits x (rows_of t) t.held t.rebuilt sample b.0)
      ∙ ap (λ (v : Turned). record { ran = v.ran; tables = v.tables; replies = begun_by x.resumes t.sessions t.streams x.frame sample ++ v.replies }) (run_plain x.frame d _ _ b.1)
