-- `agent::fragments::work_off` meets its contract.
use Rattle.std.proofs.Common.{rules}
use Prim.Native.Nat.{ℕ}
use mathlib.Core.Path.{◌≡◌, sym, ap, ◌∙◌}
use mathlib.Core.Bool.{Bool, true, false}
use mathlib.Core.List.{List}
use Rattle.codec.specs.Rebuilt.{rebuilt_of}
use Rattle.moves.specs.Rows.{Rows}
use Rattle.agent.specs.Judge.{is_read}
use Rattle.agent.specs.Lent.{rows_of, with_rows, rebuilt_part}
use Rattle.agent.specs.Run.{Acted, entered_ran, left_acted, left_by, put_replies}
use Rattle.agent.specs.Legs.{Led, leg_at}
use Rattle.agent.specs.Stores.{stores_of}
use Rattle.agent.specs.declared.leg.Mode.TheVariants.{Rebuilt}
use Rattle.agent.specs.declared.turn.Frame.{Frame}
use Rattle.agent.specs.declared.turn.Ran.{Ran}
use Rattle.agent.proofs.Written.{no_replies, left_if, left_if_lem}
use Rattle.agent.proofs.Legs.{leg_work}
use Rattle.agent.proofs.fragments.work_off.Goals as goal

-- as the code goes, a leg
abbrev acted_on : Led → ℕ → ℕ → Acted
acted_on y n at = left_acted (record { ran = y.leg.ran; rows = y.rows; replies = y.replies }) n at

module _ (f : Frame) (h s : List ℕ) (n : ℕ) (r : Ran) (at : ℕ) (t : Rows) where
  left_is : (b : Bool) → is_read (rebuilt_of s) ≡ b → left_if b f h s n r at t ≡ left_by (rebuilt_of s) f h s n r at t
  left_is b e = ap (λ (q : Bool). left_if q f h s n r at t) (sym e) ∙ left_if_lem (rebuilt_of s) f h s n r at t

  led_is : is_read (rebuilt_of s) ≡ true → acted_on (leg_at Rebuilt f h s (entered_ran r) t) n at ≡ left_by (rebuilt_of s) f h s n r at t
  led_is e = ap (λ (y : Led). acted_on y n at) (leg_work f h s (entered_ran r) t) ∙ left_is true e

pub returns-then-is_ok : goal.returns-then-is_ok
returns-then-is_ok c =
    let a = c.args in
    let t = stores_of a.stores.now in
    let s = rebuilt_part t.rebuilt a.n in
    let e = c.lead-y.ensures in
    let read : is_read (rebuilt_of s) ≡ true = cc in
    let all = led_is a.f t.held s a.n a.r a.at (rows_of t) read in
    rw (c.left.ensures, e.0, e.1, e.2, e.3, e.4, c.entered-first.ensures, c.rebuilt_part-s.ensures)
    (record {
      ran = ap (λ (y : Acted). y.ran) all;
      stores = ap (λ (y : Acted). with_rows t y.rows) all;
      out = ap (λ (y : Acted). put_replies a.f.room a.out.now a.r.wrote y.replies) all;
      places = search rules;
    })

pub returns-else-is_ok : goal.returns-else-is_ok
returns-else-is_ok c =
    let a = c.args in
    let t = stores_of a.stores.now in
    let s = rebuilt_part t.rebuilt a.n in
    let read : is_read (rebuilt_of s) ≡ false = cc in
    let all = left_is a.f t.held s a.n a.r a.at (rows_of t) false read in
    rw c.passed.ensures
    (record {
      ran = ap (λ (y : Acted). y.ran) all;
      stores = ap (λ (y : Acted). with_rows t y.rows) all;
      out = no_replies a.f.room a.out.now a.r.wrote ∙ ap (λ (y : Acted). put_replies a.f.room a.out.now a.r.wrote y.replies) all;
      places = search rules;
    })
