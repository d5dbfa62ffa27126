-- W8's promise, proved: WRITE_DATA reaches the bridge exactly in an open minute.
use Rattle.std.specs.Prelude.{Option, None, Some}
use Prim.Native.Nat.{ℕ}
use mathlib.Core.Path.{◌≡◌, refl}
use mathlib.Core.Bool.{Bool, true, false, cond}
use mathlib.Core.List.{List, []}
use Rattle.codec.specs.declared.submessages.WriteDataPayload.{WriteDataPayload}
use Rattle.codec.specs.declared.submessages.StatusCode.TheVariants.{ErrUnknownRef, ErrIncompatible}
use Rattle.hours.specs.Windows.{Window, is_open}
use Rattle.hours.specs.Promises.{HeldBy}
use Rattle.hours.proofs.Promises.{open_exactly}
use Rattle.sessions.specs.View.{Local}
use Rattle.moves.specs.Calls.{write_data, writing}
use Rattle.agent.specs.Local.{touched, handle_at}
use Rattle.agent.specs.RulesObjects.{Move, says, asks, if_handle}
use Rattle.agent.specs.RulesFragments.{onto, handle}
use Rattle.agent.specs.Hours.{write_in, QuietHours}
use Rattle.agent.specs.declared.state.Given.{Given}

module _ (ws : List Window) (g : Given) (stream : ℕ) (p : WriteDataPayload) (body : List ℕ) (l : Local) where
  abbrev number : ℕ
  number = p.writer_id.0

  abbrev now : Local
  now = touched g.time l

  -- by the writer's handle, and whether the minute is open
  abbrev writes : Option ℕ → Bool → Move
  writes x b = if_handle x (λ h. cond b (asks stream number writing (write_data h body) now) (says stream number ErrIncompatible now)) (says stream number ErrUnknownRef now)

  abbrev day_open : Bool
  day_open = is_open ws g.day g.minute

  by_both : (x : Option ℕ) (b : Bool) → handle_at number l ≡ x → day_open ≡ b → handle l (write_in ws g stream p body) ≡ onto [] (writes x b)
  by_both x b e f = λ i. onto [] (writes (e i) (f i))

  closed_when : (b : Bool) → day_open ≡ b → (HeldBy ws g.day g.minute → ⊥) → b ≡ false
  closed_when true e n = absurd (n ((open_exactly ws g.day g.minute).0 e))
  closed_when false e n = refl

pub quiet_hours : QuietHours
unfolding onto
quiet_hours ws g stream p body l = record {
  open_calls = λ h e k. by_both ws g stream p body l (Some h) true e ((open_exactly ws g.day g.minute).1 k);
  closed_answers = λ h e n. by_both ws g stream p body l (Some h) false e (closed_when ws g stream p body l (is_open ws g.day g.minute) refl n);
  unknown = λ e. by_both ws g stream p body l None (is_open ws g.day g.minute) e refl;
}
