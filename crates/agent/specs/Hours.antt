-- The promise of document 02's W8: which WRITE_DATA reaches the bridge, by the windows that set-up took.
use Rattle.std.specs.Prelude.{ℕ, ◌≡◌, List, [], ◌∷◌, None, Some}
use Rattle.codec.specs.declared.submessages.StatusCode.TheVariants.{ErrUnknownRef, ErrIncompatible}
use Rattle.codec.specs.declared.submessages.Submessage.TheVariants.{WriteData}
use Rattle.codec.specs.declared.submessages.WriteDataPayload.{WriteDataPayload}
use Rattle.isolation.specs.Rules.{done, calls}
use Rattle.hours.specs.Windows.{Window, is_open}
use Rattle.hours.specs.Promises.{HeldBy}
use Rattle.sessions.specs.View.{Local}
use Rattle.moves.specs.Calls.{write_data, writing}
use Rattle.moves.specs.Replies.{status_bytes}
use Rattle.agent.specs.Local.{touched, handle_at}
use Rattle.agent.specs.Brings.{In, moment_of, in_of}
use Rattle.agent.specs.RulesFragments.{handle}
use Rattle.agent.specs.declared.state.Given.{Given}

-- a WRITE_DATA of a datagram that came on a weekday in a minute, under the windows ws
abbrev pub write_in : List Window → Given → ℕ → WriteDataPayload → List ℕ → In
write_in ws g stream p body = in_of (moment_of (is_open ws) g) stream (WriteData p) body

-- "WRITE_DATA to a known writer in a closed minute answers ERR_INCOMPATIBLE without a call": it calls exactly if some window of that day holds the
-- minute. A writer that isn't known is answered ERR_UNKNOWN_REF, in any minute.
pub record WritesExactly (ws : List Window) (g : Given) (stream : ℕ) (p : WriteDataPayload) (body : List ℕ) (l : Local) : Type 0 where
  pub open_calls : (h : ℕ) → handle_at p.writer_id.0 l ≡ Some h → HeldBy ws g.day g.minute
      → handle l (write_in ws g stream p body) ≡ calls (touched g.time l) [] (write_data h body) (record { asked = record { stream = stream; number = p.writer_id.0; task = writing }; left = [] })
  pub closed_answers : (h : ℕ) → handle_at p.writer_id.0 l ≡ Some h → (HeldBy ws g.day g.minute → ⊥)
      → handle l (write_in ws g stream p body) ≡ done (touched g.time l) (status_bytes l.id stream p.writer_id.0 ErrIncompatible ∷ [])
  pub unknown : handle_at p.writer_id.0 l ≡ None
      → handle l (write_in ws g stream p body) ≡ done (touched g.time l) (status_bytes l.id stream p.writer_id.0 ErrUnknownRef ∷ [])

abbrev pub QuietHours : Type 0
QuietHours = (ws : List Window) (g : Given) (stream : ℕ) (p : WriteDataPayload) (body : List ℕ) (l : Local) → WritesExactly ws g stream p body l
