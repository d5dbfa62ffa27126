-- A datagram is processed without a look at the sample, and an answer without one at the week's minutes.
use Prim.Native.Nat.{ℕ}
use mathlib.Core.Path.{◌≡◌, refl, ap, ◌∙◌}
use mathlib.Core.Bool.{Bool, true, false, cond}
use mathlib.Core.List.{List, []}
use native.Mathlib.Omega.{arith}
use lib.Dec.{ltb}
use lib.ListN.{length}
use Rattle.codec.specs.Reading.{check_of}
use Rattle.codec.specs.declared.header.MessageHeader.{MessageHeader}
use Rattle.codec.specs.declared.refusals.Refusal.{Refusal}
use Rattle.codec.specs.declared.refusals.Refusal.TheVariants.{OutOfTurn, OverLimit, NoSuchMinute}
use Rattle.hours.specs.Windows.{week_minutes}
use Rattle.hours.specs.Week.{is_minute, open_in}
use Rattle.sessions.specs.Limits.{limits_of}
use Rattle.sessions.specs.View.{Tables}
use Rattle.moves.specs.Calls.{fits}
use Rattle.moves.specs.Proxy.{answer_as, task_as}
use Rattle.moves.specs.declared.proxy.BridgeAnswer.{BridgeAnswer}
use Rattle.agent.specs.Brings.{moment_of}
use Rattle.agent.specs.Host.{performed, resumed_acted, finish, processed_by, process_of}
use Rattle.agent.specs.Judge.{turn_of, session_of, stream_of, slot_of, sound_of, datagram_start, checked_judged, judged_by, judge_of}
use Rattle.agent.specs.Run.{Turned}
use Rattle.agent.specs.declared.judge.Input.TheVariants.{Datagram, Answer as Told}
use Rattle.agent.specs.declared.judge.Turn.{Turn}
use Rattle.agent.specs.declared.judge.Turn.TheVariants as turn
use Rattle.agent.specs.declared.state.Agent.{Agent}
use Rattle.agent.specs.declared.state.Given.{Given}
use Rattle.agent.specs.declared.state.Moment.{Moment}
use Rattle.agent.specs.declared.state.Pending.{Pending}
use Rattle.std.specs.Prelude.{Err, None, Ok, Option, Result, Some}
use Rattle.agent.specs.declared.judge.Start.{Start}

module _ (a : Agent) (t : Tables) (out d s u : List ℕ) where
  module _ (moment : Moment) where
    performed_any : (h : MessageHeader) → performed (datagram_start a moment h (length out)) t d s ≡ performed (datagram_start a moment h (length out)) t d u
    unfolding performed resumed_acted
    performed_any h = refl

    checked_any : (c : Result (MessageHeader × ℕ) Refusal) → processed_by (checked_judged a moment (length out) c) a t out d s ≡ processed_by (checked_judged a moment (length out) c) a t out d u
    checked_any (Ok (h, n)) = ap (λ (y : Turned). finish a t out (datagram_start a moment h (length out)) y) (performed_any h)
    checked_any (Err r) = refl

  abbrev within_at : Result Turn Refusal → Result (Unit {0}) Refusal
  within_at x = limits_of t.sessions t.streams t.objects (length t.held) (length t.parts) t.lengths (length t.rebuilt) a.max_clients (session_of d x) (stream_of d x)

  abbrev judged_at : List ℕ → Result Turn Refusal → Given → List ℕ → Result (Start × ℕ) Refusal
  judged_at hours x given y = judged_by hours d t.rebuilt a (within_at x) x given (length y) (slot_of x t.sessions t.streams (length t.held) (length y)) (length out)

  module _ (hours : List ℕ) (given : Given) where
    abbrev moment : Moment
    moment = moment_of (open_in hours) given

    -- 16, 20, and then the datagram's bytes
    abbrev tested : Bool → Bool → Bool → Result (MessageHeader × ℕ) Refusal → Result (Start × ℕ) Refusal
    tested b w m c = cond b (cond w (Err OverLimit) (cond m (checked_judged a moment (length out) c) (Err NoSuchMinute))) (Err OverLimit)

    sound_any : (b w m : Bool) (c : Result (MessageHeader × ℕ) Refusal) → processed_by (tested b w m c) a t out d s ≡ processed_by (tested b w m c) a t out d u
    sound_any true true m c = refl
    sound_any true false true c = checked_any moment c
    sound_any true false false c = refl
    sound_any false w m c = refl

    turn_any : (w : Option Pending)
        → processed_by (judged_at hours (turn_of w Datagram) given s) a t out d s ≡ processed_by (judged_at hours (turn_of w Datagram) given u) a t out d u
    turn_any None =
        sound_any (sound_of a (within_at (turn_of None Datagram))) (ltb (length hours) week_minutes) (is_minute given.day given.minute) (check_of d)
    turn_any (Some p) = refl

    pub any_sample : process_of a t hours out d s Datagram given ≡ process_of a t hours out d u Datagram given
    unfolding process_of judge_of
    any_sample = turn_any a.waits

  -- an answer is processed without a look at the week's minutes
  module _ (h k : List ℕ) (b : BridgeAnswer) (given : Given) where
    turned_any : (x : Result Turn Refusal) → (x ≡ turn_of a.waits (Told b)) → judged_at h x given s ≡ judged_at k x given s
    turned_any (Ok (turn.Answer p c)) e = refl
    turned_any (Err r) e = refl
    turned_any (Ok turn.Datagram) e = absurd (never a.waits e)
      where
        is_datagram : Result Turn Refusal → ℕ
        is_datagram (Ok turn.Datagram) = 1
        is_datagram (Ok (turn.Answer p c)) = 0
        is_datagram (Err r) = 0

        fitted : (p : Pending) (f : Bool) → is_datagram (cond f (Ok (turn.Answer p b)) (Err OutOfTurn)) ≡ 0
        fitted p true = refl
        fitted p false = refl

        told : (w : Option Pending) → is_datagram (turn_of w (Told b)) ≡ 0
        told None = refl
        told (Some p) = fitted p (fits (task_as p.task) (answer_as b []))

        never : (w : Option Pending) → (Ok turn.Datagram) ≡ turn_of w (Told b) → ⊥
        never w e = let z : ◌≡◌ {A = ℕ} 1 0 = ap is_datagram e ∙ told w in omega (arith, z)

    pub any_hours : process_of a t h out d s (Told b) given ≡ process_of a t k out d s (Told b) given
    unfolding process_of judge_of
    any_hours = ap (λ (j : Result (Start × ℕ) Refusal). processed_by j a t out d s) (turned_any (turn_of a.waits (Told b)) refl)
