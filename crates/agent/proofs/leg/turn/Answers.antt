-- `agent::leg::turn` meets its contract.
use mathlib.Core.Path.{◌≡◌, refl}
use mathlib.Core.List.{List}
use Prim.Native.Nat.{ℕ}
use lib.ListN.{length}
use Rattle.codec.specs.Reading.{read_at}
use Rattle.sessions.specs.Opening.{created_of}
use Rattle.moves.specs.Rows.{Rows, rows}
use Rattle.agent.specs.Run.{taken_of}
use Rattle.agent.specs.Legs.{step_of, led_by, led}
use Rattle.agent.specs.declared.leg.Mode.{Mode}
use Rattle.agent.specs.declared.leg.Step.{Step}
use Rattle.agent.specs.declared.leg.Step.TheVariants.{Greets, Keeps, Delivers, Passes}
use Rattle.agent.specs.declared.turn.Frame.{Frame}
use Rattle.agent.specs.declared.turn.Ran.{Ran}
use Rattle.agent.specs.declared.turn.Taken.{Taken}
use Rattle.agent.proofs.Written.{greeting_written, no_replies}
use Rattle.agent.proofs.Legs.{as_led}
use Rattle.agent.proofs.leg.turn.Goals as goal
use Rattle.std.specs.Prelude.{Result}
use Rattle.codec.specs.declared.layouts.Cursor.{Cursor}
use Rattle.codec.specs.declared.refusals.Refusal.{Refusal}
use Rattle.codec.specs.declared.layouts.Span.{Span}
use Rattle.codec.specs.declared.submessages.Submessage.{Submessage}

-- what was read at the run's place, taken apart and matched
led_is : (k : Step) (m : Mode) (f : Frame) (t : Rows) (h s : List ℕ) (r : Ran) (p : Result (Submessage × Span × Cursor) Refusal) (x : Taken)
    → p ≡ read_at s r.at → x ≡ taken_of p (length s) → k ≡ step_of m x.asked.opening → led_by k f t h s r x ≡ led m f t h s r
unfolding led
led_is k m f t h s r p x read apart matched = rw (matched, apart, read) refl

pub returns-in-Greets : goal.returns-in-Greets
returns-in-Greets c =
    let a = c.args in
    let x = c.take_apart-x.result in
    let t = rows a.sessions.now a.streams.now a.objects.now in
    rw (c.plain.ensures, c.greet.ensures.0, c.greet.ensures.1, c.greet.ensures.2, c.greet.ensures.3)
    (as_led a.f.room a.out.now _ a.r.wrote (led_by Greets a.f t a.held.now a.s.now a.r x) _
    (led_is Greets a.m a.f t a.held.now a.s.now a.r c.read-p.result x c.read-p.ensures c.take_apart-x.ensures c.in-Greets.ensures)
    (greeting_written a.f.room a.out.now a.r.wrote (created_of a.sessions.now a.streams.now a.f.max_clients a.r.next)))

pub returns-in-Keeps : goal.returns-in-Keeps
returns-in-Keeps c =
    let a = c.args in
    let x = c.take_apart-x.result in
    let t = rows a.sessions.now a.streams.now a.objects.now in
    rw c.passed.ensures
    (as_led a.f.room a.out.now _ a.r.wrote (led_by Keeps a.f t a.held.now a.s.now a.r x) _
    (led_is Keeps a.m a.f t a.held.now a.s.now a.r c.read-p.result x c.read-p.ensures c.take_apart-x.ensures c.in-Keeps.ensures)
    (no_replies a.f.room a.out.now a.r.wrote))

pub returns-in-Delivers : goal.returns-in-Delivers
returns-in-Delivers c =
    let a = c.args in
    let x = c.take_apart-x.result in
    let t = rows a.sessions.now a.streams.now a.objects.now in
    let e = c.deliver.ensures in
    rw (c.plain-in-Delivers.ensures, e.0, e.1, e.2, e.3, e.4)
    (as_led a.f.room a.out.now _ a.r.wrote (led_by Delivers a.f t a.held.now a.s.now a.r x) _
    (led_is Delivers a.m a.f t a.held.now a.s.now a.r c.read-p.result x c.read-p.ensures c.take_apart-x.ensures c.in-Delivers.ensures)
    refl)

pub returns-in-Passes : goal.returns-in-Passes
returns-in-Passes c =
    let a = c.args in
    let x = c.take_apart-x.result in
    let t = rows a.sessions.now a.streams.now a.objects.now in
    rw (c.plain-in-Passes.ensures, c.passed-in-Passes.ensures)
    (as_led a.f.room a.out.now _ a.r.wrote (led_by Passes a.f t a.held.now a.s.now a.r x) _
    (led_is Passes a.m a.f t a.held.now a.s.now a.r c.read-p.result x c.read-p.ensures c.take_apart-x.ensures c.in-Passes.ensures)
    (no_replies a.f.room a.out.now a.r.wrote))
