-- A record is read back as it was written: what the host keeps between two calls is the agent.
use Prim.Native.Nat.{ℕ, ◌%◌, ◌<◌, ◌≤◌}
use mathlib.Core.Path.{◌≡◌, refl, ap, ◌∙◌}
use mathlib.Core.Bool.{Bool, true, false}
use mathlib.Core.List.{List, []}
use native.Mathlib.Omega.{arith}
use borrow.Author.Tests.{le-leb}
use lib.Dec.{eqb, leb}
use lib.ListN.{length}
use lib.Seq.{get_or-set_same}
use Rattle.moves.specs.declared.proxy.Task.{Task}
use Rattle.moves.specs.declared.proxy.Task.TheVariants.{Creating, Writing, Reading, Deleting}
use Rattle.agent.specs.declared.state.Agent.{Agent}
use Rattle.cabi.specs.Record.{record_of, record_at, task_in, agent_in, task_number, task_kind, task_parent, open_number, record_by, record_for, row_of, kept_in}
use Rattle.cabi.specs.declared.told.Told.{Told}
use Rattle.std.specs.Prelude.{None, Option, Some}
use Rattle.agent.specs.declared.state.Pending.{Pending}

-- the numbers of an open call, as the types of the code have them
abbrev pub TaskFits : Task → Type 0
TaskFits (Creating kind parent) = (kind ≤ 255) × (parent ≤ 65535)
TaskFits Writing = Unit {0}
TaskFits Reading = Unit {0}
TaskFits Deleting = Unit {0}

abbrev pub WaitsFit : Option Pending → Type 0
WaitsFit None = Unit {0}
WaitsFit (Some p) =
    (p.session_id ≤ 255) × (p.stream_id ≤ 255) × (p.number.0 ≤ 65535) × TaskFits p.task

task_back : (t : Task) → TaskFits t → task_in (task_number t) (task_kind t) (task_parent t) ≡ t
task_back (Creating kind parent) h =
    let e : kind % 256 ≡ kind = omega (arith, h.0) in
    let f : parent % 65536 ≡ parent = omega (arith, h.1) in
    λ i. Creating (e i) (f i)
task_back Writing h = refl
task_back Reading h = refl
task_back Deleting h = refl

task_low : (t : Task) → leb (task_number t) 4 ≡ true
task_low (Creating kind parent) = refl
task_low Writing = refl
task_low Reading = refl
task_low Deleting = refl

kind_low : (t : Task) → TaskFits t → leb (task_kind t) 255 ≡ true
kind_low (Creating kind parent) h = le-leb kind 255 h.0
kind_low Writing h = refl
kind_low Reading h = refl
kind_low Deleting h = refl

parent_low : (t : Task) → TaskFits t → leb (task_parent t) 65535 ≡ true
parent_low (Creating kind parent) h = le-leb parent 65535 h.1
parent_low Writing h = refl
parent_low Reading h = refl
parent_low Deleting h = refl

task_open : (t : Task) → eqb (task_number t) 0 ≡ false
task_open (Creating kind parent) = refl
task_open Writing = refl
task_open Reading = refl
task_open Deleting = refl

open_back : (b : Bool) → eqb (open_number b) 1 ≡ b
open_back true = refl
open_back false = refl

agent_back : (max timeout next : ℕ) (w : Option Pending) → next ≤ 255 → WaitsFit w
    → agent_in (record_by w max timeout next) ≡ record { max_clients = max; timeout_ms = timeout; next = next; waits = w }
unfolding agent_in
agent_back max timeout next None h f =
    let e : next % 256 ≡ next = omega (arith, h) in
    rw (le-leb next 255 h, e)
agent_back max timeout next (Some p) h f =
    let session = f.0 in
    let stream = f.1 in
    let number = f.2 in
    let a : next % 256 ≡ next = omega (arith, h) in
    let b : p.session_id % 256 ≡ p.session_id = omega (arith, session) in
    let c : p.stream_id % 256 ≡ p.stream_id = omega (arith, stream) in
    let d : p.number.0 % 65536 ≡ p.number.0 = omega (arith, number) in
    rw (le-leb next 255 h, task_low p.task, kind_low p.task f.3, le-leb p.session_id 255 session, le-leb p.stream_id 255 stream, le-leb p.number.0 65535 number, parent_low p.task f.3, a, b, c, d, task_open p.task, task_back p.task f.3, open_back p.moment.is_open)

pub record_back : (rows : List (List ℕ)) (a : Agent) (t : Told) → 0 < length rows → a.next ≤ 255 → WaitsFit a.waits → agent_in (record_at (kept_in rows (record_for a) t)) ≡ a
unfolding record_for
record_back rows a t some next waits =
    ap (λ (w : List ℕ). agent_in (record_of w)) (get_or-set_same rows 0 (row_of (record_for a) t) [] some)
    ∙ agent_back a.max_clients a.timeout_ms a.next a.waits next waits
