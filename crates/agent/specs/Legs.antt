-- A leg of a run, as the code goes: the submessages of one stretch of bytes, until a bridge call is handed out, a FRAGMENT is to be kept, or the end. A run is its legs,
-- with the FRAGMENT between two of them; rebuilt submessages (W6) and the beginning of a run are a leg each. No contract of an entry point cites this file: it stands between the
-- code's loop and Run.antt.
use Rattle.std.specs.Prelude.{ℕ, zero, suc, ◌-◌, Bool, true, false, cond, not, List, [], ◌∷◌, ◌++◌, length, None, Option, Some}
use Rattle.codec.specs.Reading.{read_at}
use Rattle.sessions.specs.Table.{named_of}
use Rattle.sessions.specs.Opening.{created_of, opened_rows, opened_streams}
use Rattle.sessions.specs.View.{Tables}
use Rattle.moves.specs.Rows.{Rows, rows}
use Rattle.moves.specs.declared.handle.Opening.{Opening}
use Rattle.moves.specs.declared.handle.Opening.TheVariants.{Client, Fragment, Other, Unread}
use Rattle.agent.specs.Lent.{rows_of, with_rows}
use Rattle.agent.specs.Step.{Reply, opened, joined_replies}
use Rattle.agent.specs.Run.{Turned, id_opened, greeted, passed, is_live, taken_of, delivered, goes_on, left_ran, fragment_turned}
use Rattle.agent.specs.Host.{begun_by, rows_begun, held_begun, with_held, first_ran}
use Rattle.agent.specs.declared.judge.Start.{Start}
use Rattle.agent.specs.declared.leg.Mode.{Mode}
use Rattle.agent.specs.declared.leg.Mode.TheVariants.{Datagram, Rebuilt, Entering}
use Rattle.agent.specs.declared.leg.Leg.{Leg}
use Rattle.agent.specs.declared.leg.Step.{Step}
use Rattle.agent.specs.declared.leg.Step.TheVariants.{Greets, Keeps, Delivers, Passes}
use Rattle.agent.specs.declared.turn.Frame.{Frame}
use Rattle.agent.specs.declared.turn.Ran.{Ran}
use Rattle.agent.specs.declared.turn.Taken.{Taken}

-- ---- one submessage

-- the check of rebuilt bytes lets no CREATE_CLIENT and no FRAGMENT through
abbrev pub greets_in : Mode → Step
greets_in Datagram = Greets
greets_in Rebuilt = Passes
greets_in Entering = Greets

-- before the session is live a FRAGMENT does nothing: "No such session: no reply."
abbrev pub keeps_in : Mode → Step
keeps_in Datagram = Keeps
keeps_in Rebuilt = Passes
keeps_in Entering = Passes

abbrev pub step_of : Mode → Opening → Step
step_of m Client = greets_in m
step_of m Fragment = keeps_in m
step_of m Other = Delivers
step_of m Unread = Passes

abbrev pub plain_leg : Ran → Leg
plain_leg r = record { ran = r; found = None }

-- what it leaves: the run so far with the FRAGMENT that ends its leg, the rows, and its replies
pub record Led : Type 0 where
  pub leg : Leg
  pub rows : Rows
  pub replies : List Reply

abbrev pub led_by : Step → Frame → Rows → List ℕ → List ℕ → Ran → Taken → Led
led_by Greets f t h s r x =
    let c = created_of t.sessions t.streams f.max_clients r.next in
    record { leg = plain_leg (greeted f r x.at c); rows = rows (opened_rows c t.sessions x.asked.key f.moment.time) (opened_streams c t.streams) t.objects; replies = opened (id_opened c) ∷ [] }
led_by Keeps f t h s r x = record { leg = record { ran = passed r x.at; found = Some x }; rows = t; replies = [] }
led_by Delivers f t h s r x =
    let y = delivered (named_of t.sessions f.session_id) f t h s r x in record { leg = plain_leg y.ran; rows = y.rows; replies = y.replies }
led_by Passes f t h s r x = record { leg = plain_leg (passed r x.at); rows = t; replies = [] }

unfoldable pub led : Mode → Frame → Rows → List ℕ → List ℕ → Ran → Led
led m f t h s r = let x = taken_of (read_at s r.at) (length s) in led_by (step_of m x.asked.opening) f t h s r x

-- ---- all of them

abbrev pub is_kept : Option Taken → Bool
is_kept None = false
is_kept (Some x) = true

abbrev pub is_entering : Mode → Bool
is_entering Datagram = false
is_entering Rebuilt = false
is_entering Entering = true

-- entering ends where the session that the header names is live: from there on its slot is known
abbrev pub has_entered : Mode → List (List ℕ) → ℕ → Bool
has_entered m s id = cond (is_entering m) (is_live (named_of s id)) false

abbrev pub leads_on : Mode → List (List ℕ) → ℕ → ℕ → Leg → Bool
leads_on m s id len l = cond (is_kept l.found) false (cond (has_entered m s id) false (goes_on len l.ran))

unfoldable pub leg_in : ℕ → Mode → Frame → List ℕ → List ℕ → Leg → Rows → Led
leg_in zero m f h s l t = record { leg = l; rows = t; replies = [] }
leg_in (suc left) m f h s l t =
    cond (leads_on m t.sessions f.session_id (length s) l)
    (let x = led m f t h s l.ran in let y = leg_in left m f h s x.leg x.rows in record { leg = y.leg; rows = y.rows; replies = x.replies ++ y.replies })
    (record { leg = l; rows = t; replies = [] })

-- each submessage takes bytes, so there are no more of them than bytes left
unfoldable pub leg_at : Mode → Frame → List ℕ → List ℕ → Ran → Rows → Led
leg_at m f h s r t = leg_in (length s - r.at) m f h s (plain_leg r) t

-- ---- a leg over all lent tables, and the FRAGMENT behind it

abbrev pub leg_turned : Led → Tables → Turned
leg_turned y t = record { ran = y.leg.ran; tables = with_rows t y.rows; replies = y.replies }

abbrev pub kept_by : Option Taken → Frame → List ℕ → Ran → Tables → Turned
kept_by None f d r t = record { ran = r; tables = t; replies = [] }
kept_by (Some x) f d r t = fragment_turned f t d r x

-- ---- the beginning of a run, until the session that the header names is live: before that only CREATE_CLIENT does anything

abbrev pub enter_at : Frame → List ℕ → Ran → Tables → Turned
enter_at f d r t = leg_turned (leg_at Entering f t.held d r (rows_of t)) t

-- a run that has entered: its session is live, or there is nothing more to do
abbrev pub entered : Frame → ℕ → Ran → List (List ℕ) → Bool
entered f len r sessions = cond (is_live (named_of sessions f.session_id)) true (not (goes_on len r))

-- ---- a call without rebuilt submessages: the answer's part, if it is one, and one leg

abbrev pub plainly : Start → Rows → List ℕ → List ℕ → List ℕ → Led
plainly x t h d sample =
    let rs = begun_by x.resumes t.sessions t.streams x.frame sample in
    let y = leg_at Datagram x.frame (held_begun x t h sample) d (left_ran (first_ran x (length (joined_replies rs))) x.left_end x.at) (rows_begun x t h sample) in
    record { leg = y.leg; rows = y.rows; replies = rs ++ y.replies }

abbrev pub plain_performed : Start → Tables → List ℕ → List ℕ → Turned
plain_performed x t d sample = leg_turned (plainly x (rows_of t) t.held d sample) (with_held t (held_begun x (rows_of t) t.held sample))
