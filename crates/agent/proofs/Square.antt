-- The square of one submessage: what the rules do to a session's lists is what the tables do, read as lists.
use Prim.Native.Nat.{ℕ, ◌<◌}
use mathlib.Core.Path.{◌≡◌, refl, sym, ap, ◌∙◌}
use mathlib.Core.Logic.{◌≢◌}
use mathlib.Core.Bool.{Bool, false}
use mathlib.Core.List.{List, [], ◌∷◌}
use lib.ListN.{length}
use Rattle.codec.specs.Reading.{part_of}
use Rattle.codec.specs.declared.layouts.Span.{Span}
use Rattle.codec.specs.declared.submessages.Submessage.{Submessage}
use Rattle.isolation.specs.Rules.{done, calls}
use Rattle.sessions.specs.Table.{is_free}
use Rattle.sessions.specs.SessionObjects.{objects_named}
use Rattle.sessions.specs.SessionStreams.{streams_named}
use Rattle.sessions.specs.View.{Tables, Local, table_part, session_shown, local_of, absent}
use Rattle.sessions.specs.Calls.{SoundStream, SoundTables, LeadsTo}
use Rattle.sessions.proofs.Reached.{free_view, objects_live, streams_live}
use Rattle.moves.specs.Replies.{status_bytes, acknack_bytes}
use Rattle.moves.specs.Proxy.{call_as, task_as}
use Rattle.agent.specs.RulesObjects.{Move}
use Rattle.agent.specs.RulesFragments.{on_submessage}
use Rattle.agent.specs.Lent.{rows_of, with_rows}
use Rattle.agent.specs.Run.{repeats_in}
use Rattle.moves.specs.Rows.{asks_of, handled_move, handled_rows}
use Rattle.moves.specs.declared.moves.Move as code
use Rattle.moves.specs.declared.moves.Move.TheVariants.{Greets, Status, Acknack, Repeats, Calls, Silent}
use Rattle.std.specs.Prelude.{Ok, true, Option, None, Some}

-- the code's move as the rules': the session that is left, and what it says or asks; what is repeated is read off the tables that are left
abbrev pub outcome : List ℕ → Tables → ℕ → ℕ → Local → code.Move → Move
outcome d t id n l (Greets other code) = done l []
outcome d t id n l (Status number code) = done l (status_bytes id n number.0 code ∷ [])
outcome d t id n l (Acknack p) = done l (acknack_bytes id n p.first_unacked_seq p.nack_bitmap ∷ [])
outcome d t id n l (Repeats p) = done l (repeats_in t.sessions t.streams t.held id n p)
outcome d t id n l (Calls number task call) = calls l [] (call_as d call) (record { stream = n; number = number.0; task = task_as task })
outcome d t id n l Silent = done l []

-- a live session, as the tables show it
abbrev pub shown_at : Tables → ℕ → Local
shown_at t id = session_shown id (table_part t id)

-- a rule's move for session id over t, on stream n, against the tables that are left and the code's move
pub record Meets (t : Tables) (d : List ℕ) (id n : ℕ) (rule : Move) (t' : Tables) (m : code.Move) : Type 0 where
  pub after : Local
  pub shows : local_of t' id ≡ Some after
  pub moves : rule ≡ outcome d t' id n after m
  pub elsewhere : (j : ℕ) → j ≢ id → local_of t' j ≡ local_of t j

-- the tables behind a submessage
abbrev pub handled_in : Submessage → Tables → ℕ → ℕ → Tables
handled_in m t id n = with_rows t (handled_rows (asks_of m) (rows_of t) id n)

-- a submessage, over tables in which the session was touched
abbrev pub Squares : Bool → Submessage → Tables → List ℕ → ℕ → ℕ → Span → Type 0
Squares is_open m t d id n body =
    Meets t d id n (on_submessage is_open m (part_of d body) n (shown_at t id)) (handled_in m t id n) (handled_move is_open (asks_of m) (rows_of t) d id n body)

-- ---- a live session

pub shown_live : (t : Tables) (id : ℕ) → is_free t.sessions id ≡ false → local_of t id ≡ Some (shown_at t id)
shown_live t id live = rw live refl

pub live_shown : (t : Tables) (id : ℕ) (l : Local) → local_of t id ≡ Some l → is_free t.sessions id ≡ false
live_shown t id l e = free_view t id ∙ by (local_of t id) e
  where
    by : (x : Option Local) → x ≡ Some l → absent x ≡ false
    by None e = ap absent e
    by (Some k) e = refl

pub same_local : (t : Tables) (id : ℕ) (l : Local) → local_of t id ≡ Some l → shown_at t id ≡ l
same_local t id l e = let z : Some (shown_at t id) ≡ Some l = sym (shown_live t id (live_shown t id l e)) ∙ e in cc

-- what is reached of it
module _ {most : ℕ} (t : Tables) (sound : SoundTables SoundStream most t) (id : ℕ) (id< : id < 256) (live : is_free t.sessions id ≡ false) where
  pub reach_objects : objects_named t.sessions (length t.objects) id ≡ (Ok true)
  reach_objects = objects_live t.sessions id sound.sessions_need_lem (length t.objects) sound.objects_need_lem (sound.each id id<).few_objects live

  pub reach_streams : streams_named t.sessions (length t.streams) id ≡ (Ok true)
  reach_streams = streams_live t.sessions id sound.sessions_need_lem (length t.streams) sound.streams_need_lem (sound.each id id<).few_streams live

-- ---- calls one behind the other keep the tables sound

pub led_on : {most : ℕ} {t u v : Tables} → LeadsTo SoundStream most t u → LeadsTo SoundStream most u v → LeadsTo SoundStream most t v
led_on a b = record {
  sound = b.sound;
  sessions_length = b.sessions_length ∙ a.sessions_length;
  streams_length = b.streams_length ∙ a.streams_length;
  objects_length = b.objects_length ∙ a.objects_length;
  held_length = b.held_length ∙ a.held_length;
  parts_length = b.parts_length ∙ a.parts_length;
  lengths_length = b.lengths_length ∙ a.lengths_length;
  rebuilt_length = b.rebuilt_length ∙ a.rebuilt_length;
}
