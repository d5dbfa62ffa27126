-- While a CREATE's call is open, its session has room for the object: "CREATE of a 33rd number answers ERR_RESOURCES before any lookup or call."
use Rattle.std.specs.Prelude.{Option, None, Some}
use mathlib.Core.Path.{◌≡◌, refl, sym, subst}
use Prim.Native.Nat.{ℕ}
use mathlib.Core.Bool.{Bool, false, cond}
use mathlib.Core.List.{List, [], ◌∷◌}
use borrow.Author.Tests.{eq-eqb}
use Rattle.isolation.specs.Rules.{done, calls, Sub, opens, names}
use Rattle.sessions.specs.View.{Local}
use Rattle.agent.specs.Local.{touched, full}
use Rattle.moves.specs.Calls as moves
use Rattle.moves.specs.Calls.{Call, Answer, Task, creating, writing, reading, deleting}
use Rattle.agent.specs.RulesObjects.{Move}
use Rattle.agent.specs.Brings.{Opening, In}
use Rattle.agent.specs.RulesAnswers.{on_answer}
use Rattle.agent.specs.RulesFragments.{Pending, Working, plain, handle, resumed}
use Rattle.agent.specs.Step.{Tables, Open, chosen, open_as, Ran, keep, act, deliver, run, continued}
use Rattle.agent.proofs.MoveCases.{Ready, submessage_cases, answer_cases, Leaves, LeavesAll, onto_leaves, handle_leaves}

-- what a call's answer may list finds a place in the session
abbrev pub RoomFor : Task → ℕ → Local → Type 0
RoomFor (creating kind parent) number l = full number l ≡ false
RoomFor writing number l = Unit {0}
RoomFor reading number l = Unit {0}
RoomFor deleting number l = Unit {0}

-- if it is still live
abbrev pub RoomAt : Task → ℕ → Option Local → Type 0
RoomAt task number None = Unit {0}
RoomAt task number (Some l) = RoomFor task number l

-- ---- one submessage, or an answer, with the rebuilt ones behind it

abbrev Any : Local → Type 0
Any l = Unit {0}

abbrev RoomLeft : moves.Pending → Local → Type 0
RoomLeft p l = RoomFor p.task p.number l

abbrev MoveRoom : Move → Type 0
MoveRoom m = Leaves Any RoomLeft m

abbrev WorkRoom : Working → Type 0
WorkRoom m = LeavesAll Any RoomLeft m

room_of : (task : Task) (stream number : ℕ) (l : Local) → Ready task stream number l → RoomFor task number l
room_of (creating kind parent) stream number l e = e
room_of writing stream number l e = tt
room_of reading stream number l e = tt
room_of deleting stream number l e = tt

plain_room : (l : Local) (i : In) → Any l → MoveRoom (plain l i)
plain_room l i e =
    submessage_cases MoveRoom Any i.moment.is_open i.fields i.stream (touched i.moment.time l) tt (λ es. tt) tt (λ l' q. tt) (λ l' n code q. tt)
    (λ l' n task call q r. (tt, room_of task i.stream n l' r)) (λ first last. tt) (λ p e. tt) i.body

handle_room : (l : Local) (i : In) → WorkRoom (handle l i)
handle_room l i = handle_leaves Any RoomLeft plain_room (λ p i l e. tt) l i tt

resumed_room : (l : Local) (p : Pending) (a : Answer) → WorkRoom (resumed l p a)
resumed_room l p a =
    onto_leaves Any RoomLeft plain_room p.left (on_answer l p.asked a)
    (answer_cases MoveRoom p.asked.stream p.asked.number l (λ rs. tt) (λ es rs. tt) (λ ks rs. tt) p.asked.task a)

-- ---- a run that hands out a call

abbrev pub StopRoom : Option (Call × Open) → Tables → Type 0
StopRoom None t = Unit {0}
StopRoom (Some x) t = RoomAt x.1.pending.asked.task x.1.pending.asked.number (t.at x.1.session)

abbrev RanRoom : Ran → Type 0
RanRoom r = StopRoom r.stop r.tables

module _ (id : ℕ) (rest : List (Sub Opening In)) (t : Tables) (go : Tables → Ran) (more : (t' : Tables) → RanRoom (go t')) where
  acts : (m : Working) → WorkRoom m → RanRoom (act id rest t m go)
  acts (done l bs) e = more (keep id l t)
  acts (calls l bs c p) e = subst (λ (b : Bool). RoomAt p.asked.task p.asked.number (cond b (Some l) (t.at id))) (sym (eq-eqb id id refl)) e.1

  delivers : (x : Option Local) (rule : Local → Working) → ((l : Local) → WorkRoom (rule l)) → RanRoom (deliver id rest t x rule go)
  delivers None rule e = more t
  delivers (Some l) rule e = acts (rule l) (e l)

pub stop_room : (max id : ℕ) (ss : List (Sub Opening In)) (t : Tables) → StopRoom (run max id ss t).stop (run max id ss t).tables
unfolding run
stop_room max id [] t = tt
stop_room max id (opens o ∷ ss) t = stop_room max id ss (open_as o t (chosen max t))
stop_room max id (names i ∷ ss) t = delivers id ss t (λ t'. run max id ss t') (λ t'. stop_room max id ss t') (t.at id) (λ l. handle l i) (λ l. handle_room l i)

-- behind an answer a rebuilt submessage may hand out the next call
pub continued_room : (max : ℕ) (w : Open) (a : Answer) (t : Tables) → StopRoom (continued max w a t).stop (continued max w a t).tables
continued_room max w a t =
    delivers w.session w.rest t (λ t'. run max w.session w.rest t') (stop_room max w.session w.rest) (t.at w.session)
    (λ l. resumed l w.pending a) (λ l. resumed_room l w.pending a)
