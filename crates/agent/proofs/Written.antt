-- What one submessage writes to the lent output: its replies, one behind the other.
use Prim.Native.Nat.{ℕ, ◌+◌}
use mathlib.Core.Path.{◌≡◌, refl, sym, ap}
use mathlib.Core.Bool.{Bool, true, false, cond}
use mathlib.Core.List.{List, [], ◌∷◌}
use lib.Dec.{leb}
use lib.ListN.{length, take, drop}
use Rattle.codec.specs.Bytes.{put_bytes}
use Rattle.codec.specs.Reading.{read_at, part_of}
use Rattle.codec.specs.Rebuilt.{rebuilt_of}
use Rattle.codec.specs.declared.refusals.Refusal.TheVariants.{BufferTooShort}
use Rattle.codec.specs.declared.submessages.AcknackPayload.{AcknackPayload}
use Rattle.codec.specs.declared.submessages.ObjectNumber.{ObjectNumber}
use Rattle.codec.specs.declared.submessages.StatusCode.{StatusCode}
use Rattle.sessions.specs.View.{Tables}
use Rattle.moves.specs.Replies.{status_bytes, acknack_bytes}
use Rattle.moves.specs.Rows.{Rows}
use Rattle.moves.specs.declared.moves.Move.{Move}
use Rattle.moves.specs.declared.moves.Move.TheVariants.{Status, Acknack}
use Rattle.agent.specs.Run.{Acted, counted, count_replies, put_replies, replies_by, greeting_bytes, id_opened, passed, taken_of, inside_by, inside_turned, work_at, entered_ran, left_acted, left_by, gathers, gathered_len, whole_turned, fragment_turned, turned_by, turned}
use Rattle.agent.specs.Step.{opened}
use Rattle.agent.specs.Lent.{rebuilt_part}
use Rattle.agent.specs.Judge.{is_read}
use Rattle.agent.specs.declared.turn.Frame.{Frame}
use Rattle.agent.specs.declared.turn.Ran.{Ran}
use Rattle.agent.specs.declared.turn.Taken.{Taken}
use Rattle.codec.proofs.rebuilt.Laws.{whole_none}
use Rattle.agent.proofs.Laws.{status_long, acknack_long}
use Rattle.agent.proofs.Turns.{greeting_replied}
use Rattle.std.specs.Prelude.{Err, Ok, Result}
use Rattle.codec.specs.declared.refusals.Refusal.{Refusal}

module _ (room : ℕ) (out : List ℕ) (at : ℕ) where
  pub no_replies : out ≡ put_replies room out at []
  unfolding put_replies
  no_replies = refl

  pub greeting_written : (c : Result (ℕ × ℕ) Refusal) → put_bytes out at (greeting_bytes c) ≡ put_replies room out at (opened (id_opened c) ∷ [])
  unfolding put_replies
  greeting_written c = ap (put_bytes out at) (sym (greeting_replied c))

-- the replies of a move that has one of its own, or none
module _ (f : Frame) (s x : List (List ℕ)) (h out : List ℕ) (at : ℕ) (m : Move) where
  abbrev Answered : ℕ → List ℕ → Type 0
  Answered n out' = (n ≡ count_replies f.room at (replies_by f s x h m)) × (out' ≡ put_replies f.room out at (replies_by f s x h m))

  pub status_answered : (number : ObjectNumber) (code : StatusCode) → m ≡ Status number code
      → Answered (counted f.room at 11) (put_bytes out at (status_bytes f.session_id f.stream_id number.0 code))
  unfolding count_replies put_replies
  status_answered number code e = rw e (ap (counted f.room at) (sym (status_long f.session_id f.stream_id number.0 code)), refl)

  pub acknack_answered : (p : AcknackPayload) → m ≡ Acknack p
      → Answered (counted f.room at 12) (put_bytes out at (acknack_bytes f.session_id f.stream_id p.first_unacked_seq p.nack_bitmap))
  unfolding count_replies put_replies
  acknack_answered p e = rw e (ap (counted f.room at) (sym (acknack_long f.session_id f.stream_id p.first_unacked_seq p.nack_bitmap)), refl)

  pub unanswered : replies_by f s x h m ≡ [] → Answered at out
  unfolding count_replies put_replies
  unanswered e = rw e (refl, refl)

pub turned_as : (f : Frame) (t : Tables) (d : List ℕ) (r : Ran) → turned_by (read_at d r.at) f t d r ≡ turned f t d r
unfolding turned
turned_as f t d r = refl

pub inside_as : (f : Frame) (t : Rows) (h s : List ℕ) (r : Ran) → let x = taken_of (read_at s r.at) (length s) in inside_by x.asked.opening f t h s r x ≡ inside_turned f t h s r
unfolding inside_turned
inside_as f t h s r = refl

-- what a check of rebuilt bytes lets through, and what it doesn't
abbrev pub left_if : Bool → Frame → List ℕ → List ℕ → ℕ → Ran → ℕ → Rows → Acted
left_if b f h s n r at t = cond b (left_acted (work_at f h s (entered_ran r) t) n at) (record { ran = passed r at; rows = t; replies = [] })

pub left_if_lem : (o : Result ℕ Refusal) (f : Frame) (h s : List ℕ) (n : ℕ) (r : Ran) (at : ℕ) (t : Rows) → left_if (is_read o) f h s n r at t ≡ left_by o f h s n r at t
left_if_lem (Ok k) f h s n r at t = refl
left_if_lem (Err x) f h s n r at t = refl

-- none of them: these are refused
pub none_part : (s : List ℕ) → rebuilt_part s 0 ≡ []
unfolding part_of
none_part s = by (leb (0 + 0) (length s))
  where
    by : (b : Bool) → cond b (take 0 (drop 0 s)) [] ≡ []
    by true = refl
    by false = refl

pub no_bytes : (s : List ℕ) → rebuilt_of (rebuilt_part s 0) ≡ Err BufferTooShort
no_bytes s = sym (whole_none (rebuilt_part s 0) (ap length (none_part s)))

-- a FRAGMENT: the stores with it, and how many bytes it makes whole, as the code keeps it
pub fragment_by : (f : Frame) (t : Tables) (d : List ℕ) (r : Ran) (x : Taken) (u : Tables) (n : ℕ) → u ≡ gathers f t d x → n ≡ gathered_len f t d x
    → whole_turned f u n r x.at ≡ fragment_turned f t d r x
unfolding fragment_turned
fragment_by f t d r x u n e k = λ i. whole_turned f (e i) (k i) r x.at
