-- Any submessage of a session: one as it stands in its datagram, or a FRAGMENT, whose rebuilt submessages are worked off one behind the other.
use Rattle.std.specs.Prelude.{ℕ, Bool, List, [], ◌∷◌, ◌++◌, map, Option, None, Some}
use Rattle.codec.specs.Grammar.{Said}
use Rattle.codec.specs.Rebuilt.{rebuilt_reading}
use Rattle.codec.specs.declared.submessages.FragmentPayload.{FragmentPayload}
use Rattle.codec.specs.declared.submessages.Submessage.{Submessage}
use Rattle.codec.specs.declared.submessages.Submessage.TheVariants.{CreateClient, Create, Delete, Status, WriteData, ReadData, Data, Heartbeat, Acknack, Fragment}
use Rattle.isolation.specs.Rules.{Bytes, Outcome, done, calls}
use Rattle.sessions.specs.FragmentStore.{gathered_store, gathered_bytes}
use Rattle.sessions.specs.View.{Local}
use Rattle.moves.specs.Calls as calls
use Rattle.moves.specs.Calls.{Call, Answer}
use Rattle.agent.specs.Local.{touched, with_store}
use Rattle.agent.specs.Brings.{In, in_of}
use Rattle.agent.specs.RulesObjects.{Move, on_create, on_delete, on_write, on_read}
use Rattle.agent.specs.RulesStreams.{on_heartbeat, on_acknack}
use Rattle.agent.specs.RulesAnswers.{on_answer}
use Rattle.agent.specs.declared.state.Moment.{Moment}

-- what is kept of a submessage whose call is open: what its answer needs, and the rebuilt submessages that wait behind it
pub record Pending : Type 0 where
  pub asked : calls.Pending
  pub left : List In

-- what a session makes of a submessage of its datagram
abbrev pub Working : Type 0
Working = Outcome Local Bytes Call Pending

-- one definition a submessage kind, by whether its datagram's minute is open (W8); "DATA and STATUS get no reply"; CREATE_CLIENT is no session's submessage, and a FRAGMENT comes below
abbrev pub on_submessage : Bool → Submessage → List ℕ → ℕ → Local → Move
on_submessage is_open (Create p) body stream l = on_create p.kind stream p.object_id.0 p.parent_id body l
on_submessage is_open (Delete p) body stream l = on_delete stream p.object_id.0 l
on_submessage is_open (WriteData p) body stream l = on_write is_open stream p.writer_id.0 body l
on_submessage is_open (ReadData p) body stream l = on_read stream p.reader_id.0 l
on_submessage is_open (Heartbeat p) body stream l = on_heartbeat stream p.first_unacked_seq p.last_seq l
on_submessage is_open (Acknack p) body stream l = on_acknack stream p.first_unacked_seq p.nack_bitmap l
on_submessage is_open (Data p) body stream l = done l []
on_submessage is_open (Status p) body stream l = done l []
on_submessage is_open (CreateClient p) body stream l = done l []
on_submessage is_open (Fragment p) body stream l = done l []

-- "The time becomes the last activity; then the rules above work on its lists alone."
abbrev pub plain : Local → In → Move
plain l i = on_submessage i.moment.is_open i.fields i.body i.stream (touched i.moment.time l)

-- ---- rebuilt submessages behind a move: "For term 3 each of these begins when the one before it has ended."

abbrev pub behind : List Bytes → Working → Working
behind rs (done l more) = done l (rs ++ more)
behind rs (calls l more c p) = calls l (rs ++ more) c p

-- on with the next, or they wait for the answer
unfoldable pub onto : List In → Move → Working
onto [] (done l rs) = done l rs
onto [] (calls l rs c p) = calls l rs c (record { asked = p; left = [] })
onto (i ∷ is) (done l rs) = behind rs (onto is (plain l i))
onto (i ∷ is) (calls l rs c p) = calls l rs c (record { asked = p; left = i ∷ is })

-- the tables when the one began that hands out a call: b is what the move began with
unfoldable pub began_onto : List In → Local → Move → Local
began_onto [] b (done l rs) = b
began_onto [] b (calls l rs c p) = b
began_onto (i ∷ is) b (done l rs) = began_onto is l (plain l i)
began_onto (i ∷ is) b (calls l rs c p) = b

-- ---- a FRAGMENT

-- "the rebuilt bytes are read as submessages under the header of that datagram", with its moment
abbrev pub rebuilt_from : Moment → ℕ → List Said → List In
rebuilt_from moment stream xs = map (λ (x : Said). in_of moment stream x.fields x.body) xs

-- "When the last missing number comes": the submessages that it brings; none if the rebuilt bytes are refused
abbrev pub brought_by : In → Option (List ℕ) → List In
brought_by i None = []
brought_by i (Some bytes) = rebuilt_from i.moment i.stream (rebuilt_reading bytes)

abbrev pub brought : FragmentPayload → In → Local → List In
brought p i l = brought_by i (gathered_bytes l.store p.fragment_nr p.total_fragments i.body)

-- the session behind it, before these
abbrev pub gathering : FragmentPayload → In → Local → Local
gathering p i l = with_store (touched i.moment.time l) (gathered_store l.store p.fragment_nr p.total_fragments i.body)

-- ---- any submessage: "A FRAGMENT gets no reply of its own"

abbrev pub handle_by : Submessage → In → Local → Working
handle_by (Fragment p) i l = onto (brought p i l) (done (gathering p i l) [])
handle_by (CreateClient p) i l = onto [] (plain l i)
handle_by (Create p) i l = onto [] (plain l i)
handle_by (Delete p) i l = onto [] (plain l i)
handle_by (Status p) i l = onto [] (plain l i)
handle_by (WriteData p) i l = onto [] (plain l i)
handle_by (ReadData p) i l = onto [] (plain l i)
handle_by (Data p) i l = onto [] (plain l i)
handle_by (Heartbeat p) i l = onto [] (plain l i)
handle_by (Acknack p) i l = onto [] (plain l i)

abbrev pub handle : Local → In → Working
handle l i = handle_by i.fields i l

abbrev pub began_by : Submessage → In → Local → Local
began_by (Fragment p) i l = began_onto (brought p i l) l (done (gathering p i l) [])
began_by (CreateClient p) i l = l
began_by (Create p) i l = l
began_by (Delete p) i l = l
began_by (Status p) i l = l
began_by (WriteData p) i l = l
began_by (ReadData p) i l = l
began_by (Data p) i l = l
began_by (Heartbeat p) i l = l
began_by (Acknack p) i l = l

-- ---- the answer to its call, then what is left

abbrev pub resumed : Local → Pending → Answer → Working
resumed l p a = onto p.left (on_answer l p.asked a)

abbrev pub began_behind : Local → Pending → Answer → Local
began_behind l p a = began_onto p.left l (on_answer l p.asked a)
