-- W5, "Repeat what was asked for", over any list of calls: the DATA replies of a session's streams, and what an ACKNACK repeats of them.
use Rattle.std.specs.Prelude.{ℕ, ◌≡◌, ◌≢◌, Bool, cond, eqb, length, Option, None, Some}
use mathlib.Core.List.{List, [], ◌∷◌, ◌++◌, map, Memᴰ}
use Rattle.codec.specs.declared.submessages.Submessage.{Submessage}
use Rattle.codec.specs.declared.submessages.Submessage.TheVariants.{CreateClient, Create, Delete, Status, WriteData, ReadData, Data, Heartbeat, Acknack, Fragment}
use Rattle.streams.specs.View.{acknack_in, repeated_in}
use Rattle.streams.specs.Repeats.{Event, sent, acknacked, stream_after, data_of, number_of, AskedLast, RepeatsAsSent}
use Rattle.isolation.specs.Rules.{Bytes, done, calls}
use Rattle.isolation.specs.Machine.{Action, handles, resumes}
use Rattle.isolation.specs.Claim as claim
use Rattle.sessions.specs.View.{KeptStream, Local, stream_in}
use Rattle.moves.specs.Calls.{Pending, Answer, created, succeeded, sample, no_sample, failed, Task, creating, deleting, writing, reading}
use Rattle.moves.specs.Replies.{data_bytes}
use Rattle.agent.specs.Brings.{In}
use Rattle.agent.specs.RulesObjects.{Move}
use Rattle.agent.specs.RulesAnswers.{on_answer}
use Rattle.agent.specs.RulesFragments.{plain, brought, gathering}
use Rattle.agent.specs.Rules.{rules}

-- ---- what a rule at work works off

-- one submessage as it stands, or an answer to one, with the tables before it
pub data Work : Type 0 where
  does : Local → In → Work
  hears : Local → Pending → Answer → Work

abbrev pub tables_of : Work → Local
tables_of (does l i) = l
tables_of (hears l p a) = l

abbrev pub move_of : Work → Move
move_of (does l i) = plain l i
move_of (hears l p a) = on_answer l p a

-- W6: the rebuilt submessages behind a move, one behind the other, until one hands out a call
unfoldable pub works_onto : List In → Move → List Work
works_onto [] m = []
works_onto (i ∷ is) (done l rs) = does l i ∷ works_onto is (plain l i)
works_onto (i ∷ is) (calls l rs c p) = []

-- those that a FRAGMENT brings; any other submessage brings none
abbrev pub rebuilt_by : Submessage → In → Local → List Work
rebuilt_by (Fragment p) i l = works_onto (brought p i l) (done (gathering p i l) [])
rebuilt_by (CreateClient p) i l = []
rebuilt_by (Create p) i l = []
rebuilt_by (Delete p) i l = []
rebuilt_by (Status p) i l = []
rebuilt_by (WriteData p) i l = []
rebuilt_by (ReadData p) i l = []
rebuilt_by (Data p) i l = []
rebuilt_by (Heartbeat p) i l = []
rebuilt_by (Acknack p) i l = []

module _ (is_open : ℕ → ℕ → Bool) (timeout : ℕ) where
  -- the submessage or the answer, then the rebuilt ones behind it
  abbrev pub works_of : Action (rules is_open timeout) → List Work
  works_of (handles l i) = does l i ∷ rebuilt_by i.fields i l
  works_of (resumes l p a) = hears l p.asked a ∷ works_onto p.left (on_answer l p.asked a)

  abbrev pub works_in : List (Action (rules is_open timeout)) → List Work
  works_in [] = []
  works_in (d ∷ ds) = works_of d ++ works_in ds

-- the replies of a move
abbrev pub replies_of : Move → List Bytes
replies_of (done l rs) = rs
replies_of (calls l rs c p) = rs

-- an ACKNACK's first number and bitmap
abbrev pub acknack_of : Submessage → Option (ℕ × ℕ)
acknack_of (CreateClient p) = None
acknack_of (Create p) = None
acknack_of (Delete p) = None
acknack_of (Status p) = None
acknack_of (WriteData p) = None
acknack_of (ReadData p) = None
acknack_of (Data p) = None
acknack_of (Heartbeat p) = None
acknack_of (Acknack p) = Some (p.first_unacked_seq, p.nack_bitmap)
acknack_of (Fragment p) = None

-- the sample that answers a READ_DATA: its reply is DATA
abbrev pub sample_of : Task → Answer → Option (List ℕ)
sample_of reading (sample d) = Some d
sample_of reading (created h) = None
sample_of reading succeeded = None
sample_of reading no_sample = None
sample_of reading failed = None
sample_of (creating kind parent) a = None
sample_of writing a = None
sample_of deleting a = None

-- ---- what came to each stream of a session so far, in order: the DATA replies, as they were sent, and the ACKNACKs

abbrev pub Came : Type 0
Came = ℕ → List (Event Bytes)

abbrev pub nothing_yet : Came
nothing_yet n = []

abbrev pub adding : ℕ → List (Event Bytes) → Came → Came
adding n [] g = g
adding n (e ∷ es) g = adding n es (λ m. cond (eqb m n) (g m ++ (e ∷ [])) (g m))

abbrev pub asks_again : Option (ℕ × ℕ) → List (Event Bytes)
asks_again None = []
asks_again (Some x) = acknacked x.0 x.1 ∷ []

abbrev pub sends : Option (List ℕ) → List Bytes → List (Event Bytes)
sends None rs = []
sends (Some d) rs = map sent rs

-- ---- what is right of a work, on a stream n other than 0 to which es came before

-- "An ACKNACK is answered by the listed messages, byte for byte, in bit order": its replies are what the stream then holds of them, and each is
-- the last DATA reply, of all that were sent on the stream, under a number that the bitmap asks for
abbrev pub Repeated : Option (ℕ × ℕ) → ℕ → List (Event Bytes) → List Bytes → Type 0
Repeated None n es rs = Unit {0}
Repeated (Some x) n es rs =
    let first = x.0 in
    let bitmap = x.1 in
    (rs ≡ repeated_in (acknack_in first (stream_after n es)).held first bitmap) × ((r : Bytes) → Memᴰ r rs → AskedLast first bitmap r (data_of es))

-- "each DATA reply now takes the next send sequence in its header": behind so many DATA replies its number is so many, and after 65,535 comes 0
abbrev pub Sent : Option (List ℕ) → ℕ → ℕ → ℕ → List (Event Bytes) → List Bytes → Type 0
Sent None id n number es rs = Unit {0}
Sent (Some d) id n number es rs = rs ≡ data_bytes id n (number_of (length (data_of es))) number d ∷ []

-- "and is held": each stream of the tables is what came to it leaves
abbrev pub Tabled : Came → Local → Type 0
Tabled g l = (n : ℕ) → n ≢ 0 → (k : KeptStream) → stream_in l.streams n ≡ Some k → k ≡ stream_after n (g n)

-- what has come behind a work
abbrev pub behind : Work → Came → Came
behind (does l i) g = adding i.stream (asks_again (acknack_of i.fields)) g
behind (hears l p a) g = adding p.stream (sends (sample_of p.task a) (replies_of (on_answer l p a))) g

abbrev pub Right : ℕ → Came → Work → Type 0
Right id g (does l i) = i.stream ≢ 0 → Repeated (acknack_of i.fields) i.stream (g i.stream) (replies_of (plain l i))
Right id g (hears l p a) = p.stream ≢ 0 → Sent (sample_of p.task a) id p.stream p.number (g p.stream) (replies_of (on_answer l p a))

-- so it is of all, one behind the other; g is what came so far to the streams of session id
abbrev pub AllRepeated : ℕ → Came → List Work → Type 0
AllRepeated id g [] = Unit {0}
AllRepeated id g (w ∷ ws) = Tabled g (tables_of w) × Right id g w × AllRepeated id (behind w g) ws

abbrev pub all_replies : List Work → List Bytes
all_replies [] = []
all_replies (w ∷ ws) = replies_of (move_of w) ++ all_replies ws

module _ (is_open : ℕ → ℕ → Bool) (timeout : ℕ) where
  -- W5 of an agent, for every list H of the host's calls and every session opened in H
  pub record RepeatsRight (A : claim.Agent (rules is_open timeout)) : Type 0 where
    -- the agent's replies to the session are those of its rules at work, one behind the other, those of rebuilt submessages too
    pub replies : (H : List A.Event) (S : claim.Session (rules is_open timeout) A H)
        → (claim.of_agent (rules is_open timeout) A S).replies ≡ all_replies (works_in is_open timeout (claim.of_machine (rules is_open timeout) A S).actions)
    -- of these each DATA reply and each answer to an ACKNACK is right
    pub repeated : (H : List A.Event) (S : claim.Session (rules is_open timeout) A H) → AllRepeated S.id nothing_yet (works_in is_open timeout (claim.of_machine (rules is_open timeout) A S).actions)
    -- `repeated` has a stream's tables as what came to it leaves; this, of any list es of what may come, says what that is: a message is held, and
    -- so repeated when it is asked for, as it was sent, until an ACKNACK acknowledges it or its number is taken again.
    pub as_sent : (n : ℕ) (es : List (Event Bytes)) → RepeatsAsSent n es
