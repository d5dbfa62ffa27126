-- W6's promise on fragments, over the rules of one session: "fragments rebuild their payload in any order, however often they come, and not before all are there".
use Rattle.std.specs.Prelude.{ℕ, suc, ◌<◌, ◌≤◌, ◌≡◌, ◌≢◌, ◌⊎◌, Bool, false, cond, List, [], ◌∷◌, ◌++◌, get_or, length, Err}
use Rattle.codec.specs.Cutting.{bodies, joined}
use Rattle.codec.specs.Inserts.{Slot, free, holds, came, AllCame}
use Rattle.codec.specs.Rebuilt.{rebuilt_of, rebuilt_reading}
use Rattle.codec.specs.declared.refusals.Refusal.{Refusal}
use Rattle.codec.specs.declared.submessages.Submessage.{Submessage}
use Rattle.codec.specs.declared.submessages.Submessage.TheVariants.{CreateClient, Create, Delete, Status, WriteData, ReadData, Data, Heartbeat, Acknack, Fragment}
use Rattle.isolation.specs.Rules.{Bytes, Outcome, done, calls}
use Rattle.sessions.specs.FragmentStore.{FragmentStore, empty_store, allowed}
use Rattle.sessions.specs.Need.{most_fragments, most_body}
use Rattle.sessions.specs.View.{Local}
use Rattle.moves.specs.Calls.{Call, Answer}
use Rattle.agent.specs.Local.{touched, with_store}
use Rattle.agent.specs.Brings.{In, in_of}
use Rattle.agent.specs.RulesFragments.{Pending, onto, rebuilt_from, handle, resumed}
use Rattle.agent.specs.declared.state.Moment.{Moment}

-- "a payload within these limits", by its bodies: 1 to 64 of them, each up to 512 bytes
pub record Within (bs : List (List ℕ)) : Type 0 where
  pub some : 0 < length bs
  pub few : length bs ≤ most_fragments
  pub short : (k : ℕ) → k < length bs → length (get_or bs k []) ≤ most_body

-- "whose first fragment finds the store empty, or with another total"
abbrev pub Fresh : List (List ℕ) → FragmentStore → Type 0
Fresh bs st = (st ≡ empty_store) ⊎ (st.total ≢ length bs)

-- its FRAGMENT of number k, at any moment and on any stream
abbrev pub fragment_of : List (List ℕ) → ℕ → Moment → ℕ → In
fragment_of bs k moment stream = in_of moment stream (Fragment (record { fragment_nr = k; total_fragments = length bs })) (get_or bs k [])

-- ---- the life of a session until the payload is complete

-- what feeds a store: a FRAGMENT within the limits
abbrev pub feeds : Submessage → List ℕ → Bool
feeds (Fragment p) body = allowed p.fragment_nr p.total_fragments (length body)
feeds (CreateClient p) body = false
feeds (Create p) body = false
feeds (Delete p) body = false
feeds (Status p) body = false
feeds (WriteData p) body = false
feeds (ReadData p) body = false
feeds (Data p) body = false
feeds (Heartbeat p) body = false
feeds (Acknack p) body = false

-- the tables that a rule leaves
abbrev pub leaves : {P : Type 0} → Outcome Local Bytes Call P → Local
leaves (done l rs) = l
leaves (calls l rs c p) = l

-- of the numbers below n one hasn't come yet
abbrev pub Missing : ℕ → List ℕ → Type 0
Missing n nrs = (k : ℕ) × (k < n) × (came k nrs ≡ false)

-- with number k behind the numbers nrs, one hasn't come yet; every one has
abbrev pub Waits : List (List ℕ) → List ℕ → ℕ → Type 0
Waits bs nrs k = (k < length bs) × Missing (length bs) (nrs ++ (k ∷ []))

abbrev pub Completes : List (List ℕ) → List ℕ → ℕ → Type 0
Completes bs nrs k = (k < length bs) × AllCame (length bs) (nrs ++ (k ∷ []))

-- "and which alone feeds it until complete": from the tables l on, the numbers of its fragments that came, in order, and the tables then
-- (other submessages, answers to calls and rebuilt submessages behind these may come between, whatever they do)
pub data Fed (bs : List (List ℕ)) (l : Local) : List ℕ → Local → Type 0 where
  begins : Fed bs l [] l
  other : (nrs : List ℕ) (l' : Local) (i : In) → Fed bs l nrs l' → feeds i.fields i.body ≡ false → Fed bs l nrs (leaves (handle l' i))
  answer : (nrs : List ℕ) (l' : Local) (p : Pending) (a : Answer) → Fed bs l nrs l' → Fed bs l nrs (leaves (resumed l' p a))
  fragment : (nrs : List ℕ) (l' : Local) (k : ℕ) (moment : Moment) (stream : ℕ) → Fed bs l nrs l' → Waits bs nrs k
      → Fed bs l (nrs ++ (k ∷ [])) (leaves (handle l' (fragment_of bs k moment stream)))

-- ---- what is right of such a life

-- a slot for each number from n on: it holds its body if the number came
abbrev pub slots_from : ℕ → List (List ℕ) → List ℕ → List Slot
slots_from n [] nrs = []
slots_from n (body ∷ bs) nrs = cond (came n nrs) (holds body) free ∷ slots_from (suc n) bs nrs

-- the store behind the numbers nrs, which was st before the first
abbrev pub kept_after : List (List ℕ) → FragmentStore → List ℕ → FragmentStore
kept_after bs st [] = st
kept_after bs st (nr ∷ nrs) = record { total = length bs; slots = slots_from 0 bs (nr ∷ nrs) }

pub record RebuildsRight (bs : List (List ℕ)) (payload : List ℕ) (st : FragmentStore) (nrs : List ℕ) (l : Local) : Type 0 where
  -- the store holds the bodies of the numbers that came, in whatever order and however often, and nothing else
  pub kept : l.store ≡ kept_after bs st nrs
  -- a further fragment leaves a number missing, or with it every number has come
  pub either : (k : ℕ) → k < length bs → Waits bs nrs k ⊎ Completes bs nrs k
  -- "and not before all are there": there is no reply and no call, and nothing changes but last activity and store
  pub waits : (k : ℕ) (moment : Moment) (stream : ℕ) → Waits bs nrs k
      → handle l (fragment_of bs k moment stream) ≡ done (with_store (touched moment.time l) (kept_after bs st (nrs ++ (k ∷ [])))) []
  -- "When the last missing number comes, the store is emptied and the rebuilt bytes are read as submessages under the header of that datagram": these bytes are the payload
  pub takes_effect : (k : ℕ) (moment : Moment) (stream : ℕ) → Completes bs nrs k
      → handle l (fragment_of bs k moment stream) ≡ onto (rebuilt_from moment stream (rebuilt_reading payload)) (done (with_store (touched moment.time l) empty_store) [])
  -- so the next payload finds the store empty, whatever the rebuilt submessages do
  pub emptied : (k : ℕ) (moment : Moment) (stream : ℕ) → Completes bs nrs k → (leaves (handle l (fragment_of bs k moment stream))).store ≡ empty_store
  -- "On any of these no rebuilt submessage takes effect, none is answered"
  pub refused : (k : ℕ) (moment : Moment) (stream : ℕ) → Completes bs nrs k → (r : Refusal) → rebuilt_of payload ≡ Err r
      → handle l (fragment_of bs k moment stream) ≡ done (with_store (touched moment.time l) empty_store) []

-- for every payload, by its bodies; and by its cut, of any size above 0
abbrev pub RebuildsBodies : Type 0
RebuildsBodies =
    (bs : List (List ℕ)) (l l' : Local) (nrs : List ℕ) → Within bs → Fresh bs l.store → Fed bs l nrs l' → RebuildsRight bs (joined bs) l.store nrs l'

abbrev pub RebuildsCut : Type 0
RebuildsCut =
    (size : ℕ) (payload : List ℕ) (l l' : Local) (nrs : List ℕ) → 0 < size
    → let bs = bodies size payload in Within bs → Fresh bs l.store → Fed bs l nrs l' → RebuildsRight bs payload l.store nrs l'
