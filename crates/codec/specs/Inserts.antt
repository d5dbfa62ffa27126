-- Fragments put into a store in any order and any number of times: what the store holds, and what is promised of it.
-- The definitions of a call are those that the contracts of `new`, `insert` and `assemble` cite.
use Rattle.std.specs.Prelude.{ℕ, zero, suc, ◌*◌, ◌-◌, ◌<◌, ◌≤◌, ◌≡◌, Bool, true, false, cond, not, ◌||◌, ◌&&◌, List, [], ◌∷◌, ◌++◌, eqb, ltb, get_or, length, take, drop, Err, Ok, Result}
use Rattle.codec.specs.Answers.{gives, refused_as, written_answer, made_answer, inserted_answer}
use Rattle.codec.specs.Bytes.{put_of, put_bytes}
use Rattle.codec.specs.Cutting.{bodies}
use Rattle.codec.specs.Reassembly.{is_free, is_past, any_of, new_of, new_lengths, insert_of, insert_slots, insert_lengths, has_fragment, payload_of, assemble_of, assemble_out}
use Rattle.codec.specs.declared.reassembly.ReassemblyBuffer.{ReassemblyBuffer}
use Rattle.codec.specs.declared.refusals.Refusal.{Refusal}

-- a store as the host keeps it between calls
pub record Store : Type 0 where
  pub buffer : ReassemblyBuffer
  pub slots : List ℕ
  pub lengths : List ℕ

-- a fragment's number and body
pub record Piece : Type 0 where
  pub nr : ℕ
  pub body : List ℕ

-- one call of `insert`: a refusal leaves the buffer as it was
abbrev pub buffer_after : ReassemblyBuffer → Result (ReassemblyBuffer × Bool) Refusal → ReassemblyBuffer
buffer_after before (Ok (after, all)) = after
buffer_after before (Err why) = before

unfoldable pub insert_into : Store → Piece → Store
insert_into st p = record {
  buffer = buffer_after st.buffer (insert_of st.buffer st.slots st.lengths p.nr p.body);
  slots = insert_slots st.buffer st.slots st.lengths p.nr p.body;
  lengths = insert_lengths st.buffer st.slots st.lengths p.nr p.body;
}

-- calls of `insert`, one after the other
unfoldable pub inserts : Store → List Piece → Store
inserts st [] = st
inserts st (p ∷ more) = inserts (insert_into st p) more

-- a store's slots, as its entries describe them
pub data Slot : Type 0 where
  free : Slot
  holds : List ℕ → Slot

unfoldable pub slots_of : ℕ → List ℕ → List ℕ → List Slot
slots_of width slots [] = []
slots_of width slots (held ∷ more) = cond (is_free held) free (holds (take (held - 1) slots)) ∷ slots_of width (drop width slots) more

abbrev pub slots_in : Store → List Slot
slots_in st = slots_of st.buffer.width st.slots (take st.buffer.total_fragments st.lengths)

-- how many slots hold a body
unfoldable pub held_in : List Slot → ℕ
held_in [] = 0
held_in (free ∷ more) = held_in more
held_in (holds body ∷ more) = suc (held_in more)

-- a store as the calls keep it: nothing in it is under its need or past a limit (16), and its count is the number of slots that hold a body
pub record Sound (st : Store) : Type 0 where
  pub there : st.buffer.total_fragments * st.buffer.width ≤ length st.slots
  pub entries : st.buffer.total_fragments ≤ length st.lengths
  pub within : any_of (is_past st.buffer.width) (take st.buffer.total_fragments st.lengths) ≡ false
  pub counted : st.buffer.received_count ≡ held_in (slots_in st)

-- `new` makes such a store, and every list of inserts keeps one
abbrev pub NewSound : Type 0
NewSound =
    (total width : ℕ) (slots lengths : List ℕ) (buffer : ReassemblyBuffer) → made_answer (new_of total width slots lengths) ≡ gives buffer
    → Sound (record { buffer = buffer; slots = slots; lengths = new_lengths total width slots lengths })

abbrev pub InsertsSound : Type 0
InsertsSound = (st : Store) (ps : List Piece) → Sound st → Sound (inserts st ps)

-- whether the number k is held, as `has_fragment` says; every number below the total is
abbrev pub holds_number : Store → ℕ → Bool
holds_number st k = has_fragment st.buffer st.lengths k

abbrev pub AllHeld : Store → Type 0
AllHeld st = (k : ℕ) → k < st.buffer.total_fragments → holds_number st k ≡ true

-- what is promised of every such store, whatever was put into it
pub record Tells (st : Store) : Type 0 where
  -- `assemble` is refused as 11, "fragments missing", where a number below the total isn't held
  pub missing : (k : ℕ) → k < st.buffer.total_fragments → holds_number st k ≡ false → (out : List ℕ)
      → (written_answer (assemble_of st.buffer st.slots st.lengths out) ≡ refused_as 11 0)
      × (assemble_out st.buffer st.slots st.lengths out ≡ out)
  -- and only there: 11 isn't said too early
  pub not_early : (out : List ℕ) → written_answer (assemble_of st.buffer st.slots st.lengths out) ≡ refused_as 11 0
      → (k : ℕ) × (k < st.buffer.total_fragments) × (holds_number st k ≡ false)
  -- where every number is held it gives the bodies, one behind the other
  pub whole : AllHeld st → (out : List ℕ)
      → (assemble_of st.buffer st.slots st.lengths out ≡ put_of out 0 (payload_of st.buffer st.slots st.lengths))
      × (assemble_out st.buffer st.slots st.lengths out ≡ put_bytes out 0 (payload_of st.buffer st.slots st.lengths))
  -- an insert that is kept answers "all there" exactly if every number is held then
  pub all_there : (p : Piece) (after : ReassemblyBuffer) (all : Bool)
      → inserted_answer (insert_of st.buffer st.slots st.lengths p.nr p.body) ≡ gives (after, all)
      → (all ≡ true → AllHeld (insert_into st p)) × (AllHeld (insert_into st p) → all ≡ true)

abbrev pub SoundTells : Type 0
SoundTells = (st : Store) → Sound st → Tells st

-- "A repeated fragment replaces the body held": slot k holds the body of the last insert of that number, among those that its width allows
unfoldable pub last_of : ℕ → ℕ → List Piece → Slot → Slot
last_of width k [] before = before
last_of width k (p ∷ more) before = last_of width k more (cond (eqb p.nr k && not (ltb width (length p.body))) (holds p.body) before)

-- whether a number has come, and how many different numbers below `n` have
unfoldable pub came : ℕ → List ℕ → Bool
came k [] = false
came k (nr ∷ more) = eqb nr k || came k more

unfoldable pub different : ℕ → List ℕ → ℕ
different zero nrs = 0
different (suc n) nrs = cond (came n nrs) (suc (different n nrs)) (different n nrs)

-- fragments of one cut with the bodies `bs`, by their numbers
unfoldable pub pieces : List (List ℕ) → List ℕ → List Piece
pieces bs [] = []
pieces bs (nr ∷ more) = record { nr = nr; body = get_or bs nr [] } ∷ pieces bs more

-- such fragments put into a store that `new` made for their total
unfoldable pub store_after : ReassemblyBuffer → ℕ → List ℕ → List ℕ → List (List ℕ) → List ℕ → Store
store_after buffer width slots lengths bs nrs =
    inserts (record { buffer = buffer; slots = slots; lengths = new_lengths (length bs) width slots lengths }) (pieces bs nrs)

-- every number has come
abbrev pub AllCame : ℕ → List ℕ → Type 0
AllCame n nrs = (k : ℕ) → k < n → came k nrs ≡ true

-- what is promised of a store after the fragments `nrs` of one cut, in any order and any number of times
pub record Rebuilds (bs : List (List ℕ)) (payload : List ℕ) (st : Store) (nrs : List ℕ) : Type 0 where
  pub total : st.buffer.total_fragments ≡ length bs
  -- `received_count` is the number of different numbers that have come, and `has_fragment` says which
  pub count : st.buffer.received_count ≡ different (length bs) nrs
  pub has : (k : ℕ) → k < length bs → has_fragment st.buffer st.lengths k ≡ came k nrs
  -- it is the total exactly when every number has come
  pub complete : AllCame (length bs) nrs → st.buffer.received_count ≡ length bs
  pub incomplete : (k : ℕ) → k < length bs → came k nrs ≡ false → st.buffer.received_count < length bs
  -- then `assemble` gives the payload
  pub whole : AllCame (length bs) nrs → (out : List ℕ)
      → (assemble_of st.buffer st.slots st.lengths out ≡ put_of out 0 payload)
      × (assemble_out st.buffer st.slots st.lengths out ≡ put_bytes out 0 payload)
  -- before that it is refused as 11
  pub missing : (k : ℕ) → k < length bs → came k nrs ≡ false → (out : List ℕ)
      → (written_answer (assemble_of st.buffer st.slots st.lengths out) ≡ refused_as 11 0)
      × (assemble_out st.buffer st.slots st.lengths out ≡ out)
  -- a further fragment of the cut is kept, and the answer says whether every number has come
  pub answers : (k : ℕ) → k < length bs
      → (after : ReassemblyBuffer)
      × (inserted_answer (insert_of st.buffer st.slots st.lengths k (get_or bs k [])) ≡ gives (after, eqb (different (length bs) (nrs ++ (k ∷ []))) (length bs)))

-- Fragments rebuild the payload, in any order and however often, and not before: for every payload, every size above 0 and every store
-- that `new` made for the cut's total, where each body fits its slot
abbrev pub Rebuild : Type 0
Rebuild =
    (size : ℕ) (payload : List ℕ) (width : ℕ) (slots lengths : List ℕ) (buffer : ReassemblyBuffer) (nrs : List ℕ) → 0 < size
    → ((k : ℕ) → k < length (bodies size payload) → length (get_or (bodies size payload) k []) ≤ width)
    → made_answer (new_of (length (bodies size payload)) width slots lengths) ≡ gives buffer
    → Rebuilds (bodies size payload) payload (store_after buffer width slots lengths (bodies size payload) nrs) nrs
