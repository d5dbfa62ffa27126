-- Document 02, W6, on a session's list: "A session has one store of 64 fragments with bodies up to 512 bytes."
use Rattle.std.specs.Option.{option_map}
use Rattle.std.specs.Prelude.{ℕ, Bool, false, cond, List, [], ◌∷◌, ◌++◌, eqb, leb, ltb, length, set, replicate, Option, None, Some}
use Rattle.codec.specs.Inserts.{Slot, free, holds}
use Rattle.sessions.specs.Need.{most_fragments, most_body}

-- a slot for each number below the total; an empty store has total 0
pub record FragmentStore : Type 0 where
  pub total : ℕ
  pub slots : List Slot

abbrev pub empty_store : FragmentStore
empty_store = record { total = 0; slots = [] }

-- "with total 0, a total over 64, a number not below its total or a longer body it changes nothing but the touch"
abbrev pub allowed : ℕ → ℕ → ℕ → Bool
allowed nr total len = cond (eqb total 0) false (cond (leb total most_fragments) (cond (ltb nr total) (leb len most_body) false) false)

-- "A fragment with another total empties the store first."
abbrev pub slots_for : FragmentStore → ℕ → List Slot
slots_for st total = cond (eqb st.total total) st.slots (replicate total free)

-- "A repeated fragment replaces the body held."
abbrev pub slots_with : FragmentStore → ℕ → ℕ → List ℕ → List Slot
slots_with st nr total body = set (slots_for st total) nr (holds body)

-- the rebuilt bytes; none while a number is missing
abbrev pub whole_of : List Slot → Option (List ℕ)
whole_of [] = Some []
whole_of (free ∷ more) = None
whole_of (holds body ∷ more) = option_map (λ (bytes : List ℕ). body ++ bytes) (whole_of more)

-- "When the last missing number comes, the store is emptied"
abbrev pub store_behind : ℕ → List Slot → Option (List ℕ) → FragmentStore
store_behind total slots None = record { total = total; slots = slots }
store_behind total slots (Some bytes) = empty_store

-- the store behind a fragment, and the bytes that it completes
abbrev pub gathered_store : FragmentStore → ℕ → ℕ → List ℕ → FragmentStore
gathered_store st nr total body =
    let slots = slots_with st nr total body in cond (allowed nr total (length body)) (store_behind total slots (whole_of slots)) st

abbrev pub gathered_bytes : FragmentStore → ℕ → ℕ → List ℕ → Option (List ℕ)
gathered_bytes st nr total body = cond (allowed nr total (length body)) (whole_of (slots_with st nr total body)) None
