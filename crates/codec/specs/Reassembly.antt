-- Document 01, "Reassembly: lent slots of one width, with lengths." What each call on a fragment store gives and leaves.
use Rattle.std.specs.Prelude.{ℕ, ◌+◌, ◌*◌, ◌-◌, Bool, false, cond, not, ◌||◌, ◌&&◌, List, [], ◌∷◌, ◌++◌, eqb, ltb, get_or, length, take, drop, set, replicate, Err, Ok, Result}
use Rattle.codec.specs.Bytes.{put_at, put_of, put_bytes}
use Rattle.codec.specs.Cutting.{joined}
use Rattle.codec.specs.declared.reassembly.ReassemblyBuffer.{ReassemblyBuffer}
use Rattle.codec.specs.declared.refusals.Refusal.TheVariants.{FragmentNumber, MissingFragments, StoreFull, OverLimit}
use Rattle.codec.specs.declared.refusals.Refusal.{Refusal}

-- 16, "lent store under its documented need": `total` slots of `width` bytes, and an entry for each. An entry is 0 for a free slot,
-- and 1 more than its body's length for one that holds a body.
unfoldable pub under_need : ℕ → ℕ → ℕ → ℕ → Bool
under_need total width slots lengths = ltb slots (total * width) || ltb lengths total

-- what an entry says: the slot is free; its length is past the width
abbrev pub is_free : ℕ → Bool
is_free held = eqb held 0

abbrev pub is_past : ℕ → ℕ → Bool
is_past width held = ltb (width + 1) held

-- a new store is empty: each of its slots is free
unfoldable pub new_of : ℕ → ℕ → List ℕ → List ℕ → Result ReassemblyBuffer Refusal
new_of total width slots lengths =
    cond (under_need total width (length slots) (length lengths)) (Err OverLimit)
    (Ok (record { total_fragments = total; received_count = 0; width = width }))

unfoldable pub new_lengths : ℕ → ℕ → List ℕ → List ℕ → List ℕ
new_lengths total width slots lengths =
    cond (under_need total width (length slots) (length lengths)) lengths (replicate total 0 ++ drop total lengths)

-- "or tables altered past a limit": more fragments received than there are
unfoldable pub store_over : ReassemblyBuffer → ℕ → ℕ → Bool
store_over b slots lengths =
    under_need b.total_fragments b.width slots lengths || ltb b.total_fragments b.received_count

-- the count grows only if the slot was free
unfoldable pub grown : ℕ → ℕ → ℕ
grown received held = cond (is_free held) (received + 1) received

abbrev pub recounted : ReassemblyBuffer → ℕ → ReassemblyBuffer
recounted b held = record { total_fragments = b.total_fragments; received_count = grown b.received_count held; width = b.width }

-- the slot's own length past the width, or a free slot in a store whose count says that all are held
unfoldable pub slot_over : ReassemblyBuffer → ℕ → Bool
slot_over b held = is_past b.width held || ltb b.total_fragments (grown b.received_count held)

-- 16, then "a store checks 10 before 14": "fragment number not below total", "body over its slot". A number not below the total has no
-- slot whose entry 16 could look at.
unfoldable pub insert_check : ReassemblyBuffer → ℕ → ℕ → ℕ → ℕ → ℕ → Result (Unit {0}) Refusal
insert_check b slots lengths held nr len =
    cond (store_over b slots lengths) (Err OverLimit)
    (cond (ltb nr b.total_fragments)
    (cond (slot_over b held) (Err OverLimit)
    (cond (ltb b.width len) (Err StoreFull) (Ok tt)))
    (Err FragmentNumber))

-- what a call answers, and what it leaves, where its check passes and where it doesn't
abbrev pub inserted_if : Result (Unit {0}) Refusal → Result (ReassemblyBuffer × Bool) Refusal → Result (ReassemblyBuffer × Bool) Refusal
inserted_if (Err why) answer = Err why
inserted_if (Ok tt) answer = answer

abbrev pub written_if : Result (Unit {0}) Refusal → Result ℕ Refusal → Result ℕ Refusal
written_if (Err why) answer = Err why
written_if (Ok tt) answer = answer

abbrev pub changed_if : Result (Unit {0}) Refusal → List ℕ → List ℕ → List ℕ
changed_if (Err why) before after = before
changed_if (Ok tt) before after = after

-- "A repeated fragment replaces the body held." The answer says whether every fragment is there.
unfoldable pub insert_check_of : ReassemblyBuffer → List ℕ → List ℕ → ℕ → List ℕ → Result (Unit {0}) Refusal
insert_check_of b slots lengths nr body = insert_check b (length slots) (length lengths) (get_or lengths nr 0) nr (length body)

unfoldable pub insert_of : ReassemblyBuffer → List ℕ → List ℕ → ℕ → List ℕ → Result (ReassemblyBuffer × Bool) Refusal
insert_of b slots lengths nr body =
    inserted_if (insert_check_of b slots lengths nr body)
    (Ok ((recounted b (get_or lengths nr 0)), (eqb (grown b.received_count (get_or lengths nr 0)) b.total_fragments)))

unfoldable pub insert_slots : ReassemblyBuffer → List ℕ → List ℕ → ℕ → List ℕ → List ℕ
insert_slots b slots lengths nr body = changed_if (insert_check_of b slots lengths nr body) slots (put_at slots (nr * b.width) body)

unfoldable pub insert_lengths : ReassemblyBuffer → List ℕ → List ℕ → ℕ → List ℕ → List ℕ
insert_lengths b slots lengths nr body = changed_if (insert_check_of b slots lengths nr body) lengths (set lengths nr (length body + 1))

-- whether the fragment of that number is held: none is where the number isn't below the total, or the lengths end before it
unfoldable pub has_fragment : ReassemblyBuffer → List ℕ → ℕ → Bool
has_fragment b lengths nr = ltb nr b.total_fragments && not (is_free (get_or lengths nr 0))

-- of the entries of all slots: whether one is so; the bytes that are held
unfoldable pub any_of : (ℕ → Bool) → List ℕ → Bool
any_of test [] = false
any_of test (held ∷ more) = test held || any_of test more

unfoldable pub bytes_held : List ℕ → ℕ
bytes_held [] = 0
bytes_held (held ∷ more) = (held - 1) + bytes_held more

-- the bodies held, in order: each at the start of its slot
unfoldable pub bodies_held : ℕ → List ℕ → List ℕ → List (List ℕ)
bodies_held width slots [] = []
bodies_held width slots (held ∷ more) = take (held - 1) slots ∷ bodies_held width (drop width slots) more

-- 16 of a store as a whole: its need, its count, and each of its lengths
unfoldable pub over_limit : ReassemblyBuffer → ℕ → List ℕ → Bool
over_limit b slots lengths = store_over b slots (length lengths) || any_of (is_past b.width) (take b.total_fragments lengths)

-- 16, then 11, "fragments missing"
unfoldable pub assemble_check : ReassemblyBuffer → ℕ → List ℕ → Result (Unit {0}) Refusal
assemble_check b slots lengths =
    cond (over_limit b slots lengths) (Err OverLimit)
    (cond (ltb b.received_count b.total_fragments || any_of is_free (take b.total_fragments lengths)) (Err MissingFragments)
    (Ok tt))

-- then 13: the bodies one behind the other at the start of the output
unfoldable pub payload_of : ReassemblyBuffer → List ℕ → List ℕ → List ℕ
payload_of b slots lengths = joined (bodies_held b.width slots (take b.total_fragments lengths))

unfoldable pub assemble_of : ReassemblyBuffer → List ℕ → List ℕ → List ℕ → Result ℕ Refusal
assemble_of b slots lengths out = written_if (assemble_check b (length slots) lengths) (put_of out 0 (payload_of b slots lengths))

unfoldable pub assemble_out : ReassemblyBuffer → List ℕ → List ℕ → List ℕ → List ℕ
assemble_out b slots lengths out = changed_if (assemble_check b (length slots) lengths) out (put_bytes out 0 (payload_of b slots lengths))
