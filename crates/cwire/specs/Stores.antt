-- Document 01, "Reassembly: lent slots of one width, with lengths", for a host that keeps a store's record as three numbers: total,
-- received, width. What a call does to slots and lengths is what the codec's definitions say.
use Rattle.std.specs.Prelude.{ℕ, Bool, cond, ◌||◌, List, [], ◌∷◌, ltb, get_or, length, Err, Ok, Result}
use Rattle.codec.specs.Answers.{gives, refusal}
use Rattle.codec.specs.Bytes.{put_at}
use Rattle.codec.specs.Reassembly.{new_of, new_lengths, insert_of, insert_slots, insert_lengths, assemble_of, assemble_out}
use Rattle.codec.specs.declared.reassembly.ReassemblyBuffer.{ReassemblyBuffer}
use Rattle.codec.specs.declared.refusals.Refusal.TheVariants.{OverLimit}
use Rattle.cwire.specs.Answer.{packed}
use Rattle.codec.specs.declared.refusals.Refusal.{Refusal}

-- 16, "lent store under its documented need, or tables altered past a limit": under three numbers, or one over 65,535
unfoldable pub record_over : List ℕ → Bool
record_over words = ltb (length words) 3 || (ltb 65535 (get_or words 0 0) || (ltb 65535 (get_or words 1 0) || ltb 65535 (get_or words 2 0)))

-- the store that a record says
unfoldable pub store_in : List ℕ → Result ReassemblyBuffer Refusal
store_in words =
    cond (record_over words) (Err OverLimit)
    (Ok (record { total_fragments = get_or words 0 0; received_count = get_or words 1 0; width = get_or words 2 0 }))

-- a record with a store's numbers in it; numbers behind them stay
unfoldable pub store_put : List ℕ → ReassemblyBuffer → List ℕ
store_put words b = put_at words 0 (b.total_fragments ∷ b.received_count ∷ b.width ∷ [])

-- ---- a new store

unfoldable pub new_by : List ℕ → ℕ → ℕ → List ℕ → List ℕ → Result ReassemblyBuffer Refusal
new_by words total width slots lengths = cond (ltb (length words) 3) (Err OverLimit) (new_of total width slots lengths)

abbrev pub new_answer : Result ReassemblyBuffer Refusal → ℕ
new_answer (Ok b) = packed (gives 0)
new_answer (Err r) = packed (refusal r)

abbrev pub new_store : List ℕ → Result ReassemblyBuffer Refusal → List ℕ
new_store words (Ok b) = store_put words b
new_store words (Err r) = words

unfoldable pub new_entries : List ℕ → ℕ → ℕ → List ℕ → List ℕ → List ℕ
new_entries words total width slots lengths = cond (ltb (length words) 3) lengths (new_lengths total width slots lengths)

-- ---- an insert into the store that a record says

abbrev pub insert_by : Result ReassemblyBuffer Refusal → List ℕ → List ℕ → ℕ → List ℕ → Result (ReassemblyBuffer × Bool) Refusal
insert_by (Ok b) slots lengths nr body = insert_of b slots lengths nr body
insert_by (Err r) slots lengths nr body = Err r

-- 1 where every fragment is there then, else 0
abbrev pub insert_answer : Result (ReassemblyBuffer × Bool) Refusal → ℕ
insert_answer (Ok (b, all)) = packed (gives (cond all 1 0))
insert_answer (Err r) = packed (refusal r)

abbrev pub insert_store : List ℕ → Result (ReassemblyBuffer × Bool) Refusal → List ℕ
insert_store words (Ok (b, all)) = store_put words b
insert_store words (Err r) = words

abbrev pub slots_by : Result ReassemblyBuffer Refusal → List ℕ → List ℕ → ℕ → List ℕ → List ℕ
slots_by (Ok b) slots lengths nr body = insert_slots b slots lengths nr body
slots_by (Err r) slots lengths nr body = slots

abbrev pub lengths_by : Result ReassemblyBuffer Refusal → List ℕ → List ℕ → ℕ → List ℕ → List ℕ
lengths_by (Ok b) slots lengths nr body = insert_lengths b slots lengths nr body
lengths_by (Err r) slots lengths nr body = lengths

-- ---- the payload of the store that a record says

abbrev pub assemble_by : Result ReassemblyBuffer Refusal → List ℕ → List ℕ → List ℕ → Result ℕ Refusal
assemble_by (Ok b) slots lengths out = assemble_of b slots lengths out
assemble_by (Err r) slots lengths out = Err r

abbrev pub out_by : Result ReassemblyBuffer Refusal → List ℕ → List ℕ → List ℕ → List ℕ
out_by (Ok b) slots lengths out = assemble_out b slots lengths out
out_by (Err r) slots lengths out = out
