-- Opening a session: "`create_session` takes the next free id, and its pointer goes on from there; after 255 comes 1. Freed ids are used again."
use Rattle.std.specs.Prelude.{ℕ, zero, suc, ◌+◌, ◌*◌, Bool, true, false, cond, not, List, [], ◌∷◌, eqb, leb, ltb, length, get_or, set, Err, Ok, Result}
use Rattle.codec.specs.declared.refusals.Refusal.TheVariants.{OverLimit, SessionFull}
use Rattle.streams.specs.Places.{first_from}
use Rattle.streams.specs.State.{new_stream}
use Rattle.sessions.specs.Table.{session_at, is_free, table_fits, keep_session, new_session}
use Rattle.sessions.specs.Streams.{keep_stream, streams_fit, first_stream}
use Rattle.codec.specs.declared.refusals.Refusal.{Refusal}

-- "after 255 comes 1"
abbrev pub after : ℕ → ℕ
after id = cond (eqb id 255) 1 (id + 1)

-- how many of n ids from i on are live, by a test that says which are free; the ids are 1 to 255
unfoldable pub live_from : (ℕ → Bool) → ℕ → ℕ → ℕ
live_from free i zero = 0
live_from free i (suc n) = cond (free i) 0 1 + live_from free (suc i) n

unfoldable pub live_of : List (List ℕ) → ℕ
live_of rows = live_from (is_free rows) 1 255

unfoldable pub counted_of : List (List ℕ) → Result ℕ Refusal
counted_of rows = cond (table_fits rows) (Ok (live_of rows)) (Err OverLimit)

-- "the next free id": of n ids from i on the first that is free, or 0
unfoldable pub free_from : (ℕ → Bool) → ℕ → ℕ → ℕ
free_from free i zero = 0
free_from free i (suc n) = cond (free i) i (free_from free (after i) n)

unfoldable pub free_of : List (List ℕ) → ℕ → ℕ
free_of rows next = free_from (is_free rows) next 255

-- 16: "`max_clients` over 255, lent store under its documented need"; the id from which the next free one is looked for is 1 to 255
unfoldable pub open_fits : List (List ℕ) → List (List ℕ) → ℕ → ℕ → Bool
open_fits rows streams max next = cond (table_fits rows) (cond (streams_fit streams) (cond (leb max 255) (ltb 0 next) false) false) false

-- 6: "`max_clients` sessions live"
abbrev pub taken_as : ℕ → Result (ℕ × ℕ) Refusal
taken_as id = cond (eqb id 0) (Err SessionFull) (Ok (id, (after id)))

unfoldable pub chosen_of : List (List ℕ) → ℕ → ℕ → Result (ℕ × ℕ) Refusal
chosen_of rows max next = cond (ltb (live_of rows) max) (taken_as (free_of rows next)) (Err SessionFull)

unfoldable pub created_of : List (List ℕ) → List (List ℕ) → ℕ → ℕ → Result (ℕ × ℕ) Refusal
created_of rows streams max next = cond (open_fits rows streams max next) (chosen_of rows max next) (Err OverLimit)

-- W5: a live session has a slot of its own in the stores by slot: the lowest that no live session has
abbrev pub has_slot : List (List ℕ) → ℕ → ℕ → Bool
has_slot rows k id = cond (is_free rows id) false (eqb (session_at rows id).slot k)

-- whether one of n ids from i on has it
unfoldable pub taken_from : (ℕ → Bool) → ℕ → ℕ → Bool
taken_from has i zero = false
taken_from has i (suc n) = cond (has i) true (taken_from has (suc i) n)

unfoldable pub slot_taken : List (List ℕ) → ℕ → Bool
slot_taken rows k = taken_from (has_slot rows k) 1 255

unfoldable pub free_slot : List (List ℕ) → ℕ
free_slot rows = first_from (λ k. not (slot_taken rows k)) 255 0

-- the same as the code finds it: the slots of live sessions are marked, one id after the other
abbrev pub marked_at : List (List ℕ) → ℕ → List ℕ → List ℕ
marked_at rows id taken = cond (is_free rows id) taken (set taken (session_at rows id).slot 1)

unfoldable pub marked_from : List (List ℕ) → ℕ → ℕ → List ℕ → List ℕ
marked_from rows zero id taken = taken
marked_from rows (suc n) id taken = marked_from rows n (suc id) (marked_at rows id taken)

abbrev pub unmarked : List ℕ → ℕ → Bool
unmarked taken k = eqb (get_or taken k 0) 0

-- the session as it starts, and its stream 0; a refusal changes nothing
abbrev pub opened_rows : Result (ℕ × ℕ) Refusal → List (List ℕ) → ℕ → ℕ → List (List ℕ)
opened_rows (Ok (id, next)) rows key time = keep_session rows id (new_session key time (free_slot rows))
opened_rows (Err r) rows key time = rows

abbrev pub opened_streams : Result (ℕ × ℕ) Refusal → List (List ℕ) → List (List ℕ)
opened_streams (Ok (id, next)) streams = keep_stream streams (first_stream id) (new_stream 0)
opened_streams (Err r) streams = streams
