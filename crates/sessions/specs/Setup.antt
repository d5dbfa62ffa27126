-- Set-up, the counterpart of `SessionTable::new`: "An empty agent is one just set up."
use Rattle.std.specs.Prelude.{ℕ, cond, List, ◌++◌, drop, replicate, Err, Ok, Result}
use Rattle.codec.specs.declared.refusals.Refusal.TheVariants.{OverLimit}
use Rattle.sessions.specs.Need.{sessions_need, streams_need, objects_need, stores_fit}
use Rattle.sessions.specs.Table.{row_of, ended_session}
use Rattle.sessions.specs.Objects.{blank}
use Rattle.sessions.specs.declared.objects.Object.{Object}
use Rattle.codec.specs.declared.refusals.Refusal.{Refusal}

-- the first n records of a store say nothing; what it has beyond them stays as it was
unfoldable pub cleared : {A : Type 0} → ℕ → A → List A → List A
cleared n nothing store = replicate n nothing ++ drop n store

-- a stream's row that no stream was ever kept in
abbrev pub no_stream : List ℕ
no_stream = replicate 35 0

-- just set up: under none of 256 ids a session, and no stream and no object in any record
abbrev pub empty_sessions : List (List ℕ) → List (List ℕ)
empty_sessions rows = cleared sessions_need (row_of ended_session) rows

abbrev pub empty_streams : List (List ℕ) → List (List ℕ)
empty_streams rows = cleared streams_need no_stream rows

abbrev pub empty_objects : List Object → List Object
empty_objects records = cleared objects_need blank records

-- ids are 1 to 255, and "`create_session` takes the next free id": the first is 1
abbrev pub first_id : ℕ
first_id = 1

-- 16: "`max_clients` over 255, lent store under its documented need"
unfoldable pub set_up_of : ℕ → ℕ → ℕ → ℕ → ℕ → ℕ → ℕ → ℕ → Result ℕ Refusal
set_up_of sessions streams objects held parts lengths rebuilt max = cond (stores_fit sessions streams objects held parts lengths rebuilt max) (Ok first_id) (Err OverLimit)

-- what a store is left as; a refusal changes nothing
abbrev pub leaves : {A : Type 0} → Result ℕ Refusal → A → A → A
leaves (Ok next) empty store = empty
leaves (Err r) empty store = store
