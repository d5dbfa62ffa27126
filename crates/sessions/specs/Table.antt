-- The table of sessions: 256 rows of numbers, one for each id; row 0 is unused.
use Rattle.std.specs.Prelude.{ℕ, zero, suc, ◌+◌, ◌-◌, Bool, true, false, cond, List, [], ◌∷◌, eqb, leb, ltb, get_or, set, length, Err, None, Ok, Option, Result, Some}
use Rattle.codec.specs.declared.refusals.Refusal.{Refusal}
use Rattle.codec.specs.declared.refusals.Refusal.TheVariants.{OverLimit}
use Rattle.sessions.specs.Need.{sessions_need}
use Rattle.sessions.specs.declared.table.ClientSession.{ClientSession}

-- ---- a session and its row

abbrev pub session_of : List ℕ → ClientSession
session_of w = record { live = get_or w 0 0; client_key = get_or w 1 0; last_activity = get_or w 2 0; objects = get_or w 3 0; streams = get_or w 4 0; slot = get_or w 5 0; total = get_or w 6 0; received = get_or w 7 0 }

abbrev pub row_of : ClientSession → List ℕ
row_of s = s.live ∷ s.client_key ∷ s.last_activity ∷ s.objects ∷ s.streams ∷ s.slot ∷ s.total ∷ s.received ∷ []

abbrev pub session_at : List (List ℕ) → ℕ → ClientSession
session_at rows id = session_of (get_or rows id [])

abbrev pub keep_session : List (List ℕ) → ℕ → ClientSession → List (List ℕ)
keep_session rows id s = set rows id (row_of s)

-- "It starts with the id given, the opening datagram's time as last activity, no objects, and the streams that `create_session` opens."
abbrev pub new_session : ℕ → ℕ → ℕ → ClientSession
new_session key time slot = record { live = 1; client_key = key; last_activity = time; objects = 0; streams = 1; slot = slot; total = 0; received = 0 }

-- "its lists are gone"
abbrev pub ended_session : ClientSession
ended_session = record { live = 0; client_key = 0; last_activity = 0; objects = 0; streams = 0; slot = 0; total = 0; received = 0 }

-- "The time becomes the last activity"
abbrev pub touched_session : ClientSession → ℕ → ClientSession
touched_session s time = record { live = s.live; client_key = s.client_key; last_activity = time; objects = s.objects; streams = s.streams; slot = s.slot; total = s.total; received = s.received }

-- "Expired: now minus last activity (0 if the clock went back) exceeds the timeout."
abbrev pub elapsed_of : ℕ → ℕ → ℕ
elapsed_of last time = time - last

abbrev pub expired_of : ClientSession → ℕ → ℕ → Bool
expired_of s time timeout = ltb timeout (elapsed_of s.last_activity time)

-- ---- the table

-- 16, "lent store under its documented need"
abbrev pub table_fits : List (List ℕ) → Bool
table_fits rows = leb sessions_need (length rows)

abbrev pub is_free : List (List ℕ) → ℕ → Bool
is_free rows id = eqb (session_at rows id).live 0

unfoldable pub named_of : List (List ℕ) → ℕ → Result Bool Refusal
named_of rows id = cond (table_fits rows) (cond (is_free rows id) (Ok false) (Ok true)) (Err OverLimit)

-- the session that the id names
abbrev pub got_by : Result Bool Refusal → List (List ℕ) → ℕ → Result (Option ClientSession) Refusal
got_by (Ok true) rows id = Ok (Some (session_at rows id))
got_by (Ok false) rows id = (Ok None)
got_by (Err r) rows id = Err r

unfoldable pub got_of : List (List ℕ) → ℕ → Result (Option ClientSession) Refusal
got_of rows id = got_by (named_of rows id) rows id

-- 16 for the records of a session: "lent store under its documented need, or tables altered past a limit"
unfoldable pub records_fit : ℕ → ℕ → ℕ → ℕ → Bool
records_fit used most store need = cond (leb need store) (leb used most) false

unfoldable pub reached_of : List (List ℕ) → ℕ → ℕ → ℕ → ℕ → ℕ → Result Bool Refusal
reached_of rows id used most store need = cond (records_fit used most store need) (named_of rows id) (Err OverLimit)

-- a session changes only where it is live; "No such session": nothing changes
abbrev pub kept_rows : Result Bool Refusal → List (List ℕ) → ℕ → ClientSession → List (List ℕ)
kept_rows (Ok true) rows id s = keep_session rows id s
kept_rows (Ok false) rows id s = rows
kept_rows (Err r) rows id s = rows

-- "the session is touched first with the datagram's time"
unfoldable pub touched_rows : List (List ℕ) → ℕ → ℕ → List (List ℕ)
touched_rows rows id time = kept_rows (named_of rows id) rows id (touched_session (session_at rows id) time)

-- "The removal .. ends it"
unfoldable pub ended_rows : List (List ℕ) → ℕ → List (List ℕ)
ended_rows rows id = kept_rows (named_of rows id) rows id ended_session
