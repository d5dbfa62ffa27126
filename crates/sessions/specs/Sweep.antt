-- A sweep: "Sweeps list ids ascending". A sweep "when it is expired, ends it".
use Rattle.std.specs.Prelude.{ℕ, zero, suc, ◌+◌, Bool, true, false, cond, List, [], ◌∷◌, ltb, length, Err, Result}
use Rattle.codec.specs.Bytes.{put_of, put_bytes}
use Rattle.codec.specs.declared.refusals.Refusal.TheVariants.{OverLimit}
use Rattle.sessions.specs.Table.{session_at, is_free, expired_of, keep_session, ended_session, table_fits}
use Rattle.codec.specs.declared.refusals.Refusal.{Refusal}

-- a live session that is expired
unfoldable pub goes : List (List ℕ) → ℕ → ℕ → ℕ → Bool
goes rows time timeout id = cond (is_free rows id) false (expired_of (session_at rows id) time timeout)

-- of n ids from i on, those whose sessions are expired, ascending, by a test that says which are
unfoldable pub expired_from : (ℕ → Bool) → ℕ → ℕ → List ℕ
expired_from gone i zero = []
expired_from gone i (suc n) = cond (gone i) (i ∷ expired_from gone (suc i) n) (expired_from gone (suc i) n)

-- the table with id i swept, and with n ids from i on
unfoldable pub swept_at : List (List ℕ) → ℕ → ℕ → ℕ → List (List ℕ)
swept_at rows time timeout i = cond (goes rows time timeout i) (keep_session rows i ended_session) rows

unfoldable pub swept_from : List (List ℕ) → ℕ → ℕ → ℕ → ℕ → List (List ℕ)
swept_from rows time timeout i zero = rows
swept_from rows time timeout i (suc n) = swept_from (swept_at rows time timeout i) time timeout (suc i) n

-- the ids are 1 to 255
unfoldable pub expired_ids : List (List ℕ) → ℕ → ℕ → List ℕ
expired_ids rows time timeout = expired_from (goes rows time timeout) 1 255

unfoldable pub swept_rows : List (List ℕ) → ℕ → ℕ → List (List ℕ)
swept_rows rows time timeout = swept_from rows time timeout 1 255

-- 16, then 13: one byte for each id; a refusal changes nothing
unfoldable pub evicted_of : List (List ℕ) → ℕ → ℕ → List ℕ → Result ℕ Refusal
evicted_of rows time timeout out = cond (table_fits rows) (put_of out 0 (expired_ids rows time timeout)) (Err OverLimit)

unfoldable pub evicted_out : List (List ℕ) → ℕ → ℕ → List ℕ → List ℕ
evicted_out rows time timeout out = cond (table_fits rows) (put_bytes out 0 (expired_ids rows time timeout)) out

unfoldable pub evicted_rows : List (List ℕ) → ℕ → ℕ → List ℕ → List (List ℕ)
evicted_rows rows time timeout out =
    cond (table_fits rows) (cond (ltb (length out) (length (expired_ids rows time timeout))) rows (swept_rows rows time timeout)) rows
