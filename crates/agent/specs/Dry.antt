-- What a call is tried on no output with: the records of the lent stores that it may change are copied, and put back behind it.
use Rattle.std.specs.Prelude.{ℕ, zero, suc, ◌+◌, ◌-◌, ◌*◌, cond, List, ltb, get_or, set, take, drop, ◌++◌}
use Rattle.sessions.specs.declared.sending.Stretch.{Stretch}

abbrev pub same : {A : Type 0} → A → A
same x = x

-- which record is copied k-th: of the sessions each; of the streams the first of each session, which `create_session` opens, then
-- the eight of the session that the call names; of the objects that session's
abbrev pub session_spot : ℕ → ℕ
session_spot k = k

abbrev pub stream_spot : ℕ → ℕ → ℕ
stream_spot id k = cond (ltb k 256) (8 * k) (8 * id + (k - 256))

abbrev pub object_spot : ℕ → ℕ → ℕ
object_spot first k = first + k

-- the first n copies are of the records at those spots
unfoldable pub copied : {A B : Type 0} → (A → B) → A → (ℕ → ℕ) → ℕ → List A → List B → List B
copied copy none spot zero from to = to
copied copy none spot (suc k) from to = set (copied copy none spot k from to) k (copy (get_or from (spot k) none))

-- and go back to them
unfoldable pub restored : {A B : Type 0} → (B → A) → B → (ℕ → ℕ) → ℕ → List B → List A → List A
restored back none spot zero from to = to
restored back none spot (suc k) from to = set (restored back none spot k from to) (spot k) (back (get_or from k none))

-- n entries from a place on are kept at the start of a line, and go back from there
abbrev pub kept_in : {A : Type 0} → List A → List A → ℕ → ℕ → List A
kept_in line store first n = take n (drop first store) ++ drop n line

abbrev pub back_in : {A : Type 0} → List A → List A → ℕ → ℕ → List A
back_in store line first n = take first store ++ (take n line ++ drop (first + n) store)

-- where rebuilt bytes stand in what is lent for them
abbrev pub rebuilt_place : Stretch
rebuilt_place = record { start = 0; end = 32768 }
