-- The streams of a session: "a list of streams (number, next to send, expected, held messages)", eight rows of numbers a session.
use Rattle.std.specs.Prelude.{ℕ, zero, suc, ◌+◌, ◌*◌, ◌%◌, List, [], ◌∷◌, ◌++◌, leb, Bool, get_or, set, length}
use Rattle.streams.specs.declared.state.StreamState.{StreamState}
use Rattle.streams.specs.State.{new_stream}
use Rattle.streams.specs.Acknowledged.{list_from, sixteen}
use Rattle.sessions.specs.Need.{most_streams, streams_need}

-- a number of a row
abbrev pub number_at : List ℕ → ℕ → ℕ
number_at w i = get_or w i 0

-- a row: the stream's number, the next to send, the expected one, the held numbers and their lengths
unfoldable pub row_from : ℕ → ℕ → ℕ → List ℕ → List ℕ → List ℕ
row_from id send expected numbers lengths = id ∷ send ∷ expected ∷ (sixteen (number_at numbers) ++ sixteen (number_at lengths))

abbrev pub stream_row : StreamState → List ℕ
stream_row s = row_from s.stream_id s.next_send_seq s.next_recv_seq s.numbers s.lengths

unfoldable pub stream_of : List ℕ → StreamState
stream_of w =
    record { stream_id = number_at w 0 % 256; next_send_seq = number_at w 1; next_recv_seq = number_at w 2; numbers = list_from (number_at w) 16 3; lengths = list_from (number_at w) 16 19 }

abbrev pub stream_at : List (List ℕ) → ℕ → StreamState
stream_at rows at = stream_of (get_or rows at [])

abbrev pub keep_stream : List (List ℕ) → ℕ → StreamState → List (List ℕ)
keep_stream rows at s = set rows at (stream_row s)

-- 16, "lent store under its documented need": eight rows for each of 256 ids
abbrev pub streams_fit : List (List ℕ) → Bool
streams_fit rows = leb streams_need (length rows)

abbrev pub first_stream : ℕ → ℕ
first_stream id = most_streams * id
