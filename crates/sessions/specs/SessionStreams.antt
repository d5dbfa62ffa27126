-- The streams of a session, by its id: "A session holds .. 8 streams, stream 0 included."
use Rattle.std.specs.Prelude.{ℕ, zero, suc, ◌+◌, ◌<◌, Bool, cond, List, eqb, leb, ltb, length, Err, Ok, Result, false, true}
use Rattle.streams.specs.Places.{first_from}
use Rattle.streams.specs.State.{new_stream}
use Rattle.streams.specs.declared.state.StreamState.{StreamState}
use Rattle.sessions.specs.Need.{most_streams, streams_need}
use Rattle.sessions.specs.Table.{session_at, keep_session, reached_of}
use Rattle.sessions.specs.Streams.{stream_at, keep_stream, first_stream}
use Rattle.sessions.specs.declared.session_streams.StreamPlace.{StreamPlace}
use Rattle.sessions.specs.declared.session_streams.StreamPlace.TheVariants.{Have, Add, Full, NotLive}
use Rattle.sessions.specs.declared.session_streams.StreamOpened.{StreamOpened}
use Rattle.sessions.specs.declared.session_streams.StreamOpened.TheVariants as opened
use Rattle.sessions.specs.declared.session_streams.StreamNamed.{StreamNamed}
use Rattle.sessions.specs.declared.session_streams.StreamNamed.TheVariants as named-stream
use Rattle.sessions.specs.declared.session_streams.StreamRead.{StreamRead}
use Rattle.sessions.specs.declared.table.ClientSession.{ClientSession}
use Rattle.codec.specs.declared.refusals.Refusal.{Refusal}

abbrev pub streams_used : List (List ℕ) → ℕ → ℕ
streams_used sessions id = (session_at sessions id).streams

abbrev pub streamed_session : ClientSession → ℕ → ClientSession
streamed_session s n = record { live = s.live; client_key = s.client_key; last_activity = s.last_activity; objects = s.objects; streams = n; slot = s.slot; total = s.total; received = s.received }

unfoldable pub streams_named : List (List ℕ) → ℕ → ℕ → Result Bool Refusal
streams_named sessions streams id = reached_of sessions id (streams_used sessions id) most_streams streams streams_need

-- ---- where a stream is among the session's: the search goes up from the first

abbrev pub is_stream : List (List ℕ) → ℕ → ℕ → ℕ → Bool
is_stream streams first n k = eqb (stream_at streams (first + k)).stream_id n

-- the place that it has, or, where it has none of those in use, the place that a new one gets
abbrev pub placed_as : ℕ → ℕ → Result StreamPlace Refusal
placed_as k used = cond (ltb k used) (Ok (Have k)) (cond (leb most_streams used) (Ok Full) (Ok (Add used)))

abbrev pub place_by : Result Bool Refusal → List (List ℕ) → List (List ℕ) → ℕ → ℕ → Result StreamPlace Refusal
place_by (Ok true) sessions streams id n =
    placed_as (first_from (is_stream streams (first_stream id) n) (streams_used sessions id) 0) (streams_used sessions id)
place_by (Ok false) sessions streams id n = (Ok NotLive)
place_by (Err r) sessions streams id n = Err r

unfoldable pub stream_place : List (List ℕ) → List (List ℕ) → ℕ → ℕ → Result StreamPlace Refusal
stream_place sessions streams id n = place_by (streams_named sessions (length streams) id) sessions streams id n

-- a place is one of eight
abbrev pub one_of_eight : Result StreamPlace Refusal → Type 0
one_of_eight (Ok (Have k)) = k < 8
one_of_eight (Ok (Add k)) = k < 8
one_of_eight (Ok Full) = Unit {0}
one_of_eight (Ok NotLive) = Unit {0}
one_of_eight (Err r) = Unit {0}

-- ---- get or open; "A ninth stream gets no reply": nothing changes

abbrev pub opened_as : Result StreamPlace Refusal → Result StreamOpened Refusal
opened_as (Ok (Have k)) = (Ok opened.Open)
opened_as (Ok (Add k)) = (Ok opened.Open)
opened_as (Ok Full) = (Ok opened.Full)
opened_as (Ok NotLive) = (Ok opened.NotLive)
opened_as (Err r) = Err r

abbrev pub opened_in : Result StreamPlace Refusal → List (List ℕ) → ℕ → ℕ → List (List ℕ)
opened_in (Ok (Have k)) streams id n = streams
opened_in (Ok (Add k)) streams id n = keep_stream streams (first_stream id + k) (new_stream n)
opened_in (Ok Full) streams id n = streams
opened_in (Ok NotLive) streams id n = streams
opened_in (Err r) streams id n = streams

abbrev pub opened_count : Result StreamPlace Refusal → List (List ℕ) → ℕ → List (List ℕ)
opened_count (Ok (Have k)) sessions id = sessions
opened_count (Ok (Add k)) sessions id = keep_session sessions id (streamed_session (session_at sessions id) (k + 1))
opened_count (Ok Full) sessions id = sessions
opened_count (Ok NotLive) sessions id = sessions
opened_count (Err r) sessions id = sessions

-- ---- read and write back, by the stream's own number

-- "No such session: no reply"; a stream that is not open has no state, and nothing is written
abbrev pub named_as : Result StreamPlace Refusal → Result StreamNamed Refusal
named_as (Ok (Have k)) = (Ok named-stream.Open)
named_as (Ok (Add k)) = (Ok named-stream.NotOpen)
named_as (Ok Full) = (Ok named-stream.NotOpen)
named_as (Ok NotLive) = (Ok named-stream.NotLive)
named_as (Err r) = Err r

abbrev pub state_at : Result StreamPlace Refusal → List (List ℕ) → ℕ → StreamState
state_at (Ok (Have k)) streams id = stream_at streams (first_stream id + k)
state_at (Ok (Add k)) streams id = new_stream 0
state_at (Ok Full) streams id = new_stream 0
state_at (Ok NotLive) streams id = new_stream 0
state_at (Err r) streams id = new_stream 0

abbrev pub read_as : Result StreamPlace Refusal → List (List ℕ) → ℕ → StreamRead
read_as p streams id = record { answer = named_as p; state = state_at p streams id }

abbrev pub written_in : Result StreamPlace Refusal → List (List ℕ) → ℕ → StreamState → List (List ℕ)
written_in (Ok (Have k)) streams id s = keep_stream streams (first_stream id + k) s
written_in (Ok (Add k)) streams id s = streams
written_in (Ok Full) streams id s = streams
written_in (Ok NotLive) streams id s = streams
written_in (Err r) streams id s = streams
