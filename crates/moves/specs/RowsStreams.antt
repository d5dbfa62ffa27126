-- HEARTBEAT, ACKNACK and READ_DATA over the lent tables: "both HEARTBEAT and ACKNACK open their stream", and so does READ_DATA of a known reader (W5).
use Rattle.std.specs.Prelude.{ℕ, Bool, true, false, cond, List, eqb, Err, None, Ok, Option, Result, Some}
use Rattle.codec.specs.declared.submessages.AcknackPayload.{AcknackPayload}
use Rattle.codec.specs.declared.submessages.ObjectNumber.{ObjectNumber}
use Rattle.codec.specs.declared.submessages.StatusCode.TheVariants.{ErrUnknownRef}
use Rattle.streams.specs.Acknowledged.{acknowledge}
use Rattle.streams.specs.declared.state.StreamState.{StreamState}
use Rattle.sessions.specs.SessionStreams.{stream_place, opened_count, opened_in, read_as, written_in}
use Rattle.sessions.specs.declared.objects.Handle.{Handle}
use Rattle.sessions.specs.declared.session_streams.StreamNamed.{StreamNamed}
use Rattle.sessions.specs.declared.session_streams.StreamNamed.TheVariants.{Open, NotOpen, NotLive}
use Rattle.sessions.specs.declared.session_streams.StreamRead.{StreamRead}
use Rattle.moves.specs.Moves.{heartbeat_move, acknack_on, read_call, read_on}
use Rattle.moves.specs.declared.moves.Move.{Move}
use Rattle.moves.specs.declared.moves.Move.TheVariants.{Status}
use Rattle.codec.specs.declared.refusals.Refusal.{Refusal}

abbrev pub opened_sessions : List (List ℕ) → List (List ℕ) → ℕ → ℕ → List (List ℕ)
opened_sessions s x id n = opened_count (stream_place s x id n) s id

abbrev pub opened_rows : List (List ℕ) → List (List ℕ) → ℕ → ℕ → List (List ℕ)
opened_rows s x id n = opened_in (stream_place s x id n) x id n

abbrev pub read_of : List (List ℕ) → List (List ℕ) → ℕ → ℕ → StreamRead
read_of s x id n = read_as (stream_place s x id n) x id

-- "`process_acknack` drops held numbers before `first_unacked_seq`", on its stream, if that is open
abbrev pub written : List (List ℕ) → List (List ℕ) → ℕ → StreamState → List (List ℕ)
written s x id state = written_in (stream_place s x id state.stream_id) x id state

abbrev pub acknowledged_rows : List (List ℕ) → List (List ℕ) → ℕ → Result StreamNamed Refusal → StreamState → AcknackPayload → List (List ℕ)
acknowledged_rows s x id (Ok Open) state p = written s x id (acknowledge state p.first_unacked_seq p.nack_bitmap).state
acknowledged_rows s x id (Ok NotOpen) state p = x
acknowledged_rows s x id (Ok NotLive) state p = x
acknowledged_rows s x id (Err r) state p = x

-- a HEARTBEAT hears, an ACKNACK doesn't; each has two numbers
abbrev pub stream_move : Bool → ℕ → ℕ → StreamRead → Move
stream_move true first second r = heartbeat_move r (record { first_unacked_seq = first; last_seq = second })
stream_move false first second r = acknack_on r.answer r.state (record { first_unacked_seq = first; nack_bitmap = second })

abbrev pub stream_rows : Bool → ℕ → ℕ → List (List ℕ) → List (List ℕ) → ℕ → StreamRead → List (List ℕ)
stream_rows true first second s x id r = x
stream_rows false first second s x id r = acknowledged_rows s x id r.answer r.state (record { first_unacked_seq = first; nack_bitmap = second })

-- ---- READ_DATA, by the handle that its reader has or not; stream 0 stays as it is

abbrev pub read_from : ObjectNumber → Handle → List (List ℕ) → List (List ℕ) → ℕ → ℕ → Move
read_from number h s x id n =
    let r = read_of (opened_sessions s x id n) (opened_rows s x id n) id n in cond (eqb n 0) (read_call number h) (read_on r.answer r.state number h)

abbrev pub read_move : ObjectNumber → Option Handle → List (List ℕ) → List (List ℕ) → ℕ → ℕ → Move
read_move number (Some h) s x id n = read_from number h s x id n
read_move number None s x id n = Status number ErrUnknownRef

abbrev pub read_sessions : Option Handle → List (List ℕ) → List (List ℕ) → ℕ → ℕ → List (List ℕ)
read_sessions (Some h) s x id n = cond (eqb n 0) s (opened_sessions s x id n)
read_sessions None s x id n = s

abbrev pub read_rows : Option Handle → List (List ℕ) → List (List ℕ) → ℕ → ℕ → List (List ℕ)
read_rows (Some h) s x id n = cond (eqb n 0) x (opened_rows s x id n)
read_rows None s x id n = x
