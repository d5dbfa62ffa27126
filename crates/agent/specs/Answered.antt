-- The answer's part of a call: its reply in bytes, and the lent tables with what it lists, where its session is live.
use Rattle.std.specs.Prelude.{ℕ, Bool, true, cond, List, [], ◌∷◌, eqb, leb, Err, None, Ok, Option, Result, Some}
use Rattle.codec.specs.declared.submessages.ObjectNumber.{ObjectNumber}
use Rattle.sessions.specs.declared.objects.Object.{Object}
use Rattle.moves.specs.Answers.{says_of, kept_sessions, kept_objects}
use Rattle.sessions.specs.Sending.{sent_streams, sent_held}
use Rattle.moves.specs.RowsStreams.{read_of}
use Rattle.moves.specs.Replies.{status_bytes, data_bytes}
use Rattle.agent.specs.Step.{Reply, replied}
use Rattle.moves.specs.declared.answers.Says.{Says}
use Rattle.moves.specs.declared.answers.Says.TheVariants.{Status, Data}
use Rattle.moves.specs.declared.proxy.BridgeAnswer.{BridgeAnswer}
use Rattle.moves.specs.declared.proxy.Task.{Task}
use Rattle.agent.specs.declared.turn.Frame.{Frame}
use Rattle.sessions.specs.declared.table.ClientSession.{ClientSession}
use Rattle.codec.specs.declared.refusals.Refusal.{Refusal}

-- 12 has refused a longer sample, and 14 one that is too long to be held
abbrev pub says_fits : Says → ℕ → ℕ → Bool
says_fits (Status code) stream n = true
says_fits Data stream n = cond (eqb stream 0) (leb n 65533) (leb n 1014)

-- W5: "On streams other than 0 each DATA reply now takes the next send sequence in its header"
abbrev pub sequence_of : List (List ℕ) → List (List ℕ) → Frame → ℕ
sequence_of s x f = cond (eqb f.stream_id 0) 0 (read_of s x f.session_id f.stream_id).state.next_send_seq

abbrev pub says_bytes : Says → Frame → ℕ → ObjectNumber → List ℕ → List ℕ
says_bytes (Status code) f sequence number sample = status_bytes f.session_id f.stream_id number.0 code
says_bytes Data f sequence number sample = data_bytes f.session_id f.stream_id sequence number.0 sample

-- "and is held"
abbrev pub says_streams : Says → Frame → List (List ℕ) → List (List ℕ) → List ℕ → List ℕ → List (List ℕ)
says_streams (Status code) f s x h bytes = x
says_streams Data f s x h bytes = cond (eqb f.stream_id 0) x (sent_streams s x h f.session_id f.stream_id bytes)

abbrev pub says_held : Says → Frame → List (List ℕ) → List (List ℕ) → List ℕ → List ℕ → List ℕ
says_held (Status code) f s x h bytes = h
says_held Data f s x h bytes = cond (eqb f.stream_id 0) h (sent_held s x h f.session_id f.stream_id bytes)

-- of the session that the call was for, where it is live
abbrev pub answered_by : Result (Option ClientSession) Refusal → Frame → ℕ → List ℕ → ObjectNumber → Task → BridgeAnswer → List Reply
answered_by (Ok (Some s)) f sequence sample number task a = replied f.session_id (says_bytes (says_of task a) f sequence number sample) ∷ []
answered_by (Ok None) f sequence sample number task a = []
answered_by (Err r) f sequence sample number task a = []

abbrev pub answered_streams : Result (Option ClientSession) Refusal → Says → Frame → List (List ℕ) → List (List ℕ) → List ℕ → List ℕ → List (List ℕ)
answered_streams (Ok (Some y)) q f s x h bytes = says_streams q f s x h bytes
answered_streams (Ok None) q f s x h bytes = x
answered_streams (Err r) q f s x h bytes = x

abbrev pub answered_held : Result (Option ClientSession) Refusal → Says → Frame → List (List ℕ) → List (List ℕ) → List ℕ → List ℕ → List ℕ
answered_held (Ok (Some y)) q f s x h bytes = says_held q f s x h bytes
answered_held (Ok None) q f s x h bytes = h
answered_held (Err r) q f s x h bytes = h

abbrev pub answered_sessions : Result (Option ClientSession) Refusal → Option Object → List (List ℕ) → List Object → ℕ → List (List ℕ)
answered_sessions (Ok (Some x)) k s o id = kept_sessions k s o id
answered_sessions (Ok None) k s o id = s
answered_sessions (Err r) k s o id = s

abbrev pub answered_objects : Result (Option ClientSession) Refusal → Option Object → List (List ℕ) → List Object → ℕ → List Object
answered_objects (Ok (Some x)) k s o id = kept_objects k s o id
answered_objects (Ok None) k s o id = o
answered_objects (Err r) k s o id = o
