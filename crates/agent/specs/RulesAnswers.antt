-- The answer to a session's call: "The same rules give the reply."
use Rattle.std.specs.Prelude.{ℕ, cond, List, [], ◌∷◌, eqb, Option, None, Some}
use Rattle.codec.specs.declared.submessages.StatusCode.TheVariants.{Ok, ErrUnknownRef, ErrInvalidData}
use Rattle.isolation.specs.Rules.{done}
use Rattle.sessions.specs.View.{KeptStream, Local, stream_in}
use Rattle.agent.specs.Local.{listing, sending}
use Rattle.moves.specs.Calls.{Answer, created, succeeded, sample, no_sample, failed, Task, creating, deleting, writing, reading, Pending}
use Rattle.moves.specs.Replies.{data_bytes}
use Rattle.agent.specs.RulesObjects.{Move, says}

-- An answer of another kind never comes here (15); it would count as a failure.

-- "A CREATE that succeeds .. lists its object with the handle returned"; a failed one answers ERR_INVALID_DATA
abbrev pub create_answered : ℕ → ℕ → ℕ → ℕ → Answer → Local → Move
create_answered stream number kind parent (created h) l = says stream number Ok (listing number kind (Some h) parent l)
create_answered stream number kind parent succeeded l = says stream number ErrInvalidData l
create_answered stream number kind parent (sample d) l = says stream number ErrInvalidData l
create_answered stream number kind parent no_sample l = says stream number ErrInvalidData l
create_answered stream number kind parent failed l = says stream number ErrInvalidData l

-- "DELETE removes the object even where the bridge then fails (ERR_UNKNOWN_REF)."
abbrev pub delete_answered : ℕ → ℕ → Answer → Local → Move
delete_answered stream number succeeded l = says stream number Ok l
delete_answered stream number (created h) l = says stream number ErrUnknownRef l
delete_answered stream number (sample d) l = says stream number ErrUnknownRef l
delete_answered stream number no_sample l = says stream number ErrUnknownRef l
delete_answered stream number failed l = says stream number ErrUnknownRef l

-- "Bridge failures on write or read answer ERR_INVALID_DATA"
abbrev pub write_answered : ℕ → ℕ → Answer → Local → Move
write_answered stream number succeeded l = says stream number Ok l
write_answered stream number (created h) l = says stream number ErrInvalidData l
write_answered stream number (sample d) l = says stream number ErrInvalidData l
write_answered stream number no_sample l = says stream number ErrInvalidData l
write_answered stream number failed l = says stream number ErrInvalidData l

-- W5: "On streams other than 0 each DATA reply now takes the next send sequence in its header and is held." READ_DATA has opened the stream.
abbrev pub sample_on : ℕ → ℕ → List ℕ → Option KeptStream → Local → Move
sample_on stream number d None l = done l (data_bytes l.id stream 0 number d ∷ [])
sample_on stream number d (Some k) l = let bytes = data_bytes l.id stream k.next number d in done (sending bytes k l) (bytes ∷ [])

-- a sample is answered by DATA; "A read without data answers STATUS OK"
abbrev pub read_answered : ℕ → ℕ → Answer → Local → Move
read_answered stream number (sample d) l =
    cond (eqb stream 0) (done l (data_bytes l.id stream 0 number d ∷ [])) (sample_on stream number d (stream_in l.streams stream) l)
read_answered stream number no_sample l = says stream number Ok l
read_answered stream number (created h) l = says stream number ErrInvalidData l
read_answered stream number succeeded l = says stream number ErrInvalidData l
read_answered stream number failed l = says stream number ErrInvalidData l

abbrev pub answer_of : Task → ℕ → ℕ → Answer → Local → Move
answer_of (creating kind parent) stream number a l = create_answered stream number kind parent a l
answer_of writing stream number a l = write_answered stream number a l
answer_of reading stream number a l = read_answered stream number a l
answer_of deleting stream number a l = delete_answered stream number a l

abbrev pub on_answer : Local → Pending → Answer → Move
on_answer l p a = answer_of p.task p.stream p.number a l
