-- The bridge's calls, answers and tasks as the code has them, read as the rules' values: a part of the datagram is its bytes.
use Rattle.std.specs.Prelude.{ℕ, List}
use Rattle.codec.specs.Reading.{part_of}
use Rattle.moves.specs.Calls as calls
use Rattle.moves.specs.declared.proxy.BridgeCall.{BridgeCall}
use Rattle.moves.specs.declared.proxy.BridgeCall.TheVariants.{CreateParticipant, CreateTopic, CreateWriter, CreateReader, WriteData, ReadData, DeleteEntity}
use Rattle.moves.specs.declared.proxy.BridgeAnswer.{BridgeAnswer}
use Rattle.moves.specs.declared.proxy.BridgeAnswer.TheVariants.{Created, Done, Sample, NoSample, Failed}
use Rattle.moves.specs.declared.proxy.Task.{Task}
use Rattle.moves.specs.declared.proxy.Task.TheVariants.{Creating, Writing, Reading, Deleting}

-- "the data bytes are handed back as that part of the datagram"
abbrev pub call_as : List ℕ → BridgeCall → calls.Call
call_as d (CreateParticipant domain) = calls.create_participant domain
call_as d (CreateTopic p name type) = calls.create_topic p.0 (part_of d name) (part_of d type)
call_as d (CreateWriter p t) = calls.create_writer p.0 t.0
call_as d (CreateReader p t) = calls.create_reader p.0 t.0
call_as d (WriteData w body) = calls.write_data w.0 (part_of d body)
call_as d (ReadData r) = calls.read_data r.0
call_as d (DeleteEntity e) = calls.delete_entity e.0

-- a sample's bytes are lent beside the answer
abbrev pub answer_as : BridgeAnswer → List ℕ → calls.Answer
answer_as (Created h) bytes = calls.created h.0
answer_as Done bytes = calls.succeeded
answer_as Sample bytes = calls.sample bytes
answer_as NoSample bytes = calls.no_sample
answer_as Failed bytes = calls.failed

abbrev pub task_as : Task → calls.Task
task_as (Creating kind parent) = calls.creating kind parent
task_as Writing = calls.writing
task_as Reading = calls.reading
task_as Deleting = calls.deleting
