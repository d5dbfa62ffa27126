-- Document 02, W1, on the list of objects: "A DataWriter or DataReader uses the Topic that its parent number names, and the Participant that
-- this Topic's parent names. If either isn't held with that kind, the answer is ERR_INVALID_DATA without a call."
use Rattle.std.specs.Prelude.{ℕ, cond, List, eqb, Option, None, Some}
use Rattle.codec.specs.Submessages.{kind_byte}
use Rattle.codec.specs.declared.submessages.ObjectKind.{ObjectKind}
use Rattle.codec.specs.declared.submessages.ObjectKind.TheVariants.{Participant, Topic}
use Rattle.sessions.specs.View.{Entry, find_in}
use Rattle.agent.specs.Local.{entry_handle}

-- "held with that kind"
abbrev pub of_kind : ObjectKind → Option Entry → Option Entry
of_kind kind None = None
of_kind kind (Some e) = cond (eqb e.kind (kind_byte kind)) (Some e) None

-- a Participant's handle and a Topic's, or none where either has none
abbrev pub both_handles : Option ℕ → Option ℕ → Option (ℕ × ℕ)
both_handles (Some p) (Some t) = Some (p, t)
both_handles (Some p) None = None
both_handles None t = None

-- "the Participant that this Topic's parent names"
abbrev pub handles_above : List Entry → Option Entry → Option (ℕ × ℕ)
handles_above es None = None
handles_above es (Some topic) = both_handles (entry_handle (of_kind Participant (find_in es topic.parent))) topic.handle

-- "the Topic that its parent number names"
abbrev pub handles_named : List Entry → ℕ → Option (ℕ × ℕ)
handles_named es parent = handles_above es (of_kind Topic (find_in es parent))
