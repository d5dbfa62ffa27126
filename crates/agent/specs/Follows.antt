-- The promise of document 02's W1, said of the two objects: which call a CREATE of a DataWriter or DataReader hands out, and when it hands out none.
use Rattle.std.specs.Prelude.{ℕ, ◌≡◌, false, List, Some}
use Rattle.codec.specs.Submessages.{kind_byte}
use Rattle.codec.specs.declared.submessages.ObjectKind.{ObjectKind}
use Rattle.codec.specs.declared.submessages.ObjectKind.TheVariants.{Participant, Topic, DataWriter, DataReader}
use Rattle.codec.specs.declared.submessages.StatusCode.TheVariants.{ErrInvalidData}
use Rattle.sessions.specs.View.{Entry, Local, find_in}
use Rattle.sessions.specs.Dependants.{has_dependant}
use Rattle.moves.specs.Calls.{Call, create_writer, create_reader, creating}
use Rattle.agent.specs.Local.{full}
use Rattle.agent.specs.RulesObjects.{says, asks, on_create}

-- "the Topic that its parent number names, and the Participant that this Topic's parent names", both "held with that kind", and their handles
pub record Follows (es : List Entry) (parent participantHandle topicHandle : ℕ) : Type 0 where
  pub topic : Entry
  pub topic_named : find_in es parent ≡ Some topic
  pub topic_kind : topic.kind ≡ kind_byte Topic
  pub topic_handle : topic.handle ≡ Some topicHandle
  pub participant : Entry
  pub participant_named : find_in es topic.parent ≡ Some participant
  pub participant_kind : participant.kind ≡ kind_byte Participant
  pub participant_handle : participant.handle ≡ Some participantHandle

-- Within the object limit, and where nothing depends on an object of that number (W3), the call has the handles of these two; "If either isn't held with that kind, the answer is ERR_INVALID_DATA without a call."
abbrev pub MadeBy : ObjectKind → (ℕ → ℕ → Call) → Type 0
MadeBy kind call =
    (stream number parent : ℕ) (body : List ℕ) (l : Local)
    → full number l ≡ false
    → has_dependant l.objects (find_in l.objects number) ≡ false
    → ((p t : ℕ) → Follows l.objects parent p t → on_create kind stream number parent body l ≡ asks stream number (creating (kind_byte kind) parent) (call p t) l)
    × (((p t : ℕ) → Follows l.objects parent p t → ⊥) → on_create kind stream number parent body l ≡ says stream number ErrInvalidData l)

abbrev pub FollowsExactly : Type 0
FollowsExactly = MadeBy DataWriter create_writer × MadeBy DataReader create_reader
