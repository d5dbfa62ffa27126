-- The promise of document 02's W7, said of the bytes: which call a CREATE of a Topic hands out, and when it hands out none.
use Rattle.std.specs.Prelude.{ℕ, ◌≡◌, true, false, List, None, Some}
use Rattle.codec.specs.Bytes.{AllBytes}
use Rattle.codec.specs.Grammar.{IsString}
use Rattle.codec.specs.Submessages.{kind_byte}
use Rattle.codec.specs.declared.submessages.ObjectKind.TheVariants.{Topic}
use Rattle.codec.specs.declared.submessages.StatusCode.TheVariants.{ErrInvalidData, ErrResources}
use Rattle.sessions.specs.View.{Local, find_in}
use Rattle.sessions.specs.Dependants.{has_dependant}
use Rattle.moves.specs.Calls.{create_topic, creating}
use Rattle.agent.specs.Local.{full, handle_at}
use Rattle.agent.specs.RulesObjects.{says, asks, on_create}

-- "name and type are two strings", whole and text; bytes behind them are ignored
pub record Named (body name type : List ℕ) : Type 0 where
  pub behind_name : List ℕ
  pub ignored : List ℕ
  pub first : IsString name behind_name body
  pub second : IsString type ignored behind_name

-- "A Topic whose strings are cut short or ill-formed answers ERR_INVALID_DATA without a call, after ERR_RESOURCES and ERR_INCOMPATIBLE." So within the
-- object limit, and where nothing depends on an object of that number (W3: else `Stays`), the call has these two texts, byte for byte.
pub record NamedExactly (stream number parent : ℕ) (body : List ℕ) (l : Local) : Type 0 where
  pub full_first : full number l ≡ true → on_create Topic stream number parent body l ≡ says stream number ErrResources l
  pub named : full number l ≡ false → has_dependant l.objects (find_in l.objects number) ≡ false
      → (p : ℕ) → handle_at parent l ≡ Some p → (name type : List ℕ) → Named body name type
      → on_create Topic stream number parent body l ≡ asks stream number (creating (kind_byte Topic) parent) (create_topic p name type) l
  pub unnamed : full number l ≡ false → has_dependant l.objects (find_in l.objects number) ≡ false
      → ((name type : List ℕ) → Named body name type → ⊥) → on_create Topic stream number parent body l ≡ says stream number ErrInvalidData l
  pub orphan : full number l ≡ false → has_dependant l.objects (find_in l.objects number) ≡ false
      → handle_at parent l ≡ None → on_create Topic stream number parent body l ≡ says stream number ErrInvalidData l

abbrev pub NamesExactly : Type 0
NamesExactly = (stream number parent : ℕ) (body : List ℕ) → AllBytes body → (l : Local) → NamedExactly stream number parent body l
