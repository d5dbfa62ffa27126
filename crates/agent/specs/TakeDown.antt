-- The promises of document 02's W3: what has a dependant stays; what the listing shows; and a session is taken down along its listing.
use Rattle.std.specs.Prelude.{ℕ, ◌≡◌, true, List, [], ◌∷◌, Option, None, Some}
use Rattle.codec.specs.Bytes.{put_bytes}
use Rattle.codec.specs.declared.submessages.ObjectKind.{ObjectKind}
use Rattle.codec.specs.declared.submessages.StatusCode.TheVariants.{ErrIncompatible}
use Rattle.sessions.specs.View.{Tables, Entry, Local, find_in, drop_in}
use Rattle.sessions.specs.Dependants.{has_dependant}
use Rattle.sessions.specs.ObjectList.{rank_of, in_order, listed_or13, list_of, list_out}
use Rattle.sessions.specs.TakeDown.{EachOnce, Ordered, DependantsFirst}
use Rattle.agent.specs.Local.{handle_at}
use Rattle.agent.specs.RulesObjects.{says, drops, on_create, on_delete}

-- "DELETE of it, or a CREATE of its number, answers ERR_INCOMPATIBLE without a bridge call and keeps it", whatever the CREATE's kind
abbrev pub Stays : Type 0
Stays =
    (stream number : ℕ) (l : Local)
    → has_dependant l.objects (find_in l.objects number) ≡ true
    → (on_delete stream number l ≡ says stream number ErrIncompatible l)
    × ((kind : ObjectKind) (parent : ℕ) (body : List ℕ) → on_create kind stream number parent body l ≡ says stream number ErrIncompatible l)

-- A DELETE of each of these numbers in turn, whatever else the session does between them but to its objects: each drops its object, by its call or
-- with OK, and in the end there is none left.
unfoldable pub TakesDown : ℕ → List Entry → List ℕ → Type 0
TakesDown stream es [] = es ≡ []
TakesDown stream es (n ∷ ns) = ((l : Local) → l.objects ≡ es → on_delete stream n l ≡ drops stream n (handle_at n l) l) × TakesDown stream (drop_in es n) ns

-- "An id that isn't live has none."
abbrev pub numbers_shown : Option Local → List ℕ
numbers_shown None = []
numbers_shown (Some l) = in_order l.objects

-- the answer, 13 or how many, and the output: the numbers at its start, and what stood behind them
pub record Shows (t : Tables) (id : ℕ) (out ns : List ℕ) : Type 0 where
  pub answers : list_of t.sessions t.objects id out ≡ listed_or13 ns out
  pub output : list_out t.sessions t.objects id out ≡ put_bytes out 0 ns

-- "each of a session's objects once, dependants before what they depend on: kind 6 down to 1, numbers ascending within a kind"
pub record Right (l : Local) : Type 0 where
  pub once : EachOnce l.objects (in_order l.objects)
  pub ordered : Ordered l.objects (in_order l.objects)
  -- every kind is one of the six, so that its rank is the kind itself
  pub own_rank : (n : ℕ) (e : Entry) → find_in l.objects n ≡ Some e → rank_of e.kind ≡ e.kind
  pub dependants_first : DependantsFirst l.objects (in_order l.objects)
  pub takes_down : (stream : ℕ) → TakesDown stream l.objects (in_order l.objects)
