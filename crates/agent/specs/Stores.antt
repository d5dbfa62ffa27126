-- The stores that the host lends, as the code hands them on.
use Rattle.std.specs.Prelude.{◌≡◌}
use Rattle.sessions.specs.View.{Tables}
use Rattle.agent.specs.Lent.{lent}
use Rattle.agent.specs.declared.stores.Stores.{Stores}

-- what stands in them
abbrev pub stores_of : Stores → Tables
stores_of s = lent s.sessions.now s.streams.now s.objects.now s.held.now s.parts.now s.lengths.now s.rebuilt.now

-- each is the slice that was lent
abbrev pub SamePlaces : Stores → Stores → Type 0
SamePlaces a b =
    (b.sessions.ghost_name ≡ a.sessions.ghost_name) × (b.streams.ghost_name ≡ a.streams.ghost_name) × (b.objects.ghost_name ≡ a.objects.ghost_name) × (b.held.ghost_name ≡ a.held.ghost_name)
    × (b.parts.ghost_name ≡ a.parts.ghost_name) × (b.lengths.ghost_name ≡ a.lengths.ghost_name) × (b.rebuilt.ghost_name ≡ a.rebuilt.ghost_name)
