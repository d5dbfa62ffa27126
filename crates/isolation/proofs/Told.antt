-- No agent tells the claim anything: what a session is fed, and which calls are open, follows from the host's calls and the agent's
-- answers, whatever its state. So no table can reach another session as a datagram that nobody sent.
use mathlib.Core.Path.{◌≡◌, ap}
use Prim.Native.Nat.{ℕ}
use mathlib.Core.List.{List, [], ◌∷◌}
use Rattle.isolation.specs.Rules.{Rules, Result}
use Rattle.isolation.specs.Machine.{Feed}
use Rattle.isolation.specs.Claim.{Agent, OpenCalls, Point, next, feeds}

module _ (R : Rules) (A : Agent R) where
  open A use {Event, step}

  pub open_alike : (p q : Point R A) (e : Event) → p.open_calls ≡ q.open_calls → (step p.state e).1 ≡ (step q.state e).1 → (next R A p e).open_calls ≡ (next R A q e).open_calls
  open_alike p q e b r = rw (b, r)

  pub fed_alike : (s : ℕ) (p q : Point R A) (e : Event) → p.open_calls ≡ q.open_calls → (step p.state e).1 ≡ (step q.state e).1 → feeds R A s p (e ∷ []) ≡ feeds R A s q (e ∷ [])
  fed_alike s p q e b r = rw (b, r)
