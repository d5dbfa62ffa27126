-- The documented need lies within document 01's bound.
use Prim.Native.Nat.{ℕ, ◌+◌, ◌*◌, ◌<◌, ◌≤◌}
use mathlib.Core.Path.{◌≡◌, refl}
use borrow.Author.Tests.{lt-leb, le-leb}
use native.Mathlib.Omega.{arith}
use Rattle.codec.specs.Answers.{gives, refused_as}
use Rattle.sessions.specs.Need.{need_of, needed_for}
use Rattle.sessions.specs.Answers.{needed_answer}

-- "at most 1,048,576 × (`max_clients` + 1) bytes in all", for every `max_clients` that is not refused
pub need_within : (max : ℕ) → max ≤ 255 → (needed_answer (needed_for max) ≡ gives (need_of max)) × ((need_of max).bytes ≤ 1048576 * (max + 1))
unfolding needed_for
need_within max h = (rw (le-leb max 255 h) refl, omega arith)

pub need_refused : (max : ℕ) → 255 < max → needed_answer (needed_for max) ≡ refused_as 16 0
unfolding needed_for
need_refused max h = rw (lt-leb max 255 h) refl
