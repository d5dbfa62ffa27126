-- When a call reaches a session and its records: from the view, and from what 16 looks at.
use Prim.Native.Nat.{ℕ, ◌<◌, ◌≤◌}
use mathlib.Core.Path.{◌≡◌, refl, sym, ap, ◌∙◌}
use mathlib.Core.Bool.{Bool, true, false, cond}
use mathlib.Core.List.{List}
use borrow.Author.Tests.{le-leb, lt-ltb}
use lib.ListN.{length}
use Rattle.sessions.specs.Table.{is_free, named_of}
use Rattle.sessions.specs.Opening.{live_from, free_from, open_fits, chosen_of, created_of}
use Rattle.sessions.specs.SessionObjects.{used_of, objects_named}
use Rattle.sessions.specs.SessionStreams.{streams_used, streams_named}
use Rattle.sessions.specs.View.{Tables, table_part, session_shown, absent, free_ids}
use Rattle.sessions.proofs.table.Laws.{reach_named}
use Rattle.std.specs.Prelude.{Ok, None, Some}

-- ---- an id that is not live shows no session, and the other way round

pub free_view : (t : Tables) (id : ℕ) → is_free t.sessions id ≡ free_ids t id
free_view t id = by (is_free t.sessions id)
  where
    by : (b : Bool) → b ≡ absent (cond b None (Some (session_shown id (table_part t id))))
    by true = refl
    by false = refl

pub free_ids_lem : (t : Tables) → ◌≡◌ {A = ℕ → Bool} (is_free t.sessions) (free_ids t)
free_ids_lem t = λ i id. free_view t id i

-- so what is counted and what is free is seen in the view
pub live_view : (t : Tables) (i n : ℕ) → live_from (is_free t.sessions) i n ≡ live_from (free_ids t) i n
live_view t i n = ap (λ (free : ℕ → Bool). live_from free i n) (free_ids_lem t)

pub next_view : (t : Tables) (i n : ℕ) → free_from (is_free t.sessions) i n ≡ free_from (free_ids t) i n
next_view t i n = ap (λ (free : ℕ → Bool). free_from free i n) (free_ids_lem t)

-- ---- a table of 256 rows

module _ (sessions : List (List ℕ)) (id : ℕ) (long : 256 ≤ length sessions) where
  pub named_when : named_of sessions id ≡ cond (is_free sessions id) (Ok false) (Ok true)
  unfolding named_of
  named_when = rw (le-leb 256 (length sessions) long) refl

  live_named : is_free sessions id ≡ false → named_of sessions id ≡ (Ok true)
  live_named e = named_when ∙ rw e refl

  -- a live session's objects and streams, in stores as long as they must be
  pub objects_live : (objects : ℕ) → 8192 ≤ objects → used_of sessions id ≤ 32 → is_free sessions id ≡ false → objects_named sessions objects id ≡ (Ok true)
  unfolding objects_named
  objects_live objects s u e = sym (reach_named sessions id (used_of sessions id) 32 objects 8192 s u) ∙ live_named e

  pub streams_live : (streams : ℕ) → 2048 ≤ streams → streams_used sessions id ≤ 8 → is_free sessions id ≡ false → streams_named sessions streams id ≡ (Ok true)
  unfolding streams_named
  streams_live streams s u e = sym (reach_named sessions id (streams_used sessions id) 8 streams 2048 s u) ∙ live_named e

-- ---- a new session, within the limits

pub created_when : (sessions streams : List (List ℕ)) (max next : ℕ) → 256 ≤ length sessions → 2048 ≤ length streams → max ≤ 255 → 0 < next
    → created_of sessions streams max next ≡ chosen_of sessions max next
unfolding created_of open_fits
created_when sessions streams max next a b c d = rw (le-leb 256 (length sessions) a, le-leb 2048 (length streams) b, le-leb max 255 c, lt-ltb 0 next d) refl
