-- Text in a lent output that may be too short for it: where it ends, and what it leaves there.
use Rattle.std.specs.Prelude.{ℕ, ◌+◌, ◌-◌, min, ◌≡◌, Bool, cond, List, length}
use Rattle.listing.specs.declared.text.Page.{Page}
use Rattle.std.proofs.lemmas.List.Edits.{sets}

-- where a text of `n` bytes that is put at `at` ends: behind it, but no further than `edge`
unfoldable pub reach : ℕ → ℕ → ℕ → ℕ
reach edge at n = at + min n (edge - at)

-- what a call that puts `text` at `at` comes to: where the text ends, at most one place past the output; and the output, in which each
-- byte that has a place stands at it. Where it doesn't write, the output is as it was.
pub record Put (write : Bool) (out : List ℕ) (at : ℕ) (text : List ℕ) (r : ℕ) (out' : List ℕ) : Type 0 where
  pub end : r ≡ reach (length out + 1) at (length text)
  pub bytes : out' ≡ cond write (sets out at text) out

-- what a call that adds `text` to a page comes to: the text is put behind what is there, in the same output, and
-- written or only measured as before
pub record Adds (p : Page) (text : List ℕ) (q : Page) : Type 0 where
  pub put : Put p.write p.out.now p.at text q.at q.out.now
  pub write : q.write ≡ p.write
  pub out : q.out.ghost_name ≡ p.out.ghost_name
