-- `codec::text::is_text` meets its contract. The invariant: what is left is as well-formed as the whole.
use Prim.Native.Nat.{◌+◌, ◌≤◌, ◌<◌}
use mathlib.Core.Path.{refl, sym, ◌∙◌}
use native.Mathlib.Omega.{arith}
use lib.ListN.{length, drop, length-drop, drop_of_length-le}
use Rattle.codec.specs.Text.{well_formed}
use Rattle.codec.proofs.text.Fits.{len_within, well_stops, well_goes_on}
use Rattle.codec.proofs.text.is_text.Goals.{After-character_len-n}
use Rattle.codec.proofs.text.is_text.Goals as goal

pub loop-at-init : goal.loop-at-init
unfolding well_formed
loop-at-init c = refl

pub character_len-n-requires : goal.character_len-n-requires
character_len-n-requires c = omega arith

-- the bytes from here on, of which one is there
more : (c : After-character_len-n) → c.loop-at.at < length c.args.text.now
more c = omega arith

-- the character ends within them
within : (c : After-character_len-n) → c.loop-at.at + c.character_len-n.result ≤ length c.args.text.now
within c =
    let text = c.args.text.now in
    let at = c.loop-at.at in
    omega (arith, c.character_len-n.ensures, len_within (drop at text), length-drop at text, more c)

pub returns-then-n-eq0 : goal.returns-then-n-eq0
returns-then-n-eq0 c = sym (well_stops c.args.text.now _ _ (more (goal.at.returns-then-n-eq0 c).After-character_len-n) c.character_len-n.ensures c.if-n-eq0.true) ∙ c.loop-at.invariant

pub overflow_add-at : goal.overflow_add-at
overflow_add-at c = omega (arith, within (goal.at.overflow_add-at c).After-character_len-n)

pub loop-at-smaller : goal.loop-at-smaller
loop-at-smaller c = omega (arith, within (goal.at.loop-at-smaller c).After-character_len-n, c.if-n-eq0.false)

pub loop-at-preserved : goal.loop-at-preserved
loop-at-preserved c = sym (well_goes_on c.args.text.now _ _ (more (goal.at.loop-at-preserved c).After-character_len-n) c.character_len-n.ensures c.if-n-eq0.false) ∙ c.loop-at.invariant

pub returns : goal.returns
returns c = sym (rw (drop_of_length-le c.args.text.now {i = c.loop-at.at} (omega arith))) ∙ c.loop-at.invariant
