-- `codec::text::character_len` meets its contract.
use Prim.Native.Nat.{◌+◌}
use mathlib.Core.Path.{sym, ◌∙◌}
use native.Mathlib.Omega.{arith}
use lib.ListN.{get_or, drop, length-drop}
use Rattle.codec.specs.Text.{ranges_of}
use Rattle.codec.proofs.text.Laws.{first_plain, ill_left, many_left}
use Rattle.codec.proofs.text.Fits.{len_here, never_fits, fits_short}
use Rattle.codec.proofs.text.character_len.Goals as goal

pub returns-then-b-lt128 : goal.returns-then-b-lt128
returns-then-b-lt128 c =
    let f = c in
    sym (len_here f.args.text.now f.args.at f.requires ∙ rw (← first_plain (get_or f.args.text.now f.args.at 0) (omega arith)))

pub returns-then-w-ge-ILL_FORMED : goal.returns-then-w-ge-ILL_FORMED
returns-then-w-ge-ILL_FORMED c =
    let f = c in
    let w = c.first-w in
    sym (len_here f.args.text.now f.args.at f.requires ∙ rw (← w.ensures, ill_left w.result (omega arith), never_fits (drop (f.args.at + 1) f.args.text.now)))

pub returns-then-text-at : goal.returns-then-text-at
returns-then-text-at c =
    let f = c in
    let w = c.first-w in
    let many = many_left w.result (omega arith) in
    let few = length-drop (f.args.at + 1) f.args.text.now in
    sym (len_here f.args.text.now f.args.at f.requires ∙ rw (← w.ensures, fits_short (ranges_of w.result) (drop (f.args.at + 1) f.args.text.now) (omega (arith, many, few))))

pub returns-then-fit_behind : goal.returns-then-fit_behind
returns-then-fit_behind c =
    let f = c in
    let w = c.first-w in
    sym (len_here f.args.text.now f.args.at f.requires ∙ rw (← w.ensures, ← c.fit_behind.ensures, c.if-fit_behind.true, many_left w.result (omega arith)) (omega arith))

pub returns : goal.returns
returns c =
    let f = c in
    let w = c.first-w in
    sym (len_here f.args.text.now f.args.at f.requires ∙ rw (← w.ensures, ← c.fit_behind.ensures, c.if-fit_behind.false))
