-- `codec::header::put_head` meets its contract: two stores and a number behind them are one write.
use mathlib.Core.Path.{◌∙◌}
use mathlib.Core.List.{[], ◌∷◌}
use native.Mathlib.Numerals.{add-one}
use native.Mathlib.Omega.{arith}
use lib.ListN.{length-set}
use Rattle.codec.specs.Bytes.{le16}
use Rattle.codec.proofs.bytes.Laws.{put_sets, put_behind}
use Rattle.codec.proofs.header.put_head.Goals as goal

pub bounds-out-at-2 : goal.bounds-out-at-2
bounds-out-at-2 c = simp length-set (omega arith)

pub put_word-requires : goal.put_word-requires
put_word-requires c = simp length-set (omega arith)

pub shape_of-out : goal.shape_of-out
shape_of-out c = c.put_word.auto.out ∙ simp length-set

pub returns : goal.returns
unfolding le16
returns c =
    let a = c.args in
    let two = a.a ∷ a.b ∷ [] in
    c.put_word.ensures
    ∙ rw (add-one a.at, put_sets a.out.now a.at two (omega arith))
    (put_behind a.out.now a.at two (le16 a.n) (omega arith))
