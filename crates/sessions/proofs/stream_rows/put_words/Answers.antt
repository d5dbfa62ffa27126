-- `sessions::stream_rows::put_words` meets its contract.
use Rattle.std.proofs.Common.{◌≡◌, ◌∙◌, sym, ap, arith, add-one}
use lib.ListN.{length}
use lib.Seq.{paste-suc}
use Rattle.codec.proofs.bytes.Laws.{put_copied}
use Rattle.std.proofs.lemmas.List.{take_all}
use Rattle.codec.specs.Bytes.{put_at}
use Rattle.streams.specs.Acknowledged.{sixteen}
use Rattle.sessions.specs.Streams.{number_at}
use Rattle.sessions.proofs.stream_rows.Laws.{part_listed}
use Rattle.sessions.proofs.stream_rows.put_words.Goals as goal

pub loop-i-preserved : goal.loop-i-preserved
loop-i-preserved c = let a = c.args in
    let l = c.loop-i in
    rw (l.invariant, add-one l.i) (paste-suc a.out.now a.at a.words.now l.i 0 (omega arith) (omega arith))

pub returns : goal.returns
unfolding sixteen
returns c = let a = c.args in
    let l = c.loop-i in
    let e : l.i ≡ length a.words.now = omega (arith, c.told-words) in
    let all : a.words.now ≡ sixteen (number_at a.words.now) = sym (take_all 16 a.words.now (omega (arith, c.told-words))) ∙ part_listed a.words.now 16 0 (omega (arith, c.told-words)) in
    l.invariant ∙ rw e (put_copied a.out.now a.at a.words.now) ∙ ap (put_at a.out.now a.at) all
