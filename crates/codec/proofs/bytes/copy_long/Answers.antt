-- `codec::bytes::copy_long` meets its contract: the part that is copied over is the write.
use mathlib.Core.Path.{refl, ◌∙◌}
use native.Mathlib.Omega.{arith}
use Rattle.std.proofs.lemmas.Slice.{put_mid-paste}
use Rattle.codec.proofs.bytes.Laws.{put_copied}
use Rattle.codec.proofs.bytes.copy_long.Goals as goal

pub returns : goal.returns
returns c =
    let a = c.args in
    put_mid-paste a.at _ a.out.now _ a.src.now _ c.copy_from_slice.ensures.after (omega arith) refl ∙ put_copied a.out.now a.at a.src.now
