-- `listing::text::Page::byte` meets its contract.
use Rattle.std.proofs.Common.{arith, refl}
use Rattle.listing.proofs.text.Laws.{put_past, put_over, put_measured, put_placed}
use Rattle.listing.proofs.text.Page.byte.Goals.{then-self-2+then-self-3, else-self-2, else-self-2-via-then-self-2+else-self-3, else-self-2-via-else-self-2}
use Rattle.listing.proofs.text.Page.byte.Goals as goal

pub returns-after-self-2 : goal.returns-after-self-2
returns-after-self-2 c =
    elim c.if-self-2.branch [
      | then-self-2+then-self-3 w ↦ rw w.self-is (record { put = put_placed _ _ _ _ w.if-self-2.true w.if-self-3.true; write = refl; out = refl })
      | else-self-2 w ↦
          rw w.self-is
          (record {
            put = elim w.else-self-2.branch [
              | else-self-2-via-then-self-2+else-self-3 v ↦ put_over _ _ _ _ (omega arith)
              | else-self-2-via-else-self-2 v ↦ put_measured _ _ _ _ v.if-self-2.false c.if-self.true
            ];
            write = refl;
            out = refl;
          })
    ]

pub returns-else-self : goal.returns-else-self
returns-else-self c = record { put = put_past _ _ _ _ c.if-self.false; write = refl; out = refl }
