-- `codec::failures::check_room` meets its contract: each rule's refusal.
use native.Mathlib.Omega.{arith}
use Rattle.codec.proofs.reading.Laws.{payload_cut, payload_unlisted, payload_under}
use Rattle.codec.proofs.failures.check_room.Goals as goal

pub returns-then-s-p-clause-refused : goal.returns-then-s-p-clause-refused
returns-then-s-p-clause-refused c = payload_cut _ _ _ _ (omega arith)

pub returns-then-least-clause-refused : goal.returns-then-least-clause-refused
returns-then-least-clause-refused c = payload_unlisted _ _ _ _ (omega arith) (rw c.least_len-least.ensures at c.if-least.true)

pub returns-then-len-least-clause-refused : goal.returns-then-len-least-clause-refused
returns-then-len-least-clause-refused c = payload_under _ _ _ _ (omega arith) (rw c.least_len-least.ensures at c.if-least.false) (rw c.least_len-least.ensures at c.if-len-least.true)
