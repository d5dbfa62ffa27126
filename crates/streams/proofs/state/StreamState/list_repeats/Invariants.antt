-- `StreamState::list_repeats` meets its contract. The invariant: what is listed, and what the bits left will add, is the whole list.
use Rattle.streams.proofs.acknowledged.Laws.{Listed}
use Rattle.streams.proofs.state.StreamState.list_repeats.Given as goal

abbrev pub invariant-loop-bit : goal.invariant-loop-bit
invariant-loop-bit l = Listed l.self l.first_unacked_seq l.nack_bitmap l.repeats l.count l.bit
