use Rattle.std.specs.Slice.Iter.{chunks_rest, chunks_size}
use Rattle.judge.proofs.Following.{Slots}
use Rattle.judge.proofs.judge.follow.Given as goal

abbrev pub invariant-loop-slot : goal.invariant-loop-slot
invariant-loop-slot l = record {
  can : goal.iterator-loop-slot.can_next l.slot-iterator;
  finite : goal.iterator-loop-slot.is_finite l.slot-iterator;
  slots : Slots l.t l.h l.recording l.found l.p l.leading (chunks_size l.slot-iterator) (chunks_rest l.slot-iterator);
}
