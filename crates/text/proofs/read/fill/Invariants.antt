use Rattle.std.specs.Iterator.Adapters.{enumerate_source, enumerate_count}
use Rattle.std.specs.Slice.Iter.{split_inclusive_rest}
use Rattle.text.proofs.Reading.{Filling}
use Rattle.text.proofs.read.fill.Given as goal

abbrev pub invariant-loop-m : goal.invariant-loop-m
invariant-loop-m l = Filling l.text l.initial.cycles l.initial.starts l.cycles l.starts l.n (enumerate_count l.m-iterator) (split_inclusive_rest (enumerate_source l.m-iterator))
