use Rattle.text.proofs.Writing.{Lined}
use Rattle.text.proofs.write.Recording.put_lines.Given as goal

abbrev pub invariant-loop-k : goal.invariant-loop-k
invariant-loop-k l = Lined l.self.cycles.now l.self.places.now l.initial.text l.start l.text l.at l.k
