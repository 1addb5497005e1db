use Rattle.std.proofs.Common.{length}
use Rattle.text.proofs.Reading.{Checking}
use Rattle.text.proofs.read.check.Given as goal

abbrev pub invariant-loop-rest : goal.invariant-loop-rest
invariant-loop-rest l = Checking l.text l.cycles l.starts l.rest

abbrev pub decreases-loop-rest : goal.decreases-loop-rest
decreases-loop-rest l = length l.rest
