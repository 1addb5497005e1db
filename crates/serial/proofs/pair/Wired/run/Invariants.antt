use Rattle.serial.specs.Pair.{pair_of}
use Rattle.serial.proofs.PairRuns.{Pairing}
use Rattle.serial.proofs.pair.Wired.run.Given as goal

-- After each cycle: the pair, and the words that each device lost so far.
abbrev pub invariant-loop : goal.invariant-loop
invariant-loop l = Pairing (pair_of l.initial.self) (pair_of l.self) l.first l.second l.counter
