use native.Mathlib.Omega.{arith}
use Rattle.serial.proofs.PairRuns.{pairing_turn}
use Rattle.serial.proofs.pair.Wired.run.Goals as goal

pub loop-preserved : goal.loop-preserved
loop-preserved c =
    let k = c.ranges.cycles.fits in
    let h = c.loop-test.true in
    pairing_turn _ _ _ _ _ _ _ _ _ _ _ _ c.loop.invariant (omega arith) c.wire-to_first.ensures c.wire-to_second.ensures c.cycle.ensures c.cycle-in-loop.ensures c.note.ensures c.note-in-loop.ensures
