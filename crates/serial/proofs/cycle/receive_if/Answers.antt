use mathlib.Core.Path.{refl}
use Rattle.serial.specs.Cycle.{receive_if}
use Rattle.serial.proofs.cycle.receive_if.Goals as goal

pub returns-in-Some : goal.returns-in-Some
unfolding receive_if
returns-in-Some c = rw c.in-Some.is (record { registers = c.receive_word.ensures.registers; lost = c.receive_word.ensures.lost })

pub returns-in-None : goal.returns-in-None
unfolding receive_if
returns-in-None c = rw c.in-None.is (record { registers = refl; lost = refl })
