use Rattle.serial.specs.Cycle.{device_of}
use Rattle.device_record.specs.Run.{stops_on}
use Rattle.device_record.proofs.Runs.{Running}
use Rattle.device_record.proofs.run.run_until.Given as goal

abbrev pub invariant-loop-i : goal.invariant-loop-i
invariant-loop-i l = Running (stops_on l.stop) (device_of l.initial.device) l.input l.initial.output l.output (device_of l.device) l.lost l.i
