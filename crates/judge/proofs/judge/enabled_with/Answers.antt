use Rattle.serial.specs.Preloaded.{enabled_with}
use Rattle.judge.proofs.judge.enabled_with.Goals as goal

pub returns : goal.returns
unfolding enabled_with
returns c = rw (c.write-3.ensures.device, c.write-2.ensures.device, c.write.ensures.device, c.reset-device.ensures)
