use mathlib.Core.Path.{◌∙◌}
use Rattle.serial.specs.Cycle.{cycle_of, device_of, device_step}
use Rattle.serial.proofs.Losses.{lost_step}
use Rattle.serial.proofs.Device.cycle.Goals as goal

pub returns : goal.returns
unfolding device_of cycle_of device_step
returns c =
    record {
      device = rw (c.follow-self.ensures, c.end_cycle.ensures, c.receive_if-lost.ensures.registers, c.take_if.ensures, c.end_of-after.ensures, c.lines_of-self.ensures, c.step_of-step.ensures, c.next_word-next.ensures, c.waiting-waiting.ensures, c.settings-s.ensures);
      lost = c.receive_if-lost.ensures.lost ∙ rw (c.take_if.ensures, c.step_of-step.ensures, c.next_word-next.ensures, c.waiting-waiting.ensures, c.settings-s.ensures) (lost_step _ _);
    }
