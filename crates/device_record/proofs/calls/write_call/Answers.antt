use mathlib.Core.Path.{refl}
use Rattle.registers.proofs.Numbers.{number_given}
use Rattle.device_record.proofs.Answers.{handed_on, write_unserved, write_done_lem, write_refused}
use Rattle.device_record.proofs.calls.write_call.Goals as goal

pub returns-in_err-device : goal.returns-in_err-device
returns-in_err-device c = rw (handed_on _ _ c.from_residual.ensures.1) (write_unserved _ _ _ _ c.in_err-device.ensures)

pub returns-in_err-write : goal.returns-in_err-write
returns-in_err-write c = rw (handed_on _ _ c.from_residual-in_err-write.ensures.1) (write_refused _ _ _ c.in_ok-device.ensures.0 _ _ _ c.in_ok-device.ensures.1 c.in_err-write.ensures (number_given _))

pub returns : goal.returns
returns c = write_done_lem _ _ _ c.in_ok-device.ensures.0 _ _ _ c.in_ok-device.ensures.1 c.in_ok-write.ensures _ refl c.encode.ensures
