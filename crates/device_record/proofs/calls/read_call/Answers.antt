use mathlib.Core.Path.{refl}
use Rattle.device_record.proofs.Answers.{handed_on, read_unserved, read_done_lem, read_refused}
use Rattle.device_record.proofs.calls.read_call.Goals as goal

pub returns-in_err-device : goal.returns-in_err-device
returns-in_err-device c = rw (handed_on _ _ c.from_residual.ensures.1) (read_unserved _ _ _ c.in_err-device.ensures)

pub returns-in_err-word : goal.returns-in_err-word
returns-in_err-word c = rw (handed_on _ _ c.from_residual-in_err-word.ensures.1) (read_refused _ _ c.in_ok-device.ensures.0 _ _ _ c.in_ok-device.ensures.1 c.in_err-word.ensures _ refl)

pub returns : goal.returns
returns c = read_done_lem _ _ c.in_ok-device.ensures.0 _ _ _ c.in_ok-device.ensures.1 c.in_ok-word.ensures _ _ refl c.encode.ensures
