use Rattle.device_record.proofs.Answers.{handed_on, run-done, run_unserved}
use Rattle.device_record.proofs.calls.run_call.Goals as goal

pub returns-in_err-device : goal.returns-in_err-device
returns-in_err-device c = rw (handed_on _ _ c.from_residual.ensures.1) (run_unserved _ _ _ _ _ c.in_err-device.ensures)

pub returns : goal.returns
returns c = run-done _ _ _ _ c.in_ok-device.ensures.0 _ _ _ c.in_ok-device.ensures.1 _ _ c.encode.ensures c.run_until-ran.ensures
