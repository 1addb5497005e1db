use Rattle.device_record.proofs.Answers.{handed_on, reset_short, reset_no_edition, reset_done}
use Rattle.device_record.proofs.calls.reset_call.Goals as goal

pub returns-in_err-check_length : goal.returns-in_err-check_length
returns-in_err-check_length c = rw (handed_on _ _ c.from_residual.ensures.1, c.in_err-check_length.ensures.0) (reset_short _ _ c.in_err-check_length.ensures.1)

pub returns-in_err-try_from : goal.returns-in_err-try_from
returns-in_err-try_from c = rw (handed_on _ _ c.from_residual-in_err-try_from.ensures.1) (reset_no_edition _ _ c.in_ok-check_length.ensures _ c.in_err-try_from.ensures)

pub returns : goal.returns
returns c = reset_done _ _ c.in_ok-check_length.ensures _ _ _ c.in_ok-try_from.ensures (rw c.eq-second.ensures at c.reset.ensures) c.encode.ensures
