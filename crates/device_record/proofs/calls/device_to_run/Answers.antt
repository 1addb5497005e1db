use mathlib.Core.Path.{sym}
use Rattle.device_record.proofs.Answers.{handed_on, short_run, run_lines, run_input, run_record}
use Rattle.device_record.proofs.calls.device_to_run.Goals as goal

pub returns-in_err-check_length : goal.returns-in_err-check_length
returns-in_err-check_length c = rw (handed_on _ _ c.from_residual.ensures.1, c.in_err-check_length.ensures.0) (short_run _ c.in_err-check_length.ensures.1 _ _)

pub returns-then-input-output : goal.returns-then-input-output
returns-then-input-output c = run_lines _ _ _ c.in_ok-check_length.ensures c.if-input-output.true

pub returns-then-not-inputs_fit : goal.returns-then-not-inputs_fit
returns-then-not-inputs_fit c = run_input _ _ _ c.in_ok-check_length.ensures c.if-input-output.false (sym c.if-not-inputs_fit.ensures)

pub returns : goal.returns
returns c = rw (← run_record _ _ _ c.in_ok-check_length.ensures c.if-input-output.false (sym c.if-not-inputs_fit.ensures)) c.device_in.ensures
