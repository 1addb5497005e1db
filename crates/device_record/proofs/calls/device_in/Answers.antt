use Rattle.device_record.proofs.Answers.{handed_on, short_record, sound_or_not}
use Rattle.device_record.proofs.calls.device_in.Goals as goal

pub returns-in_err-check_length : goal.returns-in_err-check_length
returns-in_err-check_length c = rw (handed_on _ _ c.from_residual.ensures.1, c.in_err-check_length.ensures.0) (short_record _ c.in_err-check_length.ensures.1)

pub returns : goal.returns
returns c = rw c.ok_or.ensures.value (sound_or_not _ c.in_ok-check_length.ensures _ c.decode_sound.ensures.sound c.decode_sound.ensures.device)
