use mathlib.Core.Path.{refl, ◌∙◌}
use Rattle.serial.proofs.Status.{busy_word, busy_never_refused}
use Rattle.device_record.proofs.run.busy_device.Goals as goal

pub returns-in_default : goal.returns-in_default
returns-in_default c = absurd (busy_never_refused _ _ c.in_default.ensures.answer _ refl)

pub returns : goal.returns
returns c = c.bit_at.ensures ∙ busy_word _ _ c.in-Ok.ensures.answer _ refl
