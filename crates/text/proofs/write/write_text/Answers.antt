use Rattle.std.proofs.Common.{refl}
use Rattle.text.proofs.Writing.{write_gives, write_keeps}
use Rattle.text.proofs.Numbers.{refused_number, handed_on}
use Rattle.text.proofs.write.write_text.Goals as goal

pub returns-in_err-write_refusal : goal.returns-in_err-write_refusal
returns-in_err-write_refusal c =
    rw (handed_on _ _ c.from_residual.ensures.1) (write_keeps _ _ _ _ c.in_err-write_refusal.ensures (refused_number _))

pub returns : goal.returns
returns c = write_gives _ _ _ _ c.in_ok-write_refusal.ensures refl _ _ c.put_text.ensures
