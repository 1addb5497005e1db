use Rattle.std.proofs.Common.{refl}
use Rattle.text.proofs.Writing.{write_refused, write_short, write_done_lem}
use Rattle.text.proofs.Numbers.{refused_number, handed_on}
use Rattle.text.proofs.write.Recording.write_refusal.Goals as goal

pub returns-in_err-recording_refusal : goal.returns-in_err-recording_refusal
returns-in_err-recording_refusal c =
    rw (handed_on _ _ c.from_residual.ensures.1) (write_refused _ _ _ _ c.in_err-recording_refusal.ensures (refused_number _))

pub returns-then-text-self : goal.returns-then-text-self
returns-then-text-self c = write_short _ _ _ _ c.in_ok-recording_refusal.ensures refl _ c.line_end.ensures c.if-text-self.true

pub returns : goal.returns
returns c = write_done_lem _ _ _ _ c.in_ok-recording_refusal.ensures refl _ c.line_end.ensures c.if-text-self.false
