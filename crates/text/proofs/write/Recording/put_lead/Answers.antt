use Rattle.text.proofs.Writing.{lead_put, lead_none}
use Rattle.text.proofs.write.Recording.put_lead.Goals as goal

pub returns-then-end-gt0 : goal.returns-then-end-gt0
returns-then-end-gt0 c = lead_put _ _ _ c.if-end-gt0.true _ _ c.put_line.ensures

pub returns-else-end-gt0 : goal.returns-else-end-gt0
returns-else-end-gt0 c = lead_none _ _ _ c.if-end-gt0.false
