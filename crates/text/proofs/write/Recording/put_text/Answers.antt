use Rattle.text.proofs.Writing.{write_ready, lead_ready, lines_ready, text_put}
use Rattle.text.proofs.write.Recording.put_text.Goals as goal

pub put_lead-start-requires : goal.put_lead-start-requires
put_lead-start-requires c = lead_ready _ _ _ (write_ready _ _ _ c.requires) _ c.line_end.ensures

pub put_lines-requires : goal.put_lines-requires
put_lines-requires c = lines_ready _ _ _ (write_ready _ _ _ c.requires) _ c.line_end.ensures _ _ c.put_lead-start.ensures

pub returns : goal.returns
returns c = text_put _ _ _ (write_ready _ _ _ c.requires) _ c.line_end.ensures _ _ _ _ c.put_lead-start.ensures c.put_lines.ensures
