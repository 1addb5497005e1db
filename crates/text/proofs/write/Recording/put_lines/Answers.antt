use Rattle.text.proofs.Writing.{lines_within, lines_room, lines_turn, lines_end}
use native.Mathlib.Omega.{arith}
use Rattle.text.proofs.write.Recording.put_lines.Goals as goal

pub slice_bounds-put_line-count : goal.slice_bounds-put_line-count
slice_bounds-put_line-count c = let w = lines_within _ _ _ _ _ _ _ c.loop-k.invariant c.loop-k-test.true in omega (arith, w.line, c.line_end-end.ensures)

pub slice_bounds-put_line-start : goal.slice_bounds-put_line-start
slice_bounds-put_line-start c = let w = lines_within _ _ _ _ _ _ _ c.loop-k.invariant c.loop-k-test.true in omega (arith, w.line, w.end, c.line_end-end.ensures)

pub slice_bounds-put_line-end : goal.slice_bounds-put_line-end
slice_bounds-put_line-end c = let w = lines_within _ _ _ _ _ _ _ c.loop-k.invariant c.loop-k-test.true in omega (arith, w.end, c.line_end-end.ensures)

pub put_line-at-requires : goal.put_line-at-requires
put_line-at-requires c = lines_room _ _ _ _ _ _ _ c.loop-k.invariant c.loop-k-test.true _ c.line_end-end.ensures

pub loop-k-preserved : goal.loop-k-preserved
loop-k-preserved c = lines_turn _ _ _ _ _ _ _ c.loop-k.invariant c.loop-k-test.true _ _ _ c.line_end-end.ensures c.put_line-at.ensures

pub returns : goal.returns
returns c = lines_end _ _ _ _ _ _ _ c.loop-k.invariant c.loop-k-test.false
