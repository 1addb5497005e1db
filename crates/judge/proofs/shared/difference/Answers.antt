use Rattle.judge.proofs.Sharing.{within_second, within_first, difference_second, difference_first}
use Rattle.judge.proofs.shared.difference.Goals as goal

pub slice_bounds-result-count : goal.slice_bounds-result-count
slice_bounds-result-count c = within_second _ _ _ c.shared-at.ensures

pub slice_bounds-result-start : goal.slice_bounds-result-start
slice_bounds-result-start c = within_second _ _ _ c.shared-at.ensures

pub returns-then-first-second : goal.returns-then-first-second
returns-then-first-second c = difference_second _ _ _ c.shared-at.ensures c.if-first-second.true

pub slice_bounds-result-count-2 : goal.slice_bounds-result-count-2
slice_bounds-result-count-2 c = within_first _ _ _ c.shared-at.ensures

pub slice_bounds-result-start-2 : goal.slice_bounds-result-start-2
slice_bounds-result-start-2 c = within_first _ _ _ c.shared-at.ensures

pub returns : goal.returns
returns c = difference_first _ _ _ c.shared-at.ensures c.if-first-second.false
