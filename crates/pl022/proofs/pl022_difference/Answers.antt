use Rattle.pl022.proofs.Answers.{second_room, first_room, second_part, first_part}
use Rattle.pl022.proofs.pl022_difference.Goals as goal

pub overflow_sub-result : goal.overflow_sub-result
overflow_sub-result c = second_room _ _ _ c.difference-part.ensures c.if-first-second.true

pub returns-then-first-second : goal.returns-then-first-second
returns-then-first-second c = second_part _ _ _ c.difference-part.ensures c.if-first-second.true

pub overflow_sub-result-2 : goal.overflow_sub-result-2
overflow_sub-result-2 c = first_room _ _ _ c.difference-part.ensures c.if-first-second.false

pub returns : goal.returns
returns c = first_part _ _ _ c.difference-part.ensures c.if-first-second.false
