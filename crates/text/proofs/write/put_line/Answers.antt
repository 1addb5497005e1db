use Rattle.text.proofs.Writing.{feed_room, line_done}
use Rattle.std.proofs.Common.{arith}
use Rattle.text.specs.Text.{digit_of}
use Rattle.text.proofs.write.put_line.Goals as goal

pub bounds-text-end : goal.bounds-text-end
bounds-text-end c = feed_room _ _ _ c.requires _ _ (c.put_mapped-end.ensures digit_of (λ x y h e. e))

pub overflow_add-result : goal.overflow_add-result
overflow_add-result c = let r = feed_room _ _ _ c.requires _ _ (c.put_mapped-end.ensures digit_of (λ x y h e. e)) in omega arith

pub returns : goal.returns
returns c = line_done _ _ _ c.requires _ _ (c.put_mapped-end.ensures digit_of (λ x y h e. e))
