use Rattle.queue.proofs.Contents.{added_full, added_room}
use borrow.Author.Rules.{rules}
use Rattle.queue.proofs.Queue.add.Goals as goal

pub returns-then-n-ge-PLACES : goal.returns-then-n-ge-PLACES
returns-then-n-ge-PLACES c = added_full _ _ (search rules) c.if-n-ge-PLACES.true

pub returns : goal.returns
returns c = added_room _ _ (search rules) c.if-n-ge-PLACES.false
