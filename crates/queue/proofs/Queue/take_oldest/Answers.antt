use mathlib.Core.Path.{◌≡◌}
use lib.ListN.{length}
use Rattle.std.proofs.Common.{rules}
use Rattle.queue.proofs.Contents.{taken_some, shifted}
use Rattle.queue.proofs.Queue.take_oldest.Goals as goal

pub returns : goal.returns
returns c =
    let long : length c.args.self.now.words ≡ 8 = search rules in
    taken_some _ _ _ (search rules) c.count-n.ensures.count c.if-n-eq0.false (shifted c.args.self.now.words c.copy_within.new.self (search rules) (cc (long, c.copy_within.ensures.after)))
