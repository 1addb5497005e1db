use borrow.Author.Rules.{rules}
use native.Mathlib.Omega.{arith}
use Rattle.queue.proofs.Contents.{restored_from}
use Rattle.queue.proofs.Queue.restored.Goals as goal

pub returns : goal.returns
returns c =
    restored_from _ _ _ (search rules) c.loop-place.invariant.1 (λ i h p. c.loop-place.invariant.2 i h (omega (arith, c.loop-place-test.false)))
