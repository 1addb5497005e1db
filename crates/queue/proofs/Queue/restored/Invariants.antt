use Rattle.std.proofs.Common.{◌≡◌, ◌≤◌, ◌<◌, ℕ, length, take, get_or}
use Rattle.queue.proofs.Queue.restored.Given as goal

-- The used places stay; the others are zero as far as the loop has come.
abbrev pub invariant-loop-place : goal.invariant-loop-place
invariant-loop-place l =
    (length l.word-items ≡ 8)
    × (take l.count l.word-items ≡ take l.count l.fn.words)
    × ((i : ℕ) → l.count ≤ i → i < l.place → get_or l.word-items i 0 ≡ 0)
