use Rattle.std.proofs.Common.{◌≡◌, ◌<◌, ℕ, length, get_or}
use Rattle.queue.specs.Fifo.{contents, word_at}
use Rattle.registers.proofs.fields.places.Given as goal

-- The places that are written so far.
abbrev pub invariant-loop-place : goal.invariant-loop-place
invariant-loop-place l =
    (length l.word-items ≡ 8)
    × ((i : ℕ) → i < l.place → get_or l.word-items i 0 ≡ word_at (contents l.q) i)
