use Rattle.std.proofs.Common.{ℕ, map}
use Rattle.text.specs.Text.{Computes}
use Rattle.text.proofs.Buffers.{Putting}
use Rattle.text.proofs.put.put_mapped.Given as goal

abbrev pub invariant-loop-i : goal.invariant-loop-i
invariant-loop-i g l = (f : ℕ → ℕ) → Computes (λ x y. g.F.Fn.post l.of (x, tt {0}) y) f → Putting l.initial.buffer l.at (map f l.bytes) l.buffer l.i
