-- A bound on a product.
use Prim.Native.Nat.{ℕ, ◌+◌, ◌*◌, ◌/◌, ◌%◌, ◌≤◌, ◌<◌}
use native.Mathlib.Nat.{mul-le-mul}
use native.Mathlib.Omega.{arith}

-- (CPSR / 2) × (1 + SCR) is at most 127 × 256
pub divisor_most : (cpsr cr0 : ℕ) → cpsr < 256 → (cpsr / 2) * (1 + cr0 / 256 % 256) ≤ 32512
divisor_most cpsr cr0 h = mul-le-mul {n₂ = 127} {m₂ = 256} (omega arith) (omega arith)
