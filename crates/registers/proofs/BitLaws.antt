-- The laws of picked bits.
use Prim.Native.Nat.{ℕ, ◌/◌, ◌%◌, ◌^◌, ◌≤◌, ◌<◌}
use mathlib.Core.Path.{◌≡◌, refl, sym, ap, ◌∙◌}
use mathlib.Core.Bool.{Bool, true, false, not, beq}
use native.Mathlib.Omega.{arith}
use native.Mathlib.Nat.{div-eq_of_lt, lt_of_lt_of_le, mod-lt, zero-lt-suc}
use lib.Dec.{eqb}
use lib.Pow.{pow_mono}
use borrow.Author.Tests.{eq-eqb, ne_eqb, eqb-true, eqb-false}
use Rattle.registers.specs.Bits.{bit_at, bits_differ}

-- a word of 32 bits has no bit 32 or above
pub bit_past : (w p : ℕ) → w < 2 ^ 32 → 32 ≤ p → false ≡ eqb (w / 2 ^ p % 2) 1
bit_past w p h q = rw (div-eq_of_lt {n = w} {m = 2 ^ p} (lt_of_lt_of_le h (pow_mono q)))

-- two numbers below 2 are equal where both are 1 or neither is
same_bit : (a b : ℕ) → a < 2 → b < 2 → beq (eqb a 1) (eqb b 1) ≡ eqb a b
same_bit a b p q = go (eqb a 1) (eqb b 1) refl refl
  where
    go : (t u : Bool) → eqb a 1 ≡ t → eqb b 1 ≡ u → beq t u ≡ eqb a b
    go true true e f = sym (eq-eqb a b (eqb-true a 1 e ∙ sym (eqb-true b 1 f)))
    go true false e f = sym (ne_eqb a b (let x = eqb-true a 1 e in let y = eqb-false b 1 f in omega arith))
    go false true e f = sym (ne_eqb a b (let x = eqb-false a 1 e in let y = eqb-true b 1 f in omega arith))
    go false false e f = sym (eq-eqb a b (let x = eqb-false a 1 e in let y = eqb-false b 1 f in omega arith))

-- two values differ in bit k where the bits picked of them do
pub bits_differ_lem : (v w k : ℕ) → not (beq (bit_at v k) (bit_at w k)) ≡ bits_differ v w k
bits_differ_lem v w k = ap not (same_bit (v / 2 ^ k % 2) (w / 2 ^ k % 2) (mod-lt (v / 2 ^ k) (zero-lt-suc 1)) (mod-lt (w / 2 ^ k) (zero-lt-suc 1)))
