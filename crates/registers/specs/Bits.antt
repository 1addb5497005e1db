-- The bits of a word, numbered from 0, the least significant, as the manual numbers them.
use Rattle.std.specs.Prelude.{ℕ, ◌/◌, ◌%◌, ◌^◌, ◌≤◌, ◌≡◌, Bool, not, eqb}
use Rattle.registers.specs.Choose.{pick}

-- Bit k of a value is set.
abbrev pub bit_at : ℕ → ℕ → Bool
bit_at v k = eqb (v / 2 ^ k % 2) 1

-- Two values differ in bit k.
abbrev pub bits_differ : ℕ → ℕ → ℕ → Bool
bits_differ v w k = not (eqb (v / 2 ^ k % 2) (w / 2 ^ k % 2))

-- A flag as a bit of a word: the bit's weight if the flag is set, otherwise 0.
pub record ValueOf (flag : Bool) (weight r : ℕ) : Type 0 where
  pub value : r ≡ pick flag weight 0
  pub most : r ≤ weight
