-- Facts on numbers that fit their type.
use Prim.Native.Nat.{ℕ, ◌%◌, ◌^◌, ◌≤◌, ◌<◌}
use mathlib.Core.Path.{◌≡◌, sym}
use native.Mathlib.Nat.{mod-eq_of_lt, lt_of_lt_of_le}
use lib.Pow.{pow_mono}

-- a word of 16 bits has none to cut
pub cut_none : (w b : ℕ) → w < 2 ^ 16 → 16 ≤ b → w ≡ w % 2 ^ b
cut_none w b h q = sym (mod-eq_of_lt (lt_of_lt_of_le h (pow_mono q)))
