-- Bits on the wire: most significant first.
use Rattle.std.specs.Prelude.{ℕ, ◌+◌, ◌-◌, ◌*◌, ◌%◌, ◌^◌, Bool}
use Rattle.registers.specs.Choose.{pick}
use Rattle.registers.specs.Bits.{bit_at}

-- Bit i of a word of `width` bits, counted from the most significant.
unfoldable pub bit_of : ℕ → ℕ → ℕ → Bool
bit_of width w i = bit_at w (width - 1 - i)

-- A word cut to its low b bits.
abbrev pub cut : ℕ → ℕ → ℕ
cut b w = w % 2 ^ b

-- A bit is shifted in at the low end of a word; 16 bits are kept.
unfoldable pub shifted_in : ℕ → Bool → ℕ
shifted_in w bit = (2 * w + pick bit 1 0) % 0x10000
