-- Lengths in cycles, lengths in slots and h are three types, so that none is taken for another. A slot is h cycles.
use Rattle.std.specs.Prelude.{ℕ, ◌*◌}
use Rattle.registers.specs.declared.time.Cycles.{Cycles}
use Rattle.registers.specs.declared.time.Divisor.{Divisor}
use Rattle.registers.specs.declared.time.Slots.{Slots}

-- A number of cycles.
abbrev pub cycles : ℕ → Cycles
cycles n = record { 0 = n }

-- A number of slots.
abbrev pub slots : ℕ → Slots
slots n = record { 0 = n }

-- h: the number of cycles in a slot.
abbrev pub divisor : ℕ → Divisor
divisor n = record { 0 = n }

-- The cycles of a number of slots. No other conversion exists.
unfoldable pub cycles_of : Slots → Divisor → Cycles
cycles_of s h = cycles (s.0 * h.0)
