-- Reset: SR 0x03 and RIS 0x8, in both editions.
use mathlib.Core.Path.{◌≡◌, refl}
use mathlib.Core.Bool.{Bool, false}
use Rattle.registers.specs.Model.{reset_registers}
use Rattle.registers.specs.Flags.{busy_of, status_of, raw_of, interrupt_word}

pub status_reset : (edition2 : Bool) → status_of (reset_registers edition2) false ≡ 0x03
unfolding status_of busy_of
status_reset edition2 = refl

pub raw_reset : (edition2 : Bool) → interrupt_word (raw_of (reset_registers edition2)) ≡ 0x8
unfolding interrupt_word raw_of
raw_reset edition2 = refl
