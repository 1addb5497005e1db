-- What CR0, CR1 and CPSR mean.
use Rattle.std.specs.Prelude.{ℕ, ◌+◌, ◌*◌, ◌/◌, ◌%◌, ◌≤◌, ◌≡◌, Bool, ◌&&◌, ltb, leb, eqb}
use Rattle.registers.specs.Choose.{pick}
use Rattle.registers.specs.Bits.{bit_at}
use Rattle.registers.specs.Time.{divisor}
use Rattle.registers.specs.Model.{Model}
use Rattle.registers.specs.declared.time.Divisor.{Divisor}
use Rattle.registers.specs.declared.Control.{Control}
use Rattle.registers.specs.declared.settings.Format.{Format}
use Rattle.registers.specs.declared.settings.Format.TheVariants.{Motorola, Ti, Microwire, Reserved}
use Rattle.registers.specs.declared.settings.Settings.{Settings}

-- FRF, CR0's bits 5:4: 0 Motorola, 1 TI, 2 Microwire, 3 reserved.
unfoldable pub format_of : ℕ → Format
format_of cr0 =
    pick (eqb (cr0 / 16 % 4) 0) Motorola
    (pick (eqb (cr0 / 16 % 4) 1) Ti
    (pick (eqb (cr0 / 16 % 4) 2) Microwire
    Reserved))

-- A permitted CR0: FRF below 3 and DSS, its bits 3:0, at least 3.
unfoldable pub permitted_of : ℕ → Bool
permitted_of cr0 = ltb (cr0 / 16 % 4) 3 && leb 3 (cr0 % 16)

-- b, the bits of a word: DSS + 1.
unfoldable pub bits_of : ℕ → ℕ
bits_of cr0 = cr0 % 16 + 1

-- h, the cycles of a slot: (CPSR / 2) × (1 + SCR), SCR being CR0's bits 15:8.
unfoldable pub divisor_of : Control → Divisor
divisor_of c = divisor ((c.cpsr / 2) * (1 + c.cr0 / 256 % 256))

-- h is at most 127 × 256.
pub record DivisorOf (c : Control) (r : Divisor) : Type 0 where
  pub divisor : r ≡ divisor_of c
  pub most : r.0 ≤ 32512

-- SSE, CR1's bit 1: the port is enabled.
unfoldable pub enabled_of : Control → Bool
enabled_of c = bit_at c.cr1 1

-- SSE of a register file.
abbrev pub enabled : Model → Bool
enabled m = enabled_of m.control

-- The settings with these parts.
abbrev pub settings_by : Format → Bool → Bool → ℕ → Divisor → Bool → Bool → Bool → Bool → Bool → Settings
settings_by f phase polarity b h slave sod loopback enabled edition2 =
    record { format = f; phase = phase; polarity = polarity; bits = b; divisor = h; slave = slave; sod = sod; loopback = loopback; enabled = enabled; edition2 = edition2 }

-- All settings that the engine uses. In CR0 SPH is bit 7, SPO bit 6; in CR1 SOD is bit 3, MS bit 2, LBM bit 0.
-- The edition is the one that reset chose.
unfoldable pub settings_of : Control → Settings
settings_of c =
    settings_by (format_of c.cr0) (bit_at c.cr0 7) (bit_at c.cr0 6) (bits_of c.cr0) (divisor_of c) (bit_at c.cr1 2) (bit_at c.cr1 3) (bit_at c.cr1 0) (enabled_of c) c.edition2
