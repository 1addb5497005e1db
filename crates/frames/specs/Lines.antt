-- The lines that a device drives, and the bytes of lines and pins.
use Rattle.std.specs.Prelude.{ℕ, ◌+◌, Bool, true, false, not, ◌&&◌, ◌||◌, leb, eqb}
use Rattle.registers.specs.Choose.{pick}
use Rattle.registers.specs.Bits.{bit_at}
use Rattle.registers.specs.declared.settings.Format.{Format}
use Rattle.registers.specs.declared.settings.Format.TheVariants.{Motorola, Ti, Microwire, Reserved}
use Rattle.registers.specs.declared.settings.Settings.{Settings}
use Rattle.frames.specs.Slots.{data_on, levels_of}
use Rattle.frames.specs.declared.engine.Engine.{Engine}
use Rattle.frames.specs.declared.lines.Lines.{Lines}
use Rattle.frames.specs.declared.lines.Pins.{Pins}
use Rattle.frames.specs.declared.slots.Levels.{Levels}

-- An input byte: CLK 1, FSS 2, RXD 4.
unfoldable pub pins_of : ℕ → Pins
pins_of x = record { clk = bit_at x 0; fss = bit_at x 1; rxd = bit_at x 2 }

-- A pin byte: CLK 1, FSS 2, RXD 4.
unfoldable pub pin_byte : Pins → ℕ
pin_byte p = pick p.clk 1 0 + pick p.fss 2 0 + pick p.rxd 4 0

-- An output byte: CLK 1, FSS 2, TXD 4, nSSPOE 8.
unfoldable pub byte_of : Lines → ℕ
byte_of l = pick l.clk 1 0 + pick l.fss 2 0 + pick l.txd 4 0 + pick l.released 8 0

-- A line byte: CLK 1, FSS 2, TXD 4, nSSPOE 8.
unfoldable pub lines_from : ℕ → Lines
lines_from x = record { clk = bit_at x 0; fss = bit_at x 1; txd = bit_at x 2; released = bit_at x 3 }

-- Exclusive or of two levels.
abbrev pub differ : Bool → Bool → Bool
differ a b = (a && not b) || (not a && b)

-- Idle lines. Motorola: FSS HIGH, CLK at SPO, TXD LOW; Microwire the same with CLK LOW; TI: FSS and CLK LOW; nSSPOE HIGH.
abbrev pub idle_on : Format → Bool → Lines
idle_on Motorola polarity = record { clk = polarity; fss = true; txd = false; released = true }
idle_on Ti polarity = record { clk = false; fss = false; txd = false; released = true }
idle_on Microwire polarity = record { clk = false; fss = true; txd = false; released = true }
idle_on Reserved polarity = record { clk = false; fss = true; txd = false; released = true }

-- CLK as driven: in Motorola SPO inverts it; elsewhere SPO has no effect.
abbrev pub clock_on : Format → Bool → Bool → Bool
clock_on Motorola polarity active = differ active polarity
clock_on Ti polarity active = active
clock_on Microwire polarity active = active
clock_on Reserved polarity active = active

-- A frame's lines: the slot's levels with TXD.
unfoldable pub frame_lines : Settings → Levels → Bool → Lines
frame_lines s v txd = record { clk = clock_on s.format s.polarity v.clk; fss = v.fss; txd = txd; released = v.released }

-- In TI's slots 0 and 1 a captured bit means that the word is joined to the one before.
abbrev pub joined_to : Engine → Bool
joined_to e = not (eqb e.shift.captured 0)

-- TXD of a master in a frame: the held level in the slots that show data, otherwise LOW.
unfoldable pub master_txd : Settings → Engine → Bool
master_txd s e = data_on s.format (levels_of s (joined_to e) e.slot) e.slot && e.shift.level

-- A master shows the slot's lines in a frame, otherwise the idle ones.
unfoldable pub master_lines : Settings → Engine → Lines
master_lines s e =
    pick e.frame
    (frame_lines s (levels_of s (joined_to e) e.slot) (master_txd s e))
    (idle_on s.format s.polarity)

-- When a slave shows its held level. Motorola: selected. TI: in a word. Microwire: in its data bits, from slot 18 on.
abbrev pub shows_on : Format → Engine → Bool
shows_on Motorola e = e.selected
shows_on Ti e = e.frame
shows_on Microwire e = e.selected && leb 18 e.slot.0
shows_on Reserved e = false

-- A slave drives CLK LOW and FSS HIGH; SOD keeps nSSPOE HIGH.
unfoldable pub slave_lines : Settings → Engine → Lines
slave_lines s e =
    record {
      clk = false;
      fss = true;
      txd = shows_on s.format e && e.shift.level;
      released = not (shows_on s.format e && not s.sod);
    }

-- The lines of a device: a slave's with MS 1, a master's with MS 0.
unfoldable pub lines_of : Settings → Engine → Lines
lines_of s e = pick s.slave (slave_lines s e) (master_lines s e)
