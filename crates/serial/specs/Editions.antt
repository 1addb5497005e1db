-- The two editions as statements: what happens to a frame when SSE is cleared. Proofs: proofs/Editions.antt.
use Rattle.std.specs.Prelude.{ℕ, ◌+◌, ◌≡◌, Bool, true, false, ◌&&◌, ◌⊎◌, [], is_some}
use Rattle.registers.specs.Choose.{pick}
use Rattle.registers.specs.Time.{cycles}
use Rattle.registers.specs.Model.{with_cr1, with_edition, with_control, with_timeout, with_tx}
use Rattle.registers.specs.Settings.{enabled_of, settings_of}
use Rattle.registers.specs.declared.Control.{Control}
use Rattle.frames.specs.Engine.{cleared}
use Rattle.frames.specs.Lines.{lines_of}
use Rattle.frames.specs.declared.lines.Pins.{Pins}
use Rattle.serial.specs.Cycle.{DeviceModel, active_device, with_registers, device_step, completed_of, cycle_of}
use Rattle.serial.specs.Access.{read_device, write_refusal_of, write_device}
use Rattle.serial.specs.Sound.{sound_device}

-- Neither an access nor a cycle changes the edition.
pub record EditionStays : Type 0 where
  pub read : (d : DeviceModel) (o : ℕ) → (read_device d o).registers.control.edition2 ≡ d.registers.control.edition2
  pub write : (d : DeviceModel) (o v : ℕ) → (write_device d o v).registers.control.edition2 ≡ d.registers.control.edition2
  pub cycle : (d : DeviceModel) (pins : Pins) → (cycle_of d pins).registers.control.edition2 ≡ d.registers.control.edition2

-- A read leaves the engine as it is, and so does a write that does not clear SSE: with SSE set again a frame goes on.
pub record EngineStays : Type 0 where
  pub read : (d : DeviceModel) (o : ℕ) → (read_device d o).engine ≡ d.engine
  pub write : (d : DeviceModel) (o v : ℕ) → (enabled_of d.registers.control ≡ false) ⊎ (enabled_of (write_device d o v).registers.control ≡ true)
      → (write_device d o v).engine ≡ d.engine

-- The write that clears SSE leaves the engine as it is if a frame is in progress in edition 2, otherwise clear.
abbrev pub Clearing : Type 0
Clearing =
    (d : DeviceModel) (o v : ℕ) → enabled_of d.registers.control ≡ true → enabled_of (write_device d o v).registers.control ≡ false
    → (write_device d o v).engine ≡ pick (d.engine.frame && d.registers.control.edition2) d.engine cleared

-- A device that is not active rests: a cycle leaves the engine clear and shows the idle lines. In the register file only the
-- RT count changes, to 0.
pub record Rests : Type 0 where
  pub engine : (d : DeviceModel) (pins : Pins) → active_device d ≡ false → (cycle_of d pins).engine ≡ cleared
  pub lines : (d : DeviceModel) (pins : Pins) → active_device d ≡ false → (cycle_of d pins).lines ≡ lines_of (settings_of d.registers.control) cleared
  pub registers : (d : DeviceModel) (pins : Pins) → active_device d ≡ false
      → (cycle_of d pins).registers ≡ with_timeout d.registers (record { rt = d.registers.timeout.rt; count = cycles 0 })

-- The same device in the second edition if t is true, otherwise in the first.
abbrev pub of_edition : Bool → DeviceModel → DeviceModel
of_edition t d = with_registers d (with_control d.registers (with_edition d.registers.control t))

-- With SSE set, or with no frame in progress, the edition makes no difference to a cycle or to whether the engine is active.
pub record EditionAlike : Type 0 where
  pub active : (t : Bool) (d : DeviceModel) → (enabled_of d.registers.control ≡ true) ⊎ (d.engine.frame ≡ false) → active_device (of_edition t d) ≡ active_device d
  pub cycle : (t : Bool) (d : DeviceModel) (pins : Pins) → (enabled_of d.registers.control ≡ true) ⊎ (d.engine.frame ≡ false)
      → cycle_of (of_edition t d) pins ≡ of_edition t (cycle_of d pins)

-- With SSE clear a cycle takes no word to send, in any device, sound or not.
abbrev pub NoneTaken : Type 0
NoneTaken = (d : DeviceModel) (pins : Pins) → enabled_of d.registers.control ≡ false → (cycle_of d pins).registers.tx ≡ d.registers.tx

-- Control registers in which SSE was clear, with SSE set.
abbrev pub switched_on : Control → Control
switched_on c = with_cr1 c (c.cr1 + 2)

-- A device whose SSE was clear, with SSE set.
abbrev pub with_sse : DeviceModel → DeviceModel
with_sse d = with_registers d (with_control d.registers (switched_on d.registers.control))

-- The same with an empty transmit queue.
abbrev pub enabled_empty : DeviceModel → DeviceModel
enabled_empty d = with_registers d (with_tx (with_sse d).registers [])

-- A cycle of a frame with SSE clear, compared with a cycle of the device with SSE set and an empty transmit queue.
pub record GoesAs (d : DeviceModel) (pins : Pins) : Type 0 where
  pub lines : (cycle_of d pins).lines ≡ (cycle_of (enabled_empty d) pins).lines
  pub words : completed_of d pins ≡ completed_of (enabled_empty d) pins
  pub held : (cycle_of d pins).registers.rx ≡ (cycle_of (enabled_empty d) pins).registers.rx
  pub overrun : (cycle_of d pins).registers.ror ≡ (cycle_of (enabled_empty d) pins).registers.ror
  -- a completed word clears RT; the cycle does not count
  pub timeout : (cycle_of d pins).registers.timeout ≡ record { rt = pick (is_some (device_step d pins).completed) false d.registers.timeout.rt; count = cycles 0 }
  -- the engine is clear when the frame is over
  pub engine : (cycle_of d pins).engine ≡ pick (cycle_of (enabled_empty d) pins).engine.frame (cycle_of (enabled_empty d) pins).engine cleared

-- A frame with SSE clear in a sound device: the device is of edition 2, every cycle goes on as above, and until the frame is
-- over writes are refused as with SSE set.
pub record FrameGoesOn : Type 0 where
  pub edition : (d : DeviceModel) → sound_device d ≡ true → enabled_of d.registers.control ≡ false → d.engine.frame ≡ true → d.registers.control.edition2 ≡ true
  pub cycle : (d : DeviceModel) (pins : Pins) → sound_device d ≡ true → enabled_of d.registers.control ≡ false → d.engine.frame ≡ true → GoesAs d pins
  pub refusal : (d : DeviceModel) (o v : ℕ) → sound_device d ≡ true → enabled_of d.registers.control ≡ false → d.engine.frame ≡ true
      → write_refusal_of d o v ≡ write_refusal_of (with_sse d) o v
