-- When a device is sound: all rules but those that only bytes can break (flags, levels, unused places, spare bytes).
-- Shift registers, held level, pins and last lines may have any value.
use Rattle.std.specs.Prelude.{Bool, not, ◌&&◌, ltb, leb, eqb}
use Rattle.registers.specs.Choose.{pick}
use Rattle.registers.specs.Settings.{settings_of}
use Rattle.registers.specs.Sound.{sound_registers, registers_fit}
use Rattle.registers.specs.declared.settings.Settings.{Settings}
use Rattle.frames.specs.Engine.{active_of}
use Rattle.frames.specs.Slots.{last_slot, capture_width}
use Rattle.serial.specs.Cycle.{DeviceModel, active_device}
use Rattle.frames.specs.declared.engine.Engine.{Engine}

-- While the engine is not active: no frame, no selection, no TI mark; slot, elapsed cycles and captured bits are 0.
unfoldable pub stopped_sound : Engine → Bool
stopped_sound e =
    ((not e.frame && not e.selected) && not e.mark)
    && ((eqb e.slot.0 0 && eqb e.elapsed.0 0) && eqb e.shift.captured 0)

-- While the engine is active: the slot is at most the format's last, fewer than h cycles of it have elapsed, and no more bits
-- are captured than a received word has: b, in a Microwire slave 8.
unfoldable pub running_sound : Settings → Engine → Bool
running_sound s e = (leb e.slot.0 (last_slot s).0 && ltb e.elapsed.0 s.divisor.0) && leb e.shift.captured (capture_width s)

-- A sound engine: these rules, while active and while not.
unfoldable pub engine_sound : Settings → Engine → Bool
engine_sound s e = pick (active_of s e) (running_sound s e) (stopped_sound e)

-- A sound device: its register file and its engine are sound.
unfoldable pub sound_device : DeviceModel → Bool
sound_device d = sound_registers d.registers (active_device d) && engine_sound (settings_of d.registers.control) d.engine

-- What fits into the bytes of a record: every device read from bytes, and all that accesses and cycles make of a sound one.
unfoldable pub device_fits : DeviceModel → Bool
device_fits d =
    registers_fit d.registers
    && (((ltb d.engine.slot.0 0x100 && ltb d.engine.elapsed.0 0x10000) && ltb d.engine.shift.captured 0x100)
    && (ltb d.engine.shift.sending 0x10000 && ltb d.engine.shift.receiving 0x10000))
