-- Register accesses to a device. They fall between cycles: pins and lines stay.
use Rattle.std.specs.Prelude.{ℕ, ◌≡◌}
use Rattle.registers.specs.Choose.{pick}
use Rattle.registers.specs.Offsets.{register_of}
use Rattle.registers.specs.Settings.{enabled_of, settings_of}
use Rattle.registers.specs.Access.{read_answer, read_model, write_refusal, write_model}
use Rattle.registers.specs.Model.{Model}
use Rattle.registers.specs.Refusals.{Answer}
use Rattle.frames.specs.Engine.{while_active}
use Rattle.serial.specs.Cycle.{DeviceModel, active_device, with_registers, with_engine}
use Rattle.frames.specs.declared.engine.Engine.{Engine}

-- What a read answers; for BSY the engine says whether a frame is in progress.
unfoldable pub read_answer_of : DeviceModel → ℕ → Answer
read_answer_of d o = read_answer d.registers d.engine.frame o

-- The device after a read. Only a DR read that gives a word changes anything, and only in the register file.
unfoldable pub read_device : DeviceModel → ℕ → DeviceModel
read_device d o = with_registers d (read_model d.registers o)

-- The refusal number of a write, 0 if it is done.
unfoldable pub write_refusal_of : DeviceModel → ℕ → ℕ → ℕ
write_refusal_of d o v = write_refusal d.registers (active_device d) (register_of o) v

-- The engine after a write. Clearing SSE clears it, but in edition 2 a frame in progress goes on. With SSE clear before the
-- write the engine stays as it is: if the write sets SSE, a frame goes on from its slot.
unfoldable pub engine_after : Model → Model → Engine → Engine
engine_after old new e = pick (enabled_of old.control) (while_active (settings_of new.control) e) e

-- The device after a write: its register file and its engine as above. A refused write changes nothing.
unfoldable pub write_device : DeviceModel → ℕ → ℕ → DeviceModel
write_device d o v =
    let m = write_model d.registers (active_device d) o v in
    with_engine (with_registers d m) (engine_after d.registers m d.engine)

-- A read: its answer, and the device after it.
pub record Read (d : DeviceModel) (o : ℕ) (r : Answer) (d' : DeviceModel) : Type 0 where
  pub answer : r ≡ read_answer_of d o
  pub device : d' ≡ read_device d o

-- A write: its refusal number, and the device after it.
pub record Write (d : DeviceModel) (o v r : ℕ) (d' : DeviceModel) : Type 0 where
  pub refusal : r ≡ write_refusal_of d o v
  pub device : d' ≡ write_device d o v
