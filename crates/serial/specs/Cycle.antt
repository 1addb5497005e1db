-- A device, and one cycle of it.
use Rattle.std.specs.Prelude.{ℕ, ◌≡◌, Bool, true, false, List, [], ◌∷◌, ◌++◌, Option, Some, None, map, ltb, length}
use Rattle.registers.specs.Choose.{pick, words_of}
use Rattle.registers.specs.Model.{Model, model_of, reset_registers}
use Rattle.registers.specs.Settings.{settings_of}
use Rattle.registers.specs.Transfer.{waiting_of, next_word, take_word, receive_word, lost_word, end_cycle}
use Rattle.registers.specs.declared.settings.Settings.{Settings}
use Rattle.frames.specs.Engine.{active_of, cleared, while_active, no_word}
use Rattle.frames.specs.Lines.{lines_of}
use Rattle.frames.specs.Master.{master_step, master_end}
use Rattle.serial.specs.Slave.{slave_step, slave_end}
use Rattle.serial.specs.declared.Device.{Device}
use Rattle.serial.specs.declared.History.{History}
use Rattle.frames.specs.declared.engine.Engine.{Engine}
use Rattle.frames.specs.declared.engine.Step.{Step}
use Rattle.frames.specs.declared.lines.Lines.{Lines}
use Rattle.frames.specs.declared.lines.Pins.{Pins}

-- A device as the definitions see it.
pub record DeviceModel : Type 0 where
  pub registers : Model
  pub engine : Engine
  -- the pins of the last three cycles
  pub pins : History
  -- the lines of the last cycle
  pub lines : Lines

-- The model of a device of the code.
unfoldable pub device_of : Device → DeviceModel
device_of d = record { registers = model_of d.registers; engine = d.engine; pins = d.pins; lines = d.lines }

-- The device with one part replaced.

abbrev pub with_registers : DeviceModel → Model → DeviceModel
with_registers d m = record { registers = m; engine = d.engine; pins = d.pins; lines = d.lines }

abbrev pub with_engine : DeviceModel → Engine → DeviceModel
with_engine d e = record { registers = d.registers; engine = e; pins = d.pins; lines = d.lines }

-- Pins count as LOW before the first cycle.
abbrev pub low_pins : Pins
low_pins = record { clk = false; fss = false; rxd = false }

-- A device after reset, of the edition asked for. Its lines are idle: Motorola, SPO 0.
abbrev pub reset_device : Bool → DeviceModel
reset_device edition2 =
    record {
      registers = reset_registers edition2;
      engine = cleared;
      pins = record { newest = low_pins; middle = low_pins; oldest = low_pins };
      lines = record { clk = false; fss = true; txd = false; released = true };
    }

-- The engine of a device is active.
abbrev pub active_device : DeviceModel → Bool
active_device d = active_of (settings_of d.registers.control) d.engine

-- The engine's step; if it is not active, it is clear. A master reads the pins of this cycle, a slave those of two cycles ago.
unfoldable pub step_of : Settings → Engine → History → Pins → Bool → ℕ → Step
step_of s e h pins waiting next =
    pick (active_of s e)
    (pick s.slave (slave_step s e h.oldest h.middle next) (master_step s e waiting next pins.rxd))
    (no_word cleared)

-- The end of a cycle: a master counts the cycle in its slot, a slave's last capture ends its frame.
unfoldable pub tick_of : Settings → Engine → Engine
tick_of s e = pick s.slave (slave_end s e) (master_end s e)

-- The engine at the end of the cycle. With SSE clear and no frame in progress it is clear: no idle slot, selection or mark.
unfoldable pub end_of : Settings → Engine → Engine
end_of s e = while_active s (tick_of s e)

-- A word that was taken leaves the transmit queue.
unfoldable pub take_if : Model → Bool → Model
take_if m takes = pick takes (take_word m) m

-- A word that was completed enters the receive queue, or is lost to overrun.
unfoldable pub receive_if : Model → Option ℕ → Model
receive_if m None = m
receive_if m (Some w) = receive_word m w

-- The words lost in this: one or none.
abbrev pub lost_if : Model → Option ℕ → List ℕ
lost_if m None = []
lost_if m (Some w) = lost_word m w

-- What the code gives for this: the words lost, and the register file after it.
pub record ReceiveIf (m : Model) (completed : Option ℕ) (r : List ℕ) (m' : Model) : Type 0 where
  pub registers : m' ≡ receive_if m completed
  pub lost : r ≡ lost_if m completed

-- The register file after a step.
abbrev pub step_model : Model → Step → Model
step_model m r = receive_if (take_if m r.takes) r.completed

-- The step of a device in a cycle.
unfoldable pub device_step : DeviceModel → Pins → Step
device_step d pins =
    step_of (settings_of d.registers.control) d.engine d.pins pins (waiting_of d.registers) (next_word d.registers)

-- The words completed in a cycle: none or one.
unfoldable pub completed_of : DeviceModel → Pins → List ℕ
completed_of d pins = words_of (device_step d pins).completed

-- The words lost in a cycle: those completed if eight are held when it begins, otherwise none. By `lost_step` the receive
-- queue drops exactly these.
unfoldable pub lost_of : DeviceModel → Pins → List ℕ
lost_of d pins = pick (ltb (length d.registers.rx) 8) [] (completed_of d pins)

-- The words kept in a cycle: those completed, unless eight are held when it begins.
unfoldable pub kept_of : DeviceModel → Pins → List ℕ
kept_of d pins = pick (ltb (length d.registers.rx) 8) (completed_of d pins) []

-- The pins of the last three cycles, this one included. They are recorded with SSE clear too.
abbrev pub follow : History → Pins → History
follow h pins = record { newest = pins; middle = h.newest; oldest = h.middle }

-- One cycle: the engine's step; the queues (a received word clears RT); the timeout, which depends on the state at the end and
-- may set RT; the pins. The lines show the engine after its step.
unfoldable pub cycle_of : DeviceModel → Pins → DeviceModel
cycle_of d pins =
    let s = settings_of d.registers.control in
    let r = device_step d pins in
    let e = end_of s r.engine in
    record {
      registers = end_cycle (step_model d.registers r) e.frame;
      engine = e;
      pins = follow d.pins pins;
      lines = lines_of s r.engine;
    }

-- What the code gives for a cycle: the word lost in it, if any, and the device after it.
pub record CycleOf (d : DeviceModel) (pins : Pins) (r : Option ℕ) (d' : DeviceModel) : Type 0 where
  pub device : d' ≡ cycle_of d pins
  pub lost : words_of r ≡ lost_of d pins

-- A run: one cycle for each entry of a list of pins; it gives the device after each cycle.
abbrev pub run : DeviceModel → List Pins → List DeviceModel
run d [] = []
run d (p ∷ ps) = cycle_of d p ∷ run (cycle_of d p) ps

-- The last device of a run; with no cycles, the device that it started from.
abbrev pub last_of : DeviceModel → List DeviceModel → DeviceModel
last_of d [] = d
last_of d (x ∷ xs) = last_of x xs

-- The device after a run.
abbrev pub after : DeviceModel → List Pins → DeviceModel
after d ps = last_of d (run d ps)

-- The recording of a run: the lines of each cycle.
abbrev pub recording : DeviceModel → List Pins → List Lines
recording d ps = map (λ (x : DeviceModel). x.lines) (run d ps)

-- The words that `words` gives for each cycle of a run, in order.
abbrev pub words_in : (DeviceModel → Pins → List ℕ) → DeviceModel → List Pins → List ℕ
words_in words d [] = []
words_in words d (p ∷ ps) = words d p ++ words_in words (cycle_of d p) ps

-- The words completed in a run.
abbrev pub completed_in : DeviceModel → List Pins → List ℕ
completed_in = words_in completed_of

-- The words lost in a run.
abbrev pub lost_in : DeviceModel → List Pins → List ℕ
lost_in = words_in lost_of

-- The words kept in a run.
abbrev pub kept_in : DeviceModel → List Pins → List ℕ
kept_in = words_in kept_of
