-- BSY of a device.
use Rattle.std.specs.Prelude.{Bool}
use Rattle.registers.specs.Flags.{busy_of}
use Rattle.serial.specs.Cycle.{DeviceModel}

-- A frame is in progress, or the transmit queue is not empty.
unfoldable pub busy_device : DeviceModel → Bool
busy_device d = busy_of d.registers d.engine.frame
