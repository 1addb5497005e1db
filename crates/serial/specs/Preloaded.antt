-- A master made by writes alone: set up after reset, preloaded with words, then enabled.
use Prim.{Unit}
use Rattle.std.specs.Prelude.{ℕ, ◌<◌, Bool, List, [], ◌∷◌}
use Rattle.serial.specs.Cycle.{DeviceModel, reset_device}
use Rattle.serial.specs.Access.{write_device}
use Rattle.serial.specs.Recordings.{CR0, CR1, DR, CPSR, enabled}

-- CR0 and CPSR are written after reset, in either edition. A refused write leaves its register 0; then enabling is refused.
abbrev pub configured : Bool → ℕ → ℕ → DeviceModel
configured edition2 cr0 cpsr = write_device (write_device (reset_device edition2) CR0 cr0) CPSR cpsr

-- Every word has 16 bits.
abbrev pub Sixteen : List ℕ → Type 0
Sixteen [] = Unit
Sixteen (w ∷ ws) = (w < 65536) × Sixteen ws

-- Words are preloaded: written to DR, the first word first. They are the words in the transmit queue.
abbrev pub preloaded : DeviceModel → List ℕ → DeviceModel
preloaded d [] = d
preloaded d (w ∷ ws) = preloaded (write_device d DR w) ws

-- The preloaded device is enabled as a master: CR1 is written with SSE alone.
unfoldable pub enabled_with : Bool → ℕ → ℕ → List ℕ → DeviceModel
enabled_with edition2 cr0 cpsr ws = write_device (preloaded (configured edition2 cr0 cpsr) ws) CR1 enabled
