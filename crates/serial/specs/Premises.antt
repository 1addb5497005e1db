-- Devices that meet the premises of demand 3, made by writes after reset in either edition: h = 6, b = 4, two different words
-- in each load.
use Rattle.std.specs.Prelude.{ℕ, ◌≤◌, ◌≡◌, Bool, true, false, List, [], ◌∷◌, replicate}
use Rattle.registers.specs.Time.{divisor}
use Rattle.registers.specs.Settings.{settings_by}
use Rattle.registers.specs.declared.settings.Format.TheVariants.{Motorola}
use Rattle.registers.specs.declared.settings.Settings.{Settings}
use Rattle.serial.specs.Cycle.{DeviceModel, low_pins, reset_device}
use Rattle.serial.specs.Access.{write_device}
use Rattle.serial.specs.Pair.{PairModel}
use Rattle.serial.specs.Demand3.{Step, cycles_in, Stays, Start, load, slave_enabled, master_enabled, in_edition, Enabling, WholeLoad}
use Rattle.serial.specs.Demand3.Which.{master, slave}
use Rattle.serial.specs.Demand3.Step.{cycle, read}
use Rattle.frames.specs.declared.lines.Pins.{Pins}
use Rattle.serial.specs.Recordings.{CR0, CR1, DR, SR, CPSR}

-- After reset CR0, CPSR and CR1 are written, then two words to DR.
abbrev pub prepared : Bool → ℕ → ℕ → ℕ → ℕ → ℕ → DeviceModel
prepared edition2 cr0 cpsr cr1 v w = write_device (write_device (write_device (write_device (write_device (reset_device edition2) CR0 cr0) CPSR cpsr) CR1 cr1) DR v) DR w

-- A master with CPSR 12, so h = 6.
abbrev pub prepared_master : Bool → ℕ → ℕ → ℕ → DeviceModel
prepared_master edition2 cr0 v w = prepared edition2 cr0 12 0x0 v w

-- A slave: MS is set.
abbrev pub prepared_slave : Bool → ℕ → ℕ → ℕ → DeviceModel
prepared_slave edition2 cr0 v w = prepared edition2 cr0 2 0x4 v w

-- CR0 for Motorola, SPH 0, SPO 0, b = 4.
abbrev pub motorola : ℕ
motorola = 0x03

-- CR0 for Microwire, SPH 0, SPO 0, b = 4.
abbrev pub microwire : ℕ
microwire = 0x23

-- The same with SPH 1 and SPO 1, in which a Microwire pair need not agree.
abbrev pub microwire_unlike : ℕ
microwire_unlike = 0xE3

-- The first part -------------------------------------------------------------------------------------------------------

-- A master with the words A, 5 and a slave with 3, C; m, n are their editions and c, d their CR0.
abbrev pub prepared_pair : Bool → Bool → ℕ → ℕ → PairModel
prepared_pair m n c d = record { first = prepared_master m c 0xA 0x5; second = prepared_slave n d 0x3 0xC }

-- Four cycles before the slave is enabled.
abbrev pub before : List Step
before = cycle ∷ cycle ∷ cycle ∷ cycle ∷ []

-- A read of SR and a cycle before the master is enabled.
abbrev pub between : List Step
between = read master SR ∷ cycle ∷ []

-- The premises of the first part, and the loads when the master is enabled.
pub record PairPremises (m n : Bool) (c d : ℕ) : Type 0 where
  pub start : Start (prepared_pair m n c d)
  pub four : 4 ≤ cycles_in before
  pub stays_before : Stays before (prepared_pair m n c d)
  pub stays_between : Stays between (slave_enabled before (prepared_pair m n c d))
  pub load_master : load master (master_enabled before between (prepared_pair m n c d)) ≡ 0xA ∷ 0x5 ∷ []
  pub load_slave : load slave (master_enabled before between (prepared_pair m n c d)) ≡ 0x3 ∷ 0xC ∷ []

-- The last sentence ----------------------------------------------------------------------------------------------------

-- The settings of such a master, enabled: Motorola, SPH 0, SPO 0, b = 4, h = 6, MS, SOD and LBM 0, SSE 1, edition 1.
abbrev pub enabled_master : Settings
enabled_master = settings_by Motorola false false 4 (divisor 6) false false false true false

-- Pins LOW for the slot total times h cycles: 2(2b + 4) slots, 144 cycles.
abbrev pub low_inputs : List Pins
low_inputs = replicate 144 low_pins

-- The premises of the last sentence for the loads A, 5 and 3, C in the editions m, n; the write is CR1 with SSE.
pub record LastPremises (m n : Bool) : Type 0 where
  pub one : Enabling (in_edition m enabled_master) (prepared_master m motorola 0xA 0x5) CR1 0x2
  pub other : Enabling (in_edition n enabled_master) (prepared_master n motorola 0x3 0xC) CR1 0x2
  pub whole_one : WholeLoad enabled_master (write_device (prepared_master m motorola 0xA 0x5) CR1 0x2) low_inputs
  pub whole_other : WholeLoad enabled_master (write_device (prepared_master n motorola 0x3 0xC) CR1 0x2) low_inputs
