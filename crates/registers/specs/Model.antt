-- The register file as numbers, flags and the words in its two queues. Every contract of this crate is about it.
use Rattle.std.specs.Prelude.{ℕ, List, [], Bool, false}
use Rattle.queue.specs.Fifo.{contents}
use Rattle.registers.specs.Time.{cycles}
use Rattle.registers.specs.declared.Control.{Control}
use Rattle.registers.specs.declared.Masks.{Masks}
use Rattle.registers.specs.declared.Timeout.{Timeout}
use Rattle.registers.specs.declared.Registers.{Registers}
pub mod Inside

-- A register file as the definitions see it.
pub record Model : Type 0 where
  -- CR0, CR1, CPSR, and the edition
  pub control : Control
  -- IMSC, DMACR
  pub masks : Masks
  -- the receive timeout: its flag RT and its count of cycles
  pub timeout : Timeout
  -- the overrun flag
  pub ror : Bool
  -- the words in the transmit queue, oldest first
  pub tx : List ℕ
  -- the words in the receive queue, oldest first
  pub rx : List ℕ

-- The model of a register file. Opaque: the layer above knows only what the contracts say about it.
pub model_of : Registers → Model
model_of r = record { control = r.control; masks = r.masks; timeout = r.timeout; ror = r.ror; tx = contents r.tx; rx = contents r.rx }

-- Reset: registers, flags and count are zero, both queues are empty, and the edition is the one asked for.
abbrev pub reset_registers : Bool → Model
reset_registers edition2 =
    record {
      control = record { cr0 = 0; cr1 = 0; cpsr = 0; edition2 = edition2 };
      masks = record { imsc = 0; dmacr = 0 };
      timeout = record { rt = false; count = cycles 0 };
      ror = false;
      tx = [];
      rx = [];
    }

-- The control registers with one replaced; the edition stays.

abbrev pub with_cr0 : Control → ℕ → Control
with_cr0 c x = record { cr0 = x; cr1 = c.cr1; cpsr = c.cpsr; edition2 = c.edition2 }

abbrev pub with_cr1 : Control → ℕ → Control
with_cr1 c x = record { cr0 = c.cr0; cr1 = x; cpsr = c.cpsr; edition2 = c.edition2 }

abbrev pub with_cpsr : Control → ℕ → Control
with_cpsr c x = record { cr0 = c.cr0; cr1 = c.cr1; cpsr = x; edition2 = c.edition2 }

-- The control registers with the edition replaced: the second if true, otherwise the first.
abbrev pub with_edition : Control → Bool → Control
with_edition c t = record { cr0 = c.cr0; cr1 = c.cr1; cpsr = c.cpsr; edition2 = t }

-- The model with one part replaced.

abbrev pub with_control : Model → Control → Model
with_control m x = record { control = x; masks = m.masks; timeout = m.timeout; ror = m.ror; tx = m.tx; rx = m.rx }

abbrev pub with_masks : Model → Masks → Model
with_masks m x = record { control = m.control; masks = x; timeout = m.timeout; ror = m.ror; tx = m.tx; rx = m.rx }

abbrev pub with_timeout : Model → Timeout → Model
with_timeout m x = record { control = m.control; masks = m.masks; timeout = x; ror = m.ror; tx = m.tx; rx = m.rx }

abbrev pub with_ror : Model → Bool → Model
with_ror m x = record { control = m.control; masks = m.masks; timeout = m.timeout; ror = x; tx = m.tx; rx = m.rx }

abbrev pub with_tx : Model → List ℕ → Model
with_tx m x = record { control = m.control; masks = m.masks; timeout = m.timeout; ror = m.ror; tx = x; rx = m.rx }

abbrev pub with_rx : Model → List ℕ → Model
with_rx m x = record { control = m.control; masks = m.masks; timeout = m.timeout; ror = m.ror; tx = m.tx; rx = x }
