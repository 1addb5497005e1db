-- A master's lines do not depend on what it receives.
use mathlib.Core.Path.{◌≡◌, refl, sym, ap, ◌∙◌}
use Rattle.registers.specs.Choose.{pick}
use Rattle.registers.specs.Settings.{settings_of}
use Rattle.registers.specs.Transfer.{rest}
use Rattle.registers.specs.declared.Control.{Control}
use Rattle.frames.specs.Engine.{while_active}
use Rattle.frames.specs.Lines.{master_lines}
use Rattle.frames.specs.Master.{master_end}
use Rattle.serial.specs.Cycle.{DeviceModel, cycle_of}
use Rattle.serial.proofs.Cycles.{control_cycle, masks_cycle}
use Rattle.serial.proofs.Unreceived.{without_received, Masters, send_step, send_of, lines_sends, engine_sends, tx_sends}
use Rattle.frames.specs.declared.lines.Pins.{Pins}

-- Two devices alike in all that a master's lines depend on.
pub record Alike (d d' : DeviceModel) : Type 0 where
  pub control : d.registers.control ≡ d'.registers.control
  pub masks : d.registers.masks ≡ d'.registers.masks
  pub tx : d.registers.tx ≡ d'.registers.tx
  pub engine : without_received d.engine ≡ without_received d'.engine

pub alike_self : (d : DeviceModel) → Alike d d
alike_self d = record { control = refl; masks = refl; tx = refl; engine = refl }

pub masters_alike : {d d' : DeviceModel} → Alike d d' → Masters d → Masters d'
masters_alike a k = sym (ap (λ (c : Control). (settings_of c).slave) a.control) ∙ k

send_alike : {d d' : DeviceModel} → Alike d d' → send_of d ≡ send_of d'
send_alike a = λ i. send_step (settings_of (a.control i)) (a.tx i) (a.engine i)

pub cycle_alike : (d d' : DeviceModel) (p q : Pins) → Masters d → Alike d d' → Alike (cycle_of d p) (cycle_of d' q)
cycle_alike d d' p q k a =
    record {
      control = control_cycle d p ∙ a.control ∙ sym (control_cycle d' q);
      masks = masks_cycle d p ∙ a.masks ∙ sym (masks_cycle d' q);
      tx = tx_sends d p k ∙ (λ i. pick (send_alike a i).takes (rest (a.tx i)) (a.tx i)) ∙ sym (tx_sends d' q (masters_alike a k));
      engine = engine_sends d p k ∙ (λ i. while_active (settings_of (a.control i)) (master_end (settings_of (a.control i)) (send_alike a i).engine)) ∙ sym (engine_sends d' q (masters_alike a k));
    }

pub lines_alike : (d d' : DeviceModel) (p q : Pins) → Masters d → Alike d d' → (cycle_of d p).lines ≡ (cycle_of d' q).lines
lines_alike d d' p q k a = lines_sends d p k ∙ (λ i. master_lines (settings_of (a.control i)) (send_alike a i).engine) ∙ sym (lines_sends d' q (masters_alike a k))

-- The lines of a master's cycle do not depend on its input pins.
pub lines_inputs : (d : DeviceModel) (p q : Pins) → Masters d → (cycle_of d p).lines ≡ (cycle_of d q).lines
lines_inputs d p q k = lines_alike d d p q k (alike_self d)
