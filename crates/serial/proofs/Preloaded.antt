-- A master made by writes alone: its settings do not depend on the words, and differ between the editions only in the edition.
-- It has the words to send, and shows their drawing.
use Prim.Native.Nat.{ℕ, ◌+◌, ◌≤◌, ◌<◌}
use mathlib.Core.Path.{◌≡◌, refl, sym, ap, ◌∙◌}
use mathlib.Core.Bool.{Bool, true, false}
use mathlib.Core.List.{List, [], ◌∷◌, ◌++◌, append_assoc, append-nil}
use native.Mathlib.Omega.{arith}
use lib.ListN.{length, length-append}
use Rattle.registers.specs.Bits.{bit_at}
use Rattle.registers.specs.Time.{cycles_of}
use Rattle.registers.specs.Model.{Model, with_edition}
use Rattle.registers.specs.Settings.{divisor_of, enabled_of, settings_of}
use Rattle.registers.specs.Access.{write_model}
use Rattle.registers.specs.declared.Control.{Control}
use Rattle.registers.specs.declared.time.Slots.{Slots}
use Rattle.registers.specs.declared.settings.Settings.{Settings}
use Rattle.registers.proofs.Writes.{cr0_kept, cpsr_kept, cr1_tx, cr1_either, dr_control, dr_added, cr0_alike, cpsr_alike, cr1_alike}
use Rattle.frames.specs.declared.lines.Pins.{Pins}
use Rattle.serial.specs.Cycle.{DeviceModel, active_device, reset_device, recording}
use Rattle.serial.specs.Access.{write_device}
use Rattle.serial.specs.Sound.{sound_device}
use Rattle.serial.specs.Drawing.{drawing, slot_total, stretch}
use Rattle.serial.specs.Demand3.{in_edition, Enabling}
use Rattle.serial.specs.Recordings.{CR0, CR1, DR, CPSR, enabled}
use Rattle.serial.specs.Preloaded.{configured, Sixteen, preloaded, enabled_with}
use Rattle.serial.proofs.Accesses.{engine_enabling}
use Rattle.serial.proofs.Cycles.{active_idle}
use Rattle.serial.proofs.Soundness.{sound_reset, sound_write}
use Rattle.serial.proofs.Drawing.Recorded.{Fresh, total_edition, drawing_edition}
use Rattle.serial.proofs.Drawing.Enabled.{fresh_enabling, enabling_recorded}

-- A device that is still off ---------------------------------------------------------------------------------------------

-- sound, with CR1 0 and no frame in progress
record Off (d : DeviceModel) : Type 0 where
  sound : sound_device d ≡ true
  none : d.registers.control.cr1 ≡ 0
  frame : d.engine.frame ≡ false

off_clear : (d : DeviceModel) → Off d → enabled_of d.registers.control ≡ false
unfolding enabled_of
off_clear d k = ap (λ (n : ℕ). bit_at n 1) k.none

off_inactive : (d : DeviceModel) → Off d → active_device d ≡ false
off_inactive d k = active_idle d.registers.control d.engine k.frame ∙ off_clear d k

-- no rule of an active engine bars a write to it
off_registers : (d : DeviceModel) (o v : ℕ) → Off d → (write_device d o v).registers ≡ write_model d.registers false o v
unfolding write_device
off_registers d o v k = ap (λ (a : Bool). write_model d.registers a o v) (off_inactive d k)

off_reset : (edition2 : Bool) → Off (reset_device edition2)
off_reset edition2 = record { sound = sound_reset edition2; none = refl; frame = refl }

-- a write that leaves CR1
off_write : (d : DeviceModel) (o v : ℕ) → Off d → (write_device d o v).registers.control.cr1 ≡ d.registers.control.cr1 → Off (write_device d o v)
off_write d o v k e = record {
  sound = sound_write d o v k.sound;
  none = e ∙ k.none;
  frame = ap (λ x. x.frame) (engine_enabling d o v (off_clear d k)) ∙ k.frame;
}

off_cr0 : (d : DeviceModel) (v : ℕ) → Off d → Off (write_device d CR0 v)
unfolding write_device
off_cr0 d v k = off_write d CR0 v k (cr0_kept d.registers (active_device d) v).cr1

off_cpsr : (d : DeviceModel) (v : ℕ) → Off d → Off (write_device d CPSR v)
unfolding write_device
off_cpsr d v k = off_write d CPSR v k (cpsr_kept d.registers (active_device d) v).cr1

off_set : (e : Bool) (cr0 cpsr : ℕ) → Off (configured e cr0 cpsr)
off_set e cr0 cpsr = off_cpsr (write_device (reset_device e) CR0 cr0) cpsr (off_cr0 (reset_device e) cr0 (off_reset e))

word_control : (d : DeviceModel) (w : ℕ) → (write_device d DR w).registers.control ≡ d.registers.control
unfolding write_device
word_control d w = dr_control d.registers (active_device d) w

preloaded_control : (d : DeviceModel) (ws : List ℕ) → (preloaded d ws).registers.control ≡ d.registers.control
preloaded_control d [] = refl
preloaded_control d (w ∷ ws) = preloaded_control (write_device d DR w) ws ∙ word_control d w

off_preloaded : (d : DeviceModel) (ws : List ℕ) → Off d → Off (preloaded d ws)
off_preloaded d [] k = k
off_preloaded d (w ∷ ws) k = off_preloaded (write_device d DR w) ws (off_write d DR w k (ap (λ (c : Control). c.cr1) (word_control d w)))

-- In either edition ------------------------------------------------------------------------------------------------------

-- control registers of a device of edition e, those of another for the rest
abbrev Alike : Bool → DeviceModel → DeviceModel → Type 0
Alike e d d' = d'.registers.control ≡ with_edition d.registers.control e

-- a write that two register files take alike
alike_write : (e : Bool) (d d' : DeviceModel) (o v : ℕ) → Off d → Off d'
    → (write_model d'.registers false o v).control ≡ with_edition (write_model d.registers false o v).control e → Alike e (write_device d o v) (write_device d' o v)
alike_write e d d' o v k k' h =
    ap (λ (m : Model). m.control) (off_registers d' o v k')
    ∙ h
    ∙ ap (λ (m : Model). with_edition m.control e) (sym (off_registers d o v k))

alike_cr0 : (e : Bool) (d d' : DeviceModel) (v : ℕ) → Off d → Off d' → Alike e d d' → Alike e (write_device d CR0 v) (write_device d' CR0 v)
alike_cr0 e d d' v k k' h = alike_write e d d' CR0 v k k' (cr0_alike e d.registers d'.registers false v h)

alike_cpsr : (e : Bool) (d d' : DeviceModel) (v : ℕ) → Off d → Off d' → Alike e d d' → Alike e (write_device d CPSR v) (write_device d' CPSR v)
alike_cpsr e d d' v k k' h = alike_write e d d' CPSR v k k' (cpsr_alike e d.registers d'.registers false v h)

alike_cr1 : (e : Bool) (d d' : DeviceModel) (v : ℕ) → Off d → Off d' → Alike e d d' → Alike e (write_device d CR1 v) (write_device d' CR1 v)
alike_cr1 e d d' v k k' h = alike_write e d d' CR1 v k k' (cr1_alike e d.registers d'.registers false v h)

alike_set : (e : Bool) (cr0 cpsr : ℕ) → Alike e (configured false cr0 cpsr) (configured e cr0 cpsr)
alike_set e cr0 cpsr =
    let d = reset_device false in
    let d' = reset_device e in
    alike_cpsr e (write_device d CR0 cr0) (write_device d' CR0 cr0) cpsr (off_cr0 d cr0 (off_reset false)) (off_cr0 d' cr0 (off_reset e))
    (alike_cr0 e d d' cr0 (off_reset false) (off_reset e) refl)

alike_enabled : (e : Bool) (cr0 cpsr : ℕ) (ws : List ℕ) → Alike e (enabled_with false cr0 cpsr []) (enabled_with e cr0 cpsr ws)
unfolding enabled_with
alike_enabled e cr0 cpsr ws =
    let d = configured false cr0 cpsr in
    let d' = configured e cr0 cpsr in
    alike_cr1 e d (preloaded d' ws) enabled (off_set false cr0 cpsr) (off_preloaded d' ws (off_set e cr0 cpsr)) (preloaded_control d' ws ∙ alike_set e cr0 cpsr)

-- What enabling leaves -----------------------------------------------------------------------------------------------------

-- the control registers that it leaves with no words, in edition 1
abbrev pub control_with : ℕ → ℕ → Control
control_with cr0 cpsr = (enabled_with false cr0 cpsr []).registers.control

-- what they mean
abbrev pub meant : ℕ → ℕ → Settings
meant cr0 cpsr = settings_of (control_with cr0 cpsr)

settings_edition : (e : Bool) (c : Control) → settings_of (with_edition c e) ≡ in_edition e (settings_of c)
unfolding settings_of divisor_of enabled_of
settings_edition e c = refl

meant_set : (e : Bool) (cr0 cpsr : ℕ) (ws : List ℕ) → settings_of (enabled_with e cr0 cpsr ws).registers.control ≡ in_edition e (meant cr0 cpsr)
meant_set e cr0 cpsr ws = ap settings_of (alike_enabled e cr0 cpsr ws) ∙ settings_edition e (control_with cr0 cpsr)

-- CR1 is 0 until then, and then SSE alone: a master
meant_master : (cr0 cpsr : ℕ) → (meant cr0 cpsr).slave ≡ false
unfolding settings_of enabled_with write_device
meant_master cr0 cpsr =
    let d = configured false cr0 cpsr in
    cr1_either (λ (n : ℕ). bit_at n 2 ≡ false) d.registers (active_device d) enabled refl (ap (λ (n : ℕ). bit_at n 2) (off_set false cr0 cpsr).none)

meant_enabled : (cr0 cpsr : ℕ) → enabled_of (control_with cr0 cpsr) ≡ true → (meant cr0 cpsr).enabled ≡ true
unfolding settings_of
meant_enabled cr0 cpsr h = h

-- The last write enables a master with these settings, whatever the words.
pub enabling : (e : Bool) (cr0 cpsr : ℕ) (ws : List ℕ) → enabled_of (control_with cr0 cpsr) ≡ true
    → Enabling (in_edition e (meant cr0 cpsr)) (preloaded (configured e cr0 cpsr) ws) CR1 enabled
unfolding enabled_with
enabling e cr0 cpsr ws h =
    let d = preloaded (configured e cr0 cpsr) ws in
    let k = off_preloaded (configured e cr0 cpsr) ws (off_set e cr0 cpsr) in
    record {
      sound = k.sound;
      clear = off_clear d k;
      idle = k.frame;
      set = meant_set e cr0 cpsr ws;
      enabled = meant_enabled cr0 cpsr h;
      master = meant_master cr0 cpsr;
    }

pub fresh_enabled : (e : Bool) (cr0 cpsr : ℕ) (ws : List ℕ) → enabled_of (control_with cr0 cpsr) ≡ true
    → Fresh (in_edition e (meant cr0 cpsr)) (enabled_with e cr0 cpsr ws)
unfolding enabled_with
fresh_enabled e cr0 cpsr ws h = fresh_enabling (in_edition e (meant cr0 cpsr)) (preloaded (configured e cr0 cpsr) ws) CR1 enabled (enabling e cr0 cpsr ws h)

-- The words to send ---------------------------------------------------------------------------------------------------------

set_tx : (e : Bool) (cr0 cpsr : ℕ) → (configured e cr0 cpsr).registers.tx ≡ []
unfolding write_device
set_tx e cr0 cpsr =
    let d = reset_device e in
    let d' = write_device d CR0 cr0 in
    (cpsr_kept d'.registers (active_device d') cpsr).tx ∙ (cr0_kept d.registers (active_device d) cr0).tx

-- a word of 16 bits goes after fewer than eight
word_tx : (d : DeviceModel) (w : ℕ) → w < 65536 → length d.registers.tx < 8 → (write_device d DR w).registers.tx ≡ d.registers.tx ++ (w ∷ [])
unfolding write_device
word_tx d w p q = ap (λ (m : Model). m.tx) (dr_added d.registers (active_device d) w p q)

preloaded_tx : (d : DeviceModel) (ws : List ℕ) → Sixteen ws → length d.registers.tx + length ws ≤ 8 → (preloaded d ws).registers.tx ≡ d.registers.tx ++ ws
preloaded_tx d [] s l = sym (append-nil d.registers.tx)
preloaded_tx d (w ∷ ws) s l =
    let xs = d.registers.tx in
    let t = word_tx d w s.0 (omega (arith, l)) in
    preloaded_tx (write_device d DR w) ws s.1 (omega (arith, l, ap length t, length-append xs (w ∷ [])))
    ∙ ap (λ (ys : List ℕ). ys ++ ws) t
    ∙ append_assoc xs (w ∷ []) ws

enabled_tx : (d : DeviceModel) → (write_device d CR1 enabled).registers.tx ≡ d.registers.tx
unfolding write_device
enabled_tx d = cr1_tx d.registers (active_device d) enabled

-- Up to eight words are the load.
pub loaded-words : (e : Bool) (cr0 cpsr : ℕ) (ws : List ℕ) → length ws ≤ 8 → Sixteen ws → (enabled_with e cr0 cpsr ws).registers.tx ≡ ws
unfolding enabled_with
loaded-words e cr0 cpsr ws l s =
    let d = configured e cr0 cpsr in
    let t = set_tx e cr0 cpsr in
    enabled_tx (preloaded d ws)
    ∙ preloaded_tx d ws s (omega (arith, l, ap length t))
    ∙ ap (λ (ys : List ℕ). ys ++ ws) t

-- What it shows -------------------------------------------------------------------------------------------------------------

-- A master enabled with these settings, in either edition, shows the drawing of its load.
pub shown : (s : Settings) (e : Bool) (d : DeviceModel) (o v : ℕ) → Enabling (in_edition e s) d o v → (ws : List ℕ) → (write_device d o v).registers.tx ≡ ws
    → (ps : List Pins) → length ps ≡ (cycles_of (slot_total s (length ws)) s.divisor).0 → recording (write_device d o v) ps ≡ stretch s.divisor.0 (drawing s ws)
shown s e d o v k ws t ps l =
    let xs = (write_device d o v).registers.tx in
    let h = s.divisor.0 in
    let cycles : Slots → ℕ = λ u. (cycles_of u s.divisor).0 in
    let long : length ps ≡ (cycles_of (slot_total (in_edition e s) (length xs)) s.divisor).0 + 0 =
    omega (arith, l, ap (λ (u : List ℕ). cycles (slot_total s (length u))) t, ap cycles (total_edition e s (length xs))) in
    enabling_recorded (in_edition e s) d o v k ps 0 long
    ∙ append-nil (stretch h (drawing (in_edition e s) xs))
    ∙ ap (stretch h) (drawing_edition e s xs)
    ∙ ap (λ (u : List ℕ). stretch h (drawing s u)) t

-- So does one made by writes alone, of the words that it was preloaded with.
pub enabled_shown : (e : Bool) (cr0 cpsr : ℕ) → enabled_of (control_with cr0 cpsr) ≡ true → (ws : List ℕ) → length ws ≤ 8 → Sixteen ws → (ps : List Pins)
    → length ps ≡ (cycles_of (slot_total (meant cr0 cpsr) (length ws)) (meant cr0 cpsr).divisor).0
    → recording (enabled_with e cr0 cpsr ws) ps ≡ stretch (meant cr0 cpsr).divisor.0 (drawing (meant cr0 cpsr) ws)
unfolding enabled_with
enabled_shown e cr0 cpsr h ws n s ps l = shown (meant cr0 cpsr) e (preloaded (configured e cr0 cpsr) ws) CR1 enabled (enabling e cr0 cpsr ws h) ws (loaded-words e cr0 cpsr ws n s) ps l
