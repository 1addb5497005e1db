-- What a cycle leaves of the control registers and of the words to send, and what it does where the engine is not active.
use Prim.Native.Nat.{ℕ}
use mathlib.Core.Path.{◌≡◌, refl, ap, ◌∙◌}
use mathlib.Core.Bool.{Bool, true, false, not, ◌&&◌, ◌||◌, or-false}
use mathlib.Core.List.{List, ◌∷◌}
use lib.Dec.{ltb, eqb, eqb-suc-zero}
use lib.ListN.{length}
use Rattle.std.specs.Prelude.{Option, Some, None, is_some}
use Rattle.registers.specs.Choose.{pick}
use Rattle.registers.proofs.Picks.{pick_no, pick_both}
use Rattle.registers.specs.Model.{Model}
use Rattle.registers.specs.Settings.{enabled_of, settings_of}
use Rattle.registers.specs.Transfer.{added, rest, take_word, receive_word, end_cycle}
use Rattle.registers.specs.declared.Control.{Control}
use Rattle.registers.specs.declared.settings.Settings.{Settings}
use Rattle.frames.specs.Engine.{active_of, cleared, while_active, no_word}
use Rattle.frames.specs.Master.{resting, master_end}
use Rattle.serial.specs.Slave.{slave_end}
use Rattle.serial.specs.Cycle.{DeviceModel, active_device, step_of, tick_of, end_of, take_if, receive_if, step_model, device_step, cycle_of}
use Rattle.frames.specs.declared.engine.Engine.{Engine}
use Rattle.frames.specs.declared.engine.Step.{Step}
use Rattle.frames.specs.declared.lines.Pins.{Pins}

-- what sending and receiving a word keep, a step keeps
pub step_keeps : (P : Model → Type 0) (m : Model) (r : Step) → ((x : Model) → P x → P (take_word x)) → ((w : ℕ) → r.completed ≡ Some w → (x : Model) → P x → P (receive_word x w)) → P m → P (step_model m r)
unfolding take_if receive_if
step_keeps P m r f g h = go r.completed refl
  where
    taken : P (take_if m r.takes)
    taken = pick_both P r.takes _ _ (λ _. f m h) (λ _. h)

    go : (o : Option ℕ) → r.completed ≡ o → P (receive_if (take_if m r.takes) o)
    go None e = taken
    go (Some w) e = g w e _ taken

pub control_cycle : (d : DeviceModel) (pins : Pins) → (cycle_of d pins).registers.control ≡ d.registers.control
unfolding cycle_of end_cycle take_word receive_word
control_cycle d pins = step_keeps (λ (x : Model). x.control ≡ d.registers.control) d.registers (device_step d pins) (λ x h. h) (λ w e x h. h) refl

pub masks_cycle : (d : DeviceModel) (pins : Pins) → (cycle_of d pins).registers.masks ≡ d.registers.masks
unfolding cycle_of end_cycle take_word receive_word
masks_cycle d pins = step_keeps (λ (x : Model). x.masks ≡ d.registers.masks) d.registers (device_step d pins) (λ x h. h) (λ w e x h. h) refl

-- a word waits to be sent
abbrev pub waits : List ℕ → Bool
waits ws = not (eqb (length ws) 0)

pub waits_cons : (w : ℕ) (ws : List ℕ) → waits (w ∷ ws) ≡ true
waits_cons w ws = ap not (eqb-suc-zero (length ws))

-- what a word makes, if there is one, otherwise x
abbrev pub on_word : {A : Type 0} → Option ℕ → (ℕ → A) → A → A
on_word None f x = x
on_word (Some w) f x = f w

-- the register file after a step, part by part
pub step_file : (m : Model) (t : Bool) (o : Option ℕ) → receive_if (take_if m t) o
    ≡ record {
      control = m.control;
      masks = m.masks;
      timeout = record { rt = pick (is_some o) false m.timeout.rt; count = m.timeout.count };
      ror = pick (is_some o) (m.ror || not (ltb (length m.rx) 8)) m.ror;
      tx = pick t (rest m.tx) m.tx;
      rx = on_word o (λ (w : ℕ). added m.rx w) m.rx;
    }
unfolding receive_if take_if receive_word take_word
step_file m true (Some w) = refl
step_file m true None = refl
step_file m false (Some w) = refl
step_file m false None = refl

pub step_tx : (m : Model) (t : Bool) (o : Option ℕ) (f : Bool) → (end_cycle (receive_if (take_if m t) o) f).tx ≡ pick t (rest m.tx) m.tx
unfolding end_cycle
step_tx m t o f = ap (λ (x : Model). x.tx) (step_file m t o)

pub tx_cycle : (d : DeviceModel) (pins : Pins) → (cycle_of d pins).registers.tx ≡ pick (device_step d pins).takes (rest d.registers.tx) d.registers.tx
unfolding cycle_of
tx_cycle d pins = let r = device_step d pins in step_tx d.registers r.takes r.completed _

-- An active engine, and one that is not -----------------------------------------------------------------------------------

-- with SSE set it is active
pub active_on : (c : Control) (e : Engine) → enabled_of c ≡ true → active_of (settings_of c) e ≡ true
unfolding settings_of
active_on c e k = ap (λ (t : Bool). t || (e.frame && c.edition2)) k

-- with no frame in progress it is active where SSE is set
pub active_idle : (c : Control) (e : Engine) → e.frame ≡ false → active_of (settings_of c) e ≡ enabled_of c
unfolding settings_of
active_idle c e z = ap (λ (t : Bool). enabled_of c || (t && c.edition2)) z ∙ or-false (enabled_of c)

pub while_cleared : (s : Settings) → while_active s cleared ≡ cleared
while_cleared s = pick_both (λ (e : Engine). e ≡ cleared) (active_of s cleared) _ _ (λ _. refl) (λ _. refl)

-- where it is not active it is clear

pub step_stopped : (d : DeviceModel) (pins : Pins) → active_device d ≡ false → device_step d pins ≡ no_word cleared
unfolding device_step step_of
step_stopped d pins k = pick_no _ _ k

pub tick_cleared : (s : Settings) → tick_of s cleared ≡ cleared
unfolding tick_of slave_end master_end resting
tick_cleared s = pick_both (λ (e : Engine). e ≡ cleared) s.slave _ _ (λ _. refl) (λ _. refl)

pub end_cleared : (s : Settings) → end_of s cleared ≡ cleared
unfolding end_of
end_cleared s = ap (while_active s) (tick_cleared s) ∙ while_cleared s

pub cycle_stopped : (d : DeviceModel) (pins : Pins) → active_device d ≡ false → (cycle_of d pins).engine ≡ cleared
unfolding cycle_of
cycle_stopped d pins k = ap (λ (r : Step). end_of (settings_of d.registers.control) r.engine) (step_stopped d pins k) ∙ end_cleared _
