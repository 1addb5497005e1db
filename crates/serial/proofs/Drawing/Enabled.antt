-- Enabling: the CR1 write that sets SSE in a sound record with no frame in progress leaves a fresh master, so its recording
-- determines its load.
use Prim.Native.Nat.{ℕ}
use mathlib.Core.Path.{◌≡◌, refl, sym, ap, ◌∙◌, subst}
use mathlib.Core.Bool.{true, false}
use Rattle.registers.specs.Settings.{enabled_of, settings_of}
use Rattle.registers.proofs.Soundness.{enabled_elim, control_intro, sound_elim}
use Rattle.registers.specs.declared.settings.Settings.{Settings}
use Rattle.serial.specs.Cycle.{DeviceModel, active_device}
use Rattle.serial.proofs.Cycles.{active_on, active_idle}
use Rattle.serial.proofs.Unreceived.{Masters}
use Rattle.serial.specs.Access.{write_device}
use Rattle.serial.specs.Sound.{sound_device}
use Rattle.serial.proofs.Soundness.{Stopped, stopped_elim, stopped, sound_registers_lem, sound_write}
use Rattle.serial.proofs.Accesses.{engine_enabling}
use Rattle.serial.proofs.Drawing.Recorded.{Fresh, recorded, load_bytes_injective}
use Rattle.serial.specs.Demand3.{in_edition, Enabling, LastSentence, Recorded}

-- With SSE clear and no frame in progress a sound engine is stopped.
sound_stopped : (d : DeviceModel) → sound_device d ≡ true → enabled_of d.registers.control ≡ false → d.engine.frame ≡ false → Stopped d.engine
sound_stopped d h k z = stopped_elim d.engine (stopped d h (active_idle d.registers.control d.engine z ∙ k))

-- A sound, enabled master whose engine is stopped.
pub fresh_sound : (d : DeviceModel) → sound_device d ≡ true → enabled_of d.registers.control ≡ true → Masters d → Stopped d.engine → Fresh (settings_of d.registers.control) d
unfolding settings_of
fresh_sound d h e m z =
    let c = d.registers.control in
    let a = active_device d in
    let t = enabled_elim c a (control_intro c a (sound_elim d.registers a (sound_registers_lem d h)).control) (active_on c d.engine e) in
    record {
      set = refl;
      enabled = e;
      master = m;
      serves = t.format;
      least = t.least;
      most = t.most;
      divisor = t.divisor;
      frame = z.frame;
      slot = z.slot;
      elapsed = z.elapsed;
    }

pub fresh_enabling : (s : Settings) (d : DeviceModel) (o v : ℕ) → Enabling s d o v → Fresh s (write_device d o v)
unfolding settings_of
fresh_enabling s d o v k =
    let d' = write_device d o v in
    subst (λ (u : Settings). Fresh u d') k.set
    (fresh_sound d' (sound_write d o v k.sound) (ap (λ (u : Settings). u.enabled) k.set ∙ k.enabled) (ap (λ (u : Settings). u.slave) k.set ∙ k.master)
    (subst Stopped (sym (engine_enabling d o v k.clear)) (sound_stopped d k.sound k.clear k.idle)))

-- Demand 3, its last sentence.
pub enabling_injective : LastSentence
enabling_injective s m n d d' o v o' v' k k' ps qs l l' e =
    load_bytes_injective s m n (write_device d o v) (write_device d' o' v') (fresh_enabling (in_edition m s) d o v k) (fresh_enabling (in_edition n s) d' o' v' k') ps qs l l' e

pub enabling_recorded : Recorded
enabling_recorded s d o v e ps k l = recorded s (write_device d o v) (fresh_enabling s d o v e) ps k l
