-- The judge's ways out.
use Prim.Native.Nat.{ℕ, ◌≤◌, ◌<◌}
use mathlib.Core.Path.{◌≡◌, refl, sym, ap, ap₂, ◌∙◌, subst}
use mathlib.Core.Bool.{Bool, true, false}
use mathlib.Core.List.{List, []}
use native.Mathlib.Omega.{arith}
use lib.Dec.{ltb}
use lib.ListN.{length}
use borrow.Author.Tests.{lt-ltb, le-ltb}
use Rattle.registers.specs.Choose.{pick}
use Rattle.registers.specs.Model.{Model, model_of}
use Rattle.registers.specs.Settings.{settings_of, enabled_of, enabled}
use Rattle.registers.specs.declared.settings.Settings.{Settings}
use Rattle.serial.specs.Cycle.{DeviceModel, device_of}
use Rattle.serial.specs.Preloaded.{enabled_with}
use Rattle.serial.specs.declared.Device.{Device}
use Rattle.judge.specs.Judge.{can_enable, settings, most_cycles, Words, Refused, rejected, refusal_before, Judged}
use Rattle.judge.specs.Follow.{Permitted, Followed}
use Rattle.judge.specs.declared.judge.Rejection.{Rejection}
use Rattle.judge.specs.declared.judge.Rejection.TheVariants.{NotPermitted, NoList, TooLong}
use Rattle.judge.proofs.Preloaded.{permitted}

module _ (cr0 cpsr : ℕ) (d : Device) (e : device_of d ≡ enabled_with false cr0 cpsr []) where
  model_as : model_of d.registers ≡ (enabled_with false cr0 cpsr []).registers
  unfolding device_of
  model_as = ap (λ (m : DeviceModel). m.registers) e

  pub can_as : (on : Bool) → on ≡ enabled (model_of d.registers) → can_enable cr0 cpsr ≡ on
  unfolding can_enable
  can_as on k = ap (λ (m : Model). enabled_of m.control) (sym model_as) ∙ sym k

  pub settings_as : (s : Settings) → s ≡ settings_of (model_of d.registers).control → settings cr0 cpsr ≡ s
  unfolding settings
  settings_as s k = ap (λ (m : Model). settings_of m.control) (sym model_as) ∙ sym k

pub permitted_as : (cr0 cpsr : ℕ) (s : Settings) → can_enable cr0 cpsr ≡ true → settings cr0 cpsr ≡ s → Permitted s
permitted_as cr0 cpsr s can e = subst Permitted e (permitted cr0 cpsr can)

module _ (cr0 cpsr : ℕ) (r places : List ℕ) where
  pub judged_barred : can_enable cr0 cpsr ≡ false → Judged cr0 cpsr r places (Refused 6) places
  unfolding refusal_before
  judged_barred can = (ap (λ (b : Bool). pick b (pick (ltb most_cycles (length r)) 22 0) 6) can, λ e. absurd (omega arith), refl)

  pub judged_long : can_enable cr0 cpsr ≡ true → most_cycles < length r → Judged cr0 cpsr r places (Refused 22) places
  unfolding refusal_before
  judged_long can l = (ap₂ (λ (b a : Bool). pick b (pick a 22 0) 6) can (lt-ltb most_cycles (length r) l), λ e. absurd (omega arith), refl)

  module _ (can : can_enable cr0 cpsr ≡ true) (l : length r ≤ most_cycles) (s : Settings) (e : settings cr0 cpsr ≡ s) (found : List ℕ) where
    before : refusal_before cr0 cpsr r ≡ 0
    unfolding refusal_before
    before = ap₂ (λ (b a : Bool). pick b (pick a 22 0) 6) can (le-ltb most_cycles (length r) l)

    pub judged_words : (n : ℕ) → Followed s r (Words n) found → Judged cr0 cpsr r places (Words n) found
    judged_words n k = (before, k cr0 cpsr can e)

    pub judged_rejected : (q : Rejection) → Followed s r (rejected q) found → Judged cr0 cpsr r places (rejected q) places
    judged_rejected NotPermitted k = absurd (k cr0 cpsr can e)
    judged_rejected (NoList n) k = (before, k cr0 cpsr can e, refl)
    judged_rejected TooLong k = absurd (k cr0 cpsr can e)
