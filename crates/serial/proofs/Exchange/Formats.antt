-- The formats of a wired pair: Motorola with SPH 0 and SPH 1, TI, Microwire.
use Prim.Native.Nat.{ℕ, suc, ◌+◌, ◌*◌, ◌≤◌}
use mathlib.Core.Path.{◌≡◌, refl, sym, subst}
use mathlib.Core.Bool.{Bool, true, false}
use mathlib.Core.Logic.{◌⊎◌, inl, inr}
use native.Mathlib.Omega.{arith}
use native.Mathlib.Nat.{le_refl}
use Rattle.registers.specs.Time.{cycles_of}
use Rattle.registers.specs.declared.settings.Format.{Format}
use Rattle.registers.specs.declared.settings.Format.TheVariants.{Motorola, Ti, Microwire}
use Rattle.serial.specs.Slave.{slave_step, ti_slave}
use Rattle.serial.specs.Pair.{wire}
use Rattle.serial.proofs.Exchange.Quiet.{lawful_motorola, lawful_ti, lawful_microwire}
use Rattle.serial.proofs.Exchange.Turn.{turned_motorola, turned_ti, turned_microwire}
use Rattle.serial.proofs.Exchange.Wiring.{Wiring}
use Rattle.serial.proofs.Exchange.Ends.{stays_idle_motorola}
use Rattle.serial.proofs.Exchange.Phase0 as phase0
use Rattle.serial.proofs.Exchange.Phase1 as phase1
use Rattle.serial.proofs.Exchange.Ti as ti-words
use Rattle.serial.proofs.Exchange.Microwire as microwire-words

module _ (b h : ℕ) (l : 4 ≤ b) (m : b ≤ 16) (k : 6 ≤ h) where
  motorola : (phase : Bool) → Wiring Motorola phase b h
  unfolding cycles_of
  motorola false =
      record {
        lawful = lawful_motorola false b h;
        stays_idle = stays_idle_motorola false b h;
        turned = turned_motorola false b h;
        slots = λ n. n * (2 * b + 4) + (2 * b + 2);
        exchange = phase0.exchange b h (omega arith) m k;
        in_time = λ n. omega arith;
      }
  motorola true =
      record {
        lawful = lawful_motorola true b h;
        stays_idle = stays_idle_motorola true b h;
        turned = turned_motorola true b h;
        slots = λ n. 2 * b * suc n + 2;
        exchange = phase1.exchange b h (omega arith) m k;
        in_time = λ n. omega arith;
      }

  ti : (phase : Bool) → Wiring Ti phase b h
  unfolding cycles_of slave_step ti_slave wire
  ti phase =
      record {
        lawful = lawful_ti phase b h;
        stays_idle = λ n. refl;
        turned = turned_ti phase b h;
        slots = λ n. 2 * b * suc n + 2;
        exchange = ti-words.exchange phase b h (omega arith) m;
        in_time = λ n. le_refl _;
      }

  microwire : (phase : Bool) → Wiring Microwire phase b h
  unfolding cycles_of
  microwire phase =
      record {
        lawful = lawful_microwire phase b h;
        stays_idle = microwire-words.stays_idle_microwire phase b h;
        turned = turned_microwire phase b h;
        slots = λ n. suc n * (2 * b + 18) + 1;
        exchange = microwire-words.exchange phase b h (omega arith) m k;
        in_time = λ n. omega arith;
      }

  pub wiring_of : (f : Format) → (f ≡ Motorola) ⊎ ((f ≡ Ti) ⊎ (f ≡ Microwire)) → (phase : Bool) → Wiring f phase b h
  wiring_of f (inl e) phase = subst (λ (f : Format). Wiring f phase b h) (sym e) (motorola phase)
  wiring_of f (inr (inl e)) phase = subst (λ (f : Format). Wiring f phase b h) (sym e) (ti phase)
  wiring_of f (inr (inr e)) phase = subst (λ (f : Format). Wiring f phase b h) (sym e) (microwire phase)
