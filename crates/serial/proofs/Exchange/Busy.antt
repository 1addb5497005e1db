-- A pair's master is busy as long as it would be alone, whatever the slave sends: its first BSY 0 follows from it alone.
use Prim.Native.Nat.{ℕ, zero, suc, ◌≤◌, ◌<◌}
use mathlib.Core.Path.{◌≡◌, refl, sym, ap, ◌∙◌, subst}
use mathlib.Core.Bool.{true, false}
use mathlib.Core.List.{List, [], ◌∷◌}
use lib.ListN.{length}
use Rattle.registers.specs.declared.settings.Settings.{Settings}
use Rattle.serial.specs.Cycle.{after}
use Rattle.serial.specs.Busy.{busy_device}
use Rattle.serial.specs.Pair.{wire, PairModel, pair_cycle, pair_run}
use Rattle.serial.specs.Demand3.{busy, load}
use Rattle.serial.specs.Demand3.Which.{master}
use Rattle.serial.proofs.Drawing.Recorded.{Fresh}
use Rattle.serial.proofs.Drawing.Free.{busy_cycles, stays_busy, gets_free}
use Rattle.frames.specs.declared.lines.Pins.{Pins}

-- what the slave's lines put on the master's pins in n cycles
abbrev master_pins : ℕ → PairModel → List Pins
master_pins zero g = []
master_pins (suc n) g = wire g.second.lines ∷ master_pins n (pair_cycle g)

length_pins : (n : ℕ) (g : PairModel) → length (master_pins n g) ≡ n
length_pins zero g = refl
length_pins (suc n) g = ap suc (length_pins n (pair_cycle g))

run-after : (n : ℕ) (g : PairModel) → (pair_run n g).first ≡ after g.first (master_pins n g)
unfolding pair_cycle
run-after zero g = refl
run-after (suc n) g = run-after n (pair_cycle g)

-- BSY is 1 before that many cycles, 0 from then on.
module _ (s : Settings) (g : PairModel) (k : Fresh s g.first) where
  pub pair_busy : (n : ℕ) → n < (busy_cycles s (length (load master g))).0 → busy master (pair_run n g) ≡ true
  pair_busy n l =
      ap busy_device (run-after n g) ∙ stays_busy s g.first k (master_pins n g) (subst (λ (i : ℕ). i < (busy_cycles s (length (load master g))).0) (sym (length_pins n g)) l)

  pub pair_free : (n : ℕ) → (busy_cycles s (length (load master g))).0 ≤ n → busy master (pair_run n g) ≡ false
  pair_free n l =
      ap busy_device (run-after n g) ∙ gets_free s g.first k (master_pins n g) (subst (λ (i : ℕ). (busy_cycles s (length (load master g))).0 ≤ i) (sym (length_pins n g)) l)
