-- The order of two wired devices: with the devices swapped, a pair run gives the same devices, swapped.
use Prim.Native.Nat.{ℕ, zero, suc}
use mathlib.Core.Path.{◌≡◌, refl, ap, ◌∙◌}
use Rattle.serial.specs.Pair.{PairModel, pair_cycle, pair_run, swapped}

-- Swapping commutes with a pair cycle.
pub swap_cycle : (p : PairModel) → pair_cycle (swapped p) ≡ swapped (pair_cycle p)
unfolding pair_cycle
swap_cycle p = refl

-- Swapping commutes with a pair run.
pub swap_run : (n : ℕ) (p : PairModel) → pair_run n (swapped p) ≡ swapped (pair_run n p)
swap_run zero p = refl
swap_run (suc n) p = ap (pair_run n) (swap_cycle p) ∙ swap_run n (pair_cycle p)
