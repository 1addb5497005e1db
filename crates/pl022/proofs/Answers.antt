-- The part of two recordings that pl022_difference hands back.
use Prim.Native.Nat.{ℕ, ◌-◌, ◌≤◌, ◌<◌}
use mathlib.Core.Path.{◌≡◌, sym, ap, ◌∙◌, subst}
use mathlib.Core.Bool.{Bool}
use mathlib.Core.List.{List}
use lib.ListN.{length}
use Rattle.registers.specs.Choose.{pick}
use Rattle.judge.specs.Shared.{difference}
use Rattle.judge.proofs.Sharing.{start_second, start_first, part_second, part_first, is_second, is_first}
use Rattle.pl022.specs.Results.{DifferenceResult}

module _ (xs ys part : List ℕ) (e : part ≡ difference xs ys) where
  pub second_room : length xs < length ys → length part ≤ length ys
  second_room l = subst (λ (p : List ℕ). length p ≤ length ys) (sym e) (part_second xs ys l)

  pub first_room : length ys ≤ length xs → length part ≤ length xs
  first_room l = subst (λ (p : List ℕ). length p ≤ length xs) (sym e) (part_first xs ys l)

  pub second_part : length xs < length ys → DifferenceResult xs ys (record { second = 1; start = length ys - length part; length = length part })
  second_part l = record {
    which = ap (λ (b : Bool). pick b 1 0) (sym (is_second xs ys l));
    start = ap (λ (p : List ℕ). length ys - length p) e ∙ start_second xs ys l;
    long = ap length e;
  }

  pub first_part : length ys ≤ length xs → DifferenceResult xs ys (record { second = 0; start = length xs - length part; length = length part })
  first_part l = record {
    which = ap (λ (b : Bool). pick b 1 0) (sym (is_first xs ys l));
    start = ap (λ (p : List ℕ). length xs - length p) e ∙ start_first xs ys l;
    long = ap length e;
  }
