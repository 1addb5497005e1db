-- The contract of the judge leaves one verdict.
use Prim.Native.Nat.{ℕ}
use mathlib.Core.Path.{◌≡◌, sym, ap, ◌∙◌}
use mathlib.Core.List.{List}
use native.Mathlib.Omega.{arith}
use lib.ListN.{length}
use Rattle.judge.specs.Judge.{Words, Leading, Refused, refusal_before, in_eight, Given, NotGiven, OneVerdict}
use Rattle.judge.proofs.Preloaded.{only_words}

module _ (cr0 cpsr : ℕ) (r : List ℕ) where
  one_count : (n m : ℕ) (a b : List ℕ) → Given cr0 cpsr r n a → Given cr0 cpsr r m b → (Words n ≡ Words m) × (a ≡ b)
  one_count n m a b k j =
      let e = only_words cr0 cpsr r k.words j.words k.accepted j.accepted in
      (ap Words (k.count ∙ ap length e ∙ sym j.count), k.eight ∙ ap in_eight e ∙ sym j.eight)

  one_leading : (n m : ℕ) → NotGiven cr0 cpsr r n → NotGiven cr0 cpsr r m → Leading n ≡ Leading m
  one_leading n m k j =
      let a = j.furthest.most n k.furthest.reached in
      let b = k.furthest.most m j.furthest.reached in
      let e : n ≡ m = omega arith in
      ap Leading e

  -- refused before, and not refused before
  barred : {A : Type 0} (q : ℕ) → refusal_before cr0 cpsr r ≡ 0 → refusal_before cr0 cpsr r ≡ q → (q ≡ 0 → ⊥) → A
  barred q z e n = absurd (n (sym e ∙ z))

  either : {A : Type 0} (n m : ℕ) (a : List ℕ) → Given cr0 cpsr r n a → NotGiven cr0 cpsr r m → A
  either n m a k j = absurd (j.none k.words k.accepted)

pub one_verdict : OneVerdict
one_verdict cr0 cpsr r places (Words n) (Words m) a b k j = one_count cr0 cpsr r n m a b k.1 j.1
one_verdict cr0 cpsr r places (Words n) (Leading m) a b k j = either cr0 cpsr r n m a k.1 j.1
one_verdict cr0 cpsr r places (Words n) (Refused q) a b k j = barred cr0 cpsr r q k.0 j.0 j.1
one_verdict cr0 cpsr r places (Leading n) (Words m) a b k j = either cr0 cpsr r m n b j.1 k.1
one_verdict cr0 cpsr r places (Leading n) (Leading m) a b k j = (one_leading cr0 cpsr r n m k.1 j.1, k.2 ∙ sym j.2)
one_verdict cr0 cpsr r places (Leading n) (Refused q) a b k j = barred cr0 cpsr r q k.0 j.0 j.1
one_verdict cr0 cpsr r places (Refused q) (Words m) a b k j = barred cr0 cpsr r q j.0 k.0 k.1
one_verdict cr0 cpsr r places (Refused q) (Leading m) a b k j = barred cr0 cpsr r q j.0 k.0 k.1
one_verdict cr0 cpsr r places (Refused q) (Refused p) a b k j = (ap Refused (sym k.0 ∙ j.0), k.2 ∙ sym j.2)
