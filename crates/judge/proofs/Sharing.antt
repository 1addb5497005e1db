-- How many leading cycles two recordings share, found cycle by cycle.
use Prim.Native.Nat.{ℕ, zero, suc, min, ◌+◌, ◌-◌, ◌≤◌, ◌<◌}
use mathlib.Core.Path.{◌≡◌, refl, sym, ap, ap₂, ◌∙◌}
use mathlib.Core.Bool.{Bool, true, false, cond}
use mathlib.Core.List.{List, [], ◌∷◌, ◌++◌}
use native.Mathlib.Omega.{arith}
use lib.Dec.{eqb}
use lib.ListN.{length, take, drop, length-drop, replicate}
use lib.Seq.{take_all}
use borrow.Author.Tests.{eqb-true, eqb-false, eq-eqb, ne_eqb, lt-ltb, le-ltb}
use Rattle.registers.specs.Choose.{pick}
use Rattle.judge.specs.Shared.{shared, second_longer, longer, difference}
use Rattle.std.specs.List.{prefix_len, zip}
use Rattle.std.proofs.lemmas.List.Folds.{length-prefix_len}

pub shared_least : (xs ys : List ℕ) → shared xs ys ≤ length xs
unfolding shared
shared_least [] ys = omega arith
shared_least (x ∷ xs) [] = omega arith
shared_least (x ∷ xs) (y ∷ ys) = go (eqb x y) (shared_least xs ys)
  where
    go : (b : Bool) → shared xs ys ≤ length xs → pick b (suc (shared xs ys)) 0 ≤ suc (length xs)
    go true l = omega arith
    go false l = omega arith

pub shared_most : (xs ys : List ℕ) → shared xs ys ≤ length ys
unfolding shared
shared_most [] ys = omega arith
shared_most (x ∷ xs) [] = omega arith
shared_most (x ∷ xs) (y ∷ ys) = go (eqb x y) (shared_most xs ys)
  where
    go : (b : Bool) → shared xs ys ≤ length ys → pick b (suc (shared xs ys)) 0 ≤ suc (length ys)
    go true l = omega arith
    go false l = omega arith

pub shared_self : (xs : List ℕ) → shared xs xs ≡ length xs
unfolding shared
shared_self [] = refl
shared_self (x ∷ xs) = ap (λ (b : Bool). pick b (suc (shared xs xs)) 0) (eq-eqb x x refl) ∙ ap suc (shared_self xs)

shared_cons : (x : ℕ) (xs ys : List ℕ) → shared (x ∷ xs) (x ∷ ys) ≡ suc (shared xs ys)
unfolding shared
shared_cons x xs ys = ap (λ (b : Bool). pick b (suc (shared xs ys)) 0) (eq-eqb x x refl)

pub shared_apart : (x y : ℕ) (xs ys : List ℕ) → (x ≡ y → ⊥) → shared (x ∷ xs) (y ∷ ys) ≡ 0
unfolding shared
shared_apart x y xs ys n = ap (λ (b : Bool). pick b (suc (shared xs ys)) 0) (ne_eqb x y n)

pub shared_none : (xs : List ℕ) → shared xs [] ≡ 0
unfolding shared
shared_none [] = refl
shared_none (x ∷ xs) = refl

-- a common part before
pub shared-append : (zs xs ys : List ℕ) → shared (zs ++ xs) (zs ++ ys) ≡ length zs + shared xs ys
shared-append [] xs ys = omega arith
shared-append (z ∷ zs) xs ys = shared_cons z (zs ++ xs) (zs ++ ys) ∙ omega (arith, shared-append zs xs ys)

-- all of the first list is shared: it begins the second
pub shared_full : (xs ys : List ℕ) → shared xs ys ≡ length xs → ys ≡ xs ++ drop (length xs) ys
unfolding shared
shared_full [] ys e = refl
shared_full (x ∷ xs) [] e = absurd (omega arith)
shared_full (x ∷ xs) (y ∷ ys) e = go (eqb x y) refl e (shared_full xs ys)
  where
    go : (b : Bool) → eqb x y ≡ b → pick b (suc (shared xs ys)) 0 ≡ suc (length xs) → (shared xs ys ≡ length xs → ys ≡ xs ++ drop (length xs) ys) → (y ∷ ys) ≡ x ∷ (xs ++ drop (length xs) ys)
    go true q e f = ap₂ ◌∷◌ (sym (eqb-true x y q)) (f (omega arith))
    go false q e f = absurd (omega arith)

-- part of the first list is shared: what comes after it does not count
pub shared_part : (xs zs ys : List ℕ) → shared xs ys < length xs → shared (xs ++ zs) ys ≡ shared xs ys
unfolding shared
shared_part [] zs ys l = absurd (omega arith)
shared_part (x ∷ xs) zs [] l = refl
shared_part (x ∷ xs) zs (y ∷ ys) l = go (eqb x y) l (shared_part xs zs ys)
  where
    go : (b : Bool) → pick b (suc (shared xs ys)) 0 < suc (length xs) → (shared xs ys < length xs → shared (xs ++ zs) ys ≡ shared xs ys) → pick b (suc (shared (xs ++ zs) ys)) 0 ≡ pick b (suc (shared xs ys)) 0
    go true l f = ap suc (f (omega arith))
    go false l f = refl

-- As the code counts them ---------------------------------------------------------------------------------------------------------

one_more : (b : Bool) {m n : ℕ} → m ≡ n → cond b (1 + m) 0 ≡ pick b (suc n) 0
one_more true e = omega arith
one_more false e = refl

-- the pairs of equal cycles that come first
prefix_zip : (xs ys : List ℕ) (n : ℕ) → n ≡ min (length xs) (length ys) → prefix_len (λ p. eqb p.0 p.1) (zip (take n xs) (take n ys)) ≡ shared xs ys
unfolding shared
prefix_zip [] ys zero e = refl
prefix_zip [] ys (suc n) e = absurd (omega arith)
prefix_zip (x ∷ xs) [] zero e = refl
prefix_zip (x ∷ xs) [] (suc n) e = absurd (omega arith)
prefix_zip (x ∷ xs) (y ∷ ys) zero e = absurd (omega arith)
prefix_zip (x ∷ xs) (y ∷ ys) (suc n) e = one_more (eqb x y) (prefix_zip xs ys n (omega arith))

pub shared_zip : (xs ys : List ℕ) (n : ℕ) → n ≡ min (length xs) (length ys)
    → length (take (prefix_len (λ p. eqb p.0 p.1) (zip (take n xs) (take n ys))) (zip (take n xs) (take n ys))) ≡ shared xs ys
shared_zip xs ys n e = length-prefix_len (λ (p : ℕ × ℕ). eqb p.0 p.1) (zip (take n xs) (take n ys)) ∙ prefix_zip xs ys n e

eqb_turned : (x y : ℕ) → eqb y x ≡ eqb x y
eqb_turned x y = go (eqb x y) refl
  where
    go : (b : Bool) → eqb x y ≡ b → eqb y x ≡ b
    go true e = eq-eqb y x (sym (eqb-true x y e))
    go false e = ne_eqb y x (λ k. eqb-false x y e (sym k))

-- the cycles equal to one that come first
prefix_one : (x : ℕ) (ys : List ℕ) → prefix_len (λ y. eqb y x) ys ≡ shared (replicate (length ys) x) ys
unfolding shared
prefix_one x [] = refl
prefix_one x (y ∷ ys) = ap (λ (b : Bool). cond b (1 + prefix_len (λ z. eqb z x) ys) 0) (eqb_turned x y) ∙ one_more (eqb x y) (prefix_one x ys)

pub shared_one : (x : ℕ) (ys : List ℕ) → length (take (prefix_len (λ y. eqb y x) ys) ys) ≡ shared (replicate (length ys) x) ys
shared_one x ys = length-prefix_len (λ y. eqb y x) ys ∙ prefix_one x ys

-- the cycles of a slot tell those of the rest of the recording
pub shared_slot : (n x : ℕ) (ys more : List ℕ) → length ys ≡ min n (length (ys ++ more)) → shared (replicate (length ys) x) ys ≡ shared (replicate n x) (ys ++ more)
unfolding shared
shared_slot zero x [] more e = refl
shared_slot (suc n) x [] [] e = refl
shared_slot (suc n) x [] (y ∷ more) e = absurd (omega arith)
shared_slot zero x (y ∷ ys) more e = absurd (omega arith)
shared_slot (suc n) x (y ∷ ys) more e = ap (λ (k : ℕ). pick (eqb x y) (suc k) 0) (shared_slot n x ys more (omega (arith, e)))

-- The part handed back ----------------------------------------------------------------------------------------------------------------

-- it lies within the one that it is a part of
pub within_second : (xs ys : List ℕ) (n : ℕ) → n ≡ shared xs ys → n ≤ length ys
within_second xs ys n e = let l = shared_most xs ys in omega arith

pub within_first : (xs ys : List ℕ) (n : ℕ) → n ≡ shared xs ys → n ≤ length xs
within_first xs ys n e = let l = shared_least xs ys in omega arith

from_part : (xs : List ℕ) (n m : ℕ) → n ≡ m → take (length xs - n) (drop n xs) ≡ drop m xs
from_part xs n m e = take_all (length xs - n) (drop n xs) (let l = length-drop n xs in omega arith) ∙ ap (λ (k : ℕ). drop k xs) e

pub difference_second : (xs ys : List ℕ) (n : ℕ) → n ≡ shared xs ys → length xs < length ys → take (length ys - n) (drop n ys) ≡ difference xs ys
unfolding difference longer second_longer
difference_second xs ys n e l = from_part ys n (shared xs ys) e ∙ ap (λ (b : Bool). drop (shared xs ys) (pick b ys xs)) (sym (lt-ltb (length xs) (length ys) l))

pub difference_first : (xs ys : List ℕ) (n : ℕ) → n ≡ shared xs ys → length ys ≤ length xs → take (length xs - n) (drop n xs) ≡ difference xs ys
unfolding difference longer second_longer
difference_first xs ys n e l = from_part xs n (shared xs ys) e ∙ ap (λ (b : Bool). drop (shared xs ys) (pick b ys xs)) (sym (le-ltb (length xs) (length ys) l))

-- Where it starts is told by its length.
pub start_second : (xs ys : List ℕ) → length xs < length ys → length ys - length (difference xs ys) ≡ shared xs ys
start_second xs ys l =
    let e = ap length (sym (difference_second xs ys (shared xs ys) refl l) ∙ from_part ys (shared xs ys) (shared xs ys) refl) ∙ length-drop (shared xs ys) ys in
    let m = shared_most xs ys in
    omega (arith, e, m)

pub start_first : (xs ys : List ℕ) → length ys ≤ length xs → length xs - length (difference xs ys) ≡ shared xs ys
start_first xs ys l =
    let e = ap length (sym (difference_first xs ys (shared xs ys) refl l) ∙ from_part xs (shared xs ys) (shared xs ys) refl) ∙ length-drop (shared xs ys) xs in
    let m = shared_least xs ys in
    omega (arith, e, m)

-- it is no longer than the recording that it is a part of
pub part_second : (xs ys : List ℕ) → length xs < length ys → length (difference xs ys) ≤ length ys
part_second xs ys l =
    let e = ap length (sym (difference_second xs ys (shared xs ys) refl l) ∙ from_part ys (shared xs ys) (shared xs ys) refl) ∙ length-drop (shared xs ys) ys in
    omega (arith, e)

pub part_first : (xs ys : List ℕ) → length ys ≤ length xs → length (difference xs ys) ≤ length xs
part_first xs ys l =
    let e = ap length (sym (difference_first xs ys (shared xs ys) refl l) ∙ from_part xs (shared xs ys) (shared xs ys) refl) ∙ length-drop (shared xs ys) xs in
    omega (arith, e)

pub is_second : (xs ys : List ℕ) → length xs < length ys → second_longer xs ys ≡ true
unfolding second_longer
is_second xs ys l = lt-ltb (length xs) (length ys) l

pub is_first : (xs ys : List ℕ) → length ys ≤ length xs → second_longer xs ys ≡ false
unfolding second_longer
is_first xs ys l = le-ltb (length xs) (length ys) l
