-- Two recordings side by side: how many leading cycles they share, and their difference.
use Rattle.std.specs.Prelude.{ℕ, suc, Bool, List, [], ◌∷◌, ltb, eqb, length, drop}
use Rattle.registers.specs.Choose.{pick}

-- How many leading cycles two recordings share: those before the first difference, or all of the shorter recording.
unfoldable pub shared : List ℕ → List ℕ → ℕ
shared [] ys = 0
shared (x ∷ xs) [] = 0
shared (x ∷ xs) (y ∷ ys) = pick (eqb x y) (suc (shared xs ys)) 0

-- The second of two recordings is the longer one; the first counts as longer when they are equally long.
unfoldable pub second_longer : List ℕ → List ℕ → Bool
second_longer xs ys = ltb (length xs) (length ys)

-- The longer of two recordings.
unfoldable pub longer : List ℕ → List ℕ → List ℕ
longer xs ys = pick (second_longer xs ys) ys xs

-- The part of the longer recording from the first difference on; with no difference, from the end of the shorter one on.
unfoldable pub difference : List ℕ → List ℕ → List ℕ
difference xs ys = drop (shared xs ys) (longer xs ys)
