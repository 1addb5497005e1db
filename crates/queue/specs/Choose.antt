-- The if-then-else that every definition uses, and the words that an answer hands back.
use Rattle.std.specs.Prelude.{ℕ, Bool, true, false, Option, Some, None, List, [], ◌∷◌}

-- The first value if the test holds, otherwise the second.
abbrev pub pick : {A : Type 0} → Bool → A → A → A
pick true a b = a
pick false a b = b

-- The words that an answer hands back: one or none.
abbrev pub words_of : Option ℕ → List ℕ
words_of (Some w) = w ∷ []
words_of None = []
