-- The if-then-else that every definition uses.
use Rattle.std.specs.Prelude.{Bool, true, false}

-- The first value if the test holds, otherwise the second.
abbrev pub pick : {A : Type 0} → Bool → A → A → A
pick true a b = a
pick false a b = b
