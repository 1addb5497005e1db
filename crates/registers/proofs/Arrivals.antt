-- The arrival of a word, by what the queue answers.
use Prim.Native.Nat.{ℕ}
use mathlib.Core.Path.{◌≡◌, refl}
use mathlib.Core.Bool.{Bool, true, false, not}
use mathlib.Core.List.{[], ◌∷◌}
use Rattle.std.specs.Prelude.{Option, Some, None, is_some}
use Rattle.registers.specs.Choose.{pick, words_of}

-- a word is handed back where no place is free
pub some_by : (t : Bool) (w : ℕ) (k : Option ℕ) → words_of k ≡ pick t [] (w ∷ []) → is_some k ≡ not t
some_by true w (Some x) h = absurd cc
some_by true w None h = refl
some_by false w (Some x) h = refl
some_by false w None h = absurd cc
