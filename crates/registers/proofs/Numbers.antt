-- Refusals and their numbers.
use mathlib.Core.Path.{◌≡◌, refl}
use mathlib.Core.Bool.{false}
use lib.Dec.{eqb}
use Rattle.registers.specs.Refusals.{number}
use Rattle.registers.specs.declared.refusals.Refusal.{Refusal}
use Rattle.registers.specs.declared.refusals.Refusal.TheVariants.{BadOffset, ReservedOffset, WrongAccess, ExtraBits, EngineActive, NotPermitted, QueueFull, QueueEmpty}

-- no refusal has the number of a done access
pub number_given : (e : Refusal) → eqb (number e) 0 ≡ false
number_given BadOffset = refl
number_given ReservedOffset = refl
number_given WrongAccess = refl
number_given ExtraBits = refl
number_given EngineActive = refl
number_given NotPermitted = refl
number_given QueueFull = refl
number_given QueueEmpty = refl
