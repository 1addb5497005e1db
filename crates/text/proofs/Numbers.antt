-- Refusal numbers.
use Prim.Native.Nat.{ℕ, zero, suc}
use mathlib.Core.Path.{◌≡◌, refl, ◌∙◌, ap}
use native.Mathlib.Omega.{arith}
use borrow.Author.Tests.{ne_eqb}
use Rattle.std.specs.Prelude.{Result, Err, IsErrAnd}
use Rattle.std.proofs.lemmas.Result.{err_from_is_err_and}
use Rattle.text.specs.Refusals.{done, number, first_of}
use Rattle.text.specs.declared.refusals.Refusal.{Refusal}
use Rattle.text.specs.declared.refusals.Refusal.TheVariants.{TooManyCycles, BadCycle, BadPlaces, TooShort, BadCharacter, EmptyLine, NoLineFeed}

-- Nothing is refused if neither of two is.
pub first_done : (a b : ℕ) → first_of a b ≡ done → (a ≡ done) × (b ≡ done)
first_done zero b e = (refl, e)
first_done (suc a) b e = absurd (let n = rw (ne_eqb (suc a) 0 (λ z. omega arith)) at e in omega arith)

-- No refusal has the number 0.
pub refused_number : (r : Refusal) → number r ≡ done → ⊥
refused_number TooManyCycles e = let l : ◌≡◌ {A = ℕ} 13 0 = e in omega arith
refused_number BadCycle e = let l : ◌≡◌ {A = ℕ} 14 0 = e in omega arith
refused_number BadPlaces e = let l : ◌≡◌ {A = ℕ} 15 0 = e in omega arith
refused_number TooShort e = let l : ◌≡◌ {A = ℕ} 16 0 = e in omega arith
refused_number BadCharacter e = let l : ◌≡◌ {A = ℕ} 17 0 = e in omega arith
refused_number EmptyLine e = let l : ◌≡◌ {A = ℕ} 18 0 = e in omega arith
refused_number NoLineFeed e = let l : ◌≡◌ {A = ℕ} 19 0 = e in omega arith

-- What the exit of a `?` hands on.
pub handed_on : {A : Type 0} (r : Result A Refusal) (e : Refusal) → IsErrAnd r (λ y. y ≡ e) → r ≡ Err e
handed_on r e h = let p = err_from_is_err_and r h in p.1 ∙ ap Err p.2
