-- The laws of a branch and of joined tests, shared by the theorems of every layer.
use mathlib.Core.Path.{◌≡◌, refl, ap}
use mathlib.Core.Bool.{Bool, true, false, not, ◌&&◌, ◌||◌, true≢false, false≢true}
use Rattle.registers.specs.Choose.{pick}

-- a branch whose test is known

pub pick_yes : {A : Type 0} {t : Bool} (x y : A) → t ≡ true → pick t x y ≡ x
pick_yes {A} x y h = ap (λ (t : Bool). pick t x y) h

pub pick_no : {A : Type 0} {t : Bool} (x y : A) → t ≡ false → pick t x y ≡ y
pick_no {A} x y h = ap (λ (t : Bool). pick t x y) h

-- what holds for both branches, each under its test
pub pick_both : {A : Type 0} (P : A → Type 0) (t : Bool) (x y : A) → (t ≡ true → P x) → (t ≡ false → P y) → P (pick t x y)
pick_both P true x y p q = p refl
pick_both P false x y p q = q refl

-- two branches of one test, alike under f
pub pick_alike : {A B : Type 0} (f : A → B) (t : Bool) (x y x' y' : A) → f x ≡ f x' → f y ≡ f y' → f (pick t x y) ≡ f (pick t x' y')
pick_alike f true x y x' y' p q = p
pick_alike f false x y x' y' p q = q

-- tests joined by `and`

pub and_left : (a b : Bool) → (a && b) ≡ true → a ≡ true
and_left true b h = refl
and_left false b h = h

pub and_right : (a b : Bool) → (a && b) ≡ true → b ≡ true
and_right true b h = h
and_right false b h = absurd (false≢true h)

pub and_off : (a b : Bool) → (a && b) ≡ false → a ≡ true → b ≡ false
and_off true b h k = h
and_off false b h k = absurd (false≢true k)

-- a test that counts only under another

pub under_elim : (a b : Bool) → (not a || b) ≡ true → a ≡ true → b ≡ true
under_elim true b h k = h
under_elim false b h k = absurd (false≢true k)

pub under_intro : (a b : Bool) → (a ≡ true → b ≡ true) → (not a || b) ≡ true
under_intro true b f = f refl
under_intro false b f = refl

pub under_off : (a b : Bool) → (not a || b) ≡ false → (a ≡ true) × (b ≡ false)
under_off true b h = (refl, h)
under_off false b h = absurd (true≢false h)

pub both_absurd : {A : Type 0} (t : Bool) → t ≡ true → t ≡ false → A
both_absurd true h k = absurd (true≢false k)
both_absurd false h k = absurd (false≢true h)
