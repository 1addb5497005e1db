-- A digit and its cycle determine each other.
use Prim.Native.Nat.{ℕ, suc, ◌+◌, ◌-◌, ◌≤◌, ◌<◌}
use mathlib.Core.Path.{◌≡◌, refl, sym, ap, ◌∙◌}
use mathlib.Core.Bool.{Bool, true, false, true≢false, false≢true, ◌&&◌, ◌||◌}
use native.Mathlib.Omega.{arith}
use native.Mathlib.Decide.{dec_lt}
use lib.Dec.{leb, eqb}
use borrow.Author.Tests.{eqb-true, leb-true, lt-ltb, le-ltb, le-leb, lt-leb, ne_eqb}
use Rattle.std.proofs.lemmas.Bool.{and_parts}
use Rattle.text.specs.Choose.{pick}
use Rattle.text.specs.Text.{line_feed, digit_of, character_of, is_digit}
use Rattle.text.specs.Read.{value_of, DigitValue}
use Rattle.text.specs.declared.characters.Character.{Character}
use Rattle.text.specs.declared.characters.Character.TheVariants.{Digit, LineFeed, Other}

-- Bytes 48 to 57 and 65 to 70.

read_decimal : (x : ℕ) → 48 ≤ x → x ≤ 57 → character_of x ≡ Digit (x - 48)
unfolding character_of
read_decimal x p q = rw (ne_eqb x 10 (λ e. omega arith), le-leb 48 x p, le-leb x 57 q)

read_letter : (x : ℕ) → 65 ≤ x → x ≤ 70 → character_of x ≡ Digit (x - 55)
unfolding character_of
read_letter x p q = rw (ne_eqb x 10 (λ e. omega arith), le-leb 48 x (omega arith), lt-leb x 57 (omega arith), le-leb 65 x p, le-leb x 70 q)

pub digit_decimal : (c : ℕ) → c < 10 → digit_of c ≡ c + 48
unfolding digit_of
digit_decimal c h = rw (lt-ltb c 10 h)

pub digit_letter : (c : ℕ) → 10 ≤ c → c < 16 → digit_of c ≡ c + 55
unfolding digit_of
digit_letter c p q = rw (le-ltb c 10 p, lt-ltb c 16 q)

-- The digit of a cycle is read as that cycle.
pub digit_read : (c : ℕ) → c ≤ 15 → character_of (digit_of c) ≡ Digit c
digit_read c h = go (dec_lt c 10)
  where
    go : Dec (c < 10) → character_of (digit_of c) ≡ Digit c
    go (yes p) = rw (digit_decimal c p) (read_decimal (c + 48) (omega arith) (omega arith) ∙ ap Digit (omega arith))
    go (no p) = rw (digit_letter c (omega arith) (omega arith)) (read_letter (c + 55) (omega arith) (omega arith) ∙ ap Digit (omega arith))

-- A character's cycle and one more, 0 if it is no digit.
abbrev value : Character → ℕ
value (Digit d) = suc d
value LineFeed = 0
value Other = 0

-- What is read as a cycle is that cycle's digit.
pub digit_written : (x d : ℕ) → character_of x ≡ Digit d → (digit_of d ≡ x) × (d ≤ 15)
unfolding character_of
digit_written x d e = go (eqb x 10) (leb 48 x && leb x 57) (leb 65 x && leb x 70) refl refl refl (ap value e)
  where
    go : (f s t : Bool) → eqb x 10 ≡ f → (leb 48 x && leb x 57) ≡ s → (leb 65 x && leb x 70) ≡ t
        → value (pick f LineFeed (pick s (Digit (x - 48)) (pick t (Digit (x - 55)) Other))) ≡ suc d → (digit_of d ≡ x) × (d ≤ 15)
    go true s t p q r v = absurd (omega arith)
    go false true t p q r v =
        let l = leb-true 48 x (and_parts (leb 48 x) (leb x 57) q).0 in
        let u = leb-true x 57 (and_parts (leb 48 x) (leb x 57) q).1 in
        (digit_decimal d (omega arith) ∙ omega arith, omega arith)
    go false false true p q r v =
        let l = leb-true 65 x (and_parts (leb 65 x) (leb x 70) r).0 in
        let u = leb-true x 70 (and_parts (leb 65 x) (leb x 70) r).1 in
        (digit_letter d (omega arith) (omega arith) ∙ omega arith, omega arith)
    go false false false p q r v = absurd (omega arith)

-- 1 for a line feed, 0 for any other character.
abbrev ends : Character → ℕ
ends (Digit d) = 0
ends LineFeed = 1
ends Other = 0

-- What is read as a line feed is one.
pub feed_written : (x : ℕ) → character_of x ≡ LineFeed → x ≡ line_feed
unfolding character_of
feed_written x e = go (eqb x 10) (leb 48 x && leb x 57) (leb 65 x && leb x 70) refl (ap ends e)
  where
    go : (f s t : Bool) → eqb x 10 ≡ f → ends (pick f LineFeed (pick s (Digit (x - 48)) (pick t (Digit (x - 55)) Other))) ≡ 1 → x ≡ line_feed
    go true s t p v = eqb-true x 10 p
    go false true t p v = absurd (omega arith)
    go false false true p v = absurd (omega arith)
    go false false false p v = absurd (omega arith)

pub read_other : (x : ℕ) → (x ≡ line_feed → ⊥) → is_digit (character_of x) ≡ false → character_of x ≡ Other
read_other x f d = go (character_of x) refl d
  where
    go : (k : Character) → character_of x ≡ k → is_digit k ≡ false → k ≡ Other
    go (Digit n) q e = absurd (true≢false e)
    go LineFeed q e = absurd (f (feed_written x q))
    go Other q e = refl

pub no_feed : (x : ℕ) (k : Character) → character_of x ≡ k → ends k ≡ 0 → eqb x line_feed ≡ false
unfolding character_of
no_feed x k q z = ne_eqb x line_feed (λ e. let l : ◌≡◌ {A = ℕ} 1 0 = ap ends (ap character_of (sym e) ∙ q) ∙ z in omega arith)

-- Whether a byte is a digit, and its cycle then, without cases.

pub digit_test : (x : ℕ) → ((leb 48 x && leb x 57) || (leb 65 x && leb x 70)) ≡ is_digit (character_of x)
unfolding character_of
digit_test x = go (eqb x 10) refl
  where
    cases : (s t : Bool) → (s || t) ≡ is_digit (pick s (Digit (x - 48)) (pick t (Digit (x - 55)) Other))
    cases true t = refl
    cases false true = refl
    cases false false = refl

    go : (f : Bool) → eqb x 10 ≡ f → ((leb 48 x && leb x 57) || (leb 65 x && leb x 70)) ≡ is_digit (pick f LineFeed (pick (leb 48 x && leb x 57) (Digit (x - 48)) (pick (leb 65 x && leb x 70) (Digit (x - 55)) Other)))
    go true e = rw (eqb-true x 10 e)
    go false e = cases (leb 48 x && leb x 57) (leb 65 x && leb x 70)

pub digit_value : (x : ℕ) → is_digit (character_of x) ≡ true → character_of x ≡ Digit (value_of x)
unfolding value_of
digit_value x e = go (leb 48 x && leb x 57) (leb 65 x && leb x 70) refl refl (digit_test x ∙ e)
  where
    go : (s t : Bool) → (leb 48 x && leb x 57) ≡ s → (leb 65 x && leb x 70) ≡ t → ((leb 48 x && leb x 57) || (leb 65 x && leb x 70)) ≡ true → character_of x ≡ Digit (value_of x)
    go true t p q o =
        let l = leb-true 48 x (and_parts (leb 48 x) (leb x 57) p).0 in
        let u = leb-true x 57 (and_parts (leb 48 x) (leb x 57) p).1 in
        read_decimal x l u ∙ ap Digit (rw (lt-leb 65 x (omega arith)) (omega arith))
    go false true p q o =
        let l = leb-true 65 x (and_parts (leb 65 x) (leb x 70) q).0 in
        let u = leb-true x 70 (and_parts (leb 65 x) (leb x 70) q).1 in
        read_letter x l u ∙ ap Digit (rw (le-leb 65 x l) (omega arith))
    go false false p q o = absurd (false≢true (sym (rw (p, q)) ∙ o))

pub value_of_digit : DigitValue
unfolding DigitValue
value_of_digit x d q =
    let e : suc (value_of x) ≡ suc d = ap value (sym (digit_value x (ap is_digit q)) ∙ q) in
    omega arith
