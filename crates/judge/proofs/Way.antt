-- A step of the judge and a step of what a list still shows go together.
use Prim.{Unit, tt}
use Prim.Native.Nat.{ℕ, zero, suc, ◌+◌, ◌-◌, ◌*◌, ◌/◌, ◌%◌, ◌^◌, ◌≤◌, ◌<◌}
use mathlib.Core.Path.{◌≡◌, refl, sym, ap, ap₂, ◌∙◌, subst}
use mathlib.Core.Bool.{Bool, true, false, not, ◌&&◌, ◌||◌, and-false}
use mathlib.Core.List.{List, [], ◌∷◌, ◌++◌, map, append_assoc}
use native.Mathlib.Omega.{arith}
use lib.Dec.{ltb, eqb, eqb-suc-suc}
use lib.ListN.{length}
use Rattle.std.specs.Prelude.{Some, None}
use Rattle.std.proofs.lemmas.Bool.{and_parts}
use native.Mathlib.Nat.{sub_self, mod-eq_of_lt, mod-lt, lt_of_lt_of_le}
use lib.Pow.{pow_mono, pow_pos, pow-add}
use borrow.Author.Tests.{ltb-true, eqb-true, eq-eqb, ne_eqb, lt-ltb, le-ltb}
use Rattle.registers.specs.Choose.{pick}
use Rattle.registers.specs.Bits.{bit_at}
use Rattle.frames.specs.Bits.{bit_of, shifted_in, cut}
use Rattle.serial.proofs.Top.{top, top_zero, top_next, top_full}
use Rattle.serial.proofs.Drawing.Injective.{cons_head, cons_tail, nil_cons}
use Rattle.judge.specs.Place.{lead_byte, bit_byte, end_byte, wait_byte, place_by, last_bit, room_for, word_start, goes_on, entered, level_of, byte_at, after_bits, passed, over, step_of}
use Rattle.judge.specs.declared.place.Table.{Table}
use Rattle.judge.specs.declared.place.Stage.{Stage}
use Rattle.judge.specs.declared.place.Stage.TheVariants.{Lead, First, Second, Wait, Turn, Close}
use Rattle.judge.specs.declared.place.Place.{Place}
use Rattle.judge.proofs.Rests.{down, some, mark_at, bits_from, last_of, after_word, behind, word_from, Good}
use Rattle.serial.specs.Preloaded.{Sixteen}

-- Bits of a byte and of a word ------------------------------------------------------------------------------------------

bit2 : (base : ℕ) (m d : Bool) → base < 2 → bit_at (bit_byte base m d) 2 ≡ d
unfolding bit_byte
bit2 zero true true l = refl
bit2 zero true false l = refl
bit2 zero false true l = refl
bit2 zero false false l = refl
bit2 (suc zero) true true l = refl
bit2 (suc zero) true false l = refl
bit2 (suc zero) false true l = refl
bit2 (suc zero) false false l = refl
bit2 (suc (suc n)) m d l = absurd (omega arith)

bit1 : (base : ℕ) (m d : Bool) → base < 2 → bit_at (bit_byte base m d) 1 ≡ m
unfolding bit_byte
bit1 zero true true l = refl
bit1 zero true false l = refl
bit1 zero false true l = refl
bit1 zero false false l = refl
bit1 (suc zero) true true l = refl
bit1 (suc zero) true false l = refl
bit1 (suc zero) false true l = refl
bit1 (suc zero) false false l = refl
bit1 (suc (suc n)) m d l = absurd (omega arith)

-- the bit shifted in is the last one
bit0 : (x : ℕ) (d : Bool) → bit_at (shifted_in x d) 0 ≡ d
unfolding shifted_in
bit0 x true = eq-eqb ((2 * x + 1) % 0x10000 / 2 ^ 0 % 2) 1 (omega arith)
bit0 x false = ne_eqb ((2 * x + 0) % 0x10000 / 2 ^ 0 % 2) 1 (omega arith)

shift_small : (x : ℕ) (d : Bool) → x < 32768 → shifted_in x d ≡ 2 * x + pick d 1 0
unfolding shifted_in
shift_small x true l = mod-eq_of_lt (omega arith)
shift_small x false l = mod-eq_of_lt (omega arith)

shift_injective : (x y : ℕ) (c d : Bool) → x < 32768 → y < 32768 → shifted_in x c ≡ shifted_in y d → (x ≡ y) × (c ≡ d)
shift_injective x y c d k l e = go c d (sym (shift_small x c k) ∙ e ∙ shift_small y d l)
  where
    go : (c d : Bool) → 2 * x + pick c 1 0 ≡ 2 * y + pick d 1 0 → (x ≡ y) × (c ≡ d)
    go true true e = (omega arith, refl)
    go true false e = absurd (omega arith)
    go false true e = absurd (omega arith)
    go false false e = (omega arith, refl)

-- A step ------------------------------------------------------------------------------------------------------------------

-- whether byte x fits the next slot, and the place after it
pub record Next : Type 0 where
  pub fits : Bool
  pub place : Place

unfoldable pub next_of : Table → Place → ℕ → Next
next_of t p x =
    let q = entered t p x in
    let d = level_of q x in
    record { fits = not (over t q) && eqb x (byte_at t q d); place = passed t q d }

picked : (b : Bool) (p q : Place) → pick b (Some p) None ≡ Some q → (b ≡ true) × (p ≡ q)
picked true p q e = (refl, cc)
picked false p q e = absurd (cc)

none_picked : (b : Bool) (p : Place) → pick b (Some p) None ≡ None → b ≡ false
none_picked true p e = absurd (cc)
none_picked false p e = refl

-- a step that is made, or not
pub step_made : (t : Table) (p : Place) (x : ℕ) (q : Place) → step_of t p x ≡ Some q → ((next_of t p x).fits ≡ true) × ((next_of t p x).place ≡ q)
unfolding step_of next_of
step_made t p x q e = picked _ _ q e

pub step_none : (t : Table) (p : Place) (x : ℕ) → step_of t p x ≡ None → (next_of t p x).fits ≡ false
unfolding step_of next_of
step_none t p x e = none_picked _ _ e

-- What fits a place ---------------------------------------------------------------------------------------------------------

-- how many bits of the word are known
abbrev pub taken_on : Stage → Table → ℕ → ℕ
taken_on Lead t n = 0
taken_on First t n = t.width - n
taken_on Second t n = t.width - n + 1
taken_on Wait t n = t.width
taken_on Turn t n = t.width
taken_on Close t n = t.width

-- what a place has seen of the words to come
abbrev pub AgreesOn : Stage → Table → Place → List ℕ → Type 0
AgreesOn Lead t p ws = Unit {0}
AgreesOn First t p ws = Unit {0}
AgreesOn Second t p ws = p.more ≡ mark_at t (some ws) (p.left - 1)
AgreesOn Wait t p ws = Unit {0}
AgreesOn Turn t p ws = t.marks ≡ true → p.more ≡ some ws
AgreesOn Close t p ws = ws ≡ []

-- a word, and those after it, that may be at a place
pub record Fits (t : Table) (p : Place) (w : ℕ) (ws : List ℕ) : Type 0 where
  pub small : w < 65536
  pub smalls : Sixteen ws
  pub room : p.count + 1 + length ws ≤ 8
  pub known : top t.width w (taken_on p.stage t p.left) ≡ p.word
  pub agrees : AgreesOn p.stage t p ws

-- the same words at a place with the same count
refit : {t : Table} {p q : Place} {w : ℕ} {ws : List ℕ} → Fits t p w ws → q.count ≡ p.count → top t.width w (taken_on q.stage t q.left) ≡ q.word → AgreesOn q.stage t q ws
    → Fits t q w ws
refit {t} {p} {q} {w} {ws} f c k a = record { small = f.small; smalls = f.smalls; room = subst (λ (n : ℕ). n + 1 + length ws ≤ 8) (sym c) f.room; known = k; agrees = a }

-- what they still show
abbrev pub rest_on : Stage → Table → Place → ℕ → List ℕ → List ℕ
rest_on Lead t p w ws = down (lead_byte t) p.left ++ word_from t w ws
rest_on First t p w ws = bits_from t (some ws) w (t.width - p.left) p.left ++ behind t w ws
rest_on Second t p w ws = bit_byte t.second p.more (last_bit p) ∷ (bits_from t (some ws) w (t.width - p.left + 1) (p.left - 1) ++ behind t w ws)
rest_on Wait t p w ws = down (wait_byte t (last_bit p)) p.left ++ after_word t (last_bit p) ws
rest_on Turn t p w ws = after_word t (last_bit p) ws
rest_on Close t p w ws = down (end_byte t (last_bit p)) p.left

abbrev pub rest_of : Table → Place → ℕ → List ℕ → List ℕ
rest_of t p w ws = rest_on p.stage t p w ws

-- what a place keeps
abbrev pub FineOn : Stage → Table → Place → Type 0
FineOn Lead t p = 1 ≤ p.left
FineOn First t p = (1 ≤ p.left) × (p.left ≤ t.width)
FineOn Second t p = (1 ≤ p.left) × (p.left ≤ t.width) × (p.more ≡ true → p.left ≡ 1)
FineOn Wait t p = (1 ≤ p.left) × (t.marks ≡ false)
FineOn Turn t p = Unit {0}
FineOn Close t p = Unit {0}

pub record Fine (t : Table) (p : Place) : Type 0 where
  pub stage : FineOn p.stage t p
  pub bound : p.word < 2 ^ taken_on p.stage t p.left
  pub count : p.count < 8
  pub mark : p.more ≡ true → (t.marks ≡ true) × (p.count + 1 < 8)

-- the words before a place
abbrev pub done_after : Place → Place → List ℕ → List ℕ
done_after p q done = pick (ltb p.count q.count) (done ++ (p.word ∷ [])) done

-- From a place on, after the words done, bytes ls may come; all words are then us.
pub record Could (t : Table) (p : Place) (done ls us : List ℕ) : Type 0 where
  pub word : ℕ
  pub words : List ℕ
  pub fits : Fits t p word words
  pub shows : ls ≡ rest_of t p word words
  pub all : us ≡ done ++ map (cut t.width) (word ∷ words)

-- A slot whose byte is known ------------------------------------------------------------------------------------------------

-- byte b, then place q, whatever the words
record Passes (t : Table) (p : Place) (b : ℕ) (q : Place) : Type 0 where
  steps : (x : ℕ) → next_of t p x ≡ record { fits = eqb x b; place = q }
  counts : q.count ≡ p.count
  to : (w : ℕ) (ws : List ℕ) → Fits t p w ws → Fits t q w ws
  back : (w : ℕ) (ws : List ℕ) → Fits t q w ws → Fits t p w ws
  shows : (w : ℕ) (ws : List ℕ) → Fits t p w ws → rest_of t p w ws ≡ b ∷ rest_of t q w ws

-- a byte that fits, and what may come after it
pub record Stepped (t : Table) (p : Place) (done : List ℕ) (x : ℕ) (ls us : List ℕ) : Type 0 where
  pub fits : (next_of t p x).fits ≡ true
  pub could : Could t (next_of t p x).place (done_after p (next_of t p x).place done) ls us

-- the same count: no word is done
done-same : (p q : Place) (done : List ℕ) → q.count ≡ p.count → done_after p q done ≡ done
done-same p q done e = ap (λ (b : Bool). pick b (done ++ (p.word ∷ [])) done) (le-ltb p.count q.count (omega arith))

passes_on : (t : Table) (p : Place) (b : ℕ) (q : Place) → Passes t p b q → (done : List ℕ) (x : ℕ) (ls us : List ℕ) → Could t p done (x ∷ ls) us → Stepped t p done x ls us
passes_on t p b q k done x ls us c =
    let e : x ∷ ls ≡ b ∷ rest_of t q c.word c.words = c.shows ∙ k.shows c.word c.words c.fits in
    let f = k.steps x in
    record {
      fits = ap (λ (n : Next). n.fits) f ∙ eq-eqb x b (cons_head e);
      could =
          subst (λ (n : Next). Could t n.place (done_after p n.place done) ls us) (sym f)
          (record {
            word = c.word;
            words = c.words;
            fits = k.to c.word c.words c.fits;
            shows = cons_tail e;
            all = c.all ∙ ap (λ (d : List ℕ). d ++ map (cut t.width) (c.word ∷ c.words)) (sym (done-same p q done k.counts));
          });
    }

passes_back : (t : Table) (p : Place) (b : ℕ) (q : Place) → Passes t p b q → (done : List ℕ) (x : ℕ) (ls us : List ℕ)
    → (next_of t p x).fits ≡ true → Could t (next_of t p x).place (done_after p (next_of t p x).place done) ls us → Could t p done (x ∷ ls) us
passes_back t p b q k done x ls us f c =
    let g = k.steps x in
    let e : x ≡ b = eqb-true x b (sym (ap (λ (n : Next). n.fits) g) ∙ f) in
    let c' = subst (λ (n : Next). Could t n.place (done_after p n.place done) ls us) g c in
    let v = k.back c'.word c'.words c'.fits in
    record {
      word = c'.word;
      words = c'.words;
      fits = v;
      shows = ap₂ ◌∷◌ e c'.shows ∙ sym (k.shows c'.word c'.words v);
      all = c'.all ∙ ap (λ (d : List ℕ). d ++ map (cut t.width) (c'.word ∷ c'.words)) (done-same p q done k.counts);
    }

-- Slots before the first bit ------------------------------------------------------------------------------------------------

less : (n : ℕ) → suc n - 1 ≡ n
less n = omega arith

not_one : (n : ℕ) → eqb (suc (suc n)) 1 ≡ false
not_one n = ne_eqb (suc (suc n)) 1 (omega arith)

and_none : (a b : Bool) → (a && false) && b ≡ false
and_none true b = refl
and_none false b = refl

pub false_true : {A : Type 0} → false ≡ true → A
false_true e = let z : ◌≡◌ {A = ℕ} 0 1 = cc in absurd (omega arith)

-- the last bit's mark
mark_last : (a m b : Bool) → (m ≡ true → a ≡ true) → (a ≡ true → m ≡ b) → m ≡ (a && true) && b
mark_last true m b h k = k refl
mark_last false true b h k = false_true (h refl)
mark_last false false b h k = refl

-- only the last bit is marked
mark_none : (t : Table) (m : Bool) (n : ℕ) → mark_at t m (suc n) ≡ false
mark_none t m n = ap (λ (b : Bool). (t.marks && b) && m) (ne_eqb (suc n) 0 (omega arith)) ∙ and_none t.marks m

module _ (t : Table) where
  abbrev W : ℕ
  W = t.width

  lead_last : (m : Bool) (c : ℕ) → Passes t (place_by Lead 1 0 m c) (lead_byte t 1) (place_by First W 0 false c)
  unfolding next_of entered level_of byte_at passed over
  lead_last m c = record {
    steps = λ x. refl;
    counts = refl;
    to = λ w ws f. refit f refl (ap (top W w) (sub_self W) ∙ f.known) tt;
    back = λ w ws f. refit f refl (top_zero W w) tt;
    shows = λ w ws f. ap (λ (i : ℕ). lead_byte t 1 ∷ (bits_from t (some ws) w i W ++ behind t w ws)) (sym (sub_self W));
  }

  lead_more : (n : ℕ) (m : Bool) (c : ℕ) → Passes t (place_by Lead (suc (suc n)) 0 m c) (lead_byte t (suc (suc n))) (place_by Lead (suc n) 0 false c)
  unfolding next_of entered level_of byte_at passed over
  lead_more n m c = record {
    steps = λ x. ap₂ (λ (b : Bool) (k : ℕ). record { fits = eqb x (lead_byte t (suc (suc n))); place = pick b (place_by First W 0 false c) (place_by Lead k 0 false c) }) (not_one n) (less (suc n));
    counts = refl;
    to = λ w ws f. refit f refl f.known tt;
    back = λ w ws f. refit f refl f.known tt;
    shows = λ w ws f. refl;
  }

  -- A bit's second slot -----------------------------------------------------------------------------------------------------

  -- bits are still to come
  second_more : (n word c : ℕ) → suc (suc n) ≤ W → Passes t (place_by Second (suc (suc n)) word false c) (bit_byte t.second false (bit_at word 0)) (place_by First (suc n) word false c)
  unfolding next_of entered level_of byte_at passed over
  second_more n word c l =
      let e : W - suc (suc n) + 1 ≡ W - suc n = omega arith in
      let b = bit_byte t.second false (bit_at word 0) in
      record {
        steps = λ x. ap₂ (λ (a : Bool) (k : ℕ). record { fits = eqb x b; place = pick a (after_bits t (place_by Second (suc (suc n)) word false c)) (place_by First k word false c) }) (not_one n) (less (suc n));
        counts = refl;
        to = λ w ws f. refit f refl (ap (top W w) (sym e) ∙ f.known) tt;
        back = λ w ws f. refit f refl (ap (top W w) e ∙ f.known) (sym (ap (mark_at t (some ws)) (less (suc n)) ∙ mark_none t (some ws) n));
        shows = λ w ws f. ap₂ (λ (i k : ℕ). b ∷ (bits_from t (some ws) w i k ++ behind t w ws)) e (less (suc n));
      }

  -- the last bit of a word whose bits are known
  last_known : (w word : ℕ) → 1 ≤ W → W ≤ 16 → top W w W ≡ word → last_of t w ≡ bit_at word 0
  last_known w word l m e =
      let k : W - 1 + 1 ≡ W = omega arith in
      sym (bit0 (top W w (W - 1)) (bit_of W w (W - 1)))
      ∙ ap (λ (x : ℕ). bit_at x 0) (top_next W w (W - 1) (omega arith) m ∙ ap (top W w) k ∙ e)

  -- the last bit: no slot waits after it
  second_turn : (word : ℕ) (m : Bool) (c : ℕ) → 1 ≤ W → W ≤ 16 → t.waits ≡ 0 → (m ≡ true → t.marks ≡ true)
      → Passes t (place_by Second 1 word m c) (bit_byte t.second m (bit_at word 0)) (place_by Turn 0 word m c)
  unfolding next_of entered level_of byte_at passed over after_bits
  second_turn word m c l l' z h =
      let e : W - 1 + 1 ≡ W = omega arith in
      let b = bit_byte t.second m (bit_at word 0) in
      record {
        steps = λ x. ap (λ (k : ℕ). record { fits = eqb x b; place = pick (eqb k 0) (place_by Turn 0 word m c) (place_by Wait k word false c) }) z;
        counts = refl;
        to = λ w ws f. refit f refl (ap (top W w) (sym e) ∙ f.known) (λ y. f.agrees ∙ ap (λ (a : Bool). (a && true) && some ws) y);
        back = λ w ws f. refit f refl (ap (top W w) e ∙ f.known) (mark_last t.marks m (some ws) h f.agrees);
        shows = λ w ws f. ap₂ (λ (k : ℕ) (d : Bool). b ∷ (down (wait_byte t (last_of t w)) k ++ after_word t d ws)) z (last_known w word l l' (ap (top W w) (sym e) ∙ f.known));
      }

  -- the last bit: slots wait after it
  second_wait : (word k c : ℕ) → 1 ≤ W → W ≤ 16 → t.waits ≡ suc k → t.marks ≡ false
      → Passes t (place_by Second 1 word false c) (bit_byte t.second false (bit_at word 0)) (place_by Wait (suc k) word false c)
  unfolding next_of entered level_of byte_at passed over after_bits
  second_wait word k c l l' z h =
      let e : W - 1 + 1 ≡ W = omega arith in
      let b = bit_byte t.second false (bit_at word 0) in
      record {
        steps = λ x. ap (λ (k : ℕ). record { fits = eqb x b; place = pick (eqb k 0) (place_by Turn 0 word false c) (place_by Wait k word false c) }) z
            ∙ ap (λ (a : Bool). record { fits = eqb x b; place = pick a (place_by Turn 0 word false c) (place_by Wait (suc k) word false c) }) (ne_eqb (suc k) 0 (omega arith));
        counts = refl;
        to = λ w ws f. refit f refl (ap (top W w) (sym e) ∙ f.known) tt;
        back = λ w ws f. refit f refl (ap (top W w) e ∙ f.known) (sym (ap (λ (a : Bool). (a && true) && some ws) h));
        shows = λ w ws f. ap₂ (λ (k : ℕ) (d : Bool). b ∷ (down (wait_byte t d) k ++ after_word t d ws)) z (last_known w word l l' (ap (top W w) (sym e) ∙ f.known));
      }

  -- After the bits ------------------------------------------------------------------------------------------------------------

  wait_last : (word : ℕ) (m : Bool) (c : ℕ) → t.marks ≡ false → Passes t (place_by Wait 1 word m c) (wait_byte t (bit_at word 0) 1) (place_by Turn 0 word false c)
  unfolding next_of entered level_of byte_at passed over
  wait_last word m c h = record {
    steps = λ x. refl;
    counts = refl;
    to = λ w ws f. refit f refl f.known (λ y. false_true (sym h ∙ y));
    back = λ w ws f. refit f refl f.known tt;
    shows = λ w ws f. refl;
  }

  wait_more : (n word : ℕ) (m : Bool) (c : ℕ) → Passes t (place_by Wait (suc (suc n)) word m c) (wait_byte t (bit_at word 0) (suc (suc n))) (place_by Wait (suc n) word false c)
  unfolding next_of entered level_of byte_at passed over
  wait_more n word m c = record {
    steps = λ x. ap₂ (λ (b : Bool) (k : ℕ). record { fits = eqb x (wait_byte t (bit_at word 0) (suc (suc n))); place = pick b (place_by Turn 0 word false c) (place_by Wait k word false c) }) (not_one n) (less (suc n));
    counts = refl;
    to = λ w ws f. refit f refl f.known tt;
    back = λ w ws f. refit f refl f.known tt;
    shows = λ w ws f. refl;
  }

  close_more : (n word : ℕ) (m : Bool) (c : ℕ) → Passes t (place_by Close (suc n) word m c) (end_byte t (bit_at word 0) (suc n)) (place_by Close n word false c)
  unfolding next_of entered level_of byte_at passed over
  close_more n word m c = record {
    steps = λ x. ap₂ (λ (b : Bool) (k : ℕ). record { fits = not b && eqb x (end_byte t (bit_at word 0) (suc n)); place = place_by Close k word false c }) (ne_eqb (suc n) 0 (omega arith)) (less n);
    counts = refl;
    to = λ w ws f. refit f refl f.known f.agrees;
    back = λ w ws f. refit f refl f.known f.agrees;
    shows = λ w ws f. refl;
  }

shift_bound : (x : ℕ) (d : Bool) (i : ℕ) → x < 2 ^ i → 2 ^ i ≤ 2 ^ 15 → shifted_in x d < 2 ^ (i + 1)
shift_bound x d i l m =
    subst (λ (y : ℕ). y < 2 ^ (i + 1)) (sym (shift_small x d (omega (arith, l, m)))) (go d)
  where
    go : (d : Bool) → 2 * x + pick d 1 0 < 2 ^ (i + 1)
    go true = omega (arith, l, pow-add 2 i 1)
    go false = omega (arith, l, pow-add 2 i 1)

-- A bit's first slot ----------------------------------------------------------------------------------------------------------

-- FSS is told from a mark
more_same : (a s r : Bool) → (s ≡ true → r ≡ true) → a && ((a && s) && r) ≡ a && s
more_same true true r h = h refl
more_same true false r h = refl
more_same false s r h = refl

some_room : (ws : List ℕ) (c : ℕ) → c + 1 + length ws ≤ 8 → some ws ≡ true → ltb (c + 1) 8 ≡ true
some_room [] c l e = false_true e
some_room (w ∷ ws) c l e = lt-ltb (c + 1) 8 (omega arith)

top_bound : (b w c : ℕ) → top b w c < 2 ^ c
unfolding top
top_bound b w c = mod-lt (w / 2 ^ (b - c)) (pow_pos c)

module _ (t : Table) (g : Good t) (n word : ℕ) (m : Bool) (c : ℕ) (l : suc n ≤ t.width) where
  abbrev here : Place
  here = place_by First (suc n) word m c

  -- what byte x tells
  abbrev more_by : ℕ → Bool
  more_by x = (t.marks && eqb (suc n) 1) && (bit_at x 1 && room_for here)

  abbrev then_by : Bool → Bool → Place
  then_by k d = place_by Second (suc n) (shifted_in word d) k c

  abbrev next_by : ℕ → Bool → Bool → Next
  next_by x k d = record { fits = eqb x (bit_byte t.first k d); place = then_by k d }

  first_step : (x : ℕ) → next_of t here x ≡ next_by x (more_by x) (bit_at x 2)
  unfolding next_of entered level_of byte_at passed over
  first_step x = refl

  -- the byte of a bit tells it, and a mark
  first_told : (ws : List ℕ) (d : Bool) → c + 1 + length ws ≤ 8 → more_by (bit_byte t.first (mark_at t (some ws) n) d) ≡ mark_at t (some ws) n
  unfolding room_for
  first_told ws d r =
      ap₂ (λ (a b : Bool). (t.marks && a) && (b && ltb (c + 1) 8)) (eqb-suc-suc n 0) (bit1 t.first (mark_at t (some ws) n) d g.first)
      ∙ more_same (t.marks && eqb n 0) (some ws) (ltb (c + 1) 8) (some_room ws c r)

  first_on : (done : List ℕ) (x : ℕ) (ls us : List ℕ) → Could t here done (x ∷ ls) us → Stepped t here done x ls us
  first_on done x ls us k =
      let w = k.word in
      let ws = k.words in
      let W = t.width in
      let d = bit_of W w (W - suc n) in
      let mk = mark_at t (some ws) n in
      let e : x ≡ bit_byte t.first mk d = cons_head k.shows in
      let told : next_of t here x ≡ next_by x mk d =
      first_step x ∙ ap₂ (next_by x) (ap more_by e ∙ first_told ws d k.fits.room) (ap (λ (y : ℕ). bit_at y 2) e ∙ bit2 t.first mk d g.first) in
      record {
        fits = ap (λ (a : Next). a.fits) told ∙ eq-eqb x (bit_byte t.first mk d) e;
        could =
            subst (λ (a : Next). Could t a.place (done_after here a.place done) ls us) (sym told)
            (record {
              word = w;
              words = ws;
              fits = record {
                small = k.fits.small;
                smalls = k.fits.smalls;
                room = k.fits.room;
                known = sym (top_next W w (W - suc n) (omega arith) g.most) ∙ ap (λ (y : ℕ). shifted_in y d) k.fits.known;
                agrees = ap (mark_at t (some ws)) (sym (less n));
              };
              shows = cons_tail k.shows ∙ ap₂ (λ (b : Bool) (j : ℕ). bit_byte t.second mk b ∷ (bits_from t (some ws) w (W - suc n + 1) j ++ behind t w ws)) (sym (bit0 word d)) (sym (less n));
              all = k.all ∙ ap (λ (y : List ℕ). y ++ map (cut W) (w ∷ ws)) (sym (done-same here (then_by mk d) done refl));
            });
      }

  first_back : word < 2 ^ (t.width - suc n) → (done : List ℕ) (x : ℕ) (ls us : List ℕ)
      → (next_of t here x).fits ≡ true → Could t (next_of t here x).place (done_after here (next_of t here x).place done) ls us → Could t here done (x ∷ ls) us
  first_back bound done x ls us f k₀ =
      let W = t.width in
      let i = W - suc n in
      let mk = more_by x in
      let d = bit_at x 2 in
      let told = first_step x in
      let k = subst (λ (a : Next). Could t a.place (done_after here a.place done) ls us) told k₀ in
      let e : x ≡ bit_byte t.first mk d = eqb-true x (bit_byte t.first mk d) (sym (ap (λ (a : Next). a.fits) told) ∙ f) in
      let w = k.word in
      let ws = k.words in
      let half : 2 ^ i ≤ 2 ^ 15 = pow_mono {j = 15} (omega (arith, g.most, l)) in
      let same = shift_injective (top W w i) word (bit_of W w i) d (omega (arith, top_bound W w i, half)) (omega (arith, bound, half))
      (top_next W w i (omega (arith, l)) g.most ∙ k.fits.known) in
      let marked : mk ≡ mark_at t (some ws) n = k.fits.agrees ∙ ap (mark_at t (some ws)) (less n) in
      record {
        word = w;
        words = ws;
        fits = record { small = k.fits.small; smalls = k.fits.smalls; room = k.fits.room; known = same.0; agrees = tt };
        shows =
            ap₂ ◌∷◌ (e ∙ ap₂ (bit_byte t.first) marked (sym same.1))
            (k.shows
            ∙ ap₂ (λ (b : Bool) (j : ℕ). bit_byte t.second mk b ∷ (bits_from t (some ws) w (i + 1) j ++ behind t w ws)) (bit0 word d ∙ sym same.1) (less n)
            ∙ ap (λ (b : Bool). bit_byte t.second b (bit_of W w i) ∷ (bits_from t (some ws) w (i + 1) n ++ behind t w ws)) marked);
        all = k.all ∙ ap (λ (y : List ℕ). y ++ map (cut W) (w ∷ ws)) (done-same here (then_by mk d) done refl);
      }

-- Slots whose byte is known, from any fine place ------------------------------------------------------------------------------

record Passing (t : Table) (p : Place) : Type 0 where
  byte : ℕ
  next : Place
  passes : Passes t p byte next
  fine : Fine t next

module _ (t : Table) (g : Good t) where
  one : 1 ≤ t.width
  one = omega (arith, g.least)

  passing_lead : (n : ℕ) (m : Bool) (c : ℕ) → c < 8 → Passing t (place_by Lead (suc n) 0 m c)
  passing_lead zero m c l = record {
    byte = lead_byte t 1;
    next = place_by First t.width 0 false c;
    passes = lead_last t m c;
    fine = record { stage = (one, omega arith); bound = pow_pos (t.width - t.width); count = l; mark = false_true };
  }
  passing_lead (suc n) m c l = record {
    byte = lead_byte t (suc (suc n));
    next = place_by Lead (suc n) 0 false c;
    passes = lead_more t n m c;
    fine = record { stage = omega arith; bound = pow_pos 0; count = l; mark = false_true };
  }

  -- after the last bit of a word
  passing_last : (word : ℕ) (m : Bool) (c : ℕ) → Fine t (place_by Second 1 word m c) → (k : ℕ) → t.waits ≡ k → (b : Bool) → t.marks ≡ b → (d : Bool) → m ≡ d → Passing t (place_by Second 1 word m c)
  passing_last word m c f zero z b y d h = record {
    byte = bit_byte t.second m (bit_at word 0);
    next = place_by Turn 0 word m c;
    passes = second_turn t word m c one g.most z (λ e. (f.mark e).0);
    fine = record { stage = tt; bound = subst (λ (i : ℕ). word < 2 ^ i) (omega (arith, one)) f.bound; count = f.count; mark = f.mark };
  }
  passing_last word m c f (suc k) z true y d h = let e : suc k ≡ 0 = sym z ∙ g.marked_waits y in absurd (omega arith)
  passing_last word m c f (suc k) z false y true h = false_true (sym y ∙ (f.mark h).0)
  passing_last word m c f (suc k) z false y false h =
      subst (λ (a : Bool). Passing t (place_by Second 1 word a c)) (sym h)
      (record {
        byte = bit_byte t.second false (bit_at word 0);
        next = place_by Wait (suc k) word false c;
        passes = second_wait t word k c one g.most z y;
        fine = record { stage = (omega arith, y); bound = subst (λ (i : ℕ). word < 2 ^ i) (omega (arith, one)) f.bound; count = f.count; mark = false_true };
      })

  passing_second : (n word : ℕ) (m : Bool) (c : ℕ) → Fine t (place_by Second (suc n) word m c) → (d : Bool) → m ≡ d → Passing t (place_by Second (suc n) word m c)
  passing_second zero word m c f d h = passing_last word m c f t.waits refl t.marks refl d h
  passing_second (suc n) word m c f true h = let e = f.stage.2 h in absurd (omega arith)
  passing_second (suc n) word m c f false h =
      let l = f.stage.1 in
      let e : t.width - suc (suc n) + 1 ≡ t.width - suc n = omega arith in
      subst (λ (a : Bool). Passing t (place_by Second (suc (suc n)) word a c)) (sym h)
      (record {
        byte = bit_byte t.second false (bit_at word 0);
        next = place_by First (suc n) word false c;
        passes = second_more t n word c l;
        fine = record { stage = (omega arith, omega arith); bound = subst (λ (i : ℕ). word < 2 ^ i) e f.bound; count = f.count; mark = false_true };
      })

  passing_wait : (n word : ℕ) (m : Bool) (c : ℕ) → Fine t (place_by Wait (suc n) word m c) → Passing t (place_by Wait (suc n) word m c)
  passing_wait zero word m c f = record {
    byte = wait_byte t (bit_at word 0) 1;
    next = place_by Turn 0 word false c;
    passes = wait_last t word m c f.stage.1;
    fine = record { stage = tt; bound = f.bound; count = f.count; mark = false_true };
  }
  passing_wait (suc n) word m c f = record {
    byte = wait_byte t (bit_at word 0) (suc (suc n));
    next = place_by Wait (suc n) word false c;
    passes = wait_more t n word m c;
    fine = record { stage = (omega arith, f.stage.1); bound = f.bound; count = f.count; mark = false_true };
  }

  passing_close : (n word : ℕ) (m : Bool) (c : ℕ) → word < 2 ^ t.width → c < 8 → Passing t (place_by Close (suc n) word m c)
  passing_close n word m c b l = record {
    byte = end_byte t (bit_at word 0) (suc n);
    next = place_by Close n word false c;
    passes = close_more t n word m c;
    fine = record { stage = tt; bound = b; count = l; mark = false_true };
  }

  -- A byte that fits a bit's first slot leaves a fine place too.
  first_fine : (n word : ℕ) (m : Bool) (c x : ℕ) → Fine t (place_by First (suc n) word m c) → Fine t (next_of t (place_by First (suc n) word m c) x).place
  unfolding room_for
  first_fine n word m c x f =
      let l = f.stage.1 in
      let i = t.width - suc n in
      let d = bit_at x 2 in
      let mk = more_by t g n word m c l x in
      let half : 2 ^ i ≤ 2 ^ 15 = pow_mono {j = 15} (omega (arith, g.most, l)) in
      let both : mk ≡ true → (t.marks && eqb (suc n) 1 ≡ true) × (bit_at x 1 && ltb (c + 1) 8 ≡ true) = λ e. and_parts (t.marks && eqb (suc n) 1) (bit_at x 1 && ltb (c + 1) 8) e in
      subst (λ (a : Next). Fine t a.place) (sym (first_step t g n word m c l x))
      (record {
        stage = (omega arith, l, λ e. eqb-true (suc n) 1 (and_parts t.marks (eqb (suc n) 1) (both e).0).1);
        bound = shift_bound word d i f.bound half;
        count = f.count;
        mark = λ e. ((and_parts t.marks (eqb (suc n) 1) (both e).0).0, ltb-true (c + 1) 8 (and_parts (bit_at x 1) (ltb (c + 1) 8) (both e).1).1);
      })

-- The way on from a place -----------------------------------------------------------------------------------------------------

-- A byte that a list shows next fits; what a list may show after a byte that fits, it may show here; and the place stays fine.
pub record Way (t : Table) (p : Place) : Type 0 where
  pub on : (done : List ℕ) (x : ℕ) (ls us : List ℕ) → Could t p done (x ∷ ls) us → Stepped t p done x ls us
  pub back : (done : List ℕ) (x : ℕ) (ls us : List ℕ)
      → (next_of t p x).fits ≡ true → Could t (next_of t p x).place (done_after p (next_of t p x).place done) ls us → Could t p done (x ∷ ls) us
  pub fine : (x : ℕ) → (next_of t p x).fits ≡ true → Fine t (next_of t p x).place

way_passing : (t : Table) (p : Place) → Passing t p → Way t p
way_passing t p k = record {
  on = passes_on t p k.byte k.next k.passes;
  back = passes_back t p k.byte k.next k.passes;
  fine = λ x _. subst (λ (a : Next). Fine t a.place) (sym (k.passes.steps x)) k.fine;
}

-- not at the end of a word
abbrev Told : Stage → Type 0
Told Lead = Unit {0}
Told First = Unit {0}
Told Second = Unit {0}
Told Wait = Unit {0}
Told Turn = ⊥
Told Close = Unit {0}

-- nothing comes after the last slot
over_fits : (t : Table) (word : ℕ) (m : Bool) (c x : ℕ) → (next_of t (place_by Close 0 word m c) x).fits ≡ false
unfolding next_of entered over
over_fits t word m c x = refl

way_told : (t : Table) → Good t → (stage : Stage) (left word : ℕ) (m : Bool) (c : ℕ) → Told stage → Fine t (place_by stage left word m c) → Way t (place_by stage left word m c)
way_told t g Lead zero word m c _ f = let l = f.stage in absurd (omega arith)
way_told t g Lead (suc n) word m c _ f =
    let l = f.bound in
    let e : 0 ≡ word = omega arith in
    subst (λ (v : ℕ). Way t (place_by Lead (suc n) v m c)) e (way_passing t (place_by Lead (suc n) 0 m c) (passing_lead t g n m c f.count))
way_told t g First zero word m c _ f = let l = f.stage.0 in absurd (omega arith)
way_told t g First (suc n) word m c _ f = record {
  on = first_on t g n word m c f.stage.1;
  back = first_back t g n word m c f.stage.1 f.bound;
  fine = λ x _. first_fine t g n word m c x f;
}
way_told t g Second zero word m c _ f = let l = f.stage.0 in absurd (omega arith)
way_told t g Second (suc n) word m c _ f = way_passing t (place_by Second (suc n) word m c) (passing_second t g n word m c f m refl)
way_told t g Wait zero word m c _ f = let l = f.stage.0 in absurd (omega arith)
way_told t g Wait (suc n) word m c _ f = way_passing t (place_by Wait (suc n) word m c) (passing_wait t g n word m c f)
way_told t g Turn left word m c n f = absurd n
way_told t g Close zero word m c _ f = record {
  on = λ done x ls us k. nil_cons (sym k.shows);
  back = λ done x ls us e k. false_true (sym (over_fits t word m c x) ∙ e);
  fine = λ x e. false_true (sym (over_fits t word m c x) ∙ e);
}
way_told t g Close (suc n) word m c _ f = way_passing t (place_by Close (suc n) word m c) (passing_close t g n word m c f.bound f.count)

-- The start of a word, after n others -----------------------------------------------------------------------------------------

module _ (t : Table) (g : Good t) (n : ℕ) where
  abbrev pub start_of : ℕ → Place
  start_of k = word_start t k n

  -- another word's first slot tells nothing more
  start_entered : (k x : ℕ) → entered t (start_of k) x ≡ start_of k
  unfolding entered word_start
  start_entered zero x =
      ap (λ (b : Bool). place_by First t.width 0 ((t.marks && b) && (bit_at x 1 && room_for (place_by First t.width 0 false n))) n) (ne_eqb t.width 1 (omega (arith, g.least)))
      ∙ ap (λ (b : Bool). place_by First t.width 0 b n) (and_none t.marks (bit_at x 1 && room_for (place_by First t.width 0 false n)))
  start_entered (suc k) x =
      ap (λ (b : Bool). entered t (pick b (place_by First t.width 0 false n) (place_by Lead (suc k) 0 false n)) x) (ne_eqb (suc k) 0 (omega arith))
      ∙ ap (λ (b : Bool). pick b (place_by First t.width 0 false n) (place_by Lead (suc k) 0 false n)) (sym (ne_eqb (suc k) 0 (omega arith)))

  pub start_fine : (k : ℕ) → n < 8 → Fine t (start_of k)
  unfolding word_start
  start_fine zero l = record { stage = (omega (arith, g.least), omega arith); bound = pow_pos (t.width - t.width); count = l; mark = false_true }
  start_fine (suc k) l =
      subst (λ (b : Bool). Fine t (pick b (place_by First t.width 0 false n) (place_by Lead (suc k) 0 false n))) (sym (ne_eqb (suc k) 0 (omega arith)))
      (record { stage = omega arith; bound = pow_pos 0; count = l; mark = false_true })

  start_way : (k : ℕ) → n < 8 → Way t (start_of k)
  unfolding word_start
  start_way zero l = way_told t g First t.width 0 false n tt (start_fine zero l)
  start_way (suc k) l =
      subst (λ (b : Bool). Way t (pick b (place_by First t.width 0 false n) (place_by Lead (suc k) 0 false n))) (sym (ne_eqb (suc k) 0 (omega arith)))
      (way_told t g Lead (suc k) 0 false n tt (record { stage = omega arith; bound = pow_pos 0; count = l; mark = false_true }))

  start_count : (k x : ℕ) → (next_of t (start_of k) x).place.count ≡ n
  unfolding word_start next_of entered passed level_of
  start_count zero x = refl
  start_count (suc k) x =
      ap (λ (b : Bool). (next_of t (pick b (place_by First t.width 0 false n) (place_by Lead (suc k) 0 false n)) x).place.count) (ne_eqb (suc k) 0 (omega arith))
      ∙ go (eqb (suc k) 1)
    where
      go : (b : Bool) → (pick b (place_by First t.width 0 false n) (place_by Lead (suc k - 1) 0 false n)).count ≡ n
      go true = refl
      go false = refl

  -- what another word shows from its start on
  pub start_could : (k : ℕ) (done ls us : List ℕ) (u : ℕ) (vs : List ℕ) → u < 65536 → Sixteen vs → n + 1 + length vs ≤ 8
      → ls ≡ down (lead_byte t) k ++ word_from t u vs → us ≡ done ++ map (cut t.width) (u ∷ vs) → Could t (start_of k) done ls us
  unfolding word_start
  start_could zero done ls us u vs a b r e f = record {
    word = u;
    words = vs;
    fits = record { small = a; smalls = b; room = r; known = ap (top t.width u) (sub_self t.width) ∙ top_zero t.width u; agrees = tt };
    shows = e ∙ ap (λ (i : ℕ). bits_from t (some vs) u i t.width ++ behind t u vs) (sym (sub_self t.width));
    all = f;
  }
  start_could (suc k) done ls us u vs a b r e f =
      subst (λ (b : Bool). Could t (pick b (place_by First t.width 0 false n) (place_by Lead (suc k) 0 false n)) done ls us) (sym (ne_eqb (suc k) 0 (omega arith)))
      (record {
        word = u;
        words = vs;
        fits = record { small = a; smalls = b; room = r; known = top_zero t.width u; agrees = tt };
        shows = e;
        all = f;
      })

  -- the same, read back
  pub record Started (k : ℕ) (done ls us : List ℕ) : Type 0 where
    pub head : ℕ
    pub others : List ℕ
    pub small : head < 65536
    pub smalls : Sixteen others
    pub room : n + 1 + length others ≤ 8
    pub shows : ls ≡ down (lead_byte t) k ++ word_from t head others
    pub all : us ≡ done ++ map (cut t.width) (head ∷ others)

  pub start_told : (k : ℕ) (done ls us : List ℕ) → Could t (start_of k) done ls us → Started k done ls us
  unfolding word_start
  start_told zero done ls us q = record {
    head = q.word;
    others = q.words;
    small = q.fits.small;
    smalls = q.fits.smalls;
    room = q.fits.room;
    shows = q.shows ∙ ap (λ (i : ℕ). bits_from t (some q.words) q.word i t.width ++ behind t q.word q.words) (sub_self t.width);
    all = q.all;
  }
  start_told (suc k) done ls us q₀ =
      let q = subst (λ (b : Bool). Could t (pick b (place_by First t.width 0 false n) (place_by Lead (suc k) 0 false n)) done ls us) (ne_eqb (suc k) 0 (omega arith)) q₀ in
      record { head = q.word; others = q.words; small = q.fits.small; smalls = q.fits.smalls; room = q.fits.room; shows = q.shows; all = q.all }

  start_counts : (k : ℕ) → (start_of k).count ≡ n
  unfolding word_start
  start_counts k = go (eqb k 0)
    where
      go : (b : Bool) → (pick b (place_by First t.width 0 false n) (place_by Lead k 0 false n)).count ≡ n
      go true = refl
      go false = refl

-- The end of a word -------------------------------------------------------------------------------------------------------------

abbrev step_from : Table → Place → ℕ → Next
step_from t q x = record { fits = not (over t q) && eqb x (byte_at t q (level_of q x)); place = passed t q (level_of q x) }

step_from_lem : (t : Table) (p : Place) (x : ℕ) → next_of t p x ≡ step_from t (entered t p x) x
unfolding next_of
step_from_lem t p x = refl

-- places with the same way on, count and word
stepped_as : (t : Table) (p q : Place) (done : List ℕ) (x : ℕ) (ls us : List ℕ) → next_of t p x ≡ next_of t q x → p.count ≡ q.count → p.word ≡ q.word
    → Stepped t q done x ls us → Stepped t p done x ls us
stepped_as t p q done x ls us e f h k = record {
  fits = ap (λ (a : Next). a.fits) e ∙ k.fits;
  could =
      subst (λ (a : Next). Could t a.place (done_after p a.place done) ls us) (sym e)
      (subst (λ (y : List ℕ). Could t (next_of t q x).place y ls us) (sym (ap₂ (λ (c v : ℕ). pick (ltb c (next_of t q x).place.count) (done ++ (v ∷ [])) done) f h)) k.could);
}

module _ (t : Table) (g : Good t) (left word : ℕ) (m : Bool) (c : ℕ) where
  abbrev turn : Place
  turn = place_by Turn left word m c

  abbrev close : ℕ → Place
  close k = place_by Close k word false c

  abbrev start : ℕ → Place
  start k = start_of t g (c + 1) k

  turn_close : (x : ℕ) → goes_on t turn x ≡ false → next_of t turn x ≡ next_of t (close t.closes) x
  unfolding next_of entered
  turn_close x e = ap (λ (b : Bool). step_from t (pick b (start t.again) (close t.closes)) x) e

  turn_start : (x : ℕ) → goes_on t turn x ≡ true → next_of t turn x ≡ next_of t (start t.again) x
  unfolding entered
  turn_start x e =
      step_from_lem t turn x
      ∙ ap (λ (b : Bool). step_from t (pick b (start t.again) (close t.closes)) x) e
      ∙ ap (λ (q : Place). step_from t q x) (sym (start_entered t g (c + 1) t.again x))
      ∙ sym (step_from_lem t (start t.again) x)

  goes_free : (x : ℕ) → t.marks ≡ false → goes_on t turn x ≡ room_for turn && (eqb t.closes 0 || not (eqb x (end_byte t (bit_at word 0) t.closes)))
  unfolding goes_on
  goes_free x y = ap (λ (b : Bool). pick b m (room_for turn && (eqb t.closes 0 || not (eqb x (end_byte t (bit_at word 0) t.closes))))) y

  goes_marked : (x : ℕ) → t.marks ≡ true → goes_on t turn x ≡ m
  unfolding goes_on
  goes_marked x y = ap (λ (b : Bool). pick b m (room_for turn && (eqb t.closes 0 || not (eqb x (end_byte t (bit_at word 0) t.closes))))) y

  -- Either way ----------------------------------------------------------------------------------------------------------------

  goes_not : (x k : ℕ) → t.closes ≡ suc k → x ≡ end_byte t (bit_at word 0) t.closes → (b : Bool) → t.marks ≡ b → goes_on t turn x ≡ false
  goes_not x k z e true y = let q : suc k ≡ 0 = sym z ∙ g.marked_closes y in absurd (omega arith)
  goes_not x k z e false y =
      goes_free x y
      ∙ ap₂ (λ (a b : Bool). room_for turn && (a || not b)) (ap (λ (n : ℕ). eqb n 0) z ∙ ne_eqb (suc k) 0 (omega arith)) (eq-eqb x (end_byte t (bit_at word 0) t.closes) e)
      ∙ and-false (room_for turn)

  -- the first bit of another word does not look like the last slots
  goes_apart : (x : ℕ) (ls : List ℕ) (u : ℕ) (vs more : List ℕ) → t.marks ≡ false → (x ∷ ls) ≡ down (lead_byte t) t.again ++ (bits_from t (some vs) u 0 t.width ++ more)
      → (k : ℕ) → t.closes ≡ k → eqb t.closes 0 || not (eqb x (end_byte t (bit_at word 0) t.closes)) ≡ true
  goes_apart x ls u vs more y e zero z = ap (λ (n : ℕ). eqb n 0 || not (eqb x (end_byte t (bit_at word 0) t.closes))) z
  goes_apart x ls u vs more y e (suc k) z =
      let free = e ∙ ap (λ (n : ℕ). down (lead_byte t) n ++ (bits_from t (some vs) u 0 t.width ++ more)) (g.closing_again k z) in
      ap₂ (λ (a b : Bool). a || not b) (ap (λ (n : ℕ). eqb n 0) z ∙ ne_eqb (suc k) 0 (omega arith))
      (head_apart t.width (omega (arith, g.least)) free)
    where
      head_apart : (n : ℕ) → 1 ≤ n → (x ∷ ls) ≡ bits_from t (some vs) u 0 n ++ more → eqb x (end_byte t (bit_at word 0) t.closes) ≡ false
      head_apart zero l e = absurd (omega arith)
      head_apart (suc n) l e =
          ap (λ (v : ℕ). eqb v (end_byte t (bit_at word 0) t.closes)) (cons_head e ∙ ap (λ (b : Bool). bit_byte t.first ((b && eqb n 0) && some vs) (bit_of t.width u 0)) y)
          ∙ g.closing_apart k z (bit_of t.width u 0) (bit_at word 0)

  goes_yes : (x : ℕ) (ls : List ℕ) (u : ℕ) (vs more : List ℕ) → c + 1 < 8 → (t.marks ≡ true → m ≡ true)
      → (x ∷ ls) ≡ down (lead_byte t) t.again ++ (bits_from t (some vs) u 0 t.width ++ more) → (b : Bool) → t.marks ≡ b → goes_on t turn x ≡ true
  unfolding room_for
  goes_yes x ls u vs more l h e true y = goes_marked x y ∙ h y
  goes_yes x ls u vs more l h e false y =
      goes_free x y ∙ ap₂ (λ (a b : Bool). a && b) (lt-ltb (c + 1) 8 l) (goes_apart x ls u vs more y e t.closes refl)

  goes_room : (x : ℕ) → Fine t turn → goes_on t turn x ≡ true → (b : Bool) → t.marks ≡ b → c + 1 < 8
  unfolding room_for
  goes_room x f e true y = (f.mark (sym (goes_marked x y) ∙ e)).1
  goes_room x f e false y =
      ltb-true (c + 1) 8 (and_parts (ltb (c + 1) 8) (eqb t.closes 0 || not (eqb x (end_byte t (bit_at word 0) t.closes))) (sym (goes_free x y) ∙ e)).0

  -- the word is done
  turned_done : (x : ℕ) (done : List ℕ) → done_after turn (next_of t (start t.again) x).place done ≡ done_after (start t.again) (next_of t (start t.again) x).place (done ++ (word ∷ []))
  turned_done x done =
      let q = (next_of t (start t.again) x).place in
      let e = start_count t g (c + 1) t.again x in
      ap (λ (b : Bool). pick b (done ++ (word ∷ [])) done) (lt-ltb c q.count (omega (arith, e)))
      ∙ sym (done-same (start t.again) q (done ++ (word ∷ [])) (e ∙ sym (start_counts t g (c + 1) t.again)))

  close_way : Fine t turn → Way t (close t.closes)
  close_way f = way_told t g Close t.closes word false c tt (record { stage = tt; bound = f.bound; count = f.count; mark = false_true })

  turn_on : Fine t turn → (done : List ℕ) (x : ℕ) (ls us : List ℕ) (w : ℕ) (ws : List ℕ) → Fits t turn w ws → (x ∷ ls) ≡ after_word t (bit_at word 0) ws
      → us ≡ done ++ map (cut t.width) (w ∷ ws) → Stepped t turn done x ls us
  turn_on f done x ls us w [] v e a =
      stepped_as t turn (close t.closes) done x ls us (turn_close x (closed t.closes refl e)) refl refl
      ((close_way f).on done x ls us
      (record { word = w; words = []; fits = refit v refl v.known refl; shows = e; all = a }))
    where
      closed : (k : ℕ) → t.closes ≡ k → (x ∷ ls) ≡ down (end_byte t (bit_at word 0)) t.closes → goes_on t turn x ≡ false
      closed zero z e = nil_cons (sym (e ∙ ap (down (end_byte t (bit_at word 0))) z))
      closed (suc k) z e = goes_not x k z (cons_head (e ∙ ap (down (end_byte t (bit_at word 0))) z) ∙ ap (end_byte t (bit_at word 0)) (sym z)) t.marks refl
  turn_on f done x ls us w (u ∷ vs) v e a =
      let r : c + 1 < 8 = omega (arith, v.room) in
      let yes = goes_yes x ls u vs (behind t u vs) r v.agrees e t.marks refl in
      let q = (start_way t g (c + 1) t.again r).on (done ++ (word ∷ [])) x ls us
      (start_could t g (c + 1) t.again (done ++ (word ∷ [])) (x ∷ ls) us u vs v.smalls.0 v.smalls.1 (omega (arith, v.room)) e
      (a ∙ ap (λ (y : ℕ). done ++ (y ∷ map (cut t.width) (u ∷ vs))) (sym (top_full t.width w) ∙ v.known) ∙ sym (append_assoc done (word ∷ []) (map (cut t.width) (u ∷ vs))))) in
      let s = turn_start x yes in
      record {
        fits = ap (λ (n : Next). n.fits) s ∙ q.fits;
        could =
            subst (λ (n : Next). Could t n.place (done_after turn n.place done) ls us) (sym s)
            (subst (λ (y : List ℕ). Could t (next_of t (start t.again) x).place y ls us) (sym (turned_done x done)) q.could);
      }

  turn_back : Fine t turn → (done : List ℕ) (x : ℕ) (ls us : List ℕ) (b : Bool) → goes_on t turn x ≡ b
      → (next_of t turn x).fits ≡ true → Could t (next_of t turn x).place (done_after turn (next_of t turn x).place done) ls us → Could t turn done (x ∷ ls) us
  turn_back f done x ls us false e h k₀ =
      let s = turn_close x e in
      let k = (close_way f).back done x ls us (sym (ap (λ (n : Next). n.fits) s) ∙ h) (subst (λ (n : Next). Could t n.place (done_after turn n.place done) ls us) s k₀) in
      let none = k.fits.agrees in
      record {
        word = k.word;
        words = k.words;
        fits = record {
          small = k.fits.small;
          smalls = k.fits.smalls;
          room = k.fits.room;
          known = k.fits.known;
          agrees = λ y. sym (goes_marked x y) ∙ e ∙ sym (ap some none);
        };
        shows = k.shows ∙ ap (after_word t (bit_at word 0)) (sym none);
        all = k.all;
      }
  turn_back f done x ls us true e h k₀ =
      let W = t.width in
      let r = goes_room x f e t.marks refl in
      let s = turn_start x e in
      let k₁ = subst (λ (n : Next). Could t n.place (done_after turn n.place done) ls us) s k₀ in
      let k₂ = subst (λ (y : List ℕ). Could t (next_of t (start t.again) x).place y ls us) (turned_done x done) k₁ in
      let k = start_told t g (c + 1) t.again (done ++ (word ∷ [])) (x ∷ ls) us ((start_way t g (c + 1) t.again r).back (done ++ (word ∷ [])) x ls us (sym (ap (λ (n : Next). n.fits) s) ∙ h) k₂) in
      let whole : cut W word ≡ word = mod-eq_of_lt f.bound in
      record {
        word = word;
        words = k.head ∷ k.others;
        fits = record {
          small = lt_of_lt_of_le f.bound (pow_mono {j = 16} g.most);
          smalls = (k.small, k.smalls);
          room = omega (arith, k.room);
          known = top_full W word ∙ whole;
          agrees = λ y. sym (goes_marked x y) ∙ e;
        };
        shows = k.shows;
        all = k.all ∙ append_assoc done (word ∷ []) (map (cut W) (k.head ∷ k.others)) ∙ ap (λ (y : ℕ). done ++ (y ∷ map (cut W) (k.head ∷ k.others))) (sym whole);
      }

  turn_fine : Fine t turn → (x : ℕ) (b : Bool) → goes_on t turn x ≡ b → (next_of t turn x).fits ≡ true → Fine t (next_of t turn x).place
  turn_fine f x false e h =
      let s = turn_close x e in
      subst (λ (n : Next). Fine t n.place) (sym s) ((close_way f).fine x (sym (ap (λ (n : Next). n.fits) s) ∙ h))
  turn_fine f x true e h =
      let s = turn_start x e in
      subst (λ (n : Next). Fine t n.place) (sym s) ((start_way t g (c + 1) t.again (goes_room x f e t.marks refl)).fine x (sym (ap (λ (n : Next). n.fits) s) ∙ h))

  turn_way : Fine t turn → Way t turn
  turn_way f = record {
    on = λ done x ls us k. turn_on f done x ls us k.word k.words k.fits k.shows k.all;
    back = λ done x ls us h k. turn_back f done x ls us (goes_on t turn x) refl h k;
    fine = λ x h. turn_fine f x (goes_on t turn x) refl h;
  }

-- The way on from any fine place.
pub way : (t : Table) → Good t → (p : Place) → Fine t p → Way t p
way t g p f = go p.stage p.left p.word p.more p.count f
  where
    go : (stage : Stage) (left word : ℕ) (m : Bool) (c : ℕ) → Fine t (place_by stage left word m c) → Way t (place_by stage left word m c)
    go Lead left word m c f = way_told t g Lead left word m c tt f
    go First left word m c f = way_told t g First left word m c tt f
    go Second left word m c f = way_told t g Second left word m c tt f
    go Wait left word m c f = way_told t g Wait left word m c tt f
    go Turn left word m c f = turn_way t g left word m c f
    go Close left word m c f = way_told t g Close left word m c tt f
