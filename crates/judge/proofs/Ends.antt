-- What a place may still show: always something, and nothing more exactly where a recording may end.
use Prim.{tt}
use Prim.Native.Nat.{ℕ, zero, suc, ◌+◌, ◌-◌, ◌*◌, ◌%◌, ◌^◌, ◌≤◌, ◌<◌}
use mathlib.Core.Path.{◌≡◌, refl, sym, ap, ap₂, ◌∙◌, subst}
use mathlib.Core.Bool.{Bool, true, false, not, ◌&&◌, and-false}
use mathlib.Core.List.{List, [], ◌∷◌, ◌++◌, map}
use native.Mathlib.Omega.{arith}
use native.Mathlib.Nat.{mod-eq_of_lt, lt_of_lt_of_le}
use lib.Dec.{eqb}
use lib.ListN.{length}
use Rattle.registers.specs.Bits.{bit_at}
use lib.Pow.{pow_mono, shl-shr, shl_lt}
use borrow.Author.Tests.{eqb-true, eq-eqb, not-true}
use Rattle.frames.specs.Bits.{cut}
use Rattle.std.proofs.lemmas.Bool.{and_parts}
use Rattle.serial.proofs.Top.{top, top_full}
use Rattle.serial.proofs.Drawing.Injective.{nil_cons}
use Rattle.serial.specs.Preloaded.{Sixteen}
use Rattle.judge.specs.Place.{place_by, lead_byte, end_byte, last_bit, over_on, over}
use Rattle.judge.specs.declared.place.Table.{Table}
use Rattle.judge.specs.declared.place.Stage.{Stage}
use Rattle.judge.specs.declared.place.Stage.TheVariants.{Lead, First, Second, Wait, Turn, Close}
use Rattle.judge.specs.declared.place.Place.{Place}
use Rattle.judge.proofs.Rests.{down, some, bits_from, behind, Good}
use Rattle.judge.proofs.Way.{taken_on, AgreesOn, Fits, rest_of, FineOn, Fine, Could, false_true}

-- Something ---------------------------------------------------------------------------------------------------------------------

-- a word with given first bits, zeros after them
top_made : (b x i : ℕ) → x < 2 ^ i → top b (x * 2 ^ (b - i)) i ≡ x
unfolding top
top_made b x i l = ap (λ (y : ℕ). y % 2 ^ i) (shl-shr x (b - i)) ∙ mod-eq_of_lt l

made_small : (b x i : ℕ) → b ≤ 16 → i ≤ b → x < 2 ^ i → x * 2 ^ (b - i) < 65536
made_small b x i m k l =
    let e : i + (b - i) ≡ b = omega arith in
    lt_of_lt_of_le (subst (λ (j : ℕ). x * 2 ^ (b - i) < 2 ^ j) e (shl_lt i (b - i) l)) (pow_mono {j = 16} m)

-- From a place on some list shows something, whatever came before.
pub record Somehow (t : Table) (p : Place) (done : List ℕ) : Type 0 where
  pub lines : List ℕ
  pub words : List ℕ
  pub could : Could t p done lines words

module _ (t : Table) (g : Good t) where
  taken_most : (stage : Stage) (left word : ℕ) (m : Bool) (c : ℕ) → FineOn stage t (place_by stage left word m c) → taken_on stage t left ≤ t.width
  taken_most Lead left word m c f = omega arith
  taken_most First left word m c f = omega arith
  taken_most Second left word m c f = omega (arith, f.0, f.1)
  taken_most Wait left word m c f = omega arith
  taken_most Turn left word m c f = omega arith
  taken_most Close left word m c f = omega arith

  somehow_with : (p : Place) → Fine t p → (done vs : List ℕ) → Sixteen vs → p.count + 1 + length vs ≤ 8 → AgreesOn p.stage t p vs → Somehow t p done
  somehow_with p f done vs k r a =
      let W = t.width in
      let i = taken_on p.stage t p.left in
      let w = p.word * 2 ^ (W - i) in
      record {
        lines = rest_of t p w vs;
        words = done ++ map (cut W) (w ∷ vs);
        could = record {
          word = w;
          words = vs;
          fits = record {
            small = made_small W p.word i g.most (taken_most p.stage p.left p.word p.more p.count f.stage) f.bound;
            smalls = k;
            room = r;
            known = top_made W p.word i f.bound;
            agrees = a;
          };
          shows = refl;
          all = refl;
        };
      }

  pub somehow : (p : Place) → Fine t p → (done : List ℕ) → Somehow t p done
  somehow p f done = go p.stage p.left p.word p.more p.count f
    where
      go : (stage : Stage) (left word : ℕ) (m : Bool) (c : ℕ) → Fine t (place_by stage left word m c) → Somehow t (place_by stage left word m c) done
      go Lead left word m c f = somehow_with (place_by Lead left word m c) f done [] tt (omega (arith, f.count)) tt
      go First left word m c f = somehow_with (place_by First left word m c) f done [] tt (omega (arith, f.count)) tt
      go Second left word true c f =
          let y = f.mark refl in
          somehow_with (place_by Second left word true c) f done (0 ∷ []) (omega arith, tt) (omega (arith, y.1))
          (sym (ap₂ (λ (a : Bool) (n : ℕ). (a && eqb (n - 1) 0) && true) y.0 (f.stage.2 refl)))
      go Second left word false c f = somehow_with (place_by Second left word false c) f done [] tt (omega (arith, f.count)) (sym (and-false (t.marks && eqb (left - 1) 0)))
      go Wait left word m c f = somehow_with (place_by Wait left word m c) f done [] tt (omega (arith, f.count)) tt
      go Turn left word true c f = somehow_with (place_by Turn left word true c) f done (0 ∷ []) (omega arith, tt) (omega (arith, (f.mark refl).1)) (λ _. refl)
      go Turn left word false c f = somehow_with (place_by Turn left word false c) f done [] tt (omega (arith, f.count)) (λ _. refl)
      go Close left word m c f = somehow_with (place_by Close left word m c) f done [] tt (omega (arith, f.count)) refl

  -- Nothing more --------------------------------------------------------------------------------------------------------------------

  -- a known word is itself when cut
  word_cut : (word : ℕ) → word < 2 ^ t.width → cut t.width word ≡ word
  word_cut word l = mod-eq_of_lt l

  ended_with : (p : Place) → Fine t p → p.word < 2 ^ t.width → taken_on p.stage t p.left ≡ t.width → AgreesOn p.stage t p [] → (done : List ℕ) → [] ≡ rest_of t p p.word []
      → Could t p done [] (done ++ (p.word ∷ []))
  ended_with p f l e a done s = record {
    word = p.word;
    words = [];
    fits = record {
      small = lt_of_lt_of_le l (pow_mono {j = 16} g.most);
      smalls = tt;
      room = omega (arith, f.count);
      known = ap (top t.width p.word) e ∙ top_full t.width p.word ∙ word_cut p.word l;
      agrees = a;
    };
    shows = s;
    all = ap (λ (y : ℕ). done ++ (y ∷ [])) (sym (word_cut p.word l));
  }

  pub over_could : (p : Place) → Fine t p → over t p ≡ true → (done : List ℕ) → Could t p done [] (done ++ (p.word ∷ []))
  unfolding over
  over_could p f o done = go p.stage p.left p.word p.more p.count f o
    where
      go : (stage : Stage) (left word : ℕ) (m : Bool) (c : ℕ) → Fine t (place_by stage left word m c) → over_on stage t (place_by stage left word m c) ≡ true
          → Could t (place_by stage left word m c) done [] (done ++ (word ∷ []))
      go Lead left word m c f o = false_true o
      go First left word m c f o = false_true o
      go Second left word m c f o = false_true o
      go Wait left word m c f o = false_true o
      go Turn left word m c f o =
          let b = and_parts (not m) (eqb t.closes 0) o in
          ended_with (place_by Turn left word m c) f f.bound refl (λ _. not-true m b.0) done
          (sym (ap (down (end_byte t (bit_at word 0))) (eqb-true t.closes 0 b.1)))
      go Close left word m c f o = ended_with (place_by Close left word m c) f f.bound refl refl done (sym (ap (down (end_byte t (bit_at word 0))) (eqb-true left 0 o)))

  -- a place at which a recording may end, with the words it then has
  pub record Ended (p : Place) (done us : List ℕ) : Type 0 where
    pub over : over t p ≡ true
    pub words : us ≡ done ++ (p.word ∷ [])

  bits_some : (b : Bool) (u i : ℕ) (n : ℕ) → 1 ≤ n → (r : List ℕ) → [] ≡ bits_from t b u i n ++ r → ⊥
  bits_some b u i zero l r e = absurd (omega arith)
  bits_some b u i (suc n) l r e = nil_cons e

  word_some : (f : ℕ → ℕ) (k : ℕ) (b : Bool) (u : ℕ) (r : List ℕ) → [] ≡ down f k ++ (bits_from t b u 0 t.width ++ r) → ⊥
  word_some f zero b u r e = bits_some b u 0 t.width (omega (arith, g.least)) r e
  word_some f (suc k) b u r e = nil_cons e

  down_none : (f : ℕ → ℕ) (k : ℕ) → [] ≡ down f k → k ≡ 0
  down_none f zero e = refl
  down_none f (suc k) e = nil_cons e

  last_word : (word w : ℕ) (done us ws : List ℕ) → top t.width w t.width ≡ word → ws ≡ [] → us ≡ done ++ map (cut t.width) (w ∷ ws) → us ≡ done ++ (word ∷ [])
  last_word word w done us ws k e a =
      a ∙ ap₂ (λ (y : ℕ) (ys : List ℕ). done ++ (y ∷ map (cut t.width) ys)) (sym (top_full t.width w) ∙ k) e

  unmarked : (m b : Bool) → (m ≡ true → b ≡ true) → (b ≡ true → m ≡ false) → not m ≡ true
  unmarked true b h k = false_true (sym (k (h refl)))
  unmarked false b h k = refl

  pub could_over : (p : Place) → Fine t p → (done us : List ℕ) → Could t p done [] us → Ended p done us
  unfolding over
  could_over p f done us k = go p.stage p.left p.word p.more p.count f k.word k.words k.fits k.shows k.all
    where
      go : (stage : Stage) (left word : ℕ) (m : Bool) (c : ℕ) → Fine t (place_by stage left word m c) → (w : ℕ) (ws : List ℕ) → Fits t (place_by stage left word m c) w ws
          → [] ≡ rest_of t (place_by stage left word m c) w ws → us ≡ done ++ map (cut t.width) (w ∷ ws) → Ended (place_by stage left word m c) done us
      go Lead zero word m c f w ws v e a = let l = f.stage in absurd (omega arith)
      go Lead (suc n) word m c f w ws v e a = nil_cons e
      go First left word m c f w ws v e a = absurd (bits_some (some ws) w (t.width - left) left f.stage.0 (behind t w ws) e)
      go Second left word m c f w ws v e a = nil_cons e
      go Wait zero word m c f w ws v e a = let l = f.stage.0 in absurd (omega arith)
      go Wait (suc n) word m c f w ws v e a = nil_cons e
      go Turn left word m c f w [] v e a = record {
        over = ap₂ ◌&&◌ (unmarked m t.marks (λ y. (f.mark y).0) v.agrees) (eq-eqb t.closes 0 (down_none (end_byte t (last_bit (place_by Turn left word m c))) t.closes e));
        words = last_word word w done us [] v.known refl a;
      }
      go Turn left word m c f w (u ∷ us) v e a = absurd (word_some (lead_byte t) t.again (some us) u (behind t u us) e)
      go Close left word m c f w ws v e a = record {
        over = eq-eqb left 0 (down_none (end_byte t (last_bit (place_by Close left word m c))) left e);
        words = last_word word w done us ws v.known v.agrees a;
      }
