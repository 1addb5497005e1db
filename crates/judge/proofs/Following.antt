-- The loop that follows a recording: its places, the words found so far, and what it tells at each way out.
use Prim.Native.Nat.{ℕ, suc, min, ◌+◌, ◌-◌, ◌≤◌, ◌<◌}
use mathlib.Core.Path.{◌≡◌, refl, sym, ap, ◌∙◌, ap₂, subst}
use mathlib.Core.Bool.{Bool, true, false}
use mathlib.Core.Logic.{◌⊎◌, inl, inr}
use mathlib.Core.List.{List, [], ◌∷◌, ◌++◌, append_assoc}
use native.Mathlib.Omega.{arith}
use native.Mathlib.Numerals.{add-one}
use lib.Dec.{ltb, eqb}
use Rattle.std.specs.Prelude.{Some, None}
use lib.ListN.{length, drop, set, get_or, get_or-append, replicate, length-append, length-drop, length-set, length-replicate}
use lib.Seq.{drop-cons, drop-append_seam, set-set, set_at}
use Rattle.std.proofs.lemmas.List.{drop-drop}
use borrow.Author.Tests.{lt-ltb, le-ltb}
use Rattle.registers.specs.Choose.{pick}
use Rattle.registers.specs.declared.settings.Settings.{Settings}
use Rattle.judge.specs.Shared.{shared}
use Rattle.judge.specs.Judge.{Words, Leading, in_eight}
use Rattle.judge.specs.Follow.{Followed}
use Rattle.judge.specs.Place.{place_by, table_of, word_start, goes_on, entered_on, entered, level_of, after_bits, passed_on, passed, over, step_of}
use Rattle.judge.specs.declared.place.Table.{Table}
use Rattle.judge.specs.declared.place.Stage.{Stage}
use Rattle.judge.specs.declared.place.Stage.TheVariants.{Lead, First, Second, Wait, Turn, Close}
use Rattle.judge.specs.declared.place.Place.{Place}
use Rattle.judge.proofs.Rests.{Good}
use Rattle.judge.proofs.Sharing.{shared_least, shared_most, shared_slot}
use Rattle.judge.proofs.Way.{next_of, step_made, step_none, done_after}
use Rattle.judge.proofs.Follow.{Recorded, Stops, Follows, follows_start, follows_on, stops_at, stops_within, ends_over, ends_early}
use Rattle.judge.proofs.Verdicts.{recorded_given, stops_none}

-- A step counts a word or none ---------------------------------------------------------------------------------------------------

pick_count : (b : Bool) (p q : Place) (n : ℕ) → p.count ≡ n → q.count ≡ n → (pick b p q).count ≡ n
pick_count true p q n e f = e
pick_count false p q n e f = f

passed_count : (t : Table) (p : Place) (d : Bool) → (passed t p d).count ≡ p.count
unfolding passed after_bits
passed_count t p d = go p.stage
  where
    go : (stage : Stage) → (passed_on stage t p d).count ≡ p.count
    go Lead = pick_count (eqb p.left 1) _ _ p.count refl refl
    go First = refl
    go Second = pick_count (eqb p.left 1) _ _ p.count (pick_count (eqb t.waits 0) _ _ p.count refl refl) refl
    go Wait = pick_count (eqb p.left 1) _ _ p.count refl refl
    go Turn = refl
    go Close = refl

entered_count : (t : Table) (p : Place) (x : ℕ) → ((entered t p x).count ≡ p.count) ⊎ ((entered t p x).count ≡ p.count + 1)
unfolding entered word_start
entered_count t p x = go p.stage
  where
    turned : (b : Bool) → ((pick b (word_start t t.again (p.count + 1)) (place_by Close t.closes p.word false p.count)).count ≡ p.count)
        ⊎ ((pick b (word_start t t.again (p.count + 1)) (place_by Close t.closes p.word false p.count)).count ≡ p.count + 1)
    turned true = inr (pick_count (eqb t.again 0) _ _ (p.count + 1) refl refl)
    turned false = inl refl

    go : (stage : Stage) → ((entered_on stage t p x).count ≡ p.count) ⊎ ((entered_on stage t p x).count ≡ p.count + 1)
    go Lead = inl refl
    go First = inl refl
    go Second = inl refl
    go Wait = inl refl
    go Turn = turned (goes_on t p x)
    go Close = inl refl

step_count : (t : Table) (p : Place) (x : ℕ) → ((next_of t p x).place.count ≡ p.count) ⊎ ((next_of t p x).place.count ≡ p.count + 1)
unfolding next_of
step_count t p x = go (entered_count t p x)
  where
    e : (next_of t p x).place.count ≡ (entered t p x).count
    e = passed_count t (entered t p x) (level_of (entered t p x) x)

    go : ((entered t p x).count ≡ p.count) ⊎ ((entered t p x).count ≡ p.count + 1) → ((next_of t p x).place.count ≡ p.count) ⊎ ((next_of t p x).place.count ≡ p.count + 1)
    go (inl q) = inl (e ∙ q)
    go (inr q) = inr (e ∙ q)

-- The words found -----------------------------------------------------------------------------------------------------------------

-- the words done are in the first places, zeros come after the one that is being read
pub record Found (n : ℕ) (done found : List ℕ) : Type 0 where
  pub count : n ≡ length done
  pub eight : length found ≡ 8
  pub places : (v : ℕ) → set found n v ≡ done ++ (v ∷ replicate (7 - n) 0)

found_same : (n : ℕ) (done found : List ℕ) (w : ℕ) → Found n done found → Found n done (set found n w)
found_same n done found w k = record {
  count = k.count;
  eight = length-set found n w ∙ k.eight;
  places = λ v. set-set found n w v ∙ k.places v;
}

found_next : (n : ℕ) (done found : List ℕ) (w : ℕ) → n + 1 < 8 → Found n done found → Found (n + 1) (done ++ (w ∷ [])) (set found n w)
found_next n done found w l k =
    let c = k.count in
    let long : length (done ++ (w ∷ [])) ≡ n + 1 = length-append done (w ∷ []) ∙ omega arith in
    let r = replicate {A = ℕ} (7 - (n + 1)) 0 in
    let e : 7 - n ≡ suc (7 - (n + 1)) = omega arith in
    let split : set found n w ≡ (done ++ (w ∷ [])) ++ (0 ∷ r) =
    k.places w ∙ ap (λ (j : ℕ). done ++ (w ∷ replicate j 0)) e ∙ sym (append_assoc done (w ∷ []) (0 ∷ r)) in
    record {
      count = sym long;
      eight = length-set found n w ∙ k.eight;
      places = λ v. ap (λ (q : List ℕ). set q (n + 1) v) split ∙ set_at (done ++ (w ∷ [])) 0 r v (n + 1) long;
    }

found_start : Found 0 [] (replicate 8 0)
found_start = record { count = refl; eight = refl; places = λ v. refl }

found_all : (n : ℕ) (done found : List ℕ) (w : ℕ) → Found n done found → set found n w ≡ in_eight (done ++ (w ∷ []))
unfolding in_eight
found_all n done found w k =
    let c = k.count in
    let e : 7 - n ≡ 8 - length (done ++ (w ∷ [])) = omega (arith, length-append done (w ∷ [])) in
    k.places w ∙ ap (λ (j : ℕ). done ++ (w ∷ replicate j 0)) e ∙ sym (append_assoc done (w ∷ []) (replicate (8 - length (done ++ (w ∷ []))) 0))

-- The loop --------------------------------------------------------------------------------------------------------------------------

pub record Following (t : Table) (h : ℕ) (r found : List ℕ) (p : Place) (at : ℕ) : Type 0 where
  pub good : Good t
  pub positive : 0 < h
  pub done : List ℕ
  pub follows : Follows t h r at p done
  pub words : Found p.count done found

start_none : (t : Table) (k : ℕ) → (word_start t k 0).count ≡ 0
unfolding word_start
start_none t k = pick_count (eqb k 0) _ _ 0 refl refl

following_begin : (t : Table) (h : ℕ) (r found : List ℕ) (p : Place) → Good t → 0 < h → found ≡ replicate 8 0 → p ≡ word_start t t.leads 0 → Following t h r found p 0
following_begin t h r found p g z f e =
    subst (λ (q : Place). Following t h r found q 0) (sym e)
    (record {
      good = g;
      positive = z;
      done = [];
      follows = follows_start t g h z r;
      words = subst (Found (word_start t t.leads 0).count []) (sym f) (subst (λ (n : ℕ). Found n [] (replicate 8 0)) (sym (start_none t t.leads)) found_start);
    })

-- the same, with what is left to cut into slots
pub record Slots (t : Table) (h : ℕ) (r found : List ℕ) (p : Place) (at n : ℕ) (left : List ℕ) : Type 0 where
  pub size : n ≡ h
  pub rest : left ≡ drop at r
  pub following : Following t h r found p at

pub slots_begin : (t : Table) (h : ℕ) (r found : List ℕ) (p : Place) (size : ℕ) (rest : List ℕ) → Good t → 0 < h → found ≡ replicate 8 0 → p ≡ word_start t t.leads 0
    → size ≡ h → rest ≡ r → Slots t h r found p 0 size rest
slots_begin t h r found p size rest g z f e a b = record { size = a; rest = b; following = following_begin t h r found p g z f e }

module _ (t : Table) (h : ℕ) (r found : List ℕ) (p : Place) (at size : ℕ) (rest : List ℕ) (slots : Slots t h r found p at size rest) where
  abbrev k : Following t h r found p at
  k = slots.following

  -- The next slot, and what comes after it.
  module _ (size' : ℕ) (slot more : List ℕ) (s : (size' ≡ size) × ((rest ≡ slot ++ more) × (length slot ≡ min size (length rest)) × (0 < length rest))) where
    abbrev X : ℕ
    X = get_or slot 0 0

    split : drop at r ≡ slot ++ more
    split = sym slots.rest ∙ s.1.0

    long : length slot ≡ min h (length (drop at r))
    long = s.1.1 ∙ ap₂ (λ (n : ℕ) (l : List ℕ). min n (length l)) slots.size slots.rest

    within : at < length r
    within = let l = ap length slots.rest ∙ length-drop at r in let n = s.1.2 in omega (arith, l, n)

    slot_some : 0 < length slot
    slot_some = let z = k.positive in let l = length-drop at r in omega (arith, long, l, within)

    x_is : get_or r at 0 ≡ X
    x_is = ap (λ (q : List ℕ). get_or q 0 0) (sym (drop-cons r at 0 within) ∙ split) ∙ get_or-append slot more 0 0 slot_some

    cycle_next : drop at r ≡ X ∷ drop (at + 1) r
    cycle_next = drop-cons r at 0 within ∙ ap₂ (λ (x j : ℕ). x ∷ drop j r) x_is (sym (add-one at))

    -- the byte does not fit
    pub following_stop : step_of t p X ≡ None → Stops t h r at
    following_stop b = stops_at t k.good h k.positive r at X p k.done k.follows cycle_next (step_none t p X b)

    module _ (next : Place) (b : step_of t p X ≡ Some next) (run : ℕ) (q : run ≡ shared (replicate (length slot) X) slot) where
      fits : (next_of t p X).fits ≡ true
      fits = (step_made t p X next b).0

      run_as : run ≡ shared (replicate h X) (drop at r)
      run_as = q ∙ shared_slot h X slot more (long ∙ ap (λ (l : List ℕ). min h (length l)) split) ∙ ap (shared (replicate h X)) (sym split)

      -- the byte does not last
      pub following_part : run < h → Stops t h r (at + run)
      following_part m =
          subst (λ (n : ℕ). Stops t h r (at + n)) (sym run_as)
          (stops_within t k.good h k.positive r at X p k.done k.follows cycle_next fits (subst (λ (n : ℕ). n < h) run_as m))

      -- a whole slot
      run_whole : h ≤ run → shared (replicate h X) (drop at r) ≡ h
      run_whole m = let a = shared_least (replicate h X) (drop at r) in omega (arith, run_as, a, length-replicate h X)

      rest_next : h ≤ run → more ≡ drop (at + h) r
      rest_next m =
          let a = shared_most (replicate (length slot) X) slot in
          let l : length slot ≡ h = omega (arith, long, q, a) in
          sym (drop-append_seam slot more) ∙ ap₂ drop l (sym split) ∙ drop-drop h at r

      follows_then : h ≤ run → Follows t h r (at + h) (next_of t p X).place (done_after p (next_of t p X).place k.done)
      follows_then m = follows_on t k.good h k.positive r at X p k.done k.follows cycle_next fits (run_whole m)

      found_then : (c : ℕ) → c < 8 → (c ≡ p.count) ⊎ (c ≡ p.count + 1) → Found c (pick (ltb p.count c) (k.done ++ (p.word ∷ [])) k.done) (set found p.count p.word)
      found_then c m (inl e) =
          let n = p.count in
          subst (λ (d : List ℕ). Found c d (set found n p.word)) (ap (λ (b : Bool). pick b (k.done ++ (p.word ∷ [])) k.done) (sym (le-ltb n c (omega arith))))
          (subst (λ (j : ℕ). Found j k.done (set found n p.word)) (sym e) (found_same n k.done found p.word k.words))
      found_then c m (inr e) =
          let n = p.count in
          subst (λ (d : List ℕ). Found c d (set found n p.word)) (ap (λ (b : Bool). pick b (k.done ++ (p.word ∷ [])) k.done) (sym (lt-ltb n c (omega arith))))
          (subst (λ (j : ℕ). Found j (k.done ++ (p.word ∷ [])) (set found n p.word)) (sym e) (found_next n k.done found p.word (omega arith) k.words))

      following_turn : h ≤ run → Following t h r (set found p.count p.word) next (at + h)
      following_turn m =
          let f = follows_then m in
          subst (λ (n : Place). Following t h r (set found p.count p.word) n (at + h)) (step_made t p X next b).1
          (record {
            good = k.good;
            positive = k.positive;
            done = done_after p (next_of t p X).place k.done;
            follows = f;
            words = found_then (next_of t p X).place.count f.fine.count (step_count t p X);
          })

      pub slots_turn : h ≤ run → Slots t h r (set found p.count p.word) next (at + h) size' more
      slots_turn m = record { size = s.0 ∙ slots.size; rest = rest_next m; following = following_turn m }

  -- The end of the recording
  module _ (l : length rest ≡ 0) where
    at_end : at ≡ length r
    at_end = let w = k.follows.within in let n = ap length slots.rest ∙ length-drop at r in omega (arith, l, n)

    follows_end : Follows t h r (length r) p k.done
    follows_end = subst (λ (n : ℕ). Follows t h r n p k.done) at_end k.follows

    pub following_early : over t p ≡ false → Stops t h r at
    following_early o = subst (Stops t h r) (sym at_end) (ends_early t k.good h k.positive r p k.done follows_end o)

    pub following_over : over t p ≡ true → Recorded t h r (k.done ++ (p.word ∷ []))
    following_over o = ends_over t k.good h k.positive r p k.done follows_end o

  pub words_count : p.count + 1 ≡ length (k.done ++ (p.word ∷ []))
  words_count = let c = k.words.count in sym (length-append k.done (p.word ∷ []) ∙ omega arith)

  pub words-places : set found p.count p.word ≡ in_eight (k.done ++ (p.word ∷ []))
  words-places = found_all p.count k.done found p.word k.words

-- What the ways out tell of the settings -----------------------------------------------------------------------------------------------

module _ (s : Settings) (t : Table) (h : ℕ) (r : List ℕ) (e : t ≡ table_of s) (d : h ≡ s.divisor.0) where
  pub told_leading : (n : ℕ) → Stops t h r n → Followed s r (Leading n) []
  told_leading n k cr0 cpsr can same =
      stops_none cr0 cpsr can r n
      (subst (λ (u : Settings). Stops (table_of u) u.divisor.0 r n) (sym same) (subst (λ (j : ℕ). Stops (table_of s) j r n) d (subst (λ (u : Table). Stops u h r n) e k)))

  pub told_words : (n : ℕ) (us found : List ℕ) → Recorded t h r us → n ≡ length us → found ≡ in_eight us → Followed s r (Words n) found
  told_words n us found k c f cr0 cpsr can same =
      recorded_given cr0 cpsr can r us found n
      (subst (λ (u : Settings). Recorded (table_of u) u.divisor.0 r us) (sym same) (subst (λ (j : ℕ). Recorded (table_of s) j r us) d (subst (λ (u : Table). Recorded u h r us) e k))) c f
