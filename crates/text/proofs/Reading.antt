-- The loops of reading.
use Prim.Native.Nat.{ℕ, zero, suc, ◌+◌, ◌-◌, ◌≤◌, ◌<◌}
use mathlib.Core.Path.{◌≡◌, refl, sym, ap, ap₂, subst, ◌∙◌}
use mathlib.Core.Bool.{Bool, true, false, true≢false, not, ◌||◌}
use mathlib.Core.List.{List, [], ◌∷◌, ◌++◌, map}
use native.Mathlib.Omega.{arith}
use native.Mathlib.Decide.{dec_lt}
use native.Mathlib.Nat.{add-zero}
use native.Mathlib.Numerals.{add-one}
use lib.Dec.{ltb, eqb}
use lib.ListN.{length, get_or, take, drop, set, length-append, length-take, length-drop, length-map, drop_of_length-le}
use lib.Seq.{drop-cons, take_all, length-take-le, drop-append_seam}
use mir.Val.{bool_byte}
use borrow.Author.Tests.{lt-ltb, ltb-true, eq-eqb, ne_eqb}
use Rattle.text.specs.Choose.{pick}
use Rattle.text.specs.Refusals.{done}
use Rattle.text.specs.Text.{line_feed, most_cycles, character_of, is_digit, Put}
use Rattle.text.specs.Read.{cycle_at, start_at, refusal_at, cycles_in, starts_from, starts_in, refusal_from, text_refusal, read_refusal, Recording, Refused, ReadingNumbers, read_answer, value_of, digit_run, Check, Room, Fill, ReadText}
use Rattle.text.specs.declared.characters.Character.{Character}
use Rattle.text.specs.declared.characters.Character.TheVariants.{Digit, LineFeed, Other}
use Rattle.text.proofs.Numbers.{first_done}
use Rattle.text.proofs.Digits.{digit_value, no_feed, feed_written}
use Rattle.text.proofs.Buffers.{Filled, fill_begin, put_one, fill_more, fill_end}
use Rattle.std.specs.Prelude.{cond, min}
use denote.Param.Members.{Mut}
use denote.Ref.{Bor}
use Rattle.std.specs.Fn.{ComputesKey}
use Rattle.std.specs.List.{position_or_len, IsFirstMatchOrLen}
use Rattle.std.proofs.lemmas.List.{nil_from_length, take-append-le}
use Rattle.std.proofs.lemmas.List.Sums.{prefix_len-le-length}

-- What is accepted -----------------------------------------------------------------------------------------------------

pub accepted_next : (n : ℕ) (begun : Bool) (x : ℕ) (xs : List ℕ) → refusal_from n begun (x ∷ xs) ≡ done
    → (refusal_at n begun (character_of x) ≡ done) × (refusal_from (n + length (cycle_at (character_of x))) (is_digit (character_of x)) xs ≡ done)
unfolding refusal_from
accepted_next n begun x xs e = first_done (refusal_at n begun (character_of x)) (refusal_from (n + length (cycle_at (character_of x))) (is_digit (character_of x)) xs) e

-- A digit is accepted only if one more cycle fits.
digit_few : (n : ℕ) (begun : Bool) (d : ℕ) → refusal_at n begun (Digit d) ≡ done → n < most_cycles
digit_few n begun d e = go (ltb n most_cycles) refl e
  where
    go : (t : Bool) → ltb n most_cycles ≡ t → ◌≡◌ {A = ℕ} (pick t 0 13) 0 → n < most_cycles
    go true p z = ltb-true n most_cycles p
    go false p z = absurd (let l : ◌≡◌ {A = ℕ} 13 0 = z in omega arith)

digit_fits : (n : ℕ) (begun : Bool) (k : Character) → refusal_at n begun k ≡ done → n ≤ most_cycles → n + length (cycle_at k) ≤ most_cycles
digit_fits n begun (Digit d) e h = let l = digit_few n begun d e in omega arith
digit_fits n begun LineFeed e h = omega arith
digit_fits n begun Other e h = omega arith

pub cycles_most : (n : ℕ) (begun : Bool) (xs : List ℕ) → refusal_from n begun xs ≡ done → n ≤ most_cycles → n + length (cycles_in xs) ≤ most_cycles
unfolding cycles_in
cycles_most n begun [] e h = omega arith
cycles_most n begun (x ∷ xs) e h =
    let a = accepted_next n begun x xs e in
    let f = digit_fits n begun (character_of x) a.0 h in
    let r = cycles_most (n + length (cycle_at (character_of x))) (is_digit (character_of x)) xs a.1 f in
    let l = length-append (cycle_at (character_of x)) (cycles_in xs) in
    omega arith

-- One character, as it is read.
module _ (x : ℕ) (k : Character) (q : character_of x ≡ k) (xs : List ℕ) where
  pub cycles_character : cycles_in (x ∷ xs) ≡ cycle_at k ++ cycles_in xs
  unfolding cycles_in
  cycles_character = rw q

  pub starts_character : (n : ℕ) (begun : Bool) → starts_from n begun (x ∷ xs) ≡ start_at n begun k ++ starts_from (n + length (cycle_at k)) (is_digit k) xs
  unfolding starts_from
  starts_character n begun = rw q

  pub accepted_character : (n : ℕ) (begun : Bool) → refusal_from n begun (x ∷ xs) ≡ done → (refusal_at n begun k ≡ done) × (refusal_from (n + length (cycle_at k)) (is_digit k) xs ≡ done)
  accepted_character n begun e = rw q at (accepted_next n begun x xs e)

-- Checking -------------------------------------------------------------------------------------------------------------

pub refusal_feed : (x : ℕ) → character_of x ≡ LineFeed → (xs : List ℕ) (n : ℕ) → refusal_from n true (x ∷ xs) ≡ refusal_from n false xs
unfolding refusal_from
refusal_feed x q xs n = rw (q, add-zero n)

-- A digit is read in the same way in a line that has begun and in one that has not, except for the line start.
module _ (x : ℕ) (xs : List ℕ) (n : ℕ) (h : is_digit (character_of x) ≡ true) where
  first_refusal : refusal_from n false (x ∷ xs) ≡ refusal_from n true (x ∷ xs)
  unfolding refusal_from
  first_refusal = rw (digit_value x h)

  first_starts : starts_from n false (x ∷ xs) ≡ n ∷ starts_from n true (x ∷ xs)
  unfolding starts_from
  first_starts = rw (digit_value x h)

  first_cycles : cycles_in (x ∷ xs) ≡ value_of x ∷ cycles_in xs
  unfolding cycles_in
  first_cycles = rw (digit_value x h)

  next_refusal : n < most_cycles → refusal_from n true (x ∷ xs) ≡ refusal_from (n + 1) true xs
  unfolding refusal_from
  next_refusal m = rw (digit_value x h, lt-ltb n most_cycles m)

  next_starts : starts_from n true (x ∷ xs) ≡ starts_from (n + 1) true xs
  unfolding starts_from
  next_starts = rw (digit_value x h)

-- c digits of a line that has begun are passed.
record Passed (n c : ℕ) (xs : List ℕ) : Type 0 where
  pub refusal : refusal_from n true xs ≡ refusal_from (n + c) true (drop c xs)
  pub cycles : length (cycles_in xs) ≡ c + length (cycles_in (drop c xs))
  pub starts : starts_from n true xs ≡ starts_from (n + c) true (drop c xs)

passed_none : (n : ℕ) (xs : List ℕ) → Passed n 0 xs
passed_none n xs = record { refusal = rw (add-zero n); cycles = omega arith; starts = rw (add-zero n) }

passed_more : (n c x : ℕ) (xs : List ℕ) → is_digit (character_of x) ≡ true → n < most_cycles → Passed (n + 1) c xs → Passed n (1 + c) (x ∷ xs)
passed_more n c x xs h m p =
    let z : n + (1 + c) ≡ n + 1 + c = omega arith in
    let s : 1 + c ≡ suc c = omega arith in
    record {
      refusal = next_refusal x xs n h m ∙ rw (z, s) p.refusal;
      cycles = ap length (first_cycles x xs n h) ∙ rw s (let l = p.cycles in omega arith);
      starts = next_starts x xs n h ∙ rw (z, s) p.starts;
    }

passed-run : (m n : ℕ) (xs : List ℕ) → n + m ≤ most_cycles → Passed n (digit_run (take m xs)) xs
passed-run zero n [] h = passed_none n []
passed-run zero n (x ∷ xs) h = passed_none n (x ∷ xs)
passed-run (suc m) n [] h = passed_none n []
passed-run (suc m) n (x ∷ xs) h = go (is_digit (character_of x)) refl (passed-run m (n + 1) xs (omega arith))
  where
    go : (t : Bool) → is_digit (character_of x) ≡ t → Passed (n + 1) (digit_run (take m xs)) xs → Passed n (cond t (1 + digit_run (take m xs)) 0) (x ∷ xs)
    go true e p = passed_more n (digit_run (take m xs)) x xs e (omega arith) p
    go false e p = passed_none n (x ∷ xs)

-- A run that is shorter than what is looked at ends before something else.
run_stops : (m : ℕ) (xs : List ℕ) → digit_run (take m xs) < m → digit_run (take m xs) < length xs → is_digit (character_of (get_or xs (digit_run (take m xs)) 0)) ≡ false
run_stops zero xs h k = absurd (omega arith)
run_stops (suc m) [] h k = absurd (omega arith)
run_stops (suc m) (x ∷ xs) h k = go (is_digit (character_of x)) refl h k (run_stops m xs)
  where
    go : (t : Bool) → is_digit (character_of x) ≡ t → cond t (1 + digit_run (take m xs)) 0 < suc m → cond t (1 + digit_run (take m xs)) 0 < length (x ∷ xs)
        → (digit_run (take m xs) < m → digit_run (take m xs) < length xs → is_digit (character_of (get_or xs (digit_run (take m xs)) 0)) ≡ false)
        → is_digit (character_of (get_or (x ∷ xs) (cond t (1 + digit_run (take m xs)) 0) 0)) ≡ false
    go true e p q r = let s : 1 + digit_run (take m xs) ≡ suc (digit_run (take m xs)) = omega arith in rw s (r (omega arith) (omega arith))
    go false e p q r = e

-- The same from the start of a line: a run of c digits begins it if there are any.
record Run (n c : ℕ) (xs : List ℕ) : Type 0 where
  pub refusal : refusal_from n false xs ≡ refusal_from (n + c) (ltb 0 c) (drop c xs)
  pub cycles : length (cycles_in xs) ≡ c + length (cycles_in (drop c xs))
  pub starts : length (starts_from n false xs) ≡ bool_byte (ltb 0 c) + length (starts_from (n + c) (ltb 0 c) (drop c xs))

run_none : (n : ℕ) (xs : List ℕ) → Run n 0 xs
run_none n xs = record { refusal = rw (add-zero n); cycles = omega arith; starts = rw (add-zero n) (omega arith) }

run_read : (m n : ℕ) (xs : List ℕ) → n + m ≤ most_cycles → Run n (digit_run (take m xs)) xs
run_read zero n [] h = run_none n []
run_read zero n (x ∷ xs) h = run_none n (x ∷ xs)
run_read (suc m) n [] h = run_none n []
run_read (suc m) n (x ∷ xs) h = go (is_digit (character_of x)) refl (passed-run (suc m) n (x ∷ xs) h)
  where
    go : (t : Bool) → is_digit (character_of x) ≡ t → Passed n (cond t (1 + digit_run (take m xs)) 0) (x ∷ xs) → Run n (cond t (1 + digit_run (take m xs)) 0) (x ∷ xs)
    go true e p =
        let t = lt-ltb 0 (1 + digit_run (take m xs)) (omega arith) in
        record {
          refusal = rw t (first_refusal x xs n e ∙ p.refusal);
          cycles = p.cycles;
          starts = rw t (ap length (first_starts x xs n e) ∙ (let l = ap length p.starts in omega arith));
        }
    go false e p = run_none n (x ∷ xs)

-- What is left behind a line.
after_line : (c : ℕ) (rest : List ℕ) → take (length rest - (c + 1)) (drop (c + 1) rest) ≡ drop (c + 1) rest
after_line c rest = take_all (length rest - (c + 1)) (drop (c + 1) rest) (rw (length-drop (c + 1) rest) (omega arith))

-- Before what is left, where a line is to start: n cycles and m line starts.
pub record Checking (text : List ℕ) (n m : ℕ) (rest : List ℕ) : Type 0 where
  pub most : n ≤ most_cycles
  pub few : m + length rest ≤ length text
  pub refusal : text_refusal text ≡ refusal_from n false rest
  pub cycles : length (cycles_in text) ≡ n + length (cycles_in rest)
  pub starts : length (starts_in text) ≡ m + length (starts_from n false rest)

refused : (text : List ℕ) (r : ℕ) → text_refusal text ≡ r → (r ≡ done → ⊥) → Check text (record { refusal = r; cycles = 0; starts = 0 })
refused text r e f =
    let z = ne_eqb r done f in
    record { refusal = sym e; cycles = rw (e, z); starts = rw (e, z) }

module _ (text : List ℕ) (n m : ℕ) (rest : List ℕ) (j : Checking text n m rest) where
  pub check_end : length rest ≡ 0 → Check text (record { refusal = 0; cycles = n; starts = m })
  unfolding refusal_from cycles_in starts_from
  check_end h =
      let e = nil_from_length rest h in
      let r : text_refusal text ≡ 0 = j.refusal ∙ rw e in
      let c : length (cycles_in text) ≡ n = j.cycles ∙ rw e (omega arith) in
      let s : length (starts_in text) ≡ m = j.starts ∙ rw e (omega arith) in
      record { refusal = sym r; cycles = rw (r, c); starts = rw (r, s) }

  -- c digits follow, and are looked at as far as cycles fit
  module _ (r : ℕ) (g : r ≡ min (length rest) (most_cycles - n)) (c : ℕ) (given : c ≡ digit_run (take r rest)) where
    run : Run n c rest
    run = rw given (run_read r n rest (let f = j.most in omega arith))

    run_within : c ≤ r
    run_within = rw given (let w = prefix_len-le-length (λ x. is_digit (character_of x)) (take r rest) in let l = length-take r rest in omega arith)

    pub run_fits : (n + c ≤ most_cycles) × (c ≤ length rest)
    run_fits = let w = run_within in let f = j.most in (omega arith, omega arith)

    -- the text ends in a line
    pub check_unended : 0 < length rest → length rest ≤ c → Check text (record { refusal = 19; cycles = 0; starts = 0 })
    unfolding refusal_from
    check_unended h z =
        let t : ltb 0 c ≡ true = lt-ltb 0 c (omega arith) in
        let d : drop c rest ≡ [] = drop_of_length-le rest {i = c} z in
        refused text 19 (j.refusal ∙ run.refusal ∙ rw (d, t)) (λ w. let l : ◌≡◌ {A = ℕ} 19 0 = w in omega arith)

    module _ (u : c < length rest) (k : Character) (q : k ≡ character_of (get_or rest c 0)) where
      here : drop c rest ≡ get_or rest c 0 ∷ drop (c + 1) rest
      here = drop-cons rest c 0 u ∙ rw (add-one c)

      -- the character after the run decides
      pub check_refused : (f : ℕ) → f ≡ refusal_at (n + c) (ltb 0 c) k → (f ≡ done → ⊥) → Check text (record { refusal = f; cycles = 0; starts = 0 })
      unfolding refusal_from
      check_refused f v z = refused text f (j.refusal ∙ run.refusal ∙ rw (here, ← q, ← v, ne_eqb f done z)) z

      -- a digit there has 4,096 before it
      no_digit : is_digit k ≡ true → n + c < most_cycles → ⊥
      no_digit d l = go (dec_lt c r)
        where
          go : Dec (c < r) → ⊥
          go (yes p) =
              let s = run_stops r rest (rw (← given) p) (rw (← given) u) in
              true≢false (sym d ∙ ap is_digit q ∙ rw given s)
          go (no p) = let w = run_within in omega arith

      -- it goes on only with a line feed after digits
      line_feed_lem : refusal_at (n + c) (ltb 0 c) k ≡ done → (k ≡ LineFeed) × (ltb 0 c ≡ true)
      line_feed_lem z = go k refl (ltb 0 c) refl z
        where
          go : (i : Character) → k ≡ i → (t : Bool) → ltb 0 c ≡ t → refusal_at (n + c) t i ≡ done → (k ≡ LineFeed) × (ltb 0 c ≡ true)
          go (Digit d) y t v w = absurd (no_digit (ap is_digit y) (digit_few (n + c) t d w))
          go LineFeed y true v w = (y, v)
          go LineFeed y false v w = absurd (let l : ◌≡◌ {A = ℕ} 18 0 = w in omega arith)
          go Other y t v w = absurd (let l : ◌≡◌ {A = ℕ} 17 0 = w in omega arith)

      pub check_turn : done ≡ refusal_at (n + c) (ltb 0 c) k → Checking text (n + c) (m + 1) (take (length rest - (c + 1)) (drop (c + 1) rest))
      check_turn v =
          rw (after_line c rest)
          (let b = line_feed_lem (sym v) in
          let x : character_of (get_or rest c 0) ≡ LineFeed = sym q ∙ b.0 in
          record {
            most = run_fits.0;
            few = let i = j.few in let l = length-drop (c + 1) rest in omega arith;
            refusal = j.refusal ∙ run.refusal ∙ rw (here, b.1) (refusal_feed (get_or rest c 0) x (drop (c + 1) rest) (n + c));
            cycles = j.cycles ∙ (let l = run.cycles in let o : length (cycles_in (drop c rest)) ≡ length (cycles_in (drop (c + 1) rest)) = rw (here, cycles_character (get_or rest c 0) LineFeed x (drop (c + 1) rest)) in omega arith);
            starts =
                j.starts
                ∙ (let l : length (starts_from n false rest) ≡ 1 + length (starts_from (n + c) true (drop c rest)) = rw b.1 at run.starts in
                let o : length (starts_from (n + c) true (drop c rest)) ≡ length (starts_from (n + c) false (drop (c + 1) rest)) = rw (here, starts_character (get_or rest c 0) LineFeed x (drop (c + 1) rest) (n + c) true, add-zero (n + c)) in
                omega arith);
          })

-- Filling --------------------------------------------------------------------------------------------------------------

-- The rest of a line, in an accepted text.
record Line (n c : ℕ) (xs : List ℕ) : Type 0 where
  pub within : c < length xs
  pub accepted : refusal_from (n + c) false (drop (suc c) xs) ≡ done
  pub cycles : cycles_in xs ≡ map value_of (take c xs) ++ cycles_in (drop (suc c) xs)
  pub starts : starts_from n true xs ≡ starts_from (n + c) false (drop (suc c) xs)

line_here : (n x : ℕ) (xs : List ℕ) → character_of x ≡ LineFeed → refusal_from n true (x ∷ xs) ≡ done → Line n 0 (x ∷ xs)
line_here n x xs q e =
    record {
      within = omega arith;
      accepted = (accepted_character x LineFeed q xs n true e).1;
      cycles = cycles_character x LineFeed q xs;
      starts = starts_character x LineFeed q xs n true;
    }

line_more : (n c x : ℕ) (xs : List ℕ) → is_digit (character_of x) ≡ true → Line (n + 1) c xs → Line n (1 + c) (x ∷ xs)
line_more n c x xs h l =
    let z : n + (1 + c) ≡ n + 1 + c = omega arith in
    let s : 1 + c ≡ suc c = omega arith in
    let w = l.within in
    record {
      within = omega arith;
      accepted = rw (z, s) l.accepted;
      cycles = first_cycles x xs n h ∙ rw s (ap (λ (t : List ℕ). value_of x ∷ t) l.cycles);
      starts = next_starts x xs n h ∙ rw (z, s) l.starts;
    }

-- Where the first line feed is.
abbrev place_or_length : List ℕ → ℕ
place_or_length xs = position_or_len (λ x. eqb x line_feed) xs

line_read : (n : ℕ) (xs : List ℕ) → refusal_from n true xs ≡ done → Line n (place_or_length xs) xs
unfolding refusal_from
line_read n [] e = absurd (let l : ◌≡◌ {A = ℕ} 19 0 = e in omega arith)
line_read n (x ∷ xs) e = go (character_of x) refl (λ f. line_read (n + 1) xs f)
  where
    go : (k : Character) → character_of x ≡ k → (refusal_from (n + 1) true xs ≡ done → Line (n + 1) (place_or_length xs) xs) → Line n (cond (not (eqb x line_feed)) (1 + place_or_length xs) 0) (x ∷ xs)
    go (Digit d) q r = rw (no_feed x (Digit d) q refl) (line_more n (place_or_length xs) x xs (ap is_digit q) (r (accepted_character x (Digit d) q xs n true e).1))
    go LineFeed q r = rw (eq-eqb x line_feed (feed_written x q)) (line_here n x xs q e)
    go Other q r = absurd (let l : ◌≡◌ {A = ℕ} 17 0 = (accepted_character x Other q xs n true e).0 in omega arith)

-- An accepted text that has not ended begins with a digit where a line is to start.
line_digit : (n x : ℕ) (xs : List ℕ) → refusal_from n false (x ∷ xs) ≡ done → is_digit (character_of x) ≡ true
line_digit n x xs e = go (character_of x) refl
  where
    go : (k : Character) → character_of x ≡ k → is_digit k ≡ true
    go (Digit d) q = refl
    go LineFeed q = absurd (let l : ◌≡◌ {A = ℕ} 18 0 = (accepted_character x LineFeed q xs n false e).0 in omega arith)
    go Other q = absurd (let l : ◌≡◌ {A = ℕ} 17 0 = (accepted_character x Other q xs n false e).0 in omega arith)

-- Before what is left, where a line is to start: n cycles and m line starts are written.
pub record Filling (text cb sb cb₁ sb₁ : List ℕ) (n m : ℕ) (rest : List ℕ) : Type 0 where
  pub most : n ≤ most_cycles
  pub accepted : refusal_from n false rest ≡ done
  pub cycles : Filled (cycles_in text) cb cb₁ n (cycles_in rest)
  pub starts : Filled (starts_in text) sb sb₁ m (starts_from n false rest)

-- An accepted line ends in the first line feed.
line_begun : (n : ℕ) (rest : List ℕ) → refusal_from n false rest ≡ done → 0 < length rest → Line n (place_or_length rest) rest × (starts_from n false rest ≡ n ∷ starts_from n true rest)
line_begun n [] e h = absurd (omega arith)
line_begun n (x ∷ xs) e h =
    let d = line_digit n x xs e in
    (line_read n (x ∷ xs) (sym (first_refusal x xs n d) ∙ e), first_starts x xs n d)

-- The line that is cut off what is left, up to the first line feed.
pub record Cut (rest line more : List ℕ) : Type 0 where
  pub parts : rest ≡ line ++ more
  pub some : 0 < length rest
  pub first : ℕ
  pub long : length line ≡ min (first + 1) (length rest)
  pub feed : IsFirstMatchOrLen (λ x. eqb x line_feed) rest first

-- What a step of `split_inclusive` tells, where the test is that for a line feed.
pub cut_made : {F : Type 0} (g : Mut F (Bor ℕ × Unit {0}) Bool) {f f' : F} {rest line more : List ℕ} → ComputesKey g (λ x. eqb x line_feed) f
    → (rest ≡ line ++ more) × ((i : ℕ) × (length line ≡ min (i + 1) (length rest)) × ((p : ℕ → Bool) → ComputesKey g p f → ComputesKey g p f' × IsFirstMatchOrLen p rest i)) × (0 < length rest) → Cut rest line more
cut_made g t s = record { parts = s.0; some = s.2; first = s.1.0; long = s.1.1; feed = (s.1.2 (λ x. eqb x line_feed) t).1 }

-- The place that a cut tells is that of the first line feed, if there is one.
first_feed : (xs : List ℕ) (i : ℕ) → place_or_length xs < length xs → IsFirstMatchOrLen (λ x. eqb x line_feed) xs i → i ≡ place_or_length xs
first_feed [] i l h = absurd (omega arith)
first_feed (x ∷ xs) zero l h = rw (h.1 (omega arith) 0)
first_feed (x ∷ xs) (suc i) l h = go (eqb x line_feed) refl l (λ w. first_feed xs i w (λ k d a b. h.0 (suc k) d (omega arith) (omega arith), λ b d. h.1 (omega arith) d))
  where
    go : (t : Bool) → eqb x line_feed ≡ t → cond (not t) (1 + place_or_length xs) 0 < length (x ∷ xs) → (place_or_length xs < length xs → i ≡ place_or_length xs) → suc i ≡ cond (not t) (1 + place_or_length xs) 0
    go true e w r = absurd (true≢false (sym e ∙ h.0 0 0 (omega arith) (omega arith)))
    go false e w r = let q = r (omega arith) in omega arith

-- At first all is left.
pub filling_begin : (text cb sb : List ℕ) → Room text cb sb → (m : ℕ) (rest : List ℕ) → m ≡ 0 → rest ≡ text → Filling text cb sb cb sb 0 m rest
filling_begin text cb sb r m rest e q =
    rw (e, q)
    (record {
      most = omega arith;
      accepted = r.accepted;
      cycles = fill_begin cb 0 (cycles_in text) (let h = r.cycles in omega arith);
      starts = fill_begin sb 0 (starts_in text) (let h = r.starts in omega arith);
    })

module _ (text cb sb cb₁ sb₁ : List ℕ) (n m : ℕ) (rest : List ℕ) (f : Filling text cb sb cb₁ sb₁ n m rest) where
  pub filling_end : length rest ≡ 0 → Fill text cb sb cb₁ sb₁
  unfolding cycles_in starts_from
  filling_end h =
      let e = nil_from_length rest h in
      record { cycles = fill_end (cycles_in text) cb cb₁ n (rw e at f.cycles); starts = fill_end (starts_in text) sb sb₁ m (rw e at f.starts) }

  module _ (line more : List ℕ) (k : Cut rest line more) where
    abbrev c : ℕ
    c = length line - 1

    at_feed : (c ≡ place_or_length rest) × (length line ≡ c + 1)
    at_feed =
        let w = (line_begun n rest f.accepted k.some).0.within in
        let i = first_feed rest k.first w k.feed in
        let l : length line ≡ min (k.first + 1) (length rest) = k.long in
        (omega (arith, w, i, l), omega (arith, w, i, l))

    before : take c line ≡ take c rest
    before = sym (ap (take c) k.parts ∙ take-append-le c line more (omega arith))

    behind : more ≡ drop (suc c) rest
    behind = let l = at_feed.1 in let e : length line ≡ suc c = omega arith in sym (drop-append_seam line more) ∙ ap₂ drop e (sym k.parts)

    begun : Line n c rest × (starts_from n false rest ≡ n ∷ starts_from n true rest)
    begun = rw at_feed.0 (line_begun n rest f.accepted k.some)

    next_cycles : Filled (cycles_in text) cb cb₁ n (map value_of (take c line) ++ cycles_in more)
    next_cycles = subst (λ (q : List ℕ). Filled (cycles_in text) cb cb₁ n q) (begun.0.cycles ∙ ap₂ (λ (a b : List ℕ). map value_of a ++ cycles_in b) (sym before) (sym behind)) f.cycles

    next_start : Filled (starts_in text) sb sb₁ m ((n ∷ []) ++ starts_from (n + c) false more)
    next_start = subst (λ (q : List ℕ). Filled (starts_in text) sb sb₁ m q) (begun.1 ∙ ap (λ (q : List ℕ). n ∷ q) (begun.0.starts ∙ ap (starts_from (n + c) false) (sym behind))) f.starts

    start_room : m < length sb₁
    start_room =
        let a = next_start.count in
        let r = next_start.room in
        let s = next_start.same in
        omega arith

    pub cycles_room : n + length (take c line) ≤ length cb₁
    cycles_room =
        let a = next_cycles.count in
        let r = next_cycles.room in
        let s = next_cycles.same in
        let l = length-append (map value_of (take c line)) (cycles_in more) in
        let q = length-map (take c line) value_of in
        omega arith

    -- the line's cycles fit
    length_cycles : length (map value_of (take c line)) ≡ c
    length_cycles = length-map (take c line) value_of ∙ length-take-le c line (let l = at_feed.1 in omega (arith, l))

    line_fits : n + c ≤ most_cycles
    line_fits =
        let t = cycles_most n false rest f.accepted f.most in
        let a = f.cycles.count in
        let b = next_cycles.count in
        let l = length-append (map value_of (take c line)) (cycles_in more) in
        let q = length_cycles in
        omega arith

    pub start_place : (i : ℕ) → i ≡ m → i < length sb₁
    start_place i e = rw e start_room

    pub filling_turn : (i j n₂ : ℕ) (cb₂ : List ℕ) → i ≡ m → j ≡ m + 1 → Put cb₁ n (map value_of (take c line)) n₂ cb₂ → Filling text cb sb cb₂ (set sb₁ i n) n₂ j more
    filling_turn i j n₂ cb₂ e q p =
        let w : n₂ ≡ n + c = p.next ∙ ap (λ (t : ℕ). n + t) length_cycles in
        rw (e, q)
        (record {
          most = rw w line_fits;
          accepted = ap₂ (λ (v : ℕ) (xs : List ℕ). refusal_from v false xs) w behind ∙ begun.0.accepted;
          cycles = fill_more (cycles_in text) cb cb₁ n (map value_of (take c line)) (cycles_in more) next_cycles n₂ cb₂ p;
          starts = rw w (fill_more (starts_in text) sb sb₁ m (n ∷ []) (starts_from (n + c) false more) next_start (m + 1) (set sb₁ m n) (put_one sb₁ m n start_room));
        })

-- Answers --------------------------------------------------------------------------------------------------------------

module _ (text cb sb : List ℕ) (j : ReadingNumbers) (g : Check text j) where
  pub read_refused : (j.refusal ≡ done → ⊥) → ReadText text cb sb (Refused j.refusal) cb sb
  unfolding read_answer read_refusal
  read_refused f =
      let d = ne_eqb j.refusal done f in
      record { answer = rw (← g.refusal, d, d); cycles = rw (← g.refusal, d, d); starts = rw (← g.refusal, d, d) }

  module _ (z : j.refusal ≡ done) where
    accepted : text_refusal text ≡ done
    accepted = sym g.refusal ∙ z

    cycles_are : j.cycles ≡ length (cycles_in text)
    cycles_are = g.cycles ∙ rw accepted

    starts_are : j.starts ≡ length (starts_in text)
    starts_are = g.starts ∙ rw accepted

    room_is : (t : Bool) → (ltb (length cb) j.cycles || ltb (length sb) j.starts) ≡ t → read_refusal text cb sb ≡ pick t 16 0
    unfolding read_refusal
    room_is t s = rw (accepted, ← cycles_are, ← starts_are, s)

    pub read_short : (ltb (length cb) j.cycles || ltb (length sb) j.starts) ≡ true → ReadText text cb sb (Refused 16) cb sb
    unfolding read_answer
    read_short s = let r = room_is true s in record { answer = rw r; cycles = rw r; starts = rw r }

    module _ (s : (ltb (length cb) j.cycles || ltb (length sb) j.starts) ≡ false) where
      pub read_gives : (cb' sb' : List ℕ) → Fill text cb sb cb' sb' → ReadText text cb sb (Recording j.cycles j.starts) cb' sb'
      unfolding read_answer
      read_gives cb' sb' f =
          let r = room_is false s in
          record { answer = rw (r, cycles_are, starts_are); cycles = rw r f.cycles; starts = rw r f.starts }
