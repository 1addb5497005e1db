-- Writing and reading undo each other.
use Prim.Native.Nat.{ℕ, zero, suc, ◌+◌, ◌-◌, ◌*◌, ◌≤◌, ◌<◌}
use mathlib.Core.Path.{◌≡◌, refl, sym, ap, subst, ◌∙◌}
use mathlib.Core.Bool.{Bool, true, false, ◌||◌}
use mathlib.Core.List.{List, [], ◌∷◌, ◌++◌, map}
use native.Mathlib.Omega.{arith}
use native.Mathlib.Nat.{add-zero}
use lib.Dec.{ltb, leb, eqb}
use lib.ListN.{length, take, drop, length-append, length-drop, take-append-drop, drop_of_length-le}
use lib.Seq.{append_snoc, take_at, drop-append-le, drop-drop, drop-length}
use borrow.Author.Tests.{leb-true, lt-ltb, le-ltb, le-leb, ne_eqb}
use Rattle.std.proofs.lemmas.List.{map-append}
use Rattle.text.specs.Choose.{pick}
use Rattle.text.specs.Refusals.{done, no_line_feed, first_of}
use Rattle.text.specs.Text.{line_feed, digit_of, character_of, is_digit, most_cycles, cycles_fit, places_fit, line_of, line_end, line_starts, between, lines_from, text_of, over}
use Rattle.text.specs.Write.{recording_refusal, write_refusal, Written, Bytes, Refused, written_numbers, write_answer, write_left, WriteText}
use Rattle.text.specs.Read.{cycle_at, start_at, refusal_at, refusal_at_end, cycles_in, starts_from, starts_in, refusal_from, text_refusal, read_refusal, Reading, Recording, Refused as Reading-as-Refused, reading_numbers, read_answer, ReadText}
use Rattle.text.specs.RoundTrip.{Readable, Writable, Inverse, Gives, RoundTrip, FirstDecides, StartsAsPlaces, Enough, p4_recording, p4_text, Examples}
use Rattle.text.specs.declared.characters.Character.{Character}
use Rattle.text.specs.declared.characters.Character.TheVariants.{Digit, LineFeed, Other}
use Rattle.text.proofs.Numbers.{first_done}
use Rattle.std.proofs.lemmas.Bool.{and_parts}
use Rattle.text.proofs.Digits.{digit_read, digit_written, feed_written}
use Rattle.text.proofs.Writing.{places_split, places_join, line_within, places_few, length_text, starts_fit, first_zero, length-between, recording_accepted, recording-done, write_ready}
use Rattle.text.proofs.Reading.{refusal_feed, cycles_character, starts_character, accepted_character, accepted_next, cycles_most}

-- Reading what was written ---------------------------------------------------------------------------------------------

-- One digit as it is read, and that a line feed is read as one.

module _ (c : ℕ) (h : c ≤ 15) (xs : List ℕ) where
  cycles_digit : cycles_in (digit_of c ∷ xs) ≡ c ∷ cycles_in xs
  unfolding cycles_in
  cycles_digit = rw (digit_read c h)

  starts_digit : (n : ℕ) (begun : Bool) → starts_from n begun (digit_of c ∷ xs) ≡ pick begun [] (n ∷ []) ++ starts_from (n + 1) true xs
  unfolding starts_from
  starts_digit n begun = rw (digit_read c h)

  refusal_digit : (n : ℕ) (begun : Bool) → n < most_cycles → refusal_from n begun (digit_of c ∷ xs) ≡ refusal_from (n + 1) true xs
  unfolding refusal_from
  refusal_digit n begun p = rw (digit_read c h, lt-ltb n most_cycles p)

feed : character_of line_feed ≡ LineFeed
unfolding character_of
feed = refl

fit_split : (c : ℕ) (cs : List ℕ) → cycles_fit (c ∷ cs) ≡ true → (c ≤ 15) × (cycles_fit cs ≡ true)
unfolding cycles_fit
fit_split c cs e = let s = and_parts (leb c 15) (cycles_fit cs) e in (leb-true c 15 s.0, s.1)

-- The rest of a line that has begun, with what follows it.
module _ (rest : List ℕ) where
  cycles-rest : (cs : List ℕ) → cycles_fit cs ≡ true → cycles_in (line_of cs ++ rest) ≡ cs ++ cycles_in rest
  unfolding line_of
  cycles-rest [] e = cycles_character line_feed LineFeed feed rest
  cycles-rest (c ∷ cs) e = let s = fit_split c cs e in cycles_digit c s.0 (line_of cs ++ rest) ∙ ap (λ (l : List ℕ). c ∷ l) (cycles-rest cs s.1)

  starts_rest : (n : ℕ) (cs : List ℕ) → cycles_fit cs ≡ true → starts_from n true (line_of cs ++ rest) ≡ starts_from (n + length cs) false rest
  unfolding line_of
  starts_rest n [] e = starts_character line_feed LineFeed feed rest n true
  starts_rest n (c ∷ cs) e =
      let s = fit_split c cs e in
      starts_digit c s.0 (line_of cs ++ rest) n true ∙ starts_rest (n + 1) cs s.1 ∙ ap (λ (k : ℕ). starts_from k false rest) (omega arith)

  refusal_rest : (n : ℕ) (cs : List ℕ) → cycles_fit cs ≡ true → n + length cs ≤ most_cycles → refusal_from n true (line_of cs ++ rest) ≡ refusal_from (n + length cs) false rest
  unfolding line_of
  refusal_rest n [] e h = refusal_feed line_feed feed rest n ∙ ap (λ (k : ℕ). refusal_from k false rest) (sym (add-zero n))
  refusal_rest n (c ∷ cs) e h =
      let s = fit_split c cs e in
      refusal_digit c s.0 (line_of cs ++ rest) n true (omega arith) ∙ refusal_rest (n + 1) cs s.1 (omega arith) ∙ ap (λ (k : ℕ). refusal_from k false rest) (omega arith)

  -- A whole line has at least one cycle, which begins it.
  starts_line : (n c : ℕ) (cs : List ℕ) → cycles_fit (c ∷ cs) ≡ true → starts_from n false (line_of (c ∷ cs) ++ rest) ≡ n ∷ starts_from (n + length (c ∷ cs)) false rest
  unfolding line_of
  starts_line n c cs e =
      let s = fit_split c cs e in
      starts_digit c s.0 (line_of cs ++ rest) n false ∙ ap (λ (l : List ℕ). n ∷ l) (starts_rest (n + 1) cs s.1 ∙ ap (λ (k : ℕ). starts_from k false rest) (omega arith))

  refusal_line : (n c : ℕ) (cs : List ℕ) → cycles_fit (c ∷ cs) ≡ true → n + length (c ∷ cs) ≤ most_cycles → refusal_from n false (line_of (c ∷ cs) ++ rest) ≡ refusal_from (n + length (c ∷ cs)) false rest
  unfolding line_of
  refusal_line n c cs e h =
      let s = fit_split c cs e in
      refusal_digit c s.0 (line_of cs ++ rest) n false (omega arith) ∙ refusal_rest (n + 1) cs s.1 (omega arith) ∙ ap (λ (k : ℕ). refusal_from k false rest) (omega arith)

fit_take : (i : ℕ) (cs : List ℕ) → cycles_fit cs ≡ true → cycles_fit (take i cs) ≡ true
unfolding cycles_fit
fit_take zero [] e = refl
fit_take zero (c ∷ cs) e = refl
fit_take (suc i) [] e = refl
fit_take (suc i) (c ∷ cs) e = let s = and_parts (leb c 15) (cycles_fit cs) e in rw s.0 (fit_take i cs s.1)

fit_drop : (i : ℕ) (cs : List ℕ) → cycles_fit cs ≡ true → cycles_fit (drop i cs) ≡ true
unfolding cycles_fit
fit_drop zero [] e = e
fit_drop zero (c ∷ cs) e = e
fit_drop (suc i) [] e = e
fit_drop (suc i) (c ∷ cs) e = fit_drop i cs (and_parts (leb c 15) (cycles_fit cs) e).1

-- What reading gives of the lines from s on.
record Given (cs : List ℕ) (s : ℕ) (text ss : List ℕ) : Type 0 where
  pub refusal : refusal_from s false text ≡ done
  pub cycles : cycles_in text ≡ drop s cs
  pub starts : starts_from s false text ≡ ss

module _ (cs : List ℕ) (fit : cycles_fit cs ≡ true) (most : length cs ≤ most_cycles) where
  -- a line in front of what is read already
  line_given : (s t : ℕ) (rest ss : List ℕ) → s < t → t ≤ length cs → Given cs t rest ss → Given cs s (line_of (between s t cs) ++ rest) (s ∷ ss)
  line_given s t rest ss h k g = go (between s t cs) refl (fit_take (t - s) (drop s cs) (fit_drop s cs fit)) (length-between s t cs k)
    where
      go : (line : List ℕ) → between s t cs ≡ line → cycles_fit line ≡ true → length line ≡ t - s → Given cs s (line_of line ++ rest) (s ∷ ss)
      go [] e f l = absurd (omega arith)
      go (c ∷ line) e f l =
          let n : s + length (c ∷ line) ≡ t = omega arith in
          let m : t ≡ s + (t - s) = omega arith in
          let d : drop t cs ≡ drop (t - s) (drop s cs) = ap (λ (i : ℕ). drop i cs) m ∙ sym (drop-drop (t - s) s cs) in
          record {
            refusal = refusal_line rest s c line f (omega arith) ∙ rw n g.refusal;
            cycles = cycles-rest rest (c ∷ line) f ∙ ap (λ (l : List ℕ). l ++ cycles_in rest) (sym e) ∙ ap (λ (l : List ℕ). between s t cs ++ l) (g.cycles ∙ d) ∙ take-append-drop (t - s) (drop s cs);
            starts = starts_line rest s c line f ∙ rw n (ap (λ (l : List ℕ). s ∷ l) g.starts);
          }

  lines_given : (low s : ℕ) (ss : List ℕ) → places_fit low (length cs) (s ∷ ss) ≡ true → Given cs s (lines_from cs (s ∷ ss)) (s ∷ ss)
  unfolding lines_from refusal_from cycles_in starts_from
  lines_given low s [] e =
      let w = line_within low (length cs) s [] e in
      line_given s (length cs) [] [] w.line w.end (record { refusal = refl; cycles = sym (drop-length cs); starts = refl })
  lines_given low s (t ∷ ts) e =
      let w = line_within low (length cs) s (t ∷ ts) e in
      line_given s t (lines_from cs (t ∷ ts)) (t ∷ ts) w.line w.end (lines_given (s + 1) t ts (places_split low (length cs) s (t ∷ ts) e).2)

  -- lines that start with the first cycle
  all_given : (ss : List ℕ) → places_fit 0 (length cs) ss ≡ true → line_end (length cs) ss ≡ 0 → Given cs 0 (lines_from cs ss) ss
  unfolding lines_from refusal_from cycles_in starts_from
  all_given [] e z = record { refusal = refl; cycles = sym (drop_of_length-le cs {i = 0} (omega arith)); starts = refl }
  all_given (s ∷ ss) e z = subst (λ (n : ℕ). Given cs n (lines_from cs (s ∷ ss)) (s ∷ ss)) z (lines_given 0 s ss e)

readable : (cs ps : List ℕ) → recording_refusal cs ps ≡ done → Readable cs ps
unfolding text_of
readable cs ps e =
    let a = recording_accepted cs ps e in
    let g = all_given cs a.cycles a.most (line_starts cs ps) (starts_fit cs ps ∙ a.places) (first_zero cs ps) in
    record { accepted = g.refusal; cycles = g.cycles; starts = g.starts }

-- Writing what was read ------------------------------------------------------------------------------------------------

-- Every cycle that is read has a digit.
cycles_fit_lem : (xs : List ℕ) → cycles_fit (cycles_in xs) ≡ true
unfolding cycles_in cycles_fit
cycles_fit_lem [] = refl
cycles_fit_lem (x ∷ xs) = go (character_of x) refl (cycles_fit_lem xs)
  where
    go : (k : Character) → character_of x ≡ k → cycles_fit (cycles_in xs) ≡ true → cycles_fit (cycle_at k ++ cycles_in xs) ≡ true
    go (Digit d) q f = rw (le-leb d 15 (digit_written x d q).1) f
    go LineFeed q f = f
    go Other q f = f

suc_out : (n m : ℕ) → n + suc m ≡ n + 1 + m
suc_out n m = omega arith

-- Line starts rise, and lie before the end.
starts_rise : (xs : List ℕ) (low n : ℕ) (begun : Bool) → low ≤ n → places_fit low (n + length (cycles_in xs)) (starts_from n begun xs) ≡ true
unfolding cycles_in starts_from places_fit
starts_rise [] low n begun h = refl
starts_rise (x ∷ xs) low n begun h = go (character_of x) begun (λ l m b p. starts_rise xs l m b p)
  where
    go : (k : Character) (b : Bool) → ((l m : ℕ) (c : Bool) → l ≤ m → places_fit l (m + length (cycles_in xs)) (starts_from m c xs) ≡ true)
        → places_fit low (n + length (cycle_at k ++ cycles_in xs)) (start_at n b k ++ starts_from (n + length (cycle_at k)) (is_digit k) xs) ≡ true
    go (Digit d) true r = rw (suc_out n (length (cycles_in xs))) (r low (n + 1) true (omega arith))
    go (Digit d) false r = places_join low (n + length (d ∷ cycles_in xs)) n (starts_from (n + 1) true xs) h (omega arith) (rw (suc_out n (length (cycles_in xs))) (r (n + 1) (n + 1) true (omega arith)))
    go LineFeed b r = rw (add-zero n) (r low n false h)
    go Other b r = rw (add-zero n) (r low n false h)

-- An accepted text begins a line, or has ended.
first_start : (n : ℕ) (xs : List ℕ) → refusal_from n false xs ≡ done → line_end (n + length (cycles_in xs)) (starts_from n false xs) ≡ n
unfolding cycles_in starts_from
first_start n [] e = omega arith
first_start n (x ∷ xs) e = go (character_of x) (accepted_next n false x xs e).0
  where
    go : (k : Character) → refusal_at n false k ≡ done → line_end (n + length (cycle_at k ++ cycles_in xs)) (start_at n false k ++ starts_from (n + length (cycle_at k)) (is_digit k) xs) ≡ n
    go (Digit d) z = refl
    go LineFeed z = absurd (let l : ◌≡◌ {A = ℕ} 18 0 = z in omega arith)
    go Other z = absurd (let l : ◌≡◌ {A = ℕ} 17 0 = z in omega arith)

-- A text is its lines again: `pre` are the cycles before it, and a line that has begun starts at s.
record Again (xs : List ℕ) : Type 0 where
  pub ended : (pre : List ℕ) → refusal_from (length pre) false xs ≡ done → lines_from (pre ++ cycles_in xs) (starts_from (length pre) false xs) ≡ xs
  pub begun : (pre : List ℕ) (s : ℕ) → s ≤ length pre → refusal_from (length pre) true xs ≡ done → lines_from (pre ++ cycles_in xs) (s ∷ starts_from (length pre) true xs) ≡ map digit_of (drop s pre) ++ xs

again_none : Again []
unfolding lines_from starts_from refusal_from
again_none = record { ended = λ pre e. refl; begun = λ pre s h e. absurd (let l : ◌≡◌ {A = ℕ} 19 0 = e in omega arith) }

module _ (x d : ℕ) (q : character_of x ≡ Digit d) (xs : List ℕ) (r : Again xs) (pre : List ℕ) where
  longer : length (pre ++ (d ∷ [])) ≡ length pre + 1
  longer = length-append pre (d ∷ [])

  -- a digit is one cycle more
  again_digit : (s : ℕ) → s ≤ length pre → refusal_from (length pre + 1) true xs ≡ done → lines_from (pre ++ cycles_in (x ∷ xs)) (s ∷ starts_from (length pre + 1) true xs) ≡ map digit_of (drop s pre) ++ (x ∷ xs)
  again_digit s h e =
      let c : pre ++ cycles_in (x ∷ xs) ≡ (pre ++ (d ∷ [])) ++ cycles_in xs = ap (λ (l : List ℕ). pre ++ l) (cycles_character x (Digit d) q xs) ∙ sym (append_snoc pre d (cycles_in xs)) in
      let i : lines_from ((pre ++ (d ∷ [])) ++ cycles_in xs) (s ∷ starts_from (length pre + 1) true xs) ≡ map digit_of (drop s (pre ++ (d ∷ []))) ++ xs = rw (← longer) (r.begun (pre ++ (d ∷ [])) s (rw longer (omega arith)) (rw longer e)) in
      let m : map digit_of (drop s (pre ++ (d ∷ []))) ≡ map digit_of (drop s pre) ++ (x ∷ []) = rw (drop-append-le s pre (d ∷ []) h, map-append digit_of (drop s pre) (d ∷ []), (digit_written x d q).0) in
      rw c (i ∙ ap (λ (l : List ℕ). l ++ xs) m ∙ append_snoc (map digit_of (drop s pre)) x xs)

module _ (x : ℕ) (q : character_of x ≡ LineFeed) (xs : List ℕ) (r : Again xs) (pre : List ℕ) (s : ℕ) (h : s ≤ length pre) (e : refusal_from (length pre) false xs ≡ done) where
  -- a line feed ends the line that has begun
  again_feed : lines_from (pre ++ cycles_in (x ∷ xs)) (s ∷ starts_from (length pre) false xs) ≡ map digit_of (drop s pre) ++ (x ∷ xs)
  unfolding lines_from line_of
  again_feed =
      let t : line_end (length (pre ++ cycles_in xs)) (starts_from (length pre) false xs) ≡ length pre = rw (length-append pre (cycles_in xs)) (first_start (length pre) xs e) in
      let b : between s (length pre) (pre ++ cycles_in xs) ≡ drop s pre = rw (drop-append-le s pre (cycles_in xs) h) (take_at (drop s pre) (cycles_in xs) (length pre - s) (length-drop s pre)) in
      ap (λ (l : List ℕ). lines_from (pre ++ l) (s ∷ starts_from (length pre) false xs)) (cycles_character x LineFeed q xs)
      ∙ rw (t, b, r.ended pre e, feed_written x q) (append_snoc (map digit_of (drop s pre)) line_feed xs)

again : (xs : List ℕ) → Again xs
again [] = again_none
again (x ∷ xs) = go (character_of x) refl (again xs)
  where
    go : (k : Character) → character_of x ≡ k → Again xs → Again (x ∷ xs)
    go (Digit d) q r =
        record {
          ended = λ pre e.
              let a = accepted_character x (Digit d) q xs (length pre) false e in
              rw (starts_character x (Digit d) q xs (length pre) false) (again_digit x d q xs r pre (length pre) (omega arith) a.1 ∙ rw (drop-length pre));
          begun = λ pre s h e.
              let a = accepted_character x (Digit d) q xs (length pre) true e in
              rw (starts_character x (Digit d) q xs (length pre) true) (again_digit x d q xs r pre s h a.1);
        }
    go LineFeed q r =
        record {
          ended = λ pre e. absurd (let l : ◌≡◌ {A = ℕ} 18 0 = (accepted_character x LineFeed q xs (length pre) false e).0 in omega arith);
          begun = λ pre s h e.
              let a = rw (add-zero (length pre)) at (accepted_character x LineFeed q xs (length pre) true e) in
              rw (starts_character x LineFeed q xs (length pre) true, add-zero (length pre)) (again_feed x q xs r pre s h a.1);
        }
    go Other q r =
        record {
          ended = λ pre e. absurd (let l : ◌≡◌ {A = ℕ} 17 0 = (accepted_character x Other q xs (length pre) false e).0 in omega arith);
          begun = λ pre s h e. absurd (let l : ◌≡◌ {A = ℕ} 17 0 = (accepted_character x Other q xs (length pre) true e).0 in omega arith);
        }

writable : (text : List ℕ) → text_refusal text ≡ done → Writable text
unfolding text_of line_starts
writable text e =
    let f = first_start 0 text e in
    let z : line_end (length (cycles_in text)) (starts_in text) ≡ 0 = ap (λ (n : ℕ). line_end n (starts_in text)) (omega arith) ∙ f in
    let p = starts_rise text 0 0 false (omega arith) in
    record {
      accepted =
          recording-done (cycles_in text) (starts_in text)
          (record {
            most = let m = cycles_most 0 false text e (omega arith) in omega arith;
            cycles = cycles_fit_lem text;
            places = ap (λ (n : ℕ). places_fit 0 n (starts_in text)) (omega arith) ∙ p;
          });
      again = rw (z) ((again text).ended [] e);
    }

pub inverse : Inverse
inverse = record { readable = readable; writable = writable }

-- The two functions ----------------------------------------------------------------------------------------------------

-- The front of a buffer, once a part was put over it.
over_front : (part before : List ℕ) → take (length part) (over part before) ≡ part
unfolding over
over_front part before = take_at part (drop (length part) before) (length part) refl

-- The number in an answer is the refusal, whichever case it is.
number_of : {A : Type 0} (number : A → ℕ) (answer : A) (refused : ℕ → A) → number answer ≡ done → ((r : ℕ) → number (refused r) ≡ r) → (r : ℕ) → number (pick (eqb r done) answer (refused r)) ≡ r
number_of number answer refused a f zero = a
number_of number answer refused a f (suc r) = rw (ne_eqb (suc r) 0 (λ e. omega arith)) (f (suc r))

-- Writing: the number and the length in its answer, and what it leaves.
module _ (cs ps buffer : List ℕ) where
  written_number : (written_numbers (write_answer cs ps buffer)).refusal ≡ write_refusal cs ps buffer
  unfolding write_answer
  written_number = number_of (λ (a : Written). (written_numbers a).refusal) (Bytes (length (text_of cs ps))) Refused refl (λ r. refl) (write_refusal cs ps buffer)

  module _ (d : write_refusal cs ps buffer ≡ done) where
    written_answer : write_answer cs ps buffer ≡ Bytes (length (text_of cs ps))
    unfolding write_answer
    written_answer = rw d

    written_left : write_left cs ps buffer ≡ over (text_of cs ps) buffer
    unfolding write_left
    written_left = rw d

  write_done_lem : recording_refusal cs ps ≡ done → length (text_of cs ps) ≤ length buffer → write_refusal cs ps buffer ≡ done
  unfolding write_refusal
  write_done_lem e h = rw (e, le-ltb (length buffer) (length (text_of cs ps)) h)

-- Reading: the same.
module _ (text cb sb : List ℕ) where
  reading_number : (reading_numbers (read_answer text cb sb)).refusal ≡ read_refusal text cb sb
  unfolding read_answer
  reading_number = number_of (λ (a : Reading). (reading_numbers a).refusal) (Recording (length (cycles_in text)) (length (starts_in text))) Reading-as-Refused refl (λ r. refl) (read_refusal text cb sb)

  reading_answer : read_refusal text cb sb ≡ done → read_answer text cb sb ≡ Recording (length (cycles_in text)) (length (starts_in text))
  unfolding read_answer
  reading_answer d = rw d

  read_done_lem : text_refusal text ≡ done → length (cycles_in text) ≤ length cb → length (starts_in text) ≤ length sb → read_refusal text cb sb ≡ done
  unfolding read_refusal
  read_done_lem e h k = rw (e, le-ltb (length cb) (length (cycles_in text)) h, le-ltb (length sb) (length (starts_in text)) k)

  read_accepted : read_refusal text cb sb ≡ done → text_refusal text ≡ done
  unfolding read_refusal
  read_accepted e = (first_done (text_refusal text) (pick (ltb (length cb) (length (cycles_in text)) || ltb (length sb) (length (starts_in text))) 16 0) e).0

written_read : (cs ps buffer buffer' : List ℕ) (n : ℕ) → WriteText cs ps buffer (Bytes n) buffer'
    → (cb sb cb' sb' : List ℕ) (r : Reading) → length cs ≤ length cb → length (line_starts cs ps) ≤ length sb
    → ReadText (take n buffer') cb sb r cb' sb' → Gives cs (line_starts cs ps) cb sb r cb' sb'
written_read cs ps buffer buffer' n w cb sb cb' sb' r h k g =
    let d : write_refusal cs ps buffer ≡ done = sym (ap (λ (a : Written). (written_numbers a).refusal) w.answer ∙ written_number cs ps buffer) in
    let l : n ≡ length (text_of cs ps) = ap (λ (a : Written). (written_numbers a).bytes) (w.answer ∙ written_answer cs ps buffer d) in
    let t : take n buffer' ≡ text_of cs ps = rw (w.left, written_left cs ps buffer d, l) (over_front (text_of cs ps) buffer) in
    let a = readable cs ps (recording-done cs ps (write_ready cs ps buffer d).accepted) in
    let e : read_refusal (text_of cs ps) cb sb ≡ done = read_done_lem (text_of cs ps) cb sb a.accepted (rw a.cycles h) (rw a.starts k) in
    let f = rw t at g in
    record {
      answer = f.answer ∙ reading_answer (text_of cs ps) cb sb e ∙ rw (a.cycles, a.starts);
      cycles = f.cycles ∙ rw (e, a.cycles);
      starts = f.starts ∙ rw (e, a.starts);
    }

read_written : (text cb sb cb' sb' : List ℕ) (n m : ℕ) → ReadText text cb sb (Recording n m) cb' sb'
    → (buffer buffer' : List ℕ) (r : Written) → length text ≤ length buffer
    → WriteText (take n cb') (take m sb') buffer r buffer' → (r ≡ Bytes (length text)) × (buffer' ≡ over text buffer)
read_written text cb sb cb' sb' n m g buffer buffer' r h w =
    let d : read_refusal text cb sb ≡ done = sym (ap (λ (a : Reading). (reading_numbers a).refusal) g.answer ∙ reading_number text cb sb) in
    let q = g.answer ∙ reading_answer text cb sb d in
    let i : n ≡ length (cycles_in text) = ap (λ (a : Reading). (reading_numbers a).cycles) q in
    let j : m ≡ length (starts_in text) = ap (λ (a : Reading). (reading_numbers a).starts) q in
    let c : take n cb' ≡ cycles_in text = rw (g.cycles, d, i) (over_front (cycles_in text) cb) in
    let s : take m sb' ≡ starts_in text = rw (g.starts, d, j) (over_front (starts_in text) sb) in
    let a = writable text (read_accepted text cb sb d) in
    let f = rw (c, s) at w in
    let e : write_refusal (cycles_in text) (starts_in text) buffer ≡ done = write_done_lem (cycles_in text) (starts_in text) buffer a.accepted (rw a.again h) in
    (f.answer ∙ written_answer (cycles_in text) (starts_in text) buffer e ∙ rw a.again, f.left ∙ written_left (cycles_in text) (starts_in text) buffer e ∙ rw a.again)

pub round_trip : RoundTrip
round_trip = record { written = written_read; read = read_written }

-- The first place decides ----------------------------------------------------------------------------------------------

decides_from : (n : ℕ) (begun : Bool) (text more : List ℕ) → (refusal_from n begun text ≡ done → ⊥) → (refusal_from n begun text ≡ no_line_feed → ⊥) → refusal_from n begun (text ++ more) ≡ refusal_from n begun text
unfolding refusal_from
decides_from n true [] more a b = absurd (b refl)
decides_from n false [] more a b = absurd (a refl)
decides_from n begun (x ∷ xs) more a b = go (refusal_at n begun (character_of x)) a b (decides_from (n + length (cycle_at (character_of x))) (is_digit (character_of x)) xs more)
  where
    rest : List ℕ → ℕ
    rest l = refusal_from (n + length (cycle_at (character_of x))) (is_digit (character_of x)) l

    go : (r : ℕ) → (first_of r (rest xs) ≡ done → ⊥) → (first_of r (rest xs) ≡ no_line_feed → ⊥) → ((rest xs ≡ done → ⊥) → (rest xs ≡ no_line_feed → ⊥) → rest (xs ++ more) ≡ rest xs) → first_of r (rest (xs ++ more)) ≡ first_of r (rest xs)
    go zero p q s = s p q
    go (suc r) p q s = rw (ne_eqb (suc r) 0 (λ e. omega arith))

-- No character is refused with 19.
not_at_end : (n : ℕ) (begun : Bool) (k : Character) → refusal_at n begun k ≡ no_line_feed → ⊥
not_at_end n begun (Digit d) e = go (ltb n most_cycles) e
  where
    go : (t : Bool) → ◌≡◌ {A = ℕ} (pick t 0 13) 19 → ⊥
    go true z = let l : ◌≡◌ {A = ℕ} 0 19 = z in omega arith
    go false z = let l : ◌≡◌ {A = ℕ} 13 19 = z in omega arith
not_at_end n true LineFeed e = let l : ◌≡◌ {A = ℕ} 0 19 = e in omega arith
not_at_end n false LineFeed e = let l : ◌≡◌ {A = ℕ} 18 19 = e in omega arith
not_at_end n begun Other e = let l : ◌≡◌ {A = ℕ} 17 19 = e in omega arith

-- A text that refuses nothing, but perhaps its end, is passed.
passes : (n : ℕ) (begun : Bool) (text more : List ℕ) (ends : Bool) → refusal_from n begun text ≡ refusal_at_end ends → refusal_from n begun (text ++ more) ≡ refusal_from (n + length (cycles_in text)) ends more
unfolding refusal_from cycles_in
passes n true [] more true e = ap (λ (k : ℕ). refusal_from k true more) (sym (add-zero n))
passes n true [] more false e = absurd (let l : ◌≡◌ {A = ℕ} 19 0 = e in omega arith)
passes n false [] more true e = absurd (let l : ◌≡◌ {A = ℕ} 0 19 = e in omega arith)
passes n false [] more false e = ap (λ (k : ℕ). refusal_from k false more) (sym (add-zero n))
passes n begun (x ∷ xs) more ends e = go (refusal_at n begun (character_of x)) refl (passes (n + length (cycle_at (character_of x))) (is_digit (character_of x)) xs more ends)
  where
    next : ℕ
    next = n + length (cycle_at (character_of x))

    never : (c : Bool) (r : ℕ) → refusal_at n begun (character_of x) ≡ suc r → suc r ≡ refusal_at_end c → ⊥
    never true r q z = not_at_end n begun (character_of x) (q ∙ z)
    never false r q z = omega arith

    go : (r : ℕ) → refusal_at n begun (character_of x) ≡ r
        → (refusal_from next (is_digit (character_of x)) xs ≡ refusal_at_end ends → refusal_from next (is_digit (character_of x)) (xs ++ more) ≡ refusal_from (next + length (cycles_in xs)) ends more)
        → first_of (refusal_at n begun (character_of x)) (refusal_from next (is_digit (character_of x)) (xs ++ more)) ≡ refusal_from (n + length (cycle_at (character_of x) ++ cycles_in xs)) ends more
    go zero q s =
        let l : next + length (cycles_in xs) ≡ n + length (cycle_at (character_of x) ++ cycles_in xs) = let a = length-append (cycle_at (character_of x)) (cycles_in xs) in omega arith in
        rw (q, ← l) (s (rw q at e))
    go (suc r) q s = absurd (never ends r q (rw (q, ne_eqb (suc r) 0 (λ z. omega arith)) at e))

-- What follows a text that was passed decides.
decides_here : (n : ℕ) (begun : Bool) (x : ℕ) (more : List ℕ) → (refusal_at n begun (character_of x) ≡ done → ⊥) → refusal_from n begun (x ∷ more) ≡ refusal_at n begun (character_of x)
unfolding refusal_from
decides_here n begun x more f = rw (ne_eqb (refusal_at n begun (character_of x)) done f)

decides : (text : List ℕ) (x : ℕ) (more : List ℕ) (ends : Bool) → text_refusal text ≡ refusal_at_end ends → (refusal_at (length (cycles_in text)) ends (character_of x) ≡ done → ⊥)
    → text_refusal (text ++ (x ∷ more)) ≡ refusal_at (length (cycles_in text)) ends (character_of x)
decides text x more ends e f =
    let z : 0 + length (cycles_in text) ≡ length (cycles_in text) = omega arith in
    passes 0 false text (x ∷ more) ends e ∙ ap (λ (k : ℕ). refusal_from k ends (x ∷ more)) z ∙ decides_here (length (cycles_in text)) ends x more f

pub first_decides : FirstDecides
first_decides =
    record {
      ended = λ text x more e f. decides text x more false e f;
      begun = λ text x more e f. decides text x more true e f;
      stays = λ text more. decides_from 0 false text more;
    }

-- Other statements -----------------------------------------------------------------------------------------------------

starts_refusal : (cs ps : List ℕ) → recording_refusal cs (line_starts cs ps) ≡ recording_refusal cs ps
unfolding recording_refusal
starts_refusal cs ps = rw (starts_fit cs ps)

starts_stay : (cs ss : List ℕ) → line_end (length cs) ss ≡ 0 → line_starts cs ss ≡ ss
unfolding line_starts
starts_stay cs ss e = rw e

starts_text : (cs ps : List ℕ) → text_of cs (line_starts cs ps) ≡ text_of cs ps
unfolding text_of
starts_text cs ps = ap (lines_from cs) (starts_stay cs (line_starts cs ps) (first_zero cs ps))

starts_none : (c : ℕ) (cs : List ℕ) → line_starts (c ∷ cs) [] ≡ 0 ∷ []
unfolding line_starts
starts_none c cs = rw (lt-ltb 0 (length (c ∷ cs)) (omega arith))

pub starts_as_places : StartsAsPlaces
starts_as_places = record { refusal = starts_refusal; text = starts_text; none = starts_none }

text_enough : (cs ps : List ℕ) → recording_refusal cs ps ≡ done → length (text_of cs ps) ≤ 2 * most_cycles
text_enough cs ps e =
    let a = recording_accepted cs ps e in
    let m = a.most in
    let l = length_text cs ps a.places in
    let f = places_few 0 (length cs) (line_starts cs ps) (starts_fit cs ps ∙ a.places) (omega arith) in
    omega arith

starts_enough : (text : List ℕ) → text_refusal text ≡ done → length (starts_in text) ≤ most_cycles
starts_enough text e =
    let m = cycles_most 0 false text e (omega arith) in
    let f = places_few 0 (0 + length (cycles_in text)) (starts_in text) (starts_rise text 0 0 false (omega arith)) (omega arith) in
    omega arith

pub enough : Enough
enough = record { text = text_enough; cycles = λ text e. (let m = cycles_most 0 false text e (omega arith) in omega arith); starts = starts_enough }

pub examples : Examples
unfolding p4_recording p4_text recording_refusal cycles_fit places_fit text_of line_starts lines_from line_of digit_of character_of refusal_from cycles_in starts_from
examples =
    record {
      writable = refl;
      written = refl;
      accepted = refl;
      cycles = refl;
      starts = refl;
      p4_writable = refl;
      p4_written = refl;
      p4_accepted = refl;
      p4_cycles = refl;
      p4_starts = refl;
    }
