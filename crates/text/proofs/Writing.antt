-- The loops of writing, and how long a text is.
use Prim.Native.Nat.{ℕ, zero, suc, ◌+◌, ◌-◌, ◌≤◌, ◌<◌}
use mathlib.Core.Path.{◌≡◌, refl, sym, ap, ◌∙◌}
use mathlib.Core.Bool.{Bool, true, false, ◌&&◌, and_assoc, and-true}
use mathlib.Core.List.{List, [], ◌∷◌, ◌++◌, map}
use native.Mathlib.Omega.{arith}
use native.Mathlib.Nat.{sub-zero}
use native.Mathlib.Numerals.{add-one}
use lib.Dec.{ltb, leb}
use lib.ListN.{length, get_or, take, drop, set, length-drop, length-append, length-map, drop_of_length-le}
use lib.Seq.{drop-cons, length-take-le, length-paste}
use mir.Val.{bool_byte}
use borrow.Author.Tests.{ltb-true, ltb-false, leb-true, le-leb, lt-ltb, le-ltb, lt-leb, ne_eqb}
use Rattle.text.specs.Choose.{pick}
use Rattle.text.specs.Refusals.{done}
use Rattle.text.specs.Text.{line_feed, digit_of, most_cycles, cycles_fit, places_fit, line_of, between, line_end, line_starts, lines_from, text_of, Put}
use Rattle.text.specs.Write.{recording_refusal, write_refusal, Bytes, Refused, write_answer, write_left, lead_of, Lead, Lines, WriteText}
use Rattle.text.proofs.Numbers.{first_done}
use Rattle.std.proofs.lemmas.Bool.{and_parts}
use Rattle.text.proofs.Buffers.{Filled, put_none, put_one, fill_more, fill_put, put_put, put_over}
use Rattle.std.specs.List.{fold}

-- Cycles ---------------------------------------------------------------------------------------------------------------

-- Cycle by cycle, with no early exit.
pub fit_fold : (all : Bool) (cs : List ℕ) → fold (λ a c. a && leb c 15) all cs ≡ all && cycles_fit cs
unfolding cycles_fit
fit_fold all [] = sym (and-true all)
fit_fold all (c ∷ cs) = fit_fold (all && leb c 15) cs ∙ and_assoc all (leb c 15) (cycles_fit cs)

-- Places ---------------------------------------------------------------------------------------------------------------

pub places_split : (low n p : ℕ) (ps : List ℕ) → places_fit low n (p ∷ ps) ≡ true → (low ≤ p) × (p < n) × (places_fit (p + 1) n ps ≡ true)
unfolding places_fit
places_split low n p ps e =
    let a = and_parts (leb low p && ltb p n) (places_fit (p + 1) n ps) e in
    let b = and_parts (leb low p) (ltb p n) a.0 in
    (leb-true low p b.0, ltb-true p n b.1, a.1)

pub places_join : (low n p : ℕ) (ps : List ℕ) → low ≤ p → p < n → places_fit (p + 1) n ps ≡ true → places_fit low n (p ∷ ps) ≡ true
unfolding places_fit
places_join low n p ps a b e = rw (le-leb low p a, lt-ltb p n b, e)

-- Places k and up are still to be looked at.
module _ (n : ℕ) (ps : List ℕ) (low k : ℕ) (e : places_fit 0 n ps ≡ places_fit low n (drop k ps)) where
  places_at : k < length ps → places_fit 0 n ps ≡ (leb low (get_or ps k 0) && ltb (get_or ps k 0) n) && places_fit (get_or ps k 0 + 1) n (drop (k + 1) ps)
  unfolding places_fit
  places_at h = e ∙ rw (drop-cons ps k 0 h, add-one k)

  pub places_turn : k < length ps → low ≤ get_or ps k 0 → get_or ps k 0 < n → places_fit 0 n ps ≡ places_fit (get_or ps k 0 + 1) n (drop (k + 1) ps)
  places_turn h l u = places_at h ∙ rw (le-leb low (get_or ps k 0) l, lt-ltb (get_or ps k 0) n u)

  pub places_low : k < length ps → get_or ps k 0 < low → false ≡ places_fit 0 n ps
  places_low h l = sym (places_at h ∙ rw (lt-leb low (get_or ps k 0) l))

  pub places_high : k < length ps → low ≤ get_or ps k 0 → n ≤ get_or ps k 0 → false ≡ places_fit 0 n ps
  places_high h l u = sym (places_at h ∙ rw (le-leb low (get_or ps k 0) l, le-ltb (get_or ps k 0) n u))

  pub places_end : length ps ≤ k → true ≡ places_fit 0 n ps
  unfolding places_fit
  places_end h = sym (e ∙ rw (drop_of_length-le ps {i = k} h))

-- Accepted places are at most as many as cycles.
pub places_few : (low n : ℕ) (ps : List ℕ) → places_fit low n ps ≡ true → low ≤ n → low + length ps ≤ n
places_few low n [] e h = omega arith
places_few low n (p ∷ ps) e h =
    let s = places_split low n p ps e in
    let r = places_few (p + 1) n ps s.2 (let q = s.1 in omega arith) in
    let l = s.0 in omega arith

-- A line lies within the cycles.
pub record Within (n from to : ℕ) : Type 0 where
  pub start : from < n
  pub line : from < to
  pub end : to ≤ n

end_within : (low n : ℕ) (ps : List ℕ) → places_fit low n ps ≡ true → low ≤ n → (low ≤ line_end n ps) × (line_end n ps ≤ n)
end_within low n [] e h = (h, omega arith)
end_within low n (p ∷ ps) e h = let s = places_split low n p ps e in (s.0, let q = s.1 in omega arith)

pub line_within : (low n p : ℕ) (ps : List ℕ) → places_fit low n (p ∷ ps) ≡ true → Within n p (line_end n ps)
line_within low n p ps e =
    let s = places_split low n p ps e in
    let w = end_within (p + 1) n ps s.2 (let q = s.1 in omega arith) in
    record { start = s.1; line = let a = w.0 in omega arith; end = w.1 }

line_at : (low n : ℕ) (ps : List ℕ) (k : ℕ) → places_fit low n ps ≡ true → k < length ps → Within n (get_or ps k 0) (line_end n (drop (suc k) ps))
line_at low n [] k e h = absurd (omega arith)
line_at low n (p ∷ ps) zero e h = line_within low n p ps e
line_at low n (p ∷ ps) (suc k) e h = line_at (p + 1) n ps k (places_split low n p ps e).2 (omega arith)

-- Lines ----------------------------------------------------------------------------------------------------------------

length_mapped : (cs rest : List ℕ) → length (map digit_of cs ++ rest) ≡ length cs + length rest
length_mapped cs rest = length-append (map digit_of cs) rest ∙ ap (λ (n : ℕ). n + length rest) (length-map cs digit_of)

length_line : (cs : List ℕ) → length (line_of cs) ≡ length cs + 1
unfolding line_of
length_line cs = length_mapped cs (line_feed ∷ [])

pub length-between : (s t : ℕ) (cs : List ℕ) → t ≤ length cs → length (between s t cs) ≡ t - s
length-between s t cs h = length-take-le (t - s) (drop s cs) (rw (length-drop s cs) (omega arith))

and_implied : (a b c : Bool) → (b ≡ true → a ≡ true) → (a && (b && c)) ≡ (b && c)
and_implied a true c f = rw (f refl)
and_implied true false c f = refl
and_implied false false c f = refl

-- Line starts are places exactly if the places are.
pub starts_fit : (cs ps : List ℕ) → places_fit 0 (length cs) (line_starts cs ps) ≡ places_fit 0 (length cs) ps
unfolding line_starts places_fit
starts_fit cs [] = go (ltb 0 (length cs)) refl
  where
    go : (t : Bool) → ltb 0 (length cs) ≡ t → places_fit 0 (length cs) (pick {A = List ℕ} t (0 ∷ []) []) ≡ true
    go true h = rw h
    go false h = refl
starts_fit cs (p ∷ ps) = go (ltb 0 p) refl
  where
    go : (t : Bool) → ltb 0 p ≡ t → places_fit 0 (length cs) (pick t (0 ∷ p ∷ ps) (p ∷ ps)) ≡ places_fit 0 (length cs) (p ∷ ps)
    go true h =
        let a = ltb-true 0 p h in
        rw (le-leb 1 p (omega arith), le-leb 0 p (omega arith))
        (and_implied (ltb 0 (length cs)) (ltb p (length cs)) (places_fit (p + 1) (length cs) ps) (λ e. let l = ltb-true p (length cs) e in lt-ltb 0 (length cs) (omega arith)))
    go false h = refl

-- Lines from a start on: a digit for each cycle, a line feed for each line.
length_lines : (cs : List ℕ) (low s : ℕ) (ss : List ℕ) → places_fit low (length cs) (s ∷ ss) ≡ true → length (lines_from cs (s ∷ ss)) + s ≡ length cs + length (s ∷ ss)
unfolding lines_from
length_lines cs low s [] e =
    let w = line_within low (length cs) s [] e in
    let l = length_line (between s (length cs) cs) in
    let k = length-between s (length cs) cs (omega arith) in
    let a = length-append (line_of (between s (length cs) cs)) [] in
    let b = w.start in
    omega arith
length_lines cs low s (t ∷ ts) e =
    let w = line_within low (length cs) s (t ∷ ts) e in
    let r = length_lines cs (s + 1) t ts (places_split low (length cs) s (t ∷ ts) e).2 in
    let l = length_line (between s t cs) in
    let k = length-between s t cs w.end in
    let a = length-append (line_of (between s t cs)) (lines_from cs (t ∷ ts)) in
    let b = w.line in
    omega arith

-- The first line starts with the first cycle.
pub first_zero : (cs ps : List ℕ) → line_end (length cs) (line_starts cs ps) ≡ 0
unfolding line_starts
first_zero cs ps = go (ltb 0 (line_end (length cs) ps)) refl
  where
    go : (t : Bool) → ltb 0 (line_end (length cs) ps) ≡ t → line_end (length cs) (pick t (0 ∷ ps) ps) ≡ 0
    go true h = refl
    go false h = let z = ltb-false 0 (line_end (length cs) ps) h in omega arith

-- A text has a digit for each cycle and a line feed for each line.
pub length_text : (cs ps : List ℕ) → places_fit 0 (length cs) ps ≡ true → length (text_of cs ps) ≡ length cs + length (line_starts cs ps)
unfolding text_of lines_from
length_text cs ps e = go (line_starts cs ps) (starts_fit cs ps ∙ e) (first_zero cs ps)
  where
    go : (ss : List ℕ) → places_fit 0 (length cs) ss ≡ true → line_end (length cs) ss ≡ 0 → length (lines_from cs ss) ≡ length cs + length ss
    go [] f z = omega arith
    go (s ∷ ss) f z = let l = length_lines cs 0 s ss f in omega arith

-- A line is its digits, then its line feed.
module _ (before : List ℕ) (at : ℕ) (line : List ℕ) (h : at + length line < length before) (end : ℕ) (now : List ℕ) (p : Put before at (map digit_of line) end now) where
  pub feed_room : end < length now
  feed_room =
      let n = p.next in
      let m = length-map line digit_of in
      let l = ap length p.put ∙ length-paste before at (map digit_of line) (length (map digit_of line)) (omega arith) (omega arith) in
      omega arith

  pub line_done : Put before at (line_of line) (end + 1) (set now end line_feed)
  unfolding line_of
  line_done = put_put before at (map digit_of line) (line_feed ∷ []) end (end + 1) now (set now end line_feed) (rw length_mapped (omega arith)) p (put_one now end line_feed feed_room)

-- Refusals -------------------------------------------------------------------------------------------------------------

-- A recording that can be written.
pub record Accepted (cs ps : List ℕ) : Type 0 where
  pub most : length cs ≤ most_cycles
  pub cycles : cycles_fit cs ≡ true
  pub places : places_fit 0 (length cs) ps ≡ true

pub recording_accepted : (cs ps : List ℕ) → recording_refusal cs ps ≡ done → Accepted cs ps
unfolding recording_refusal
recording_accepted cs ps e = go (ltb most_cycles (length cs)) (cycles_fit cs) (places_fit 0 (length cs) ps) refl refl refl
  where
    refused : (n : ℕ) → suc n ≡ done → Accepted cs ps
    refused n z = absurd (omega arith)

    go : (a b c : Bool) → ltb most_cycles (length cs) ≡ a → cycles_fit cs ≡ b → places_fit 0 (length cs) ps ≡ c → Accepted cs ps
    go true true c p q r = refused _ (simp (p, q) at e)
    go true false c p q r = refused _ (simp (p, q) at e)
    go false false c p q r = refused _ (simp (p, q) at e)
    go false true false p q r = refused _ (simp (p, q, r) at e)
    go false true true p q r = record { most = ltb-false most_cycles (length cs) p; cycles = q; places = r }

pub recording-done : (cs ps : List ℕ) → Accepted cs ps → recording_refusal cs ps ≡ done
unfolding recording_refusal
recording-done cs ps a = rw (le-ltb most_cycles (length cs) a.most, a.cycles, a.places)

count_starts : (t : Bool) (ps : List ℕ) → length (pick t (0 ∷ ps) ps) ≡ length ps + bool_byte t
count_starts true ps = omega arith
count_starts false ps = omega arith

-- Too many cycles are refused first.
pub refused_long : (cs ps : List ℕ) → most_cycles < length cs → 13 ≡ recording_refusal cs ps
unfolding recording_refusal
refused_long cs ps h = rw (lt-ltb most_cycles (length cs) h)

module _ (cs ps buffer : List ℕ) (r : ℕ) (e : r ≡ recording_refusal cs ps) where
  pub write_refused : (r ≡ done → ⊥) → r ≡ write_refusal cs ps buffer
  unfolding write_refusal
  write_refused f = rw (← e, ne_eqb r done f)

  module _ (z : r ≡ done) (end : ℕ) (l : end ≡ line_end (length cs) ps) where
    text_count : length (text_of cs ps) ≡ length cs + (length ps + bool_byte (ltb 0 end))
    unfolding line_starts
    text_count = length_text cs ps (recording_accepted cs ps (sym e ∙ z)).places ∙ ap (λ (n : ℕ). length cs + n) (rw l (count_starts (ltb 0 (line_end (length cs) ps)) ps))

    pub write_short : length buffer < length cs + (length ps + bool_byte (ltb 0 end)) → 16 ≡ write_refusal cs ps buffer
    unfolding write_refusal
    write_short h = rw (← e, z, text_count, lt-ltb (length buffer) (length cs + (length ps + bool_byte (ltb 0 end))) h)

    pub write_done_lem : length cs + (length ps + bool_byte (ltb 0 end)) ≤ length buffer → 0 ≡ write_refusal cs ps buffer
    unfolding write_refusal
    write_done_lem h = rw (← e, z, text_count, le-ltb (length buffer) (length cs + (length ps + bool_byte (ltb 0 end))) h)

-- The whole text -------------------------------------------------------------------------------------------------------

text_lead : (cs ps : List ℕ) → text_of cs ps ≡ lead_of cs (line_end (length cs) ps) ++ lines_from cs ps
unfolding text_of line_starts lead_of lines_from
text_lead cs ps = go (ltb 0 (line_end (length cs) ps))
  where
    go : (t : Bool) → lines_from cs (pick t (0 ∷ ps) ps) ≡ pick t (line_of (between 0 (line_end (length cs) ps) cs)) [] ++ lines_from cs ps
    go true = refl
    go false = refl

-- What can be written, into a buffer that is long enough.
pub record Ready (cs ps buffer : List ℕ) : Type 0 where
  pub accepted : Accepted cs ps
  pub room : length (text_of cs ps) ≤ length buffer

pub write_ready : (cs ps buffer : List ℕ) → write_refusal cs ps buffer ≡ done → Ready cs ps buffer
unfolding write_refusal
write_ready cs ps buffer e =
    let d = first_done (recording_refusal cs ps) (pick (ltb (length buffer) (length (text_of cs ps))) 16 0) e in
    record { accepted = recording_accepted cs ps d.0; room = room (ltb (length buffer) (length (text_of cs ps))) refl d.1 }
  where
    room : (t : Bool) → ltb (length buffer) (length (text_of cs ps)) ≡ t → ◌≡◌ {A = ℕ} (pick t 16 0) 0 → length (text_of cs ps) ≤ length buffer
    room true p z = absurd (let n : ◌≡◌ {A = ℕ} 16 0 = z in omega arith)
    room false p z = ltb-false (length buffer) (length (text_of cs ps)) p

drop_zero : (cs : List ℕ) → drop 0 cs ≡ cs
drop_zero [] = refl
drop_zero (c ∷ cs) = refl

-- the line before the first place
module _ (cs : List ℕ) (end : ℕ) (buffer : List ℕ) where
  pub lead_put : 0 < end → (at : ℕ) (now : List ℕ) → Put buffer 0 (line_of (take end cs)) at now → Put buffer 0 (lead_of cs end) at now
  unfolding lead_of
  lead_put h at now p = rw (lt-ltb 0 end h, sub-zero end, drop_zero cs) p

  pub lead_none : end ≤ 0 → Put buffer 0 (lead_of cs end) 0 buffer
  unfolding lead_of
  lead_none h = rw (le-ltb 0 end h) (put_none buffer 0)

module _ (cs ps buffer : List ℕ) (y : Ready cs ps buffer) (end : ℕ) (e : end ≡ line_end (length cs) ps) where
  text_parts : text_of cs ps ≡ lead_of cs end ++ lines_from cs ps
  text_parts = rw e (text_lead cs ps)

  length_parts : length (text_of cs ps) ≡ length (lead_of cs end) + length (lines_from cs ps)
  length_parts = ap length text_parts ∙ length-append (lead_of cs end) (lines_from cs ps)

  pub lead_ready : Lead cs end buffer
  unfolding lead_of
  lead_ready =
      let w = end_within 0 (length cs) ps y.accepted.places (omega arith) in
      let n : end ≤ length cs = rw e w.1 in
      let r = y.room in
      record {
        within = n;
        room = λ h.
            let t = length_parts in
            let k : length (lead_of cs end) ≡ length (between 0 end cs) + 1 = rw (lt-ltb 0 end h) (length_line (between 0 end cs)) in
            let l = length-between 0 end cs n in
            omega arith;
      }

  pub lines_ready : (at : ℕ) (now : List ℕ) → Put buffer 0 (lead_of cs end) at now → Lines cs ps at now
  lines_ready at now p =
      let t = length_parts in
      let r = y.room in
      let l = ap length p.put ∙ length-paste buffer 0 (lead_of cs end) (length (lead_of cs end)) (omega arith) (omega arith) in
      let n = p.next in
      record { places = y.accepted.places; room = omega arith }

  pub text_put : (at m : ℕ) (now after : List ℕ) → Put buffer 0 (lead_of cs end) at now → Put now at (lines_from cs ps) m after → Put buffer 0 (text_of cs ps) m after
  text_put at m now after p q = rw text_parts (put_put buffer 0 (lead_of cs end) (lines_from cs ps) at m now after (rw (← text_parts) (let r = y.room in omega arith)) p q)

-- The lines before place k are written.
pub record Lined (cs ps buffer : List ℕ) (start : ℕ) (now : List ℕ) (at k : ℕ) : Type 0 where
  pub within : k ≤ length ps
  pub begins : start ≤ length buffer
  pub places : places_fit 0 (length cs) ps ≡ true
  pub text : Filled (take start buffer ++ lines_from cs ps) buffer now at (lines_from cs (drop k ps))

module _ (cs ps buffer : List ℕ) (start : ℕ) (now : List ℕ) (at k : ℕ) (l : Lined cs ps buffer start now at k) where
  pub lines_within : k < length ps → Within (length cs) (get_or ps k 0) (line_end (length cs) (drop (k + 1) ps))
  lines_within h = rw (add-one k) (line_at 0 (length cs) ps k l.places h)

  next_line : (h : k < length ps) → Filled (take start buffer ++ lines_from cs ps) buffer now at (line_of (between (get_or ps k 0) (line_end (length cs) (drop (k + 1) ps)) cs) ++ lines_from cs (drop (k + 1) ps))
  unfolding lines_from
  next_line h = rw (add-one k) (rw (drop-cons ps k 0 h) at l.text)

  pub lines_room : k < length ps → (to : ℕ) → to ≡ line_end (length cs) (drop (k + 1) ps) → at + length (between (get_or ps k 0) to cs) < length now
  lines_room h to e =
      let f = next_line h in
      let c = f.count in
      let r = f.room in
      let s = f.same in
      let a = length-append (line_of (between (get_or ps k 0) (line_end (length cs) (drop (k + 1) ps)) cs)) (lines_from cs (drop (k + 1) ps)) in
      let n = length_line (between (get_or ps k 0) (line_end (length cs) (drop (k + 1) ps)) cs) in
      rw e (omega arith)

  pub lines_turn : k < length ps → (to at₂ : ℕ) (now₂ : List ℕ) → to ≡ line_end (length cs) (drop (k + 1) ps) → Put now at (line_of (between (get_or ps k 0) to cs)) at₂ now₂ → Lined cs ps buffer start now₂ at₂ (k + 1)
  lines_turn h to at₂ now₂ e p =
      record {
        within = omega arith;
        begins = l.begins;
        places = l.places;
        text = fill_more (take start buffer ++ lines_from cs ps) buffer now at (line_of (between (get_or ps k 0) (line_end (length cs) (drop (k + 1) ps)) cs)) (lines_from cs (drop (k + 1) ps)) (next_line h) at₂ now₂ (rw e at p);
      }

  pub lines_end : length ps ≤ k → Put buffer start (lines_from cs ps) at now
  unfolding lines_from
  lines_end h = fill_put buffer start (lines_from cs ps) now at l.begins (rw (drop_of_length-le ps {i = k} h) at l.text)

-- Answers --------------------------------------------------------------------------------------------------------------

module _ (cs ps buffer : List ℕ) (r : ℕ) (e : r ≡ write_refusal cs ps buffer) where
  pub write_gives : r ≡ done → (n : ℕ) (now : List ℕ) → Put buffer 0 (text_of cs ps) n now → WriteText cs ps buffer (Bytes n) now
  unfolding write_answer write_left
  write_gives z n now p =
      let d : write_refusal cs ps buffer ≡ done = sym e ∙ z in
      let l : n ≡ length (text_of cs ps) = let k = p.next in omega arith in
      record { answer = rw (d, l); left = rw d (put_over buffer (text_of cs ps) now n p) }

  pub write_keeps : (r ≡ done → ⊥) → WriteText cs ps buffer (Refused r) buffer
  unfolding write_answer write_left
  write_keeps f = let d = ne_eqb r done f in record { answer = rw (← e, d); left = rw (← e, d) }
