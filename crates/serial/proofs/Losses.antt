-- The words lost: what holds for them in a cycle and in a run, and how a loop counts them.
use Prim.Native.Nat.{ℕ, zero, suc, ◌+◌, ◌-◌, ◌≤◌, ◌<◌}
use mathlib.Core.Path.{◌≡◌, refl, sym, ap, ap₂, ◌∙◌}
use mathlib.Core.Bool.{Bool, true, false, not, ◌||◌, or-false}
use mathlib.Core.List.{List, [], ◌∷◌, ◌++◌, append_assoc, append-nil}
use native.Mathlib.Omega.{arith}
use native.Mathlib.Nat.{sub-zero, zero-sub, suc-sub-suc}
use lib.Dec.{ltb, eqb, eqb-suc-zero}
use lib.ListN.{length, take, drop, length-append, take-append-drop}
use lib.Seq.{take-nil, drop-nil}
use borrow.Author.Tests.{lt-ltb, ltb-true, ltb-false}
use Rattle.std.specs.Prelude.{Option, Some, None, is_some}
use Rattle.registers.specs.Choose.{pick, words_of}
use Rattle.registers.specs.Model.{Model}
use Rattle.registers.specs.Transfer.{added, dropped, take_word, lost_word, end_cycle}
use Rattle.serial.specs.Cycle.{DeviceModel, take_if, lost_if, device_step, completed_of, kept_of, lost_of, cycle_of, after, words_in, completed_in, kept_in, lost_in}
use Rattle.serial.specs.Lost.{last_from, losses_of, highest, noted, some, LostInCycle, LostInRun, Numbers}
use Rattle.serial.specs.declared.lost.Losses.{Losses}
use Rattle.serial.proofs.Cycles.{on_word, step_file}
use Rattle.registers.proofs.Picks.{pick_both}
use Rattle.frames.specs.declared.lines.Pins.{Pins}

-- A cycle --------------------------------------------------------------------------------------------------------------

split_words : (t : Bool) (xs : List ℕ) → xs ≡ pick t xs [] ++ pick t [] xs
split_words true xs = sym (append-nil xs)
split_words false xs = refl

completed_cycle : (d : DeviceModel) (pins : Pins) → completed_of d pins ≡ kept_of d pins ++ lost_of d pins
unfolding kept_of lost_of
completed_cycle d pins = split_words (ltb (length d.registers.rx) 8) (completed_of d pins)

-- o is the word completed, t says whether there is a place for it
held_by : (xs : List ℕ) (o : Option ℕ) (t : Bool) → on_word o (λ (w : ℕ). pick t (xs ++ (w ∷ [])) xs) xs ≡ xs ++ pick t (words_of o) []
held_by xs (Some w) true = refl
held_by xs (Some w) false = sym (append-nil xs)
held_by xs None true = sym (append-nil xs)
held_by xs None false = sym (append-nil xs)

overrun_by : (r : Bool) (o : Option ℕ) (t : Bool) → pick (is_some o) (r || not t) r ≡ (r || some (pick t [] (words_of o)))
overrun_by r (Some w) true = refl
overrun_by r (Some w) false = refl
overrun_by r None true = sym (or-false r)
overrun_by r None false = sym (or-false r)

module _ (d : DeviceModel) (pins : Pins) where
  held_cycle : (cycle_of d pins).registers.rx ≡ d.registers.rx ++ kept_of d pins
  unfolding cycle_of end_cycle kept_of completed_of added
  held_cycle =
      let r = device_step d pins in
      ap (λ (m : Model). m.rx) (step_file d.registers r.takes r.completed)
      ∙ held_by d.registers.rx r.completed (ltb (length d.registers.rx) 8)

  overrun_cycle : (cycle_of d pins).registers.ror ≡ (d.registers.ror || some (lost_of d pins))
  unfolding cycle_of end_cycle lost_of completed_of
  overrun_cycle =
      let r = device_step d pins in
      ap (λ (m : Model). m.ror) (step_file d.registers r.takes r.completed)
      ∙ overrun_by d.registers.ror r.completed (ltb (length d.registers.rx) 8)

pub lost_in_cycle : LostInCycle
lost_in_cycle = record { completed = completed_cycle; held = held_cycle; overrun = overrun_cycle }

-- What the code of a step hands up.
take_rx : (m : Model) (t : Bool) → (take_if m t).rx ≡ m.rx
unfolding take_if take_word
take_rx m true = refl
take_rx m false = refl

lost_by : (m : Model) (t : Bool) (o : Option ℕ) → lost_if (take_if m t) o ≡ pick (ltb (length m.rx) 8) [] (words_of o)
unfolding lost_word dropped
lost_by m t None = pick_both (λ (ws : List ℕ). [] ≡ ws) (ltb (length m.rx) 8) [] [] (λ _. refl) (λ _. refl)
lost_by m t (Some w) = ap (λ (xs : List ℕ). dropped xs w) (take_rx m t)

pub lost_step : (d : DeviceModel) (pins : Pins) → lost_if (take_if d.registers (device_step d pins).takes) (device_step d pins).completed ≡ lost_of d pins
unfolding lost_of completed_of
lost_step d pins = lost_by d.registers (device_step d pins).takes (device_step d pins).completed

-- A run ----------------------------------------------------------------------------------------------------------------

take_join : (n : ℕ) (xs ys : List ℕ) → take n (xs ++ ys) ≡ take n xs ++ take (n - length xs) ys
take_join n [] ys = rw (sub-zero, take-nil)
take_join zero (x ∷ xs) ys = rw zero-sub
take_join (suc n) (x ∷ xs) ys = rw suc-sub-suc (ap (λ (l : List ℕ). x ∷ l) (take_join n xs ys))

drop_join : (n : ℕ) (xs ys : List ℕ) → drop n (xs ++ ys) ≡ drop n xs ++ drop (n - length xs) ys
drop_join n [] ys = rw (sub-zero, drop-nil)
drop_join zero (x ∷ xs) ys = rw zero-sub
drop_join (suc n) (x ∷ xs) ys = rw suc-sub-suc (drop_join n xs ys)

-- The words kept are the first of those completed, as many as there are places, the words lost are the others: none or one word.
-- o is the word completed, t says whether there is a place.

kept_by : (xs : List ℕ) (o : Option ℕ) (t : Bool) → ltb (length xs) 8 ≡ t → pick t (words_of o) [] ≡ take (8 - length xs) (words_of o)
kept_by xs (Some w) true e =
    let k : 8 - length xs ≡ suc (7 - length xs) = let h = ltb-true (length xs) 8 e in omega arith in
    sym (ap (λ (n : ℕ). take n (w ∷ [])) k ∙ ap (λ (l : List ℕ). w ∷ l) (take-nil (7 - length xs)))
kept_by xs (Some w) false e =
    let k : 8 - length xs ≡ 0 = let h = ltb-false (length xs) 8 e in omega arith in
    rw k
kept_by xs None true e = sym (take-nil (8 - length xs))
kept_by xs None false e = sym (take-nil (8 - length xs))

rest_by : (xs : List ℕ) (o : Option ℕ) (t : Bool) → ltb (length xs) 8 ≡ t → pick t [] (words_of o) ≡ drop (8 - length xs) (words_of o)
rest_by xs (Some w) true e =
    let k : 8 - length xs ≡ suc (7 - length xs) = let h = ltb-true (length xs) 8 e in omega arith in
    sym (ap (λ (n : ℕ). drop n (w ∷ [])) k ∙ drop-nil (7 - length xs))
rest_by xs (Some w) false e =
    let k : 8 - length xs ≡ 0 = let h = ltb-false (length xs) 8 e in omega arith in
    rw k
rest_by xs None true e = sym (drop-nil (8 - length xs))
rest_by xs None false e = sym (drop-nil (8 - length xs))

left_by_lem : (xs ws : List ℕ) (t : Bool) → ltb (length xs) 8 ≡ t → 8 - length (xs ++ pick t ws []) ≡ 8 - length xs - length ws
left_by_lem xs ws true e = let a = length-append xs ws in omega arith
left_by_lem xs ws false e = let a = append-nil xs in let h = ltb-false (length xs) 8 e in rw a (omega arith)

-- The places in the receive queue.
abbrev places : DeviceModel → ℕ
places d = 8 - length d.registers.rx

module _ (d : DeviceModel) (pins : Pins) where
  kept_cycle : kept_of d pins ≡ take (places d) (completed_of d pins)
  unfolding kept_of completed_of
  kept_cycle = kept_by d.registers.rx (device_step d pins).completed _ refl

  lost_cycle : lost_of d pins ≡ drop (places d) (completed_of d pins)
  unfolding lost_of completed_of
  lost_cycle = rest_by d.registers.rx (device_step d pins).completed _ refl

  places_cycle : places (cycle_of d pins) ≡ places d - length (completed_of d pins)
  unfolding kept_of
  places_cycle = ap (λ (xs : List ℕ). 8 - length xs) (held_cycle d pins) ∙ left_by_lem d.registers.rx (completed_of d pins) _ refl

kept_run : (d : DeviceModel) (ps : List Pins) → kept_in d ps ≡ take (places d) (completed_in d ps)
kept_run d [] = sym (take-nil (places d))
kept_run d (p ∷ ps) =
    ap₂ (λ (xs ys : List ℕ). xs ++ ys) (kept_cycle d p) (kept_run (cycle_of d p) ps ∙ ap (λ (n : ℕ). take n (completed_in (cycle_of d p) ps)) (places_cycle d p))
    ∙ sym (take_join (places d) (completed_of d p) (completed_in (cycle_of d p) ps))

lost-run : (d : DeviceModel) (ps : List Pins) → lost_in d ps ≡ drop (places d) (completed_in d ps)
lost-run d [] = sym (drop-nil (places d))
lost-run d (p ∷ ps) =
    ap₂ (λ (xs ys : List ℕ). xs ++ ys) (lost_cycle d p) (lost-run (cycle_of d p) ps ∙ ap (λ (n : ℕ). drop n (completed_in (cycle_of d p) ps)) (places_cycle d p))
    ∙ sym (drop_join (places d) (completed_of d p) (completed_in (cycle_of d p) ps))

completed-run : (d : DeviceModel) (ps : List Pins) → completed_in d ps ≡ kept_in d ps ++ lost_in d ps
completed-run d ps =
    sym (take-append-drop (places d) (completed_in d ps)) ∙ ap₂ (λ (xs ys : List ℕ). xs ++ ys) (sym (kept_run d ps)) (sym (lost-run d ps))

held-run : (d : DeviceModel) (ps : List Pins) → (after d ps).registers.rx ≡ d.registers.rx ++ kept_in d ps
held-run d [] = sym (append-nil d.registers.rx)
held-run d (p ∷ ps) =
    held-run (cycle_of d p) ps ∙ ap (λ (xs : List ℕ). xs ++ kept_in (cycle_of d p) ps) (held_cycle d p) ∙ append_assoc d.registers.rx (kept_of d p) (kept_in (cycle_of d p) ps)

some_join : (r : Bool) (xs ys : List ℕ) → ((r || some xs) || some ys) ≡ (r || some (xs ++ ys))
some_join true xs ys = refl
some_join false [] ys = refl
some_join false (x ∷ xs) ys = refl

overrun_run : (d : DeviceModel) (ps : List Pins) → (after d ps).registers.ror ≡ (d.registers.ror || some (lost_in d ps))
overrun_run d [] = sym (or-false d.registers.ror)
overrun_run d (p ∷ ps) =
    overrun_run (cycle_of d p) ps ∙ ap (λ (r : Bool). r || some (lost_in (cycle_of d p) ps)) (overrun_cycle d p)
    ∙ some_join d.registers.ror (lost_of d p) (lost_in (cycle_of d p) ps)

one_at_most : (t : Bool) (o : Option ℕ) → length (pick t [] (words_of o)) ≤ 1
one_at_most true o = omega arith
one_at_most false (Some w) = omega arith
one_at_most false None = omega arith

lost_most : (d : DeviceModel) (pins : Pins) → length (lost_of d pins) ≤ 1
unfolding lost_of completed_of
lost_most d pins = one_at_most (ltb (length d.registers.rx) 8) (device_step d pins).completed

most_run : (d : DeviceModel) (ps : List Pins) → length (lost_in d ps) ≤ length ps
most_run d [] = omega arith
most_run d (p ∷ ps) =
    let a = length-append (lost_of d p) (lost_in (cycle_of d p) ps) in
    let b = lost_most d p in
    let c = most_run (cycle_of d p) ps in
    omega arith

-- A run in two parts.
pub words_join : (f : DeviceModel → Pins → List ℕ) (d : DeviceModel) (ps qs : List Pins) → words_in f d (ps ++ qs) ≡ words_in f d ps ++ words_in f (after d ps) qs
words_join f d [] qs = refl
words_join f d (p ∷ ps) qs =
    ap (λ (ws : List ℕ). f d p ++ ws) (words_join f (cycle_of d p) ps qs) ∙ sym (append_assoc (f d p) (words_in f (cycle_of d p) ps) (words_in f (after (cycle_of d p) ps) qs))

pub lost_in_run : LostInRun
lost_in_run =
    record { completed = completed-run; kept = kept_run; lost = lost-run; held = held-run; overrun = overrun_run; joined = words_join lost_of; most = most_run }

-- The numbers ----------------------------------------------------------------------------------------------------------

last_snoc : (v : ℕ) (ws : List ℕ) (w : ℕ) → last_from v (ws ++ (w ∷ [])) ≡ w
last_snoc v [] w = refl
last_snoc v (x ∷ xs) w = last_snoc x xs w

one_more_lem : (ws : List ℕ) (w : ℕ) → losses_of (ws ++ (w ∷ [])) ≡ record { count = length ws + 1; last = w }
one_more_lem ws w = rw (length-append, last_snoc)

noted-words : (ws : List ℕ) (x : Option ℕ) → length ws < highest → noted (losses_of ws) x ≡ losses_of (ws ++ words_of x)
noted-words ws (Some w) h = rw (lt-ltb (length ws) highest h) (sym (one_more_lem ws w))
noted-words ws None h = ap losses_of (sym (append-nil ws))

some_counted : (ws : List ℕ) → some ws ≡ not (eqb (losses_of ws).count 0)
some_counted [] = refl
some_counted (w ∷ ws) = sym (ap not (eqb-suc-zero (length ws)))

pub numbers : Numbers
numbers = record { none = refl; more = one_more_lem; noting = noted-words; counted = some_counted }

-- A loop ---------------------------------------------------------------------------------------------------------------

-- After i cycles l is what is noted of the words lost in them.
pub record Noting (ws : List ℕ) (l : Losses) (i : ℕ) : Type 0 where
  pub tally : l ≡ losses_of ws
  pub most : length ws ≤ i

pub noting_begin : (l : Losses) → l ≡ losses_of [] → Noting [] l 0
noting_begin l e = record { tally = e; most = omega arith }

word_most : (x : Option ℕ) → length (words_of x) ≤ 1
word_most (Some w) = omega arith
word_most None = omega arith

pub noting_turn : (ws ws' new : List ℕ) (l l' : Losses) (i : ℕ) (x : Option ℕ) → Noting ws l i → i < highest → l' ≡ noted l x → words_of x ≡ new → ws' ≡ ws ++ new → Noting ws' l' (i + 1)
noting_turn ws ws' new l l' i x n h e f g =
    let s : ws' ≡ ws ++ words_of x = g ∙ ap (λ (t : List ℕ). ws ++ t) (sym f) in
    record {
      tally = e ∙ ap (λ (t : Losses). noted t x) n.tally ∙ noted-words ws x (let m = n.most in omega arith) ∙ ap losses_of (sym s);
      most = let a = length-append ws (words_of x) in let b = word_most x in let m = n.most in rw s (omega arith);
    }
