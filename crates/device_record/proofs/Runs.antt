-- The run's loops: what holds at each turn, with a law for the start, a turn and each way out.
use Prim.Native.Nat.{ℕ, suc, ◌+◌, ◌≤◌, ◌<◌}
use mathlib.Core.Path.{◌≡◌, refl, sym, ◌∙◌, ap}
use mathlib.Core.List.{List, [], ◌∷◌, ◌++◌, append_assoc, append-nil}
use mathlib.Core.Bool.{Bool, true, false, ◌&&◌}
use native.Mathlib.Omega.{arith}
use native.Mathlib.Numerals.{add-one}
use lib.Dec.{leb}
use borrow.Author.Tests.{eq-eqb, ne_eqb}
use lib.ListN.{length, get_or, take, drop, set, length-set, drop_of_length-le}
use lib.Seq.{drop-cons, take-suc, set_at, length-take-le, take-length, drop-length}
use Rattle.std.specs.List.{fold}
use Rattle.std.proofs.Math.Bool.{and_assoc}
use Rattle.frames.specs.Lines.{pins_of, byte_of}
use Rattle.std.specs.Prelude.{Option}
use Rattle.registers.specs.Choose.{words_of}
use Rattle.serial.specs.Cycle.{DeviceModel, cycle_of, lost_of}
use Rattle.serial.specs.Lost.{highest, noted}
use Rattle.serial.proofs.Losses.{Noting, noting_begin, noting_turn}
use Rattle.device_record.specs.Run.{losses_of, after_bytes, outputs, lost_with, inputs_fit, stops_on, count_until, written, served, RunUntil}
use Rattle.device_record.proofs.Bytes.{and-true}
use Rattle.serial.specs.declared.lost.Losses.{Losses}
use Rattle.device_record.specs.declared.run.Stop.TheVariants.{Never}

-- Input bytes ----------------------------------------------------------------------------------------------------------

-- The fold over the input, from any start.
pub fits_lem : (fit : Bool) (ins : List ℕ) → fold (λ (all : Bool) (byte : ℕ). all && leb byte 7) fit ins ≡ (fit && inputs_fit ins)
unfolding inputs_fit
fits_lem fit [] = sym (and-true fit)
fits_lem fit (p ∷ ps) = fits_lem (fit && leb p 7) ps ∙ and_assoc fit (leb p 7) (inputs_fit ps)

-- Cycles ---------------------------------------------------------------------------------------------------------------

after_snoc : (d : DeviceModel) (xs : List ℕ) (x : ℕ) → after_bytes d (xs ++ (x ∷ [])) ≡ cycle_of (after_bytes d xs) (pins_of x)
unfolding after_bytes
after_snoc d [] x = refl
after_snoc d (y ∷ ys) x = after_snoc (cycle_of d (pins_of y)) ys x

outputs_snoc : (d : DeviceModel) (xs : List ℕ) (x : ℕ) → outputs d (xs ++ (x ∷ [])) ≡ outputs d xs ++ (byte_of (cycle_of (after_bytes d xs) (pins_of x)).lines ∷ [])
unfolding outputs after_bytes
outputs_snoc d [] x = refl
outputs_snoc d (y ∷ ys) x = ap (λ (l : List ℕ). byte_of (cycle_of d (pins_of y)).lines ∷ l) (outputs_snoc (cycle_of d (pins_of y)) ys x)

lost_snoc : (d : DeviceModel) (xs : List ℕ) (x : ℕ) → lost_with d (xs ++ (x ∷ [])) ≡ lost_with d xs ++ lost_of (after_bytes d xs) (pins_of x)
unfolding lost_with after_bytes
lost_snoc d [] x = append-nil (lost_of d (pins_of x))
lost_snoc d (y ∷ ys) x =
    ap (λ (l : List ℕ). lost_of d (pins_of y) ++ l) (lost_snoc (cycle_of d (pins_of y)) ys x)
    ∙ sym (append_assoc (lost_of d (pins_of y)) (lost_with (cycle_of d (pins_of y)) ys) (lost_of (after_bytes (cycle_of d (pins_of y)) ys) (pins_of x)))

pub outputs-length : (d : DeviceModel) (xs : List ℕ) → length (outputs d xs) ≡ length xs
unfolding outputs
outputs-length d [] = refl
outputs-length d (y ∷ ys) = ap suc (outputs-length (cycle_of d (pins_of y)) ys)

module _ (stops : DeviceModel → Bool) where
  count_more : (s : DeviceModel) (p : ℕ) (ps : List ℕ) → stops s ≡ false → count_until stops s (p ∷ ps) ≡ 1 + count_until stops (cycle_of s (pins_of p)) ps
  unfolding count_until
  count_more s p ps e = rw (count_until, e)

  count_none : (s : DeviceModel) (ps : List ℕ) → stops s ≡ true → count_until stops s ps ≡ 0
  unfolding count_until
  count_none s [] e = refl
  count_none s (p ∷ ps) e = rw (count_until, e)

-- With no stopping rule every input byte has its cycle.
pub count_never : (d : DeviceModel) (ins : List ℕ) → count_until (stops_on Never) d ins ≡ length ins
unfolding count_until
count_never d [] = refl
count_never d (p ∷ ps) = omega (arith, count_never (cycle_of d (pins_of p)) ps)

pub served_all : (ins outs : List ℕ) → length ins ≡ length outs → served ins outs ≡ ins
unfolding served
served_all ins outs e = rw (eq-eqb (length ins) (length outs) e)

-- A buffer that is written to its end.
pub written_all : (d : DeviceModel) (ins outs : List ℕ) → length ins ≡ length outs → written d (length ins) ins outs ≡ outputs d ins
unfolding written
written_all d ins outs e = rw (take-length ins, e, drop-length outs, append-nil)

-- Nothing is run where the lengths differ.
pub run_refused : (stops : DeviceModel → Bool) (d : DeviceModel) (ins outs : List ℕ) (l : Losses) → l ≡ losses_of [] → (length ins ≡ length outs → ⊥)
    → RunUntil stops d ins outs (record { count = 0; lost = l }) d outs
unfolding served written count_until after_bytes outputs lost_with
run_refused stops d ins outs l n h =
    let e = ne_eqb (length ins) (length outs) h in
    record { count = rw e; device = rw e; lost = rw e n; output = rw e }

-- After i cycles: what was done, and what is left of the count.
pub record Running (stops : DeviceModel → Bool) (d : DeviceModel) (ins outs now : List ℕ) (s : DeviceModel) (l : Losses) (i : ℕ) : Type 0 where
  pub within : i ≤ length ins
  pub long : length ins ≡ length outs
  pub same : length now ≡ length outs
  pub count : count_until stops d ins ≡ i + count_until stops s (drop i ins)
  pub device : s ≡ after_bytes d (take i ins)
  pub lost : Noting (lost_with d (take i ins)) l i
  pub output : now ≡ outputs d (take i ins) ++ drop i outs

pub run_begin : (stops : DeviceModel → Bool) (d : DeviceModel) (ins outs : List ℕ) (l : Losses) → l ≡ losses_of [] → length ins ≡ length outs → Running stops d ins outs outs d l 0
unfolding outputs after_bytes lost_with
run_begin stops d ins outs l n e = record { within = omega arith; long = e; same = refl; count = omega arith; device = refl; lost = noting_begin l n; output = refl }

module _ (stops : DeviceModel → Bool) (d : DeviceModel) (ins outs now : List ℕ) (s : DeviceModel) (l : Losses) (i : ℕ) (r : Running stops d ins outs now s l i) where
  pub run_turn : (n : DeviceModel) (b : ℕ) (x : Option ℕ) (l' : Losses) → i < length ins → i < highest → stops s ≡ false → n ≡ cycle_of s (pins_of (get_or ins i 0)) → b ≡ byte_of n.lines
      → words_of x ≡ lost_of s (pins_of (get_or ins i 0)) → l' ≡ noted l x → Running stops d ins outs (set now i b) n l' (i + 1)
  run_turn n b x l' h hi t e f g k =
      let c : count_until stops s (drop i ins) ≡ 1 + count_until stops n (drop (i + 1) ins) = rw (add-one i, drop-cons ins i 0 h, e) (count_more stops s (get_or ins i 0) (drop (suc i) ins) t) in
      let z : length (outputs d (take i ins)) ≡ i = outputs-length d (take i ins) ∙ length-take-le i ins (omega arith) in
      let o : i < length outs = omega (arith, r.long) in
      record {
        within = omega arith;
        long = r.long;
        same = length-set now i b ∙ r.same;
        count = r.count ∙ omega (arith, c);
        device = e ∙ rw (add-one i, take-suc ins i 0 h, after_snoc, ← r.device);
        lost = noting_turn _ _ _ l l' i x r.lost hi k g (rw (add-one i, take-suc ins i 0 h, lost_snoc, ← r.device));
        output = ap (λ (z : List ℕ). set z i b) r.output ∙ rw (add-one i, drop-cons outs i 0 o, set_at (outputs d (take i ins)) (get_or outs i 0) (drop (suc i) outs) b i z, take-suc ins i 0 h, outputs_snoc, ← r.device, f, e, append_assoc);
      }

  run_stop : count_until stops d ins ≡ i → RunUntil stops d ins outs (record { count = i; lost = l }) s now
  unfolding written
  run_stop e =
      let a = served_all ins outs r.long in
      record { count = rw a (sym e); device = rw (a, e) r.device; lost = rw (a, e) r.lost.tally; output = rw (a, e) r.output }

  -- the rule holds
  pub run-held : stops s ≡ true → RunUntil stops d ins outs (record { count = i; lost = l }) s now
  run-held t = run_stop (r.count ∙ omega (arith, count_none stops s (drop i ins) t))

  -- the input ends
  pub run_ended : length ins ≤ i → RunUntil stops d ins outs (record { count = length ins; lost = l }) s now
  unfolding count_until
  run_ended h =
      let w = r.within in
      let e : i ≡ length ins = omega arith in
      rw e at (run_stop (r.count ∙ rw (drop_of_length-le ins {i = i} h) (omega arith)))
