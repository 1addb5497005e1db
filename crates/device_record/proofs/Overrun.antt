-- ROR, the words held and the words handed up agree: after a run, and in both records of a pair run.
use Prim.Native.Nat.{ℕ}
use mathlib.Core.Path.{◌≡◌, refl, sym, ap, ◌∙◌}
use mathlib.Core.Bool.{Bool, true, false, ◌||◌, or-false}
use mathlib.Core.List.{List, [], ◌++◌, map, append_assoc}
use lib.Dec.{eqb}
use lib.ListN.{take}
use borrow.Author.Tests.{eqb-true, eq-eqb}
use Rattle.registers.specs.Choose.{pick}
use Rattle.frames.specs.Lines.{pins_of}
use Rattle.frames.specs.declared.lines.Pins.{Pins}
use Rattle.serial.specs.Cycle.{DeviceModel, after, completed_in, kept_in, lost_in}
use Rattle.serial.specs.Lost.{some}
use Rattle.serial.specs.Pair.{pins_read, pair_lost}
use Rattle.serial.proofs.Losses.{lost_in_run, numbers}
use Rattle.serial.proofs.PairRuns.{first_is_run}
use Rattle.device_record.specs.Record.{encoded, decode}
use Rattle.device_record.specs.Run.{Losses, losses_of, after_bytes, lost_with, run_refusal}
use Rattle.device_record.specs.Calls.{RunAnswer, run_count, run_lost, run_left, pair_refusal, pair_of_records, pair_after, pair_left, pair_call_lost, RunCall, Records, ror_in, any_lost, RorAgrees, Accounted, AllAccounted}
use Rattle.device_record.specs.Demand3.{devices_of, SoundRecords, LostRecords}
use Rattle.device_record.specs.declared.run.Stop.{Stop}
use Rattle.device_record.proofs.RoundTrip.{decode-encode}
use Rattle.device_record.proofs.Answers.{run_passes, pair_passes, pair_refusal_swap}
use Rattle.device_record.proofs.Histories.{Good, good_decode, good_after, good_pair_run}
use Rattle.device_record.proofs.Demand3.{pair_done}
use Rattle.device_record.proofs.Swap.{pair_left_swap}

-- A device comes back from its bytes.
back : (d : DeviceModel) → Good d → decode (encoded d) ≡ d
back d g = decode-encode d g.sound g.fits

-- A call that is done leaves a device with this ROR; one that is refused leaves the bytes.
left_ror : (t : Bool) (d : DeviceModel) (b ws : List ℕ) → (t ≡ true → Good d) → d.registers.ror ≡ (ror_in b || some ws)
    → ror_in (pick t (encoded d) b) ≡ (ror_in b || any_lost (losses_of (pick t ws [])))
left_ror true d b ws g h =
    ap (λ (x : DeviceModel). x.registers.ror) (back d (g refl)) ∙ h ∙ ap (λ (t : Bool). ror_in b || t) (numbers.counted ws)
left_ror false d b ws g h = sym (or-false (ror_in b))

-- The device after a run, and the first one after a pair run.
module _ (stop : Stop) (b i o : List ℕ) where
  abbrev served : List ℕ
  served = take (run_count stop b i o) i

  run_good : eqb (run_refusal b i o) 0 ≡ true → Good (after_bytes (decode b) served)
  run_good t = good_after (decode b) served (good_decode b (run_passes b i o (eqb-true (run_refusal b i o) 0 t)).2)

  run_ror : ror_in (run_left stop b i o) ≡ (ror_in b || any_lost (losses_of (run_lost stop b i o)))
  unfolding run_lost after_bytes lost_with
  run_ror = left_ror (eqb (run_refusal b i o) 0) (after_bytes (decode b) served) b (lost_with (decode b) served) run_good (lost_in_run.overrun (decode b) (map pins_of served))

module _ (one two : List ℕ) (n : ℕ) where
  pair_good : eqb (pair_refusal one two) 0 ≡ true → Good (pair_after one two n).first
  unfolding pair_after
  pair_good t =
      let s = pair_passes one two (eqb-true (pair_refusal one two) 0 t) in
      (good_pair_run n (pair_of_records one two) (good_decode one s.2) (good_decode two s.3)).0

  pair_ror : ror_in (pair_left one two n).one ≡ (ror_in one || any_lost (losses_of (pair_call_lost one two n)))
  unfolding pair_after pair_call_lost
  pair_ror =
      let p = pair_of_records one two in
      left_ror (eqb (pair_refusal one two) 0) (pair_after one two n).first one (pair_lost n p) pair_good
      (ap (λ (d : DeviceModel). d.registers.ror) (first_is_run n p) ∙ lost_in_run.overrun (decode one) (pins_read n p))

pub ror_agrees : RorAgrees
ror_agrees =
    record {
      run = run_ror;
      first = pair_ror;
      second = λ one two n. ap (λ (r : Records). ror_in r.two) (pair_left_swap two one n) ∙ pair_ror two one n;
    }

-- The words that a device receives in a run: those held before and completed are those held after and lost.
run-words : (d : DeviceModel) (ps : List Pins) → d.registers.rx ++ completed_in d ps ≡ (after d ps).registers.rx ++ lost_in d ps
run-words d ps =
    ap (λ (ws : List ℕ). d.registers.rx ++ ws) (lost_in_run.completed d ps) ∙ sym (append_assoc d.registers.rx (kept_in d ps) (lost_in d ps))
    ∙ ap (λ (ws : List ℕ). ws ++ lost_in d ps) (sym (lost_in_run.held d ps))

run_accounted : (stop : Stop) (b i o : List ℕ) (r : RunAnswer) (b' o' : List ℕ) → RunCall stop b i o r b' o' → r.refusal ≡ 0
    → Accounted b (completed_in (decode b) (map pins_of (take r.count i))) b' r.lost
unfolding run_lost after_bytes lost_with
run_accounted stop b i o r b' o' g z =
    let z' : run_refusal b i o ≡ 0 = sym g.refusal ∙ z in
    let t : eqb (run_refusal b i o) 0 ≡ true = eq-eqb (run_refusal b i o) 0 z' in
    let ps = map pins_of (served stop b i o) in
    record {
      lost = lost_in (decode b) ps;
      words =
          rw (g.count, g.left, t)
          (run-words (decode b) ps ∙ ap (λ (x : DeviceModel). x.registers.rx ++ lost_in (decode b) ps) (sym (back (after (decode b) ps) (run_good stop b i o t))));
      handed = g.lost ∙ rw t;
    }

pair_accounted : (one two : List ℕ) (n : ℕ) → pair_refusal one two ≡ 0 → (l : Losses) → l ≡ losses_of (pair_call_lost one two n)
    → Accounted one (completed_in (decode one) (pins_read n (pair_of_records one two))) (pair_left one two n).one l
unfolding pair_after pair_call_lost
pair_accounted one two n z l e =
    let p = pair_of_records one two in
    let t : eqb (pair_refusal one two) 0 ≡ true = eq-eqb (pair_refusal one two) 0 z in
    record {
      lost = pair_lost n p;
      words =
          rw t
          (run-words (decode one) (pins_read n p) ∙ ap (λ (x : DeviceModel). x.registers.rx ++ pair_lost n p) (sym (back (pair_after one two n).first (pair_good one two n t) ∙ first_is_run n p)));
      handed = e ∙ rw t;
    }

pub all_accounted : AllAccounted
all_accounted =
    record {
      run = run_accounted;
      first = λ one two n r one' two' g z. rw g.first_left (pair_accounted one two n (sym g.refusal ∙ z) r.first g.first_lost);
      second = λ one two n r one' two' g z.
          rw (g.second_left, ap (λ (x : Records). x.two) (pair_left_swap two one n)) (pair_accounted two one n (pair_refusal_swap one two ∙ sym g.refusal ∙ z) r.second g.second_lost);
    }

-- Demand 3: the records' answers are about the devices' words.
module _ (r : Records) (n : ℕ) (s : SoundRecords r) where
  lost_devices : pair_call_lost r.one r.two n ≡ pair_lost n (devices_of r)
  unfolding pair_call_lost
  lost_devices = rw (pair_done r.one r.two s.one s.two)

pub lost_records : LostRecords
lost_records =
    record {
      master_lost = lost_devices;
      slave_lost = λ r n s. lost_devices (record { one = r.two; two = r.one }) n (record { one = s.two; two = s.one });
    }
