-- What each call on records answers, and what it leaves in the caller's bytes. A refused call changes none of them.
use Rattle.std.specs.Prelude.{Result, Ok, Err, ℕ, ◌≡◌, Bool, true, not, ◌||◌, List, [], ◌++◌, map, length, take, eqb}
use Rattle.registers.specs.Choose.{pick}
use Rattle.registers.specs.Refusals.{done, first_of, refusal_of, Answer, Refused}
use Rattle.frames.specs.Lines.{pins_of}
use Rattle.serial.specs.Cycle.{DeviceModel, reset_device, completed_in}
use Rattle.serial.specs.Access.{read_answer_of, read_device, write_refusal_of, write_device}
use Rattle.serial.specs.Lost.{none_lost}
use Rattle.serial.specs.Pair.{PairModel, pair_run, pins_read, pair_lost}
use Rattle.device_record.specs.Record.{record_length, encoded, decode, sound_bytes}
pub use Rattle.device_record.specs.Refusals.{no_edition}
use Rattle.device_record.specs.Refusals.{number}
use Rattle.device_record.specs.Run.{Losses, losses_of, after_bytes, outputs, lost_with, stops_on, count_until, written, wrong_length, unsound, run_refusal}
use Rattle.device_record.specs.declared.refusals.Refusal.{Refusal}
use Rattle.device_record.specs.declared.refusals.Refusal.TheVariants.{NoEdition}
use Rattle.device_record.specs.declared.calls.Edition.{Edition}
use Rattle.device_record.specs.declared.calls.Edition.TheVariants.{First, Second}
use Rattle.serial.specs.declared.pair.PairLosses.{PairLosses}
use Rattle.device_record.specs.declared.run.Ran.{Ran}
use Rattle.device_record.specs.declared.run.Stop.{Stop}
use Rattle.device_record.specs.declared.run.Stop.TheVariants.{Never}

-- A record after a call: the encoding of the device if the call is done, otherwise the bytes as they were.
abbrev pub left_by : ℕ → DeviceModel → List ℕ → List ℕ
left_by refusal d bytes = pick (eqb refusal done) (encoded d) bytes

-- Reset ----------------------------------------------------------------------------------------------------------------

-- the first edition
abbrev pub first_edition : ℕ
first_edition = 1

-- the second edition
abbrev pub second_edition : ℕ
second_edition = 2

-- The edition that a reset names.
abbrev pub edition_of : ℕ → Result Edition Refusal
edition_of edition =
    pick (eqb edition first_edition) (Ok First)
    (pick (eqb edition second_edition) (Ok Second)
    (Err NoEdition))

-- A reset is refused only with 10, then with 20, whatever the bytes held.
unfoldable pub reset_refusal : List ℕ → ℕ → ℕ
reset_refusal bytes edition =
    pick (not (eqb (length bytes) record_length)) wrong_length
    (pick (eqb edition first_edition || eqb edition second_edition) done no_edition)

-- The record after a reset, of the edition asked for; a refused reset leaves the bytes as they were.
abbrev pub reset_left : List ℕ → ℕ → List ℕ
reset_left bytes edition = left_by (reset_refusal bytes edition) (reset_device (eqb edition second_edition)) bytes

-- A reset: its refusal number, and the record after it.
pub record ResetCall (bytes : List ℕ) (edition r : ℕ) (bytes' : List ℕ) : Type 0 where
  pub refusal : r ≡ reset_refusal bytes edition
  pub left : bytes' ≡ reset_left bytes edition

-- Accesses -------------------------------------------------------------------------------------------------------------

-- 10, then 9: these come before an access's own refusals.
unfoldable pub record_refusal : List ℕ → ℕ
record_refusal bytes =
    pick (not (eqb (length bytes) record_length)) wrong_length
    (pick (not (sound_bytes bytes)) unsound
    done)

-- A read answers with a word or with a refusal number.
unfoldable pub read_call : List ℕ → ℕ → Answer
read_call bytes o = pick (eqb (record_refusal bytes) done) (read_answer_of (decode bytes) o) (Refused (record_refusal bytes))

-- The record after a read; a refused read leaves the bytes as they were.
abbrev pub read_left : List ℕ → ℕ → List ℕ
read_left bytes o = left_by (refusal_of (read_call bytes o)) (read_device (decode bytes) o) bytes

-- A read: its answer, and the record after it.
pub record ReadCall (bytes : List ℕ) (o : ℕ) (r : Answer) (bytes' : List ℕ) : Type 0 where
  pub answer : r ≡ read_call bytes o
  pub left : bytes' ≡ read_left bytes o

-- The refusal number of a write: 10, then 9, then the access's own; 0 if it is done.
unfoldable pub write_call : List ℕ → ℕ → ℕ → ℕ
write_call bytes o v = first_of (record_refusal bytes) (write_refusal_of (decode bytes) o v)

-- The record after a write; a refused write leaves the bytes as they were.
abbrev pub write_left : List ℕ → ℕ → ℕ → List ℕ
write_left bytes o v = left_by (write_call bytes o v) (write_device (decode bytes) o v) bytes

-- A write: its refusal number, and the record after it.
pub record WriteCall (bytes : List ℕ) (o v r : ℕ) (bytes' : List ℕ) : Type 0 where
  pub refusal : r ≡ write_call bytes o v
  pub left : bytes' ≡ write_left bytes o v

-- Runs -----------------------------------------------------------------------------------------------------------------

-- How many cycles a run with a stopping rule has; 0 if it is refused.
unfoldable pub run_count : Stop → List ℕ → List ℕ → List ℕ → ℕ
run_count stop bytes ins outs = pick (eqb (run_refusal bytes ins outs) done) (count_until (stops_on stop) (decode bytes) ins) 0

-- The record after these cycles.
abbrev pub run_left : Stop → List ℕ → List ℕ → List ℕ → List ℕ
run_left stop bytes ins outs = left_by (run_refusal bytes ins outs) (after_bytes (decode bytes) (take (run_count stop bytes ins outs) ins)) bytes

-- The output after these cycles: the lines of each in its place; the bytes after them stay.
abbrev pub run_output : Stop → List ℕ → List ℕ → List ℕ → List ℕ
run_output stop bytes ins outs = pick (eqb (run_refusal bytes ins outs) done) (written (decode bytes) (run_count stop bytes ins outs) ins outs) outs

-- The words lost in these cycles; none if the run is refused.
unfoldable pub run_lost : Stop → List ℕ → List ℕ → List ℕ → List ℕ
run_lost stop bytes ins outs = pick (eqb (run_refusal bytes ins outs) done) (lost_with (decode bytes) (take (run_count stop bytes ins outs) ins)) []

-- What a run answers: its refusal number, the cycles run, and what was lost in them; no cycle and nothing if it is refused.
pub record RunAnswer : Type 0 where
  pub refusal : ℕ
  pub count : ℕ
  pub lost : Losses

-- A run's result as these three: a refused one has its number and zeros.
abbrev pub run_answer : Result Ran Refusal → RunAnswer
run_answer (Ok r) = record { refusal = done; count = r.count; lost = r.lost }
run_answer (Err refusal) = record { refusal = number refusal; count = 0; lost = none_lost }

-- A run with a stopping rule: its refusal number and count, how many words were lost and the last of them, the record and the
-- output after it.
pub record RunCall (stop : Stop) (bytes ins outs : List ℕ) (r : RunAnswer) (bytes' outs' : List ℕ) : Type 0 where
  pub refusal : r.refusal ≡ run_refusal bytes ins outs
  pub count : r.count ≡ run_count stop bytes ins outs
  pub lost : r.lost ≡ losses_of (run_lost stop bytes ins outs)
  pub left : bytes' ≡ run_left stop bytes ins outs
  pub output : outs' ≡ run_output stop bytes ins outs

-- A run that nothing stops has one cycle for each input byte. The lines of each are in its place, and the words lost are those
-- of all these cycles.
pub record RunsAll : Type 0 where
  pub count : (bytes ins outs : List ℕ) → run_count Never bytes ins outs ≡ pick (eqb (run_refusal bytes ins outs) done) (length ins) 0
  pub lost : (bytes ins outs : List ℕ) → run_lost Never bytes ins outs ≡ pick (eqb (run_refusal bytes ins outs) done) (lost_with (decode bytes) ins) []
  pub left : (bytes ins outs : List ℕ) → run_left Never bytes ins outs ≡ left_by (run_refusal bytes ins outs) (after_bytes (decode bytes) ins) bytes
  pub output : (bytes ins outs : List ℕ) → run_output Never bytes ins outs ≡ pick (eqb (run_refusal bytes ins outs) done) (outputs (decode bytes) ins) outs

-- Pairs ----------------------------------------------------------------------------------------------------------------

-- 10, then 9, if it applies to either record.
unfoldable pub pair_refusal : List ℕ → List ℕ → ℕ
pair_refusal one two =
    pick (not (eqb (length one) record_length) || not (eqb (length two) record_length)) wrong_length
    (pick (not (sound_bytes one) || not (sound_bytes two)) unsound
    done)

-- The two devices of the records.
abbrev pub pair_of_records : List ℕ → List ℕ → PairModel
pair_of_records one two = record { first = decode one; second = decode two }

-- The two devices after n pair cycles.
unfoldable pub pair_after : List ℕ → List ℕ → ℕ → PairModel
pair_after one two n = pair_run n (pair_of_records one two)

-- Two records.
pub record Records : Type 0 where
  pub one : List ℕ
  pub two : List ℕ

-- The records after a pair run: they encode the devices after n pair cycles; if it is refused, both are as they were.
abbrev pub pair_left : List ℕ → List ℕ → ℕ → Records
pair_left one two n =
    record {
      one = left_by (pair_refusal one two) (pair_after one two n).first one;
      two = left_by (pair_refusal one two) (pair_after one two n).second two;
    }

-- The words that the first record's device loses in these cycles; none if the pair run is refused.
unfoldable pub pair_call_lost : List ℕ → List ℕ → ℕ → List ℕ
pair_call_lost one two n = pick (eqb (pair_refusal one two) done) (pair_lost n (pair_of_records one two)) []

-- What a pair run answers: its refusal number, and what each device lost; nothing if it is refused.
pub record PairAnswer : Type 0 where
  pub refusal : ℕ
  pub first : Losses
  pub second : Losses

-- A pair run's result as these three: a refused one has its number and zeros.
abbrev pub pair_answer : Result PairLosses Refusal → PairAnswer
pair_answer (Ok lost) = record { refusal = done; first = lost.first; second = lost.second }
pair_answer (Err refusal) = record { refusal = number refusal; first = none_lost; second = none_lost }

-- A pair run: its refusal number, how many words each device lost and the last of them, and both records after it. The second
-- device's losses are those of the first with the records swapped.
pub record PairCall (one two : List ℕ) (n : ℕ) (r : PairAnswer) (one' two' : List ℕ) : Type 0 where
  pub refusal : r.refusal ≡ pair_refusal one two
  pub first_lost : r.first ≡ losses_of (pair_call_lost one two n)
  pub second_lost : r.second ≡ losses_of (pair_call_lost two one n)
  pub first_left : one' ≡ (pair_left one two n).one
  pub second_left : two' ≡ (pair_left one two n).two

-- Lost words --------------------------------------------------------------------------------------------------------------

-- ROR in a record.
abbrev pub ror_in : List ℕ → Bool
ror_in bytes = (decode bytes).registers.ror

-- The words in the receive queue of a record, oldest first.
abbrev pub held_in : List ℕ → List ℕ
held_in bytes = (decode bytes).registers.rx

-- Some word was lost: the count is not 0.
abbrev pub any_lost : Losses → Bool
any_lost l = not (eqb l.count 0)

-- After a run, with either stop, ROR is set exactly if it was set before or the count of lost words is not 0. The same holds
-- for each record of a pair run, and for refused calls.
pub record RorAgrees : Type 0 where
  pub run : (stop : Stop) (bytes ins outs : List ℕ) → ror_in (run_left stop bytes ins outs) ≡ (ror_in bytes || any_lost (losses_of (run_lost stop bytes ins outs)))
  pub first : (one two : List ℕ) (n : ℕ) → ror_in (pair_left one two n).one ≡ (ror_in one || any_lost (losses_of (pair_call_lost one two n)))
  pub second : (one two : List ℕ) (n : ℕ) → ror_in (pair_left one two n).two ≡ (ror_in two || any_lost (losses_of (pair_call_lost two one n)))

-- Every completed word is accounted for: the words held before, then those completed, are the words held after, then those
-- lost, and the losses handed up are the lost ones.
pub record Accounted (before completed after : List ℕ) (l : Losses) : Type 0 where
  pub lost : List ℕ
  pub words : held_in before ++ completed ≡ held_in after ++ lost
  pub handed : l ≡ losses_of lost

-- This holds for every run that is done, and for both devices of a pair run.
pub record AllAccounted : Type 0 where
  pub run :
      (stop : Stop) (bytes ins outs : List ℕ) (r : RunAnswer) (bytes' outs' : List ℕ) → RunCall stop bytes ins outs r bytes' outs' → r.refusal ≡ done
      → Accounted bytes (completed_in (decode bytes) (map pins_of (take r.count ins))) bytes' r.lost
  pub first :
      (one two : List ℕ) (n : ℕ) (r : PairAnswer) (one' two' : List ℕ) → PairCall one two n r one' two' → r.refusal ≡ done
      → Accounted one (completed_in (decode one) (pins_read n (pair_of_records one two))) one' r.first
  pub second :
      (one two : List ℕ) (n : ℕ) (r : PairAnswer) (one' two' : List ℕ) → PairCall one two n r one' two' → r.refusal ≡ done
      → Accounted two (completed_in (decode two) (pins_read n (pair_of_records two one))) two' r.second

-- Histories ------------------------------------------------------------------------------------------------------------

-- A record reached from reset: a reset that was done made it, and then every call, done or refused, took it as the call before
-- had left it. The other record of a pair run may hold anything.
pub data Reached : List ℕ → Type 0 where
  reset : (bytes : List ℕ) (edition : ℕ) → reset_refusal bytes edition ≡ done → Reached (reset_left bytes edition)
  again : (bytes : List ℕ) (edition : ℕ) → Reached bytes → Reached (reset_left bytes edition)
  read : (bytes : List ℕ) (o : ℕ) → Reached bytes → Reached (read_left bytes o)
  write : (bytes : List ℕ) (o v : ℕ) → Reached bytes → Reached (write_left bytes o v)
  run : (stop : Stop) (bytes ins outs : List ℕ) → Reached bytes → Reached (run_left stop bytes ins outs)
  first : (one two : List ℕ) (n : ℕ) → Reached one → Reached (pair_left one two n).one
  second : (one two : List ℕ) (n : ℕ) → Reached two → Reached (pair_left one two n).two

-- A record reached from reset is sound, and no call on it is refused with 9; nor is a pair run of two of them.
pub record NeverUnsound : Type 0 where
  pub sound : (bytes : List ℕ) → Reached bytes → sound_bytes bytes ≡ true
  pub reads : (bytes : List ℕ) (o : ℕ) → Reached bytes → refusal_of (read_call bytes o) ≡ unsound → ⊥
  pub writes : (bytes : List ℕ) (o v : ℕ) → Reached bytes → write_call bytes o v ≡ unsound → ⊥
  -- with either stop
  pub runs : (bytes ins outs : List ℕ) → Reached bytes → run_refusal bytes ins outs ≡ unsound → ⊥
  pub pairs : (one two : List ℕ) → Reached one → Reached two → pair_refusal one two ≡ unsound → ⊥
