-- What the C calls return: answers as numbers. The rules are those of the crates below.
use Rattle.std.specs.Prelude.{ℕ, ◌≡◌, List, length}
use Rattle.registers.specs.Choose.{pick}
use Rattle.registers.specs.Refusals.{refusal_of, word_of}
use Rattle.device_record.specs.Run.{losses_of, run_refusal}
use Rattle.device_record.specs.Calls.{read_call, read_left, RunAnswer, run_count, run_lost, run_left, run_output, pair_refusal, pair_call_lost, pair_left}
use Rattle.device_record.specs.declared.run.Stop.{Stop}
use Rattle.text.specs.Write.{written_numbers, write_answer, write_left}
use Rattle.text.specs.Read.{cycles_in, starts_in, read_refusal, reading_numbers, read_answer, read_into}
use Rattle.judge.specs.Shared.{shared, second_longer, difference}
use Rattle.judge.specs.Judge.{Verdict, Judged, verdict_numbers}
use Rattle.pl022.specs.declared.WordResult.{WordResult}
use Rattle.pl022.specs.declared.CountResult.{CountResult}
use Rattle.pl022.specs.declared.TextResult.{TextResult}
use Rattle.pl022.specs.declared.LostResult.{LostResult}
use Rattle.pl022.specs.declared.RanResult.{RanResult}
use Rattle.pl022.specs.declared.PairRanResult.{PairRanResult}
use Rattle.pl022.specs.declared.PartResult.{PartResult}

-- A read: a word with refusal 0, or a refusal number with word 0.
pub record ReadResult (bytes : List ℕ) (o : ℕ) (r : WordResult) (bytes' : List ℕ) : Type 0 where
  pub refusal : r.refusal ≡ refusal_of (read_call bytes o)
  pub word : r.word ≡ word_of (read_call bytes o)
  pub left : bytes' ≡ read_left bytes o

-- Words lost to overrun: how many, and the last of them, 0 if none.
abbrev pub lost_numbers : List ℕ → LostResult
lost_numbers ws = record { count = (losses_of ws).count; last = (losses_of ws).last }

-- A run with either stop: the number of cycles, the words lost, and the record after it. The lines of each cycle are in its
-- place of the output, whose other bytes stay.
pub record RunResult (stop : Stop) (bytes ins outs : List ℕ) (r : RanResult) (bytes' outs' : List ℕ) : Type 0 where
  pub refusal : r.refusal ≡ run_refusal bytes ins outs
  pub count : r.count ≡ run_count stop bytes ins outs
  pub lost : r.lost ≡ lost_numbers (run_lost stop bytes ins outs)
  pub left : bytes' ≡ run_left stop bytes ins outs
  pub output : outs' ≡ run_output stop bytes ins outs

-- A run's answer as numbers.
abbrev pub ran_numbers : RunAnswer → RanResult
ran_numbers a = record { refusal = a.refusal; count = a.count; lost = record { count = a.lost.count; last = a.lost.last } }

-- A pair run: both records after n cycles, and how many words each device lost in them, with the last one.
pub record PairResult (one two : List ℕ) (n : ℕ) (r : PairRanResult) (one' two' : List ℕ) : Type 0 where
  pub refusal : r.refusal ≡ pair_refusal one two
  pub first_lost : r.first ≡ lost_numbers (pair_call_lost one two n)
  pub second_lost : r.second ≡ lost_numbers (pair_call_lost two one n)
  pub first_left : one' ≡ (pair_left one two n).one
  pub second_left : two' ≡ (pair_left one two n).two

-- Writing a text: how many bytes were written; the bytes after them stay.
pub record WriteTextResult (cs ps buffer : List ℕ) (r : CountResult) (buffer' : List ℕ) : Type 0 where
  pub refusal : r.refusal ≡ (written_numbers (write_answer cs ps buffer)).refusal
  pub count : r.count ≡ (written_numbers (write_answer cs ps buffer)).bytes
  pub left : buffer' ≡ write_left cs ps buffer

-- Reading a text into a buffer for the cycles, cb, and one for the line starts, sb; what lies after them stays.
pub record ReadTextResult (text cb sb : List ℕ) (r : TextResult) (cb' sb' : List ℕ) : Type 0 where
  pub refusal : r.refusal ≡ (reading_numbers (read_answer text cb sb)).refusal
  pub cycles : r.cycles ≡ (reading_numbers (read_answer text cb sb)).cycles
  pub starts : r.starts ≡ (reading_numbers (read_answer text cb sb)).starts
  pub cycles_left : cb' ≡ read_into (read_refusal text cb sb) (cycles_in text) cb
  pub starts_left : sb' ≡ read_into (read_refusal text cb sb) (starts_in text) sb

-- Judging a recording: the numbers of the verdict, and the eight places after it.
pub record JudgeResult (cr0 cpsr : ℕ) (recording words : List ℕ) (r : CountResult) (words' : List ℕ) : Type 0 where
  pub verdict : Verdict
  pub judged : Judged cr0 cpsr recording words verdict words'
  pub refusal : r.refusal ≡ (verdict_numbers verdict).refusal
  pub count : r.count ≡ (verdict_numbers verdict).count

-- The difference of two recordings: which one it is a part of, where it starts there, and how long it is.
pub record DifferenceResult (one two : List ℕ) (r : PartResult) : Type 0 where
  pub which : r.second ≡ pick (second_longer one two) 1 0
  pub start : r.start ≡ shared one two
  pub long : r.length ≡ length (difference one two)
