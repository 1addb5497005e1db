-- Writing a text: what is refused, what is answered, and what is left in the lent buffer.
use Rattle.std.specs.Prelude.{ℕ, ◌+◌, ◌≤◌, ◌<◌, ◌≡◌, true, not, List, [], length, ltb, eqb, Result, Ok, Err}
use Rattle.text.specs.Choose.{pick}
use Rattle.text.specs.Refusals.{done, too_many_cycles, bad_cycle, bad_places, too_short, number, first_of}
use Rattle.text.specs.Text.{most_cycles, cycles_fit, places_fit, between, line_of, lines_from, text_of, over}
use Rattle.text.specs.declared.refusals.Refusal.{Refusal}

-- 13, 14, 15, in this order: why a recording cannot be written.
unfoldable pub recording_refusal : List ℕ → List ℕ → ℕ
recording_refusal cs ps =
    pick (ltb most_cycles (length cs)) too_many_cycles
    (pick (not (cycles_fit cs)) bad_cycle
    (pick (not (places_fit 0 (length cs) ps)) bad_places
    done))

-- 13, 14, 15, then 16; nothing else is refused.
unfoldable pub write_refusal : List ℕ → List ℕ → List ℕ → ℕ
write_refusal cs ps buffer = first_of (recording_refusal cs ps) (pick (ltb (length buffer) (length (text_of cs ps))) too_short done)

-- What writing answers: how many bytes were written, or a refusal number.
pub data Written : Type 0 where
  Bytes : ℕ → Written
  Refused : ℕ → Written

-- The answer that a result stands for.
abbrev pub written_of : Result ℕ Refusal → Written
written_of (Ok n) = Bytes n
written_of (Err r) = Refused (number r)

-- An answer as numbers.
pub record WrittenNumbers : Type 0 where
  pub refusal : ℕ
  pub bytes : ℕ

-- Done: how many bytes were written. Refused: the refusal number, and 0.
abbrev pub written_numbers : Written → WrittenNumbers
written_numbers (Bytes n) = record { refusal = done; bytes = n }
written_numbers (Refused r) = record { refusal = r; bytes = 0 }

-- The answer: the length of the text, or the refusal number.
unfoldable pub write_answer : List ℕ → List ℕ → List ℕ → Written
write_answer cs ps buffer = pick (eqb (write_refusal cs ps buffer) done) (Bytes (length (text_of cs ps))) (Refused (write_refusal cs ps buffer))

-- The buffer after writing: the text, and after it what was there before; if refused, all as it was.
unfoldable pub write_left : List ℕ → List ℕ → List ℕ → List ℕ
write_left cs ps buffer = pick (eqb (write_refusal cs ps buffer) done) (over (text_of cs ps) buffer) buffer

-- Writing: its answer, and the buffer after it.
pub record WriteText (cs ps buffer : List ℕ) (r : Written) (buffer' : List ℕ) : Type 0 where
  pub answer : r ≡ write_answer cs ps buffer
  pub left : buffer' ≡ write_left cs ps buffer

-- The parts of the code ------------------------------------------------------------------------------------------------

-- The line of the cycles before the first place, if there are any.
unfoldable pub lead_of : List ℕ → ℕ → List ℕ
lead_of cs end = pick (ltb 0 end) (line_of (between 0 end cs)) []

-- That line fits: there are that many cycles, and the buffer is longer.
pub record Lead (cs : List ℕ) (end : ℕ) (buffer : List ℕ) : Type 0 where
  pub within : end ≤ length cs
  pub room : 0 < end → end < length buffer

-- The lines from each place on fit, if they are written from `at` on.
pub record Lines (cs ps : List ℕ) (at : ℕ) (buffer : List ℕ) : Type 0 where
  pub places : places_fit 0 (length cs) ps ≡ true
  pub room : at + length (lines_from cs ps) ≤ length buffer
