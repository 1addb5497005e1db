-- P1 to P10 as a table of rows, and what it means that a row holds.
use Prim.{Unit}
use Rattle.std.specs.Prelude.{ℕ, zero, suc, ◌/◌, ◌%◌, ◌^◌, ◌≡◌, Bool, List, [], ◌∷◌, map, replicate}
use Rattle.registers.specs.Refusals.{done, Answer, Word, Refused}
use Rattle.frames.specs.Lines.{pins_of, byte_of}
use Rattle.frames.specs.declared.lines.Pins.{Pins}
use Rattle.serial.specs.Cycle.{DeviceModel, reset_device, after, recording}
use Rattle.serial.specs.Access.{read_answer_of, read_device, write_refusal_of, write_device}

-- What a row is made of ------------------------------------------------------------------------------------------------

-- A step of a row, with what it is expected to give.
pub data Step : Type 0 where
  -- offset, value written, refusal number
  Write : ℕ → ℕ → ℕ → Step
  -- offset, answer
  Read : ℕ → Answer → Step
  -- the input byte of every cycle, the number of cycles, the recording: one hexadecimal digit per cycle
  Run : ℕ → ℕ → ℕ → Step
  -- the input byte of every cycle, the number of cycles; their lines are not compared
  Pass : ℕ → ℕ → Step

-- A row: its number, and its steps from reset.
pub data Row : Type 0 where
  P : ℕ → List Step → Row

-- What a step gives.
pub data Outcome : Type 0 where
  refusal : ℕ → Outcome
  answer : Answer → Outcome
  lines : List ℕ → Outcome

-- What it means that a row holds ---------------------------------------------------------------------------------------

-- The n hexadecimal digits of a number, the leading digit first.
unfoldable pub digits : ℕ → ℕ → List ℕ
digits zero x = []
digits (suc n) x = x / 16 ^ n % 16 ∷ digits n x

-- n cycles with the same input byte.
abbrev pub same : ℕ → ℕ → List Pins
same p n = replicate n (pins_of p)

-- The device after a step.
unfoldable pub after_step : DeviceModel → Step → DeviceModel
after_step d (Write o v n) = write_device d o v
after_step d (Read o a) = read_device d o
after_step d (Run p n x) = after d (same p n)
after_step d (Pass p n) = after d (same p n)

-- What the definitions give for a step.
unfoldable pub given : DeviceModel → Step → Outcome
given d (Write o v n) = refusal (write_refusal_of d o v)
given d (Read o a) = answer (read_answer_of d o)
given d (Run p n x) = lines (map byte_of (recording d (same p n)))
given d (Pass p n) = lines []

-- What the row expects of a step.
unfoldable pub expected : Step → Outcome
expected (Write o v n) = refusal n
expected (Read o a) = answer a
expected (Run p n x) = lines (digits n x)
expected (Pass p n) = lines []

-- What the definitions give for each of the steps, one after another.
unfoldable pub given_all : DeviceModel → List Step → List Outcome
given_all d [] = []
given_all d (s ∷ ss) = given d s ∷ given_all (after_step d s) ss

-- What the row expects of each of the steps.
unfoldable pub expected_all : List Step → List Outcome
expected_all [] = []
expected_all (s ∷ ss) = expected s ∷ expected_all ss

-- A row holds: from reset in either edition, its steps give what it expects.
abbrev pub Holds : Row → Type 0
Holds (P k steps) = (edition2 : Bool) → given_all (reset_device edition2) steps ≡ expected_all steps

-- Every row holds.
abbrev pub AllHold : List Row → Type 0
AllHold [] = Unit
AllHold (r ∷ rs) = Holds r × AllHold rs

-- The table ------------------------------------------------------------------------------------------------------------

-- Offset of control register 0.
abbrev pub CR0 : ℕ
CR0 = 0x00

-- Offset of control register 1.
abbrev pub CR1 : ℕ
CR1 = 0x04

-- Offset of the data register.
abbrev pub DR : ℕ
DR = 0x08

-- Offset of the status register.
abbrev pub SR : ℕ
SR = 0x0C

-- Offset of the clock prescaler.
abbrev pub CPSR : ℕ
CPSR = 0x10

-- Offset of the raw interrupts.
abbrev pub RIS : ℕ
RIS = 0x18

-- CR1 of an enabled master: SSE.
abbrev pub enabled : ℕ
enabled = 0x2

-- CR1 of an enabled master in loopback: SSE and LBM.
abbrev pub loopback : ℕ
loopback = 0x3

-- Pins LOW.
abbrev pub low : ℕ
low = 0

-- Words are written to DR, each write done; then more steps.
unfoldable pub words : List ℕ → List Step → List Step
words [] more = more
words (w ∷ ws) more = Write DR w done ∷ words ws more

-- Words are read from DR, and then none is held.
unfoldable pub held : List ℕ → List Step
held [] = Read DR (Refused 8) ∷ []
held (w ∷ ws) = Read DR (Word w) ∷ held ws

-- CR0, CPSR 2 (so h = 1 with SCR 0), the words to send and CR1 are written; then more steps.
unfoldable pub set_up : ℕ → List ℕ → ℕ → List Step → List Step
set_up cr0 ws cr1 more = Write CR0 cr0 done ∷ Write CPSR 2 done ∷ words ws (Write CR1 cr1 done ∷ more)

-- b = 4 is DSS 3. SR 7: RNE, TNF, TFE, and BSY 0; SR F: RFF too. RIS C: TX, RX; RIS D: ROR too.
unfoldable pub table : List Row
table =
    -- P1 Motorola SPH 0, word A; the same with SPO 1, bit 0 flipped
    P 1 (set_up 0x03 (0xA ∷ []) enabled (Run low 12 0x0450145010AA ∷ Read SR (Word 0x7) ∷ []))
    ∷ P 1 (set_up 0x43 (0xA ∷ []) enabled (Run low 12 0x1541054101BB ∷ Read SR (Word 0x7) ∷ []))
    -- P2 SPH 1, word A; the same with SPO 1, bit 0 flipped
    ∷ P 2 (set_up 0x83 (0xA ∷ []) enabled (Run low 12 0x0541054100AA ∷ Read SR (Word 0x7) ∷ []))
    ∷ P 2 (set_up 0xC3 (0xA ∷ []) enabled (Run low 12 0x1450145011BB ∷ Read SR (Word 0x7) ∷ []))
    -- P3 TI, word A
    ∷ P 3 (set_up 0x13 (0xA ∷ []) enabled (Run low 10 0xBA54105410 ∷ Read SR (Word 0x7) ∷ []))
    -- P4 TI, words A, 5
    ∷ P 4 (set_up 0x13 (0xA ∷ 0x5 ∷ []) enabled (Run low 18 0xBA5410543210541054 ∷ Read SR (Word 0x7) ∷ []))
    -- P5 Microwire, control A5
    ∷ P 5 (set_up 0x23 (0xA5 ∷ []) enabled (Run low 29 0x450145010145014589898989898AA ∷ Read SR (Word 0x7) ∷ []))
    -- P6 eight DR writes done, the ninth 7
    ∷ P 6 (words (1 ∷ 2 ∷ 3 ∷ 4 ∷ 5 ∷ 6 ∷ 7 ∷ 8 ∷ []) (Write DR 9 7 ∷ []))
    -- P7 seven held, one arrives: no ROR
    ∷ P 7 (set_up 0x03 (1 ∷ 2 ∷ 3 ∷ 4 ∷ 5 ∷ 6 ∷ 7 ∷ []) loopback (Pass low 84 ∷ Read SR (Word 0x7) ∷ Read RIS (Word 0xC)
    ∷ Write DR 8 done ∷ Pass low 12 ∷ Read SR (Word 0xF) ∷ Read RIS (Word 0xC) ∷ held (1 ∷ 2 ∷ 3 ∷ 4 ∷ 5 ∷ 6 ∷ 7 ∷ 8 ∷ [])))
    -- eight held, one arrives: ROR, and the eight stay
    ∷ P 7 (set_up 0x03 (1 ∷ 2 ∷ 3 ∷ 4 ∷ 5 ∷ 6 ∷ 7 ∷ 8 ∷ []) loopback (Pass low 96 ∷ Read SR (Word 0xF) ∷ Read RIS (Word 0xC)
    ∷ Write DR 9 done ∷ Pass low 12 ∷ Read SR (Word 0xF) ∷ Read RIS (Word 0xD) ∷ held (1 ∷ 2 ∷ 3 ∷ 4 ∷ 5 ∷ 6 ∷ 7 ∷ 8 ∷ [])))
    -- P8 DSS 2: 6; DSS 3: done. CPSR 3 reads 2; CPSR 1 reads 0
    ∷ P 8 (Write CR0 0x02 6 ∷ [])
    ∷ P 8 (Write CR0 0x03 done ∷ [])
    ∷ P 8 (Write CPSR 3 done ∷ Read CPSR (Word 2) ∷ [])
    ∷ P 8 (Write CPSR 1 done ∷ Read CPSR (Word 0) ∷ [])
    -- P9 four words to send: raw TX; five: none
    ∷ P 9 (words (1 ∷ 2 ∷ 3 ∷ 4 ∷ []) (Read RIS (Word 0x8) ∷ []))
    ∷ P 9 (words (1 ∷ 2 ∷ 3 ∷ 4 ∷ 5 ∷ []) (Read RIS (Word 0x0) ∷ []))
    -- P10 offset 0x24 done, 0x28: 2, 0x1000: 1; written and read
    ∷ P 10 (Write 0x24 0 done ∷ Write 0x28 0 2 ∷ Write 0x1000 0 1 ∷ [])
    ∷ P 10 (Read 0x24 (Word 0) ∷ Read 0x28 (Refused 2) ∷ Read 0x1000 (Refused 1) ∷ [])
    ∷ []
