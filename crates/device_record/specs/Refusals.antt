-- What a call on records is refused with, as a number; 0 means done. An access's own numbers are those of the registers.
use Rattle.std.specs.Prelude.{ℕ, ◌≡◌, ◌≢◌, Result, Ok, Err}
use Rattle.registers.specs.Refusals.{done, Answer, Word, Refused}
use Rattle.registers.specs.Refusals as registers
use Rattle.device_record.specs.declared.refusals.Refusal.{Refusal}
use Rattle.device_record.specs.declared.refusals.Refusal.TheVariants.{Access, Unsound, WrongLength, LinesDiffer, BadInput, NoEdition}

-- the record is unsound
abbrev pub unsound : ℕ
unsound = 9

-- the record is not 128 bytes long
abbrev pub wrong_length : ℕ
wrong_length = 10

-- input and output line buffers differ in length
abbrev pub lines_differ : ℕ
lines_differ = 11

-- an input line byte is above 7
abbrev pub bad_input : ℕ
bad_input = 12

-- no such edition
abbrev pub no_edition : ℕ
no_edition = 20

-- A refusal's number.
abbrev pub number : Refusal → ℕ
number (Access access) = registers.number access
number Unsound = unsound
number WrongLength = wrong_length
number LinesDiffer = lines_differ
number BadInput = bad_input
number NoEdition = no_edition

-- The refusal number of a result, 0 if it is done.
abbrev pub refusal_number : {A : Type 0} → Result A Refusal → ℕ
refusal_number (Ok a) = done
refusal_number (Err refusal) = number refusal

-- The result of a read: its word, or its refusal number.
abbrev pub answer_of : Result ℕ Refusal → Answer
answer_of (Ok word) = Word word
answer_of (Err refusal) = Refused (number refusal)

-- What a check gives: if its number is 0, a value with P; otherwise a refusal with that number.
abbrev pub Checks : {A : Type 0} → ℕ → (A → Type 0) → Result A Refusal → Type 0
Checks n P (Ok a) = (n ≡ done) × P a
Checks n P (Err refusal) = (number refusal ≡ n) × (n ≢ done)
