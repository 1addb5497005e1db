-- The refusal numbers that a register access can give, in the order in which they are checked; 0 means done.
use Rattle.std.specs.Prelude.{ℕ, eqb, Result, Ok, Err}
use Rattle.registers.specs.Choose.{pick}
use Rattle.registers.specs.declared.refusals.Refusal.{Refusal}
use Rattle.registers.specs.declared.refusals.Refusal.TheVariants.{BadOffset, ReservedOffset, WrongAccess, ExtraBits, EngineActive, NotPermitted, QueueFull, QueueEmpty}

-- nothing is refused
abbrev pub done : ℕ
done = 0

-- offset not a multiple of 4, or 0x1000 and up
abbrev pub bad_offset : ℕ
bad_offset = 1

-- reserved offset
abbrev pub reserved_offset : ℕ
reserved_offset = 2

-- write to a read-only register, read of a write-only one
abbrev pub wrong_access : ℕ
wrong_access = 3

-- a bit set outside those that may be written
abbrev pub extra_bits : ℕ
extra_bits = 4

-- not allowed while the device is active
abbrev pub engine_active : ℕ
engine_active = 5

-- CR0 not permitted, or SSE set before CR0 and CPSR are set up
abbrev pub not_permitted : ℕ
not_permitted = 6

-- the transmit queue has eight words already
abbrev pub queue_full : ℕ
queue_full = 7

-- the receive queue has no word
abbrev pub queue_empty : ℕ
queue_empty = 8

-- The first refusal of two that applies.
abbrev pub first_of : ℕ → ℕ → ℕ
first_of a b = pick (eqb a done) b a

-- The number of a refusal.
abbrev pub number : Refusal → ℕ
number BadOffset = bad_offset
number ReservedOffset = reserved_offset
number WrongAccess = wrong_access
number ExtraBits = extra_bits
number EngineActive = engine_active
number NotPermitted = not_permitted
number QueueFull = queue_full
number QueueEmpty = queue_empty

-- The refusal number of a result: 0 where it is done.
abbrev pub refusal_number : {A : Type 0} → Result A Refusal → ℕ
refusal_number (Ok x) = done
refusal_number (Err e) = number e

-- What a read answers: a word, or a refusal number.
pub data Answer : Type 0 where
  Word : ℕ → Answer
  Refused : ℕ → Answer

-- The answer that a read's result is.
abbrev pub answer_of : Result ℕ Refusal → Answer
answer_of (Ok w) = Word w
answer_of (Err e) = Refused (number e)

-- An answer's refusal number.
abbrev pub refusal_of : Answer → ℕ
refusal_of (Word w) = done
refusal_of (Refused n) = n

-- An answer's word, 0 where it was refused.
abbrev pub word_of : Answer → ℕ
word_of (Word w) = w
word_of (Refused n) = 0
