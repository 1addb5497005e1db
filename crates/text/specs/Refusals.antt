-- The refusal numbers of writing and reading a text; 0 means done.
use Rattle.std.specs.Prelude.{ℕ, eqb, Result, Ok, Err}
use Rattle.text.specs.Choose.{pick}
use Rattle.text.specs.declared.refusals.Refusal.{Refusal}
use Rattle.text.specs.declared.refusals.Refusal.TheVariants.{TooManyCycles, BadCycle, BadPlaces, TooShort, BadCharacter, EmptyLine, NoLineFeed}

-- nothing is refused
abbrev pub done : ℕ
done = 0

-- more than 4,096 cycles
abbrev pub too_many_cycles : ℕ
too_many_cycles = 13

-- writing: a cycle above 15
abbrev pub bad_cycle : ℕ
bad_cycle = 14

-- writing: places do not rise, or lie after the last cycle
abbrev pub bad_places : ℕ
bad_places = 15

-- a lent buffer is shorter than what goes into it
abbrev pub too_short : ℕ
too_short = 16

-- reading: neither a digit nor a line feed
abbrev pub bad_character : ℕ
bad_character = 17

-- reading: a line without a digit
abbrev pub empty_line : ℕ
empty_line = 18

-- reading: the last line feed is missing
abbrev pub no_line_feed : ℕ
no_line_feed = 19

-- The number of a refusal.
abbrev pub number : Refusal → ℕ
number TooManyCycles = too_many_cycles
number BadCycle = bad_cycle
number BadPlaces = bad_places
number TooShort = too_short
number BadCharacter = bad_character
number EmptyLine = empty_line
number NoLineFeed = no_line_feed

-- The refusal number of a result, 0 if nothing is refused.
abbrev pub refusal_number : {A : Type 0} → Result A Refusal → ℕ
refusal_number (Ok a) = done
refusal_number (Err r) = number r

-- The first refusal of two that applies.
abbrev pub first_of : ℕ → ℕ → ℕ
first_of a b = pick (eqb a done) b a
