-- Reading a text: what it contains, where it is refused, what is answered, and what is left in the lent buffers.
use Rattle.std.specs.Prelude.{ℕ, ◌+◌, ◌*◌, ◌%◌, ◌≤◌, ◌≡◌, Bool, false, ◌||◌, List, [], ◌∷◌, ◌++◌, length, ltb, leb, eqb, Result, Ok, Err}
use Rattle.std.specs.List.{prefix_len}
use mir.Val.{bool_byte}
use Rattle.text.specs.Choose.{pick}
use Rattle.text.specs.Refusals.{done, too_many_cycles, too_short, bad_character, empty_line, no_line_feed, number, first_of}
use Rattle.text.specs.Text.{most_cycles, character_of, is_digit, over}
use Rattle.text.specs.declared.characters.Character.{Character}
use Rattle.text.specs.declared.characters.Character.TheVariants.{Digit, LineFeed, Other}
use Rattle.text.specs.declared.refusals.Refusal.{Refusal}
use Rattle.text.specs.declared.read.Counts.{Counts}

-- At one character -----------------------------------------------------------------------------------------------------
-- n cycles come before it; `begun` says whether its line has a digit already.

-- A digit gives one cycle, any other character none.
abbrev pub cycle_at : Character → List ℕ
cycle_at (Digit d) = d ∷ []
cycle_at LineFeed = []
cycle_at Other = []

-- A line starts with its first digit.
abbrev pub start_at : ℕ → Bool → Character → List ℕ
start_at n begun (Digit d) = pick begun [] (n ∷ [])
start_at n begun LineFeed = []
start_at n begun Other = []

-- 13 at a digit with 4,096 before it; 18 at a line feed in a line without a digit; 17 at any other character.
abbrev pub refusal_at : ℕ → Bool → Character → ℕ
refusal_at n begun (Digit d) = pick (ltb n most_cycles) done too_many_cycles
refusal_at n begun LineFeed = pick begun done empty_line
refusal_at n begun Other = bad_character

-- 19 at the end, if a line has begun and is not ended.
abbrev pub refusal_at_end : Bool → ℕ
refusal_at_end begun = pick begun no_line_feed done

-- From left to right ---------------------------------------------------------------------------------------------------

-- The cycles of a text.
unfoldable pub cycles_in : List ℕ → List ℕ
cycles_in [] = []
cycles_in (x ∷ xs) = cycle_at (character_of x) ++ cycles_in xs

-- The line starts of a text, from some character on.
unfoldable pub starts_from : ℕ → Bool → List ℕ → List ℕ
starts_from n begun [] = []
starts_from n begun (x ∷ xs) = start_at n begun (character_of x) ++ starts_from (n + length (cycle_at (character_of x))) (is_digit (character_of x)) xs

-- The refusal of a text, from some character on: the first character that is refused decides.
unfoldable pub refusal_from : ℕ → Bool → List ℕ → ℕ
refusal_from n begun [] = refusal_at_end begun
refusal_from n begun (x ∷ xs) = first_of (refusal_at n begun (character_of x)) (refusal_from (n + length (cycle_at (character_of x))) (is_digit (character_of x)) xs)

-- The line starts of a text.
abbrev pub starts_in : List ℕ → List ℕ
starts_in text = starts_from 0 false text

-- The refusal of a text: 17, 18 or 13 at the first character that is refused, otherwise 19 at the end; 0 if there is none.
abbrev pub text_refusal : List ℕ → ℕ
text_refusal text = refusal_from 0 false text

-- Answers --------------------------------------------------------------------------------------------------------------

-- cb and sb are the lent buffers for cycles and line starts.

-- 17, 18, 13 or 19 from the text, then 16 if a lent buffer is shorter than what goes into it; nothing else is refused.
unfoldable pub read_refusal : List ℕ → List ℕ → List ℕ → ℕ
read_refusal text cb sb =
    first_of (text_refusal text)
    (pick (ltb (length cb) (length (cycles_in text)) || ltb (length sb) (length (starts_in text))) too_short done)

-- What reading answers: how many cycles and line starts there are, or a refusal number.
pub data Reading : Type 0 where
  Recording : ℕ → ℕ → Reading
  Refused : ℕ → Reading

-- The answer that a result stands for.
abbrev pub reading_of : Result Counts Refusal → Reading
reading_of (Ok c) = Recording c.cycles c.starts
reading_of (Err r) = Refused (number r)

-- An answer as numbers.
pub record ReadingNumbers : Type 0 where
  pub refusal : ℕ
  pub cycles : ℕ
  pub starts : ℕ

-- Done: how many cycles and line starts were written. Refused: the refusal number, and 0 for both.
abbrev pub reading_numbers : Reading → ReadingNumbers
reading_numbers (Recording n m) = record { refusal = done; cycles = n; starts = m }
reading_numbers (Refused r) = record { refusal = r; cycles = 0; starts = 0 }

-- The answer: how many cycles and line starts, or the refusal number.
unfoldable pub read_answer : List ℕ → List ℕ → List ℕ → Reading
read_answer text cb sb =
    pick (eqb (read_refusal text cb sb) done) (Recording (length (cycles_in text)) (length (starts_in text))) (Refused (read_refusal text cb sb))

-- A buffer after reading: what was read, and after it what was there before; if refused, all as it was.
abbrev pub read_into : ℕ → List ℕ → List ℕ → List ℕ
read_into refusal part buffer = pick (eqb refusal done) (over part buffer) buffer

-- Reading: its answer, and both buffers after it.
pub record ReadText (text cb sb : List ℕ) (r : Reading) (cb' sb' : List ℕ) : Type 0 where
  pub answer : r ≡ read_answer text cb sb
  pub cycles : cb' ≡ read_into (read_refusal text cb sb) (cycles_in text) cb
  pub starts : sb' ≡ read_into (read_refusal text cb sb) (starts_in text) sb

-- The parts of the code ------------------------------------------------------------------------------------------------

-- The cycle of a digit by arithmetic: 48 and 64 are multiples of 16. For any other byte the value means nothing.
unfoldable pub value_of : ℕ → ℕ
value_of x = x % 16 + 9 * bool_byte (leb 65 x)

-- For a digit this value is its cycle.
unfoldable pub DigitValue : Type 0
DigitValue = (x d : ℕ) → character_of x ≡ Digit d → value_of x ≡ d

-- How many digits the bytes begin with.
abbrev pub digit_run : List ℕ → ℕ
digit_run bytes = prefix_len (λ x. is_digit (character_of x)) bytes

-- A text is checked: its refusal, and how many cycles and line starts it has, 0 if it is refused.
pub record Check (text : List ℕ) (r : ReadingNumbers) : Type 0 where
  pub refusal : r.refusal ≡ text_refusal text
  pub cycles : r.cycles ≡ pick (eqb (text_refusal text) done) (length (cycles_in text)) 0
  pub starts : r.starts ≡ pick (eqb (text_refusal text) done) (length (starts_in text)) 0

-- A text is accepted, and the buffers have room for it.
pub record Room (text cb sb : List ℕ) : Type 0 where
  pub accepted : text_refusal text ≡ done
  pub cycles : length (cycles_in text) ≤ length cb
  pub starts : length (starts_in text) ≤ length sb

-- Both buffers are filled.
pub record Fill (text cb sb cb' sb' : List ℕ) : Type 0 where
  pub cycles : cb' ≡ over (cycles_in text) cb
  pub starts : sb' ≡ over (starts_in text) sb
