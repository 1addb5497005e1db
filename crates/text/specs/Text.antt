-- What a text is: one line per frame, one capital hexadecimal digit per cycle, a line feed at the end of each line.
use Rattle.std.specs.Prelude.{ℕ, ◌+◌, ◌-◌, ◌^◌, ◌<◌, ◌≡◌, Bool, true, false, ◌&&◌, List, [], ◌∷◌, ◌++◌, map, length, take, drop, ltb, leb, eqb}
use Rattle.std.proofs.Math.Seq.{paste}
use Rattle.text.specs.Choose.{pick}
use Rattle.text.specs.declared.characters.Character.{Character}
use Rattle.text.specs.declared.characters.Character.TheVariants.{Digit, LineFeed, Other}

-- Characters -----------------------------------------------------------------------------------------------------------

-- The byte of a line feed.
abbrev pub line_feed : ℕ
line_feed = 10

-- The digit of a cycle: 0 to 9 are the bytes 48 to 57, A to F are 65 to 70. A cycle above 15 has none.
unfoldable pub digit_of : ℕ → ℕ
digit_of c = pick (ltb c 10) (c + 48) (pick (ltb c 16) (c + 55) 0)

-- What a byte of a text is: a digit with its cycle, a line feed, or another character.
unfoldable pub character_of : ℕ → Character
character_of x =
    pick (eqb x line_feed) LineFeed
    (pick (leb 48 x && leb x 57) (Digit (x - 48))
    (pick (leb 65 x && leb x 70) (Digit (x - 55))
    Other))

-- Whether a character is a digit.
abbrev pub is_digit : Character → Bool
is_digit (Digit d) = true
is_digit LineFeed = false
is_digit Other = false

-- A recording ----------------------------------------------------------------------------------------------------------

-- How many cycles fit into a text.
abbrev pub most_cycles : ℕ
most_cycles = 4096

-- A cycle is four levels: every one is at most 15.
unfoldable pub cycles_fit : List ℕ → Bool
cycles_fit [] = true
cycles_fit (c ∷ cs) = leb c 15 && cycles_fit cs

-- Places rise: the first is at least `low`, each is above the one before it and below the number of cycles.
unfoldable pub places_fit : ℕ → ℕ → List ℕ → Bool
places_fit low n [] = true
places_fit low n (p ∷ ps) = (leb low p && ltb p n) && places_fit (p + 1) n ps

-- Lines ----------------------------------------------------------------------------------------------------------------

-- Cycles as a line.
unfoldable pub line_of : List ℕ → List ℕ
line_of cs = map digit_of cs ++ (line_feed ∷ [])

-- Where a line ends: before the next place, or after the last cycle.
abbrev pub line_end : ℕ → List ℕ → ℕ
line_end n [] = n
line_end n (p ∷ ps) = p

-- A line starts at each place. Cycles before the first place are a line of their own, and so are all cycles if there is none.
unfoldable pub line_starts : List ℕ → List ℕ → List ℕ
line_starts cs ps = pick (ltb 0 (line_end (length cs) ps)) (0 ∷ ps) ps

-- The cycles from s on, up to the one before t.
abbrev pub between : ℕ → ℕ → List ℕ → List ℕ
between s t cs = take (t - s) (drop s cs)

-- The lines that start at these cycles, each with all cycles up to the next start.
unfoldable pub lines_from : List ℕ → List ℕ → List ℕ
lines_from cs [] = []
lines_from cs (s ∷ ss) = line_of (between s (line_end (length cs) ss) cs) ++ lines_from cs ss

-- The text of a recording, given the places where words were taken.
unfoldable pub text_of : List ℕ → List ℕ → List ℕ
text_of cs ps = lines_from cs (line_starts cs ps)

-- Lent buffers ---------------------------------------------------------------------------------------------------------

-- A buffer with a part written at its start; what lies after the part stays.
unfoldable pub over : List ℕ → List ℕ → List ℕ
over part before = part ++ drop (length part) before

-- Whatever a closure answers at a byte is what f gives.
abbrev pub Computes : (ℕ → ℕ → Type 0) → (ℕ → ℕ) → Type 0
Computes post f = (x y : ℕ) → x < 2 ^ 8 → post x y → y ≡ f x

-- A part was written from `at` on, and what lies around it stays; `behind` is the place after the part.
pub record Put (before : List ℕ) (at : ℕ) (part : List ℕ) (behind : ℕ) (after : List ℕ) : Type 0 where
  pub next : behind ≡ at + length part
  pub put : after ≡ paste before at part (length part)
