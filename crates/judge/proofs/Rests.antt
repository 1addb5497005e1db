-- What a recording still shows from a place on, by the table, for a word and those after it.
use Prim.Native.Nat.{ℕ, zero, suc, ◌+◌, ◌-◌, ◌≤◌, ◌<◌}
use mathlib.Core.Path.{◌≡◌}
use mathlib.Core.Bool.{Bool, true, false, ◌&&◌}
use mathlib.Core.List.{List, [], ◌∷◌, ◌++◌}
use lib.Dec.{eqb}
use Rattle.frames.specs.Bits.{bit_of}
use Rattle.judge.specs.Place.{lead_byte, bit_byte, end_byte, wait_byte}
use Rattle.judge.specs.declared.place.Table.{Table}

-- a stage's slots, counted down
abbrev pub down : (ℕ → ℕ) → ℕ → List ℕ
down f zero = []
down f (suc n) = f (suc n) ∷ down f n

abbrev pub some : List ℕ → Bool
some [] = false
some (w ∷ ws) = true

-- FSS with a bit, n of the word's bits being left after it; m: another word follows
abbrev pub mark_at : Table → Bool → ℕ → Bool
mark_at t m n = (t.marks && eqb n 0) && m

-- n bits of a word from bit i on
abbrev pub bits_from : Table → Bool → ℕ → ℕ → ℕ → List ℕ
bits_from t m w i zero = []
bits_from t m w i (suc n) =
    bit_byte t.first (mark_at t m n) (bit_of t.width w i)
    ∷ bit_byte t.second (mark_at t m n) (bit_of t.width w i)
    ∷ bits_from t m w (i + 1) n

-- a word's last bit
abbrev pub last_of : Table → ℕ → Bool
last_of t w = bit_of t.width w (t.width - 1)

-- after the last bit d of a word
abbrev pub waited : Table → Bool → List ℕ
waited t d = down (wait_byte t d) t.waits

-- at the end of a word with last bit d: the further words, or the last slots
abbrev pub after_word : Table → Bool → List ℕ → List ℕ
after_word t d [] = down (end_byte t d) t.closes
after_word t d (u ∷ us) = down (lead_byte t) t.again ++ (bits_from t (some us) u 0 t.width ++ (waited t (last_of t u) ++ after_word t (last_of t u) us))

-- after the bits of a word
abbrev pub behind : Table → ℕ → List ℕ → List ℕ
behind t w ws = waited t (last_of t w) ++ after_word t (last_of t w) ws

-- a word and those after it, from its first bit on
abbrev pub word_from : Table → ℕ → List ℕ → List ℕ
word_from t w ws = bits_from t (some ws) w 0 t.width ++ behind t w ws

-- a whole recording, one byte a slot
abbrev pub whole : Table → ℕ → List ℕ → List ℕ
whole t w ws = down (lead_byte t) t.leads ++ word_from t w ws

-- What the way through a recording asks of a table.
pub record Good (t : Table) : Type 0 where
  pub least : 2 ≤ t.width
  pub most : t.width ≤ 16
  -- a bit's slots show CLK, FSS and TXD alone
  pub first : t.first < 2
  pub second : t.second < 2
  -- a format that marks further words has only its bits
  pub marked_waits : t.marks ≡ true → t.waits ≡ 0
  pub marked_closes : t.marks ≡ true → t.closes ≡ 0
  pub marked_again : t.marks ≡ true → t.again ≡ 0
  -- where last slots follow, another word starts with its first bit, which does not look like them
  pub closing_again : (n : ℕ) → t.closes ≡ suc n → t.again ≡ 0
  pub closing_apart : (n : ℕ) → t.closes ≡ suc n → (c d : Bool) → eqb (bit_byte t.first false c) (end_byte t d t.closes) ≡ false
