-- The words in a queue and what each step does to them: first in, first out, at most eight words.
use Rattle.std.specs.Prelude.{ℕ, ◌≤◌, ◌≡◌, Option, Some, None, List, [], ◌∷◌, ◌++◌, length, get_or, take, ltb}
use Rattle.queue.specs.Choose.{pick, words_of}
use Rattle.queue.specs.declared.Queue.{Queue}
pub mod Inside

-- How many words a queue can hold.
abbrev pub places : ℕ
places = 8

-- The words in the queue, oldest first. Opaque: only the laws of Inside open it, for the proofs of this crate.
pub contents : Queue → List ℕ
contents q = take q.count q.words

-- Places after the last word are zero.
pub Clean : Queue → Type 0
Clean q = (i : ℕ) → q.count ≤ i → get_or q.words i 0 ≡ 0

-- The oldest of the words in a queue, if there is one.
abbrev pub oldest : List ℕ → Option ℕ
oldest [] = None
oldest (x ∷ xs) = Some x

-- The words in the queue without the oldest.
abbrev pub rest : List ℕ → List ℕ
rest [] = []
rest (x ∷ xs) = xs

-- The word at place i of the queue: the oldest is at 0, zero comes after the last.
abbrev pub word_at : List ℕ → ℕ → ℕ
word_at xs i = get_or xs i 0

-- A new word goes after the words in the queue, unless these are eight.
unfoldable pub added : List ℕ → ℕ → List ℕ
added xs w = pick (ltb (length xs) places) (xs ++ (w ∷ [])) xs

-- The words that adding drops: the new one if eight are held, otherwise none.
unfoldable pub dropped : List ℕ → ℕ → List ℕ
dropped xs w = pick (ltb (length xs) places) [] (w ∷ [])

-- An empty queue.
pub record Empty (r : Queue) : Type 0 where
  pub holds : contents r ≡ []
  pub clean : Clean r

-- How many words are in the queue, eight at most.
pub record Count (q : Queue) (r : ℕ) : Type 0 where
  pub count : r ≡ length (contents q)
  pub most : r ≤ places

-- A word is added. With eight held it is dropped and handed back instead, and the eight stay.
pub record Add (q : Queue) (w : ℕ) (r : Option ℕ) (after : Queue) : Type 0 where
  pub dropped : words_of r ≡ dropped (contents q) w
  pub holds : contents after ≡ added (contents q) w
  pub clean : Clean q → Clean after

-- The oldest word, if there is one, is taken out; the others stay in their order.
pub record TakeOldest (q : Queue) (r : Option ℕ) (after : Queue) : Type 0 where
  pub word : r ≡ oldest (contents q)
  pub holds : contents after ≡ rest (contents q)
  pub clean : Clean q → Clean after

-- The queue holds the first `count` of the given words; its other places are zero.
pub record Restored (words : List ℕ) (count : ℕ) (r : Queue) : Type 0 where
  pub holds : contents r ≡ take count words
  pub clean : Clean r
