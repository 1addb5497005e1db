-- Writing and reading undo each other: the statements, for the definitions and for the contracts of the two functions.
use Rattle.std.specs.Prelude.{ℕ, ◌*◌, ◌≤◌, ◌≡◌, true, false, List, [], ◌∷◌, ◌++◌, length, take}
use Rattle.text.specs.Refusals.{done, no_line_feed}
use Rattle.text.specs.Text.{character_of, most_cycles, line_starts, text_of, over}
use Rattle.text.specs.Write.{recording_refusal, Written, Bytes, WriteText}
use Rattle.text.specs.Read.{refusal_at, cycles_in, starts_in, text_refusal, Reading, Recording, ReadText}

-- The text of a recording that can be written is read as its cycles and its line starts.
pub record Readable (cs ps : List ℕ) : Type 0 where
  pub accepted : text_refusal (text_of cs ps) ≡ done
  pub cycles : cycles_in (text_of cs ps) ≡ cs
  pub starts : starts_in (text_of cs ps) ≡ line_starts cs ps

-- What is read from a text can be written, with the line starts as places, and gives that text again.
pub record Writable (text : List ℕ) : Type 0 where
  pub accepted : recording_refusal (cycles_in text) (starts_in text) ≡ done
  pub again : text_of (cycles_in text) (starts_in text) ≡ text

-- The two definitions undo each other. Places come back as line starts: 0 comes first if cycles precede the first place.
pub record Inverse : Type 0 where
  pub readable : (cs ps : List ℕ) → recording_refusal cs ps ≡ done → Readable cs ps
  pub writable : (text : List ℕ) → text_refusal text ≡ done → Writable text

-- What reading gives: these cycles and line starts, and after them what the buffers held before.
pub record Gives (cs ss cb sb : List ℕ) (r : Reading) (cb' sb' : List ℕ) : Type 0 where
  pub answer : r ≡ Recording (length cs) (length ss)
  pub cycles : cb' ≡ over cs cb
  pub starts : sb' ≡ over ss sb

-- The two functions undo each other, for buffers that are long enough, whatever they held.
pub record RoundTrip : Type 0 where
  -- what was written is read as the cycles and their line starts
  pub written : (cs ps buffer buffer' : List ℕ) (n : ℕ) → WriteText cs ps buffer (Bytes n) buffer'
      → (cb sb cb' sb' : List ℕ) (r : Reading) → length cs ≤ length cb → length (line_starts cs ps) ≤ length sb
      → ReadText (take n buffer') cb sb r cb' sb' → Gives cs (line_starts cs ps) cb sb r cb' sb'
  -- what was read is written as the text, the line starts as places
  pub read : (text cb sb cb' sb' : List ℕ) (n m : ℕ) → ReadText text cb sb (Recording n m) cb' sb'
      → (buffer buffer' : List ℕ) (r : Written) → length text ≤ length buffer
      → WriteText (take n cb') (take m sb') buffer r buffer' → (r ≡ Bytes (length text)) × (buffer' ≡ over text buffer)

-- The first refused character decides, whatever follows. Before it nothing is refused, except that a line may be unended.
pub record FirstDecides : Type 0 where
  -- after whole lines
  pub ended : (text : List ℕ) (x : ℕ) (more : List ℕ) → text_refusal text ≡ done → (refusal_at (length (cycles_in text)) false (character_of x) ≡ done → ⊥)
      → text_refusal (text ++ (x ∷ more)) ≡ refusal_at (length (cycles_in text)) false (character_of x)
  -- in a line that has begun
  pub begun : (text : List ℕ) (x : ℕ) (more : List ℕ) → text_refusal text ≡ no_line_feed → (refusal_at (length (cycles_in text)) true (character_of x) ≡ done → ⊥)
      → text_refusal (text ++ (x ∷ more)) ≡ refusal_at (length (cycles_in text)) true (character_of x)
  -- so a refusal other than 19 stays
  pub stays : (text more : List ℕ) → (text_refusal text ≡ done → ⊥) → (text_refusal text ≡ no_line_feed → ⊥) → text_refusal (text ++ more) ≡ text_refusal text

-- Places matter only by the line starts that they make.
pub record StartsAsPlaces : Type 0 where
  -- with these as places a recording is refused in the same way
  pub refusal : (cs ps : List ℕ) → recording_refusal cs (line_starts cs ps) ≡ recording_refusal cs ps
  -- and gives the same text
  pub text : (cs ps : List ℕ) → text_of cs (line_starts cs ps) ≡ text_of cs ps
  -- so if there are cycles, no place is the same as one place at cycle 0
  pub none : (c : ℕ) (cs : List ℕ) → line_starts (c ∷ cs) [] ≡ 0 ∷ []

-- How much is always enough: a digit and a line feed for each cycle; as many line starts as cycles.
pub record Enough : Type 0 where
  pub text : (cs ps : List ℕ) → recording_refusal cs ps ≡ done → length (text_of cs ps) ≤ 2 * most_cycles
  pub cycles : (text : List ℕ) → text_refusal text ≡ done → length (cycles_in text) ≤ most_cycles
  pub starts : (text : List ℕ) → text_refusal text ≡ done → length (starts_in text) ≤ most_cycles

-- Worked examples ------------------------------------------------------------------------------------------------------

-- The cycles of P4.
unfoldable pub p4_recording : List ℕ
p4_recording = 11 ∷ 10 ∷ 5 ∷ 4 ∷ 1 ∷ 0 ∷ 5 ∷ 4 ∷ 3 ∷ 2 ∷ 1 ∷ 0 ∷ 5 ∷ 4 ∷ 1 ∷ 0 ∷ 5 ∷ 4 ∷ []

-- The text of P4: BA541054 and 3210541054, each with its line feed.
unfoldable pub p4_text : List ℕ
p4_text = 66 ∷ 65 ∷ 53 ∷ 52 ∷ 49 ∷ 48 ∷ 53 ∷ 52 ∷ 10 ∷ 51 ∷ 50 ∷ 49 ∷ 48 ∷ 53 ∷ 52 ∷ 49 ∷ 48 ∷ 53 ∷ 52 ∷ 10 ∷ []

-- The empty recording and P4, written and read.
pub record Examples : Type 0 where
  -- no cycles, so no place: the empty text, which is read as such
  pub writable : recording_refusal [] [] ≡ done
  pub written : text_of [] [] ≡ []
  pub accepted : text_refusal [] ≡ done
  pub cycles : cycles_in [] ≡ []
  pub starts : starts_in [] ≡ []
  -- P4 with its places 0 and 8
  pub p4_writable : recording_refusal p4_recording (0 ∷ 8 ∷ []) ≡ done
  pub p4_written : text_of p4_recording (0 ∷ 8 ∷ []) ≡ p4_text
  pub p4_accepted : text_refusal p4_text ≡ done
  pub p4_cycles : cycles_in p4_text ≡ p4_recording
  pub p4_starts : starts_in p4_text ≡ 0 ∷ 8 ∷ []
