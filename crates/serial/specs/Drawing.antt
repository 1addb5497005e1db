-- The drawing of a load: the lines that a master shows for the words in its transmit queue, slot by slot.
use Rattle.std.specs.Prelude.{ℕ, zero, suc, ◌+◌, ◌-◌, ◌*◌, Bool, true, false, List, [], ◌∷◌, ◌++◌, replicate}
use Rattle.registers.specs.Choose.{pick}
use Rattle.registers.specs.Time.{slots}
use Rattle.registers.specs.declared.time.Slots.{Slots}
use Rattle.registers.specs.declared.settings.Format.{Format}
use Rattle.registers.specs.declared.settings.Format.TheVariants.{Motorola, Ti, Microwire, Reserved}
use Rattle.registers.specs.declared.settings.Settings.{Settings}
use Rattle.frames.specs.Bits.{bit_of}
use Rattle.frames.specs.Lines.{idle_on, clock_on}
use Rattle.frames.specs.declared.lines.Lines.{Lines}

-- The slots for n words in the transmit queue, idle slots included: n(2b+4) in Motorola with SPH 0, 2bn+4 with SPH 1, 2bn+2 in
-- TI, n(2b+18)+3 in Microwire.
abbrev pub total_on : Format → Bool → ℕ → ℕ → ℕ
total_on Motorola phase b n = pick phase (2 * b * n + 4) (n * (2 * b + 4))
total_on Ti phase b n = 2 * b * n + 2
total_on Microwire phase b n = n * (2 * b + 18) + 3
total_on Reserved phase b n = 0

-- The slot total with these settings; 0 for no words.
unfoldable pub slot_total : Settings → ℕ → Slots
slot_total s zero = slots 0
slot_total s (suc n) = slots (total_on s.format s.phase s.bits (suc n))

-- Lines in a frame: FSS and nSSPOE LOW. `clk` is CLK before SPO inverts it.
abbrev pub low : Settings → Bool → Bool → Lines
low s clk txd = record { clk = clock_on s.format s.polarity clk; fss = false; txd = txd; released = false }

-- The idle lines of a master.
abbrev pub idle : Settings → Lines
idle s = idle_on s.format s.polarity

-- n bits of a word from bit i on. Each has two slots: `first`, then `second`.
abbrev pub bit_lines : (Bool → Lines) → (Bool → Lines) → ℕ → ℕ → ℕ → ℕ → List Lines
bit_lines first second width w i zero = []
bit_lines first second width w i (suc n) = first (bit_of width w i) ∷ second (bit_of width w i) ∷ bit_lines first second width w (i + 1) n

-- Motorola, SPH 0, one word. Slot 0: TXD LOW. 1 + 2i: bit i, CLK idle. 2 + 2i: CLK active.
-- 2b + 1: CLK idle, the last bit stays. Two idle slots follow.
abbrev pub frame0 : Settings → ℕ → List Lines
frame0 s w =
    low s false false
    ∷ (bit_lines (low s false) (low s true) s.bits w 0 s.bits ++ (low s false (bit_of s.bits w (s.bits - 1)) ∷ idle s ∷ idle s ∷ []))

-- Each word in the queue has a frame of its own.
abbrev pub frames0 : Settings → List ℕ → List Lines
frames0 s [] = []
frames0 s (w ∷ ws) = frame0 s w ++ frames0 s ws

-- Motorola, SPH 1. 1 + 2i: bit i, CLK active. 2 + 2i: CLK idle. 2b + 1 is slot 1 of the next word; after the last word TXD
-- holds there, and two idle slots follow.
abbrev pub chain1 : Settings → ℕ → List ℕ → List Lines
chain1 s w [] =
    bit_lines (low s true) (low s false) s.bits w 0 s.bits ++ (low s false (bit_of s.bits w (s.bits - 1)) ∷ idle s ∷ idle s ∷ [])
chain1 s w (u ∷ ws) = bit_lines (low s true) (low s false) s.bits w 0 s.bits ++ chain1 s u ws

-- Slot 0 comes once, before the first word.
abbrev pub frames1 : Settings → List ℕ → List Lines
frames1 s [] = []
frames1 s (w ∷ ws) = low s false false ∷ chain1 s w ws

-- TI's slots 0 and 1 of the first word: FSS HIGH, TXD LOW, nSSPOE HIGH.
abbrev pub marked : Bool → Lines
marked clk = record { clk = clk; fss = true; txd = false; released = true }

-- TI's slots 0 and 1 of a word joined to the one before, whose last bit is still on TXD.
abbrev pub held : Bool → Bool → Lines
held clk txd = record { clk = clk; fss = true; txd = txd; released = false }

-- TI. 2 + 2i: bit i, CLK HIGH. 3 + 2i: CLK LOW. 2b, 2b + 1: the last bit; FSS is HIGH there if another word follows.
abbrev pub joined : Settings → ℕ → List ℕ → List Lines
joined s w [] =
    bit_lines (low s true) (low s false) s.bits w 0 (s.bits - 1)
    ++ (low s true (bit_of s.bits w (s.bits - 1)) ∷ low s false (bit_of s.bits w (s.bits - 1)) ∷ [])
joined s w (u ∷ ws) =
    bit_lines (low s true) (low s false) s.bits w 0 (s.bits - 1)
    ++ (held true (bit_of s.bits w (s.bits - 1)) ∷ held false (bit_of s.bits w (s.bits - 1)) ∷ joined s u ws)

-- The first word has slots 0 and 1 of its own; every other word is joined to the one before.
abbrev pub frames_ti : Settings → List ℕ → List Lines
frames_ti s [] = []
frames_ti s (w ∷ ws) = marked true ∷ marked false ∷ joined s w ws

-- Microwire after the control bits: FSS and TXD LOW, nSSPOE HIGH.
abbrev pub quiet : Bool → Lines
quiet clk = record { clk = clk; fss = false; txd = false; released = true }

-- n times two such slots: CLK LOW, then HIGH.
abbrev pub quiets : ℕ → List Lines
quiets zero = []
quiets (suc n) = quiet false ∷ quiet true ∷ quiets n

-- Microwire. 2i, 2i + 1: control bit i, CLK LOW then HIGH. 16, 17: the wait. 18 to 17 + 2b: b data bits.
-- 18 + 2b is slot 0 of the next word; after the last word CLK is LOW there, and two idle slots follow.
abbrev pub chain_m : Settings → List ℕ → List Lines
chain_m s [] = quiet false ∷ idle s ∷ idle s ∷ []
chain_m s (w ∷ ws) = bit_lines (low s false) (low s true) 8 w 0 8 ++ (quiets (s.bits + 1) ++ chain_m s ws)

-- Microwire, the whole load. With no words there is no slot, not even an idle one.
abbrev pub frames_m : Settings → List ℕ → List Lines
frames_m s [] = []
frames_m s (w ∷ ws) = chain_m s (w ∷ ws)

-- The lines of a load in each format, one entry per slot, idle slots included.
abbrev pub drawing_on : Format → Bool → Settings → List ℕ → List Lines
drawing_on Motorola phase s ws = pick phase (frames1 s ws) (frames0 s ws)
drawing_on Ti phase s ws = frames_ti s ws
drawing_on Microwire phase s ws = frames_m s ws
drawing_on Reserved phase s ws = []

-- The drawing of the words in a transmit queue with these settings, one entry per slot.
unfoldable pub drawing : Settings → List ℕ → List Lines
drawing s ws = drawing_on s.format s.phase s ws

-- Every entry h times: a slot is h cycles.
abbrev pub stretch : ℕ → List Lines → List Lines
stretch h [] = []
stretch h (l ∷ ls) = replicate h l ++ stretch h ls
