-- The slot tables: what a master does in a slot's first cycle, and the levels that it shows in that slot.
use Rattle.std.specs.Prelude.{ℕ, ◌+◌, ◌-◌, ◌*◌, ◌/◌, ◌%◌, Bool, true, false, not, ◌&&◌, ltb, leb, eqb}
use Rattle.registers.specs.Choose.{pick}
use Rattle.registers.specs.Time.{slots}
use Rattle.registers.specs.declared.time.Slots.{Slots}
use Rattle.registers.specs.declared.settings.Format.{Format}
use Rattle.registers.specs.declared.settings.Format.TheVariants.{Motorola, Ti, Microwire, Reserved}
use Rattle.registers.specs.declared.settings.Settings.{Settings}
use Rattle.frames.specs.declared.slots.Event.{Event}
use Rattle.frames.specs.declared.slots.Event.TheVariants.{Begin, BeginDrive, Drive, First, Capture, Chain, JoinDrive, JoinCapture, Quiet, Release, Pause}
use Rattle.frames.specs.declared.slots.Levels.{Levels}

-- Motorola. 0: word taken. 1 + 2i: bit i on TXD. 2 + 2i: bit i captured.
-- 2b + 1: with SPH 1 a waiting word is taken, and this is its slot 1; otherwise the last bit stays.
-- 2b + 2: frame over. 2b + 3: a second idle slot.
unfoldable pub motorola_event : Bool → ℕ → ℕ → Event
motorola_event phase b n =
    pick (eqb n 0) Begin
    (pick (leb n (2 * b)) (pick (eqb (n % 2) 1) (Drive (n / 2)) Capture)
    (pick (eqb n (2 * b + 1)) (pick phase (Chain (slots 1)) Pause)
    (pick (eqb n (2 * b + 2)) Release Pause)))

-- TI. 0: word taken. 2 + 2i: bit i on TXD. 3 + 2i: bit i captured.
-- 2b: the last bit goes on TXD. A waiting word is taken, and 2b, 2b + 1 are its slots 0 and 1; the old word's last capture
-- is then in slot 1.
unfoldable pub ti_event : ℕ → ℕ → Event
ti_event b n =
    pick (eqb n 0) Begin
    (pick (eqb n 1) JoinCapture
    (pick (eqb n 2) First
    (pick (eqb n (2 * b)) (JoinDrive (b - 1))
    (pick (eqb (n % 2) 0) (Drive (n / 2 - 1)) Capture))))

-- Microwire. 2i: control bit i on TXD, the word taken at 0. 16: TXD LOW; 16, 17 are the wait. 19 + 2j: data bit j captured.
-- 18 + 2b: a waiting word starts its slot 0. 19 + 2b: frame over. 20 + 2b: a second idle slot.
unfoldable pub microwire_event : ℕ → ℕ → Event
microwire_event b n =
    pick (eqb n 0) BeginDrive
    (pick (ltb n 16) (pick (eqb (n % 2) 0) (Drive (n / 2)) Pause)
    (pick (eqb n 16) Quiet
    (pick (ltb n (18 + 2 * b)) (pick (leb 19 n && eqb (n % 2) 1) Capture Pause)
    (pick (eqb n (18 + 2 * b)) (Chain (slots 0))
    (pick (eqb n (19 + 2 * b)) Release Pause)))))

-- What happens in the first cycle of slot n: the format's slot table.
abbrev pub event_on : Format → Bool → ℕ → ℕ → Event
event_on Motorola phase b n = motorola_event phase b n
event_on Ti phase b n = ti_event b n
event_on Microwire phase b n = microwire_event b n
event_on Reserved phase b n = Pause

-- What a master with these settings does in the first cycle of slot n.
unfoldable pub event_of : Settings → Slots → Event
event_of s n = event_on s.format s.phase s.bits n.0

-- The last slot of a word, idle ones included: 2b + 3 in Motorola, 2b + 1 in TI, 2b + 20 in Microwire.
abbrev pub last_on : Format → ℕ → ℕ
last_on Motorola b = 2 * b + 3
last_on Ti b = 2 * b + 1
last_on Microwire b = 2 * b + 20
last_on Reserved b = 0

-- The last slot of a word with these settings.
unfoldable pub last_slot : Settings → Slots
last_slot s = slots (last_on s.format s.bits)

-- How many bits of a word a master sends, the most significant of them first: the low b, in Microwire the low 8.
abbrev pub width_on : Format → ℕ → ℕ
width_on Motorola b = b
width_on Ti b = b
width_on Microwire b = 8
width_on Reserved b = b

-- How many bits of a word a master with these settings sends.
unfoldable pub width_of : Settings → ℕ
width_of s = width_on s.format s.bits

-- Received words have b bits; a Microwire slave's are control bytes of 8 bits.
abbrev pub capture_on : Format → Bool → ℕ → ℕ
capture_on Motorola slave b = b
capture_on Ti slave b = b
capture_on Microwire slave b = pick slave 8 b
capture_on Reserved slave b = b

-- How many bits a received word has with these settings.
abbrev pub capture_width : Settings → ℕ
capture_width s = capture_on s.format s.slave s.bits

-- Motorola: CLK is active in slots 2 + 2i with SPH 0, in 1 + 2i with SPH 1; FSS and nSSPOE are LOW.
unfoldable pub motorola_levels : Bool → ℕ → ℕ → Levels
motorola_levels phase b n =
    record {
      clk = pick phase (eqb (n % 2) 1) (eqb (n % 2) 0 && ltb 0 n) && leb n (2 * b);
      fss = false;
      released = false;
    }

-- TI: CLK is HIGH in even slots, FSS in 0 and 1; so is nSSPOE, unless the old word's last bit is still on TXD there.
unfoldable pub ti_levels : Bool → ℕ → Levels
ti_levels joined n = record { clk = eqb (n % 2) 0; fss = ltb n 2; released = ltb n 2 && not joined }

-- Microwire: CLK is HIGH in odd slots, FSS is LOW, nSSPOE is LOW in 0 to 15.
unfoldable pub microwire_levels : ℕ → Levels
microwire_levels n = record { clk = eqb (n % 2) 1; fss = false; released = leb 16 n }

-- The levels of slot n in a frame: the format's slot table. CLK is the one before SPO inverts it.
abbrev pub levels_on : Format → Bool → ℕ → Bool → ℕ → Levels
levels_on Motorola phase b joined n = motorola_levels phase b n
levels_on Ti phase b joined n = ti_levels joined n
levels_on Microwire phase b joined n = microwire_levels n
levels_on Reserved phase b joined n = record { clk = false; fss = true; released = true }

-- The levels of slot n in a frame of a master with these settings.
unfoldable pub levels_of : Settings → Bool → Slots → Levels
levels_of s joined n = levels_on s.format s.phase s.bits joined n.0

-- Whether TXD shows data in slot n, whose levels are v; otherwise TXD is LOW. Motorola: in every slot but 0.
-- TI and Microwire: where nSSPOE is LOW.
abbrev pub data_on : Format → Levels → Slots → Bool
data_on Motorola v n = ltb 0 n.0
data_on Ti v n = not v.released
data_on Microwire v n = not v.released
data_on Reserved v n = false
