-- How the judge's code goes through a recording, slot by slot: its place, which byte fits there, the next place.
-- What is accepted does not depend on this file.
use Rattle.std.specs.Prelude.{ℕ, ◌+◌, ◌-◌, ◌*◌, ◌%◌, Bool, true, false, not, ◌&&◌, ◌||◌, ltb, eqb, Option, Some, None}
use Rattle.registers.specs.Choose.{pick}
use Rattle.registers.specs.Bits.{bit_at}
use Rattle.registers.specs.declared.settings.Format.{Format}
use Rattle.registers.specs.declared.settings.Format.TheVariants.{Motorola, Ti, Microwire, Reserved}
use Rattle.registers.specs.declared.settings.Settings.{Settings}
use Rattle.frames.specs.Bits.{shifted_in}
use Rattle.frames.specs.Lines.{byte_of}
use Rattle.serial.specs.Drawing.{low, idle, marked, quiet}
use Rattle.judge.specs.declared.place.Table.{Table}
use Rattle.judge.specs.declared.place.Stage.{Stage}
use Rattle.judge.specs.declared.place.Stage.TheVariants.{Lead, First, Second, Wait, Turn, Close}
use Rattle.judge.specs.declared.place.Place.{Place}

-- Tables ------------------------------------------------------------------------------------------------------------------

-- Motorola. Slot 0, then the bits. SPH 0: three slots after each word, then slot 0 of the next. SPH 1: the next word follows
-- at once, three slots come after the last.
unfoldable pub motorola_table : Settings → Table
motorola_table s =
    record {
      width = s.bits;
      leads = 1;
      again = pick s.phase 0 1;
      waits = pick s.phase 0 3;
      closes = pick s.phase 3 0;
      marks = false;
      clocked = false;
      lead = byte_of (low s false false);
      early = byte_of (low s false false);
      first = byte_of (low s s.phase false);
      second = byte_of (low s (not s.phase) false);
      hold = byte_of (low s false false);
      holds = true;
      idle = byte_of (idle s);
    }

-- TI. Slots 0 and 1, then the bits; FSS HIGH with the last bit means that another word follows.
unfoldable pub ti_table : Settings → Table
ti_table s =
    record {
      width = s.bits;
      leads = 2;
      again = 0;
      waits = 0;
      closes = 0;
      marks = true;
      clocked = false;
      lead = byte_of (marked false);
      early = byte_of (marked true);
      first = byte_of (low s true false);
      second = byte_of (low s false false);
      hold = byte_of (idle s);
      holds = false;
      idle = byte_of (idle s);
    }

-- Microwire. Eight control bits, the wait and the data bits. The next word follows at once, three slots come after the last.
unfoldable pub microwire_table : Settings → Table
microwire_table s =
    record {
      width = 8;
      leads = 0;
      again = 0;
      waits = 2 * s.bits + 2;
      closes = 3;
      marks = false;
      clocked = true;
      lead = byte_of (idle s);
      early = byte_of (idle s);
      first = byte_of (low s false false);
      second = byte_of (low s true false);
      hold = byte_of (quiet false);
      holds = false;
      idle = byte_of (idle s);
    }

-- The table of a format; the reserved format is never enabled.
abbrev pub table_on : Format → Settings → Table
table_on Motorola s = motorola_table s
table_on Ti s = ti_table s
table_on Microwire s = microwire_table s
table_on Reserved s = motorola_table s

-- The table for these settings.
unfoldable pub table_of : Settings → Table
table_of s = table_on s.format s

-- Bytes -------------------------------------------------------------------------------------------------------------------

-- The weight of FSS in a byte.
abbrev pub fss_weight : Bool → ℕ
fss_weight f = pick f 2 0

-- The weight of TXD in a byte.
abbrev pub txd_weight : Bool → ℕ
txd_weight d = pick d 4 0

-- The byte of a slot before the first bit, with n such slots left.
unfoldable pub lead_byte : Table → ℕ → ℕ
lead_byte t n = pick (eqb n 1) t.lead t.early

-- The byte of a slot of bit d: `base` has its clock, `more` sets FSS HIGH.
unfoldable pub bit_byte : ℕ → Bool → Bool → ℕ
bit_byte base more d = base + fss_weight more + txd_weight d

-- The byte of one of three slots at the end of a frame: the first keeps the last bit if the format says so, two are idle.
unfoldable pub end_byte : Table → Bool → ℕ → ℕ
end_byte t d n = pick (eqb n 3) (t.hold + txd_weight (t.holds && d)) t.idle

-- The byte of a slot after a word's last bit d. A clocked one has nSSPOE HIGH, and CLK LOW and HIGH in turn.
unfoldable pub wait_byte : Table → Bool → ℕ → ℕ
wait_byte t d n = pick t.clocked (8 + n % 2) (end_byte t d n)

-- Places ------------------------------------------------------------------------------------------------------------------

-- A place with these parts.
abbrev pub place_by : Stage → ℕ → ℕ → Bool → ℕ → Place
place_by stage left word more count = record { stage = stage; left = left; word = word; more = more; count = count }

-- The last bit of the word so far.
abbrev pub last_bit : Place → Bool
last_bit p = bit_at p.word 0

-- Another word may follow: eight at the most.
unfoldable pub room_for : Place → Bool
room_for p = ltb (p.count + 1) 8

-- The start of a word: at the slots before its first bit, if it has any, otherwise at the first bit.
unfoldable pub word_start : Table → ℕ → ℕ → Place
word_start t leads count = pick (eqb leads 0) (place_by First t.width 0 false count) (place_by Lead leads 0 false count)

-- Whether byte x after a word begins another word. TI: if FSS said so. Otherwise: if there is room and x is not the first
-- closing slot; Motorola with SPH 0 has no closing slots.
unfoldable pub goes_on : Table → Place → ℕ → Bool
goes_on t p x = pick t.marks p.more (room_for p && (eqb t.closes 0 || not (eqb x (end_byte t (last_bit p) t.closes))))

-- The place of byte x, by stage; x decides where more than one place can follow.
abbrev pub entered_on : Stage → Table → Place → ℕ → Place
entered_on Lead t p x = p
entered_on First t p x = place_by First p.left p.word ((t.marks && eqb p.left 1) && (bit_at x 1 && room_for p)) p.count
entered_on Second t p x = p
entered_on Wait t p x = p
entered_on Turn t p x = pick (goes_on t p x) (word_start t t.again (p.count + 1)) (place_by Close t.closes p.word false p.count)
entered_on Close t p x = p

-- The place of byte x after place p.
unfoldable pub entered : Table → Place → ℕ → Place
entered t p x = entered_on p.stage t p x

-- The data level of a slot, by stage: in a bit's first slot the bit that x shows, otherwise the last bit.
abbrev pub level_on : Stage → Place → ℕ → Bool
level_on Lead p x = last_bit p
level_on First p x = bit_at x 2
level_on Second p x = last_bit p
level_on Wait p x = last_bit p
level_on Turn p x = last_bit p
level_on Close p x = last_bit p

-- The data level of byte x at a place.
unfoldable pub level_of : Place → ℕ → Bool
level_of p x = level_on p.stage p x

-- The byte of a slot with data level d, by stage.
abbrev pub byte_on : Stage → Table → Place → Bool → ℕ
byte_on Lead t p d = lead_byte t p.left
byte_on First t p d = bit_byte t.first p.more d
byte_on Second t p d = bit_byte t.second p.more d
byte_on Wait t p d = wait_byte t d p.left
byte_on Turn t p d = end_byte t d p.left
byte_on Close t p d = end_byte t d p.left

-- The byte that fits a place.
unfoldable pub byte_at : Table → Place → Bool → ℕ
byte_at t p d = byte_on p.stage t p d

-- The place after a word's last bit.
unfoldable pub after_bits : Table → Place → Place
after_bits t p = pick (eqb t.waits 0) (place_by Turn 0 p.word p.more p.count) (place_by Wait t.waits p.word false p.count)

-- The place after a slot, by stage.
abbrev pub passed_on : Stage → Table → Place → Bool → Place
passed_on Lead t p d = pick (eqb p.left 1) (place_by First t.width 0 false p.count) (place_by Lead (p.left - 1) 0 false p.count)
passed_on First t p d = place_by Second p.left (shifted_in p.word d) p.more p.count
passed_on Second t p d = pick (eqb p.left 1) (after_bits t p) (place_by First (p.left - 1) p.word false p.count)
passed_on Wait t p d = pick (eqb p.left 1) (place_by Turn 0 p.word false p.count) (place_by Wait (p.left - 1) p.word false p.count)
passed_on Turn t p d = p
passed_on Close t p d = place_by Close (p.left - 1) p.word false p.count

-- The place after a slot with data level d.
unfoldable pub passed : Table → Place → Bool → Place
passed t p d = passed_on p.stage t p d

-- Whether the last slot is over, by stage.
abbrev pub over_on : Stage → Table → Place → Bool
over_on Lead t p = false
over_on First t p = false
over_on Second t p = false
over_on Wait t p = false
over_on Turn t p = not p.more && eqb t.closes 0
over_on Close t p = eqb p.left 0

-- Whether a recording may end here.
unfoldable pub over : Table → Place → Bool
over t p = over_on p.stage t p

-- The place after byte x, if x fits the next slot.
unfoldable pub step_of : Table → Place → ℕ → Option Place
step_of t p x =
    let q = entered t p x in
    let d = level_of q x in
    pick (not (over t q) && eqb x (byte_at t q d)) (Some (passed t q d)) None
