-- The 128 bytes of a device: where each field is, which device the bytes encode, and which bytes are sound.
use Rattle.std.specs.Prelude.{ℕ, ◌+◌, ◌*◌, ◌/◌, ◌%◌, ◌≡◌, List, [], ◌∷◌, ◌++◌, Bool, true, false, ◌&&◌, length, get_or, replicate, eqb}
use Rattle.std.proofs.Math.Seq.{paste}
use mir.Val.{bool_byte}
use Rattle.registers.specs.Choose.{pick}
use Rattle.registers.specs.Time.{cycles, slots}
use Rattle.registers.specs.Fields.{fields_of, restored}
use Rattle.registers.specs.declared.fields.Fields.{Fields}
use Rattle.frames.specs.Lines.{pins_of, byte_of}
unfoldable pub use Rattle.frames.specs.Lines.{pin_byte, lines_from}
use Rattle.serial.specs.Cycle.{DeviceModel}
use Rattle.serial.specs.Sound.{sound_device}
use Rattle.serial.specs.declared.History.{History}
use Rattle.frames.specs.declared.engine.Engine.{Engine}
use Rattle.frames.specs.declared.lines.Lines.{Lines}

-- How many bytes a record has.
abbrev pub record_length : ℕ
record_length = 128

-- Bytes of a number: the low one comes first.

-- The low byte of a number.
abbrev pub low : ℕ → ℕ
low x = x % 256

-- The byte above it.
abbrev pub high : ℕ → ℕ
high x = x / 256 % 256

-- A word joined from two bytes: they are its low and its high byte.
pub record WordOf (lo hi word : ℕ) : Type 0 where
  pub joined : word ≡ lo + 256 * hi
  pub first : low word ≡ lo
  pub second : high word ≡ hi

-- A device as bytes. The numbers are the places of the bytes in the record.

-- 0: CR0. 2: CR1, CPSR, IMSC, DMACR. 6: ROR, RT. 8: RT count.
unfoldable pub register_bytes : Fields → List ℕ
register_bytes f =
    low f.control.cr0 ∷ high f.control.cr0 ∷ low f.control.cr1 ∷ low f.control.cpsr
    ∷ low f.masks.imsc ∷ low f.masks.dmacr ∷ bool_byte f.ror ∷ bool_byte f.timeout.rt
    ∷ low f.timeout.count.0 ∷ high f.timeout.count.0 ∷ low (f.timeout.count.0 / 0x10000) ∷ high (f.timeout.count.0 / 0x10000)
    ∷ []

-- 12: frame, selected, TI mark, captured bits. 16: slot, held level. 18: elapsed cycles.
-- 20: word being sent. 22: word being received.
unfoldable pub engine_bytes : Engine → List ℕ
engine_bytes e =
    bool_byte e.frame ∷ bool_byte e.selected ∷ bool_byte e.mark ∷ low e.shift.captured
    ∷ low e.slot.0 ∷ bool_byte e.shift.level ∷ low e.elapsed.0 ∷ high e.elapsed.0
    ∷ low e.shift.sending ∷ high e.shift.sending ∷ low e.shift.receiving ∷ high e.shift.receiving
    ∷ []

-- 24: pins of the last three cycles, newest first. 27: lines of the last cycle.
unfoldable pub level_bytes : History → Lines → List ℕ
level_bytes h l = pin_byte h.newest ∷ pin_byte h.middle ∷ pin_byte h.oldest ∷ byte_of l ∷ []

-- 28: number of words in the transmit queue. 29: in the receive queue. 30: the edition, less 1. 31: spare.
unfoldable pub count_bytes : Fields → List ℕ
count_bytes f = f.waiting ∷ f.held ∷ bool_byte f.control.edition2 ∷ 0 ∷ []

-- Bytes 0 to 31.
unfoldable pub state_bytes : Fields → Engine → History → Lines → List ℕ
state_bytes f e h l = register_bytes f ++ (engine_bytes e ++ (level_bytes h l ++ count_bytes f))

-- The words in a queue, each as two bytes.
unfoldable pub word_bytes : List ℕ → List ℕ
word_bytes [] = []
word_bytes (w ∷ ws) = low w ∷ high w ∷ word_bytes ws

-- 32: the places of the transmit queue. 48: those of the receive queue. 64 to 127: spare.
unfoldable pub queue_bytes : Fields → List ℕ
queue_bytes f = word_bytes f.tx ++ (word_bytes f.rx ++ replicate 64 0)

-- The record of a device: its only encoding.
unfoldable pub encoded : DeviceModel → List ℕ
encoded d = state_bytes (fields_of d.registers) d.engine d.pins d.lines ++ queue_bytes (fields_of d.registers)

-- Encoding writes a record, and leaves bytes of another length as they are.
unfoldable pub encode : DeviceModel → List ℕ → List ℕ
encode d b = pick (eqb (length b) record_length) (encoded d) b

-- A part of a record was written from byte `at` on.
pub record PutAt (before : List ℕ) (at : ℕ) (part after : List ℕ) : Type 0 where
  pub put : after ≡ paste before at part (length part)

-- Bytes as a device. A byte after the end counts as 0.

-- Byte i of a record.
abbrev pub byte_at : List ℕ → ℕ → ℕ
byte_at b i = get_or b i 0

-- The word in two bytes from i on, the low one first.
unfoldable pub word_at : List ℕ → ℕ → ℕ
word_at b i = byte_at b i + 256 * byte_at b (i + 1)

-- The number in four bytes from i on, the low one first.
unfoldable pub long_at : List ℕ → ℕ → ℕ
long_at b i = word_at b i + 0x10000 * word_at b (i + 2)

-- The flag in byte i: set if the byte is 1.
unfoldable pub flag_at : List ℕ → ℕ → Bool
flag_at b i = eqb (byte_at b i) 1

-- Eight words from byte i on.
unfoldable pub words_at : List ℕ → ℕ → List ℕ
words_at b i =
    word_at b i ∷ word_at b (i + 2) ∷ word_at b (i + 4) ∷ word_at b (i + 6)
    ∷ word_at b (i + 8) ∷ word_at b (i + 10) ∷ word_at b (i + 12) ∷ word_at b (i + 14)
    ∷ []

-- The registers in bytes 0 to 11, the queue counts in 28 and 29, the edition in 30, the queue places in 32 to 63.
unfoldable pub fields_at : List ℕ → Fields
fields_at b =
    record {
      control = record { cr0 = word_at b 0; cr1 = byte_at b 2; cpsr = byte_at b 3; edition2 = flag_at b 30 };
      masks = record { imsc = byte_at b 4; dmacr = byte_at b 5 };
      timeout = record { rt = flag_at b 7; count = cycles (long_at b 8) };
      ror = flag_at b 6;
      tx = words_at b 32;
      waiting = byte_at b 28;
      rx = words_at b 48;
      held = byte_at b 29;
    }

-- The engine in bytes 12 to 23: frame, selection, mark, slot, elapsed cycles, shift registers.
unfoldable pub engine_at : List ℕ → Engine
engine_at b =
    record {
      slot = slots (byte_at b 16);
      elapsed = cycles (word_at b 18);
      frame = flag_at b 12;
      selected = flag_at b 13;
      mark = flag_at b 14;
      shift = record { captured = byte_at b 15; level = flag_at b 17; sending = word_at b 20; receiving = word_at b 22 };
    }

-- The pins of the last three cycles in bytes 24 to 26, newest first.
unfoldable pub history_at : List ℕ → History
history_at b = record { newest = pins_of (byte_at b 24); middle = pins_of (byte_at b 25); oldest = pins_of (byte_at b 26) }

-- The device that bytes encode.
unfoldable pub decode : List ℕ → DeviceModel
decode b = record { registers = restored (fields_at b); engine = engine_at b; pins = history_at b; lines = lines_from (byte_at b 27) }

-- Two lists of bytes are the same.
unfoldable pub eq_list : List ℕ → List ℕ → Bool
eq_list [] [] = true
eq_list [] (y ∷ ys) = false
eq_list (x ∷ xs) [] = false
eq_list (x ∷ xs) (y ∷ ys) = eqb x y && eq_list xs ys

-- Sound bytes: exactly the encoding of the device that they decode to, and that device is sound. No encoding has a flag or
-- edition byte above 1, pins above 7, lines above 15, a count above 8, or anything but 0 in an unused place or a spare byte.
unfoldable pub sound_bytes : List ℕ → Bool
sound_bytes b = eq_list (encoded (decode b)) b && sound_device (decode b)
