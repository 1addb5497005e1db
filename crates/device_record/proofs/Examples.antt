-- The record of docs/RECORD.md after reset, and what each example there makes of it; a frame with SSE clear in both editions.
use Prim.Native.Nat.{ℕ}
use mathlib.Core.Path.{◌≡◌, refl}
use mathlib.Core.List.{List, [], ◌∷◌, ◌++◌}
use mathlib.Core.Bool.{Bool, true, false}
use lib.ListN.{set, replicate}
use Rattle.registers.specs.Time.{cycles_of}
use Rattle.registers.specs.Fields.{places, fields_of, restored}
use Rattle.registers.specs.Settings.{format_of, permitted_of, bits_of, divisor_of, enabled_of, settings_of}
use Rattle.registers.specs.Transfer.{limit_of}
use Rattle.registers.specs.Sound.{control_sound, masks_sound, queues_sound, count_sound, sound_registers}
use Rattle.frames.specs.Slots.{last_slot}
use Rattle.frames.specs.Lines.{pins_of, byte_of}
use Rattle.serial.specs.Sound.{stopped_sound, running_sound, engine_sound, sound_device}
use Rattle.serial.specs.Cycle.{reset_device}
use Rattle.device_record.specs.Calls.{reset_refusal, reset_left}
use Rattle.device_record.specs.Record.{pin_byte, register_bytes, engine_bytes, level_bytes, count_bytes, state_bytes, word_bytes, queue_bytes, encoded, word_at, long_at, flag_at, words_at, lines_from, fields_at, engine_at, history_at, decode, eq_list, sound_bytes}

-- All bytes are 0 but the line byte.
abbrev pub reset_bytes : List ℕ
reset_bytes = replicate 27 0 ++ (10 ∷ replicate 100 0)

-- Whether the record after reset is sound with one byte changed.
abbrev pub changed : ℕ → ℕ → Bool
changed i x = sound_bytes (set reset_bytes i x)

pub record ResetExamples : Type 0 where
  pub bytes : encoded (reset_device false) ≡ reset_bytes
  -- the second edition is byte 30, and nothing else
  pub second : encoded (reset_device true) ≡ set reset_bytes 30 1
  pub second_sound : changed 30 1 ≡ true
  pub third : changed 30 2 ≡ false
  -- which edition a reset chooses, whatever the bytes held, and what it refuses: 10 before 20
  pub reset_first : reset_left (replicate 128 7) 1 ≡ reset_bytes
  pub reset_second : reset_left (replicate 128 7) 2 ≡ set reset_bytes 30 1
  pub reset_none : reset_refusal (replicate 128 7) 0 ≡ 20
  pub reset_third : reset_refusal (replicate 128 7) 3 ≡ 20
  pub reset_short : reset_refusal (replicate 127 7) 3 ≡ 10
  pub reset_refused : reset_left (replicate 128 7) 3 ≡ replicate 128 7
  pub whole : sound_bytes reset_bytes ≡ true
  -- DSS 2 is not permitted; SSE with CR0 0; an odd CPSR
  pub format : changed 0 2 ≡ false
  pub enabled : changed 2 2 ≡ false
  pub odd : changed 3 1 ≡ false
  -- a frame: edition 1; CR0 0 in edition 2
  pub frame : changed 12 1 ≡ false
  pub second_frame : sound_bytes (set (set reset_bytes 30 1) 12 1) ≡ false
  -- a flag above 1; an RT count with SSE clear; lines above 15
  pub flag : changed 6 2 ≡ false
  pub count : changed 8 1 ≡ false
  pub lines : changed 27 0x1A ≡ false
  -- a spare byte; a word in a place that is not in use
  pub spare : changed 31 1 ≡ false
  pub last : changed 127 1 ≡ false
  pub unused : changed 48 1 ≡ false
  -- ROR, shift words, pins and last lines are free
  pub overrun : changed 6 1 ≡ true
  pub word : changed 22 0xFF ≡ true
  pub pins : changed 24 7 ≡ true
  pub free : changed 27 0x0F ≡ true

pub reset_examples : ResetExamples
unfolding reset_refusal sound_bytes eq_list encoded state_bytes register_bytes engine_bytes level_bytes count_bytes queue_bytes word_bytes fields_of restored places pin_byte byte_of pins_of lines_from decode fields_at engine_at history_at word_at long_at flag_at words_at sound_device sound_registers control_sound masks_sound queues_sound count_sound permitted_of enabled_of limit_of divisor_of cycles_of engine_sound running_sound stopped_sound settings_of format_of bits_of last_slot
reset_examples =
    record {
      bytes = refl;
      second = refl;
      second_sound = refl;
      third = refl;
      reset_first = refl;
      reset_second = refl;
      reset_none = refl;
      reset_third = refl;
      reset_short = refl;
      reset_refused = refl;
      whole = refl;
      format = refl;
      enabled = refl;
      odd = refl;
      frame = refl;
      second_frame = refl;
      flag = refl;
      count = refl;
      lines = refl;
      spare = refl;
      last = refl;
      unused = refl;
      overrun = refl;
      word = refl;
      pins = refl;
      free = refl;
    }

-- A frame with SSE clear: CR0 3 (Motorola, SPH 0, b 4), CPSR 2 (h 1), the edition's byte, frame 1.
abbrev pub framed : ℕ → List ℕ
framed edition = set (set (set (set reset_bytes 0 3) 3 2) 30 edition) 12 1

-- Whether it is sound with further changes, in edition 1 and in edition 2.
abbrev pub sound : (List ℕ → List ℕ) → List Bool
sound f = sound_bytes (f (framed 0)) ∷ sound_bytes (f (framed 1)) ∷ []

-- In edition 2 only, within the bounds for SSE set, with RT count 0.
pub record FrameExamples : Type 0 where
  pub frame : sound (λ b. b) ≡ false ∷ true ∷ []
  -- slot 2b + 3, and one after it; one elapsed cycle in a slot of one cycle
  pub last_slot_lem : sound (λ b. set b 16 0xB) ≡ false ∷ true ∷ []
  pub past_slot : sound (λ b. set b 16 0xC) ≡ false ∷ false ∷ []
  pub elapsed : sound (λ b. set b 18 1) ≡ false ∷ false ∷ []
  -- b bits captured, and one more
  pub captured : sound (λ b. set b 15 4) ≡ false ∷ true ∷ []
  pub past_captured : sound (λ b. set b 15 5) ≡ false ∷ false ∷ []
  -- CPSR 0; RT count 1; selection and mark
  pub undivided : sound (λ b. set b 3 0) ≡ false ∷ false ∷ []
  pub counted : sound (λ b. set b 8 1) ≡ false ∷ false ∷ []
  pub marked : sound (λ b. set (set b 13 1) 14 1) ≡ false ∷ true ∷ []
  -- no frame: selection, mark, captured bits, slot, elapsed cycles
  pub selection_alone : sound (λ b. set (set b 12 0) 13 1) ≡ false ∷ false ∷ []
  pub mark_alone : sound (λ b. set (set b 12 0) 14 1) ≡ false ∷ false ∷ []
  pub captured_alone : sound (λ b. set (set b 12 0) 15 1) ≡ false ∷ false ∷ []
  pub slot_alone : sound (λ b. set (set b 12 0) 16 1) ≡ false ∷ false ∷ []
  pub elapsed_alone : sound (λ b. set (set b 12 0) 18 1) ≡ false ∷ false ∷ []
  -- SSE set, RT count 63
  pub enabled : sound (λ b. set (set b 2 2) 8 0x3F) ≡ true ∷ true ∷ []

pub frame_examples : FrameExamples
unfolding sound_bytes eq_list encoded state_bytes register_bytes engine_bytes level_bytes count_bytes queue_bytes word_bytes fields_of restored places pin_byte byte_of pins_of lines_from decode fields_at engine_at history_at word_at long_at flag_at words_at sound_device sound_registers control_sound masks_sound queues_sound count_sound permitted_of enabled_of limit_of divisor_of cycles_of engine_sound running_sound stopped_sound settings_of format_of bits_of last_slot
frame_examples =
    record {
      frame = refl;
      last_slot_lem = refl;
      past_slot = refl;
      elapsed = refl;
      captured = refl;
      past_captured = refl;
      undivided = refl;
      counted = refl;
      marked = refl;
      selection_alone = refl;
      mark_alone = refl;
      captured_alone = refl;
      slot_alone = refl;
      elapsed_alone = refl;
      enabled = refl;
    }
