-- Laws of a record's bytes: a sound device comes back from its bytes, and sound bytes from their device.
use Prim.Native.Nat.{ℕ, ◌+◌, ◌*◌, ◌/◌, ◌%◌, ◌<◌}
use mathlib.Core.Path.{◌≡◌, refl, sym, ◌∙◌, ap}
use mathlib.Core.List.{List, [], ◌∷◌, ◌++◌, map}
use mathlib.Core.Bool.{Bool, true, false, ◌&&◌}
use native.Mathlib.Omega.{arith}
use lib.Dec.{eqb, ltb}
use lib.ListN.{length, get_or, take}
use mir.Val.{bool_byte}
use borrow.Author.Tests.{eq-eqb, eqb-true, lt-ltb}
use Rattle.std.proofs.lemmas.Bool.{and_from}
use Rattle.registers.proofs.Picks.{and_left, and_right}
use Rattle.registers.specs.Fields.{fields_of, restored, places}
use Rattle.registers.proofs.RoundTrip.{FileFits, file_fits, model_fields, word_fits, words_fit_take}
use Rattle.serial.proofs.Soundness.{EngineFit, engine_fit}
use Rattle.registers.specs.Model.{Model}
use Rattle.registers.specs.Sound.{sound_registers, words_fit, registers_fit}
use Rattle.registers.specs.declared.fields.Fields.{Fields}
use Rattle.serial.specs.Cycle.{DeviceModel, active_device}
use Rattle.frames.specs.Lines.{pins_of, byte_of}
use Rattle.serial.specs.Sound.{sound_device, device_fits}
use Rattle.device_record.specs.Record.{record_length, pin_byte, register_bytes, engine_bytes, level_bytes, count_bytes, state_bytes, word_bytes, queue_bytes, encoded, word_at, long_at, flag_at, words_at, lines_from, fields_at, engine_at, history_at, decode, eq_list, sound_bytes}
use Rattle.serial.specs.declared.History.{History}
use Rattle.frames.specs.declared.engine.Engine.{Engine}
use Rattle.frames.specs.declared.lines.Lines.{Lines}
use Rattle.frames.specs.declared.lines.Pins.{Pins}

-- equality of lists

pub eq_list_refl : (xs : List ℕ) → eq_list xs xs ≡ true
unfolding eq_list
eq_list_refl [] = refl
eq_list_refl (x ∷ xs) = rw (eq-eqb x x refl, eq_list_refl xs)

pub eq_list_true : (xs ys : List ℕ) → eq_list xs ys ≡ true → xs ≡ ys
unfolding eq_list
eq_list_true [] [] e = refl
eq_list_true [] (y ∷ ys) e = absurd (let z : ◌≡◌ {A = ℕ} 0 1 = cc in omega arith)
eq_list_true (x ∷ xs) [] e = absurd (let z : ◌≡◌ {A = ℕ} 0 1 = cc in omega arith)
eq_list_true (x ∷ xs) (y ∷ ys) e =
    let h = eqb-true x y (and_left (eqb x y) (eq_list xs ys) e) in
    let t = eq_list_true xs ys (and_right (eqb x y) (eq_list xs ys) e) in
    rw (h, t)

-- lengths

pub length_state : (f : Fields) (e : Engine) (h : History) (l : Lines) → length (state_bytes f e h l) ≡ 32
unfolding state_bytes register_bytes engine_bytes level_bytes count_bytes
length_state f e h l = refl

pub length_parts : (m : Model) (e : Engine) (h : History) (l : Lines) → length (state_bytes (fields_of m) e h l ++ queue_bytes (fields_of m)) ≡ 128
unfolding state_bytes register_bytes engine_bytes level_bytes count_bytes queue_bytes word_bytes fields_of places
length_parts m e h l = refl

-- a record has 128 bytes
pub length-encode : (d : DeviceModel) → length (encoded d) ≡ record_length
unfolding encoded
length-encode d = length_parts d.registers d.engine d.pins d.lines

-- single fields from their bytes

-- a word from its two bytes
abbrev pub joined : ℕ → ℕ
joined x = x % 256 + 256 * (x / 256 % 256)

-- a number of four bytes from them
abbrev pub joined_long : ℕ → ℕ
joined_long x = joined x + 0x10000 * joined (x / 0x10000)

pub byte_back : (x : ℕ) → x < 256 → x % 256 ≡ x
byte_back x h = omega arith

pub word_back : (x : ℕ) → x < 0x10000 → joined x ≡ x
word_back x h = omega arith

pub long_back : (x : ℕ) → x < 0x100000000 → joined_long x ≡ x
long_back x h = omega arith

pub places_back : (ws : List ℕ) → words_fit ws ≡ true → map joined (places ws) ≡ places ws
unfolding places
places_back ws h =
    let back : (i : ℕ) → joined (get_or ws i 0) ≡ get_or ws i 0 = λ i. word_back (get_or ws i 0) (word_fits ws i h) in
    rw (back 0, back 1, back 2, back 3, back 4, back 5, back 6, back 7)

pub flag_back : (b : Bool) → eqb (bool_byte b) 1 ≡ b
flag_back true = refl
flag_back false = refl

pins_bits : (a b c : Bool) → pins_of (pin_byte (record { clk = a; fss = b; rxd = c })) ≡ record { clk = a; fss = b; rxd = c }
unfolding pins_of pin_byte
pins_bits false false false = refl
pins_bits false false true = refl
pins_bits false true false = refl
pins_bits false true true = refl
pins_bits true false false = refl
pins_bits true false true = refl
pins_bits true true false = refl
pins_bits true true true = refl

pub pins_back : (p : Pins) → pins_of (pin_byte p) ≡ p
pins_back p = pins_bits p.clk p.fss p.rxd

lines_bits : (a b c d : Bool) → lines_from (byte_of (record { clk = a; fss = b; txd = c; released = d })) ≡ record { clk = a; fss = b; txd = c; released = d }
unfolding lines_from byte_of
lines_bits false false false false = refl
lines_bits false false false true = refl
lines_bits false false true false = refl
lines_bits false false true true = refl
lines_bits false true false false = refl
lines_bits false true false true = refl
lines_bits false true true false = refl
lines_bits false true true true = refl
lines_bits true false false false = refl
lines_bits true false false true = refl
lines_bits true false true false = refl
lines_bits true false true true = refl
lines_bits true true false false = refl
lines_bits true true false true = refl
lines_bits true true true false = refl
lines_bits true true true true = refl

pub lines_back : (l : Lines) → lines_from (byte_of l) ≡ l
lines_back l = lines_bits l.clk l.fss l.txd l.released

-- what comes from bytes is small

word_small : (x : ℕ) → ltb (joined x) 0x10000 ≡ true
word_small x = lt-ltb (joined x) 0x10000 (omega arith)

long_small : (x : ℕ) → ltb (joined_long x) 0x100000000 ≡ true
long_small x = lt-ltb (joined_long x) 0x100000000 (omega arith)

words_small : (ws : List ℕ) → words_fit (map joined ws) ≡ true
unfolding words_fit
words_small [] = refl
words_small (w ∷ ws) = rw (word_small w) (words_small ws)

places_small : (ws : List ℕ) (n : ℕ) → words_fit (take n (map joined (places ws))) ≡ true
places_small ws n = words_fit_take n (map joined (places ws)) (words_small (places ws))

-- the parts of a device from its bytes

module _ (m : Model) (e : Engine) (h : History) (l : Lines) where
  abbrev parts : List ℕ
  parts = state_bytes (fields_of m) e h l ++ queue_bytes (fields_of m)

  fields_back : FileFits m → fields_at parts ≡ fields_of m
  unfolding state_bytes register_bytes engine_bytes level_bytes count_bytes queue_bytes word_bytes fields_of places fields_at word_at long_at flag_at words_at
  fields_back k =
      rw (word_back m.control.cr0 k.cr0, byte_back m.control.cr1 k.cr1, byte_back m.control.cpsr k.cpsr, byte_back m.masks.imsc k.imsc, byte_back m.masks.dmacr k.dmacr, long_back m.timeout.count.0 k.count, flag_back m.ror, flag_back m.timeout.rt, flag_back m.control.edition2, places_back m.tx k.tx, places_back m.rx k.rx)

  engine_back : EngineFit e → engine_at parts ≡ e
  unfolding state_bytes register_bytes engine_bytes level_bytes count_bytes engine_at word_at flag_at
  engine_back k =
      rw (byte_back e.slot.0 k.slot, word_back e.elapsed.0 k.elapsed, byte_back e.shift.captured k.captured, word_back e.shift.sending k.sending, word_back e.shift.receiving k.receiving, flag_back e.frame, flag_back e.selected, flag_back e.mark, flag_back e.shift.level)

  history_back : history_at parts ≡ h
  unfolding state_bytes register_bytes engine_bytes level_bytes count_bytes history_at
  history_back = rw (pins_back h.newest, pins_back h.middle, pins_back h.oldest)

  levels_back : lines_from (get_or parts 27 0) ≡ l
  unfolding state_bytes register_bytes engine_bytes level_bytes count_bytes
  levels_back = lines_back l

  -- whatever was encoded, its bytes hold no more than fits them

  file_decoded : registers_fit (restored (fields_at parts)) ≡ true
  unfolding state_bytes register_bytes engine_bytes level_bytes count_bytes queue_bytes word_bytes fields_of places restored fields_at word_at long_at flag_at words_at registers_fit
  file_decoded =
      and_from _ _
      (and_from _ _ (and_from _ _ (word_small m.control.cr0) (lt-ltb (m.control.cpsr % 256) 0x100 (omega arith))) (long_small m.timeout.count.0))
      (and_from _ _ (places_small m.tx (length m.tx)) (places_small m.rx (length m.rx)))

  engine_decoded : ((ltb (engine_at parts).slot.0 0x100 && ltb (engine_at parts).elapsed.0 0x10000) && ltb (engine_at parts).shift.captured 0x100) && (ltb (engine_at parts).shift.sending 0x10000 && ltb (engine_at parts).shift.receiving 0x10000) ≡ true
  unfolding state_bytes register_bytes engine_bytes level_bytes count_bytes engine_at word_at flag_at
  engine_decoded =
      and_from _ _
      (and_from _ _ (and_from _ _ (lt-ltb (e.slot.0 % 256) 0x100 (omega arith)) (word_small e.elapsed.0)) (lt-ltb (e.shift.captured % 256) 0x100 (omega arith)))
      (and_from _ _ (word_small e.shift.sending) (word_small e.shift.receiving))

-- a sound device that fits its bytes comes back from them
pub decode-encode : (d : DeviceModel) → sound_device d ≡ true → device_fits d ≡ true → decode (encoded d) ≡ d
unfolding sound_device device_fits encoded decode
decode-encode d s f =
    let file = file_fits d.registers _ (and_left (sound_registers d.registers (active_device d)) _ s) (and_left (registers_fit d.registers) _ f) in
    rw (fields_back d.registers d.engine d.pins d.lines file, engine_back d.registers d.engine d.pins d.lines (engine_fit d f), history_back d.registers d.engine d.pins d.lines, levels_back d.registers d.engine d.pins d.lines, model_fields d.registers file.waiting file.held)

fits_encoded : (d : DeviceModel) → device_fits (decode (encoded d)) ≡ true
unfolding device_fits encoded decode
fits_encoded d =
    and_from _ _ (file_decoded d.registers d.engine d.pins d.lines) (engine_decoded d.registers d.engine d.pins d.lines)

-- sound bytes are their device's
pub encode-decode : (b : List ℕ) → sound_bytes b ≡ true → encoded (decode b) ≡ b
unfolding sound_bytes
encode-decode b s = eq_list_true (encoded (decode b)) b (and_left (eq_list (encoded (decode b)) b) _ s)

-- and that device is sound
pub sound_decode : (b : List ℕ) → sound_bytes b ≡ true → sound_device (decode b) ≡ true
unfolding sound_bytes
sound_decode b s = and_right (eq_list (encoded (decode b)) b) _ s

-- and fits its bytes
pub fits_decode : (b : List ℕ) → sound_bytes b ≡ true → device_fits (decode b) ≡ true
fits_decode b s = rw (encode-decode b s) at (fits_encoded (decode b))

pub length_sound : (b : List ℕ) → sound_bytes b ≡ true → length b ≡ record_length
length_sound b s = sym (ap length (encode-decode b s)) ∙ length-encode (decode b)

-- the bytes of a sound device that fits are sound
pub sound_encode : (d : DeviceModel) → sound_device d ≡ true → device_fits d ≡ true → sound_bytes (encoded d) ≡ true
unfolding sound_bytes
sound_encode d s f = rw (decode-encode d s f, eq_list_refl (encoded d)) s

-- two such devices with the same bytes are the same
pub encode_injective : (d e : DeviceModel) → sound_device d ≡ true → device_fits d ≡ true → sound_device e ≡ true → device_fits e ≡ true → encoded d ≡ encoded e → d ≡ e
encode_injective d e sd fd se fe h = sym (decode-encode d sd fd) ∙ (ap decode h ∙ decode-encode e se fe)

-- two sound byte strings of the same device are the same
pub decode_injective : (a b : List ℕ) → sound_bytes a ≡ true → sound_bytes b ≡ true → decode a ≡ decode b → a ≡ b
decode_injective a b sa sb h = sym (encode-decode a sa) ∙ (ap encoded h ∙ encode-decode b sb)
