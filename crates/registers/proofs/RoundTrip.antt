-- A register file comes back from its fields, and its numbers fit their bytes.
use Prim.Native.Nat.{ℕ, zero, suc, ◌%◌, ◌≤◌, ◌<◌}
use mathlib.Core.Path.{◌≡◌, refl}
use mathlib.Core.List.{List, [], ◌∷◌}
use mathlib.Core.Bool.{Bool, true, ◌&&◌, ◌||◌}
use native.Mathlib.Omega.{arith}
use lib.ListN.{length, get_or, take}
use lib.Dec.{ltb, leb, eqb}
use borrow.Author.Tests.{ltb-true, leb-true}
use Rattle.registers.proofs.Picks.{and_left, and_right}
use Rattle.registers.specs.Model.{Model}
use Rattle.registers.specs.Fields.{places, fields_of, restored}
use Rattle.registers.specs.Settings.{permitted_of}
use Rattle.registers.specs.Sound.{control_sound, masks_sound, queues_sound, sound_registers, words_fit, registers_fit}

-- the words of at most eight places
pub take_places : (ws : List ℕ) → length ws ≤ 8 → take (length ws) (places ws) ≡ ws
unfolding places
take_places [] h = refl
take_places (a ∷ []) h = refl
take_places (a ∷ b ∷ []) h = refl
take_places (a ∷ b ∷ c ∷ []) h = refl
take_places (a ∷ b ∷ c ∷ d ∷ []) h = refl
take_places (a ∷ b ∷ c ∷ d ∷ e ∷ []) h = refl
take_places (a ∷ b ∷ c ∷ d ∷ e ∷ f ∷ []) h = refl
take_places (a ∷ b ∷ c ∷ d ∷ e ∷ f ∷ g ∷ []) h = refl
take_places (a ∷ b ∷ c ∷ d ∷ e ∷ f ∷ g ∷ i ∷ []) h = refl
take_places (a ∷ b ∷ c ∷ d ∷ e ∷ f ∷ g ∷ i ∷ j ∷ ws) h = absurd (omega arith)

pub model_fields : (m : Model) → length m.tx ≤ 8 → length m.rx ≤ 8 → restored (fields_of m) ≡ m
unfolding restored fields_of
model_fields m h k = rw (take_places m.tx h, take_places m.rx k)

-- each word that fits, and the places after the last

pub word_fits : (ws : List ℕ) (i : ℕ) → words_fit ws ≡ true → get_or ws i 0 < 0x10000
unfolding words_fit
word_fits [] zero h = omega arith
word_fits [] (suc i) h = omega arith
word_fits (w ∷ ws) zero h = ltb-true w 0x10000 (and_left (ltb w 0x10000) (words_fit ws) h)
word_fits (w ∷ ws) (suc i) h = word_fits ws i (and_right (ltb w 0x10000) (words_fit ws) h)

pub words_fit_take : (n : ℕ) (ws : List ℕ) → words_fit ws ≡ true → words_fit (take n ws) ≡ true
unfolding words_fit
words_fit_take zero ws h = refl
words_fit_take (suc n) [] h = refl
words_fit_take (suc n) (w ∷ ws) h = rw (and_left (ltb w 0x10000) (words_fit ws) h) (words_fit_take n ws (and_right (ltb w 0x10000) (words_fit ws) h))

-- The numbers of a sound register file fit their bytes.

pub record FileFits (m : Model) : Type 0 where
  pub cr0 : m.control.cr0 < 0x10000
  pub cr1 : m.control.cr1 < 256
  pub cpsr : m.control.cpsr < 256
  pub imsc : m.masks.imsc < 256
  pub dmacr : m.masks.dmacr < 256
  pub count : m.timeout.count.0 < 0x100000000
  pub tx : words_fit m.tx ≡ true
  pub waiting : length m.tx ≤ 8
  pub rx : words_fit m.rx ≡ true
  pub held : length m.rx ≤ 8

pub file_fits : (m : Model) (active : Bool) → sound_registers m active ≡ true → registers_fit m ≡ true → FileFits m
unfolding sound_registers control_sound masks_sound queues_sound registers_fit
file_fits m active s f =
    let regs = and_left (control_sound m.control active && masks_sound m.masks) _ s in
    let control = and_left (control_sound m.control active) _ regs in
    let masks = and_right (control_sound m.control active) _ regs in
    let queues = and_left (queues_sound m) _ (and_right (control_sound m.control active && masks_sound m.masks) _ s) in
    let numbers = and_left ((ltb m.control.cr0 0x10000 && ltb m.control.cpsr 0x100) && ltb m.timeout.count.0 0x100000000) _ f in
    let words = and_right ((ltb m.control.cr0 0x10000 && ltb m.control.cpsr 0x100) && ltb m.timeout.count.0 0x100000000) _ f in
    let pair = and_left (ltb m.control.cr0 0x10000 && ltb m.control.cpsr 0x100) _ numbers in
    let cr1 = leb-true m.control.cr1 15 (and_left (leb m.control.cr1 15) _ (and_right ((eqb m.control.cr0 0 || permitted_of m.control.cr0) && eqb (m.control.cpsr % 2) 0) _ control)) in
    let imsc = leb-true m.masks.imsc 15 (and_left (leb m.masks.imsc 15) _ masks) in
    let dmacr = leb-true m.masks.dmacr 3 (and_right (leb m.masks.imsc 15) _ masks) in
    record {
      cr0 = ltb-true m.control.cr0 0x10000 (and_left (ltb m.control.cr0 0x10000) _ pair);
      cr1 = omega arith;
      cpsr = ltb-true m.control.cpsr 0x100 (and_right (ltb m.control.cr0 0x10000) _ pair);
      imsc = omega arith;
      dmacr = omega arith;
      count = ltb-true m.timeout.count.0 0x100000000 (and_right (ltb m.control.cr0 0x10000 && ltb m.control.cpsr 0x100) _ numbers);
      tx = and_left (words_fit m.tx) _ words;
      waiting = leb-true (length m.tx) 8 (and_left (leb (length m.tx) 8) _ queues);
      rx = and_right (words_fit m.tx) _ words;
      held = leb-true (length m.rx) 8 (and_right (leb (length m.tx) 8) _ queues);
    }
