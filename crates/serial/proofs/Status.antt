-- BSY in the word that a read of SR gives.
use Prim.Native.Nat.{ℕ, ◌+◌}
use mathlib.Core.Path.{◌≡◌, refl, ◌∙◌}
use mathlib.Core.Bool.{Bool, true, false, not}
use native.Mathlib.Omega.{arith}
use lib.Dec.{ltb, leb, eqb}
use lib.ListN.{length}
use Rattle.registers.specs.Choose.{pick}
use Rattle.registers.specs.Bits.{bit_at}
use Rattle.registers.specs.Model.{Model}
use Rattle.registers.specs.Offsets.{register_of}
use Rattle.registers.specs.Flags.{busy_of, status_of}
use Rattle.registers.specs.Access.{read_answer}
use Rattle.registers.specs.Refusals.{Answer, Word, Refused}
use Rattle.serial.specs.Cycle.{DeviceModel}
use Rattle.serial.specs.Access.{read_answer_of}
use Rattle.serial.specs.Busy.{busy_device}

bits_busy : (b f n t e : Bool) → bit_at (pick b 16 0 + pick f 8 0 + pick n 4 0 + pick t 2 0 + pick e 1 0) 4 ≡ b
bits_busy true true true true true = refl
bits_busy true true true true false = refl
bits_busy true true true false true = refl
bits_busy true true true false false = refl
bits_busy true true false true true = refl
bits_busy true true false true false = refl
bits_busy true true false false true = refl
bits_busy true true false false false = refl
bits_busy true false true true true = refl
bits_busy true false true true false = refl
bits_busy true false true false true = refl
bits_busy true false true false false = refl
bits_busy true false false true true = refl
bits_busy true false false true false = refl
bits_busy true false false false true = refl
bits_busy true false false false false = refl
bits_busy false true true true true = refl
bits_busy false true true true false = refl
bits_busy false true true false true = refl
bits_busy false true true false false = refl
bits_busy false true false true true = refl
bits_busy false true false true false = refl
bits_busy false true false false true = refl
bits_busy false true false false false = refl
bits_busy false false true true true = refl
bits_busy false false true true false = refl
bits_busy false false true false true = refl
bits_busy false false true false false = refl
bits_busy false false false true true = refl
bits_busy false false false true false = refl
bits_busy false false false false true = refl
bits_busy false false false false false = refl

status_busy : (m : Model) (frame : Bool) → bit_at (status_of m frame) 4 ≡ busy_of m frame
unfolding status_of
status_busy m frame = bits_busy (busy_of m frame) (leb 8 (length m.rx)) (not (eqb (length m.rx) 0)) (ltb (length m.tx) 8) (eqb (length m.tx) 0)

-- A read of SR is answered with a word.
status_answer : (d : DeviceModel) → read_answer_of d 12 ≡ Word (status_of d.registers d.engine.frame)
unfolding read_answer_of read_answer register_of
status_answer d = refl

module _ (d : DeviceModel) (a : Answer) (e : a ≡ read_answer_of d 12) where
  pub busy_word : (w : ℕ) → a ≡ Word w → bit_at w 4 ≡ busy_device d
  unfolding busy_device
  busy_word w h =
      let z : w ≡ status_of d.registers d.engine.frame = cc (e ∙ status_answer d) in
      rw z (status_busy d.registers d.engine.frame)

  pub busy_never_refused : (n : ℕ) → a ≡ Refused n → ⊥
  busy_never_refused n h =
      let k = e ∙ status_answer d in
      let z : ◌≡◌ {A = ℕ} 0 1 = cc in omega arith
