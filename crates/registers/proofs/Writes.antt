-- What a write of CR0, CPSR, CR1 or DR leaves of the control registers and of the words to send.
use Prim.Native.Nat.{ℕ, ◌%◌, ◌<◌}
use mathlib.Core.Path.{◌≡◌, refl, ap, ap₂, ◌∙◌}
use mathlib.Core.Bool.{Bool, true, false}
use mathlib.Core.List.{[], ◌∷◌, ◌++◌}
use native.Mathlib.Nat.{mod-eq_of_lt}
use lib.ListN.{length}
use lib.Dec.{eqb}
use borrow.Author.Tests.{lt-leb, lt-ltb}
use Rattle.queue.specs.Fifo.{added}
use Rattle.registers.specs.Choose.{pick}
use Rattle.registers.specs.Refusals.{first_of}
use Rattle.registers.specs.Model.{Model, with_edition, with_control, with_tx}
use Rattle.registers.specs.Offsets.{register_of}
use Rattle.registers.specs.Access.{bits_beyond, cr0_rule, cr1_rule, cpsr_rule, dr_rule, write_refusal, cr0_written, cr1_written, cpsr_written, dr_written, write_model}
use Rattle.registers.specs.declared.Control.{Control}
use Rattle.registers.specs.declared.offsets.Register.TheVariants.{Dr}
use Rattle.registers.proofs.Picks.{pick_yes, pick_both}

-- What stays ---------------------------------------------------------------------------------------------------------

-- CR1 and the words to send.
pub record Kept (m n : Model) : Type 0 where
  pub cr1 : n.control.cr1 ≡ m.control.cr1
  pub tx : n.tx ≡ m.tx

pub cr0_kept : (m : Model) (active : Bool) (v : ℕ) → Kept m (write_model m active 0x00 v)
unfolding write_model register_of cr0_written
cr0_kept m active v = pick_both (Kept m) (eqb (write_refusal m active (register_of 0x00) v) 0) _ _ (λ _. record { cr1 = refl; tx = refl }) (λ _. record { cr1 = refl; tx = refl })

pub cpsr_kept : (m : Model) (active : Bool) (v : ℕ) → Kept m (write_model m active 0x10 v)
unfolding write_model register_of cpsr_written
cpsr_kept m active v = pick_both (Kept m) (eqb (write_refusal m active (register_of 0x10) v) 0) _ _ (λ _. record { cr1 = refl; tx = refl }) (λ _. record { cr1 = refl; tx = refl })

pub cr1_tx : (m : Model) (active : Bool) (v : ℕ) → (write_model m active 0x04 v).tx ≡ m.tx
unfolding write_model register_of cr1_written
cr1_tx m active v = pick_both (λ (n : Model). n.tx ≡ m.tx) (eqb (write_refusal m active (register_of 0x04) v) 0) _ _ (λ _. refl) (λ _. refl)

-- no word to send changes a control register
pub dr_control : (m : Model) (active : Bool) (v : ℕ) → (write_model m active 0x08 v).control ≡ m.control
unfolding write_model register_of dr_written
dr_control m active v = pick_both (λ (n : Model). n.control ≡ m.control) (eqb (write_refusal m active (register_of 0x08) v) 0) _ _ (λ _. refl) (λ _. refl)

-- What is written ----------------------------------------------------------------------------------------------------

-- CR1 is the low four bits of the value or, where it is refused, as it was
pub cr1_either : (P : ℕ → Type 0) (m : Model) (active : Bool) (v : ℕ) → P (v % 0x10) → P m.control.cr1 → P (write_model m active 0x04 v).control.cr1
unfolding write_model register_of cr1_written
cr1_either P m active v h k = pick_both (λ (n : Model). P n.control.cr1) (eqb (write_refusal m active (register_of 0x04) v) 0) _ _ (λ _. h) (λ _. k)

-- a word of 16 bits is not refused with fewer than eight waiting
dr_passes : (m : Model) (active : Bool) (w : ℕ) → w < 65536 → length m.tx < 8 → eqb (write_refusal m active Dr w) 0 ≡ true
unfolding write_refusal dr_rule
dr_passes m active w p q = ap₂ (λ (s t : Bool). eqb (first_of (pick s 4 0) (pick t 7 0)) 0) (lt-leb 65536 w p) (lt-leb 8 (length m.tx) q)

-- It goes after them, and nothing else changes.
pub dr_added : (m : Model) (active : Bool) (w : ℕ) → w < 65536 → length m.tx < 8 → write_model m active 0x08 w ≡ with_tx m (m.tx ++ (w ∷ []))
unfolding write_model register_of dr_written added
dr_added m active w p q =
    pick_yes (dr_written m w) m (dr_passes m active w p q)
    ∙ ap (with_tx m) (pick_yes (m.tx ++ (w % 65536 ∷ [])) m.tx (lt-ltb (length m.tx) 8 q) ∙ ap (λ (n : ℕ). m.tx ++ (n ∷ [])) (mod-eq_of_lt p))

-- In either edition --------------------------------------------------------------------------------------------------

-- What a write of CR0, CPSR or CR1 makes of the control registers depends on nothing else in a register file; with two
-- editions only the edition differs.

either_alike : (e t : Bool) (m m' n n' : Model) → n.control ≡ with_edition m.control e → n'.control ≡ with_edition m'.control e → (pick t n' n).control ≡ with_edition (pick t m' m).control e
either_alike e true m m' n n' h k = k
either_alike e false m m' n n' h k = h

pub cr0_alike : (e : Bool) (m n : Model) (active : Bool) (v : ℕ) → n.control ≡ with_edition m.control e → (write_model n active 0x00 v).control ≡ with_edition (write_model m active 0x00 v).control e
unfolding write_model write_refusal register_of cr0_written
cr0_alike e m n active v h =
    either_alike e (eqb (first_of (bits_beyond 0x10000 v) (cr0_rule active v)) 0) m (cr0_written m v) n (cr0_written n v) h (ap (λ (c : Control). (cr0_written (with_control m c) v).control) h)

pub cpsr_alike : (e : Bool) (m n : Model) (active : Bool) (v : ℕ) → n.control ≡ with_edition m.control e → (write_model n active 0x10 v).control ≡ with_edition (write_model m active 0x10 v).control e
unfolding write_model write_refusal register_of cpsr_written
cpsr_alike e m n active v h =
    either_alike e (eqb (first_of (bits_beyond 0x100 v) (cpsr_rule active)) 0) m (cpsr_written m v) n (cpsr_written n v) h (ap (λ (c : Control). (cpsr_written (with_control m c) v).control) h)

pub cr1_alike : (e : Bool) (m n : Model) (active : Bool) (v : ℕ) → n.control ≡ with_edition m.control e → (write_model n active 0x04 v).control ≡ with_edition (write_model m active 0x04 v).control e
unfolding write_model write_refusal register_of cr1_rule cr1_written
cr1_alike e m n active v h =
    let passes : Control → Bool = λ c. eqb (first_of (bits_beyond 0x10 v) (cr1_rule (with_control m c) active v)) 0 in
    ap (λ (t : Bool). (pick t (cr1_written n v) n).control) (ap passes h)
    ∙ either_alike e (passes m.control) m (cr1_written m v) n (cr1_written n v) h (ap (λ (c : Control). (cr1_written (with_control m c) v).control) h)
