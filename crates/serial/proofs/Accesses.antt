-- Accesses to a device: their refusal numbers are at most 8, and neither a refused access nor a read of a register other than
-- DR changes anything.
use Prim.Native.Nat.{ℕ, ◌≤◌}
use mathlib.Core.Path.{◌≡◌, refl, sym, ap, ◌∙◌}
use mathlib.Core.Bool.{Bool, true, false, not, ◌&&◌, ◌||◌, true≢false}
use native.Mathlib.Omega.{arith}
use lib.ListN.{length}
use lib.Dec.{leb, eqb}
use Rattle.registers.specs.Choose.{pick}
use Rattle.registers.specs.Bits.{bit_at, bits_differ}
use Rattle.registers.specs.Refusals.{number, refusal_of, Word, Refused}
use Rattle.registers.specs.Access as registers
use Rattle.registers.specs.Model.{Model}
use Rattle.registers.specs.Offsets.{register_of}
use Rattle.registers.specs.Settings.{enabled_of, settings_of, permitted_of}
use Rattle.registers.specs.Access.{read_refusal, read_word, read_done, read_model, write_done, write_model, read_answer, bits_beyond, write_access, cr0_rule, cr1_rule, cpsr_rule, dr_rule, write_rule, write_refusal}
use Rattle.registers.specs.declared.Control.{Control}
use Rattle.registers.specs.declared.refusals.Refusal.{Refusal}
use Rattle.registers.proofs.Numbers.{number_given}
use Rattle.registers.specs.declared.offsets.Register.{Register}
use Rattle.registers.specs.declared.offsets.Register.TheVariants.{Cr0, Cr1, Dr, Sr, Cpsr, Imsc, Ris, Mis, Icr, Dmacr, Identity, Reserved, Outside}
use Rattle.serial.specs.Cycle.{DeviceModel, active_device, with_registers, with_engine}
use Rattle.registers.proofs.Picks.{pick_no}
use Rattle.registers.proofs.Accesses.{read_either}
use Rattle.frames.specs.Engine.{cleared, while_active}
use Rattle.serial.specs.Access.{read_answer_of, read_device, write_refusal_of, engine_after, write_device, Write}
use Rattle.frames.specs.declared.engine.Engine.{Engine}

pick_most : (t : Bool) (a b : ℕ) → a ≤ 8 → b ≤ 8 → pick t a b ≤ 8
pick_most true a b p q = p
pick_most false a b p q = q

read_refusal_most : (m : Model) (p : Register) → read_refusal m p ≤ 8
read_refusal_most m Cr0 = omega arith
read_refusal_most m Cr1 = omega arith
read_refusal_most m Dr = pick_most (eqb (length m.rx) 0) 8 0 (omega arith) (omega arith)
read_refusal_most m Sr = omega arith
read_refusal_most m Cpsr = omega arith
read_refusal_most m Imsc = omega arith
read_refusal_most m Ris = omega arith
read_refusal_most m Mis = omega arith
read_refusal_most m Icr = omega arith
read_refusal_most m Dmacr = omega arith
read_refusal_most m (Identity i) = omega arith
read_refusal_most m Reserved = omega arith
read_refusal_most m Outside = omega arith

answer_most : (t : Bool) (w n : ℕ) → n ≤ 8 → refusal_of (pick t (Word w) (Refused n)) ≤ 8
answer_most true w n h = omega arith
answer_most false w n h = h

pub read_most : (d : DeviceModel) (o : ℕ) → refusal_of (read_answer_of d o) ≤ 8
unfolding read_answer_of read_answer
read_most d o =
    let m = d.registers in
    answer_most (eqb (read_refusal m (register_of o)) 0) (read_word m d.engine.frame (register_of o)) (read_refusal m (register_of o)) (read_refusal_most m (register_of o))

beyond_most : (limit v : ℕ) → bits_beyond limit v ≤ 8
beyond_most limit v = pick_most (leb limit v) 4 0 (omega arith) (omega arith)

write_access_most : (p : Register) (v : ℕ) → write_access p v ≤ 8
write_access_most Cr0 v = beyond_most 0x10000 v
write_access_most Cr1 v = beyond_most 0x10 v
write_access_most Dr v = beyond_most 0x10000 v
write_access_most Sr v = omega arith
write_access_most Cpsr v = beyond_most 0x100 v
write_access_most Imsc v = beyond_most 0x10 v
write_access_most Ris v = omega arith
write_access_most Mis v = omega arith
write_access_most Icr v = beyond_most 0x4 v
write_access_most Dmacr v = beyond_most 0x4 v
write_access_most (Identity i) v = omega arith
write_access_most Reserved v = omega arith
write_access_most Outside v = omega arith

write_rule_most : (m : Model) (active : Bool) (p : Register) (v : ℕ) → write_rule m active p v ≤ 8
unfolding cr0_rule cr1_rule cpsr_rule dr_rule
write_rule_most m active Cr0 v = pick_most active 5 _ (omega arith) (pick_most (permitted_of v) 0 6 (omega arith) (omega arith))
write_rule_most m active Cr1 v =
    pick_most (active && (bits_differ m.control.cr1 v 2 || bits_differ m.control.cr1 v 0)) 5 _ (omega arith)
    (pick_most (bit_at v 1 && (not (permitted_of m.control.cr0) || eqb m.control.cpsr 0)) 6 0 (omega arith) (omega arith))
write_rule_most m active Dr v = pick_most (leb 8 (length m.tx)) 7 0 (omega arith) (omega arith)
write_rule_most m active Sr v = omega arith
write_rule_most m active Cpsr v = pick_most active 5 0 (omega arith) (omega arith)
write_rule_most m active Imsc v = omega arith
write_rule_most m active Ris v = omega arith
write_rule_most m active Mis v = omega arith
write_rule_most m active Icr v = omega arith
write_rule_most m active Dmacr v = omega arith
write_rule_most m active (Identity i) v = omega arith
write_rule_most m active Reserved v = omega arith
write_rule_most m active Outside v = omega arith

pub write_most : (d : DeviceModel) (o v : ℕ) → write_refusal_of d o v ≤ 8
unfolding write_refusal_of write_refusal
write_most d o v =
    let a = write_access (register_of o) v in
    pick_most (eqb a 0) (write_rule d.registers (active_device d) (register_of o) v) a (write_rule_most d.registers (active_device d) (register_of o) v) (write_access_most (register_of o) v)

-- A read is never refused with 0.
refused_some : (t : Bool) (x w k : ℕ) → eqb x 0 ≡ t → pick t (Word w) (Refused x) ≡ Refused k → eqb k 0 ≡ false
refused_some true x w k q e = absurd (let z : ◌≡◌ {A = ℕ} 0 1 = cc in omega arith)
refused_some false x w k q e = let z : x ≡ k = cc in rw z at q

pub refused_read : (d : DeviceModel) (o k : ℕ) → read_answer_of d o ≡ Refused k → eqb k 0 ≡ false
unfolding read_answer_of read_answer
refused_read d o k e = refused_some (eqb (read_refusal d.registers (register_of o)) 0) (read_refusal d.registers (register_of o)) (read_word d.registers d.engine.frame (register_of o)) k refl e

-- A refused access changes nothing ------------------------------------------------------------------------------------

pub read_same : (d : DeviceModel) (o : ℕ) → eqb (refusal_of (read_answer_of d o)) 0 ≡ false → read_device d o ≡ d
unfolding read_answer_of read_answer read_device read_model
read_same d o h = go (eqb (read_refusal d.registers (register_of o)) 0) h
  where
    go : (t : Bool) → eqb (refusal_of (pick t (Word (read_word d.registers d.engine.frame (register_of o))) (Refused (read_refusal d.registers (register_of o))))) 0 ≡ false
        → ◌≡◌ {A = DeviceModel} (with_registers d (pick t (read_done d.registers (register_of o)) d.registers)) d
    go true k = absurd (true≢false k)
    go false k = refl

pub same_engine : (m : Model) (e : Engine) → engine_after m m e ≡ e
unfolding engine_after settings_of
same_engine m e = go (enabled_of m.control)
  where
    go : (t : Bool) → pick t (pick (t || (e.frame && m.control.edition2)) e cleared) e ≡ e
    go true = refl
    go false = refl

pub write_same : (d : DeviceModel) (o v : ℕ) → eqb (write_refusal_of d o v) 0 ≡ false → write_device d o v ≡ d
unfolding write_refusal_of write_device write_model
write_same d o v h =
    let m = d.registers in
    ap (λ (x : Model). with_engine (with_registers d x) (engine_after m x d.engine)) (pick_no (write_done m (register_of o) v) m h)
    ∙ ap (with_engine d) (same_engine m d.engine)

-- So does a write that the register file refuses.
pub write_refused : (d : DeviceModel) (o v : ℕ) (e : Refusal) (m : Model) → registers.Write d.registers (active_device d) o v (number e) m → Write d o v (number e) (with_registers d m)
unfolding write_refusal_of write_model
write_refused d o v e m w =
    let h : eqb (write_refusal d.registers (active_device d) (register_of o) v) 0 ≡ false = rw (← w.refusal) (number_given e) in
    record {
      refusal = w.refusal;
      device = ap (with_registers d) (w.model ∙ pick_no (write_done d.registers (register_of o) v) d.registers h) ∙ sym (write_same d o v h);
    }

-- A read of a register other than DR changes nothing: a host may poll SR -----------------------------------------------

pub read_other_same : (d : DeviceModel) (o : ℕ) → (register_of o ≡ Dr → ⊥) → read_device d o ≡ d
unfolding read_device
read_other_same d o h = ap (with_registers d) (read_either (λ (x : Model). x ≡ d.registers) d.registers refl o (λ e. absurd (h e)))

-- A write to a device whose SSE is clear leaves its engine.
pub engine_enabling : (d : DeviceModel) (o v : ℕ) → enabled_of d.registers.control ≡ false → (write_device d o v).engine ≡ d.engine
unfolding write_device engine_after
engine_enabling d o v k = pick_no _ _ k

-- A write that leaves the control registers leaves the engine.
pub engine_kept : (d : DeviceModel) (o v : ℕ) → (write_device d o v).registers.control ≡ d.registers.control → (write_device d o v).engine ≡ d.engine
unfolding write_device engine_after
engine_kept d o v h =
    ap (λ (c : Control). pick (enabled_of d.registers.control) (while_active (settings_of c) d.engine) d.engine) h ∙ same_engine d.registers d.engine
