-- What a done write says, and what an access leaves of CR0, CR1 and CPSR.
use Prim.Native.Nat.{ℕ, ◌/◌, ◌%◌, ◌^◌, ◌≤◌, ◌<◌}
use mathlib.Core.Path.{◌≡◌, refl, sym, ap, ◌∙◌}
use mathlib.Core.Bool.{Bool, true, false, not, ◌&&◌, ◌||◌}
use native.Mathlib.Omega.{arith}
use native.Mathlib.Nat.{mod-eq_of_lt}
use lib.Dec.{leb, eqb}
use borrow.Author.Tests.{leb-false, eqb-true, eqb-false}
use Rattle.registers.specs.Choose.{pick}
use Rattle.registers.specs.Bits.{bit_at, bits_differ}
use Rattle.registers.proofs.Picks.{pick_yes, pick_no, pick_both, and_off, under_off, both_absurd}
use Rattle.registers.specs.Refusals.{first_of}
use Rattle.registers.specs.Model.{Model}
use Rattle.registers.specs.Offsets.{register_of}
use Rattle.registers.specs.Settings.{permitted_of}
use Rattle.registers.specs.Access.{read_refusal, read_done, read_model, data_taken, bits_beyond, cr0_rule, cr1_rule, cpsr_rule, write_refusal, cr0_written, cr1_written, cpsr_written, icr_written, dr_written, imsc_written, dmacr_written, write_done, write_model}
use Rattle.registers.specs.declared.Control.{Control}
use Rattle.registers.specs.declared.offsets.Register.{Register}
use Rattle.registers.specs.declared.offsets.Register.TheVariants.{Cr0, Cr1, Dr, Sr, Cpsr, Imsc, Ris, Mis, Icr, Dmacr, Identity, Reserved, Outside}

-- What a done write says ---------------------------------------------------------------------------------------------

-- of two refusals neither applies
pub first_done : (a b : ℕ) → first_of a b ≡ 0 → (a ≡ 0) × (b ≡ 0)
first_done a b h = go (eqb a 0) refl
  where
    go : (t : Bool) → eqb a 0 ≡ t → (a ≡ 0) × (b ≡ 0)
    go true e = (eqb-true a 0 e, sym (pick_yes b a e) ∙ h)
    go false e = absurd (eqb-false a 0 e (sym (pick_no b a e) ∙ h))

-- a refusal number that is not given
pick-passed : (t : Bool) (n k : ℕ) → 1 ≤ n → pick t n k ≡ 0 → (t ≡ false) × (k ≡ 0)
pick-passed true n k p h = absurd (omega arith)
pick-passed false n k p h = (refl, h)

pick_met : (t : Bool) (n : ℕ) → 1 ≤ n → pick t 0 n ≡ 0 → t ≡ true
pick_met true n p h = refl
pick_met false n p h = absurd (omega arith)

pub bits_done : (limit v : ℕ) → bits_beyond limit v ≡ 0 → v < limit
bits_done limit v h = leb-false limit v (pick-passed (leb limit v) 4 0 (omega arith) h).0

pub record Cr0Done (active : Bool) (v : ℕ) : Type 0 where
  pub small : v < 0x10000
  pub clear : active ≡ false
  pub permitted : permitted_of v ≡ true

pub cr0_done : (m : Model) (active : Bool) (v : ℕ) → write_refusal m active Cr0 v ≡ 0 → Cr0Done active v
unfolding write_refusal cr0_rule
cr0_done m active v h =
    let f = first_done _ _ h in
    let r = pick-passed active 5 _ (omega arith) f.1 in
    record { small = bits_done 0x10000 v f.0; clear = r.0; permitted = pick_met (permitted_of v) 6 (omega arith) r.1 }

-- MS and LBM stay while active; SSE is set only with permitted CR0 and CPSR not 0.
pub record Cr1Done (m : Model) (active : Bool) (v : ℕ) : Type 0 where
  pub small : v < 0x10
  pub stays : active ≡ true → (bits_differ m.control.cr1 v 2 || bits_differ m.control.cr1 v 0) ≡ false
  pub permitted : bit_at v 1 ≡ true → permitted_of m.control.cr0 ≡ true
  pub divided : bit_at v 1 ≡ true → 1 ≤ m.control.cpsr

pub cr1_done : (m : Model) (active : Bool) (v : ℕ) → write_refusal m active Cr1 v ≡ 0 → Cr1Done m active v
unfolding write_refusal cr1_rule
cr1_done m active v h =
    let f = first_done _ _ h in
    let r = pick-passed (active && (bits_differ m.control.cr1 v 2 || bits_differ m.control.cr1 v 0)) 5 _ (omega arith) f.1 in
    let s = (pick-passed (bit_at v 1 && (not (permitted_of m.control.cr0) || eqb m.control.cpsr 0)) 6 0 (omega arith) r.1).0 in
    record {
      small = bits_done 0x10 v f.0;
      stays = λ e. and_off active _ r.0 e;
      permitted = λ e. (under_off (permitted_of m.control.cr0) _ (and_off (bit_at v 1) _ s e)).0;
      divided = λ e. let z = eqb-false m.control.cpsr 0 (under_off (permitted_of m.control.cr0) _ (and_off (bit_at v 1) _ s e)).1 in omega arith;
    }

pub record CpsrDone (active : Bool) (v : ℕ) : Type 0 where
  pub small : v < 0x100
  pub clear : active ≡ false

pub cpsr_done : (m : Model) (active : Bool) (v : ℕ) → write_refusal m active Cpsr v ≡ 0 → CpsrDone active v
unfolding write_refusal cpsr_rule
cpsr_done m active v h =
    let f = first_done _ _ h in
    record { small = bits_done 0x100 v f.0; clear = (pick-passed active 5 0 (omega arith) f.1).0 }

-- A read leaves the register file or, for DR, takes a word out of it: what holds for both holds after it.
module _ (P : Model → Type 0) (m : Model) (h : P m) where
  done_either : (p : Register) → (p ≡ Dr → P (data_taken m)) → P (read_done m p)
  done_either Cr0 k = h
  done_either Cr1 k = h
  done_either Dr k = k refl
  done_either Sr k = h
  done_either Cpsr k = h
  done_either Imsc k = h
  done_either Ris k = h
  done_either Mis k = h
  done_either Icr k = h
  done_either Dmacr k = h
  done_either (Identity i) k = h
  done_either Reserved k = h
  done_either Outside k = h

  pub read_either : (o : ℕ) → (register_of o ≡ Dr → P (data_taken m)) → P (read_model m o)
  unfolding read_model
  read_either o k = pick_both P (eqb (read_refusal m (register_of o)) 0) _ _ (λ _. done_either (register_of o) k) (λ _. h)

-- The control registers after an access -------------------------------------------------------------------------------

-- a read leaves them
pub control_read : (m : Model) (o : ℕ) → (read_model m o).control ≡ m.control
unfolding data_taken
control_read m o = read_either (λ (x : Model). x.control ≡ m.control) m refl o (λ _. refl)

-- a write leaves CR0, CPSR and MS while active: all that a running engine's bounds depend on

pub record SameBounds (m n : Model) : Type 0 where
  pub cr0 : n.control.cr0 ≡ m.control.cr0
  pub cpsr : n.control.cpsr ≡ m.control.cpsr
  pub role : bit_at n.control.cr1 2 ≡ bit_at m.control.cr1 2

bounds_control : (m n : Model) → n.control ≡ m.control → SameBounds m n
bounds_control m n e = record { cr0 = ap (λ (c : Control). c.cr0) e; cpsr = ap (λ (c : Control). c.cpsr) e; role = ap (λ (c : Control). bit_at c.cr1 2) e }

role_written : (m : Model) (active : Bool) (v : ℕ) → active ≡ true → Cr1Done m active v → bit_at (v % 0x10) 2 ≡ bit_at m.control.cr1 2
role_written m active v e d =
    let same = eqb-true (m.control.cr1 / 2 ^ 2 % 2) (v / 2 ^ 2 % 2) (under_off _ _ (d.stays e)).0 in
    ap (λ (x : ℕ). bit_at x 2) (mod-eq_of_lt d.small) ∙ ap (λ (x : ℕ). eqb x 1) (sym same)

bounds_written : (m : Model) (active : Bool) (p : Register) (v : ℕ) → active ≡ true → write_refusal m active p v ≡ 0 → SameBounds m (write_done m p v)
unfolding cr1_written icr_written dr_written imsc_written dmacr_written
bounds_written m active Cr0 v e r = both_absurd active e (cr0_done m active v r).clear
bounds_written m active Cr1 v e r = record { cr0 = refl; cpsr = refl; role = role_written m active v e (cr1_done m active v r) }
bounds_written m active Dr v e r = bounds_control m _ refl
bounds_written m active Sr v e r = bounds_control m _ refl
bounds_written m active Cpsr v e r = both_absurd active e (cpsr_done m active v r).clear
bounds_written m active Imsc v e r = bounds_control m _ refl
bounds_written m active Ris v e r = bounds_control m _ refl
bounds_written m active Mis v e r = bounds_control m _ refl
bounds_written m active Icr v e r = bounds_control m _ refl
bounds_written m active Dmacr v e r = bounds_control m _ refl
bounds_written m active (Identity i) v e r = bounds_control m _ refl
bounds_written m active Reserved v e r = bounds_control m _ refl
bounds_written m active Outside v e r = bounds_control m _ refl

-- no write changes the edition

edition_written : (m : Model) (p : Register) (v : ℕ) → (write_done m p v).control.edition2 ≡ m.control.edition2
unfolding cr0_written cr1_written cpsr_written icr_written dr_written imsc_written dmacr_written
edition_written m Cr0 v = refl
edition_written m Cr1 v = refl
edition_written m Dr v = refl
edition_written m Sr v = refl
edition_written m Cpsr v = refl
edition_written m Imsc v = refl
edition_written m Ris v = refl
edition_written m Mis v = refl
edition_written m Icr v = refl
edition_written m Dmacr v = refl
edition_written m (Identity i) v = refl
edition_written m Reserved v = refl
edition_written m Outside v = refl

pub edition_write : (m : Model) (active : Bool) (o v : ℕ) → (write_model m active o v).control.edition2 ≡ m.control.edition2
unfolding write_model
edition_write m active o v =
    pick_both (λ (x : Model). x.control.edition2 ≡ m.control.edition2) (eqb (write_refusal m active (register_of o) v) 0) _ _ (λ _. edition_written m (register_of o) v) (λ _. refl)

pub bounds_write : (m : Model) (active : Bool) (o v : ℕ) → active ≡ true → SameBounds m (write_model m active o v)
unfolding write_model
bounds_write m active o v e =
    pick_both (λ (x : Model). SameBounds m x) (eqb (write_refusal m active (register_of o) v) 0) _ _
    (λ r. bounds_written m active (register_of o) v e (eqb-true _ _ r)) (λ _. bounds_control m _ refl)
