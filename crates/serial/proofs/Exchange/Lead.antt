-- What leads up to the exchange: the master off, its lines idle, until the slave has seen nothing else for three cycles.
use Prim.Native.Nat.{ℕ, suc, ◌+◌, ◌≤◌}
use mathlib.Core.Path.{◌≡◌, ap, ap₂, ◌∙◌, subst, refl}
use mathlib.Core.Bool.{Bool, true, false, not, ◌&&◌}
use mathlib.Core.List.{List, [], ◌∷◌}
use native.Mathlib.Omega.{arith}
use lib.Dec.{eqb}
use Rattle.registers.specs.Bits.{bit_at}
use Rattle.registers.proofs.Picks.{pick_both}
use Rattle.registers.specs.Model.{Model}
use Rattle.registers.specs.Offsets.{register_of}
use Rattle.registers.specs.Settings.{settings_of, enabled_of}
use Rattle.registers.specs.Transfer.{end_cycle}
use Rattle.registers.specs.Access.{read_model, data_taken, write_model, write_done, write_refusal, cr0_written, cr1_written, cpsr_written, icr_written, dr_written, imsc_written, dmacr_written}
use Rattle.registers.proofs.Accesses.{read_either, control_read}
use Rattle.registers.specs.declared.Control.{Control}
use Rattle.registers.specs.declared.offsets.Register.{Register}
use Rattle.registers.specs.declared.offsets.Register.TheVariants.{Cr0, Cr1, Dr, Sr, Cpsr, Imsc, Ris, Mis, Icr, Dmacr, Identity, Reserved, Outside}
use Rattle.frames.specs.Engine.{cleared, no_word}
use Rattle.frames.specs.Lines.{lines_of}
use Rattle.serial.specs.Cycle.{DeviceModel, end_of, take_if, receive_if, step_model, device_step, cycle_of, active_device}
use Rattle.serial.proofs.Cycles.{control_cycle, active_idle, step_stopped, end_cleared}
use Rattle.serial.specs.Access.{read_device, write_device}
use Rattle.serial.proofs.Accesses.{engine_kept}
use Rattle.serial.specs.Sound.{sound_device}
use Rattle.serial.proofs.Soundness.{sound_cycle, sound_read, sound_write}
use Rattle.serial.specs.Pair.{wire, PairModel, pair_cycle}
use Rattle.serial.specs.Demand3.{Step, play, plays, cycles_in, control_of, Stays}
use Rattle.serial.specs.Demand3.Which.{master, slave}
use Rattle.serial.specs.Demand3.Step.{read, write}
use Rattle.frames.specs.declared.engine.Engine.{Engine}
use Rattle.frames.specs.declared.lines.Lines.{Lines}
use Rattle.frames.specs.declared.lines.Pins.{Pins}

-- Accesses that leave the control registers leave the engine, the pins and the lines ----------------------------------

ror_read : (m : Model) (o : ℕ) → (read_model m o).ror ≡ m.ror
unfolding data_taken
ror_read m o = read_either (λ (x : Model). x.ror ≡ m.ror) m refl o (λ _. refl)

write_ror : (m : Model) (p : Register) (v : ℕ) → m.ror ≡ false → (write_done m p v).ror ≡ false
unfolding cr0_written cr1_written cpsr_written icr_written dr_written imsc_written dmacr_written
write_ror m Cr0 v h = h
write_ror m Cr1 v h = h
write_ror m Dr v h = h
write_ror m Sr v h = h
write_ror m Cpsr v h = h
write_ror m Imsc v h = h
write_ror m Ris v h = h
write_ror m Mis v h = h
write_ror m Icr v h = ap (λ (t : Bool). t && not (bit_at v 0)) h
write_ror m Dmacr v h = h
write_ror m (Identity i) v h = h
write_ror m Reserved v h = h
write_ror m Outside v h = h

ror_write : (m : Model) (active : Bool) (o v : ℕ) → m.ror ≡ false → (write_model m active o v).ror ≡ false
unfolding write_model
ror_write m active o v h = pick_both (λ (z : Model). z.ror ≡ false) (eqb (write_refusal m active (register_of o) v) 0) _ _ (λ _. write_ror m (register_of o) v h) (λ _. h)

-- A device that is off, or on and idle ---------------------------------------------------------------------------------

-- n cycles of it are over; i are its idle lines
pub record Resting (i : Lines) (c : Control) (n : ℕ) (d : DeviceModel) : Type 0 where
  pub control : d.registers.control ≡ c
  pub sound : sound_device d ≡ true
  pub ror : d.registers.ror ≡ false
  pub frame : d.engine.frame ≡ false
  pub engine : 1 ≤ n → d.engine ≡ cleared
  pub lines : 1 ≤ n → d.lines ≡ i

module _ {i : Lines} {c : Control} {n : ℕ} {d : DeviceModel} (l : Resting i c n d) where
  resting_read : (o : ℕ) → Resting i c n (read_device d o)
  unfolding read_device
  resting_read o =
      record { control = control_read d.registers o ∙ l.control; sound = sound_read d o l.sound; ror = ror_read d.registers o ∙ l.ror; frame = l.frame; engine = l.engine; lines = l.lines }

  -- a write, with the control registers that it leaves
  resting_write : {c' : Control} (o v : ℕ) → (write_device d o v).registers.control ≡ c' → (write_device d o v).engine ≡ d.engine → Resting i c' n (write_device d o v)
  unfolding write_device
  resting_write o v e k = record { control = e; sound = sound_write d o v l.sound; ror = ror_write d.registers (active_device d) o v l.ror; frame = ap (λ (e : Engine). e.frame) k ∙ l.frame; engine = λ z. k ∙ l.engine z; lines = l.lines }

  -- a cycle in which nothing happens
  resting_cycle : (x : Pins) → lines_of (settings_of c) cleared ≡ i → device_step d x ≡ no_word cleared → Resting i c (suc n) (cycle_of d x)
  unfolding cycle_of end_cycle take_if receive_if
  resting_cycle x p q =
      let e : (cycle_of d x).engine ≡ cleared = ap (λ r. end_of (settings_of d.registers.control) r.engine) q ∙ end_cleared _ in
      record {
        control = control_cycle d x ∙ l.control;
        sound = sound_cycle d x l.sound;
        ror = ap (λ r. (step_model d.registers r).ror) q ∙ l.ror;
        frame = ap (λ (x : Engine). x.frame) e;
        engine = λ _. e;
        lines = λ _. ap₂ (λ (z : Control) r. lines_of (settings_of z) r.engine) l.control q ∙ p;
      }

  -- with SSE clear nothing does
  pub step_off : (x : Pins) → enabled_of c ≡ false → device_step d x ≡ no_word cleared
  step_off x off = step_stopped d x (active_idle d.registers.control d.engine l.frame ∙ ap enabled_of l.control ∙ off)

-- The lead-in ----------------------------------------------------------------------------------------------------------

-- n cycles are over with the master off; i and j are the idle lines of both
pub record Lead (i j : Lines) (c₁ c₂ : Control) (n : ℕ) (g : PairModel) : Type 0 where
  pub first : Resting i c₁ n g.first
  pub second : Resting j c₂ n g.second
  pub newest : 2 ≤ n → g.second.pins.newest ≡ wire i
  pub middle : 3 ≤ n → g.second.pins.middle ≡ wire i
  pub oldest : 4 ≤ n → g.second.pins.oldest ≡ wire i

module _ {i j : Lines} {c₁ c₂ : Control} {n : ℕ} (g : PairModel) (l : Lead i j c₁ c₂ n g) where
  -- an access to one of them

  lead_first : {c : Control} {d : DeviceModel} → Resting i c n d → Lead i j c c₂ n (record { first = d; second = g.second })
  lead_first k = record { first = k; second = l.second; newest = l.newest; middle = l.middle; oldest = l.oldest }

  lead-read₂ : (o : ℕ) → Lead i j c₁ c₂ n (play (read slave o) g)
  unfolding read_device
  lead-read₂ o = record { first = l.first; second = resting_read l.second o; newest = l.newest; middle = l.middle; oldest = l.oldest }

  pub lead-write₁ : (c : Control) (o v : ℕ) → control_of master (play (write master o v) g) ≡ c → (write_device g.first o v).engine ≡ g.first.engine → Lead i j c c₂ n (play (write master o v) g)
  lead-write₁ c o v e k = lead_first (resting_write l.first o v e k)

  pub lead-write₂ : (c : Control) (o v : ℕ) → control_of slave (play (write slave o v) g) ≡ c → (write_device g.second o v).engine ≡ g.second.engine → Lead i j c₁ c n (play (write slave o v) g)
  unfolding write_device
  lead-write₂ c o v e k = record { first = l.first; second = resting_write l.second o v e k; newest = l.newest; middle = l.middle; oldest = l.oldest }

  -- a cycle in which both stay idle
  lead_cycle : lines_of (settings_of c₁) cleared ≡ i → lines_of (settings_of c₂) cleared ≡ j → device_step g.first (wire g.second.lines) ≡ no_word cleared → device_step g.second (wire g.first.lines) ≡ no_word cleared
      → Lead i j c₁ c₂ (suc n) (pair_cycle g)
  unfolding pair_cycle cycle_of
  lead_cycle p q q₁ q₂ =
      record {
        first = resting_cycle l.first (wire g.second.lines) p q₁;
        second = resting_cycle l.second (wire g.first.lines) q q₂;
        newest = λ m. ap wire (l.first.lines (omega arith));
        middle = λ m. l.newest (omega arith);
        oldest = λ m. l.middle (omega arith);
      }

-- Any steps that leave the control registers: the master off, and the slave idle in every cycle.
module _ {i j : Lines} {c₁ c₂ : Control} (p : lines_of (settings_of c₁) cleared ≡ i) (q : lines_of (settings_of c₂) cleared ≡ j) (off : enabled_of c₁ ≡ false)
    (from : ℕ) (quiet : (n : ℕ) (g : PairModel) → from ≤ n → Lead i j c₁ c₂ n g → device_step g.second (wire g.first.lines) ≡ no_word cleared) where
  pub lead_steps : (xs : List Step) (n m : ℕ) (g : PairModel) → n + cycles_in xs ≡ m → from ≤ n → Stays xs g → Lead i j c₁ c₂ n g → Lead i j c₁ c₂ m (plays xs g)
  lead_steps [] n m g e k z l = subst (λ (x : ℕ). Lead i j c₁ c₂ x g) (omega arith) l
  lead_steps (Step.cycle ∷ xs) n m g e k z l =
      lead_steps xs (suc n) m (pair_cycle g) (omega arith) (omega arith) z.2
      (lead_cycle g l p q (step_off l.first (wire g.second.lines) off) (quiet n g k l))
  lead_steps (read master o ∷ xs) n m g e k z l = lead_steps xs n m _ e k z.2 (lead_first g l (resting_read l.first o))
  lead_steps (read slave o ∷ xs) n m g e k z l = lead_steps xs n m _ e k z.2 (lead-read₂ g l o)
  lead_steps (write master o v ∷ xs) n m g e k z l = lead_steps xs n m _ e k z.2 (lead-write₁ g l c₁ o v (z.0 ∙ l.first.control) (engine_kept g.first o v z.0))
  lead_steps (write slave o v ∷ xs) n m g e k z l = lead_steps xs n m _ e k z.2 (lead-write₂ g l c₂ o v (z.1 ∙ l.second.control) (engine_kept g.second o v z.1))
