-- What a sound register file's tests say, and that every access and every step of the engine keeps them.
use Prim.Native.Nat.{ℕ, ◌+◌, ◌*◌, ◌/◌, ◌%◌, ◌≤◌, ◌<◌}
use mathlib.Core.Path.{◌≡◌, refl, sym, ap, ◌∙◌}
use mathlib.Core.Bool.{Bool, true, false, not, ◌&&◌, ◌||◌}
use mathlib.Core.List.{List, [], ◌∷◌, ◌++◌}
use mathlib.Core.Logic.{◌⊎◌}
use native.Mathlib.Omega.{arith}
use native.Mathlib.Nat.{mul-pos, mod-eq_of_lt}
use lib.ListN.{length, get_or, length-append}
use lib.Dec.{ltb, leb, eqb}
use borrow.Author.Tests.{ltb-true, leb-true, eqb-true, leb-false, eqb-false, lt-ltb, le-leb, eq-eqb, ne_eqb}
use Rattle.queue.specs.Fifo.{added, rest}
use Rattle.registers.specs.Bits.{bit_at}
use Rattle.std.proofs.Math.Logic.{⊎_elim}
use Rattle.std.proofs.lemmas.Bool.{and_from, or_right, not-true, not_from_false}
use Rattle.registers.proofs.Products.{divisor_most as product_most}
use Rattle.registers.proofs.Picks.{pick_yes, pick_no, pick_both, and_left, and_right, under_elim, under_intro, both_absurd}
use Rattle.registers.specs.Time.{cycles_of}
use Rattle.registers.specs.Model.{Model, reset_registers, with_cr0, with_cr1, with_cpsr}
use Rattle.registers.specs.Offsets.{register_of}
use Rattle.registers.specs.Settings.{permitted_of, enabled_of, divisor_of, bits_of, format_of}
use Rattle.registers.specs.Access.{read_model, data_taken, kept_count, write_refusal, cr0_written, cr1_written, cpsr_written, icr_written, dr_written, imsc_written, dmacr_written, write_done, write_model}
use Rattle.registers.proofs.Accesses.{read_either, cr0_done, cr1_done, cpsr_done}
use Rattle.registers.specs.Transfer.{next_word, limit_of, idles_of, timeout_of, take_word, receive_word, end_cycle}
use Rattle.registers.specs.Sound.{control_sound, masks_sound, queues_sound, count_sound, sound_registers, words_fit, registers_fit}
use Rattle.registers.specs.declared.Control.{Control}
use Rattle.registers.specs.declared.Timeout.{Timeout}
use Rattle.registers.specs.declared.time.Cycles.{Cycles}
use Rattle.registers.specs.declared.offsets.Register.{Register}
use Rattle.registers.specs.declared.offsets.Register.TheVariants.{Cr0, Cr1, Dr, Sr, Cpsr, Imsc, Ris, Mis, Icr, Dmacr, Identity, Reserved, Outside}
use Rattle.registers.specs.declared.settings.Format.{Format}
use Rattle.registers.specs.declared.settings.Format.TheVariants.{Reserved as ReservedFormat}

-- The tests as facts -------------------------------------------------------------------------------------------------

pub record ControlFacts (c : Control) (active : Bool) : Type 0 where
  pub shape : (eqb c.cr0 0 || permitted_of c.cr0) ≡ true
  pub even : c.cpsr % 2 ≡ 0
  pub cr1 : c.cr1 ≤ 15
  pub permitted : active ≡ true → permitted_of c.cr0 ≡ true
  pub divided : active ≡ true → 1 ≤ c.cpsr

pub control_elim : (c : Control) (active : Bool) → control_sound c active ≡ true → ControlFacts c active
unfolding control_sound
control_elim c active h =
    let a = and_left ((eqb c.cr0 0 || permitted_of c.cr0) && eqb (c.cpsr % 2) 0) _ h in
    let b = and_right ((eqb c.cr0 0 || permitted_of c.cr0) && eqb (c.cpsr % 2) 0) _ h in
    let u = under_elim active _ (and_right (leb c.cr1 15) _ b) in
    record {
      shape = and_left (eqb c.cr0 0 || permitted_of c.cr0) _ a;
      even = eqb-true _ _ (and_right (eqb c.cr0 0 || permitted_of c.cr0) _ a);
      cr1 = leb-true _ _ (and_left (leb c.cr1 15) _ b);
      permitted = λ k. and_left (permitted_of c.cr0) _ (u k);
      divided = λ k. let z = eqb-false c.cpsr 0 (not-true _ (and_right (permitted_of c.cr0) _ (u k))) in omega arith;
    }

pub control_intro : (c : Control) (active : Bool) → ControlFacts c active → control_sound c active ≡ true
unfolding control_sound
control_intro c active t =
    and_from _ _ (and_from _ _ t.shape (eq-eqb _ _ t.even))
    (and_from _ _ (le-leb _ _ t.cr1)
    (under_intro active _ (λ k. and_from _ _ (t.permitted k) (not_from_false _ (ne_eqb c.cpsr 0 (λ z. let o = t.divided k in omega arith))))))

-- The timeout's count: below 64 slots with SSE set, 0 with SSE clear.
pub record CountFacts (c : Control) (n : ℕ) : Type 0 where
  pub running : enabled_of c ≡ true → n < 64 * (divisor_of c).0
  pub stopped : enabled_of c ≡ false → n ≡ 0

pub record SoundFacts (m : Model) (active : Bool) : Type 0 where
  pub control : ControlFacts m.control active
  pub imsc : m.masks.imsc ≤ 15
  pub dmacr : m.masks.dmacr ≤ 3
  pub tx : length m.tx ≤ 8
  pub rx : length m.rx ≤ 8
  pub count : CountFacts m.control m.timeout.count.0

pub sound_elim : (m : Model) (active : Bool) → sound_registers m active ≡ true → SoundFacts m active
unfolding sound_registers masks_sound queues_sound count_sound limit_of cycles_of
sound_elim m active h =
    let a = and_left (control_sound m.control active && masks_sound m.masks) _ h in
    let b = and_right (control_sound m.control active && masks_sound m.masks) _ h in
    let k = and_right (control_sound m.control active) _ a in
    let q = and_left (queues_sound m) _ b in
    let n = and_right (queues_sound m) _ b in
    record {
      control = control_elim m.control active (and_left (control_sound m.control active) _ a);
      imsc = leb-true _ _ (and_left (leb m.masks.imsc 15) _ k);
      dmacr = leb-true _ _ (and_right (leb m.masks.imsc 15) _ k);
      tx = leb-true _ _ (and_left (leb (length m.tx) 8) _ q);
      rx = leb-true _ _ (and_right (leb (length m.tx) 8) _ q);
      count = record {
        running = λ e. ltb-true _ _ (sym (pick_yes _ _ e) ∙ n);
        stopped = λ e. eqb-true _ _ (sym (pick_no _ _ e) ∙ n);
      };
    }

pub sound_intro : (m : Model) (active : Bool) → SoundFacts m active → sound_registers m active ≡ true
unfolding sound_registers masks_sound queues_sound count_sound limit_of cycles_of
sound_intro m active t =
    and_from _ _ (and_from _ _ (control_intro m.control active t.control) (and_from _ _ (le-leb _ _ t.imsc) (le-leb _ _ t.dmacr)))
    (and_from _ _ (and_from _ _ (le-leb _ _ t.tx) (le-leb _ _ t.rx))
    (pick_both (λ (x : Bool). x ≡ true) (enabled_of m.control) _ _ (λ e. lt-ltb _ _ (t.count.running e)) (λ e. eq-eqb _ _ (t.count.stopped e))))

-- What it means to be active -------------------------------------------------------------------------------------------------

pub divisor_positive : (c : Control) (active : Bool) → ControlFacts c active → active ≡ true → 1 ≤ (divisor_of c).0
unfolding divisor_of
divisor_positive c active t e = mul-pos (let o = t.divided e in let v = t.even in omega arith) (omega arith)

pub divisor_most : (c : Control) → c.cpsr < 256 → (divisor_of c).0 ≤ 32512
unfolding divisor_of
divisor_most c h = product_most c.cpsr c.cr0 h

pub bits_least : (cr0 : ℕ) → permitted_of cr0 ≡ true → 4 ≤ bits_of cr0
unfolding permitted_of bits_of
bits_least cr0 h = let p = leb-true 3 (cr0 % 16) (and_right (ltb (cr0 / 16 % 4) 3) _ h) in omega arith

pub bits_most : (cr0 : ℕ) → bits_of cr0 ≤ 16
unfolding bits_of
bits_most cr0 = omega arith

pub format_known : (cr0 : ℕ) → permitted_of cr0 ≡ true → format_of cr0 ≡ ReservedFormat → ⊥
unfolding permitted_of format_of
format_known cr0 h =
    pick_both (λ (f : Format). f ≡ ReservedFormat → ⊥) (eqb (cr0 / 16 % 4) 0) _ _ (λ _ e. let z : ◌≡◌ {A = ℕ} 0 1 = cc in omega arith)
    (λ a. pick_both (λ (f : Format). f ≡ ReservedFormat → ⊥) (eqb (cr0 / 16 % 4) 1) _ _ (λ _ e. let z : ◌≡◌ {A = ℕ} 0 1 = cc in omega arith)
    (λ b. pick_both (λ (f : Format). f ≡ ReservedFormat → ⊥) (eqb (cr0 / 16 % 4) 2) _ _ (λ _ e. let z : ◌≡◌ {A = ℕ} 0 1 = cc in omega arith)
    (λ c _. let l = ltb-true (cr0 / 16 % 4) 3 (and_left (ltb (cr0 / 16 % 4) 3) _ h) in omega (arith, eqb-false (cr0 / 16 % 4) 0 a, eqb-false (cr0 / 16 % 4) 1 b, eqb-false (cr0 / 16 % 4) 2 c))))

-- all of it, of a sound control
pub record EnabledFacts (c : Control) : Type 0 where
  pub divisor : 1 ≤ (divisor_of c).0
  pub least : 4 ≤ bits_of c.cr0
  pub most : bits_of c.cr0 ≤ 16
  pub format : format_of c.cr0 ≡ ReservedFormat → ⊥

pub enabled_elim : (c : Control) (active : Bool) → control_sound c active ≡ true → active ≡ true → EnabledFacts c
enabled_elim c active h e =
    let t = control_elim c active h in
    record {
      divisor = divisor_positive c active t e;
      least = bits_least c.cr0 (t.permitted e);
      most = bits_most c.cr0;
      format = format_known c.cr0 (t.permitted e);
    }

-- with SSE set the engine is active
abbrev pub Enables : Control → Bool → Type 0
Enables c active = enabled_of c ≡ true → active ≡ true

count_zero : (c : Control) (active : Bool) → Enables c active → ControlFacts c active → CountFacts c 0
count_zero c active on t = record { running = λ e. let p = divisor_positive c active t (on e) in omega arith; stopped = λ _. refl }

-- Queues -------------------------------------------------------------------------------------------------------------

rest_most : (xs : List ℕ) → length xs ≤ 8 → length (rest xs) ≤ 8
rest_most [] h = h
rest_most (x ∷ xs) h = omega arith

added_most : (xs : List ℕ) (w : ℕ) → length xs ≤ 8 → length (added xs w) ≤ 8
unfolding added
added_most xs w h =
    pick_both (λ (l : List ℕ). length l ≤ 8) (ltb (length xs) 8) _ _ (λ e. let l = ltb-true (length xs) 8 e in simp length-append (omega arith)) (λ _. h)

-- Reset and the engine's steps ---------------------------------------------------------------------------------------

pub sound_reset : (edition2 : Bool) → sound_registers (reset_registers edition2) false ≡ true
unfolding sound_registers control_sound masks_sound queues_sound count_sound enabled_of permitted_of
sound_reset edition2 = refl

pub sound_take : (m : Model) (active : Bool) → sound_registers m active ≡ true → sound_registers (take_word m) active ≡ true
unfolding take_word
sound_take m active h =
    let t = sound_elim m active h in
    sound_intro _ active (record { control = t.control; imsc = t.imsc; dmacr = t.dmacr; tx = rest_most m.tx t.tx; rx = t.rx; count = t.count })

pub sound_receive : (m : Model) (active : Bool) (w : ℕ) → sound_registers m active ≡ true → sound_registers (receive_word m w) active ≡ true
unfolding receive_word
sound_receive m active w h =
    let t = sound_elim m active h in
    sound_intro _ active (record { control = t.control; imsc = t.imsc; dmacr = t.dmacr; tx = t.tx; rx = added_most m.rx w t.rx; count = t.count })

-- the count at the end of a cycle
count_end : (m : Model) (active frame : Bool) → Enables m.control active → SoundFacts m active → CountFacts m.control (timeout_of m frame).count.0
unfolding timeout_of limit_of cycles_of idles_of
count_end m active frame on t =
    pick_both (λ (x : Timeout). CountFacts m.control x.count.0) (idles_of m frame) _ _
    (λ i. pick_both (λ (x : Timeout). CountFacts m.control x.count.0) (leb (64 * (divisor_of m.control).0) (m.timeout.count.0 + 1)) _ _
    (λ _. count_zero m.control active on t.control)
    (λ k. record {
      running = λ _. let l = leb-false (64 * (divisor_of m.control).0) (m.timeout.count.0 + 1) k in omega arith;
      stopped = λ e. both_absurd (enabled_of m.control) (and_right (not (eqb (length m.rx) 0)) _ (and_left (not (eqb (length m.rx) 0) && enabled_of m.control) _ i)) e;
    }))
    (λ _. count_zero m.control active on t.control)

pub sound_end : (m : Model) (active frame : Bool) → Enables m.control active → sound_registers m active ≡ true → sound_registers (end_cycle m frame) active ≡ true
unfolding end_cycle
sound_end m active frame on h =
    let t = sound_elim m active h in
    sound_intro _ active (record { control = t.control; imsc = t.imsc; dmacr = t.dmacr; tx = t.tx; rx = t.rx; count = count_end m active frame on t })

-- Reading ------------------------------------------------------------------------------------------------------------

sound_taken : (m : Model) (active : Bool) → Enables m.control active → sound_registers m active ≡ true → sound_registers (data_taken m) active ≡ true
unfolding data_taken
sound_taken m active on h =
    let t = sound_elim m active h in
    sound_intro _ active (record { control = t.control; imsc = t.imsc; dmacr = t.dmacr; tx = t.tx; rx = rest_most m.rx t.rx; count = count_zero m.control active on t.control })

pub sound_read : (m : Model) (active : Bool) (o : ℕ) → Enables m.control active → sound_registers m active ≡ true → sound_registers (read_model m o) active ≡ true
sound_read m active o on h = read_either (λ (x : Model). sound_registers x active ≡ true) m h o (λ _. sound_taken m active on h)

-- Writing ------------------------------------------------------------------------------------------------------------

-- After a write the engine is active only if it was before or SSE is now set.
abbrev pub Becomes : Bool → Bool → Control → Type 0
Becomes active active' c = active' ≡ true → (active ≡ true) ⊎ (enabled_of c ≡ true)

-- where CR1 stays, only if it was before
still_active : (c c' : Control) (active active' : Bool) → enabled_of c' ≡ enabled_of c → Enables c active → Becomes active active' c' → active' ≡ true → active ≡ true
still_active c c' active active' same on becomes e = ⊎_elim (λ x. x) (λ x. on (sym same ∙ x)) (becomes e)

pub sound_active : (m : Model) (active active' : Bool) → (active' ≡ true → active ≡ true) → sound_registers m active ≡ true → sound_registers m active' ≡ true
sound_active m active active' k h =
    let t = sound_elim m active h in
    let c = t.control in
    sound_intro m active' (record {
      control = record { shape = c.shape; even = c.even; cr1 = c.cr1; permitted = λ e. c.permitted (k e); divided = λ e. c.divided (k e) };
      imsc = t.imsc;
      dmacr = t.dmacr;
      tx = t.tx;
      rx = t.rx;
      count = t.count;
    })

-- the count that a written CR1 keeps
count_enabling : (c c' : Control) (n : ℕ) → CountFacts c n → 1 ≤ (divisor_of c').0 → divisor_of c' ≡ divisor_of c → n < 64 * (divisor_of c').0
count_enabling c c' n t p e = go (enabled_of c) refl
  where
    go : (x : Bool) → enabled_of c ≡ x → n < 64 * (divisor_of c').0
    go true y = rw e (t.running y)
    go false y = let z = t.stopped y in omega arith

module _ (m : Model) (active active' : Bool) (v : ℕ) (on : Enables m.control active) (h : sound_registers m active ≡ true) where
  sound_cr0 : write_refusal m active Cr0 v ≡ 0 → Becomes active active' (cr0_written m v).control → sound_registers (cr0_written m v) active' ≡ true
  unfolding cr0_written enabled_of
  sound_cr0 r becomes =
      let t = sound_elim m active h in
      let d = cr0_done m active v r in
      let c : Control = with_cr0 m.control (v % 0x10000) in
      let p : permitted_of (v % 0x10000) ≡ true = rw (mod-eq_of_lt d.small) d.permitted in
      sound_intro _ active' (record {
        control = record {
          shape = or_right (eqb (v % 0x10000) 0) _ p;
          even = t.control.even;
          cr1 = t.control.cr1;
          permitted = λ _. p;
          divided = λ e. both_absurd active (still_active m.control c active active' refl on becomes e) d.clear;
        };
        imsc = t.imsc;
        dmacr = t.dmacr;
        tx = t.tx;
        rx = t.rx;
        count = record { running = λ e. both_absurd active (on e) d.clear; stopped = λ e. t.count.stopped e };
      })

  sound_cr1 : write_refusal m active Cr1 v ≡ 0 → Becomes active active' (cr1_written m v).control → Enables (cr1_written m v).control active' → sound_registers (cr1_written m v) active' ≡ true
  unfolding cr1_written enabled_of divisor_of
  sound_cr1 r becomes on' =
      let t = sound_elim m active h in
      let d = cr1_done m active v r in
      let c : Control = with_cr1 m.control (v % 0x10) in
      let same : bit_at (v % 0x10) 1 ≡ bit_at v 1 = ap (λ (x : ℕ). bit_at x 1) (mod-eq_of_lt d.small) in
      let u : ControlFacts c active' = record {
        shape = t.control.shape;
        even = t.control.even;
        cr1 = let s = d.small in omega arith;
        permitted = λ e. ⊎_elim t.control.permitted (λ x. d.permitted (sym same ∙ x)) (becomes e);
        divided = λ e. ⊎_elim t.control.divided (λ x. d.divided (sym same ∙ x)) (becomes e);
      } in
      sound_intro _ active' (record {
        control = u;
        imsc = t.imsc;
        dmacr = t.dmacr;
        tx = t.tx;
        rx = t.rx;
        count = pick_both (λ (x : Cycles). CountFacts c x.0) (bit_at v 1) _ _
            (λ y. record { running = λ e. count_enabling m.control c m.timeout.count.0 t.count (divisor_positive c active' u (on' e)) refl; stopped = λ e. both_absurd (bit_at v 1) y (sym same ∙ e) })
            (λ _. count_zero c active' on' u);
      })

  sound_cpsr : write_refusal m active Cpsr v ≡ 0 → Becomes active active' (cpsr_written m v).control → sound_registers (cpsr_written m v) active' ≡ true
  unfolding cpsr_written enabled_of
  sound_cpsr r becomes =
      let t = sound_elim m active h in
      let d = cpsr_done m active v r in
      let c : Control = with_cpsr m.control (v % 0x100 / 2 * 2) in
      let none : active' ≡ true → ⊥ = λ e. both_absurd active (still_active m.control c active active' refl on becomes e) d.clear in
      sound_intro _ active' (record {
        control = record {
          shape = t.control.shape;
          even = omega arith;
          cr1 = t.control.cr1;
          permitted = λ e. absurd (none e);
          divided = λ e. absurd (none e);
        };
        imsc = t.imsc;
        dmacr = t.dmacr;
        tx = t.tx;
        rx = t.rx;
        count = record { running = λ e. both_absurd active (on e) d.clear; stopped = λ e. t.count.stopped e };
      })

  sound_icr : sound_registers (icr_written m v) active ≡ true
  unfolding icr_written
  sound_icr =
      let t = sound_elim m active h in
      sound_intro _ active (record {
        control = t.control;
        imsc = t.imsc;
        dmacr = t.dmacr;
        tx = t.tx;
        rx = t.rx;
        count = pick_both (λ (x : Cycles). CountFacts m.control x.0) (not (bit_at v 1)) _ _ (λ _. t.count) (λ _. count_zero m.control active on t.control);
      })

  sound_dr : sound_registers (dr_written m v) active ≡ true
  unfolding dr_written
  sound_dr =
      let t = sound_elim m active h in
      sound_intro _ active (record { control = t.control; imsc = t.imsc; dmacr = t.dmacr; tx = added_most m.tx (v % 0x10000) t.tx; rx = t.rx; count = t.count })

  sound_imsc : sound_registers (imsc_written m v) active ≡ true
  unfolding imsc_written
  sound_imsc =
      let t = sound_elim m active h in
      sound_intro _ active (record { control = t.control; imsc = omega arith; dmacr = t.dmacr; tx = t.tx; rx = t.rx; count = t.count })

  sound_dmacr : sound_registers (dmacr_written m v) active ≡ true
  unfolding dmacr_written
  sound_dmacr =
      let t = sound_elim m active h in
      sound_intro _ active (record { control = t.control; imsc = t.imsc; dmacr = omega arith; tx = t.tx; rx = t.rx; count = t.count })

  -- a register that leaves CR1
  sound_kept : (x : Model) → sound_registers x active ≡ true → x.control ≡ m.control → Becomes active active' x.control → sound_registers x active' ≡ true
  sound_kept x k e becomes = sound_active x active active' (still_active m.control x.control active active' (ap enabled_of e) on becomes) k

  sound_written : (p : Register) → write_refusal m active p v ≡ 0 → Becomes active active' (write_done m p v).control → Enables (write_done m p v).control active' → sound_registers (write_done m p v) active' ≡ true
  unfolding icr_written dr_written imsc_written dmacr_written
  sound_written Cr0 r b on' = sound_cr0 r b
  sound_written Cr1 r b on' = sound_cr1 r b on'
  sound_written Dr r b on' = sound_kept _ sound_dr refl b
  sound_written Sr r b on' = sound_kept m h refl b
  sound_written Cpsr r b on' = sound_cpsr r b
  sound_written Imsc r b on' = sound_kept _ sound_imsc refl b
  sound_written Ris r b on' = sound_kept m h refl b
  sound_written Mis r b on' = sound_kept m h refl b
  sound_written Icr r b on' = sound_kept _ sound_icr refl b
  sound_written Dmacr r b on' = sound_kept _ sound_dmacr refl b
  sound_written (Identity i) r b on' = sound_kept m h refl b
  sound_written Reserved r b on' = sound_kept m h refl b
  sound_written Outside r b on' = sound_kept m h refl b

pub sound_write : (m : Model) (active active' : Bool) (o v : ℕ) → Enables m.control active → sound_registers m active ≡ true
    → Becomes active active' (write_model m active o v).control → Enables (write_model m active o v).control active' → sound_registers (write_model m active o v) active' ≡ true
unfolding write_model
sound_write m active active' o v on h =
    pick_both (λ (x : Model). Becomes active active' x.control → Enables x.control active' → sound_registers x active' ≡ true) (eqb (write_refusal m active (register_of o) v) 0) _ _
    (λ e. sound_written m active active' v on h (register_of o) (eqb-true _ _ e)) (λ _ b _. sound_kept m active active' v on h m h refl b)

-- What the bytes of a record can hold --------------------------------------------------------------------------------

pub record FitFacts (m : Model) : Type 0 where
  pub cr0 : m.control.cr0 < 0x10000
  pub cpsr : m.control.cpsr < 0x100
  pub count : m.timeout.count.0 < 0x100000000
  pub tx : words_fit m.tx ≡ true
  pub rx : words_fit m.rx ≡ true

pub fits_elim : (m : Model) → registers_fit m ≡ true → FitFacts m
unfolding registers_fit
fits_elim m h =
    let a = and_left ((ltb m.control.cr0 0x10000 && ltb m.control.cpsr 0x100) && ltb m.timeout.count.0 0x100000000) _ h in
    let b = and_right ((ltb m.control.cr0 0x10000 && ltb m.control.cpsr 0x100) && ltb m.timeout.count.0 0x100000000) _ h in
    let c = and_left (ltb m.control.cr0 0x10000 && ltb m.control.cpsr 0x100) _ a in
    record {
      cr0 = ltb-true _ _ (and_left (ltb m.control.cr0 0x10000) _ c);
      cpsr = ltb-true _ _ (and_right (ltb m.control.cr0 0x10000) _ c);
      count = ltb-true _ _ (and_right (ltb m.control.cr0 0x10000 && ltb m.control.cpsr 0x100) _ a);
      tx = and_left (words_fit m.tx) _ b;
      rx = and_right (words_fit m.tx) _ b;
    }

pub fits_intro : (m : Model) → FitFacts m → registers_fit m ≡ true
unfolding registers_fit
fits_intro m t =
    and_from _ _ (and_from _ _ (and_from _ _ (lt-ltb _ _ t.cr0) (lt-ltb _ _ t.cpsr)) (lt-ltb _ _ t.count))
    (and_from _ _ t.tx t.rx)

rest_fits : (xs : List ℕ) → words_fit xs ≡ true → words_fit (rest xs) ≡ true
unfolding words_fit
rest_fits [] h = h
rest_fits (x ∷ xs) h = and_right (ltb x 0x10000) _ h

append_fits : (xs : List ℕ) (w : ℕ) → w < 0x10000 → words_fit xs ≡ true → words_fit (xs ++ (w ∷ [])) ≡ true
unfolding words_fit
append_fits [] w p h = and_from _ _ (lt-ltb _ _ p) refl
append_fits (x ∷ xs) w p h = and_from _ _ (and_left (ltb x 0x10000) _ h) (append_fits xs w p (and_right (ltb x 0x10000) _ h))

added_fits : (xs : List ℕ) (w : ℕ) → w < 0x10000 → words_fit xs ≡ true → words_fit (added xs w) ≡ true
unfolding added
added_fits xs w p h = pick_both (λ (l : List ℕ). words_fit l ≡ true) (ltb (length xs) 8) _ _ (λ _. append_fits xs w p h) (λ _. h)

-- the next word to send fits
pub next_fits : (m : Model) → words_fit m.tx ≡ true → next_word m < 0x10000
unfolding next_word words_fit
next_fits m h = go m.tx h
  where
    go : (xs : List ℕ) → words_fit xs ≡ true → get_or xs 0 0 < 0x10000
    go [] h = omega arith
    go (x ∷ xs) h = ltb-true _ _ (and_left (ltb x 0x10000) _ h)

pub fits_reset : (edition2 : Bool) → registers_fit (reset_registers edition2) ≡ true
unfolding registers_fit words_fit
fits_reset edition2 = refl

pub fits_take : (m : Model) → registers_fit m ≡ true → registers_fit (take_word m) ≡ true
unfolding take_word
fits_take m h =
    let t = fits_elim m h in
    fits_intro _ (record { cr0 = t.cr0; cpsr = t.cpsr; count = t.count; tx = rest_fits m.tx t.tx; rx = t.rx })

pub fits_receive : (m : Model) (w : ℕ) → w < 0x10000 → registers_fit m ≡ true → registers_fit (receive_word m w) ≡ true
unfolding receive_word
fits_receive m w p h =
    let t = fits_elim m h in
    fits_intro _ (record { cr0 = t.cr0; cpsr = t.cpsr; count = t.count; tx = t.tx; rx = added_fits m.rx w p t.rx })

pub fits_end : (m : Model) (frame : Bool) → registers_fit m ≡ true → registers_fit (end_cycle m frame) ≡ true
unfolding end_cycle timeout_of limit_of cycles_of
fits_end m frame h =
    let t = fits_elim m h in
    fits_intro _ (record {
      cr0 = t.cr0;
      cpsr = t.cpsr;
      count = pick_both (λ (x : Timeout). x.count.0 < 0x100000000) (idles_of m frame) _ _
          (λ _. pick_both (λ (x : Timeout). x.count.0 < 0x100000000) (leb (64 * (divisor_of m.control).0) (m.timeout.count.0 + 1)) _ _
          (λ _. omega arith)
          (λ k. let l = leb-false (64 * (divisor_of m.control).0) (m.timeout.count.0 + 1) k in let p = divisor_most m.control t.cpsr in omega arith))
          (λ _. omega arith);
      tx = t.tx;
      rx = t.rx;
    })

pub fits_read : (m : Model) (o : ℕ) → registers_fit m ≡ true → registers_fit (read_model m o) ≡ true
unfolding data_taken
fits_read m o h =
    let t = fits_elim m h in
    read_either (λ (x : Model). registers_fit x ≡ true) m h o
    (λ _. fits_intro _ (record { cr0 = t.cr0; cpsr = t.cpsr; count = omega arith; tx = t.tx; rx = rest_fits m.rx t.rx }))

fits_kept : (keep : Bool) (n : Cycles) → n.0 < 0x100000000 → (kept_count keep n).0 < 0x100000000
fits_kept keep n h = pick_both (λ (x : Cycles). x.0 < 0x100000000) keep _ _ (λ _. h) (λ _. omega arith)

fits_written : (m : Model) (p : Register) (v : ℕ) → registers_fit m ≡ true → registers_fit (write_done m p v) ≡ true
unfolding cr0_written cr1_written cpsr_written icr_written dr_written imsc_written dmacr_written
fits_written m Cr0 v h =
    let t = fits_elim m h in
    fits_intro _ (record { cr0 = omega arith; cpsr = t.cpsr; count = t.count; tx = t.tx; rx = t.rx })
fits_written m Cr1 v h =
    let t = fits_elim m h in
    fits_intro _ (record { cr0 = t.cr0; cpsr = t.cpsr; count = fits_kept (bit_at v 1) m.timeout.count t.count; tx = t.tx; rx = t.rx })
fits_written m Dr v h =
    let t = fits_elim m h in
    fits_intro _ (record { cr0 = t.cr0; cpsr = t.cpsr; count = t.count; tx = added_fits m.tx (v % 0x10000) (omega arith) t.tx; rx = t.rx })
fits_written m Sr v h = h
fits_written m Cpsr v h =
    let t = fits_elim m h in
    fits_intro _ (record { cr0 = t.cr0; cpsr = omega arith; count = t.count; tx = t.tx; rx = t.rx })
fits_written m Imsc v h =
    let t = fits_elim m h in
    fits_intro _ (record { cr0 = t.cr0; cpsr = t.cpsr; count = t.count; tx = t.tx; rx = t.rx })
fits_written m Ris v h = h
fits_written m Mis v h = h
fits_written m Icr v h =
    let t = fits_elim m h in
    fits_intro _ (record { cr0 = t.cr0; cpsr = t.cpsr; count = fits_kept (not (bit_at v 1)) m.timeout.count t.count; tx = t.tx; rx = t.rx })
fits_written m Dmacr v h =
    let t = fits_elim m h in
    fits_intro _ (record { cr0 = t.cr0; cpsr = t.cpsr; count = t.count; tx = t.tx; rx = t.rx })
fits_written m (Identity i) v h = h
fits_written m Reserved v h = h
fits_written m Outside v h = h

pub fits_write : (m : Model) (active : Bool) (o v : ℕ) → registers_fit m ≡ true → registers_fit (write_model m active o v) ≡ true
unfolding write_model
fits_write m active o v h =
    pick_both (λ (x : Model). registers_fit x ≡ true) (eqb (write_refusal m active (register_of o) v) 0) _ _ (λ _. fits_written m (register_of o) v h) (λ _. h)
