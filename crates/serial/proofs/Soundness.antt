-- Reset is sound, and every access and every cycle keeps a device sound and within the bytes of a record.
use Prim.Native.Nat.{ℕ, ◌+◌, ◌-◌, ◌*◌, ◌/◌, ◌%◌, ◌^◌, ◌≤◌, ◌<◌}
use mathlib.Core.Path.{◌≡◌, refl, sym, ap, ◌∙◌, subst}
use mathlib.Core.Bool.{Bool, true, false, not, ◌&&◌, ◌||◌}
use mathlib.Core.Logic.{◌⊎◌, inl, inr}
use native.Mathlib.Omega.{arith}
use native.Mathlib.Nat.{mod-le}
use lib.Dec.{ltb, leb, eqb}
use borrow.Author.Tests.{ltb-true, leb-true, leb-false, eqb-true, lt-ltb, le-leb}
use Rattle.std.specs.Prelude.{Option, Some, None}
use Rattle.std.specs.Bool.{then_some}
use Rattle.registers.specs.Time.{slots}
use Rattle.registers.specs.Choose.{pick}
use Rattle.registers.specs.Bits.{bit_at}
use Rattle.std.proofs.lemmas.Bool.{and_from, or_right, not-true}
use Rattle.registers.proofs.Picks.{pick_yes, pick_no, pick_both, and_left, and_right}
use Rattle.registers.specs.Model.{Model}
use Rattle.registers.specs.Settings.{format_of, bits_of, divisor_of, enabled_of, settings_of}
use Rattle.registers.specs.Access.{write_model, read_model}
use Rattle.registers.proofs.Accesses.{SameBounds, control_read, bounds_write, edition_write}
use Rattle.registers.specs.Transfer.{waiting_of, next_word, take_word, receive_word}
use Rattle.registers.specs.Sound.{sound_registers, registers_fit}
use Rattle.registers.proofs.Soundness.{ControlFacts, Enables, divisor_positive, divisor_most, bits_most}
use Rattle.registers.proofs.Soundness as file
use Rattle.registers.specs.declared.Control.{Control}
use Rattle.registers.specs.declared.settings.Format.{Format}
use Rattle.registers.specs.declared.settings.Format.TheVariants.{Motorola, Ti, Microwire, Reserved}
use Rattle.registers.specs.declared.settings.Settings.{Settings}
use Rattle.frames.specs.Bits.{shifted_in}
use Rattle.frames.specs.Engine.{active_of, clear_shift, cleared, with_shift, with_frame, with_slot, offered, loaded, started, driven, quieted, captured_of, completes, no_word, capture_step}
use Rattle.frames.specs.Slots.{motorola_event, ti_event, microwire_event, event_on, event_of, last_on, last_slot, width_of, capture_on, capture_width}
use Rattle.frames.specs.Lines.{master_txd}
use Rattle.frames.specs.Master.{joined_shift, act, resting, acting, data_bit, master_step, ticked, master_end}
use Rattle.serial.specs.Slave.{slave_take, selected_of, motorola_select, capture_edge, drive_edge, motorola_clock, motorola_edges, motorola_slave, with_mark, ti_falls, ti_rises, clock_falls, clock_rises, ti_slave, ready, data_over, data_rises, control_left, microwire_rises, microwire_falls, microwire_edges, microwire_slave, slave_on, slave_step, ended_on, word_over, slave_end}
use Rattle.serial.specs.Cycle.{DeviceModel, reset_device, step_of, tick_of, end_of, device_step, cycle_of, active_device}
use Rattle.serial.proofs.Cycles.{step_keeps, control_cycle, active_on, active_idle, step_stopped, cycle_stopped}
use Rattle.serial.specs.Access.{read_device, engine_after, write_device}
use Rattle.serial.specs.Sound.{stopped_sound, running_sound, engine_sound, sound_device, device_fits}
use Rattle.frames.specs.declared.engine.Shift.{Shift}
use Rattle.frames.specs.declared.engine.Engine.{Engine}
use Rattle.frames.specs.declared.engine.Step.{Step}
use Rattle.frames.specs.declared.lines.Pins.{Pins}
use Rattle.frames.specs.declared.slots.Event.{Event}
use Rattle.frames.specs.declared.slots.Event.TheVariants.{Begin, BeginDrive, Drive, First, Capture, Chain, JoinDrive, JoinCapture, Quiet, Release, Pause}

-- A running engine's facts. F is what the words' sizes depend on: one walk shows both soundness and what the bytes can hold.

pub record ShiftFacts (F : Type 0) (b : ℕ) (x : Shift) : Type 0 where
  pub captured : x.captured ≤ b
  pub sending : F → x.sending < 0x10000
  pub receiving : F → x.receiving < 0x10000

pub record EngineFacts (F : Type 0) (s : Settings) (e : Engine) : Type 0 where
  pub slot : e.slot.0 ≤ (last_slot s).0
  pub elapsed : e.elapsed.0 < s.divisor.0
  pub shift : ShiftFacts F (capture_width s) e.shift

-- The word of a step, if there is one, fits.
abbrev pub WordFits : Option ℕ → Type 0
WordFits None = Unit {0}
WordFits (Some w) = w < 0x10000

pub record StepFacts (F : Type 0) (s : Settings) (r : Step) : Type 0 where
  pub engine : EngineFacts F s r.engine
  pub word : WordFits r.completed

-- Where a chained word's slot lies: at most the last.
abbrev Lands : ℕ → Event → Type 0
Lands last Begin = Unit {0}
Lands last BeginDrive = Unit {0}
Lands last (Drive i) = Unit {0}
Lands last First = Unit {0}
Lands last Capture = Unit {0}
Lands last (Chain n) = n.0 ≤ last
Lands last (JoinDrive i) = Unit {0}
Lands last JoinCapture = Unit {0}
Lands last Quiet = Unit {0}
Lands last Release = Unit {0}
Lands last Pause = Unit {0}

module _ (last : ℕ) where
  lands_pick : (t : Bool) (x y : Event) → Lands last x → Lands last y → Lands last (pick t x y)
  lands_pick t x y p q = pick_both (λ (v : Event). Lands last v) t x y (λ _. p) (λ _. q)

event_lands_on : (f : Format) (phase : Bool) (b n : ℕ) → Lands (last_on f b) (event_on f phase b n)
unfolding motorola_event ti_event microwire_event
event_lands_on Motorola phase b n =
    lands_pick _ (eqb n 0) _ _ tt
    (lands_pick _ (leb n (2 * b)) _ _ (lands_pick _ (eqb (n % 2) 1) _ _ tt tt)
    (lands_pick _ (eqb n (2 * b + 1)) _ _ (lands_pick _ phase _ _ (omega arith) tt)
    (lands_pick _ (eqb n (2 * b + 2)) _ _ tt tt)))
event_lands_on Ti phase b n =
    lands_pick _ (eqb n 0) _ _ tt
    (lands_pick _ (eqb n 1) _ _ tt
    (lands_pick _ (eqb n 2) _ _ tt
    (lands_pick _ (eqb n (2 * b)) _ _ tt
    (lands_pick _ (eqb (n % 2) 0) _ _ tt tt))))
event_lands_on Microwire phase b n =
    lands_pick _ (eqb n 0) _ _ tt
    (lands_pick _ (ltb n 16) _ _ (lands_pick _ (eqb (n % 2) 0) _ _ tt tt)
    (lands_pick _ (eqb n 16) _ _ tt
    (lands_pick _ (ltb n (18 + 2 * b)) _ _ (lands_pick _ (leb 19 n && eqb (n % 2) 1) _ _ tt tt)
    (lands_pick _ (eqb n (18 + 2 * b)) _ _ (omega arith)
    (lands_pick _ (eqb n (19 + 2 * b)) _ _ tt tt)))))
event_lands_on Reserved phase b n = tt

event_lands : (s : Settings) (n : ℕ) → Lands (last_slot s).0 (event_of s (slots n))
unfolding event_of last_slot
event_lands s n = event_lands_on s.format s.phase s.bits n

-- The shift registers ------------------------------------------------------------------------------------------------

module _ (F : Type 0) (b : ℕ) where
  shift_cleared : ShiftFacts F b clear_shift
  shift_cleared = record { captured = omega arith; sending = λ _. omega arith; receiving = λ _. omega arith }

  shift_loaded : (w : ℕ) → (F → w < 0x10000) → ShiftFacts F b (loaded w)
  shift_loaded w h = record { captured = omega arith; sending = h; receiving = λ _. omega arith }

  shift_started : (width w : ℕ) → (F → w < 0x10000) → ShiftFacts F b (started width w)
  unfolding started
  shift_started width w h = record { captured = omega arith; sending = h; receiving = λ _. omega arith }

  shift_driven : (width i : ℕ) (x : Shift) → ShiftFacts F b x → ShiftFacts F b (driven width i x)
  unfolding driven
  shift_driven width i x t = record { captured = t.captured; sending = t.sending; receiving = t.receiving }

  shift_quieted : (x : Shift) → ShiftFacts F b x → ShiftFacts F b (quieted x)
  shift_quieted x t = record { captured = t.captured; sending = t.sending; receiving = t.receiving }

  shift_joined : (width i w : ℕ) (x : Shift) → (F → w < 0x10000) → ShiftFacts F b x → ShiftFacts F b (joined_shift width i w x)
  unfolding joined_shift
  shift_joined width i w x h t = record { captured = t.captured; sending = h; receiving = t.receiving }

  shift_captured : (bit : Bool) (x : Shift) → ShiftFacts F b x → ShiftFacts F b (captured_of b bit x)
  unfolding captured_of shifted_in
  shift_captured bit x t =
      pick_both (λ (y : Shift). ShiftFacts F b y) (ltb x.captured b) _ _
      (λ e. record { captured = let l = ltb-true x.captured b e in omega arith; sending = t.sending; receiving = λ _. omega arith })
      (λ _. t)

-- The engine's steps -------------------------------------------------------------------------------------------------

then_fits : (t : Bool) (w : ℕ) → w < 0x10000 → WordFits (then_some t w)
then_fits true w h = h
then_fits false w h = tt

module _ (F : Type 0) (s : Settings) where
  -- h is not 0 where any engine runs
  engine_cleared : (e : Engine) → EngineFacts F s e → EngineFacts F s cleared
  engine_cleared e t = record { slot = omega arith; elapsed = let p = t.elapsed in omega arith; shift = shift_cleared F (capture_width s) }

  step_none : (e : Engine) → EngineFacts F s e → StepFacts F s (no_word e)
  step_none e t = record { engine = t; word = tt }

  step_pick : (t : Bool) (x y : Step) → StepFacts F s x → StepFacts F s y → StepFacts F s (pick t x y)
  step_pick t x y p q = pick_both (λ (r : Step). StepFacts F s r) t x y (λ _. p) (λ _. q)

  engine_pick : (t : Bool) (x y : Engine) → (t ≡ true → EngineFacts F s x) → (t ≡ false → EngineFacts F s y) → EngineFacts F s (pick t x y)
  engine_pick t x y p q = pick_both (λ (e : Engine). EngineFacts F s e) t x y p q

  step_capture : (bit : Bool) (e : Engine) → EngineFacts F s e → StepFacts F s (capture_step (capture_width s) bit e)
  unfolding capture_step shifted_in
  step_capture bit e t = record {
    engine = record { slot = t.slot; elapsed = t.elapsed; shift = shift_captured F (capture_width s) bit e.shift t.shift };
    word = then_fits (completes (capture_width s) e.shift) _ (let l = mod-le (shifted_in e.shift.receiving bit) (2 ^ capture_width s) in omega arith);
  }

  step_drive : (i width : ℕ) (e : Engine) → EngineFacts F s e → StepFacts F s (no_word (with_shift e (driven width i e.shift)))
  step_drive i width e t = record {
    engine = record { slot = t.slot; elapsed = t.elapsed; shift = shift_driven F (capture_width s) width i e.shift t.shift };
    word = tt;
  }

  -- The master -----------------------------------------------------------------------------------------------------

  -- zeros, or a word that fits
  offered_fits : (may : Bool) (next : ℕ) → (F → next < 0x10000) → F → offered may next < 0x10000
  offered_fits may next n f = pick_both (λ (x : ℕ). x < 0x10000) may _ _ (λ _. n f) (λ _. omega arith)

  step_act : (e : Engine) (waiting : Bool) (next : ℕ) (bit : Bool) (v : Event) → EngineFacts F s e → (F → next < 0x10000) → Lands (last_slot s).0 v → StepFacts F s (act s e waiting next bit v)
  step_act e waiting next bit Begin t n l = record {
    engine = record { slot = t.slot; elapsed = t.elapsed; shift = shift_loaded F (capture_width s) (offered s.enabled next) (offered_fits s.enabled next n) };
    word = tt;
  }
  step_act e waiting next bit BeginDrive t n l = record {
    engine = record { slot = t.slot; elapsed = t.elapsed; shift = shift_started F (capture_width s) (width_of s) (offered s.enabled next) (offered_fits s.enabled next n) };
    word = tt;
  }
  step_act e waiting next bit (Drive i) t n l = step_drive i (width_of s) e t
  step_act e waiting next bit First t n l = record {
    engine = record { slot = t.slot; elapsed = t.elapsed; shift = shift_started F (capture_width s) (width_of s) e.shift.sending t.shift.sending };
    word = tt;
  }
  step_act e waiting next bit Capture t n l = step_capture bit e t
  step_act e waiting next bit (Chain k) t n l =
      step_pick waiting _ _
      (record { engine = record { slot = l; elapsed = t.elapsed; shift = shift_started F (capture_width s) (width_of s) next n }; word = tt })
      (step_none e t)
  step_act e waiting next bit (JoinDrive i) t n l =
      step_pick waiting _ _
      (record { engine = record { slot = omega arith; elapsed = t.elapsed; shift = shift_joined F (capture_width s) (width_of s) i next e.shift n t.shift }; word = tt })
      (step_drive i (width_of s) e t)
  step_act e waiting next bit JoinCapture t n l = step_pick (eqb e.shift.captured 0) _ _ (step_none e t) (step_capture bit e t)
  step_act e waiting next bit Quiet t n l = record {
    engine = record { slot = t.slot; elapsed = t.elapsed; shift = shift_quieted F (capture_width s) e.shift t.shift };
    word = tt;
  }
  step_act e waiting next bit Release t n l = record {
    engine = record { slot = t.slot; elapsed = t.elapsed; shift = shift_cleared F (capture_width s) };
    word = tt;
  }
  step_act e waiting next bit Pause t n l = step_none e t

  step_master : (e : Engine) (waiting : Bool) (next : ℕ) (rxd : Bool) → EngineFacts F s e → (F → next < 0x10000) → StepFacts F s (master_step s e waiting next rxd)
  unfolding master_step
  step_master e waiting next rxd t n =
      step_pick (acting e waiting) _ _ (step_act e waiting next (data_bit s (master_txd s e) rxd) (event_of s e.slot) t n (event_lands s e.slot.0)) (step_none e t)

  end_master : (e : Engine) → EngineFacts F s e → EngineFacts F s (master_end s e)
  unfolding master_end ticked
  end_master e t =
      engine_pick (resting e) _ _ (λ _. t)
      (λ _. engine_pick (ltb (e.elapsed.0 + 1) s.divisor.0) _ _
      (λ g. record { slot = t.slot; elapsed = ltb-true _ _ g; shift = t.shift })
      (λ _. engine_pick (ltb e.slot.0 (last_slot s).0) _ _
      (λ g. record { slot = let l = ltb-true e.slot.0 (last_slot s).0 g in omega arith; elapsed = let p = t.elapsed in omega arith; shift = t.shift })
      (λ _. engine_cleared e t)))

  -- The slave ------------------------------------------------------------------------------------------------------

  -- how a slave takes a word
  step_take : (e : Engine) (may : Bool) (next : ℕ) → EngineFacts F s e → (F → next < 0x10000) → StepFacts F s (slave_take s e may next)
  step_take e may next t n =
      record {
        engine = record { slot = t.slot; elapsed = t.elapsed; shift = shift_started F (capture_width s) s.bits (offered may next) (offered_fits may next n) };
        word = tt;
      }

  step_select : (e : Engine) (fell : Bool) (next : ℕ) → EngineFacts F s e → (F → next < 0x10000) → StepFacts F s (motorola_select s e fell next)
  unfolding motorola_select
  step_select e fell next t n =
      let c : EngineFacts F s (selected_of e) = record { slot = t.slot; elapsed = t.elapsed; shift = shift_cleared F (capture_width s) } in
      step_pick fell _ _
      (step_pick s.phase _ _ (step_none (selected_of e) c) (step_take (selected_of e) s.enabled next c n))
      (step_none e t)

  step_clock : (e : Engine) (captures drives : Bool) (next : ℕ) (bit : Bool) → EngineFacts F s e → (F → next < 0x10000) → StepFacts F s (motorola_clock s e captures drives next bit)
  unfolding motorola_clock
  step_clock e captures drives next bit t n =
      step_pick (e.frame && captures) _ _ (step_capture bit e t)
      (step_pick (e.frame && drives) _ _ (step_drive e.shift.captured s.bits e t)
      (step_pick (drives && s.phase) _ _ (step_take e s.enabled next t n) (step_none e t)))

  step_edges : (r : Step) (before seen : Pins) (next : ℕ) → StepFacts F s r → (F → next < 0x10000) → StepFacts F s (motorola_edges s r before seen next)
  unfolding motorola_edges
  step_edges r before seen next t n =
      let u = step_clock r.engine (capture_edge s before seen) (drive_edge s before seen) next (data_bit s r.engine.shift.level seen.rxd) t.engine n in
      step_pick r.engine.selected _ _ (record { engine = u.engine; word = u.word }) t

  step_motorola : (e : Engine) (before seen : Pins) (next : ℕ) → EngineFacts F s e → (F → next < 0x10000) → StepFacts F s (motorola_slave s e before seen next)
  unfolding motorola_slave
  step_motorola e before seen next t n =
      step_pick seen.fss _ _ (step_none cleared (engine_cleared e t))
      (step_edges (motorola_select s e before.fss next) before seen next (step_select e before.fss next t n) n)

  step_falls : (e : Engine) (fss bit : Bool) → EngineFacts F s e → StepFacts F s (ti_falls s e fss bit)
  unfolding ti_falls
  step_falls e fss bit t =
      let m : EngineFacts F s (with_mark e (e.mark || fss)) = record { slot = t.slot; elapsed = t.elapsed; shift = t.shift } in
      step_pick e.frame _ _
      (step_pick (fss && ltb (e.shift.captured + 1) (capture_width s)) _ _
      (record { engine = record { slot = t.slot; elapsed = t.elapsed; shift = shift_cleared F (capture_width s) }; word = tt })
      (step_capture bit (with_mark e (e.mark || fss)) m))
      (step_none (with_mark e (e.mark || fss)) m)

  step_rises : (e : Engine) (next : ℕ) → EngineFacts F s e → (F → next < 0x10000) → StepFacts F s (ti_rises s e next)
  unfolding ti_rises
  step_rises e next t n =
      step_pick e.mark _ _
      (step_take (with_mark e false) s.enabled next (record { slot = t.slot; elapsed = t.elapsed; shift = t.shift }) n)
      (step_pick e.frame _ _ (step_drive e.shift.captured s.bits e t) (step_none e t))

  step_ti : (e : Engine) (before seen : Pins) (next : ℕ) → EngineFacts F s e → (F → next < 0x10000) → StepFacts F s (ti_slave s e before seen next)
  unfolding ti_slave
  step_ti e before seen next t n =
      step_pick (clock_falls before seen) _ _ (step_falls e seen.fss (data_bit s e.shift.level seen.rxd) t)
      (step_pick (clock_rises before seen) _ _ (step_rises e next t n) (step_none e t))

  engine_ready : (e : Engine) → EngineFacts F s e → EngineFacts F s ready
  engine_ready e t = let c = engine_cleared e t in record { slot = c.slot; elapsed = c.elapsed; shift = c.shift }

  -- a Microwire slave's last slot, from the last data bit's rise on, is not beyond the format's
  module _ (room : 17 + 2 * s.bits ≤ (last_slot s).0) where
    slot_next : (n : ℕ) → data_over s n ≡ false → n + 1 ≤ (last_slot s).0
    slot_next n g = let l = leb-false (17 + 2 * s.bits) n g in omega arith

    engine_data_rises : (e : Engine) → EngineFacts F s e → EngineFacts F s (data_rises s e)
    unfolding data_rises
    engine_data_rises e t =
        engine_pick (eqb (e.slot.0 % 2) 0 && not (data_over s e.slot.0)) _ _
        (λ g. record { slot = slot_next e.slot.0 (not-true _ (and_right (eqb (e.slot.0 % 2) 0) _ g)); elapsed = t.elapsed; shift = t.shift })
        (λ _. t)

    step_microwire_rises : (e : Engine) (next : ℕ) (bit : Bool) → EngineFacts F s e → (F → next < 0x10000) → StepFacts F s (microwire_rises s e next bit)
    unfolding microwire_rises
    step_microwire_rises e next bit t n =
        step_pick (leb 17 e.slot.0) _ _ (step_none (data_rises s e) (engine_data_rises e t))
        (step_pick (control_left s e) _ _
        (step_capture bit (with_frame e true e.shift) (record { slot = t.slot; elapsed = t.elapsed; shift = t.shift }))
        (step_take (with_slot e (slots 17)) s.enabled next (record { slot = omega arith; elapsed = t.elapsed; shift = t.shift }) n))

    engine_microwire_falls : (e : Engine) → EngineFacts F s e → EngineFacts F s (microwire_falls s e)
    unfolding microwire_falls
    engine_microwire_falls e t =
        engine_pick (data_over s e.slot.0) _ _ (λ _. engine_ready e t)
        (λ g. engine_pick (leb 17 e.slot.0 && eqb (e.slot.0 % 2) 1) _ _
        (λ _. record { slot = slot_next e.slot.0 g; elapsed = t.elapsed; shift = shift_driven F (capture_width s) s.bits (e.slot.0 / 2 - 8) e.shift t.shift })
        (λ _. t))

    step_microwire_edges : (e : Engine) (before seen : Pins) (next : ℕ) → EngineFacts F s e → (F → next < 0x10000) → StepFacts F s (microwire_edges s e before seen next)
    unfolding microwire_edges
    step_microwire_edges e before seen next t n =
        step_pick (e.selected && clock_rises before seen) _ _ (step_microwire_rises e next (data_bit s false seen.rxd) t n)
        (step_pick (e.selected && clock_falls before seen) _ _ (step_none (microwire_falls s e) (engine_microwire_falls e t)) (step_none e t))

    step_microwire : (e : Engine) (before seen : Pins) (next : ℕ) → EngineFacts F s e → (F → next < 0x10000) → StepFacts F s (microwire_slave s e before seen next)
    unfolding microwire_slave
    step_microwire e before seen next t n =
        step_pick seen.fss _ _ (step_none cleared (engine_cleared e t))
        (step_microwire_edges (pick before.fss ready e) before seen next (engine_pick before.fss _ _ (λ _. engine_ready e t) (λ _. t)) n)

  step_slave_on : (f : Format) (e : Engine) (before seen : Pins) (next : ℕ) → s.format ≡ f → EngineFacts F s e → (F → next < 0x10000) → StepFacts F s (slave_on f s e before seen next)
  unfolding last_slot
  step_slave_on Motorola e before seen next k t n = step_motorola e before seen next t n
  step_slave_on Ti e before seen next k t n = step_ti e before seen next t n
  step_slave_on Microwire e before seen next k t n = step_microwire (rw k (omega arith)) e before seen next t n
  step_slave_on Reserved e before seen next k t n = step_none cleared (engine_cleared e t)

  step_slave : (e : Engine) (before seen : Pins) (next : ℕ) → EngineFacts F s e → (F → next < 0x10000) → StepFacts F s (slave_step s e before seen next)
  unfolding slave_step
  step_slave e before seen next t n = step_slave_on s.format e before seen next refl t n

  end_on : (f : Format) (e : Engine) → EngineFacts F s e → EngineFacts F s (ended_on f e)
  end_on Motorola e t = record { slot = t.slot; elapsed = t.elapsed; shift = t.shift }
  end_on Ti e t = record { slot = t.slot; elapsed = t.elapsed; shift = shift_cleared F (capture_width s) }
  end_on Microwire e t = t
  end_on Reserved e t = record { slot = t.slot; elapsed = t.elapsed; shift = shift_cleared F (capture_width s) }

  end_slave : (e : Engine) → EngineFacts F s e → EngineFacts F s (slave_end s e)
  unfolding slave_end
  end_slave e t = engine_pick (word_over s e) _ _ (λ _. end_on s.format e t) (λ _. t)

-- The tests as facts -------------------------------------------------------------------------------------------------

running_intro : (F : Type 0) (s : Settings) (e : Engine) → EngineFacts F s e → running_sound s e ≡ true
unfolding running_sound
running_intro F s e t = and_from _ _ (and_from _ _ (le-leb _ _ t.slot) (lt-ltb _ _ t.elapsed)) (le-leb _ _ t.shift.captured)

-- no frame, no idle slot, nothing captured
pub record Stopped (e : Engine) : Type 0 where
  pub frame : e.frame ≡ false
  pub slot : e.slot.0 ≡ 0
  pub elapsed : e.elapsed.0 ≡ 0
  pub captured : e.shift.captured ≡ 0

pub stopped_elim : (e : Engine) → stopped_sound e ≡ true → Stopped e
unfolding stopped_sound
stopped_elim e h =
    let flags = and_left ((not e.frame && not e.selected) && not e.mark) _ h in
    let a = and_right ((not e.frame && not e.selected) && not e.mark) _ h in
    let b = and_left (eqb e.slot.0 0 && eqb e.elapsed.0 0) _ a in
    record {
      frame = not-true e.frame (and_left (not e.frame) _ (and_left (not e.frame && not e.selected) _ flags));
      slot = eqb-true _ _ (and_left (eqb e.slot.0 0) _ b);
      elapsed = eqb-true _ _ (and_right (eqb e.slot.0 0) _ b);
      captured = eqb-true _ _ (and_right (eqb e.slot.0 0 && eqb e.elapsed.0 0) _ a);
    }

pub record EngineFit (e : Engine) : Type 0 where
  pub slot : e.slot.0 < 0x100
  pub elapsed : e.elapsed.0 < 0x10000
  pub captured : e.shift.captured < 0x100
  pub sending : e.shift.sending < 0x10000
  pub receiving : e.shift.receiving < 0x10000

pub engine_fit : (d : DeviceModel) → device_fits d ≡ true → EngineFit d.engine
unfolding device_fits
engine_fit d h =
    let a = and_right (registers_fit d.registers) _ h in
    let b = and_left ((ltb d.engine.slot.0 0x100 && ltb d.engine.elapsed.0 0x10000) && ltb d.engine.shift.captured 0x100) _ a in
    let c = and_right ((ltb d.engine.slot.0 0x100 && ltb d.engine.elapsed.0 0x10000) && ltb d.engine.shift.captured 0x100) _ a in
    let g = and_left (ltb d.engine.slot.0 0x100 && ltb d.engine.elapsed.0 0x10000) _ b in
    record {
      slot = ltb-true _ _ (and_left (ltb d.engine.slot.0 0x100) _ g);
      elapsed = ltb-true _ _ (and_right (ltb d.engine.slot.0 0x100) _ g);
      captured = ltb-true _ _ (and_right (ltb d.engine.slot.0 0x100 && ltb d.engine.elapsed.0 0x10000) _ b);
      sending = ltb-true _ _ (and_left (ltb d.engine.shift.sending 0x10000) _ c);
      receiving = ltb-true _ _ (and_right (ltb d.engine.shift.sending 0x10000) _ c);
    }

fits_registers : (d : DeviceModel) → device_fits d ≡ true → registers_fit d.registers ≡ true
unfolding device_fits
fits_registers d h = and_left (registers_fit d.registers) _ h

fits_both : (d : DeviceModel) → registers_fit d.registers ≡ true → EngineFit d.engine → device_fits d ≡ true
unfolding device_fits
fits_both d m t =
    and_from _ _ m
    (and_from _ _ (and_from _ _ (and_from _ _ (lt-ltb _ _ t.slot) (lt-ltb _ _ t.elapsed)) (lt-ltb _ _ t.captured))
    (and_from _ _ (lt-ltb _ _ t.sending) (lt-ltb _ _ t.receiving)))

pub sound_registers_lem : (d : DeviceModel) → sound_device d ≡ true → sound_registers d.registers (active_device d) ≡ true
unfolding sound_device
sound_registers_lem d h = and_left (sound_registers d.registers (active_device d)) _ h

pub sound_engine : (d : DeviceModel) → sound_device d ≡ true → engine_sound (settings_of d.registers.control) d.engine ≡ true
unfolding sound_device
sound_engine d h = and_right (sound_registers d.registers (active_device d)) _ h

sound_both : (d : DeviceModel) → sound_registers d.registers (active_device d) ≡ true → engine_sound (settings_of d.registers.control) d.engine ≡ true → sound_device d ≡ true
unfolding sound_device
sound_both d m e = and_from _ _ m e

-- the control registers, as far as SSE asks for it
enabled_facts : (m : Model) (active : Bool) → Enables m.control active → sound_registers m active ≡ true → ControlFacts m.control (enabled_of m.control)
enabled_facts m active on h = (file.sound_elim m (enabled_of m.control) (file.sound_active m active (enabled_of m.control) on h)).control

-- an active device's engine
pub device_elim : (d : DeviceModel) → sound_device d ≡ true → active_device d ≡ true → EngineFacts (device_fits d ≡ true) (settings_of d.registers.control) d.engine
unfolding engine_sound running_sound
device_elim d h k =
    let s = settings_of d.registers.control in
    let r : running_sound s d.engine ≡ true = sym (pick_yes _ _ k) ∙ sound_engine d h in
    let a = and_left (leb d.engine.slot.0 (last_slot s).0 && ltb d.engine.elapsed.0 s.divisor.0) _ r in
    record {
      slot = leb-true _ _ (and_left (leb d.engine.slot.0 (last_slot s).0) _ a);
      elapsed = ltb-true _ _ (and_right (leb d.engine.slot.0 (last_slot s).0) _ a);
      shift = record {
        captured = leb-true _ _ (and_right (leb d.engine.slot.0 (last_slot s).0 && ltb d.engine.elapsed.0 s.divisor.0) _ r);
        sending = λ f. (engine_fit d f).sending;
        receiving = λ f. (engine_fit d f).receiving;
      };
    }

-- a device's engine that is not active
pub stopped : (d : DeviceModel) → sound_device d ≡ true → active_device d ≡ false → stopped_sound d.engine ≡ true
unfolding engine_sound
stopped d h k = sym (pick_no _ _ k) ∙ sound_engine d h

running_sound_lem : (c : Control) (e : Engine) → active_of (settings_of c) e ≡ true → running_sound (settings_of c) e ≡ true → engine_sound (settings_of c) e ≡ true
unfolding engine_sound
running_sound_lem c e k h = pick_yes _ _ k ∙ h

-- a stopped engine is sound whatever the control registers say
stopped_sound_lem : (c : Control) (e : Engine) → ControlFacts c (enabled_of c) → stopped_sound e ≡ true → engine_sound (settings_of c) e ≡ true
unfolding engine_sound settings_of
stopped_sound_lem c e t h =
    let z = stopped_elim e h in
    pick_both (λ (x : Bool). x ≡ true) (active_of (settings_of c) e) _ _
    (λ k. running_intro ⊥ (settings_of c) e (record {
      slot = let p = z.slot in omega arith;
      elapsed = let p = z.elapsed in let q = divisor_positive c (enabled_of c) t (sym (active_idle c e z.frame) ∙ k) in omega arith;
      shift = record { captured = let p = z.captured in omega arith; sending = λ f. absurd f; receiving = λ f. absurd f };
    }))
    (λ _. h)

cleared_sound : (c : Control) → ControlFacts c (enabled_of c) → engine_sound (settings_of c) cleared ≡ true
unfolding stopped_sound
cleared_sound c t = stopped_sound_lem c cleared t refl

cleared_fit : EngineFit cleared
cleared_fit = record { slot = omega arith; elapsed = omega arith; captured = omega arith; sending = omega arith; receiving = omega arith }

-- Reset and accesses -------------------------------------------------------------------------------------------------

reset_registers_lem : (edition2 : Bool) → sound_registers (reset_device edition2).registers (active_device (reset_device edition2)) ≡ true
unfolding settings_of enabled_of
reset_registers_lem edition2 = file.sound_reset edition2

pub sound_reset : (edition2 : Bool) → sound_device (reset_device edition2) ≡ true
sound_reset edition2 =
    let d = reset_device edition2 in
    sound_both d (reset_registers_lem edition2) (cleared_sound _ (enabled_facts d.registers (active_device d) (active_on _ cleared) (reset_registers_lem edition2)))

pub fits_reset : (edition2 : Bool) → device_fits (reset_device edition2) ≡ true
fits_reset edition2 = fits_both (reset_device edition2) (file.fits_reset edition2) cleared_fit

pub sound_read : (d : DeviceModel) (o : ℕ) → sound_device d ≡ true → sound_device (read_device d o) ≡ true
unfolding read_device
sound_read d o h =
    let m = d.registers in
    sound_both _ (ap (λ (c : Control). sound_registers (read_model m o) (active_of (settings_of c) d.engine)) (control_read m o) ∙ file.sound_read m (active_device d) o (active_on _ d.engine) (sound_registers_lem d h))
    (ap (λ (c : Control). engine_sound (settings_of c) d.engine) (control_read d.registers o) ∙ sound_engine d h)

pub fits_read : (d : DeviceModel) (o : ℕ) → device_fits d ≡ true → device_fits (read_device d o) ≡ true
unfolding read_device
fits_read d o h = fits_both _ (file.fits_read d.registers o (fits_registers d h)) (engine_fit d h)

-- A write while the engine is active leaves all that its bounds depend on.
written_runs : (m n : Model) (e : Engine) → SameBounds m n → active_of (settings_of m.control) e ≡ true → engine_sound (settings_of m.control) e ≡ true → running_sound (settings_of n.control) e ≡ true
unfolding engine_sound running_sound settings_of divisor_of last_slot
written_runs m n e same k h = rw (same.cr0, same.cpsr, same.role) (sym (pick_yes _ _ k) ∙ h)

-- the engine after a write is the one before it or clear
after_either : (P : Engine → Type 0) (m n : Model) (e : Engine) → (enabled_of m.control ≡ false → P e) → (active_of (settings_of n.control) e ≡ true → P e) → P cleared → P (engine_after m n e)
unfolding engine_after
after_either P m n e off on z = pick_both P (enabled_of m.control) _ _ (λ _. pick_both P (active_of (settings_of n.control) e) _ _ on (λ _. z)) off

-- a frame in progress with SSE clear was so before the write
active_before : (m n : Model) (e : Engine) → n.control.edition2 ≡ m.control.edition2 → active_of (settings_of n.control) e ≡ true → (active_of (settings_of m.control) e ≡ true) ⊎ (enabled_of n.control ≡ true)
unfolding settings_of
active_before m n e same k = go (enabled_of n.control) refl
  where
    go : (x : Bool) → enabled_of n.control ≡ x → (active_of (settings_of m.control) e ≡ true) ⊎ (enabled_of n.control ≡ true)
    go true y = inr y
    go false y = inl (or_right (enabled_of m.control) _ (ap (λ (t : Bool). e.frame && t) (sym same) ∙ sym (ap (λ (t : Bool). t || (e.frame && n.control.edition2)) y) ∙ k))

-- and with SSE clear it goes on
active_after : (m n : Model) (e : Engine) → n.control.edition2 ≡ m.control.edition2 → enabled_of m.control ≡ false → active_of (settings_of m.control) e ≡ true → active_of (settings_of n.control) e ≡ true
unfolding settings_of
active_after m n e same off k =
    or_right (enabled_of n.control) _ (ap (λ (t : Bool). e.frame && t) same ∙ sym (ap (λ (t : Bool). t || (e.frame && m.control.edition2)) off) ∙ k)

module _ (d : DeviceModel) (o v : ℕ) where
  -- the register file after the write
  abbrev written : Model
  written = write_model d.registers (active_device d) o v

  same_edition : (write_model d.registers (active_device d) o v).control.edition2 ≡ d.registers.control.edition2
  same_edition = edition_write d.registers (active_device d) o v

  becomes_active : active_device (write_device d o v) ≡ true → (active_device d ≡ true) ⊎ (enabled_of written.control ≡ true)
  unfolding write_device
  becomes_active =
      after_either (λ (e : Engine). active_of (settings_of written.control) e ≡ true → (active_device d ≡ true) ⊎ (enabled_of written.control ≡ true)) d.registers written d.engine
      (λ _ k. active_before d.registers written d.engine same_edition k)
      (λ _ k. active_before d.registers written d.engine same_edition k)
      (λ k. inr (sym (active_idle written.control cleared refl) ∙ k))

  registers_write : sound_device d ≡ true → sound_registers written (active_device (write_device d o v)) ≡ true
  unfolding write_device
  registers_write h =
      file.sound_write d.registers (active_device d) (active_device (write_device d o v)) o v (active_on _ d.engine) (sound_registers_lem d h) becomes_active (active_on _ (write_device d o v).engine)

  engine_write : sound_device d ≡ true → engine_sound (settings_of written.control) (write_device d o v).engine ≡ true
  unfolding write_device
  engine_write h = go (active_device d) refl
    where
      Holds : Engine → Type 0
      Holds e = engine_sound (settings_of written.control) e ≡ true

      facts : ControlFacts written.control (enabled_of written.control)
      facts = enabled_facts written (active_device (write_device d o v)) (active_on _ (write_device d o v).engine) (registers_write h)

      go : (x : Bool) → active_device d ≡ x → Holds (engine_after d.registers written d.engine)
      go true k =
          let r = written_runs d.registers written d.engine (bounds_write d.registers (active_device d) o v k) k (sound_engine d h) in
          after_either Holds d.registers written d.engine
          (λ off. running_sound_lem written.control d.engine (active_after d.registers written d.engine same_edition off k) r)
          (λ on. running_sound_lem written.control d.engine on r)
          (cleared_sound written.control facts)
      go false k =
          let z = stopped_sound_lem written.control d.engine facts (stopped d h k) in
          after_either Holds d.registers written d.engine (λ _. z) (λ _. z) (cleared_sound written.control facts)

pub sound_write : (d : DeviceModel) (o v : ℕ) → sound_device d ≡ true → sound_device (write_device d o v) ≡ true
unfolding write_device
sound_write d o v h = sound_both (write_device d o v) (registers_write d o v h) (engine_write d o v h)

pub fits_write : (d : DeviceModel) (o v : ℕ) → device_fits d ≡ true → device_fits (write_device d o v) ≡ true
unfolding write_device
fits_write d o v h =
    fits_both _ (file.fits_write d.registers (active_device d) o v (fits_registers d h))
    (after_either EngineFit d.registers (write_model d.registers (active_device d) o v) d.engine (λ _. engine_fit d h) (λ _. engine_fit d h) cleared_fit)

-- A cycle ------------------------------------------------------------------------------------------------------------

registers_cycle : (d : DeviceModel) (pins : Pins) → sound_device d ≡ true → sound_registers (cycle_of d pins).registers (active_device d) ≡ true
unfolding cycle_of take_word receive_word
registers_cycle d pins h =
    let a = active_device d in
    let k = step_keeps (λ (x : Model). (Enables x.control a) × (sound_registers x a ≡ true)) d.registers (device_step d pins) (λ x k. (k.0, file.sound_take x a k.1)) (λ w e x k. (k.0, file.sound_receive x a w k.1)) (active_on _ d.engine, sound_registers_lem d h) in
    file.sound_end _ a _ k.0 k.1

fits_registers_cycle : (d : DeviceModel) (pins : Pins) → WordFits (device_step d pins).completed → registers_fit d.registers ≡ true → registers_fit (cycle_of d pins).registers ≡ true
unfolding cycle_of
fits_registers_cycle d pins f h =
    file.fits_end _ _
    (step_keeps (λ (x : Model). registers_fit x ≡ true) d.registers (device_step d pins) file.fits_take (λ w e x k. file.fits_receive x w (subst WordFits e f) k) h)

step_active : (d : DeviceModel) (pins : Pins) → sound_device d ≡ true → active_device d ≡ true → StepFacts (device_fits d ≡ true) (settings_of d.registers.control) (device_step d pins)
unfolding device_step step_of
step_active d pins h k =
    let F = device_fits d ≡ true in
    let s = settings_of d.registers.control in
    let t = device_elim d h k in
    let n : F → next_word d.registers < 0x10000 = λ f. file.next_fits d.registers (file.fits_elim d.registers (fits_registers d f)).tx in
    step_pick F s (active_device d) _ _
    (step_pick F s s.slave _ _
    (step_slave F s d.engine d.pins.oldest d.pins.middle (next_word d.registers) t n)
    (step_master F s d.engine (waiting_of d.registers) (next_word d.registers) pins.rxd t n))
    (step_none F s cleared (engine_cleared F s d.engine t))

cycle_active : (d : DeviceModel) (pins : Pins) → sound_device d ≡ true → active_device d ≡ true → EngineFacts (device_fits d ≡ true) (settings_of d.registers.control) (cycle_of d pins).engine
unfolding cycle_of end_of tick_of
cycle_active d pins h k =
    let F = device_fits d ≡ true in
    let s = settings_of d.registers.control in
    let t = (step_active d pins h k).engine in
    engine_pick F s (active_of s (tick_of s (device_step d pins).engine)) _ _
    (λ _. engine_pick F s s.slave _ _ (λ _. end_slave F s (device_step d pins).engine t) (λ _. end_master F s (device_step d pins).engine t))
    (λ _. engine_cleared F s (device_step d pins).engine t)

-- at its end the engine is active or clear
end_either : (P : Engine → Type 0) (s : Settings) (e : Engine) → (active_of s (end_of s e) ≡ true → P (end_of s e)) → P cleared → P (end_of s e)
unfolding end_of
end_either P s e = pick_both (λ (x : Engine). (active_of s x ≡ true → P x) → P cleared → P x) (active_of s (tick_of s e)) _ _ (λ k f _. f k) (λ _ _ z. z)

pub sound_cycle : (d : DeviceModel) (pins : Pins) → sound_device d ≡ true → sound_device (cycle_of d pins) ≡ true
unfolding cycle_of
sound_cycle d pins h =
    sound_both (cycle_of d pins) (file.sound_active (cycle_of d pins).registers (active_device d) (active_device (cycle_of d pins)) was_active (registers_cycle d pins h))
    (ap (λ (c : Control). engine_sound (settings_of c) (cycle_of d pins).engine) (control_cycle d pins) ∙ go (active_device d) refl)
  where
    facts : ControlFacts d.registers.control (enabled_of d.registers.control)
    facts = enabled_facts d.registers (active_device d) (active_on _ d.engine) (sound_registers_lem d h)

    -- an engine that is active at the end was so before
    still : (x : Bool) → active_device d ≡ x → active_of (settings_of d.registers.control) (cycle_of d pins).engine ≡ true → active_device d ≡ true
    still true k e = k
    still false k e = active_on d.registers.control d.engine (sym (active_idle d.registers.control (cycle_of d pins).engine (ap (λ (x : Engine). x.frame) (cycle_stopped d pins k))) ∙ e)

    was_active : active_device (cycle_of d pins) ≡ true → active_device d ≡ true
    was_active e = still (active_device d) refl (sym (ap (λ (c : Control). active_of (settings_of c) (cycle_of d pins).engine) (control_cycle d pins)) ∙ e)

    go : (x : Bool) → active_device d ≡ x → engine_sound (settings_of d.registers.control) (cycle_of d pins).engine ≡ true
    go true k =
        end_either (λ (e : Engine). engine_sound (settings_of d.registers.control) e ≡ true) (settings_of d.registers.control) (device_step d pins).engine
        (λ a. running_sound_lem d.registers.control _ a (running_intro _ _ _ (cycle_active d pins h k)))
        (cleared_sound d.registers.control facts)
    go false k = ap (λ (e : Engine). engine_sound (settings_of d.registers.control) e) (cycle_stopped d pins k) ∙ cleared_sound d.registers.control facts

-- a running engine within its bounds has room in the bytes
last_most : (f : Format) (b : ℕ) → b ≤ 16 → last_on f b ≤ 52
last_most Motorola b h = omega arith
last_most Ti b h = omega arith
last_most Microwire b h = omega arith
last_most Reserved b h = omega arith

capture_most : (f : Format) (slave : Bool) (b : ℕ) → b ≤ 16 → capture_on f slave b ≤ 16
capture_most Motorola slave b h = h
capture_most Ti slave b h = h
capture_most Microwire slave b h = pick_both (λ (n : ℕ). n ≤ 16) slave 8 b (λ _. omega arith) (λ _. h)
capture_most Reserved slave b h = h

running_fit : (F : Type 0) (c : Control) (e : Engine) → c.cpsr < 0x100 → EngineFacts F (settings_of c) e → F → EngineFit e
unfolding settings_of last_slot
running_fit F c e p t f =
    let l = last_most (format_of c.cr0) (bits_of c.cr0) (bits_most c.cr0) in
    let n = capture_most (format_of c.cr0) (bit_at c.cr1 2) (bits_of c.cr0) (bits_most c.cr0) in
    let g = divisor_most c p in
    record {
      slot = let a = t.slot in omega arith;
      elapsed = let a = t.elapsed in omega arith;
      captured = let a = t.shift.captured in omega arith;
      sending = t.shift.sending f;
      receiving = t.shift.receiving f;
    }

pub fits_cycle : (d : DeviceModel) (pins : Pins) → sound_device d ≡ true → device_fits d ≡ true → device_fits (cycle_of d pins) ≡ true
fits_cycle d pins h f = go (active_device d) refl
  where
    go : (x : Bool) → active_device d ≡ x → device_fits (cycle_of d pins) ≡ true
    go true k =
        fits_both (cycle_of d pins) (fits_registers_cycle d pins (step_active d pins h k).word (fits_registers d f))
        (running_fit _ d.registers.control _ (file.fits_elim d.registers (fits_registers d f)).cpsr (cycle_active d pins h k) f)
    go false k =
        fits_both (cycle_of d pins) (fits_registers_cycle d pins (rw (step_stopped d pins k) tt) (fits_registers d f)) (rw (cycle_stopped d pins k) cleared_fit)
