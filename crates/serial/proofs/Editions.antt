-- What happens to a frame when SSE is cleared: no word is taken, and the frame goes on as with SSE set and nothing to send.
use Prim.Native.Nat.{ℕ, ◌+◌, ◌≤◌}
use mathlib.Core.Path.{◌≡◌, refl, sym, ap, ap₂, ◌∙◌}
use mathlib.Core.Bool.{Bool, true, false, not, ◌&&◌, ◌||◌, and-true, and-false, true≢false}
use mathlib.Core.List.{List}
use mathlib.Core.Logic.{◌⊎◌, inl, inr}
use lib.Dec.{ltb, leb, eqb}
use lib.ListN.{length}
use Rattle.std.specs.Prelude.{Option, Some, None, is_some}
use Rattle.registers.specs.Choose.{pick, words_of}
use Rattle.std.proofs.lemmas.Bool.{or_right}
use Rattle.registers.proofs.Picks.{pick_yes, pick_no, pick_both, pick_alike, and_right}
use Rattle.registers.specs.Model.{Model, with_edition, with_control, with_timeout}
use Rattle.registers.specs.Time.{cycles, slots}
use Rattle.registers.specs.Offsets.{register_of}
use Rattle.registers.specs.Refusals.{first_of}
use Rattle.registers.specs.Settings.{settings_of, settings_by, divisor_of, enabled_of}
use Rattle.registers.specs.Access.{write_model, write_access, cr1_rule, dr_rule, write_rule, write_refusal}
use Rattle.registers.specs.Transfer.{added, waiting_of, next_word, take_word, receive_word, idles_of, limit_of, timeout_of, end_cycle}
use Rattle.registers.proofs.Accesses.{control_read, edition_write}
use Rattle.registers.proofs.Soundness.{sound_elim}
use Rattle.registers.specs.declared.Control.{Control}
use Rattle.registers.specs.declared.offsets.Register.{Register}
use Rattle.registers.specs.declared.offsets.Register.TheVariants.{Cr0, Cr1, Dr, Sr, Cpsr, Imsc, Ris, Mis, Icr, Dmacr, Identity, Reserved, Outside}
use Rattle.registers.specs.declared.settings.Format.{Format}
use Rattle.registers.specs.declared.settings.Format.TheVariants.{Motorola, Ti, Microwire}
use Rattle.registers.specs.declared.settings.Format.TheVariants as formats
use Rattle.registers.specs.declared.settings.Settings.{Settings}
use Rattle.frames.specs.Engine.{active_of, while_active, cleared, no_word, with_slot, capture_step}
use Rattle.frames.specs.Slots.{event_of, last_slot, width_of, capture_width, levels_of}
use Rattle.frames.specs.Lines.{lines_of, slave_lines, master_lines, master_txd, frame_lines}
use Rattle.frames.specs.Master.{act, acting, data_bit, master_step, ticked, master_end}
use Rattle.frames.specs.declared.engine.Engine.{Engine}
use Rattle.frames.specs.declared.engine.Step.{Step}
use Rattle.frames.specs.declared.lines.Pins.{Pins}
use Rattle.frames.specs.declared.lines.Lines.{Lines}
use Rattle.frames.specs.declared.slots.Event.{Event}
use Rattle.frames.specs.declared.slots.Event.TheVariants.{Begin, BeginDrive, Drive, First, Capture, Chain, JoinDrive, JoinCapture, Quiet, Release, Pause}
use Rattle.serial.specs.declared.History.{History}
use Rattle.serial.specs.Slave.{selected_of, slave_take, motorola_select, capture_edge, drive_edge, motorola_clock, motorola_edges, motorola_slave, with_mark, ti_falls, ti_rises, clock_falls, clock_rises, ti_slave, data_rises, control_left, microwire_rises, microwire_falls, microwire_select, microwire_edges, microwire_slave, slave_on, slave_step, slave_end}
use Rattle.serial.specs.Cycle.{DeviceModel, active_device, step_of, tick_of, end_of, take_if, receive_if, step_model, device_step, completed_of, follow, cycle_of}
use Rattle.serial.specs.Access.{read_device, write_refusal_of, write_device, engine_after}
use Rattle.serial.specs.Sound.{sound_device}
use Rattle.serial.specs.Editions.{EditionStays, EngineStays, Clearing, Rests, of_edition, EditionAlike, NoneTaken, switched_on, with_sse, enabled_empty, GoesAs, FrameGoesOn}
use Rattle.serial.proofs.Cycles.{control_cycle, on_word, step_file, tx_cycle, active_on, active_idle, step_stopped, tick_cleared, cycle_stopped}
use Rattle.serial.specs.Demand3.{in_edition}
use Rattle.serial.proofs.Accesses.{engine_enabling}
use Rattle.serial.proofs.Soundness.{sound_registers_lem, stopped, stopped_elim}
use Rattle.serial.proofs.Exchange.Enable.{same-loopback, same_role, settings_on}

-- What accesses and cycles leave ----------------------------------------------------------------------------------------

pub edition_stays : EditionStays
unfolding read_device write_device
edition_stays =
    record {
      read = λ d o. ap (λ (c : Control). c.edition2) (control_read d.registers o);
      write = λ d o v. edition_write d.registers (active_device d) o v;
      cycle = λ d pins. ap (λ (c : Control). c.edition2) (control_cycle d pins);
    }

pub engine_stays : EngineStays
unfolding read_device write_device engine_after
engine_stays = record { read = λ d o. refl; write = write }
  where
    write : (d : DeviceModel) (o v : ℕ) → (enabled_of d.registers.control ≡ false) ⊎ (enabled_of (write_device d o v).registers.control ≡ true) → (write_device d o v).engine ≡ d.engine
    write d o v (inl k) = engine_enabling d o v k
    write d o v (inr k) =
        pick_both (λ (e : Engine). e ≡ d.engine) (enabled_of d.registers.control) _ _ (λ _. pick_yes _ _ (active_on (write_model d.registers (active_device d) o v).control d.engine k)) (λ _. refl)

pub clearing : Clearing
unfolding write_device engine_after settings_of
clearing d o v on off =
    pick_yes _ _ on
    ∙ ap₂ (λ (t u : Bool). pick (t || (d.engine.frame && u)) d.engine cleared) off (edition_write d.registers (active_device d) o v)

-- Steps with SSE clear, and with SSE set and nothing to send -------------------------------------------------------------

-- the settings with SSE replaced
abbrev sse : Bool → Settings → Settings
sse t s = settings_by s.format s.phase s.polarity s.bits s.divisor s.slave s.sod s.loopback t s.edition2

sse_own : (s : Settings) (t : Bool) → s.enabled ≡ t → s ≡ sse t s
sse_own s t k = ap (λ (u : Bool). sse u s) k

-- a step but for whether a word was taken
abbrev untaken : Step → Step
untaken r = record { engine = r.engine; takes = false; completed = r.completed }

-- Both at once: with SSE clear it takes no word, and apart from that it does what SSE set does with nothing to send.
record Same (off on : Step) : Type 0 where
  takes : off.takes ≡ false
  same : untaken off ≡ untaken on

same-pick : (t : Bool) (x y x' y' : Step) → Same x x' → Same y y' → Same (pick t x y) (pick t x' y')
same-pick true x y x' y' p q = p
same-pick false x y x' y' p q = q

untaken_pick : (t : Bool) (x y : Step) → untaken (pick t x y) ≡ pick t (untaken x) (untaken y)
untaken_pick true x y = refl
untaken_pick false x y = refl

same_none : (e : Engine) → Same (no_word e) (no_word e)
same_none e = record { takes = refl; same = refl }

module _ (s : Settings) (next : ℕ) where
  -- The master

  same-act : (e : Engine) (bit : Bool) (v : Event) → Same (act (sse false s) e false next bit v) (act (sse true s) e false 0 bit v)
  unfolding width_of capture_step
  same-act e bit Begin = record { takes = refl; same = refl }
  same-act e bit BeginDrive = record { takes = refl; same = refl }
  same-act e bit (Drive i) = record { takes = refl; same = refl }
  same-act e bit First = record { takes = refl; same = refl }
  same-act e bit Capture = record { takes = refl; same = refl }
  same-act e bit (Chain n) = record { takes = refl; same = refl }
  same-act e bit (JoinDrive i) = record { takes = refl; same = refl }
  same-act e bit JoinCapture = same-pick (eqb e.shift.captured 0) _ _ _ _ (same_none e) (record { takes = refl; same = refl })
  same-act e bit Quiet = record { takes = refl; same = refl }
  same-act e bit Release = record { takes = refl; same = refl }
  same-act e bit Pause = record { takes = refl; same = refl }

  same_master : (e : Engine) (rxd : Bool) → Same (master_step (sse false s) e false next rxd) (master_step (sse true s) e false 0 rxd)
  unfolding master_step data_bit master_txd levels_of event_of
  same_master e rxd = same-pick (acting e false) _ _ _ _ (same-act e (data_bit s (master_txd s e) rxd) (event_of s e.slot)) (same_none e)

  -- The slave

  same-take : (e : Engine) → Same (slave_take (sse false s) e false next) (slave_take (sse true s) e true 0)
  same-take e = record { takes = refl; same = refl }

  same_capture : (bit : Bool) (e : Engine) → Same (capture_step (capture_width s) bit e) (capture_step (capture_width s) bit e)
  unfolding capture_step
  same_capture bit e = record { takes = refl; same = refl }

  same_select : (e : Engine) (fell : Bool) → Same (motorola_select (sse false s) e fell next) (motorola_select (sse true s) e fell 0)
  unfolding motorola_select
  same_select e fell = same-pick fell _ _ _ _ (same-pick s.phase _ _ _ _ (same_none _) (same-take (selected_of e))) (same_none e)

  same_clock : (e : Engine) (captures drives bit : Bool) → Same (motorola_clock (sse false s) e captures drives next bit) (motorola_clock (sse true s) e captures drives 0 bit)
  unfolding motorola_clock
  same_clock e captures drives bit =
      same-pick (e.frame && captures) _ _ _ _ (same_capture bit e)
      (same-pick (e.frame && drives) _ _ _ _ (same_none _)
      (same-pick (drives && s.phase) _ _ _ _ (same-take e) (same_none e)))

  same_edges : (r r' : Step) (before seen : Pins) → Same r r' → Same (motorola_edges (sse false s) r before seen next) (motorola_edges (sse true s) r' before seen 0)
  unfolding motorola_edges capture_edge drive_edge data_bit
  same_edges r r' before seen h =
      record {
        takes = pick_both (λ (x : Step). x.takes ≡ false) r.engine.selected _ _ (λ _. ap₂ ◌||◌ h.takes (clock r.engine).takes) (λ _. h.takes);
        same =
            over (sse false s) next r ∙ ap (edged (sse false s) next) h.same
            ∙ pick_alike (λ (x : Step). x) r'.engine.selected _ _ _ _ (clock r'.engine).same refl
            ∙ sym (over (sse true s) 0 r');
      }
    where
      clock : (e : Engine) → Same (motorola_clock (sse false s) e (capture_edge s before seen) (drive_edge s before seen) next (data_bit s e.shift.level seen.rxd)) (motorola_clock (sse true s) e (capture_edge s before seen) (drive_edge s before seen) 0 (data_bit s e.shift.level seen.rxd))
      clock e = same_clock e (capture_edge s before seen) (drive_edge s before seen) (data_bit s e.shift.level seen.rxd)

      -- the clock's step, by what selection left but for the word taken
      edged : Settings → ℕ → Step → Step
      edged t n u = pick u.engine.selected (untaken (motorola_clock t u.engine (capture_edge t before seen) (drive_edge t before seen) n (data_bit t u.engine.shift.level seen.rxd))) u

      over : (t : Settings) (n : ℕ) (u : Step) → untaken (motorola_edges t u before seen n) ≡ edged t n (untaken u)
      over t n u = untaken_pick u.engine.selected _ u

  same-motorola : (e : Engine) (before seen : Pins) → Same (motorola_slave (sse false s) e before seen next) (motorola_slave (sse true s) e before seen 0)
  unfolding motorola_slave
  same-motorola e before seen = same-pick seen.fss _ _ _ _ (same_none cleared) (same_edges _ _ before seen (same_select e before.fss))

  same_rises : (e : Engine) → Same (ti_rises (sse false s) e next) (ti_rises (sse true s) e 0)
  unfolding ti_rises
  same_rises e = same-pick e.mark _ _ _ _ (same-take (with_mark e false)) (same-pick e.frame _ _ _ _ (same_none _) (same_none e))

  same_falls : (e : Engine) (fss bit : Bool) → Same (ti_falls (sse false s) e fss bit) (ti_falls (sse true s) e fss bit)
  unfolding ti_falls
  same_falls e fss bit =
      same-pick e.frame _ _ _ _
      (same-pick (fss && ltb (e.shift.captured + 1) (capture_width s)) _ _ _ _ (same_none _) (same_capture bit _))
      (same_none _)

  same_ti : (e : Engine) (before seen : Pins) → Same (ti_slave (sse false s) e before seen next) (ti_slave (sse true s) e before seen 0)
  unfolding ti_slave data_bit
  same_ti e before seen =
      same-pick (clock_falls before seen) _ _ _ _ (same_falls e seen.fss (data_bit s e.shift.level seen.rxd))
      (same-pick (clock_rises before seen) _ _ _ _ (same_rises e) (same_none e))

  same_microwire_rises : (e : Engine) (bit : Bool) → Same (microwire_rises (sse false s) e next bit) (microwire_rises (sse true s) e 0 bit)
  unfolding microwire_rises data_rises
  same_microwire_rises e bit =
      same-pick (leb 17 e.slot.0) _ _ _ _ (same_none _)
      (same-pick (control_left s e) _ _ _ _ (same_capture bit _) (same-take (with_slot e (slots 17))))

  same-microwire : (e : Engine) (before seen : Pins) → Same (microwire_slave (sse false s) e before seen next) (microwire_slave (sse true s) e before seen 0)
  unfolding microwire_slave microwire_edges microwire_falls data_bit
  same-microwire e before seen =
      let x = microwire_select e before.fss in
      same-pick seen.fss _ _ _ _ (same_none cleared)
      (same-pick (x.selected && clock_rises before seen) _ _ _ _ (same_microwire_rises x (data_bit s false seen.rxd))
      (same-pick (x.selected && clock_falls before seen) _ _ _ _ (same_none _) (same_none x)))

  same_slave : (e : Engine) (before seen : Pins) → Same (slave_step (sse false s) e before seen next) (slave_step (sse true s) e before seen 0)
  unfolding slave_step
  same_slave e before seen = go s.format
    where
      go : (f : Format) → Same (slave_on f (sse false s) e before seen next) (slave_on f (sse true s) e before seen 0)
      go Motorola = same-motorola e before seen
      go Ti = same_ti e before seen
      go Microwire = same-microwire e before seen
      go formats.Reserved = same_none cleared

-- The register file -----------------------------------------------------------------------------------------------------

-- with SSE clear no cycle counts for the timeout
timeout_off : (m : Model) (f : Bool) → enabled_of m.control ≡ false → timeout_of m f ≡ record { rt = m.timeout.rt; count = cycles 0 }
unfolding timeout_of idles_of
timeout_off m f k =
    pick_no _ _ (ap (λ (t : Bool). (not (eqb (length m.rx) 0) && t) && not f) k ∙ ap (λ (t : Bool). t && not f) (and-false (not (eqb (length m.rx) 0))))

-- Where the engine is not active ----------------------------------------------------------------------------------------

off_inactive : (d : DeviceModel) → active_device d ≡ false → enabled_of d.registers.control ≡ false
off_inactive d a = go (enabled_of d.registers.control) refl
  where
    go : (x : Bool) → enabled_of d.registers.control ≡ x → enabled_of d.registers.control ≡ false
    go true k = absurd (true≢false (sym (active_on d.registers.control d.engine k) ∙ a))
    go false k = k

pub rests : Rests
unfolding cycle_of end_cycle take_if receive_if
rests =
    record {
      engine = cycle_stopped;
      lines = λ d pins a. ap (λ (r : Step). lines_of (settings_of d.registers.control) r.engine) (step_stopped d pins a);
      registers = λ d pins a.
          ap (λ (r : Step). end_cycle (step_model d.registers r) (end_of (settings_of d.registers.control) r.engine).frame) (step_stopped d pins a)
          ∙ ap (with_timeout d.registers) (timeout_off d.registers (end_of (settings_of d.registers.control) cleared).frame (off_inactive d a));
    }

-- Where the edition makes no difference ----------------------------------------------------------------------------------

active_edition : (t : Bool) (s : Settings) (e : Engine) → (s.enabled ≡ true) ⊎ (e.frame ≡ false) → active_of (in_edition t s) e ≡ active_of s e
active_edition t s e (inl k) = ap (λ (x : Bool). x || (e.frame && t)) k ∙ sym (ap (λ (x : Bool). x || (e.frame && s.edition2)) k)
active_edition t s e (inr z) = ap (λ (x : Bool). s.enabled || (x && t)) z ∙ sym (ap (λ (x : Bool). s.enabled || (x && s.edition2)) z)

module _ (t : Bool) (s : Settings) where
  act_edition : (e : Engine) (w : Bool) (n : ℕ) (bit : Bool) (v : Event) → act (in_edition t s) e w n bit v ≡ act s e w n bit v
  unfolding width_of
  act_edition e w n bit Begin = refl
  act_edition e w n bit BeginDrive = refl
  act_edition e w n bit (Drive i) = refl
  act_edition e w n bit First = refl
  act_edition e w n bit Capture = refl
  act_edition e w n bit (Chain i) = refl
  act_edition e w n bit (JoinDrive i) = refl
  act_edition e w n bit JoinCapture = refl
  act_edition e w n bit Quiet = refl
  act_edition e w n bit Release = refl
  act_edition e w n bit Pause = refl

  master_edition : (e : Engine) (w : Bool) (n : ℕ) (rxd : Bool) → master_step (in_edition t s) e w n rxd ≡ master_step s e w n rxd
  unfolding master_step data_bit master_txd levels_of event_of
  master_edition e w n rxd = ap (λ (r : Step). pick (acting e w) r (no_word e)) (act_edition e w n (data_bit s (master_txd s e) rxd) (event_of s e.slot))

  slave_edition : (e : Engine) (before seen : Pins) (n : ℕ) → slave_step (in_edition t s) e before seen n ≡ slave_step s e before seen n
  unfolding slave_step motorola_slave motorola_select motorola_edges motorola_clock capture_edge drive_edge ti_slave ti_falls ti_rises microwire_slave microwire_edges microwire_rises data_rises microwire_falls data_bit
  slave_edition e before seen n = go s.format
    where
      go : (f : Format) → slave_on f (in_edition t s) e before seen n ≡ slave_on f s e before seen n
      go Motorola = refl
      go Ti = refl
      go Microwire = refl
      go formats.Reserved = refl

  step_edition : (e : Engine) (h : History) (pins : Pins) (w : Bool) (n : ℕ) → (s.enabled ≡ true) ⊎ (e.frame ≡ false) → step_of (in_edition t s) e h pins w n ≡ step_of s e h pins w n
  unfolding step_of
  step_edition e h pins w n k =
      ap₂ (λ (a : Bool) (r : Step). pick a r (no_word cleared)) (active_edition t s e k)
      (ap₂ (pick s.slave) (slave_edition e h.oldest h.middle n) (master_edition e w n pins.rxd))

  end_edition : (e : Engine) → (s.enabled ≡ true) ⊎ ((tick_of s e).frame ≡ false) → end_of (in_edition t s) e ≡ end_of s e
  unfolding end_of tick_of slave_end master_end ticked last_slot
  end_edition e k = ap (λ (a : Bool). pick a (tick_of s e) cleared) (active_edition t s (tick_of s e) k)

  lines_edition : (e : Engine) → lines_of (in_edition t s) e ≡ lines_of s e
  unfolding lines_of slave_lines master_lines master_txd levels_of frame_lines
  lines_edition e = refl

-- a device by its parts
abbrev built : Model → Engine → History → Lines → DeviceModel
built m e h l = record { registers = m; engine = e; pins = h; lines = l }

abbrev file_in : Bool → Model → Model
file_in t m = with_control m (with_edition m.control t)

file_edition : (t : Bool) (m : Model) (a : Bool) (o : Option ℕ) (f : Bool) → end_cycle (receive_if (take_if (file_in t m) a) o) f ≡ file_in t (end_cycle (receive_if (take_if m a) o) f)
unfolding end_cycle timeout_of idles_of limit_of divisor_of enabled_of take_if receive_if take_word receive_word
file_edition t m true (Some w) f = refl
file_edition t m true None f = refl
file_edition t m false (Some w) f = refl
file_edition t m false None f = refl

settings_edition : (t : Bool) (c : Control) → settings_of (with_edition c t) ≡ in_edition t (settings_of c)
unfolding settings_of divisor_of enabled_of
settings_edition t c = refl

module _ (t : Bool) (d : DeviceModel) (k : (enabled_of d.registers.control ≡ true) ⊎ (d.engine.frame ≡ false)) where
  -- the same of the settings
  settled : ((settings_of d.registers.control).enabled ≡ true) ⊎ (d.engine.frame ≡ false)
  unfolding settings_of
  settled = k

  active_alike : active_device (of_edition t d) ≡ active_device d
  active_alike = ap (λ (s : Settings). active_of s d.engine) (settings_edition t d.registers.control) ∙ active_edition t (settings_of d.registers.control) d.engine settled

  module _ (pins : Pins) where
    step_alike : device_step (of_edition t d) pins ≡ device_step d pins
    unfolding device_step waiting_of next_word enabled_of
    step_alike =
        ap (λ (s : Settings). step_of s d.engine d.pins pins (waiting_of d.registers) (next_word d.registers)) (settings_edition t d.registers.control)
        ∙ step_edition t (settings_of d.registers.control) d.engine d.pins pins (waiting_of d.registers) (next_word d.registers) settled

    -- at the cycle's end there is no frame either, or SSE is set
    ends : ((settings_of d.registers.control).enabled ≡ true) ⊎ ((tick_of (settings_of d.registers.control) (device_step d pins).engine).frame ≡ false)
    unfolding settings_of
    ends = go k (active_device d) refl
      where
        go : (enabled_of d.registers.control ≡ true) ⊎ (d.engine.frame ≡ false) → (a : Bool) → active_device d ≡ a
            → ((settings_of d.registers.control).enabled ≡ true) ⊎ ((tick_of (settings_of d.registers.control) (device_step d pins).engine).frame ≡ false)
        go (inl y) a e = inl y
        go (inr z) true e = inl (sym (active_idle d.registers.control d.engine z) ∙ e)
        go (inr z) false e = inr (ap (λ (r : Step). (tick_of (settings_of d.registers.control) r.engine).frame) (step_stopped d pins e) ∙ ap (λ (x : Engine). x.frame) (tick_cleared (settings_of d.registers.control)))

    cycle_alike : cycle_of (of_edition t d) pins ≡ of_edition t (cycle_of d pins)
    unfolding cycle_of
    cycle_alike =
        let m = d.registers in
        let s = settings_of d.registers.control in
        let r = device_step d pins in
        let h = follow d.pins pins in
        ap₂ (λ (u : Settings) (q : Step). built (end_cycle (step_model (file_in t m) q) (end_of u q.engine).frame) (end_of u q.engine) h (lines_of u q.engine)) (settings_edition t d.registers.control) step_alike
        ∙ ap₂ (λ (e : Engine) (l : Lines). built (end_cycle (step_model (file_in t m) r) e.frame) e h l) (end_edition t s r.engine ends) (lines_edition t s r.engine)
        ∙ ap (λ (x : Model). built x (end_of s r.engine) h (lines_of s r.engine)) (file_edition t m r.takes r.completed (end_of s r.engine).frame)

pub edition_alike : EditionAlike
edition_alike = record { active = λ t d k. active_alike t d k; cycle = λ t d pins k. cycle_alike t d k pins }

-- A frame with SSE clear ----------------------------------------------------------------------------------------------

-- with SSE clear nothing waits to be sent
none_waits : (m : Model) → enabled_of m.control ≡ false → waiting_of m ≡ false
unfolding waiting_of
none_waits m k = ap (λ (t : Bool). t && not (eqb (length m.tx) 0)) k

-- the step of an active engine
abbrev running : Settings → Engine → History → Pins → ℕ → Step
running s e h pins next = pick s.slave (slave_step s e h.oldest h.middle next) (master_step s e false next pins.rxd)

same_running : (s : Settings) (e : Engine) (h : History) (pins : Pins) (next : ℕ) → Same (running (sse false s) e h pins next) (running (sse true s) e h pins 0)
same_running s e h pins next = same-pick s.slave _ _ _ _ (same_slave s next e h.oldest h.middle) (same_master s next e pins.rxd)

-- the step with SSE clear
step_off : (d : DeviceModel) (pins : Pins) → enabled_of d.registers.control ≡ false
    → device_step d pins ≡ step_of (sse false (settings_of d.registers.control)) d.engine d.pins pins false (next_word d.registers)
unfolding device_step settings_of
step_off d pins k =
    ap₂ (λ (s : Settings) (w : Bool). step_of s d.engine d.pins pins w (next_word d.registers)) (sse_own (settings_of d.registers.control) false k) (none_waits d.registers k)

pub none_taken : NoneTaken
unfolding step_of
none_taken d pins k =
    let s = settings_of d.registers.control in
    let e = d.engine in
    tx_cycle d pins
    ∙ pick_no _ _
    (ap (λ (r : Step). r.takes) (step_off d pins k)
    ∙ pick_both (λ (r : Step). r.takes ≡ false) (e.frame && s.edition2) _ _ (λ _. (same_running s e d.pins pins (next_word d.registers)).takes) (λ _. refl))

-- a frame with SSE clear is one of edition 2
frame_edition : (d : DeviceModel) → sound_device d ≡ true → enabled_of d.registers.control ≡ false → d.engine.frame ≡ true → d.registers.control.edition2 ≡ true
unfolding settings_of
frame_edition d h k f = go (active_device d) refl
  where
    go : (x : Bool) → active_device d ≡ x → d.registers.control.edition2 ≡ true
    go true a = and_right d.engine.frame _ (ap (λ (t : Bool). t || (d.engine.frame && d.registers.control.edition2)) (sym k) ∙ a)
    go false a = absurd (true≢false (sym f ∙ (stopped_elim d.engine (stopped d h a)).frame))

frame_active : (d : DeviceModel) → sound_device d ≡ true → enabled_of d.registers.control ≡ false → d.engine.frame ≡ true → active_device d ≡ true
unfolding settings_of
frame_active d h k f = or_right (enabled_of d.registers.control) _ (ap₂ ◌&&◌ f (frame_edition d h k f))

lines_sse : (s : Settings) (e : Engine) → lines_of (sse true s) e ≡ lines_of s e
unfolding lines_of slave_lines master_lines master_txd levels_of frame_lines
lines_sse s e = refl

tick_sse : (s : Settings) (e : Engine) → tick_of (sse true s) e ≡ tick_of s e
unfolding tick_of slave_end master_end ticked last_slot
tick_sse s e = refl

module _ (d : DeviceModel) (pins : Pins) (h : sound_device d ≡ true) (k : enabled_of d.registers.control ≡ false) (f : d.engine.frame ≡ true) where
  abbrev c : Control
  c = d.registers.control

  abbrev own : Settings
  own = settings_of d.registers.control

  -- the step with SSE clear, and with SSE set
  abbrev off : Step
  off = running (sse false (settings_of d.registers.control)) d.engine d.pins pins (next_word d.registers)

  abbrev on : Step
  on = running (sse true (settings_of d.registers.control)) d.engine d.pins pins 0

  alike : untaken off ≡ untaken on
  alike = (same_running own d.engine d.pins pins (next_word d.registers)).same

  is_off : device_step d pins ≡ off
  unfolding step_of settings_of
  is_off = step_off d pins k ∙ pick_yes _ _ (ap₂ ◌&&◌ f (frame_edition d h k f))

  set_on : settings_of (switched_on d.registers.control) ≡ sse true (settings_of d.registers.control)
  set_on = settings_on c (sound_elim d.registers _ (sound_registers_lem d h)).control.cr1 k

  is_on : device_step (enabled_empty d) pins ≡ on
  unfolding device_step step_of waiting_of next_word
  is_on =
      ap₂ (λ (s : Settings) (w : Bool). step_of s d.engine d.pins pins w 0) set_on (and-false (enabled_of (switched_on d.registers.control)))

  same_lines : (cycle_of d pins).lines ≡ (cycle_of (enabled_empty d) pins).lines
  unfolding cycle_of
  same_lines =
      ap (λ (r : Step). lines_of own r.engine) (is_off)
      ∙ ap (λ (r : Step). lines_of own r.engine) alike
      ∙ sym (lines_sse own on.engine)
      ∙ sym (ap₂ (λ (s : Settings) (r : Step). lines_of s r.engine) set_on is_on)

  same-words : completed_of d pins ≡ completed_of (enabled_empty d) pins
  unfolding completed_of
  same-words =
      let words : Step → List ℕ = λ (r : Step). words_of r.completed in
      ap words is_off ∙ ap words alike ∙ sym (ap words is_on)

  same-held : (cycle_of d pins).registers.rx ≡ (cycle_of (enabled_empty d) pins).registers.rx
  unfolding cycle_of end_cycle
  same-held =
      let m = d.registers in
      let r = device_step d pins in
      let q = device_step (enabled_empty d) pins in
      let held : Step → List ℕ = λ (x : Step). on_word x.completed (λ (w : ℕ). added m.rx w) m.rx in
      ap (λ (x : Model). x.rx) (step_file m r.takes r.completed) ∙ ap held is_off ∙ ap held alike ∙ sym (ap held is_on) ∙ sym (ap (λ (x : Model). x.rx) (step_file (enabled_empty d).registers q.takes q.completed))

  same_overrun : (cycle_of d pins).registers.ror ≡ (cycle_of (enabled_empty d) pins).registers.ror
  unfolding cycle_of end_cycle
  same_overrun =
      let m = d.registers in
      let r = device_step d pins in
      let q = device_step (enabled_empty d) pins in
      let lost : Step → Bool = λ (x : Step). pick (is_some x.completed) (m.ror || not (ltb (length m.rx) 8)) m.ror in
      ap (λ (x : Model). x.ror) (step_file m r.takes r.completed) ∙ ap lost is_off ∙ ap lost alike ∙ sym (ap lost is_on) ∙ sym (ap (λ (x : Model). x.ror) (step_file (enabled_empty d).registers q.takes q.completed))

  same_timeout : (cycle_of d pins).registers.timeout ≡ record { rt = pick (is_some (device_step d pins).completed) false d.registers.timeout.rt; count = cycles 0 }
  unfolding cycle_of end_cycle
  same_timeout =
      let m = d.registers in
      let r = device_step d pins in
      timeout_off (step_model m r) (end_of own r.engine).frame (ap (λ (x : Model). enabled_of x.control) (step_file m r.takes r.completed) ∙ k)
      ∙ ap (λ (x : Model). record { rt = x.timeout.rt; count = cycles 0 }) (step_file m r.takes r.completed)

  -- the engine after the cycle, before it is cleared
  abbrev after : Engine
  after = tick_of (settings_of d.registers.control) on.engine

  after_on : (cycle_of (enabled_empty d) pins).engine ≡ after
  unfolding cycle_of end_of
  after_on = ap₂ (λ (s : Settings) (r : Step). end_of s r.engine) set_on is_on ∙ tick_sse own on.engine

  after_off : (cycle_of d pins).engine ≡ while_active own after
  unfolding cycle_of end_of
  after_off = ap (λ (r : Step). end_of own r.engine) is_off ∙ ap (λ (r : Step). end_of own r.engine) alike

  while_frame : while_active own after ≡ pick after.frame after cleared
  unfolding settings_of
  while_frame =
      ap₂ (λ (t u : Bool). pick (t || (after.frame && u)) after cleared) k (frame_edition d h k f)
      ∙ ap (λ (t : Bool). pick t after cleared) (and-true after.frame)

  goes_as : GoesAs d pins
  goes_as =
      record {
        lines = same_lines;
        words = same-words;
        held = same-held;
        overrun = same_overrun;
        timeout = same_timeout;
        engine = after_off ∙ while_frame ∙ sym (ap (λ (e : Engine). pick e.frame e cleared) after_on);
      }

-- Refusals of writes ------------------------------------------------------------------------------------------------------

module _ (m : Model) (small : m.control.cr1 ≤ 15) (off : enabled_of m.control ≡ false) where
  cr1_refusal : (v : ℕ) → cr1_rule m true v ≡ cr1_rule (with_control m (switched_on m.control)) true v
  unfolding cr1_rule
  cr1_refusal v = rw (same_role m.control small off, same-loopback m.control small off)

  write_rule_lem : (p : Register) (v : ℕ) → write_rule m true p v ≡ write_rule (with_control m (switched_on m.control)) true p v
  unfolding dr_rule
  write_rule_lem Cr0 v = refl
  write_rule_lem Cr1 v = cr1_refusal v
  write_rule_lem Dr v = refl
  write_rule_lem Sr v = refl
  write_rule_lem Cpsr v = refl
  write_rule_lem Imsc v = refl
  write_rule_lem Ris v = refl
  write_rule_lem Mis v = refl
  write_rule_lem Icr v = refl
  write_rule_lem Dmacr v = refl
  write_rule_lem (Identity i) v = refl
  write_rule_lem Reserved v = refl
  write_rule_lem Outside v = refl

frame_refusal : (d : DeviceModel) (o v : ℕ) → sound_device d ≡ true → enabled_of d.registers.control ≡ false → d.engine.frame ≡ true → write_refusal_of d o v ≡ write_refusal_of (with_sse d) o v
unfolding write_refusal_of write_refusal settings_of
frame_refusal d o v h k f =
    let m = d.registers in
    let small = (sound_elim m _ (sound_registers_lem d h)).control.cr1 in
    let rule : Bool → ℕ = λ (a : Bool). first_of (write_access (register_of o) v) (write_rule m a (register_of o) v) in
    let rule_on : Bool → ℕ = λ (a : Bool). first_of (write_access (register_of o) v) (write_rule (with_sse d).registers a (register_of o) v) in
    ap rule (frame_active d h k f)
    ∙ ap (first_of (write_access (register_of o) v)) (write_rule_lem m small k (register_of o) v)
    ∙ sym (ap rule_on (active_on (with_sse d).registers.control d.engine (ap (λ (s : Settings). s.enabled) (settings_on m.control small k))))

pub frame_goes_on : FrameGoesOn
frame_goes_on = record { edition = frame_edition; cycle = goes_as; refusal = frame_refusal }
