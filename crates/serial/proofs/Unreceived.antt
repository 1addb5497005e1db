-- A master with nothing received: the received word, selection and mark cleared. Its cycle depends only on its settings, its
-- words to send and its engine, whatever its pins carry.
use Prim.Native.Nat.{ℕ, ◌+◌}
use mathlib.Core.Path.{◌≡◌, refl, ap, ◌∙◌}
use mathlib.Core.Bool.{Bool, true, false, ◌&&◌}
use mathlib.Core.List.{List}
use lib.Dec.{ltb, eqb}
use lib.ListN.{get_or}
use Rattle.serial.specs.Slave.{with_mark}
use Rattle.std.specs.Prelude.{None}
use Rattle.registers.specs.Choose.{pick}
use Rattle.registers.proofs.Picks.{pick_no, pick_alike}
use Rattle.registers.specs.Settings.{settings_of}
use Rattle.registers.specs.Transfer.{rest, waiting_of, next_word}
use Rattle.registers.specs.declared.Control.{Control}
use Rattle.registers.specs.declared.settings.Settings.{Settings}
use Rattle.frames.specs.Engine.{active_of, cleared, while_active, driven, captured_of, capture_step, no_word, with_shift, with_selected}
use Rattle.frames.specs.Slots.{event_of, last_slot, capture_width}
use Rattle.frames.specs.Lines.{master_lines, lines_of, master_txd}
use Rattle.frames.specs.Master.{joined_shift, act, resting, acting, data_bit, master_step, ticked, master_end}
use Rattle.serial.specs.Cycle.{DeviceModel, active_device, step_of, tick_of, end_of, device_step, cycle_of}
use Rattle.serial.proofs.Cycles.{control_cycle, tx_cycle, waits}
use Rattle.frames.specs.declared.engine.Shift.{Shift}
use Rattle.frames.specs.declared.engine.Engine.{Engine}
use Rattle.frames.specs.declared.engine.Step.{Step}
use Rattle.frames.specs.declared.lines.Pins.{Pins}
use Rattle.frames.specs.declared.slots.Event.{Event}
use Rattle.frames.specs.declared.slots.Event.TheVariants.{Begin, BeginDrive, Drive, First, Capture, Chain, JoinDrive, JoinCapture, Quiet, Release, Pause}

abbrev pub shift_without_received : Shift → Shift
shift_without_received x = record { captured = x.captured; level = x.level; sending = x.sending; receiving = 0 }

abbrev pub without_received : Engine → Engine
without_received e = with_mark (with_selected (with_shift e (shift_without_received e.shift)) false) false

abbrev pub step_without_received : Step → Step
step_without_received r = record { engine = without_received r.engine; takes = r.takes; completed = None }

-- A step and the end of a cycle ----------------------------------------------------------------------------------------

captured_unreceived : (b : ℕ) (bit bit' : Bool) (x : Shift) → shift_without_received (captured_of b bit x) ≡ shift_without_received (captured_of b bit' (shift_without_received x))
unfolding captured_of
captured_unreceived b bit bit' x = pick_alike shift_without_received (ltb x.captured b) _ _ _ _ refl refl

capture_unreceived : (b : ℕ) (bit bit' : Bool) (e : Engine) → step_without_received (capture_step b bit e) ≡ step_without_received (capture_step b bit' (without_received e))
unfolding capture_step
capture_unreceived b bit bit' e =
    ap (λ (x : Shift). no_word (with_mark (with_selected (with_shift e x) false) false)) (captured_unreceived b bit bit' e.shift)

act_unreceived : (s : Settings) (e : Engine) (waiting : Bool) (next : ℕ) (bit bit' : Bool) (v : Event)
    → step_without_received (act s e waiting next bit v) ≡ step_without_received (act s (without_received e) waiting next bit' v)
unfolding driven joined_shift
act_unreceived s e waiting next bit bit' Begin = refl
act_unreceived s e waiting next bit bit' BeginDrive = refl
act_unreceived s e waiting next bit bit' (Drive i) = refl
act_unreceived s e waiting next bit bit' First = refl
act_unreceived s e waiting next bit bit' Capture = capture_unreceived (capture_width s) bit bit' e
act_unreceived s e waiting next bit bit' (Chain n) = pick_alike step_without_received waiting _ _ _ _ refl refl
act_unreceived s e waiting next bit bit' (JoinDrive i) = pick_alike step_without_received waiting _ _ _ _ refl refl
act_unreceived s e waiting next bit bit' JoinCapture = pick_alike step_without_received (eqb e.shift.captured 0) _ _ _ _ refl (capture_unreceived (capture_width s) bit bit' e)
act_unreceived s e waiting next bit bit' Quiet = refl
act_unreceived s e waiting next bit bit' Release = refl
act_unreceived s e waiting next bit bit' Pause = refl

step_unreceived : (s : Settings) (e : Engine) (waiting : Bool) (next : ℕ) (rxd rxd' : Bool)
    → step_without_received (master_step s e waiting next rxd) ≡ step_without_received (master_step s (without_received e) waiting next rxd')
unfolding master_step acting resting
step_unreceived s e waiting next rxd rxd' =
    pick_alike step_without_received (acting e waiting) _ _ _ _
    (act_unreceived s e waiting next (data_bit s (master_txd s e) rxd) (data_bit s (master_txd s (without_received e)) rxd') (event_of s e.slot)) refl

-- two branches under f
pick_under : {A B : Type 0} (f : A → B) (t : Bool) (x y : A) (x' y' : B) → f x ≡ x' → f y ≡ y' → f (pick t x y) ≡ pick t x' y'
pick_under f true x y x' y' p q = p
pick_under f false x y x' y' p q = q

end_unreceived : (s : Settings) (e : Engine) → without_received (master_end s e) ≡ master_end s (without_received e)
unfolding master_end ticked resting
end_unreceived s e =
    pick_under without_received (resting e) _ _ _ _ refl
    (pick_under without_received (ltb (e.elapsed.0 + 1) s.divisor.0) _ _ _ _ refl
    (pick_under without_received (ltb e.slot.0 (last_slot s).0) _ _ _ _ refl refl))

while_unreceived : (s : Settings) (e : Engine) → without_received (while_active s e) ≡ while_active s (without_received e)
while_unreceived s e = pick_under without_received (active_of s e) _ _ _ _ refl refl

-- A cycle --------------------------------------------------------------------------------------------------------------

-- MS is 0.
abbrev pub Masters : DeviceModel → Type 0
Masters d = (settings_of d.registers.control).slave ≡ false

pub masters_cycle : (d : DeviceModel) (pins : Pins) → Masters d → Masters (cycle_of d pins)
masters_cycle d pins k = ap (λ (c : Control). (settings_of c).slave) (control_cycle d pins) ∙ k

-- A master's step, by its settings, its words to send and its engine.
unfoldable pub send_step : Settings → List ℕ → Engine → Step
send_step s tx e = step_without_received (pick (active_of s e) (master_step s e (s.enabled && waits tx) (get_or tx 0 0) false) (no_word cleared))

abbrev pub send_of : DeviceModel → Step
send_of d = send_step (settings_of d.registers.control) d.registers.tx (without_received d.engine)

module _ (d : DeviceModel) (pins : Pins) (k : Masters d) where
  step_sends : step_without_received (device_step d pins) ≡ send_of d
  unfolding send_step device_step step_of waiting_of next_word settings_of
  step_sends =
      pick_alike step_without_received (active_device d) _ _ _ _
      (ap step_without_received (pick_no _ _ k) ∙ step_unreceived (settings_of d.registers.control) d.engine (waiting_of d.registers) (next_word d.registers) pins.rxd false)
      refl

  -- what a cycle leaves

  pub lines_sends : (cycle_of d pins).lines ≡ master_lines (settings_of d.registers.control) (send_of d).engine
  unfolding cycle_of lines_of master_lines master_txd
  lines_sends = pick_no _ _ k ∙ ap (λ (r : Step). master_lines (settings_of d.registers.control) r.engine) step_sends

  pub engine_sends : without_received (cycle_of d pins).engine ≡ while_active (settings_of d.registers.control) (master_end (settings_of d.registers.control) (send_of d).engine)
  unfolding cycle_of end_of tick_of
  engine_sends =
      let s = settings_of d.registers.control in
      while_unreceived s (tick_of s (device_step d pins).engine)
      ∙ ap (while_active s) (ap without_received (pick_no _ _ k) ∙ end_unreceived s (device_step d pins).engine ∙ ap (λ (r : Step). master_end s r.engine) step_sends)

  pub tx_sends : (cycle_of d pins).registers.tx ≡ pick (send_of d).takes (rest d.registers.tx) d.registers.tx
  tx_sends = tx_cycle d pins ∙ ap (λ (r : Step). pick r.takes (rest d.registers.tx) d.registers.tx) step_sends
