-- A master within a slot of h cycles: its event is in the first cycle, its lines stay to the last, then comes the next slot.
use Prim.Native.Nat.{ℕ, ◌+◌, ◌≤◌, ◌<◌}
use mathlib.Core.Path.{◌≡◌, refl, sym, ap, ◌∙◌}
use mathlib.Core.Bool.{Bool, true, false, not, ◌&&◌, and-false}
use lib.Dec.{ltb, eqb}
use borrow.Author.Tests.{lt-ltb, le-ltb, ne_eqb}
use Rattle.registers.specs.Choose.{pick}
use Rattle.registers.proofs.Picks.{pick_yes, pick_no, pick_both}
use Rattle.registers.specs.Settings.{settings_of}
use Rattle.registers.specs.Time.{cycles, slots}
use Rattle.registers.specs.Transfer.{waiting_of, next_word}
use Rattle.registers.specs.declared.Control.{Control}
use Rattle.registers.specs.declared.settings.Settings.{Settings}
use Rattle.registers.specs.declared.time.Cycles.{Cycles}
use Rattle.frames.specs.Engine.{active_of, cleared, no_word, capture_step, with_elapsed, with_next_slot, with_frame, with_slot}
use Rattle.frames.specs.Slots.{event_of, last_slot}
use Rattle.frames.specs.Lines.{master_lines, lines_of, master_txd}
use Rattle.frames.specs.Master.{act, resting, acting, data_bit, master_step, ticked, master_end}
use Rattle.serial.specs.Cycle.{DeviceModel, active_device, step_of, tick_of, end_of, device_step, cycle_of}
use Rattle.serial.proofs.Cycles.{control_cycle}
use Rattle.serial.proofs.Unreceived.{Masters, masters_cycle}
use Rattle.frames.specs.declared.engine.Shift.{Shift}
use Rattle.frames.specs.declared.engine.Engine.{Engine}
use Rattle.frames.specs.declared.engine.Step.{Step}
use Rattle.frames.specs.declared.lines.Pins.{Pins}
use Rattle.frames.specs.declared.slots.Event.{Event}
use Rattle.frames.specs.declared.slots.Event.TheVariants.{Begin, BeginDrive, Drive, First, Capture, Chain, JoinDrive, JoinCapture, Quiet, Release, Pause}

-- The event ------------------------------------------------------------------------------------------------------------

-- After a slot's first cycle a master does nothing.
pub step_within : (s : Settings) (e : Engine) (waiting : Bool) (next : ℕ) (rxd : Bool) → (e.elapsed.0 ≡ 0 → ⊥) → master_step s e waiting next rxd ≡ no_word e
unfolding master_step acting resting
step_within s e waiting next rxd h =
    let idle : acting e waiting ≡ false = simp (ne_eqb e.elapsed.0 0 h, and-false) in
    pick_no _ _ idle

-- with c cycles of the slot elapsed
abbrev pub elapsed_at : ℕ → Engine → Engine
elapsed_at c e = with_elapsed e (cycles c)

-- in idle slot n
abbrev pub parked : ℕ → Engine
parked n = with_slot cleared (slots n)

-- in slot n of a frame
abbrev pub sending : ℕ → Shift → Engine
sending n x = with_frame (with_slot cleared (slots n)) true x

abbrev pub shifted : ℕ → Bool → ℕ → ℕ → Shift
shifted c d w r = record { captured = c; level = d; sending = w; receiving = r }

act_elapsed : (s : Settings) (e : Engine) (w : Bool) (n : ℕ) (d : Bool) (v : Event) → (act s e w n d v).engine.elapsed ≡ e.elapsed
unfolding capture_step
act_elapsed s e w n d Begin = refl
act_elapsed s e w n d BeginDrive = refl
act_elapsed s e w n d (Drive i) = refl
act_elapsed s e w n d First = refl
act_elapsed s e w n d Capture = refl
act_elapsed s e w n d (Chain k) = pick_both (λ (r : Step). r.engine.elapsed ≡ e.elapsed) w _ _ (λ _. refl) (λ _. refl)
act_elapsed s e w n d (JoinDrive i) = pick_both (λ (r : Step). r.engine.elapsed ≡ e.elapsed) w _ _ (λ _. refl) (λ _. refl)
act_elapsed s e w n d JoinCapture = pick_both (λ (r : Step). r.engine.elapsed ≡ e.elapsed) (eqb e.shift.captured 0) _ _ (λ _. refl) (λ _. refl)
act_elapsed s e w n d Quiet = refl
act_elapsed s e w n d Release = refl
act_elapsed s e w n d Pause = refl

-- The event lets no cycle elapse.
pub step_elapsed : (s : Settings) (c : ℕ) (e : Engine) (w : Bool) (n : ℕ) (d : Bool) → (master_step s (elapsed_at c e) w n d).engine ≡ elapsed_at c (master_step s (elapsed_at c e) w n d).engine
unfolding master_step
step_elapsed s c e w n d =
    let x = elapsed_at c e in
    let y = (master_step s x w n d).engine in
    ap (λ (g : Cycles). with_elapsed y g)
    (pick_both (λ (r : Step). r.engine.elapsed ≡ cycles c) (acting x w) _ _ (λ _. act_elapsed s x w n (data_bit s (master_txd s x) d) (event_of s e.slot)) (λ _. refl))

-- The end of a cycle ---------------------------------------------------------------------------------------------------

-- in a frame or in an idle slot
abbrev pub Live : Engine → Type 0
Live e = (not e.frame && eqb e.slot.0 0) ≡ false

module _ (s : Settings) where
  -- at the next slot's beginning
  unfoldable pub next_slot : Engine → Engine
  next_slot e =
      pick (ltb e.slot.0 (last_slot s).0)
      (with_next_slot e)
      cleared

  -- after c cycles of the slot
  abbrev pub after_cycles : ℕ → Engine → Engine
  after_cycles c e = pick (ltb c s.divisor.0) (elapsed_at c e) (next_slot e)

  pub end_elapsed : (c : ℕ) (e : Engine) → Live e → master_end s (elapsed_at c e) ≡ after_cycles (c + 1) e
  unfolding master_end resting ticked next_slot
  end_elapsed c e live = ap (λ (t : Bool). pick (t && eqb c 0) (elapsed_at c e) (after_cycles (c + 1) e)) live

  pub after_within : (c : ℕ) (e : Engine) → c < s.divisor.0 → after_cycles c e ≡ elapsed_at c e
  after_within c e l = pick_yes _ _ (lt-ltb c s.divisor.0 l)

  pub after_last : (c : ℕ) (e : Engine) → s.divisor.0 ≤ c → after_cycles c e ≡ next_slot e
  after_last c e l = pick_no _ _ (le-ltb c s.divisor.0 l)

  -- a slot begins with no cycle elapsed
  pub next_elapsed : (e : Engine) → next_slot e ≡ elapsed_at 0 (next_slot e)
  unfolding next_slot
  next_elapsed e = pick_both (λ (x : Engine). x ≡ elapsed_at 0 x) (ltb e.slot.0 (last_slot s).0) _ _ (λ _. refl) (λ _. refl)

  -- a slot in a frame, and the last one
  pub next_within : (e : Engine) → e.slot.0 < (last_slot s).0
      → next_slot e ≡ with_next_slot e
  unfolding next_slot
  next_within e l = pick_yes _ _ (lt-ltb e.slot.0 (last_slot s).0 l)

  pub next_last : (e : Engine) → (last_slot s).0 ≤ e.slot.0 → next_slot e ≡ cleared
  unfolding next_slot
  next_last e l = pick_no _ _ (le-ltb e.slot.0 (last_slot s).0 l)

-- The lines of a device ------------------------------------------------------------------------------------------------

-- a cycle that does not end its slot leaves the engine as its lines show it
lines_end : (s : Settings) (e : Engine) → ((master_end s e).elapsed.0 ≡ 0 → ⊥) → master_lines s (master_end s e) ≡ master_lines s e
unfolding master_end ticked master_lines master_txd
lines_end s e =
    pick_both Kept (resting e) _ _ (λ _ _. refl)
    (λ _. pick_both Kept (ltb (e.elapsed.0 + 1) s.divisor.0) _ _ (λ _ _. refl)
    (λ _. pick_both Kept (ltb e.slot.0 (last_slot s).0) _ _ (λ _ h. absurd (h refl)) (λ _ h. absurd (h refl))))
  where
    Kept : Engine → Type 0
    Kept x = (x.elapsed.0 ≡ 0 → ⊥) → master_lines s x ≡ master_lines s e

-- an engine within a slot at a cycle's end is active

end_live : (s : Settings) (e : Engine) → ((end_of s e).elapsed.0 ≡ 0 → ⊥) → end_of s e ≡ tick_of s e
unfolding end_of
end_live s e = pick_both (λ (x : Engine). (x.elapsed.0 ≡ 0 → ⊥) → x ≡ tick_of s e) (active_of s (tick_of s e)) _ _ (λ _ _. refl) (λ _ h. absurd (h refl))

end_active : (s : Settings) (e : Engine) → ((end_of s e).elapsed.0 ≡ 0 → ⊥) → active_of s (end_of s e) ≡ true
unfolding end_of
end_active s e = pick_both (λ (x : Engine). (x.elapsed.0 ≡ 0 → ⊥) → active_of s x ≡ true) (active_of s (tick_of s e)) _ _ (λ a _. a) (λ _ h. absurd (h refl))

active_live : (d : DeviceModel) (pins : Pins) → ((cycle_of d pins).engine.elapsed.0 ≡ 0 → ⊥) → active_device (cycle_of d pins) ≡ true
unfolding cycle_of
active_live d pins h =
    ap (λ (c : Control). active_of (settings_of c) (cycle_of d pins).engine) (control_cycle d pins) ∙ end_active (settings_of d.registers.control) (device_step d pins).engine h

module _ (d : DeviceModel) (pins : Pins) (k : Masters d) where
  lines_master : (cycle_of d pins).lines ≡ master_lines (settings_of d.registers.control) (device_step d pins).engine
  unfolding cycle_of lines_of
  lines_master = pick_no _ _ k

  step_device : active_device d ≡ true → (d.engine.elapsed.0 ≡ 0 → ⊥) → device_step d pins ≡ no_word d.engine
  unfolding device_step step_of
  step_device e h = pick_yes _ _ e ∙ pick_no _ _ k ∙ step_within _ d.engine (waiting_of d.registers) (next_word d.registers) pins.rxd h

  lines_kept : ((cycle_of d pins).engine.elapsed.0 ≡ 0 → ⊥) → master_lines (settings_of d.registers.control) (cycle_of d pins).engine ≡ (cycle_of d pins).lines
  unfolding cycle_of end_of tick_of
  lines_kept h =
      let s = settings_of d.registers.control in
      let e = (device_step d pins).engine in
      let n : (cycle_of d pins).engine ≡ master_end s e = end_live s e h ∙ pick_no _ _ k in
      ap (master_lines s) n ∙ lines_end s e (λ z. h (ap (λ (x : Engine). x.elapsed.0) n ∙ z)) ∙ sym lines_master

-- While a slot lasts the lines stay.
pub slot_lines : (d : DeviceModel) (p q : Pins) → Masters d → ((cycle_of d p).engine.elapsed.0 ≡ 0 → ⊥) → (cycle_of (cycle_of d p) q).lines ≡ (cycle_of d p).lines
slot_lines d p q k h =
    lines_master (cycle_of d p) q (masters_cycle d p k)
    ∙ ap (λ (r : Step). master_lines (settings_of (cycle_of d p).registers.control) r.engine) (step_device (cycle_of d p) q (masters_cycle d p k) (active_live d p h) h)
    ∙ ap (λ (c : Control). master_lines (settings_of c) (cycle_of d p).engine) (control_cycle d p)
    ∙ lines_kept d p k h
