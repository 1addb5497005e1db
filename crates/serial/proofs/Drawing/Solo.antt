-- A master alone, with nothing received: its cycles, and the lines that they show, whatever its pins carry.
use Prim.Native.Nat.{ℕ}
use mathlib.Core.Path.{◌≡◌, refl, ap, ap₂, ◌∙◌}
use mathlib.Core.Bool.{Bool, true, false, ◌&&◌, ◌||◌}
use mathlib.Core.List.{List, [], ◌∷◌}
use native.Mathlib.Omega.{arith}
use lib.ListN.{length, get_or}
use Rattle.registers.specs.Choose.{pick}
use Rattle.registers.specs.Settings.{settings_of}
use Rattle.registers.proofs.Picks.{pick_yes}
use Rattle.registers.specs.Transfer.{rest}
use Rattle.registers.specs.declared.settings.Settings.{Settings}
use Rattle.frames.specs.Engine.{cleared, while_active, no_word}
use Rattle.frames.specs.Lines.{master_lines}
use Rattle.frames.specs.Master.{master_step, master_end}
use Rattle.serial.specs.Cycle.{DeviceModel, cycle_of, recording}
use Rattle.serial.proofs.Cycles.{control_cycle, waits}
use Rattle.serial.proofs.Unreceived.{without_received, step_without_received, Masters, send_step, send_of, lines_sends, engine_sends, tx_sends}
use Rattle.frames.specs.declared.engine.Engine.{Engine}
use Rattle.frames.specs.declared.engine.Step.{Step}
use Rattle.frames.specs.declared.lines.Lines.{Lines}
use Rattle.frames.specs.declared.lines.Pins.{Pins}

-- The words to send and the engine: all that a master alone is.
pub record Solo : Type 0 where
  pub tx : List ℕ
  pub engine : Engine

module _ (s : Settings) where
  unfoldable pub moves : Solo → Step
  moves x = step_without_received (master_step s x.engine (waits x.tx) (get_or x.tx 0 0) false)

  -- after the cycle's event
  unfoldable pub acted : Solo → Solo
  acted x = record { tx = pick (moves x).takes (rest x.tx) x.tx; engine = (moves x).engine }

  -- a cycle, and the lines that it shows
  unfoldable pub cycle : Solo → Solo
  cycle x = record { tx = (acted x).tx; engine = master_end s (acted x).engine }

  abbrev pub shows : Solo → Lines
  shows x = master_lines s (acted x).engine

  -- cycles in a row: the lines shown, from one state to another
  pub data Goes : List Lines → Solo → Solo → Type 0 where
    none : {x : Solo} → Goes [] x x
    more : {l : Lines} {ls : List Lines} {x y z : Solo} → shows x ≡ l → cycle x ≡ y → Goes ls y z → Goes (l ∷ ls) x z

abbrev pub solo_of : DeviceModel → Solo
solo_of d = record { tx = d.registers.tx; engine = without_received d.engine }

-- An enabled master with these settings.
pub record Runs (s : Settings) (d : DeviceModel) : Type 0 where
  pub set : settings_of d.registers.control ≡ s
  pub enabled : s.enabled ≡ true
  pub master : s.slave ≡ false

module _ (s : Settings) (d : DeviceModel) (pins : Pins) (k : Runs s d) where
  is_master : Masters d
  is_master = ap (λ (u : Settings). u.slave) k.set ∙ k.master

  step_is : send_of d ≡ moves s (solo_of d)
  unfolding moves send_step
  step_is =
      let tx = d.registers.tx in
      let e = without_received d.engine in
      ap (λ (u : Settings). send_step u tx e) k.set
      ∙ ap (λ (t : Bool). step_without_received (pick (t || (e.frame && s.edition2)) (master_step s e (t && waits tx) (get_or tx 0 0) false) (no_word cleared))) k.enabled

  lines_is : (cycle_of d pins).lines ≡ shows s (solo_of d)
  unfolding acted
  lines_is = lines_sends d pins is_master ∙ (λ i. master_lines (k.set i) (step_is i).engine)

  engine_is : without_received (cycle_of d pins).engine ≡ (cycle s (solo_of d)).engine
  unfolding cycle acted
  engine_is =
      engine_sends d pins is_master ∙ (λ i. while_active (k.set i) (master_end (k.set i) (step_is i).engine))
      ∙ pick_yes _ _ (ap (λ (t : Bool). t || ((master_end s (moves s (solo_of d)).engine).frame && s.edition2)) k.enabled)

  tx_is : (cycle_of d pins).registers.tx ≡ (cycle s (solo_of d)).tx
  unfolding cycle acted
  tx_is = tx_sends d pins is_master ∙ ap (λ (r : Step). pick r.takes (rest d.registers.tx) d.registers.tx) step_is

  pub solo_cycle : solo_of (cycle_of d pins) ≡ cycle s (solo_of d)
  solo_cycle = ap₂ (λ (t : List ℕ) (e : Engine). record { tx = t; engine = e }) tx_is engine_is

  pub runs_cycle : Runs s (cycle_of d pins)
  runs_cycle = record { set = ap settings_of (control_cycle d pins) ∙ k.set; enabled = k.enabled; master = k.master }

-- A device's recording is what its cycles show, whatever its input pins carry.
pub recording_goes : (s : Settings) (d : DeviceModel) → Runs s d → {ls : List Lines} {x y : Solo} → solo_of d ≡ x → Goes s ls x y → (ps : List Pins) → length ps ≡ length ls → recording d ps ≡ ls
recording_goes s d k e none [] l = refl
recording_goes s d k e none (p ∷ ps) l = absurd (omega arith)
recording_goes s d k e (more a b g) [] l = absurd (omega arith)
recording_goes s d k e (more a b g) (p ∷ ps) l =
    ap₂ ◌∷◌ (lines_is s d p k ∙ ap (shows s) e ∙ a)
    (recording_goes s (cycle_of d p) (runs_cycle s d p k) (solo_cycle s d p k ∙ ap (cycle s) e ∙ b) g ps (omega arith))
