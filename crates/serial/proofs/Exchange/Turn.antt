-- SPO only inverts the clock on the wire, and neither SOD nor the edition makes a difference: a device of a pair acts as one
-- with plain settings.
use Prim.Native.Nat.{ℕ}
use mathlib.Core.Path.{◌≡◌, refl, sym, ap, ap₂, ◌∙◌}
use mathlib.Core.Bool.{Bool, true, false}
use Rattle.registers.specs.Settings.{settings_by}
use Rattle.registers.specs.Time.{divisor}
use Rattle.registers.specs.Choose.{pick}
use Rattle.registers.specs.declared.settings.Format.{Format}
use Rattle.registers.specs.declared.settings.Format.TheVariants.{Motorola, Ti, Microwire, Reserved}
use Rattle.registers.specs.declared.settings.Settings.{Settings}
use Rattle.frames.specs.Engine.{no_word}
use Rattle.frames.specs.Slots.{event_of, last_slot, width_of, levels_of}
use Rattle.frames.specs.Lines.{differ, idle_on, clock_on, joined_to, master_lines, frame_lines, master_txd}
use Rattle.frames.specs.Master.{act, master_step, master_end, ticked, acting, data_bit}
use Rattle.serial.specs.Slave.{slave_step, motorola_slave, motorola_select, motorola_edges, motorola_clock, capture_edge, drive_edge, ti_slave, ti_falls, ti_rises, microwire_slave, microwire_edges, microwire_rises, data_rises, microwire_falls}
use Rattle.serial.specs.Pair.{wire}
use Rattle.serial.specs.Demand3.{Agree}
use Rattle.serial.proofs.Exchange.Core.{plain}
use Rattle.frames.specs.declared.engine.Engine.{Engine}
use Rattle.frames.specs.declared.engine.Step.{Step}
use Rattle.frames.specs.declared.lines.Lines.{Lines}
use Rattle.frames.specs.declared.lines.Pins.{Pins}
use Rattle.frames.specs.declared.slots.Event.{Event}
use Rattle.frames.specs.declared.slots.Event.TheVariants.{Begin, BeginDrive, Drive, First, Capture, Chain, JoinDrive, JoinCapture, Quiet, Release, Pause}
use Rattle.frames.specs.declared.slots.Levels.{Levels}

-- Settings with everything named: SPO p, SOD o, the edition ed.
abbrev pub given : Format → Bool → Bool → ℕ → ℕ → Bool → Bool → Bool → Settings
given f phase p b h slave o ed =
    settings_by f phase p b (divisor h) slave o false true ed

-- SPO as far as it means something: the level of the clock when it is not active.
abbrev pub turns : Format → Bool → Bool
turns f p = clock_on f p false

abbrev pub turn_pins : Bool → Pins → Pins
turn_pins p x = record { clk = differ x.clk p; fss = x.fss; rxd = x.rxd }

abbrev pub turn_lines : Bool → Lines → Lines
turn_lines p x = record { clk = differ x.clk p; fss = x.fss; txd = x.txd; released = x.released }

differ_false : (c : Bool) → differ c false ≡ c
differ_false true = refl
differ_false false = refl

differ_twice : (a p : Bool) → differ (differ a p) p ≡ a
differ_twice true true = refl
differ_twice true false = refl
differ_twice false true = refl
differ_twice false false = refl

pub turn_twice : (p : Bool) (x : Lines) → turn_lines p (turn_lines p x) ≡ x
turn_twice p x = ap (λ (c : Bool). record { clk = c; fss = x.fss; txd = x.txd; released = x.released }) (differ_twice x.clk p)

pub turn_pins_twice : (p : Bool) (x : Pins) → turn_pins p (turn_pins p x) ≡ x
turn_pins_twice p x = ap (λ (c : Bool). record { clk = c; fss = x.fss; rxd = x.rxd }) (differ_twice x.clk p)

-- The master --------------------------------------------------------------------------------------------------------------

act_plain : (f : Format) (phase p : Bool) (b h : ℕ) (o ed : Bool) (e : Engine) (w : Bool) (n : ℕ) (d : Bool) (v : Event)
    → act (given f phase p b h false o ed) e w n d v ≡ act (plain f phase b h false) e w n d v
unfolding width_of
act_plain f phase p b h o ed e w n d Begin = refl
act_plain f phase p b h o ed e w n d BeginDrive = refl
act_plain f phase p b h o ed e w n d (Drive i) = refl
act_plain f phase p b h o ed e w n d First = refl
act_plain f phase p b h o ed e w n d Capture = refl
act_plain f phase p b h o ed e w n d (Chain i) = refl
act_plain f phase p b h o ed e w n d (JoinDrive i) = refl
act_plain f phase p b h o ed e w n d JoinCapture = refl
act_plain f phase p b h o ed e w n d Quiet = refl
act_plain f phase p b h o ed e w n d Release = refl
act_plain f phase p b h o ed e w n d Pause = refl

pub step_plain : (f : Format) (phase p : Bool) (b h : ℕ) (o ed : Bool) (e : Engine) (w : Bool) (n : ℕ) (d : Bool)
    → master_step (given f phase p b h false o ed) e w n d ≡ master_step (plain f phase b h false) e w n d
unfolding master_step data_bit event_of
step_plain f phase p b h o ed e w n d = ap (λ (r : Step). pick (acting e w) r (no_word e)) (act_plain f phase p b h o ed e w n d (event_of (plain f phase b h false) e.slot))

pub end_plain : (f : Format) (phase p : Bool) (b h : ℕ) (o ed : Bool) (e : Engine) → master_end (given f phase p b h false o ed) e ≡ master_end (plain f phase b h false) e
unfolding master_end ticked last_slot
end_plain f phase p b h o ed e = refl

-- an active clock turns over as an idle one does
clock_turned : (f : Format) (p c : Bool) → clock_on f p c ≡ differ (clock_on f false c) (turns f p)
clock_turned Motorola p true = refl
clock_turned Motorola p false = refl
clock_turned Ti p c = sym (differ_false c)
clock_turned Microwire p c = sym (differ_false c)
clock_turned Reserved p c = sym (differ_false c)

pub idle_turned : (f : Format) (p : Bool) → idle_on f p ≡ turn_lines (turns f p) (idle_on f false)
idle_turned Motorola p = refl
idle_turned Ti p = refl
idle_turned Microwire p = refl
idle_turned Reserved p = refl

pub lines_plain : (f : Format) (phase p : Bool) (b h : ℕ) (o ed : Bool) (e : Engine) → master_lines (given f phase p b h false o ed) e ≡ turn_lines (turns f p) (master_lines (plain f phase b h false) e)
unfolding master_lines master_txd levels_of frame_lines
lines_plain f phase p b h o ed e = go e.frame (levels_of (plain f phase b h false) (joined_to e) e.slot) (master_txd (plain f phase b h false) e)
  where
    go : (t : Bool) (v : Levels) (d : Bool) → pick t (frame_lines (given f phase p b h false o ed) v d) (idle_on f p) ≡ turn_lines (turns f p) (pick t (frame_lines (plain f phase b h false) v d) (idle_on f false))
    go true v d = ap (λ (c : Bool). record { clk = c; fss = v.fss; txd = d; released = v.released }) (clock_turned f p v.clk)
    go false v d = idle_turned f p

-- the idle lines, turned back
pub idle_plain : (f : Format) (p : Bool) → turn_lines (turns f p) (idle_on f p) ≡ idle_on f false
idle_plain f p = ap (turn_lines (turns f p)) (idle_turned f p) ∙ turn_twice (turns f p) (idle_on f false)

pub wire_plain : (f : Format) (p : Bool) → turn_pins (turns f p) (wire (idle_on f p)) ≡ wire (idle_on f false)
unfolding wire
wire_plain f p = ap wire (idle_plain f p)

-- The slave ---------------------------------------------------------------------------------------------------------------

-- a slave with the master's SPO and SPH that sees the clock inverted acts as a plain one that sees the clock itself
abbrev pub Turned : Format → Bool → ℕ → ℕ → Type 0
Turned f phase b h =
    (phase' p p' ed : Bool) (k : ℕ) → Agree f phase' phase → Agree f p' p → (e : Engine) (x y : Pins) (n : ℕ)
    → slave_step (given f phase' p' b k true false ed) e (turn_pins (turns f p) x) (turn_pins (turns f p) y) n ≡ slave_step (plain f phase b h true) e x y n

pub turned_motorola : (phase : Bool) (b h : ℕ) → Turned Motorola phase b h
unfolding slave_step motorola_slave motorola_select motorola_edges motorola_clock capture_edge drive_edge data_bit
turned_motorola phase b h phase' p p' ed k u v e x y n =
    ap₂ (λ (f q : Bool). slave_step (given Motorola f q b k true false ed) e (turn_pins (turns Motorola p) x) (turn_pins (turns Motorola p) y) n) u v ∙ go p x.clk y.clk
  where
    go : (p c d : Bool) → slave_step (given Motorola phase p b k true false ed) e (record { clk = differ c p; fss = x.fss; rxd = x.rxd }) (record { clk = differ d p; fss = y.fss; rxd = y.rxd }) n
        ≡ slave_step (plain Motorola phase b h true) e (record { clk = c; fss = x.fss; rxd = x.rxd }) (record { clk = d; fss = y.fss; rxd = y.rxd }) n
    go true true true = refl
    go true true false = refl
    go true false true = refl
    go true false false = refl
    go false true true = refl
    go false true false = refl
    go false false true = refl
    go false false false = refl

-- where SPO has no effect the clock is not inverted
turn_none : (x : Pins) → turn_pins false x ≡ x
turn_none x = ap (λ (c : Bool). record { clk = c; fss = x.fss; rxd = x.rxd }) (differ_false x.clk)

pub turned_ti : (phase : Bool) (b h : ℕ) → Turned Ti phase b h
unfolding slave_step ti_slave ti_falls ti_rises data_bit
turned_ti phase b h phase' p p' ed k u v e x y n = ap₂ (λ (u v : Pins). slave_step (plain Ti phase b h true) e u v n) (turn_none x) (turn_none y)

pub turned_microwire : (phase : Bool) (b h : ℕ) → Turned Microwire phase b h
unfolding slave_step microwire_slave microwire_edges microwire_rises data_rises microwire_falls data_bit
turned_microwire phase b h phase' p p' ed k u v e x y n = ap₂ (λ (u v : Pins). slave_step (plain Microwire phase b h true) e u v n) (turn_none x) (turn_none y)
