-- A cycle of two wired devices is a cycle of the exchange: the rest of the register file does not matter, and SPO only inverts
-- the clock on the wire.
use Prim.Native.Nat.{ℕ}
use mathlib.Core.Path.{◌≡◌, refl, sym, ap, ap₂, ◌∙◌}
use mathlib.Core.Bool.{Bool, true, false, not, ◌&&◌}
use mathlib.Core.List.{List, ◌++◌, append-nil}
use lib.Dec.{eqb}
use lib.ListN.{length, get_or}
use Rattle.std.specs.Prelude.{Option, Some, None}
use Rattle.registers.specs.Choose.{pick, words_of}
use Rattle.registers.specs.Model.{Model}
use Rattle.registers.specs.Settings.{settings_of, enabled_of}
use Rattle.registers.specs.Transfer.{rest, waiting_of, next_word, take_word, receive_word, end_cycle}
use Rattle.registers.specs.declared.settings.Format.{Format}
use Rattle.registers.specs.declared.settings.Settings.{Settings}
use Rattle.frames.specs.Lines.{master_lines, slave_lines, lines_of}
use Rattle.frames.specs.Master.{master_step}
use Rattle.serial.specs.Slave.{slave_step, slave_end}
use Rattle.serial.specs.Cycle.{DeviceModel, step_of, tick_of, end_of, take_if, receive_if, device_step, completed_of, cycle_of}
use Rattle.serial.specs.Pair.{wire, PairModel, pair_cycle}
use Rattle.serial.specs.Demand3.{Agree, completed}
use Rattle.serial.specs.Demand3.Which.{master, slave}
use Rattle.serial.proofs.Cycles.{on_word, step_tx, waits}
use Rattle.serial.proofs.Exchange.Core.{Receiver, Side, Pair, plain, push, moved, with_engine, acted, master_side, slave_side, core_cycle}
use Rattle.serial.proofs.Exchange.Turn.{given, turns, turn_pins, turn_lines, turn_twice, turn_pins_twice, step_plain, end_plain, lines_plain}
use Rattle.serial.proofs.Exchange.Wiring.{Wiring}
use Rattle.serial.specs.declared.History.{History}
use Rattle.frames.specs.declared.engine.Engine.{Engine}
use Rattle.frames.specs.declared.engine.Step.{Step}
use Rattle.frames.specs.declared.lines.Lines.{Lines}
use Rattle.frames.specs.declared.lines.Pins.{Pins}

-- The registers -----------------------------------------------------------------------------------------------------------

-- the register file after a step, as the exchange has it
abbrev pub rx_of : Model → List ℕ → Receiver
rx_of m log = record { held = m.rx; ror = m.ror; log = log }

step_rx : (m : Model) (t : Bool) (o : Option ℕ) (f : Bool) (log : List ℕ)
    → rx_of (end_cycle (receive_if (take_if m t) o) f) (log ++ words_of o) ≡ on_word o (λ (w : ℕ). push w (rx_of m log)) (rx_of m log)
unfolding end_cycle receive_if take_if receive_word take_word push
step_rx m true (Some w) f log = refl
step_rx m true None f log = ap (rx_of m) (append-nil log)
step_rx m false (Some w) f log = refl
step_rx m false None f log = ap (rx_of m) (append-nil log)

-- The pair ----------------------------------------------------------------------------------------------------------------

-- a device as the exchange sees it: its clock turned by p, the words completed so far in the log
abbrev pub side_of : Bool → List ℕ → DeviceModel → Side
side_of p log d = record { tx = d.registers.tx; rx = rx_of d.registers log; engine = d.engine; lines = turn_lines p d.lines }

abbrev pub history_of : Bool → History → History
history_of p h = record { newest = turn_pins p h.newest; middle = turn_pins p h.middle; oldest = turn_pins p h.oldest }

-- the lines of a slave have no clock to turn
abbrev pub core_of : Bool → List ℕ → List ℕ → PairModel → Pair
core_of p l k g =
    record { m = side_of p l g.first; s = side_of false k g.second; h = history_of p g.second.pins }

-- the two devices are set up as a pair and enabled, each of its own edition
pub record Paired (f : Format) (phase p : Bool) (b h k : ℕ) (o : Bool) (g : PairModel) : Type 0 where
  pub wiring : Wiring f phase b h
  pub edition : Bool
  pub master : settings_of g.first.registers.control ≡ given f phase p b h false o edition
  -- SPH, SPO and edition of the slave
  pub its_phase : Bool
  pub its_polarity : Bool
  pub its_edition : Bool
  pub phases : Agree f its_phase phase
  pub polarities : Agree f its_polarity p
  pub slave : settings_of g.second.registers.control ≡ given f its_phase its_polarity b k true false its_edition

-- the word of a device that waits, once SSE is 1
waits_on : (m : Model) → enabled_of m.control ≡ true → waiting_of m ≡ waits m.tx
unfolding waiting_of
waits_on m h = ap (λ (t : Bool). t && not (eqb (length m.tx) 0)) h

module _ {f : Format} {phase p : Bool} {b h k : ℕ} {o : Bool} (g : PairModel) (P : Paired f phase p b h k o g) where
  first_on : enabled_of g.first.registers.control ≡ true
  unfolding settings_of
  first_on = ap (λ (s : Settings). s.enabled) P.master

  -- the master's step
  first_step : (x : Pins) → device_step g.first x ≡ master_step (plain f phase b h false) g.first.engine (waits g.first.registers.tx) (get_or g.first.registers.tx 0 0) x.rxd
  unfolding device_step step_of next_word
  first_step x =
      let e = g.first.engine in
      let m = g.first.registers in
      ap₂ (λ (s : Settings) (w : Bool). step_of s e g.first.pins x w (get_or m.tx 0 0)) P.master (waits_on m first_on)
      ∙ step_plain f phase p b h o P.edition e (waits m.tx) (get_or m.tx 0 0) x.rxd

  -- the slave's step, with the pins turned back
  second_step : (x : Pins) → device_step g.second x
      ≡ slave_step (plain f phase b h true) g.second.engine (history_of (turns f p) g.second.pins).oldest (history_of (turns f p) g.second.pins).middle (get_or g.second.registers.tx 0 0)
  unfolding device_step step_of next_word
  second_step x =
      let e = g.second.engine in
      let m = g.second.registers in
      let q = turns f p in
      let old = g.second.pins.oldest in
      let mid = g.second.pins.middle in
      ap (λ (s : Settings). step_of s e g.second.pins x (waiting_of m) (get_or m.tx 0 0)) P.slave
      ∙ ap₂ (λ (u v : Pins). slave_step (given f P.its_phase P.its_polarity b k true false P.its_edition) e u v (get_or m.tx 0 0)) (sym (turn_pins_twice q old)) (sym (turn_pins_twice q mid))
      ∙ P.wiring.turned P.its_phase p P.its_polarity P.its_edition k P.phases P.polarities e (turn_pins q old) (turn_pins q mid) (get_or m.tx 0 0)

-- a device after a step R, as the exchange sees it
abbrev stepped : Bool → List ℕ → DeviceModel → Settings → Step → Side
stepped q l d s r =
    record {
      tx = pick r.takes (rest d.registers.tx) d.registers.tx;
      rx = on_word r.completed (λ (w : ℕ). push w (rx_of d.registers l)) (rx_of d.registers l);
      engine = end_of s r.engine;
      lines = turn_lines q (lines_of s r.engine);
    }

side_cycle : (q : Bool) (l : List ℕ) (d : DeviceModel) (x : Pins) (s : Settings) (r : Step) → settings_of d.registers.control ≡ s → device_step d x ≡ r
    → side_of q (l ++ completed_of d x) (cycle_of d x) ≡ stepped q l d s r
unfolding cycle_of completed_of
side_cycle q l d x s r e a =
    let m = d.registers in
    ap₂ (λ (s : Settings) (r : Step). record {
      tx = (end_cycle (receive_if (take_if m r.takes) r.completed) (end_of s r.engine).frame).tx;
      rx = rx_of (end_cycle (receive_if (take_if m r.takes) r.completed) (end_of s r.engine).frame) (l ++ words_of r.completed);
      engine = end_of s r.engine;
      lines = turn_lines q (lines_of s r.engine);
    }) e a
    ∙ ap₂ (λ (t : List ℕ) (z : Receiver). record { tx = t; rx = z; engine = end_of s r.engine; lines = turn_lines q (lines_of s r.engine) })
    (step_tx m r.takes r.completed (end_of s r.engine).frame) (step_rx m r.takes r.completed (end_of s r.engine).frame l)

module _ {f : Format} {phase p : Bool} {b h k : ℕ} {o : Bool} (g : PairModel) (P : Paired f phase p b h k o g) (l j : List ℕ) where
  first_side : side_of (turns f p) (l ++ completed master g) (pair_cycle g).first ≡ master_side (plain f phase b h false) (side_of (turns f p) l g.first) (wire g.second.lines).rxd
  unfolding pair_cycle end_of tick_of lines_of master_side acted
  first_side =
      let x = wire g.second.lines in
      let s = given f phase p b h false o P.edition in
      let r = master_step (plain f phase b h false) g.first.engine (waits g.first.registers.tx) (get_or g.first.registers.tx 0 0) x.rxd in
      let y = side_of (turns f p) l g.first in
      side_cycle (turns f p) l g.first x s r P.master (first_step g P x)
      ∙ ap₂ (λ (e : Engine) (z : Lines). with_engine (moved r y z) e) (end_plain f phase p b h o P.edition r.engine)
      (ap (turn_lines (turns f p)) (lines_plain f phase p b h o P.edition r.engine) ∙ turn_twice (turns f p) (master_lines (plain f phase b h false) r.engine))

  second_side : side_of false (j ++ completed slave g) (pair_cycle g).second
      ≡ slave_side (plain f phase b h true) (history_of (turns f p) g.second.pins).oldest (history_of (turns f p) g.second.pins).middle (side_of false j g.second)
  unfolding pair_cycle end_of tick_of lines_of slave_side slave_lines slave_end
  second_side =
      let x = wire g.first.lines in
      let s = given f P.its_phase P.its_polarity b k true false P.its_edition in
      let q = turns f p in
      let r = slave_step (plain f phase b h true) g.second.engine (turn_pins q g.second.pins.oldest) (turn_pins q g.second.pins.middle) (get_or g.second.registers.tx 0 0) in
      side_cycle false j g.second x s r P.slave (second_step g P x)

  -- a pair cycle, projected
  pub commutes : core_of (turns f p) (l ++ completed master g) (j ++ completed slave g) (pair_cycle g) ≡ core_cycle (plain f phase b h false) (plain f phase b h true) (core_of (turns f p) l j g)
  unfolding core_cycle wire pair_cycle cycle_of
  commutes =
      ap₂ (λ (m s : Side). record { m = m; s = s; h = history_of (turns f p) (pair_cycle g).second.pins }) first_side second_side
