-- What each format must give for a wired pair, as one record, which Formats fills for each format; and what follows for a pair
-- at rest.
use Prim.Native.Nat.{ℕ, suc, ◌*◌, ◌≤◌}
use mathlib.Core.Path.{◌≡◌, refl, ap, ◌∙◌}
use mathlib.Core.Bool.{Bool, true, false, not, ◌&&◌}
use mathlib.Core.List.{List, [], ◌∷◌}
use lib.ListN.{length, get_or}
use Rattle.registers.specs.Time.{divisor}
use Rattle.registers.specs.Transfer.{rest}
use Rattle.registers.specs.declared.settings.Format.{Format}
use Rattle.registers.specs.declared.settings.Format.TheVariants.{Motorola, Ti, Microwire, Reserved}
use Rattle.registers.specs.declared.settings.Settings.{Settings}
use Rattle.frames.specs.Bits.{cut}
use Rattle.frames.specs.Engine.{cleared, no_word}
use Rattle.frames.specs.Slots.{width_of, capture_width}
use Rattle.frames.specs.Lines.{idle_on, shows_on, master_lines, master_txd, slave_lines}
use Rattle.frames.specs.Master.{master_step, master_end, acting, resting}
use Rattle.serial.specs.Slave.{slave_step, slave_end}
use Rattle.serial.specs.Pair.{wire}
use Rattle.serial.specs.Demand3.{Agree, busy_for}
use Rattle.serial.proofs.Trace.{Trace, iterate}
use Rattle.serial.proofs.Exchange.Core.{Receiver, Side, Pair, plain, push, acted, master_side, core_cycle}
use Rattle.serial.proofs.Exchange.Settle.{Two, Lawful, Settled, slot_step, rested, mk}
use Rattle.serial.proofs.Exchange.Moves.{Queues, hidden, slave_by, LiveSlot}
use Rattle.serial.proofs.Exchange.Turn.{given, Turned, idle_turned}
use Rattle.frames.specs.declared.lines.Lines.{Lines}

-- The words of a load ------------------------------------------------------------------------------------------------

-- the oldest word to send, zero if there is none
abbrev pub front : List ℕ → ℕ
front vs = get_or vs 0 0

abbrev pub holding : List ℕ → Receiver → List ℕ → Receiver → Queues
holding ws q vs r = record { mtx = ws; mrx = q; stx = vs; srx = r }

-- What both receive queues hold.
abbrev pub Holds : Receiver → Receiver → Pair → Type 0
Holds q r p = (p.m.rx ≡ q) × (p.s.rx ≡ r)

-- between frames, with the master's idle lines
abbrev pub starts : Lines → Queues → Two
starts i k =
    record {
      m = record { tx = k.mtx; rx = k.mrx; engine = cleared; lines = i };
      s = record { tx = k.stx; rx = k.srx; engine = cleared; lines = hidden };
    }

-- A pair at rest -----------------------------------------------------------------------------------------------------

shows_cleared : (f : Format) → shows_on f cleared ≡ false
shows_cleared Motorola = refl
shows_cleared Ti = refl
shows_cleared Microwire = refl
shows_cleared Reserved = refl

-- an idle slave shows nothing
pub slave_hidden : (s : Settings) → slave_lines s cleared ≡ hidden
unfolding slave_lines
slave_hidden s = ap (λ (t : Bool). record { clk = false; fss = true; txd = t && false; released = not (t && not s.sod) }) (shows_cleared s.format)

-- an idle slave that sees the master's idle lines stays idle
abbrev pub StaysIdle : Format → Bool → ℕ → ℕ → Type 0
StaysIdle f phase b h = (n : ℕ) → slave_step (plain f phase b h true) cleared (wire (idle_on f false)) (wire (idle_on f false)) n ≡ no_word cleared

module _ (f : Format) (phase : Bool) (b h : ℕ) (stays : StaysIdle f phase b h) where
  pub idle_settled : (k : Queues) → Settled (plain f phase b h false) (plain f phase b h true) (starts (idle_on f false) k)
  unfolding slave_end
  idle_settled k =
      let ss = plain f phase b h true in
      let o = wire (idle_on f false) in
      slave_by ss o o (starts (idle_on f false) k).s (no_word cleared) cleared hidden (stays (front k.stx)) refl (slave_hidden ss)

  -- with nothing to send nothing happens
  pub idle_stays : (q : Receiver) (vs : List ℕ) (r : Receiver)
      → core_cycle (plain f phase b h false) (plain f phase b h true) (rested (starts (idle_on f false) (holding [] q vs r))) ≡ rested (starts (idle_on f false) (holding [] q vs r))
  unfolding core_cycle master_side acted master_step master_end acting resting master_lines master_txd
  idle_stays q vs r =
      let t = starts (idle_on f false) (holding [] q vs r) in
      let o = wire (idle_on f false) in
      ap (λ (y : Side). mk t.m y o o o) (idle_settled (holding [] q vs r))

-- What a format gives ------------------------------------------------------------------------------------------------

-- The state after a load, from that after its last word: the words before it are received, cut to c bits in the master and to
-- d in the slave.
abbrev pub last_of : ℕ → ℕ → (ℕ → Receiver → List ℕ → Receiver → Two) → ℕ → List ℕ → Receiver → List ℕ → Receiver → Two
last_of c d final w [] q vs r = final w q vs r
last_of c d final w (u ∷ ws) q vs r = last_of c d final u ws (push (cut c (front vs)) q) (rest vs) (push (cut d w) r)

-- The exchange of a load from the idle lines i. `slots n`: as many as one word and n more take to be received.
pub record Exchange (sm ss : Settings) (i : Lines) (slots : ℕ → ℕ) : Type 0 where
  -- the state after the last word
  pub final : ℕ → Receiver → List ℕ → Receiver → Two
  pub run : (w : ℕ) (ws : List ℕ) (q : Receiver) (vs : List ℕ) (r : Receiver)
      → Trace (LiveSlot sm ss) (slot_step sm ss) (slots (length ws)) (starts i (holding (w ∷ ws) q vs r)) (last_of (capture_width sm) (width_of sm) final w ws q vs r)
  -- and from there on the receive queues have it
  pub ever : (w : ℕ) (q : Receiver) (vs : List ℕ) (r : Receiver) (n : ℕ)
      → Holds (push (cut (capture_width sm) (front vs)) q) (push (cut (width_of sm) w) r) (iterate n (core_cycle sm ss) (rested (final w q vs r)))

-- A format with its phase, b bits and h cycles a slot.
pub record Wiring (f : Format) (phase : Bool) (b h : ℕ) : Type 0 where
  pub lawful : Lawful (plain f phase b h true)
  pub stays_idle : StaysIdle f phase b h
  pub turned : Turned f phase b h
  pub slots : ℕ → ℕ
  pub exchange : Exchange (plain f phase b h false) (plain f phase b h true) (idle_on f false) slots
  -- a load is received before the master's first BSY 0
  pub in_time : (n : ℕ) → slots n * h ≤ (busy_for f phase b (divisor h) (suc n)).0

-- An idle slave stays idle under the idle lines of any SPO.
pub stays_idle_given : {f : Format} {phase : Bool} {b h : ℕ} → Wiring f phase b h → (phase' p p' ed : Bool) (k n : ℕ) → Agree f phase' phase → Agree f p' p
    → slave_step (given f phase' p' b k true false ed) cleared (wire (idle_on f p)) (wire (idle_on f p)) n ≡ no_word cleared
unfolding wire
stays_idle_given {f} {phase} {b} W phase' p p' ed k n u v =
    let o = wire (idle_on f false) in
    ap (λ (x : Lines). slave_step (given f phase' p' b k true false ed) cleared (wire x) (wire x) n) (idle_turned f p) ∙ W.turned phase' p p' ed k u v cleared o o n ∙ W.stays_idle n
