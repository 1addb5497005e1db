-- The end of a frame that idle slots follow: FSS goes HIGH, and after the last idle slot nothing changes any more.
use Prim.Native.Nat.{ℕ, ◌+◌, ◌≤◌, ◌<◌}
use mathlib.Core.Path.{◌≡◌, refl, sym, ap, subst}
use mathlib.Core.Bool.{Bool, true, false}
use mathlib.Core.List.{List, []}
use native.Mathlib.Omega.{arith}
use borrow.Author.Tests.{ne_eqb}
use Rattle.registers.specs.Time.{slots}
use Rattle.registers.specs.declared.settings.Format.{Format}
use Rattle.registers.specs.declared.settings.Settings.{Settings}
use Rattle.frames.specs.Engine.{no_word}
use Rattle.frames.specs.Slots.{event_of, last_slot}
use Rattle.frames.specs.Lines.{idle_on, master_lines, master_txd}
use Rattle.frames.specs.Master.{master_step, acting, resting}
use Rattle.serial.specs.Pair.{wire}
use Rattle.serial.proofs.Trace.{none, more, iterate, trace_ever}
use Rattle.serial.proofs.WithinSlot.{Live, next_within, next_last, sending, parked}
use Rattle.serial.proofs.Exchange.Core.{Receiver, Side, plain, acted, slave_side, core_cycle}
use Rattle.serial.proofs.Exchange.Settle.{Two, Lawful, Settled, line, rested, slots_trace}
use Rattle.serial.proofs.Exchange.Moves.{Queues, acted_by, Slot, slot_of}
use Rattle.serial.proofs.Exchange.Wiring.{holding, Holds, starts, StaysIdle, idle_settled, idle_stays}
use Rattle.frames.specs.declared.engine.Engine.{Engine}
use Rattle.frames.specs.declared.engine.Shift.{Shift}
use Rattle.frames.specs.declared.lines.Lines.{Lines}
use Rattle.frames.specs.declared.slots.Event.TheVariants.{Release}

-- FSS is HIGH again
abbrev pub released_at : Format → Queues → ℕ → Two
released_at f k n = record { m = record { tx = k.mtx; rx = k.mrx; engine = parked n; lines = idle_on f false }; s = (starts (idle_on f false) k).s }

-- the pair in slot n of a frame, with the slave given
abbrev pub framed_at : Queues → ℕ → Shift → Lines → Side → Two
framed_at k n x l y = record { m = record { tx = k.mtx; rx = k.mrx; engine = sending n x; lines = l }; s = y }

-- a slave that sees the master's lines go from l to the idle ones is idle
abbrev pub GoesIdle : Format → Bool → ℕ → ℕ → Queues → Lines → Side → Type 0
GoesIdle f phase b h k l y = slave_side (plain f phase b h true) (wire l) (wire (idle_on f false)) y ≡ (starts (idle_on f false) k).s

module _ (f : Format) (phase : Bool) (b h : ℕ) (stays : StaysIdle f phase b h) where
  abbrev sm : Settings
  sm = plain f phase b h false

  abbrev ss : Settings
  ss = plain f phase b h true

  abbrev freed : Queues → ℕ → Side
  freed k n = record { tx = k.mtx; rx = k.mrx; engine = parked n; lines = idle_on f false }

  -- the frame is over in slot n
  pub release_slot : (k : Queues) (n : ℕ) (x : Shift) (l : Lines) (y : Side) → event_of (plain f phase b h false) (slots n) ≡ Release → n < (last_slot (plain f phase b h false)).0 → GoesIdle f phase b h k l y
      → Slot (plain f phase b h false) (plain f phase b h true) (framed_at k n x l y) (record { tx = k.mtx; rx = k.mrx; engine = parked n; lines = idle_on f false }) (released_at f k (n + 1))
  unfolding master_lines master_txd
  release_slot k n x l y e m z =
      slot_of sm ss (framed_at k n x l y) (freed k n) (freed k (n + 1)) (starts (idle_on f false) k).s (starts (idle_on f false) k).s
      (acted_by sm n x k.mtx k.mrx l (idle_on f false) (line y) Release (no_word (parked n)) e refl refl)
      (ap (λ (u : Engine). record { tx = k.mtx; rx = k.mrx; engine = u; lines = idle_on f false }) (next_within sm (parked n) m))
      z (idle_settled f phase b h stays k) refl

  parked_acts : (k : Queues) (n : ℕ) (d : Bool) → 0 < n → acted sm (freed k n) d ≡ freed k n
  unfolding acted master_step acting resting master_lines master_txd
  parked_acts k n d l = rw (ne_eqb n 0 (omega arith))

  -- the last idle slot
  pub pause_slot : (k : Queues) (n : ℕ) → 0 < n → n ≡ (last_slot (plain f phase b h false)).0
      → Slot (plain f phase b h false) (plain f phase b h true) (released_at f k n) (record { tx = k.mtx; rx = k.mrx; engine = parked n; lines = idle_on f false }) (starts (idle_on f false) k)
  pause_slot k n l e =
      slot_of sm ss (released_at f k n) (freed k n) (starts (idle_on f false) k).m (starts (idle_on f false) k).s (starts (idle_on f false) k).s
      (parked_acts k n (line (starts (idle_on f false) k).s) l)
      (ap (λ (u : Engine). record { tx = k.mtx; rx = k.mrx; engine = u; lines = idle_on f false }) (next_last sm (parked n) (omega arith)))
      (idle_settled f phase b h stays k) (idle_settled f phase b h stays k) refl

  -- from there on nothing changes in the receive queues
  pub ever : Lawful (plain f phase b h true) → 6 ≤ h → (q : Receiver) (vs : List ℕ) (r : Receiver) (n : ℕ) (x : Shift) (l : Lines) (y : Side)
      → event_of (plain f phase b h false) (slots n) ≡ Release → 0 < n → n + 1 ≡ (last_slot (plain f phase b h false)).0 → GoesIdle f phase b h (holding [] q vs r) l y
      → Settled (plain f phase b h false) (plain f phase b h true) (framed_at (holding [] q vs r) n x l y) → y.rx ≡ r → (i : ℕ)
      → Holds q r (iterate i (core_cycle (plain f phase b h false) (plain f phase b h true)) (rested (framed_at (holding [] q vs r) n x l y)))
  ever lawful six q vs r n x l y e p m z settled g i =
      let k = holding [] q vs r in
      let one = release_slot k n x l y e (omega arith) z in
      let two = pause_slot k (n + 1) (omega arith) m in
      trace_ever
      (slots_trace sm ss (λ u. u.rx ≡ q) (λ u. u.rx ≡ r) lawful six settled
      (more (record { live = subst (λ (u : Side). Live u.engine) (sym one.acts) (ne_eqb n 0 (omega arith)); before = refl; during = λ j. ap (λ (u : Side). u.rx) one.acts; slave = g; sees = one.gets; rests = ap (λ (t : Two). t.s.rx) one.steps }) one.steps
      (more (record { live = subst (λ (u : Side). Live u.engine) (sym two.acts) (ne_eqb (n + 1) 0 (omega arith)); before = refl; during = λ j. ap (λ (u : Side). u.rx) two.acts; slave = refl; sees = two.gets; rests = ap (λ (t : Two). t.s.rx) two.steps }) two.steps none)))
      (refl, refl)
      (idle_stays f phase b h stays q vs r)
      i
