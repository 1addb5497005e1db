-- The parts of a slot's step, one law each: the master's event, its lines, a capture, the slave's quiet cycle.
use Prim.Native.Nat.{ℕ, suc, ◌+◌, ◌≤◌, ◌<◌}
use mathlib.Core.Path.{◌≡◌, sym, ap, ap₂, ◌∙◌, subst}
use mathlib.Core.Bool.{Bool, true, false, ◌&&◌, and-true}
use mathlib.Core.List.{List}
use native.Mathlib.Omega.{arith}
use native.Mathlib.Nat.{mod-eq_of_lt, mod-lt}
use lib.Pow.{pow_pos}
use lib.ListN.{get_or}
use borrow.Author.Tests.{eq-eqb, ne_eqb, lt-ltb}
use Rattle.std.specs.Prelude.{Some}
use Rattle.registers.specs.Time.{slots}
use Rattle.registers.specs.declared.settings.Settings.{Settings}
use Rattle.frames.specs.Bits.{bit_of, cut, shifted_in}
use Rattle.frames.specs.Engine.{with_shift, no_word, captured_of, completes, capture_step}
use Rattle.frames.specs.Slots.{event_of, last_slot}
use Rattle.frames.specs.Lines.{master_lines, slave_lines, master_txd}
use Rattle.frames.specs.Master.{act, master_step, acting, data_bit}
use Rattle.serial.specs.Slave.{slave_step, slave_end}
use Rattle.serial.specs.Pair.{wire}
use Rattle.serial.proofs.Cycles.{waits}
use Rattle.serial.proofs.Exchange.Core.{Receiver, Side, push, with_engine, moved, acted, slave_side}
use Rattle.serial.proofs.WithinSlot.{Live, next_within, sending, shifted}
use Rattle.serial.proofs.Exchange.Settle.{Two, next_side, slot_step, next}
use Rattle.serial.proofs.Trace.{Trace, more}
use Rattle.serial.proofs.Top.{top, top_next, top_last}
use Rattle.serial.proofs.Exchange.Quiet.{side_after}
use Rattle.frames.specs.declared.engine.Engine.{Engine}
use Rattle.frames.specs.declared.engine.Shift.{Shift}
use Rattle.frames.specs.declared.engine.Step.{Step}
use Rattle.frames.specs.declared.lines.Lines.{Lines}
use Rattle.frames.specs.declared.lines.Pins.{Pins}
use Rattle.frames.specs.declared.slots.Event.{Event}

-- what a transfer leaves alone: the queues
pub record Queues : Type 0 where
  pub mtx : List ℕ
  pub mrx : Receiver
  pub stx : List ℕ
  pub srx : Receiver

-- lines in a frame; a slave's while it shows a bit; idle ones
abbrev pub in_frame : Bool → Bool → Lines
in_frame c d = record { clk = c; fss = false; txd = d; released = false }

abbrev pub shown : Bool → Lines
shown d = record { clk = false; fss = true; txd = d; released = false }

abbrev pub hidden : Lines
hidden = record { clk = false; fss = true; txd = false; released = true }

-- a step put together from its parts
pub slot_parts : (sm ss : Settings) (t : Two) (y m s' s'' : Side) → next sm ss t ≡ y → next_side sm y ≡ m
    → slave_side ss (wire t.m.lines) (wire y.lines) t.s ≡ s' → slave_side ss (wire y.lines) (wire y.lines) s' ≡ s''
    → slot_step sm ss t ≡ record { m = m; s = s'' }
unfolding slot_step
slot_parts sm ss t y m s' s'' p q r z =
    let o = wire t.m.lines in
    ap (λ (u : Side). record { m = next_side sm u; s = slave_side ss (wire u.lines) (wire u.lines) (slave_side ss o (wire u.lines) t.s) }) p
    ∙ ap₂ (λ (u v : Side). record { m = u; s = slave_side ss (wire y.lines) (wire y.lines) v }) q r
    ∙ ap (λ (v : Side). record { m = m; s = v }) z

-- the master's event in a frame
event_step : (s : Settings) (n : ℕ) (x : Shift) (w : Bool) (i : ℕ) (d : Bool) (v : Event) → event_of s (slots n) ≡ v → master_step s (sending n x) w i d ≡ act s (sending n x) w i (data_bit s (master_txd s (sending n x)) d) v
unfolding master_step acting
event_step s n x w i d v e = ap (act s (sending n x) w i (data_bit s (master_txd s (sending n x)) d)) e

pub acted_by : (s : Settings) (n : ℕ) (x : Shift) (tx : List ℕ) (rx : Receiver) (l l' : Lines) (d : Bool) (v : Event) (r : Step)
    → event_of s (slots n) ≡ v → act s (sending n x) (waits tx) (get_or tx 0 0) (data_bit s (master_txd s (sending n x)) d) v ≡ r → master_lines s r.engine ≡ l'
    → acted s (record { tx = tx; rx = rx; engine = sending n x; lines = l }) d ≡ moved r (record { tx = tx; rx = rx; engine = sending n x; lines = l }) l'
unfolding acted
acted_by s n x tx rx l l' d v r e a q =
    let side : Side = record { tx = tx; rx = rx; engine = sending n x; lines = l } in
    ap (λ (u : Step). moved u side (master_lines s u.engine)) (event_step s n x (waits tx) (get_or tx 0 0) d v e ∙ a) ∙ ap (moved r side) q

-- the next slot of a frame
pub next_in : (s : Settings) (n : ℕ) (x : Shift) (tx : List ℕ) (rx : Receiver) (l : Lines) → n < (last_slot s).0
    → next_side s (record { tx = tx; rx = rx; engine = sending n x; lines = l }) ≡ record { tx = tx; rx = rx; engine = sending (n + 1) x; lines = l }
next_in s n x tx rx l k = ap (λ (e : Engine). record { tx = tx; rx = rx; engine = e; lines = l }) (next_within s (sending n x) k)

-- a capture, and the one that completes a word
pub capture_in : (b : ℕ) (d : Bool) (e : Engine) → e.shift.captured + 1 < b
    → capture_step b d e ≡ no_word (with_shift e (shifted (e.shift.captured + 1) e.shift.level e.shift.sending (shifted_in e.shift.receiving d)))
unfolding capture_step captured_of completes
capture_in b d e l = rw (lt-ltb e.shift.captured b (omega arith), ne_eqb (e.shift.captured + 1) b (omega arith))

abbrev pub completed : Engine → ℕ → Step
completed e w = record { engine = with_shift e (shifted (e.shift.captured + 1) e.shift.level e.shift.sending w); takes = false; completed = Some w }

pub capture_last : (b : ℕ) (d : Bool) (e : Engine) (w : ℕ) → e.shift.captured + 1 ≡ b → shifted_in e.shift.receiving d ≡ cut b w → capture_step b d e ≡ completed e (cut b w)
unfolding capture_step captured_of completes
capture_last b d e w l q = rw (lt-ltb e.shift.captured b (omega arith), eq-eqb (e.shift.captured + 1) b l, q, mod-eq_of_lt (mod-lt w (pow_pos b)))

-- the slave: what a step leaves, and the quiet cycle after it
pub slave_by : (s : Settings) (p q : Pins) (x : Side) (r : Step) (e : Engine) (l : Lines)
    → slave_step s x.engine p q (get_or x.tx 0 0) ≡ r → slave_end s r.engine ≡ e → slave_lines s r.engine ≡ l
    → slave_side s p q x ≡ with_engine (moved r x l) e
slave_by s p q x r e l a z k = side_after s p q x r a ∙ ap₂ (λ (u : Lines) (v : Engine). with_engine (moved r x u) v) k z

-- A slot of a transfer: the master's side after the event, the state at the next boundary, and that the slave has received its
-- word as soon as it sees the event.
pub record Slot (sm ss : Settings) (t : Two) (y : Side) (t' : Two) : Type 0 where
  pub acts : next sm ss t ≡ y
  pub steps : slot_step sm ss t ≡ t'
  pub gets : (slave_side ss (wire t.m.lines) (wire (next sm ss t).lines) t.s).rx ≡ t'.s.rx

pub slot_of : (sm ss : Settings) (t : Two) (y m s' s'' : Side) → next sm ss t ≡ y → next_side sm y ≡ m
    → slave_side ss (wire t.m.lines) (wire y.lines) t.s ≡ s' → slave_side ss (wire y.lines) (wire y.lines) s' ≡ s'' → s'.rx ≡ s''.rx
    → Slot sm ss t y (record { m = m; s = s'' })
slot_of sm ss t y m s' s'' p q r z g =
    record {
      acts = p;
      steps = slot_parts sm ss t y m s' s'' p q r z;
      gets = ap (λ (u : Side). (slave_side ss (wire t.m.lines) (wire u.lines) t.s).rx) p ∙ ap (λ (u : Side). u.rx) r ∙ g;
    }

-- in the slot that begins the master is in a frame, or idle in one of its idle slots
abbrev pub LiveSlot : Settings → Settings → Two → Type 0
LiveSlot sm ss t = Live (next sm ss t).engine

pub slot_then : {sm ss : Settings} {t t' z : Two} {y : Side} {n : ℕ} → Slot sm ss t y t' → Live y.engine → Trace (LiveSlot sm ss) (slot_step sm ss) n t' z → Trace (LiveSlot sm ss) (slot_step sm ss) (suc n) t z
slot_then q live r = more (subst (λ (x : Side). Live x.engine) (sym q.acts) live) q.steps r

-- bit c of the partner's word, shifted in
pub next_bit : (b w c : ℕ) → c < b → b ≤ 16 → shifted_in (top b w c) (bit_of b w c && true) ≡ top b w (c + 1)
next_bit b w c l m = ap (shifted_in (top b w c)) (and-true (bit_of b w c)) ∙ top_next b w c l m

pub last_bit_lem : (b w c : ℕ) → c + 1 ≡ b → b ≤ 16 → shifted_in (top b w c) (bit_of b w c && true) ≡ cut b w
last_bit_lem b w c l m = ap (shifted_in (top b w c)) (and-true (bit_of b w c)) ∙ top_last b w c l m

-- Words received on both sides: the slave's v, cut to c bits, by the master, the master's w, cut to d, by the slave.
abbrev pub received : ℕ → ℕ → ℕ → ℕ → Queues → Queues
received c d w v k = record { mtx = k.mtx; mrx = push (cut c v) k.mrx; stx = k.stx; srx = push (cut d w) k.srx }
