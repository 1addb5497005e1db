-- Motorola frames: their beginning and their end, as far as both phases share them.
use Prim.Native.Nat.{ℕ, ◌+◌, ◌-◌, ◌*◌, ◌≤◌}
use mathlib.Core.Path.{◌≡◌, refl, ap, ◌∙◌}
use mathlib.Core.Bool.{Bool, false}
use mathlib.Core.List.{List, [], ◌∷◌}
use native.Mathlib.Omega.{arith}
use Rattle.registers.specs.Choose.{pick}
use Rattle.registers.specs.Time.{slots}
use Rattle.registers.specs.Transfer.{rest}
use Rattle.registers.specs.declared.settings.Format.TheVariants.{Motorola}
use Rattle.frames.specs.Bits.{bit_of, cut}
use Rattle.frames.specs.Engine.{cleared, no_word, loaded}
use Rattle.frames.specs.Slots.{event_of, motorola_event, last_slot}
use Rattle.frames.specs.Lines.{master_lines, slave_lines, master_txd}
use Rattle.frames.specs.Master.{act, master_step, acting, resting, data_bit}
use Rattle.serial.specs.Slave.{slave_step, slave_end, motorola_slave}
use Rattle.serial.specs.Pair.{wire}
use Rattle.serial.proofs.Cycles.{waits, waits_cons}
use Rattle.serial.proofs.Trace.{iterate}
use Rattle.serial.proofs.Exchange.Core.{Receiver, Side, push, moved, acted, slave_side, core_cycle}
use Rattle.serial.proofs.WithinSlot.{sending, shifted}
use Rattle.serial.proofs.Exchange.Settle.{Two, rested}
use Rattle.serial.proofs.Exchange.Quiet.{lawful_motorola}
use Rattle.serial.proofs.Events.{motorola_release, levels_first}
use Rattle.serial.proofs.Exchange.Moves.{Queues, in_frame, hidden, received, Slot}
use Rattle.serial.proofs.Exchange.Wiring.{front, holding, Holds, starts, StaysIdle}
use Rattle.serial.proofs.Exchange.Release.{released_at, GoesIdle}
use Rattle.serial.proofs.Exchange.Release as release
use Rattle.serial.proofs.Exchange.Motorola.{sm, ss, filled_at, lines_first, calm, ended}
use Rattle.frames.specs.declared.engine.Step.{Step}

-- between frames
abbrev pub idle : Queues → Two
idle = starts hidden

-- an idle master with a waiting word starts slot 0
abbrev pub opened : ℕ → List ℕ → Receiver → Side
opened w ws q = record { tx = ws; rx = q; engine = sending 0 (loaded w); lines = in_frame false false }

pub begin_acts : (phase : Bool) (b h w : ℕ) (ws : List ℕ) (q : Receiver) (d : Bool)
    → acted (sm phase b h) (record { tx = w ∷ ws; rx = q; engine = cleared; lines = hidden }) d ≡ opened w ws q
unfolding acted master_step acting resting event_of motorola_event
begin_acts phase b h w ws q d =
    let x : Side = record { tx = w ∷ ws; rx = q; engine = cleared; lines = hidden } in
    let r : Step = act (sm phase b h) cleared (waits (w ∷ ws)) w (data_bit (sm phase b h) (master_txd (sm phase b h) cleared) d) (event_of (sm phase b h) (slots 0)) in
    ap (λ (t : Bool). moved (pick t r (no_word cleared)) x (master_lines (sm phase b h) (pick t r (no_word cleared)).engine)) (waits_cons w ws)
    ∙ ap (moved r x) (lines_first phase b h (loaded w) (levels_first phase b))

pub stays_idle_motorola : (phase : Bool) (b h : ℕ) → StaysIdle Motorola phase b h
unfolding slave_step motorola_slave wire
stays_idle_motorola phase b h n = refl

module _ (phase : Bool) (b h : ℕ) (k : Queues) (w v c n : ℕ) where
  -- a selected slave sees FSS HIGH
  goes_idle : GoesIdle Motorola phase b h k (in_frame false (bit_of b w c)) (filled_at b w v k c false n).s
  unfolding wire slave_lines slave_end slave_step motorola_slave slave_side
  goes_idle = refl

  pub release_slot : n ≡ 2 * b + 2 → Slot (sm phase b h) (ss phase b h) (filled_at b w v k c false n) (released_at Motorola k n).m (released_at Motorola k (n + 1))
  unfolding event_of last_slot
  release_slot e = release.release_slot Motorola phase b h (stays_idle_motorola phase b h) k n _ _ _ (motorola_release phase b n e) (omega arith) goes_idle

pub pause_slot : (phase : Bool) (b h : ℕ) (k : Queues) (n : ℕ) → n ≡ 2 * b + 3 → Slot (sm phase b h) (ss phase b h) (released_at Motorola k n) (released_at Motorola k n).m (idle k)
unfolding last_slot
pause_slot phase b h k n e = release.pause_slot Motorola phase b h (stays_idle_motorola phase b h) k n (omega arith) e

-- the last word is through
abbrev pub final_at : ℕ → ℕ → Receiver → List ℕ → Receiver → Two
final_at b w q vs r = filled_at b w (front vs) (received b b w (front vs) (holding [] q (rest vs) r)) (b - 1) false (2 * b + 2)

-- from the last capture on nothing changes in the receive queues
pub ever : (phase : Bool) (b h : ℕ) → 6 ≤ h → (w : ℕ) (q : Receiver) (vs : List ℕ) (r : Receiver) (i : ℕ)
    → Holds (push (cut b (front vs)) q) (push (cut b w) r) (iterate i (core_cycle (sm phase b h) (ss phase b h)) (rested (final_at b w q vs r)))
unfolding event_of last_slot
ever phase b h l w q₀ vs r₀ =
    let v = front vs in
    let c = b - 1 in
    let n = 2 * b + 2 in
    let q = push (cut b v) q₀ in
    let r = push (cut b w) r₀ in
    let k = holding [] q (rest vs) r in
    let x' = shifted (c + 1) (bit_of b v c) v (cut b w) in
    release.ever Motorola phase b h (stays_idle_motorola phase b h) (lawful_motorola phase b h) l q (rest vs) r n _ _ _ (motorola_release phase b n refl) (omega arith) (omega arith) (goes_idle phase b h k w v c n)
    (calm phase b h (rest vs) r false x' false (bit_of b w c) (bit_of b w c) (ended phase b h x')) refl
