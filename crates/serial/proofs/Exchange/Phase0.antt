-- Motorola, SPH 0: words one after another, each under an FSS of its own.
use Prim.Native.Nat.{ℕ, ◌+◌, ◌-◌, ◌*◌, ◌≤◌, ◌<◌}
use mathlib.Core.Path.{◌≡◌, refl, ap}
use mathlib.Core.Bool.{true, false, ◌&&◌}
use mathlib.Core.List.{List, [], ◌∷◌}
use native.Mathlib.Omega.{arith}
use lib.ListN.{length}
use borrow.Author.Tests.{ne_eqb}
use Rattle.registers.specs.Transfer.{rest}
use Rattle.frames.specs.Bits.{bit_of, cut}
use Rattle.frames.specs.Engine.{no_word, begun, loaded, started, driven}
use Rattle.frames.specs.Slots.{event_of, last_slot, width_of}
use Rattle.frames.specs.Lines.{slave_lines}
use Rattle.frames.specs.Master.{data_bit}
use Rattle.serial.specs.Slave.{slave_step, motorola_slave, motorola_select, motorola_edges, capture_edge, drive_edge, motorola_clock}
use Rattle.serial.specs.Pair.{wire}
use Rattle.serial.proofs.WithinSlot.{sending, shifted}
use Rattle.serial.proofs.Trace.{Trace, none, trace_count, trace_then, trace_end}
use Rattle.serial.proofs.Top.{top_zero}
use Rattle.serial.proofs.Exchange.Core.{Receiver, push}
use Rattle.serial.proofs.Exchange.Settle.{Two}
use Rattle.serial.proofs.Events.{motorola_drive, motorola_last, levels_drive, levels_last}
use Rattle.serial.proofs.Exchange.Moves.{Queues, in_frame, shown, hidden, acted_by, next_in, received, slave_by, Slot, slot_of, LiveSlot, slot_then}
use Rattle.serial.proofs.Exchange.Motorola.{sm, ss, step, chosen, driven_at, filled_at, lines_at_lem, in_word, calm, ended, word_run}
use Rattle.serial.proofs.Exchange.Wiring.{front, holding, last_of, Exchange}
use Rattle.serial.proofs.Exchange.Ends.{idle, opened, begin_acts, release_slot, pause_slot, final_at, ever}
use Rattle.frames.specs.declared.slots.Event.TheVariants.{Drive, Pause}

-- both words are taken, the slave's first bit is on its line
abbrev begun_at : ℕ → ℕ → ℕ → Queues → Two
begun_at b w v k =
    record {
      m = record { tx = k.mtx; rx = k.mrx; engine = sending 1 (loaded w); lines = in_frame false false };
      s = record { tx = k.stx; rx = k.srx; engine = chosen true (shifted 0 (bit_of b v 0) v 0); lines = shown (bit_of b v 0) };
    }

module _ (b h : ℕ) (l : 0 < b) where
  take_slot : (w : ℕ) (ws : List ℕ) (q : Receiver) (vs : List ℕ) (r : Receiver)
      → Slot (sm false b h) (ss false b h) (idle (holding (w ∷ ws) q vs r)) (opened w ws q) (begun_at b w (front vs) (holding ws q (rest vs) r))
  unfolding wire last_slot slave_lines started slave_step motorola_slave motorola_select motorola_edges capture_edge drive_edge motorola_clock
  take_slot w ws q vs r =
      let x' = shifted 0 (bit_of b (front vs) 0) (front vs) 0 in
      slot_of (sm false b h) (ss false b h) (idle (holding (w ∷ ws) q vs r)) (opened w ws q) (begun_at b w (front vs) (holding ws q (rest vs) r)).m (begun_at b w (front vs) (holding ws q (rest vs) r)).s (begun_at b w (front vs) (holding ws q (rest vs) r)).s
      (begin_acts false b h w ws q false)
      (next_in (sm false b h) 0 (loaded w) ws q (in_frame false false) (omega arith))
      (slave_by (ss false b h) (wire hidden) (wire (in_frame false false)) (idle (holding (w ∷ ws) q vs r)).s (begun (chosen false (shifted 0 false 0 0)) x') (chosen true x') (shown (bit_of b (front vs) 0)) refl (in_word false b h x' l) refl)
      (calm false b h (rest vs) r true x' false false false (in_word false b h x' l)) refl

  first_slot : (w v : ℕ) (k : Queues)
      → Slot (sm false b h) (ss false b h) (begun_at b w v k) (record { tx = k.mtx; rx = k.mrx; engine = sending 1 (shifted 0 (bit_of b w 0) w 0); lines = in_frame false (bit_of b w 0) }) (driven_at false b h w v k 0 2)
  unfolding event_of data_bit wire last_slot width_of slave_lines driven
  first_slot w v k =
      let x = shifted 0 (bit_of b w 0) w 0 in
      let x' = shifted 0 (bit_of b v 0) v 0 in
      rw (top_zero b v, top_zero b w)
      (slot_of (sm false b h) (ss false b h) (begun_at b w v k) (record { tx = k.mtx; rx = k.mrx; engine = sending 1 x; lines = in_frame false (bit_of b w 0) })
      (record { tx = k.mtx; rx = k.mrx; engine = sending 2 x; lines = in_frame false (bit_of b w 0) }) (begun_at b w v k).s (begun_at b w v k).s
      (acted_by (sm false b h) 1 (loaded w) k.mtx k.mrx _ _ (bit_of b v 0 && true) (Drive 0) (no_word (sending 1 x)) (motorola_drive false b 1 0 refl l) refl (lines_at_lem false b h 1 x false (omega arith) (levels_drive false b 1 0 refl l)))
      (next_in (sm false b h) 1 x k.mtx k.mrx _ (omega arith))
      (calm false b h k.stx k.srx true x' false false (bit_of b w 0) (in_word false b h x' l))
      (calm false b h k.stx k.srx true x' false (bit_of b w 0) (bit_of b w 0) (in_word false b h x' l)) refl)

-- after the last capture: the clock goes idle, the last bit stays
hold_slot : (b h w v : ℕ) (k : Queues) (c n : ℕ) → n ≡ 2 * b + 1 → Slot (sm false b h) (ss false b h) (filled_at b w v k c true n) (filled_at b w v k c false n).m (filled_at b w v k c false (n + 1))
unfolding event_of data_bit wire last_slot slave_lines slave_step motorola_slave motorola_select motorola_edges capture_edge drive_edge motorola_clock
hold_slot b h w v k c n e =
    let x = shifted (c + 1) (bit_of b w c) w (cut b v) in
    let x' = shifted (c + 1) (bit_of b v c) v (cut b w) in
    slot_of (sm false b h) (ss false b h) (filled_at b w v k c true n) (filled_at b w v k c false n).m (filled_at b w v k c false (n + 1)).m (filled_at b w v k c false n).s (filled_at b w v k c false n).s
    (acted_by (sm false b h) n x k.mtx k.mrx _ _ (bit_of b v c && true) Pause (no_word (sending n x)) (motorola_last false b n e) refl (lines_at_lem false b h n x false (omega arith) (levels_last false b n e)))
    (next_in (sm false b h) n x k.mtx k.mrx _ (omega arith))
    (slave_by (ss false b h) (wire (in_frame true (bit_of b w c))) (wire (in_frame false (bit_of b w c))) (filled_at b w v k c true n).s (no_word (chosen false x')) (chosen false x') (shown (bit_of b v c)) refl (ended false b h x') refl)
    (calm false b h k.stx k.srx false x' false (bit_of b w c) (bit_of b w c) (ended false b h x')) refl

module _ (b h : ℕ) (l : 0 < b) (m : b ≤ 16) where
  -- a word, from between frames to the slot in which the frame is over
  frame_run : (w : ℕ) (ws : List ℕ) (q : Receiver) (vs : List ℕ) (r : Receiver)
      → Trace (LiveSlot (sm false b h) (ss false b h)) (step false b h) (2 * b + 2) (idle (holding (w ∷ ws) q vs r))
      (filled_at b w (front vs) (received b b w (front vs) (holding ws q (rest vs) r)) (b - 1) false (2 * b + 2))
  frame_run w ws q vs r =
      let k = holding ws q (rest vs) r in
      trace_count (omega arith)
      (slot_then (take_slot b h l w ws q vs r) refl
      (slot_then (first_slot b h l w (front vs) k) refl
      (trace_then (word_run false b h w (front vs) k m l)
      (slot_then (hold_slot b h w (front vs) (received b b w (front vs) k) (b - 1) (2 * b + 1) refl) refl
      (trace_end none (ap (filled_at b w (front vs) (received b b w (front vs) k) (b - 1) false) (omega arith)))))))

  -- the idle slots with words left
  gap_run : (w v : ℕ) (u : ℕ) (ws : List ℕ) (q : Receiver) (vs : List ℕ) (r : Receiver) (c : ℕ)
      → Trace (LiveSlot (sm false b h) (ss false b h)) (step false b h) 2 (filled_at b w v (holding (u ∷ ws) q vs r) c false (2 * b + 2)) (idle (holding (u ∷ ws) q vs r))
  gap_run w v u ws q vs r c =
      slot_then (release_slot false b h (holding (u ∷ ws) q vs r) w v c (2 * b + 2) refl) (ne_eqb (2 * b + 2) 0 (omega arith))
      (slot_then (pause_slot false b h (holding (u ∷ ws) q vs r) (2 * b + 2 + 1) (omega arith)) (ne_eqb (2 * b + 2 + 1) 0 (omega arith)) none)

  load-run : (w : ℕ) (ws : List ℕ) (q : Receiver) (vs : List ℕ) (r : Receiver)
      → Trace (LiveSlot (sm false b h) (ss false b h)) (step false b h) (length ws * (2 * b + 4) + (2 * b + 2)) (idle (holding (w ∷ ws) q vs r)) (last_of b b (final_at b) w ws q vs r)
  load-run w [] q vs r = trace_count (omega arith) (frame_run w [] q vs r)
  load-run w (u ∷ ws) q vs r =
      trace_count (omega arith)
      (trace_then (frame_run w (u ∷ ws) q vs r)
      (trace_then (gap_run w (front vs) u ws (push (cut b (front vs)) q) (rest vs) (push (cut b w) r) (b - 1))
      (load-run u ws (push (cut b (front vs)) q) (rest vs) (push (cut b w) r))))

  pub exchange : 6 ≤ h → Exchange (sm false b h) (ss false b h) hidden (λ n. n * (2 * b + 4) + (2 * b + 2))
  unfolding width_of
  exchange k = record { final = final_at b; run = load-run; ever = ever false b h k }
