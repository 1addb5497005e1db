-- Motorola, SPH 1: words one after another under one FSS.
use Prim.Native.Nat.{ℕ, suc, ◌+◌, ◌-◌, ◌*◌, ◌≤◌, ◌<◌}
use mathlib.Core.Path.{◌≡◌, refl, ap}
use mathlib.Core.Bool.{Bool, true, false, ◌&&◌}
use mathlib.Core.List.{List, [], ◌∷◌}
use native.Mathlib.Omega.{arith}
use lib.ListN.{length}
use Rattle.registers.specs.Time.{slots}
use Rattle.registers.specs.Choose.{pick}
use Rattle.registers.specs.Transfer.{rest}
use Rattle.frames.specs.Bits.{bit_of, cut}
use Rattle.frames.specs.Engine.{clear_shift, no_word, begun, loaded, started, driven}
use Rattle.frames.specs.Slots.{event_of, last_slot, width_of}
use Rattle.frames.specs.Lines.{slave_lines}
use Rattle.frames.specs.Master.{data_bit}
use Rattle.serial.specs.Slave.{slave_step, motorola_slave, motorola_select, motorola_edges, capture_edge, drive_edge, motorola_clock}
use Rattle.serial.specs.Pair.{wire}
use Rattle.serial.proofs.Cycles.{waits_cons}
use Rattle.serial.proofs.WithinSlot.{sending, shifted}
use Rattle.serial.proofs.Trace.{Trace, none, trace_count, trace_then, trace_end}
use Rattle.serial.proofs.Top.{top_zero}
use Rattle.serial.proofs.Exchange.Core.{Receiver, Side, push}
use Rattle.serial.proofs.Exchange.Settle.{Two}
use Rattle.serial.proofs.Events.{motorola_drive, motorola_last, levels_drive, levels_last}
use Rattle.serial.proofs.Exchange.Moves.{Queues, in_frame, shown, hidden, acted_by, next_in, received, slave_by, Slot, slot_of, LiveSlot, slot_then}
use Rattle.serial.proofs.Exchange.Motorola.{sm, ss, step, chosen, driven_at, filled_at, lines_at_lem, in_word, calm, ended, word_run}
use Rattle.serial.proofs.Exchange.Wiring.{front, holding, last_of, Exchange}
use Rattle.serial.proofs.Exchange.Ends.{idle, opened, begin_acts, final_at, ever}
use Rattle.frames.specs.declared.engine.Shift.{Shift}
use Rattle.frames.specs.declared.slots.Event.TheVariants.{Drive, Chain}

-- the master has taken its word, the slave is selected
abbrev selected_at : ℕ → Queues → Two
selected_at w k =
    record {
      m = record { tx = k.mtx; rx = k.mrx; engine = sending 1 (loaded w); lines = in_frame false false };
      s = record { tx = k.stx; rx = k.srx; engine = chosen false clear_shift; lines = shown false };
    }

-- A selected slave outside a word takes one at the edge to active.
slave_takes : (b h : ℕ) (x : Shift) (d d' : Bool) (n : ℕ) → slave_step (ss true b h) (chosen false x) (wire (in_frame false d)) (wire (in_frame true d')) n ≡ begun (chosen false x) (shifted 0 (bit_of b n 0) n 0)
unfolding slave_step motorola_slave motorola_select motorola_edges capture_edge drive_edge motorola_clock data_bit wire started
slave_takes b h x d d' n = refl

module _ (b h : ℕ) (l : 0 < b) where
  take_slot : (w : ℕ) (ws : List ℕ) (q : Receiver) (vs : List ℕ) (r : Receiver)
      → Slot (sm true b h) (ss true b h) (idle (holding (w ∷ ws) q vs r)) (opened w ws q) (selected_at w (holding ws q vs r))
  unfolding wire last_slot slave_lines slave_step motorola_slave motorola_select motorola_edges capture_edge drive_edge motorola_clock
  take_slot w ws q vs r =
      slot_of (sm true b h) (ss true b h) (idle (holding (w ∷ ws) q vs r)) (opened w ws q) (selected_at w (holding ws q vs r)).m (selected_at w (holding ws q vs r)).s (selected_at w (holding ws q vs r)).s
      (begin_acts true b h w ws q false)
      (next_in (sm true b h) 0 (loaded w) ws q (in_frame false false) (omega arith))
      (slave_by (ss true b h) (wire hidden) (wire (in_frame false false)) (idle (holding (w ∷ ws) q vs r)).s (no_word (chosen false clear_shift)) (chosen false clear_shift) (shown false) refl (ended true b h clear_shift) refl)
      (calm true b h vs r false clear_shift false false false (ended true b h clear_shift)) refl

  first_slot : (w : ℕ) (ws : List ℕ) (q : Receiver) (vs : List ℕ) (r : Receiver)
      → Slot (sm true b h) (ss true b h) (selected_at w (holding ws q vs r)) (record { tx = ws; rx = q; engine = sending 1 (shifted 0 (bit_of b w 0) w 0); lines = in_frame true (bit_of b w 0) })
      (driven_at true b h w (front vs) (holding ws q (rest vs) r) 0 2)
  unfolding event_of data_bit wire last_slot width_of slave_lines driven
  first_slot w ws q vs r =
      let x = shifted 0 (bit_of b w 0) w 0 in
      let x' = shifted 0 (bit_of b (front vs) 0) (front vs) 0 in
      let y : Side = record { tx = rest vs; rx = r; engine = chosen true x'; lines = shown (bit_of b (front vs) 0) } in
      rw (top_zero b (front vs), top_zero b w)
      (slot_of (sm true b h) (ss true b h) (selected_at w (holding ws q vs r)) (record { tx = ws; rx = q; engine = sending 1 x; lines = in_frame true (bit_of b w 0) })
      (record { tx = ws; rx = q; engine = sending 2 x; lines = in_frame true (bit_of b w 0) }) y y
      (acted_by (sm true b h) 1 (loaded w) ws q _ _ false (Drive 0) (no_word (sending 1 x)) (motorola_drive true b 1 0 refl l) refl (lines_at_lem true b h 1 x true (omega arith) (levels_drive true b 1 0 refl l)))
      (next_in (sm true b h) 1 x ws q _ (omega arith))
      (slave_by (ss true b h) _ _ (selected_at w (holding ws q vs r)).s (begun (chosen false clear_shift) x') (chosen true x') (shown (bit_of b (front vs) 0)) (slave_takes b h clear_shift false (bit_of b w 0) (front vs)) (in_word true b h x' l) refl)
      (calm true b h (rest vs) r true x' true (bit_of b w 0) (bit_of b w 0) (in_word true b h x' l)) refl)

  -- the next word follows at once
  chain_slot : (w v u : ℕ) (ws : List ℕ) (q : Receiver) (vs : List ℕ) (r : Receiver) (c n : ℕ) → n ≡ 2 * b + 1
      → Slot (sm true b h) (ss true b h) (filled_at b w v (holding (u ∷ ws) q vs r) c false n) (record { tx = ws; rx = q; engine = sending 1 (shifted 0 (bit_of b u 0) u 0); lines = in_frame true (bit_of b u 0) })
      (driven_at true b h u (front vs) (holding ws q (rest vs) r) 0 2)
  unfolding event_of data_bit wire last_slot width_of slave_lines started
  chain_slot w v u ws q vs r c n e =
      let x0 = shifted (c + 1) (bit_of b w c) w (cut b v) in
      let x = shifted 0 (bit_of b u 0) u 0 in
      let x' = shifted 0 (bit_of b (front vs) 0) (front vs) 0 in
      let y : Side = record { tx = rest vs; rx = r; engine = chosen true x'; lines = shown (bit_of b (front vs) 0) } in
      rw (top_zero b (front vs), top_zero b u)
      (slot_of (sm true b h) (ss true b h) (filled_at b w v (holding (u ∷ ws) q vs r) c false n) (record { tx = ws; rx = q; engine = sending 1 x; lines = in_frame true (bit_of b u 0) })
      (record { tx = ws; rx = q; engine = sending 2 x; lines = in_frame true (bit_of b u 0) }) y y
      (acted_by (sm true b h) n x0 (u ∷ ws) q _ _ (bit_of b v c && true) (Chain (slots 1)) (begun (sending 1 x0) x) (motorola_last true b n e)
      (ap (λ (t : Bool). pick t (begun (sending 1 x0) x) (no_word (sending n x0))) (waits_cons u ws))
      (lines_at_lem true b h 1 x true (omega arith) (levels_drive true b 1 0 refl l)))
      (next_in (sm true b h) 1 x ws q _ (omega arith))
      (slave_by (ss true b h) _ _ (filled_at b w v (holding (u ∷ ws) q vs r) c false n).s (begun (chosen false (shifted (c + 1) (bit_of b v c) v (cut b w))) x') (chosen true x') (shown (bit_of b (front vs) 0))
      (slave_takes b h (shifted (c + 1) (bit_of b v c) v (cut b w)) (bit_of b w c) (bit_of b u 0) (front vs)) (in_word true b h x' l) refl)
      (calm true b h (rest vs) r true x' true (bit_of b u 0) (bit_of b u 0) (in_word true b h x' l)) refl)

-- with none waiting the clock stays idle and TXD holds
hold_slot : (b h w v : ℕ) (q : Receiver) (vs : List ℕ) (r : Receiver) (c n : ℕ) → n ≡ 2 * b + 1
    → Slot (sm true b h) (ss true b h) (filled_at b w v (holding [] q vs r) c false n) (filled_at b w v (holding [] q vs r) c false n).m (filled_at b w v (holding [] q vs r) c false (n + 1))
unfolding event_of data_bit wire last_slot
hold_slot b h w v q vs r c n e =
    let k = holding [] q vs r in
    let x = shifted (c + 1) (bit_of b w c) w (cut b v) in
    let x' = shifted (c + 1) (bit_of b v c) v (cut b w) in
    let stays = calm true b h vs r false x' false (bit_of b w c) (bit_of b w c) (ended true b h x') in
    slot_of (sm true b h) (ss true b h) (filled_at b w v k c false n) (filled_at b w v k c false n).m (filled_at b w v k c false (n + 1)).m (filled_at b w v k c false n).s (filled_at b w v k c false n).s
    (acted_by (sm true b h) n x [] q _ _ (bit_of b v c && true) (Chain (slots 1)) (no_word (sending n x)) (motorola_last true b n e) refl (lines_at_lem true b h n x false (omega arith) (levels_last true b n e)))
    (next_in (sm true b h) n x [] q _ (omega arith))
    stays stays refl

module _ (b h : ℕ) (l : 0 < b) (m : b ≤ 16) where
  -- the words of a load, from the first one's first bit on
  words-run : (w : ℕ) (ws : List ℕ) (q : Receiver) (vs : List ℕ) (r : Receiver)
      → Trace (LiveSlot (sm true b h) (ss true b h)) (step true b h) (suc (length ws) * (2 * b)) (driven_at true b h w (front vs) (holding ws q (rest vs) r) 0 2) (last_of b b (final_at b) w ws q vs r)
  words-run w [] q vs r =
      let v = front vs in
      let k = holding [] q (rest vs) r in
      trace_count (omega arith)
      (trace_then (word_run true b h w v k m l)
      (slot_then (hold_slot b h w v (push (cut b v) q) (rest vs) (push (cut b w) r) (b - 1) (2 * b + 1) refl) refl
      (trace_end none (ap (filled_at b w v (received b b w v k) (b - 1) false) (omega arith)))))
  words-run w (u ∷ ws) q vs r =
      let v = front vs in
      trace_count (omega arith)
      (trace_then (word_run true b h w v (holding (u ∷ ws) q (rest vs) r) m l)
      (slot_then (chain_slot b h l w v u ws (push (cut b v) q) (rest vs) (push (cut b w) r) (b - 1) (2 * b + 1) refl) refl
      (words-run u ws (push (cut b v) q) (rest vs) (push (cut b w) r))))

  load-run : (w : ℕ) (ws : List ℕ) (q : Receiver) (vs : List ℕ) (r : Receiver)
      → Trace (LiveSlot (sm true b h) (ss true b h)) (step true b h) (2 * b * suc (length ws) + 2) (idle (holding (w ∷ ws) q vs r)) (last_of b b (final_at b) w ws q vs r)
  load-run w ws q vs r =
      trace_count (omega arith)
      (slot_then (take_slot b h l w ws q vs r) refl
      (slot_then (first_slot b h l w ws q vs r) refl (words-run w ws q vs r)))

  pub exchange : 6 ≤ h → Exchange (sm true b h) (ss true b h) hidden (λ n. 2 * b * suc n + 2)
  unfolding width_of
  exchange k = record { final = final_at b; run = load-run; ever = ever true b h k }
