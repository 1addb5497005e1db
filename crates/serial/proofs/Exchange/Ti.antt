-- TI: the next word is taken while the last bit of the word before is on the lines.
use Prim.Native.Nat.{ℕ, zero, suc, ◌+◌, ◌-◌, ◌*◌, ◌≤◌, ◌<◌}
use mathlib.Core.Path.{◌≡◌, refl, ap, ap₂, ◌∙◌}
use mathlib.Core.Bool.{Bool, true, false, not, ◌&&◌}
use mathlib.Core.List.{List, [], ◌∷◌}
use native.Mathlib.Omega.{arith}
use lib.Dec.{eqb}
use lib.ListN.{length}
use borrow.Author.Tests.{ne_eqb, le-ltb, le-leb, lt-leb}
use Rattle.std.specs.Prelude.{None}
use Rattle.registers.specs.Choose.{pick}
use Rattle.registers.specs.Time.{slots}
use Rattle.registers.specs.Transfer.{rest}
use Rattle.registers.specs.declared.settings.Format.TheVariants.{Ti}
use Rattle.registers.specs.declared.settings.Settings.{Settings}
use Rattle.frames.specs.Bits.{bit_of, cut}
use Rattle.frames.specs.Engine.{cleared, with_shift, no_word, begun, loaded, started, driven, capture_step}
use Rattle.frames.specs.Slots.{event_of, ti_event, last_slot, width_of, ti_levels, levels_of}
use Rattle.frames.specs.Lines.{master_lines, slave_lines, frame_lines, master_txd}
use Rattle.frames.specs.Master.{act, master_step, master_end, acting, resting, data_bit, joined_shift}
use Rattle.serial.specs.Slave.{with_mark, slave_step, slave_end, ti_slave, ti_falls, ti_rises}
use Rattle.serial.specs.Pair.{wire}
use Rattle.serial.proofs.Cycles.{waits, waits_cons}
use Rattle.serial.proofs.Trace.{Trace, none, iterate, trace_count, trace_then, trace_end}
use Rattle.serial.proofs.Top.{top, top_zero}
use Rattle.serial.proofs.Exchange.Core.{Receiver, Side, plain, push, moved, acted, master_side, slave_side, core_cycle}
use Rattle.serial.proofs.WithinSlot.{next_slot, sending, shifted}
use Rattle.serial.proofs.Exchange.Settle.{Two, slot_step, rested, mk}
use Rattle.serial.proofs.Exchange.Quiet.{quiet_ti}
use Rattle.serial.proofs.Events.{low_at, ti_drive, ti_capture, ti_last, ti_levels_even, ti_levels_odd}
use Rattle.serial.proofs.Exchange.Moves.{Queues, shown, hidden, acted_by, next_in, capture_in, completed, capture_last, received, next_bit, last_bit_lem, slave_by, Slot, slot_of, LiveSlot, slot_then}
use Rattle.serial.proofs.Exchange.Wiring.{front, holding, Holds, starts, last_of, Exchange}
use Rattle.frames.specs.declared.engine.Engine.{Engine}
use Rattle.frames.specs.declared.engine.Shift.{Shift}
use Rattle.frames.specs.declared.engine.Step.{Step}
use Rattle.frames.specs.declared.lines.Lines.{Lines}
use Rattle.frames.specs.declared.lines.Pins.{Pins}
use Rattle.frames.specs.declared.slots.Levels.{Levels}
use Rattle.frames.specs.declared.slots.Event.TheVariants.{Drive, First, Capture, JoinDrive, JoinCapture}

-- The lines ------------------------------------------------------------------------------------------------------------

abbrev lined : Bool → Bool → Bool → Bool → Lines
lined c f d r = record { clk = c; fss = f; txd = d; released = r }

-- a bit on the lines
abbrev bit_lines : Bool → Bool → Bool → Lines
bit_lines c f d = lined c f d false

abbrev ti_idle : Lines
ti_idle = lined false false false true

module _ (phase : Bool) (b h : ℕ) where
  abbrev sm : Settings
  sm = plain Ti phase b h false

  abbrev ss : Settings
  ss = plain Ti phase b h true

  lines_at_lem : (n : ℕ) (x : Shift) (c : Bool) → ti_levels (not (eqb x.captured 0)) n ≡ low_at c → master_lines (plain Ti phase b h false) (sending n x) ≡ bit_lines c false x.level
  unfolding master_lines master_txd levels_of frame_lines
  lines_at_lem n x c e = ap (λ (v : Levels). frame_lines (plain Ti phase b h false) v (not v.released && x.level)) e

  -- in slots 0 and 1 of a joined word
  lines_joined : (n : ℕ) (x : Shift) (c : Bool) → (eqb x.captured 0) ≡ false → ti_levels true n ≡ record { clk = c; fss = true; released = false } → master_lines (plain Ti phase b h false) (sending n x) ≡ bit_lines c true x.level
  unfolding master_lines master_txd levels_of frame_lines
  lines_joined n x c z e =
      let S = plain Ti phase b h false in
      ap (λ (t : Bool). frame_lines S (levels_of S (not t) (slots n)) (not (levels_of S (not t) (slots n)).released && x.level)) z ∙ ap (λ (v : Levels). frame_lines S v (not v.released && x.level)) e

  -- The slave's edges ----------------------------------------------------------------------------------------------------

  slave_captures : (x : Shift) (f d d' : Bool) (n : ℕ) → slave_step (plain Ti phase b h true) (sending 0 x) (wire (bit_lines true f d)) (wire (bit_lines false false d')) n ≡ capture_step b (d' && true) (sending 0 x)
  unfolding slave_step ti_slave ti_falls data_bit wire
  slave_captures x f d d' n = refl

  slave_drives : (x : Shift) (f d d' : Bool) (n : ℕ) → slave_step (plain Ti phase b h true) (sending 0 x) (wire (bit_lines false false d)) (wire (bit_lines true f d')) n ≡ no_word (with_shift (sending 0 x) (driven b x.captured x))
  unfolding slave_step ti_slave ti_rises wire
  slave_drives x f d d' n = refl

  -- a mark at the last bit's own edge
  slave_joins : (x : Shift) (d d' : Bool) (n : ℕ) → x.captured + 1 ≡ b → slave_step (plain Ti phase b h true) (sending 0 x) (wire (bit_lines true true d)) (wire (bit_lines false true d')) n ≡ capture_step b (d' && true) (with_mark (sending 0 x) true)
  unfolding slave_step ti_slave ti_falls data_bit wire
  slave_joins x d d' n e = rw (le-ltb (x.captured + 1) b (omega arith))

  abbrev marking : Engine
  marking = with_mark cleared true

  slave_takes : (d r d' : Bool) (n : ℕ) → slave_step (plain Ti phase b h true) (with_mark cleared true) (wire (lined false true d r)) (wire (bit_lines true false d')) n
      ≡ record { engine = sending 0 (shifted 0 (bit_of b n 0) n 0); takes = true; completed = None }
  unfolding slave_step ti_slave ti_rises wire started
  slave_takes d r d' n = refl

  in_word : (x : Shift) → x.captured < b → slave_end (plain Ti phase b h true) (sending 0 x) ≡ sending 0 x
  unfolding slave_end
  in_word x l = rw (lt-leb b x.captured l)

  -- a slave that sees no edge; its lines follow its state
  calm : (tx : List ℕ) (rx : Receiver) (e : Engine) (l l' : Lines) (c f d r : Bool) → slave_end (plain Ti phase b h true) e ≡ e → slave_lines (plain Ti phase b h true) e ≡ l'
      → slave_side (plain Ti phase b h true) (wire (lined c f d r)) (wire (lined c f d r)) (record { tx = tx; rx = rx; engine = e; lines = l }) ≡ record { tx = tx; rx = rx; engine = e; lines = l' }
  unfolding wire
  calm tx rx e l l' c f d r z k =
      slave_by (plain Ti phase b h true) _ _ (record { tx = tx; rx = rx; engine = e; lines = l }) (no_word e) e l' (quiet_ti phase b h c f (d && not r) f (d && not r) e _) z k

  -- The states -----------------------------------------------------------------------------------------------------------

  abbrev idle : Queues → Two
  idle = starts ti_idle

  -- slot 0 of a first word is over
  abbrev opened_at : ℕ → Queues → Two
  opened_at w k =
      record {
        m = record { tx = k.mtx; rx = k.mrx; engine = sending 1 (loaded w); lines = lined true true false true };
        s = record { tx = k.stx; rx = k.srx; engine = cleared; lines = hidden };
      }

  -- slot 1 is over, and the slave has seen the mark
  -- c, d, g: what the master's shift register still has of the word before; r: nothing
  abbrev marked_at : ℕ → Queues → ℕ → Bool → ℕ → Bool → Two
  marked_at w k c d g r =
      record {
        m = record { tx = k.mtx; rx = k.mrx; engine = sending 2 (shifted c d w g); lines = lined false true d r };
        s = record { tx = k.stx; rx = k.srx; engine = marking; lines = hidden };
      }

  -- c bits are through, and both have the next one on their lines; x is the word in the master's shift register, f its FSS
  abbrev driven_at : ℕ → ℕ → ℕ → Queues → ℕ → ℕ → Bool → Two
  driven_at w v x k c n f =
      record {
        m = record { tx = k.mtx; rx = k.mrx; engine = sending n (shifted c (bit_of b w c) x (top b v c)); lines = bit_lines true f (bit_of b w c) };
        s = record { tx = k.stx; rx = k.srx; engine = sending 0 (shifted c (bit_of b v c) v (top b w c)); lines = shown (bit_of b v c) };
      }

  abbrev captured_at : ℕ → ℕ → Queues → ℕ → ℕ → Two
  captured_at w v k c n =
      record {
        m = record { tx = k.mtx; rx = k.mrx; engine = sending n (shifted (c + 1) (bit_of b w c) w (top b v (c + 1))); lines = bit_lines false false (bit_of b w c) };
        s = record { tx = k.stx; rx = k.srx; engine = sending 0 (shifted (c + 1) (bit_of b v c) v (top b w (c + 1))); lines = shown (bit_of b v c) };
      }

  -- the last word is through; the lines still show its last bit
  abbrev done_at : Queues → Bool → Two
  done_at k d =
      record {
        m = record { tx = k.mtx; rx = k.mrx; engine = cleared; lines = bit_lines false false d };
        s = record { tx = k.stx; rx = k.srx; engine = cleared; lines = hidden };
      }

  -- The slots ------------------------------------------------------------------------------------------------------------

  open_acts : (w : ℕ) (ws : List ℕ) (q : Receiver) (d : Bool)
      → acted sm (record { tx = w ∷ ws; rx = q; engine = cleared; lines = ti_idle }) d ≡ record { tx = ws; rx = q; engine = sending 0 (loaded w); lines = lined true true false true }
  unfolding acted master_step acting resting event_of ti_event master_lines master_txd levels_of ti_levels frame_lines
  open_acts w ws q d =
      let x : Side = record { tx = w ∷ ws; rx = q; engine = cleared; lines = ti_idle } in
      let r : Step = act sm cleared (waits (w ∷ ws)) w (data_bit sm (master_txd sm cleared) d) (event_of sm (slots 0)) in
      ap (λ (t : Bool). moved (pick t r (no_word cleared)) x (master_lines sm (pick t r (no_word cleared)).engine)) (waits_cons w ws)

  open_slot : (w : ℕ) (ws : List ℕ) (q : Receiver) (vs : List ℕ) (r : Receiver)
      → Slot sm ss (idle (holding (w ∷ ws) q vs r)) (record { tx = ws; rx = q; engine = sending 0 (loaded w); lines = lined true true false true }) (opened_at w (holding ws q vs r))
  unfolding wire last_slot slave_lines slave_end slave_step ti_slave ti_rises
  open_slot w ws q vs r =
      slot_of sm ss (idle (holding (w ∷ ws) q vs r)) (record { tx = ws; rx = q; engine = sending 0 (loaded w); lines = lined true true false true })
      (opened_at w (holding ws q vs r)).m (opened_at w (holding ws q vs r)).s (opened_at w (holding ws q vs r)).s
      (open_acts w ws q false)
      (next_in sm 0 (loaded w) ws q _ (omega arith))
      (slave_by ss (wire ti_idle) (wire (lined true true false true)) (idle (holding (w ∷ ws) q vs r)).s (no_word cleared) cleared hidden refl refl refl)
      (calm vs r cleared hidden hidden true true false true refl refl) refl

  mark_slot : (w : ℕ) (k : Queues) → 0 < b
      → Slot sm ss (opened_at w k) (record { tx = k.mtx; rx = k.mrx; engine = sending 1 (loaded w); lines = lined false true false true }) (marked_at w k 0 false 0 true)
  unfolding wire last_slot slave_lines slave_end slave_step ti_slave ti_falls event_of ti_event master_lines master_txd levels_of ti_levels frame_lines data_bit
  mark_slot w k l =
      slot_of sm ss (opened_at w k) (record { tx = k.mtx; rx = k.mrx; engine = sending 1 (loaded w); lines = lined false true false true })
      (marked_at w k 0 false 0 true).m (marked_at w k 0 false 0 true).s (marked_at w k 0 false 0 true).s
      (acted_by sm 1 (loaded w) k.mtx k.mrx _ _ false JoinCapture (no_word (sending 1 (loaded w))) refl refl refl)
      (next_in sm 1 (loaded w) k.mtx k.mrx _ (omega arith))
      (slave_by ss (wire (lined true true false true)) (wire (lined false true false true)) (opened_at w k).s (no_word marking) marking hidden refl refl refl)
      (calm k.stx k.srx marking hidden hidden false true false true refl refl) refl

  first_slot : (w : ℕ) (ws : List ℕ) (q : Receiver) (vs : List ℕ) (r : Receiver) (c : ℕ) (d : Bool) (g : ℕ) (e : Bool) → 0 < b
      → Slot sm ss (marked_at w (holding ws q vs r) c d g e) (record { tx = ws; rx = q; engine = sending 2 (shifted 0 (bit_of b w 0) w 0); lines = bit_lines true false (bit_of b w 0) })
      (driven_at w (front vs) w (holding ws q (rest vs) r) 0 3 false)
  unfolding wire last_slot slave_lines event_of ti_event width_of started data_bit
  first_slot w ws q vs r c d g e l =
      let x = shifted 0 (bit_of b w 0) w 0 in
      let x' = shifted 0 (bit_of b (front vs) 0) (front vs) 0 in
      let y : Side = record { tx = rest vs; rx = r; engine = sending 0 x'; lines = shown (bit_of b (front vs) 0) } in
      rw (top_zero b (front vs), top_zero b w)
      (slot_of sm ss (marked_at w (holding ws q vs r) c d g e) (record { tx = ws; rx = q; engine = sending 2 x; lines = bit_lines true false (bit_of b w 0) })
      (record { tx = ws; rx = q; engine = sending 3 x; lines = bit_lines true false (bit_of b w 0) }) y y
      (acted_by sm 2 (shifted c d w g) ws q _ _ false First (no_word (sending 2 x)) refl refl (lines_at_lem 2 x true (ti_levels_even false 2 0 refl)))
      (next_in sm 2 x ws q _ (omega arith))
      (slave_by ss (wire (lined false true d e)) (wire (bit_lines true false (bit_of b w 0))) (marked_at w (holding ws q vs r) c d g e).s
      (record { engine = sending 0 x'; takes = true; completed = None }) (sending 0 x') (shown (bit_of b (front vs) 0)) (slave_takes d e (bit_of b w 0) (front vs)) (in_word x' l) refl)
      (calm (rest vs) r (sending 0 x') _ _ true false (bit_of b w 0) false (in_word x' l) refl) refl)

  module _ (w v : ℕ) (k : Queues) (m : b ≤ 16) where
    capture_slot : (c n : ℕ) → n ≡ 2 * c + 3 → c + 1 < b
        → Slot sm ss (driven_at w v w k c n false) (record { tx = k.mtx; rx = k.mrx; engine = sending n (shifted (c + 1) (bit_of b w c) w (top b v (c + 1))); lines = bit_lines false false (bit_of b w c) }) (captured_at w v k c (n + 1))
    unfolding event_of data_bit wire last_slot slave_lines
    capture_slot c n e l =
        let x0 = shifted c (bit_of b w c) w (top b v c) in
        let y0 = shifted c (bit_of b v c) v (top b w c) in
        let x = shifted (c + 1) (bit_of b w c) w (top b v (c + 1)) in
        let x' = shifted (c + 1) (bit_of b v c) v (top b w (c + 1)) in
        slot_of sm ss (driven_at w v w k c n false) (record { tx = k.mtx; rx = k.mrx; engine = sending n x; lines = bit_lines false false (bit_of b w c) }) (captured_at w v k c (n + 1)).m (captured_at w v k c (n + 1)).s (captured_at w v k c (n + 1)).s
        (acted_by sm n x0 k.mtx k.mrx _ _ (bit_of b v c && true) Capture (no_word (sending n x)) (ti_capture b n c e)
        (capture_in b (bit_of b v c && true) (sending n x0) l ∙ ap (λ (r : ℕ). no_word (sending n (shifted (c + 1) (bit_of b w c) w r))) (next_bit b v c (omega arith) m))
        (lines_at_lem n x false (ti_levels_odd _ n c e)))
        (next_in sm n x k.mtx k.mrx _ (omega arith))
        (slave_by ss _ _ (driven_at w v w k c n false).s (no_word (sending 0 x')) (sending 0 x') (shown (bit_of b v c))
        (slave_captures y0 false (bit_of b w c) (bit_of b w c) _
        ∙ capture_in b (bit_of b w c && true) (sending 0 y0) l ∙ ap (λ (r : ℕ). no_word (sending 0 (shifted (c + 1) (bit_of b v c) v r))) (next_bit b w c (omega arith) m))
        (in_word x' l) refl)
        (calm k.stx k.srx (sending 0 x') _ _ false false (bit_of b w c) false (in_word x' l) refl) refl

    drive_slot : (c n : ℕ) → n ≡ 2 * (c + 1) + 2 → c + 1 + 1 < b
        → Slot sm ss (captured_at w v k c n) (record { tx = k.mtx; rx = k.mrx; engine = sending n (shifted (c + 1) (bit_of b w (c + 1)) w (top b v (c + 1))); lines = bit_lines true false (bit_of b w (c + 1)) }) (driven_at w v w k (c + 1) (n + 1) false)
    unfolding event_of data_bit wire last_slot width_of slave_lines driven
    drive_slot c n e l =
        let x0 = shifted (c + 1) (bit_of b w c) w (top b v (c + 1)) in
        let y0 = shifted (c + 1) (bit_of b v c) v (top b w (c + 1)) in
        let x = shifted (c + 1) (bit_of b w (c + 1)) w (top b v (c + 1)) in
        let x' = shifted (c + 1) (bit_of b v (c + 1)) v (top b w (c + 1)) in
        slot_of sm ss (captured_at w v k c n) (record { tx = k.mtx; rx = k.mrx; engine = sending n x; lines = bit_lines true false (bit_of b w (c + 1)) }) (driven_at w v w k (c + 1) (n + 1) false).m (driven_at w v w k (c + 1) (n + 1) false).s (driven_at w v w k (c + 1) (n + 1) false).s
        (acted_by sm n x0 k.mtx k.mrx _ _ (bit_of b v c && true) (Drive (c + 1)) (no_word (sending n x)) (ti_drive b n (c + 1) e (omega arith) (omega arith)) refl (lines_at_lem n x true (ti_levels_even _ n (c + 1) e)))
        (next_in sm n x k.mtx k.mrx _ (omega arith))
        (slave_by ss _ _ (captured_at w v k c n).s (no_word (sending 0 x')) (sending 0 x') (shown (bit_of b v (c + 1))) (slave_drives y0 false (bit_of b w c) (bit_of b w (c + 1)) _) (in_word x' (omega arith)) refl)
        (calm k.stx k.srx (sending 0 x') _ _ true false (bit_of b w (c + 1)) false (in_word x' (omega arith)) refl) refl

    bits_run : (j c d n o : ℕ) → c + j ≡ d → n + 2 * j ≡ o → n ≡ 2 * c + 3 → d + 1 < b
        → Trace (LiveSlot sm ss) (slot_step sm ss) (2 * j) (driven_at w v w k c n false) (driven_at w v w k d o false)
    bits_run zero c d n o p q e l = trace_end none (ap₂ (λ (x y : ℕ). driven_at w v w k x y false) (omega arith) (omega arith))
    bits_run (suc j) c d n o p q e l =
        trace_count (omega arith)
        (slot_then (capture_slot c n e (omega arith)) refl
        (slot_then (drive_slot c (n + 1) (omega arith) (omega arith)) refl
        (bits_run j (c + 1) d (n + 1 + 1) o (omega arith) (omega arith) (omega arith) l)))

  -- the last bit, with no word after it
  last_drive : (w v : ℕ) (q : Receiver) (vs : List ℕ) (r : Receiver) (c n : ℕ) → n ≡ 2 * (c + 1) + 2 → c + 1 + 1 ≡ b
      → Slot sm ss (captured_at w v (holding [] q vs r) c n) (record { tx = []; rx = q; engine = sending n (shifted (c + 1) (bit_of b w (c + 1)) w (top b v (c + 1))); lines = bit_lines true false (bit_of b w (c + 1)) })
      (driven_at w v w (holding [] q vs r) (c + 1) (n + 1) false)
  unfolding event_of data_bit wire last_slot width_of slave_lines driven
  last_drive w v q vs r c n e l =
      let k = holding [] q vs r in
      let x0 = shifted (c + 1) (bit_of b w c) w (top b v (c + 1)) in
      let y0 = shifted (c + 1) (bit_of b v c) v (top b w (c + 1)) in
      let x = shifted (c + 1) (bit_of b w (c + 1)) w (top b v (c + 1)) in
      let x' = shifted (c + 1) (bit_of b v (c + 1)) v (top b w (c + 1)) in
      let i : b - 1 ≡ c + 1 = omega arith in
      slot_of sm ss (captured_at w v k c n) (record { tx = []; rx = q; engine = sending n x; lines = bit_lines true false (bit_of b w (c + 1)) }) (driven_at w v w k (c + 1) (n + 1) false).m (driven_at w v w k (c + 1) (n + 1) false).s (driven_at w v w k (c + 1) (n + 1) false).s
      (acted_by sm n x0 [] q _ _ (bit_of b v c && true) (JoinDrive (c + 1)) (no_word (sending n x)) (ti_last b n (omega arith) (omega arith) ∙ ap JoinDrive i) refl (lines_at_lem n x true (ti_levels_even _ n (c + 1) e)))
      (next_in sm n x [] q _ (omega arith))
      (slave_by ss _ _ (captured_at w v k c n).s (no_word (sending 0 x')) (sending 0 x') (shown (bit_of b v (c + 1))) (slave_drives y0 false (bit_of b w c) (bit_of b w (c + 1)) _) (in_word x' (omega arith)) refl)
      (calm vs r (sending 0 x') _ _ true false (bit_of b w (c + 1)) false (in_word x' (omega arith)) refl) refl

  -- the last bit, with the next word taken
  chain_drive : (w v u : ℕ) (ws : List ℕ) (q : Receiver) (vs : List ℕ) (r : Receiver) (c n : ℕ) → n ≡ 2 * (c + 1) + 2 → c + 1 + 1 ≡ b
      → Slot sm ss (captured_at w v (holding (u ∷ ws) q vs r) c n) (record { tx = ws; rx = q; engine = sending 0 (shifted (c + 1) (bit_of b w (c + 1)) u (top b v (c + 1))); lines = bit_lines true true (bit_of b w (c + 1)) })
      (driven_at w v u (holding ws q vs r) (c + 1) 1 true)
  unfolding event_of data_bit wire last_slot width_of slave_lines driven joined_shift ti_levels
  chain_drive w v u ws q vs r c n e l =
      let k = holding (u ∷ ws) q vs r in
      let x0 = shifted (c + 1) (bit_of b w c) w (top b v (c + 1)) in
      let y0 = shifted (c + 1) (bit_of b v c) v (top b w (c + 1)) in
      let x = shifted (c + 1) (bit_of b w (c + 1)) u (top b v (c + 1)) in
      let x' = shifted (c + 1) (bit_of b v (c + 1)) v (top b w (c + 1)) in
      let z = driven_at w v u (holding ws q vs r) (c + 1) 1 true in
      let i : b - 1 ≡ c + 1 = omega arith in
      slot_of sm ss (captured_at w v k c n) (record { tx = ws; rx = q; engine = sending 0 x; lines = bit_lines true true (bit_of b w (c + 1)) }) z.m z.s z.s
      (acted_by sm n x0 (u ∷ ws) q _ _ (bit_of b v c && true) (JoinDrive (c + 1)) (begun (sending 0 x0) x) (ti_last b n (omega arith) (omega arith) ∙ ap JoinDrive i)
      (ap (λ (t : Bool). pick t (begun (sending 0 x0) x) (no_word (with_shift (sending n x0) (driven b (c + 1) x0)))) (waits_cons u ws))
      (lines_joined 0 x true (ne_eqb (c + 1) 0 (omega arith)) refl))
      (next_in sm 0 x ws q _ (omega arith))
      (slave_by ss _ _ (captured_at w v k c n).s (no_word (sending 0 x')) (sending 0 x') (shown (bit_of b v (c + 1))) (slave_drives y0 true (bit_of b w c) (bit_of b w (c + 1)) _) (in_word x' (omega arith)) refl)
      (calm vs r (sending 0 x') _ _ true true (bit_of b w (c + 1)) false (in_word x' (omega arith)) refl) refl

  -- the last capture, with no word after it: the frame is over
  last_capture : (w v : ℕ) (q : Receiver) (vs : List ℕ) (r : Receiver) (c n : ℕ) → b ≤ 16 → n ≡ 2 * c + 3 → c + 1 ≡ b
      → Slot sm ss (driven_at w v w (holding [] q vs r) c n false) (record { tx = []; rx = push (cut b v) q; engine = sending n (shifted (c + 1) (bit_of b w c) w (cut b v)); lines = bit_lines false false (bit_of b w c) })
      (done_at (received b b w v (holding [] q vs r)) (bit_of b w c))
  unfolding event_of data_bit wire last_slot next_slot slave_lines slave_end
  last_capture w v q vs r c n m e l =
      let k = holding [] q vs r in
      let x0 = shifted c (bit_of b w c) w (top b v c) in
      let y0 = shifted c (bit_of b v c) v (top b w c) in
      let x = shifted (c + 1) (bit_of b w c) w (cut b v) in
      slot_of sm ss (driven_at w v w k c n false) (record { tx = []; rx = push (cut b v) q; engine = sending n x; lines = bit_lines false false (bit_of b w c) })
      (done_at (received b b w v k) (bit_of b w c)).m (record { tx = vs; rx = push (cut b w) r; engine = cleared; lines = shown (bit_of b v c) }) (done_at (received b b w v k) (bit_of b w c)).s
      (acted_by sm n x0 [] q _ _ (bit_of b v c && true) Capture (completed (sending n x0) (cut b v)) (ti_capture b n c e) (capture_last b (bit_of b v c && true) (sending n x0) v l (last_bit_lem b v c l m)) (lines_at_lem n x false (ti_levels_odd _ n c e)))
      (rw (le-ltb n (2 * b + 1) (omega arith)))
      (slave_by ss _ _ (driven_at w v w k c n false).s (completed (sending 0 y0) (cut b w)) cleared (shown (bit_of b v c))
      (slave_captures y0 false (bit_of b w c) (bit_of b w c) _ ∙ capture_last b (bit_of b w c && true) (sending 0 y0) w l (last_bit_lem b w c l m))
      (rw (le-leb b (c + 1) (omega arith))) refl)
      (calm vs (push (cut b w) r) cleared (shown (bit_of b v c)) hidden false false (bit_of b w c) false refl refl) refl

  -- the last capture under the next word's mark
  chain_capture : (w v u : ℕ) (k : Queues) (c : ℕ) → b ≤ 16 → c + 1 ≡ b → 0 < c
      → Slot sm ss (driven_at w v u k c 1 true) (record { tx = k.mtx; rx = push (cut b v) k.mrx; engine = sending 1 (shifted (c + 1) (bit_of b w c) u (cut b v)); lines = bit_lines false true (bit_of b w c) })
      (marked_at u (received b b w v k) (c + 1) (bit_of b w c) (cut b v) false)
  unfolding event_of ti_event data_bit wire last_slot slave_lines slave_end ti_levels
  chain_capture w v u k c m l z =
      let x0 = shifted c (bit_of b w c) u (top b v c) in
      let y0 = shifted c (bit_of b v c) v (top b w c) in
      let x = shifted (c + 1) (bit_of b w c) u (cut b v) in
      let t = marked_at u (received b b w v k) (c + 1) (bit_of b w c) (cut b v) false in
      slot_of sm ss (driven_at w v u k c 1 true) (record { tx = k.mtx; rx = push (cut b v) k.mrx; engine = sending 1 x; lines = bit_lines false true (bit_of b w c) })
      t.m (record { tx = k.stx; rx = push (cut b w) k.srx; engine = marking; lines = shown (bit_of b v c) }) t.s
      (acted_by sm 1 x0 k.mtx k.mrx _ _ (bit_of b v c && true) JoinCapture (completed (sending 1 x0) (cut b v)) refl
      (ap (λ (u : Bool). pick u (no_word (sending 1 x0)) (capture_step b (bit_of b v c && true) (sending 1 x0))) (ne_eqb c 0 (omega arith)) ∙ capture_last b (bit_of b v c && true) (sending 1 x0) v l (last_bit_lem b v c l m))
      (lines_joined 1 x false (ne_eqb (c + 1) 0 (omega arith)) refl))
      (next_in sm 1 x k.mtx (push (cut b v) k.mrx) _ (omega arith))
      (slave_by ss _ _ (driven_at w v u k c 1 true).s (completed (with_mark (sending 0 y0) true) (cut b w)) marking (shown (bit_of b v c))
      (slave_joins y0 (bit_of b w c) (bit_of b w c) _ l ∙ capture_last b (bit_of b w c && true) (with_mark (sending 0 y0) true) w l (last_bit_lem b w c l m))
      (rw (le-leb b (c + 1) (omega arith))) refl)
      (calm k.stx (push (cut b w) k.srx) marking (shown (bit_of b v c)) hidden false true (bit_of b w c) false refl refl) refl

  -- A load ---------------------------------------------------------------------------------------------------------------

  module _ (l : 3 < b) (m : b ≤ 16) where
    -- a word, from its mark to the capture before its last
    word_run : (w : ℕ) (ws : List ℕ) (q : Receiver) (vs : List ℕ) (r : Receiver) (c : ℕ) (d : Bool) (g : ℕ) (e : Bool)
        → Trace (LiveSlot sm ss) (slot_step sm ss) (2 * b - 2) (marked_at w (holding ws q vs r) c d g e) (captured_at w (front vs) (holding ws q (rest vs) r) (b - 2) (2 * b))
    word_run w ws q vs r c d g e =
        let k = holding ws q (rest vs) r in
        trace_count (omega arith)
        (slot_then (first_slot w ws q vs r c d g e (omega arith)) refl
        (trace_then (bits_run w (front vs) k m (b - 2) 0 (b - 2) 3 (2 * b - 1) (omega arith) (omega arith) (omega arith) (omega arith))
        (slot_then (capture_slot w (front vs) k m (b - 2) (2 * b - 1) (omega arith) (omega arith)) refl
        (trace_end none (ap (captured_at w (front vs) k (b - 2)) (omega arith))))))

    abbrev final_at : ℕ → Receiver → List ℕ → Receiver → Two
    final_at w q vs r = done_at (received b b w (front vs) (holding [] q (rest vs) r)) (bit_of b w (b - 2 + 1))

    words-run : (w : ℕ) (ws : List ℕ) (q : Receiver) (vs : List ℕ) (r : Receiver) (c : ℕ) (d : Bool) (g : ℕ) (e : Bool)
        → Trace (LiveSlot sm ss) (slot_step sm ss) (suc (length ws) * (2 * b)) (marked_at w (holding ws q vs r) c d g e) (last_of b b final_at w ws q vs r)
    words-run w [] q vs r c d g e =
        trace_count (omega arith)
        (trace_then (word_run w [] q vs r c d g e)
        (slot_then (last_drive w (front vs) q (rest vs) r (b - 2) (2 * b) (omega arith) (omega arith)) refl
        (slot_then (last_capture w (front vs) q (rest vs) r (b - 2 + 1) (2 * b + 1) m (omega arith) (omega arith)) refl none)))
    words-run w (u ∷ ws) q vs r c d g e =
        trace_count (omega arith)
        (trace_then (word_run w (u ∷ ws) q vs r c d g e)
        (slot_then (chain_drive w (front vs) u ws q (rest vs) r (b - 2) (2 * b) (omega arith) (omega arith)) refl
        (slot_then (chain_capture w (front vs) u (holding ws q (rest vs) r) (b - 2 + 1) m (omega arith) (omega arith)) refl
        (words-run u ws (push (cut b (front vs)) q) (rest vs) (push (cut b w) r) (b - 2 + 1 + 1) (bit_of b w (b - 2 + 1)) (cut b (front vs)) false))))

    load-run : (w : ℕ) (ws : List ℕ) (q : Receiver) (vs : List ℕ) (r : Receiver)
        → Trace (LiveSlot sm ss) (slot_step sm ss) (2 * b * suc (length ws) + 2) (idle (holding (w ∷ ws) q vs r)) (last_of b b final_at w ws q vs r)
    load-run w ws q vs r =
        trace_count (omega arith)
        (slot_then (open_slot w ws q vs r) refl
        (slot_then (mark_slot w (holding ws q vs r) (omega arith)) refl
        (words-run w ws q vs r 0 false 0 true)))

    abbrev quiet_pins : Bool → Bool → Pins
    quiet_pins f d = record { clk = false; fss = f; rxd = d }

    -- the lines go idle, and no edge is seen any more
    done_ever : (i : ℕ) (q : Receiver) (vs : List ℕ) (r : Receiver) (d e f₁ d₁ f₂ d₂ f₃ d₃ : Bool)
        → Holds q r (iterate i (core_cycle sm ss) (mk (record { tx = []; rx = q; engine = cleared; lines = lined false false d e }) (idle (holding [] q vs r)).s (quiet_pins f₁ d₁) (quiet_pins f₂ d₂) (quiet_pins f₃ d₃)))
    unfolding core_cycle master_side acted master_step master_end acting resting master_lines master_txd slave_lines slave_end slave_step ti_slave slave_side wire
    done_ever zero q vs r d e f₁ d₁ f₂ d₂ f₃ d₃ = (refl, refl)
    done_ever (suc i) q vs r d e f₁ d₁ f₂ d₂ f₃ d₃ = done_ever i q vs r false true false (d && not e) f₁ d₁ f₂ d₂

    final_ever : (w : ℕ) (q : Receiver) (vs : List ℕ) (r : Receiver) (i : ℕ) → Holds (push (cut b (front vs)) q) (push (cut b w) r) (iterate i (core_cycle sm ss) (rested (final_at w q vs r)))
    unfolding wire
    final_ever w q vs r i =
        let d = bit_of b w (b - 2 + 1) in
        done_ever i (push (cut b (front vs)) q) (rest vs) (push (cut b w) r) d false false (d && true) false (d && true) false (d && true)

    pub exchange : Exchange (plain Ti phase b h false) (plain Ti phase b h true) (lined false false false true) (λ n. 2 * b * suc n + 2)
    unfolding width_of
    exchange = record { final = final_at; run = load-run; ever = final_ever }
