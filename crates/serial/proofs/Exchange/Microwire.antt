-- Microwire: the slave latches the master's control byte, takes its word in the wait, and sends it while the master captures.
use Prim.Native.Nat.{ℕ, zero, suc, ◌+◌, ◌-◌, ◌*◌, ◌/◌, ◌%◌, ◌≤◌, ◌<◌}
use mathlib.Core.Path.{◌≡◌, refl, ap, ap₂, ◌∙◌}
use mathlib.Core.Bool.{Bool, true, false, not, ◌&&◌}
use mathlib.Core.List.{List, [], ◌∷◌}
use native.Mathlib.Omega.{arith}
use lib.Dec.{leb}
use lib.ListN.{length}
use borrow.Author.Tests.{eq-eqb, lt-ltb, le-leb, lt-leb}
use Rattle.registers.specs.Choose.{pick}
use Rattle.registers.proofs.Picks.{pick_both}
use Rattle.registers.specs.Time.{slots}
use Rattle.registers.specs.Transfer.{rest}
use Rattle.registers.specs.declared.settings.Format.TheVariants.{Microwire}
use Rattle.registers.specs.declared.settings.Settings.{Settings}
use Rattle.frames.specs.Bits.{bit_of, cut}
use Rattle.frames.specs.Engine.{cleared, with_frame, with_slot, with_selected, no_word, begun, started, driven, capture_step}
use Rattle.frames.specs.Slots.{event_of, microwire_event, microwire_levels, last_slot, width_of, levels_of}
use Rattle.frames.specs.Lines.{master_lines, slave_lines, frame_lines, master_txd}
use Rattle.frames.specs.Master.{act, master_step, acting, resting, data_bit}
use Rattle.serial.specs.Slave.{ready, slave_step, slave_end, word_over, microwire_slave, microwire_edges, microwire_rises, data_rises, microwire_falls}
use Rattle.serial.specs.Pair.{wire}
use Rattle.serial.proofs.Cycles.{waits, waits_cons}
use Rattle.serial.proofs.Trace.{Trace, none, iterate, trace_count, trace_then, trace_end}
use Rattle.serial.proofs.Top.{top, top_zero}
use Rattle.serial.proofs.Events.{low_levels, microwire_drive, microwire_hold, microwire_wait, microwire-low, microwire_capture, microwire_chain, microwire_release, microwire_levels_even, microwire_levels_odd, microwire_levels_low, microwire_levels_high}
use Rattle.serial.proofs.WithinSlot.{sending, shifted}
use Rattle.serial.proofs.Exchange.Core.{Receiver, Side, plain, push, moved, acted, slave_side, core_cycle}
use Rattle.serial.proofs.Exchange.Settle.{Two, slot_step, rested}
use Rattle.serial.proofs.Exchange.Quiet.{quiet-microwire, lawful_microwire}
use Rattle.serial.proofs.Exchange.Moves.{Queues, in_frame, shown, hidden, acted_by, next_in, capture_in, completed, capture_last, next_bit, last_bit_lem, slave_by, Slot, slot_of, LiveSlot, slot_then}
use Rattle.serial.proofs.Exchange.Wiring.{front, holding, Holds, starts, last_of, StaysIdle, Exchange}
use Rattle.serial.proofs.Exchange.Release.{GoesIdle}
use Rattle.serial.proofs.Exchange.Release as release
use Rattle.frames.specs.declared.engine.Engine.{Engine}
use Rattle.frames.specs.declared.engine.Shift.{Shift}
use Rattle.frames.specs.declared.engine.Step.{Step}
use Rattle.frames.specs.declared.lines.Lines.{Lines}
use Rattle.frames.specs.declared.slots.Levels.{Levels}
use Rattle.frames.specs.declared.slots.Event.TheVariants.{BeginDrive, Drive, Capture, Chain, Quiet, Pause}

-- The lines ------------------------------------------------------------------------------------------------------------

-- the master's from the wait on
abbrev waiting : Bool → Lines
waiting c = record { clk = c; fss = false; txd = false; released = true }

-- a selected slave's engine in slot i
abbrev chosen : ℕ → Bool → Shift → Engine
chosen i f x = with_selected (with_frame (with_slot cleared (slots i)) f x) true

module _ (phase : Bool) (b h : ℕ) where
  abbrev sm : Settings
  sm = plain Microwire phase b h false

  abbrev ss : Settings
  ss = plain Microwire phase b h true

  lines_at_lem : (n : ℕ) (x : Shift) (c r : Bool) → microwire_levels n ≡ low_levels c r → master_lines sm (sending n x) ≡ record { clk = c; fss = false; txd = not r && x.level; released = r }
  unfolding master_lines master_txd levels_of frame_lines
  lines_at_lem n x c r e = ap (λ (v : Levels). frame_lines sm v (not v.released && x.level)) e

  -- a slave shows its level from slot 18 on
  lines_shown : (i : ℕ) (f : Bool) (x : Shift) → 18 ≤ i → slave_lines ss (chosen i f x) ≡ shown x.level
  unfolding slave_lines
  lines_shown i f x l = rw (le-leb 18 i l)

  -- The slave's edges ----------------------------------------------------------------------------------------------------

  -- a control bit
  slave_latches : (f : Bool) (x : Shift) (d d' : Bool) (n : ℕ) → x.captured < 8 → slave_step ss (chosen 0 f x) (wire (in_frame false d)) (wire (in_frame true d')) n ≡ capture_step 8 (d' && true) (chosen 0 true x)
  unfolding slave_step microwire_slave microwire_edges microwire_rises data_bit wire
  slave_latches f x d d' n l = rw (lt-ltb x.captured 8 l)

  -- the falls between control bits
  slave_waits : (f : Bool) (x : Shift) (d d' r r' : Bool) (n : ℕ)
      → slave_step ss (chosen 0 f x) (wire (record { clk = true; fss = false; txd = d; released = r })) (wire (record { clk = false; fss = false; txd = d'; released = r' })) n ≡ no_word (chosen 0 f x)
  unfolding slave_step microwire_slave microwire_edges microwire_falls wire
  slave_waits f x d d' r r' n = rw (lt-leb (17 + 2 * b) 0 (omega arith))

  -- the rise of the wait
  slave_takes : (g w n : ℕ) → slave_step ss (chosen 0 true (shifted 8 false g w)) (wire (waiting false)) (wire (waiting true)) n ≡ begun (chosen 17 true (shifted 8 false g w)) (shifted 0 (bit_of b n 0) n 0)
  unfolding slave_step microwire_slave microwire_edges microwire_rises wire started
  slave_takes g w n = refl

  slave_drives : (i j : ℕ) (x : Shift) (n : ℕ) → i ≡ 2 * j + 17 → j < b → slave_step ss (chosen i true x) (wire (waiting true)) (wire (waiting false)) n ≡ no_word (chosen (i + 1) true (driven b j x))
  unfolding slave_step microwire_slave microwire_edges microwire_falls wire
  slave_drives i j x n e l =
      let q : i / 2 - 8 ≡ j = omega arith in
      rw (lt-leb (17 + 2 * b) i (omega arith), le-leb 17 i (omega arith), eq-eqb (i % 2) 1 (omega arith), q)

  -- the rise of a data bit; the last one ends the frame
  slave_rises : (i j : ℕ) (x : Shift) (n : ℕ) (f : Bool) → i ≡ 2 * j + 18 → j < b → leb (17 + 2 * b) (i + 1) ≡ f → slave_step ss (chosen i true x) (wire (waiting false)) (wire (waiting true)) n ≡ no_word (chosen (i + 1) (not f) x)
  unfolding slave_step microwire_slave microwire_edges microwire_rises data_rises wire
  slave_rises i j x n f e l o = rw (le-leb 17 i (omega arith), eq-eqb (i % 2) 0 (omega arith), lt-leb (17 + 2 * b) i (omega arith), o)

  -- the fall that ends the last data bit
  slave_ends : (i : ℕ) (x : Shift) (d r : Bool) (n : ℕ) → i ≡ 2 * b + 17 → slave_step ss (chosen i false x) (wire (waiting true)) (wire (record { clk = false; fss = false; txd = d; released = r })) n ≡ no_word ready
  unfolding slave_step microwire_slave microwire_edges microwire_falls wire
  slave_ends i x d r n e = rw (le-leb (17 + 2 * b) i (omega arith))

  -- the end of a cycle leaves the engine
  ended : (e : Engine) → slave_end ss e ≡ e
  unfolding slave_end
  ended e = pick_both (λ (x : Engine). x ≡ e) (word_over ss e) _ _ (λ _. refl) (λ _. refl)

  -- a selected slave that sees no edge
  calm : (tx : List ℕ) (rx : Receiver) (i : ℕ) (f : Bool) (x : Shift) (l : Lines) (c d r : Bool) → slave_lines ss (chosen i f x) ≡ l
      → slave_side ss (wire (record { clk = c; fss = false; txd = d; released = r })) (wire (record { clk = c; fss = false; txd = d; released = r })) (record { tx = tx; rx = rx; engine = chosen i f x; lines = l })
      ≡ record { tx = tx; rx = rx; engine = chosen i f x; lines = l }
  unfolding wire
  calm tx rx i f x l c d r k =
      slave_by ss _ _ (record { tx = tx; rx = rx; engine = chosen i f x; lines = l }) (no_word (chosen i f x)) (chosen i f x) l (quiet-microwire phase b h c (d && not r) (d && not r) (chosen i f x) _) (ended _) k

  -- The states -----------------------------------------------------------------------------------------------------------

  -- control bit c is on the line, and those before it are latched
  abbrev driven_at : ℕ → Queues → Bool → ℕ → ℕ → Two
  driven_at w k f c n =
      record {
        m = record { tx = k.mtx; rx = k.mrx; engine = sending n (shifted 0 (bit_of 8 w c) w 0); lines = in_frame false (bit_of 8 w c) };
        s = record { tx = k.stx; rx = k.srx; engine = chosen 0 f (shifted c false 0 (top 8 w c)); lines = hidden };
      }

  -- the slave has latched it; g is what it has of the control byte
  abbrev latched_at : ℕ → Queues → ℕ → ℕ → ℕ → Two
  latched_at w k c g n =
      record {
        m = record { tx = k.mtx; rx = k.mrx; engine = sending n (shifted 0 (bit_of 8 w c) w 0); lines = in_frame true (bit_of 8 w c) };
        s = record { tx = k.stx; rx = k.srx; engine = chosen 0 true (shifted (c + 1) false 0 g); lines = hidden };
      }

  -- the first slot of the wait is over
  abbrev quiet_at : ℕ → Queues → Two
  quiet_at w k =
      record {
        m = record { tx = k.mtx; rx = k.mrx; engine = sending 17 (shifted 0 false w 0); lines = waiting false };
        s = record { tx = k.stx; rx = k.srx; engine = chosen 0 true (shifted 8 false 0 (cut 8 w)); lines = hidden };
      }

  -- j data bits are through; the slave is in slot i with level d and lines l
  abbrev risen_at : ℕ → ℕ → Queues → ℕ → ℕ → Bool → Lines → Two
  risen_at w v k j i d l =
      record {
        m = record { tx = k.mtx; rx = k.mrx; engine = sending (i + 1) (shifted j false w (top b v j)); lines = waiting true };
        s = record { tx = k.stx; rx = k.srx; engine = chosen i true (shifted 0 d v 0); lines = l };
      }

  -- data bit j is on the line
  abbrev shown_at : ℕ → ℕ → Queues → ℕ → ℕ → Two
  shown_at w v k j i =
      record {
        m = record { tx = k.mtx; rx = k.mrx; engine = sending (i + 1) (shifted j false w (top b v j)); lines = waiting false };
        s = record { tx = k.stx; rx = k.srx; engine = chosen i true (shifted 0 (bit_of b v j) v 0); lines = shown (bit_of b v j) };
      }

  -- both words are through, and the last data bit is still on the line
  abbrev done_at : ℕ → ℕ → Queues → ℕ → ℕ → Two
  done_at w v k j i =
      record {
        m = record { tx = k.mtx; rx = k.mrx; engine = sending (i + 1) (shifted (j + 1) false w (cut b v)); lines = waiting true };
        s = record { tx = k.stx; rx = k.srx; engine = chosen i false (shifted 0 (bit_of b v j) v 0); lines = shown (bit_of b v j) };
      }

  -- no word follows, and the frame's last slot begins
  abbrev over_at : Shift → Queues → ℕ → Two
  over_at x k n =
      record {
        m = record { tx = k.mtx; rx = k.mrx; engine = sending n x; lines = waiting false };
        s = record { tx = k.stx; rx = k.srx; engine = ready; lines = hidden };
      }

  -- The control byte -----------------------------------------------------------------------------------------------------

  -- what slot 0 leaves of the master
  abbrev opened : ℕ → List ℕ → Receiver → Side
  opened w ws q = record { tx = ws; rx = q; engine = sending 0 (shifted 0 (bit_of 8 w 0) w 0); lines = in_frame false (bit_of 8 w 0) }

  open_acts : (w : ℕ) (ws : List ℕ) (q : Receiver) (d : Bool) → acted sm (record { tx = w ∷ ws; rx = q; engine = cleared; lines = hidden }) d ≡ opened w ws q
  unfolding acted master_step acting resting event_of microwire_event width_of started
  open_acts w ws q d =
      let x : Side = record { tx = w ∷ ws; rx = q; engine = cleared; lines = hidden } in
      let r : Step = act sm cleared (waits (w ∷ ws)) w (data_bit sm (master_txd sm cleared) d) BeginDrive in
      ap (λ (t : Bool). moved (pick t r (no_word cleared)) x (master_lines sm (pick t r (no_word cleared)).engine)) (waits_cons w ws)
      ∙ ap (moved r x) (lines_at_lem 0 (shifted 0 (bit_of 8 w 0) w 0) false false (microwire_levels_even 0 0 refl (omega arith)))

  open_slot : (w : ℕ) (ws : List ℕ) (q : Receiver) (vs : List ℕ) (r : Receiver) → Slot sm ss (starts hidden (holding (w ∷ ws) q vs r)) (opened w ws q) (driven_at w (holding ws q vs r) false 0 1)
  unfolding wire last_slot slave_lines slave_step microwire_slave microwire_edges
  open_slot w ws q vs r =
      let y : Side = record { tx = vs; rx = r; engine = ready; lines = hidden } in
      rw (top_zero 8 w)
      (slot_of sm ss (starts hidden (holding (w ∷ ws) q vs r)) (opened w ws q) (record { tx = ws; rx = q; engine = sending 1 (shifted 0 (bit_of 8 w 0) w 0); lines = in_frame false (bit_of 8 w 0) }) y y
      (open_acts w ws q false)
      (next_in sm 0 (shifted 0 (bit_of 8 w 0) w 0) ws q _ (omega arith))
      (slave_by ss (wire hidden) (wire (in_frame false (bit_of 8 w 0))) (starts hidden (holding (w ∷ ws) q vs r)).s (no_word ready) ready hidden refl (ended _) refl)
      (calm vs r 0 false (shifted 0 false 0 0) hidden false (bit_of 8 w 0) false refl) refl)

  module _ (w : ℕ) (k : Queues) where
    abbrev held : ℕ → ℕ → Side
    held c n = record { tx = k.mtx; rx = k.mrx; engine = sending n (shifted 0 (bit_of 8 w c) w 0); lines = in_frame true (bit_of 8 w c) }

    holds : (c n : ℕ) (d : Bool) → n ≡ 2 * c + 1 → c < 8
        → acted sm (record { tx = k.mtx; rx = k.mrx; engine = sending n (shifted 0 (bit_of 8 w c) w 0); lines = in_frame false (bit_of 8 w c) }) d ≡ held c n
    unfolding event_of
    holds c n d e l =
        let x = shifted 0 (bit_of 8 w c) w 0 in
        acted_by sm n x k.mtx k.mrx _ _ d Pause (no_word (sending n x)) (microwire_hold b n c e l) refl (lines_at_lem n x true false (microwire_levels_odd n c e l))

    latch_slot : (f : Bool) (c n : ℕ) → n ≡ 2 * c + 1 → c + 1 < 8 → Slot sm ss (driven_at w k f c n) (held c n) (latched_at w k c (top 8 w (c + 1)) (n + 1))
    unfolding wire last_slot slave_lines
    latch_slot f c n e l =
        let x = shifted 0 (bit_of 8 w c) w 0 in
        let y0 = shifted c false 0 (top 8 w c) in
        let y = shifted (c + 1) false 0 (top 8 w (c + 1)) in
        let z = latched_at w k c (top 8 w (c + 1)) (n + 1) in
        slot_of sm ss (driven_at w k f c n) (held c n) z.m z.s z.s
        (holds c n false e (omega arith))
        (next_in sm n x k.mtx k.mrx _ (omega arith))
        (slave_by ss _ _ (driven_at w k f c n).s (no_word (chosen 0 true y)) (chosen 0 true y) hidden
        (slave_latches f y0 (bit_of 8 w c) (bit_of 8 w c) _ (omega arith)
        ∙ capture_in 8 (bit_of 8 w c && true) (chosen 0 true y0) l ∙ ap (λ (r : ℕ). no_word (chosen 0 true (shifted (c + 1) false 0 r))) (next_bit 8 w c (omega arith) (omega arith)))
        (ended _) refl)
        (calm k.stx k.srx 0 true y hidden true (bit_of 8 w c) false refl) refl

    drive_slot : (c n : ℕ) → n ≡ 2 * (c + 1) → c + 1 < 8
        → Slot sm ss (latched_at w k c (top 8 w (c + 1)) n) (record { tx = k.mtx; rx = k.mrx; engine = sending n (shifted 0 (bit_of 8 w (c + 1)) w 0); lines = in_frame false (bit_of 8 w (c + 1)) }) (driven_at w k true (c + 1) (n + 1))
    unfolding wire event_of last_slot slave_lines width_of driven
    drive_slot c n e l =
        let x = shifted 0 (bit_of 8 w (c + 1)) w 0 in
        let y = shifted (c + 1) false 0 (top 8 w (c + 1)) in
        let z = driven_at w k true (c + 1) (n + 1) in
        slot_of sm ss (latched_at w k c (top 8 w (c + 1)) n) (record { tx = k.mtx; rx = k.mrx; engine = sending n x; lines = in_frame false (bit_of 8 w (c + 1)) }) z.m z.s z.s
        (acted_by sm n (shifted 0 (bit_of 8 w c) w 0) k.mtx k.mrx _ _ false (Drive (c + 1)) (no_word (sending n x)) (microwire_drive b n (c + 1) e (omega arith) l) refl
        (lines_at_lem n x false false (microwire_levels_even n (c + 1) e l)))
        (next_in sm n x k.mtx k.mrx _ (omega arith))
        (slave_by ss _ _ (latched_at w k c (top 8 w (c + 1)) n).s (no_word (chosen 0 true y)) (chosen 0 true y) hidden (slave_waits true y (bit_of 8 w c) (bit_of 8 w (c + 1)) false false _) (ended _) refl)
        (calm k.stx k.srx 0 true y hidden false (bit_of 8 w (c + 1)) false refl) refl

    control_run : (j c d n o : ℕ) → c + j ≡ d → n + 2 * j ≡ o → n ≡ 2 * c + 1 → d < 8 → Trace (LiveSlot sm ss) (slot_step sm ss) (2 * j) (driven_at w k true c n) (driven_at w k true d o)
    control_run zero c d n o p q e l = trace_end none (ap₂ (driven_at w k true) (omega arith) (omega arith))
    control_run (suc j) c d n o p q e l =
        trace_count (omega arith)
        (slot_then (latch_slot true c n e (omega arith)) refl
        (slot_then (drive_slot c (n + 1) (omega arith) (omega arith)) refl
        (control_run j (c + 1) d (n + 1 + 1) o (omega arith) (omega arith) (omega arith) l)))

    abbrev received : Queues
    received = record { mtx = k.mtx; mrx = k.mrx; stx = k.stx; srx = push (cut 8 w) k.srx }

    -- the eighth completes the control byte
    byte_slot : Slot sm ss (driven_at w k true 7 15) (held 7 15) (latched_at w received 7 (cut 8 w) 16)
    unfolding wire last_slot slave_lines
    byte_slot =
        let x = shifted 0 (bit_of 8 w 7) w 0 in
        let y0 = shifted 7 false 0 (top 8 w 7) in
        let y = shifted 8 false 0 (cut 8 w) in
        let z = latched_at w received 7 (cut 8 w) 16 in
        slot_of sm ss (driven_at w k true 7 15) (held 7 15) z.m z.s z.s
        (holds 7 15 false refl (omega arith))
        (next_in sm 15 x k.mtx k.mrx _ (omega arith))
        (slave_by ss _ _ (driven_at w k true 7 15).s (completed (chosen 0 true y0) (cut 8 w)) (chosen 0 true y) hidden
        (slave_latches true y0 (bit_of 8 w 7) (bit_of 8 w 7) _ (omega arith) ∙ capture_last 8 (bit_of 8 w 7 && true) (chosen 0 true y0) w refl (last_bit_lem 8 w 7 refl (omega arith)))
        (ended _) refl)
        (calm k.stx (push (cut 8 w) k.srx) 0 true y hidden true (bit_of 8 w 7) false refl) refl

    byte_run : Trace (LiveSlot sm ss) (slot_step sm ss) 15 (driven_at w k false 0 1) (latched_at w received 7 (cut 8 w) 16)
    byte_run =
        slot_then (latch_slot false 0 1 refl (omega arith)) refl
        (slot_then (drive_slot 0 2 refl (omega arith)) refl
        (trace_then (control_run 6 1 7 3 15 refl refl refl (omega arith))
        (slot_then byte_slot refl none)))

  -- The wait and the data bits -------------------------------------------------------------------------------------------

  quiet_slot : (w : ℕ) (k : Queues) → Slot sm ss (latched_at w k 7 (cut 8 w) 16) (record { tx = k.mtx; rx = k.mrx; engine = sending 16 (shifted 0 false w 0); lines = waiting false }) (quiet_at w k)
  unfolding wire event_of microwire_event last_slot slave_lines
  quiet_slot w k =
      let x = shifted 0 false w 0 in
      let y = shifted 8 false 0 (cut 8 w) in
      slot_of sm ss (latched_at w k 7 (cut 8 w) 16) (record { tx = k.mtx; rx = k.mrx; engine = sending 16 x; lines = waiting false }) (quiet_at w k).m (quiet_at w k).s (quiet_at w k).s
      (acted_by sm 16 (shifted 0 (bit_of 8 w 7) w 0) k.mtx k.mrx _ _ false Quiet (no_word (sending 16 x)) refl refl (lines_at_lem 16 x false true (microwire_levels_low 16 0 refl)))
      (next_in sm 16 x k.mtx k.mrx _ (omega arith))
      (slave_by ss _ _ (latched_at w k 7 (cut 8 w) 16).s (no_word (chosen 0 true y)) (chosen 0 true y) hidden (slave_waits true y (bit_of 8 w 7) false false true _) (ended _) refl)
      (calm k.stx k.srx 0 true y hidden false false true refl) refl

  take_slot : (w : ℕ) (ws : List ℕ) (q : Receiver) (vs : List ℕ) (r : Receiver)
      → Slot sm ss (quiet_at w (holding ws q vs r)) (record { tx = ws; rx = q; engine = sending 17 (shifted 0 false w 0); lines = waiting true }) (risen_at w (front vs) (holding ws q (rest vs) r) 0 17 (bit_of b (front vs) 0) hidden)
  unfolding wire event_of last_slot slave_lines
  take_slot w ws q vs r =
      let x = shifted 0 false w 0 in
      let y = shifted 0 (bit_of b (front vs) 0) (front vs) 0 in
      let z : Side = record { tx = rest vs; rx = r; engine = chosen 17 true y; lines = hidden } in
      rw (top_zero b (front vs))
      (slot_of sm ss (quiet_at w (holding ws q vs r)) (record { tx = ws; rx = q; engine = sending 17 x; lines = waiting true }) (record { tx = ws; rx = q; engine = sending 18 x; lines = waiting true }) z z
      (acted_by sm 17 x ws q _ _ false Pause (no_word (sending 17 x)) (microwire_wait b 17 refl) refl (lines_at_lem 17 x true true (microwire_levels_high 17 0 refl)))
      (next_in sm 17 x ws q _ (omega arith))
      (slave_by ss _ _ (quiet_at w (holding ws q vs r)).s (begun (chosen 17 true (shifted 8 false 0 (cut 8 w))) y) (chosen 17 true y) hidden (slave_takes 0 (cut 8 w) (front vs)) (ended _) refl)
      (calm (rest vs) r 17 true y hidden true false true refl) refl)

  module _ (w v : ℕ) (k : Queues) (m : b ≤ 16) where
    show_slot : (j i : ℕ) (d : Bool) (l : Lines) → i ≡ 2 * j + 17 → j < b
        → Slot sm ss (risen_at w v k j i d l) (record { tx = k.mtx; rx = k.mrx; engine = sending (i + 1) (shifted j false w (top b v j)); lines = waiting false }) (shown_at w v k j (i + 1))
    unfolding wire event_of last_slot driven
    show_slot j i d l e g =
        let x = shifted j false w (top b v j) in
        let y = shifted 0 (bit_of b v j) v 0 in
        let z = shown_at w v k j (i + 1) in
        slot_of sm ss (risen_at w v k j i d l) (record { tx = k.mtx; rx = k.mrx; engine = sending (i + 1) x; lines = waiting false }) z.m z.s z.s
        (acted_by sm (i + 1) x k.mtx k.mrx _ _ _ Pause (no_word (sending (i + 1) x)) (microwire-low b (i + 1) j (omega arith) g) refl (lines_at_lem (i + 1) x false true (microwire_levels_low (i + 1) (j + 1) (omega arith))))
        (next_in sm (i + 1) x k.mtx k.mrx _ (omega arith))
        (slave_by ss _ _ (risen_at w v k j i d l).s (no_word (chosen (i + 1) true y)) (chosen (i + 1) true y) (shown (bit_of b v j)) (slave_drives i j (shifted 0 d v 0) _ e g) (ended _) (lines_shown (i + 1) true y (omega arith)))
        (calm k.stx k.srx (i + 1) true y (shown (bit_of b v j)) false false true (lines_shown (i + 1) true y (omega arith))) refl

    capture_slot : (j i : ℕ) → i ≡ 2 * j + 18 → j + 1 < b
        → Slot sm ss (shown_at w v k j i) (record { tx = k.mtx; rx = k.mrx; engine = sending (i + 1) (shifted (j + 1) false w (top b v (j + 1))); lines = waiting true }) (risen_at w v k (j + 1) (i + 1) (bit_of b v j) (shown (bit_of b v j)))
    unfolding wire event_of last_slot data_bit
    capture_slot j i e g =
        let x0 = shifted j false w (top b v j) in
        let x = shifted (j + 1) false w (top b v (j + 1)) in
        let y = shifted 0 (bit_of b v j) v 0 in
        let z = risen_at w v k (j + 1) (i + 1) (bit_of b v j) (shown (bit_of b v j)) in
        slot_of sm ss (shown_at w v k j i) (record { tx = k.mtx; rx = k.mrx; engine = sending (i + 1) x; lines = waiting true }) z.m z.s z.s
        (acted_by sm (i + 1) x0 k.mtx k.mrx _ _ (bit_of b v j && true) Capture (no_word (sending (i + 1) x)) (microwire_capture b (i + 1) j (omega arith) (omega arith))
        (capture_in b (bit_of b v j && true) (sending (i + 1) x0) g ∙ ap (λ (r : ℕ). no_word (sending (i + 1) (shifted (j + 1) false w r))) (next_bit b v j (omega arith) m))
        (lines_at_lem (i + 1) x true true (microwire_levels_high (i + 1) (j + 1) (omega arith))))
        (next_in sm (i + 1) x k.mtx k.mrx _ (omega arith))
        (slave_by ss _ _ (shown_at w v k j i).s (no_word (chosen (i + 1) true y)) (chosen (i + 1) true y) (shown (bit_of b v j)) (slave_rises i j y _ false e (omega arith) (lt-leb (17 + 2 * b) (i + 1) (omega arith))) (ended _) (lines_shown (i + 1) true y (omega arith)))
        (calm k.stx k.srx (i + 1) true y (shown (bit_of b v j)) true false true (lines_shown (i + 1) true y (omega arith))) refl

    data-run : (n j d i o : ℕ) → j + n ≡ d → i + 2 * n ≡ o → i ≡ 2 * j + 18 → d < b → Trace (LiveSlot sm ss) (slot_step sm ss) (2 * n) (shown_at w v k j i) (shown_at w v k d o)
    data-run zero j d i o p q e l = trace_end none (ap₂ (shown_at w v k) (omega arith) (omega arith))
    data-run (suc n) j d i o p q e l =
        trace_count (omega arith)
        (slot_then (capture_slot j i e (omega arith)) refl
        (slot_then (show_slot (j + 1) (i + 1) (bit_of b v j) (shown (bit_of b v j)) (omega arith) (omega arith)) refl
        (data-run n (j + 1) d (i + 1 + 1) o (omega arith) (omega arith) (omega arith) l)))

    abbrev answered : Queues
    answered = record { mtx = k.mtx; mrx = push (cut b v) k.mrx; stx = k.stx; srx = k.srx }

    -- the last data bit
    last_slot_lem : (j i : ℕ) → i ≡ 2 * j + 18 → j + 1 ≡ b
        → Slot sm ss (shown_at w v k j i) (record { tx = k.mtx; rx = push (cut b v) k.mrx; engine = sending (i + 1) (shifted (j + 1) false w (cut b v)); lines = waiting true }) (done_at w v answered j (i + 1))
    unfolding wire event_of last_slot data_bit
    last_slot_lem j i e g =
        let x0 = shifted j false w (top b v j) in
        let x = shifted (j + 1) false w (cut b v) in
        let y = shifted 0 (bit_of b v j) v 0 in
        let z = done_at w v answered j (i + 1) in
        slot_of sm ss (shown_at w v k j i) (record { tx = k.mtx; rx = push (cut b v) k.mrx; engine = sending (i + 1) x; lines = waiting true }) z.m z.s z.s
        (acted_by sm (i + 1) x0 k.mtx k.mrx _ _ (bit_of b v j && true) Capture (completed (sending (i + 1) x0) (cut b v)) (microwire_capture b (i + 1) j (omega arith) (omega arith))
        (capture_last b (bit_of b v j && true) (sending (i + 1) x0) v g (last_bit_lem b v j g m))
        (lines_at_lem (i + 1) x true true (microwire_levels_high (i + 1) (j + 1) (omega arith))))
        (next_in sm (i + 1) x k.mtx (push (cut b v) k.mrx) _ (omega arith))
        (slave_by ss _ _ (shown_at w v k j i).s (no_word (chosen (i + 1) false y)) (chosen (i + 1) false y) (shown (bit_of b v j)) (slave_rises i j y _ true e (omega arith) (le-leb (17 + 2 * b) (i + 1) (omega arith))) (ended _) (lines_shown (i + 1) false y (omega arith)))
        (calm k.stx k.srx (i + 1) false y (shown (bit_of b v j)) true false true (lines_shown (i + 1) false y (omega arith))) refl

  -- A load ---------------------------------------------------------------------------------------------------------------

  -- the fall of slot 2b + 18 ends the last data bit; a waiting word begins there
  chain_slot : (w v u : ℕ) (ws : List ℕ) (q : Receiver) (vs : List ℕ) (r : Receiver) (j i : ℕ) → i ≡ 2 * b + 17 → Slot sm ss (done_at w v (holding (u ∷ ws) q vs r) j i) (opened u ws q) (driven_at u (holding ws q vs r) false 0 1)
  unfolding wire event_of last_slot slave_lines width_of started
  chain_slot w v u ws q vs r j i e =
      let k = holding (u ∷ ws) q vs r in
      let x0 = shifted (j + 1) false w (cut b v) in
      let x = shifted 0 (bit_of 8 u 0) u 0 in
      let y : Side = record { tx = vs; rx = r; engine = ready; lines = hidden } in
      rw (top_zero 8 u)
      (slot_of sm ss (done_at w v k j i) (opened u ws q) (record { tx = ws; rx = q; engine = sending 1 x; lines = in_frame false (bit_of 8 u 0) }) y y
      (acted_by sm (i + 1) x0 (u ∷ ws) q _ _ (bit_of b v j && true) (Chain (slots 0)) (begun (sending 0 x0) x) (microwire_chain b (i + 1) (omega arith))
      (ap (λ (t : Bool). pick t (begun (sending 0 x0) x) (no_word (sending (i + 1) x0))) (waits_cons u ws))
      (lines_at_lem 0 x false false (microwire_levels_even 0 0 refl (omega arith))))
      (next_in sm 0 x ws q _ (omega arith))
      (slave_by ss _ _ (done_at w v k j i).s (no_word ready) ready hidden (slave_ends i (shifted 0 (bit_of b v j) v 0) (bit_of 8 u 0) false _ e) (ended _) refl)
      (calm vs r 0 false (shifted 0 false 0 0) hidden false (bit_of 8 u 0) false refl) refl)

  -- with none waiting the lines stay LOW
  hold_slot : (w v : ℕ) (q : Receiver) (vs : List ℕ) (r : Receiver) (j i : ℕ) → i ≡ 2 * b + 17
      → Slot sm ss (done_at w v (holding [] q vs r) j i) (record { tx = []; rx = q; engine = sending (i + 1) (shifted (j + 1) false w (cut b v)); lines = waiting false }) (over_at (shifted (j + 1) false w (cut b v)) (holding [] q vs r) (i + 1 + 1))
  unfolding wire event_of last_slot slave_lines
  hold_slot w v q vs r j i e =
      let k = holding [] q vs r in
      let x = shifted (j + 1) false w (cut b v) in
      let z = over_at x k (i + 1 + 1) in
      slot_of sm ss (done_at w v k j i) (record { tx = []; rx = q; engine = sending (i + 1) x; lines = waiting false }) z.m z.s z.s
      (acted_by sm (i + 1) x [] q _ _ (bit_of b v j && true) (Chain (slots 0)) (no_word (sending (i + 1) x)) (microwire_chain b (i + 1) (omega arith)) refl (lines_at_lem (i + 1) x false true (microwire_levels_low (i + 1) (b + 1) (omega arith))))
      (next_in sm (i + 1) x [] q _ (omega arith))
      (slave_by ss _ _ (done_at w v k j i).s (no_word ready) ready hidden (slave_ends i (shifted 0 (bit_of b v j) v 0) false true _ e) (ended _) refl)
      (calm vs r 0 false (shifted 0 false 0 0) hidden false false true refl) refl

  pub stays_idle_microwire : StaysIdle Microwire phase b h
  unfolding slave_step microwire_slave wire
  stays_idle_microwire n = refl

  goes_idle : (k : Queues) → GoesIdle Microwire phase b h k (waiting false) (record { tx = k.stx; rx = k.srx; engine = ready; lines = hidden })
  unfolding wire slave_lines slave_end slave_step microwire_slave slave_side
  goes_idle k = refl

  module _ (l : 0 < b) (m : b ≤ 16) where
    -- a word from each side, from the master's first bit on the line to the slave's last
    word_run : (w : ℕ) (ws : List ℕ) (q : Receiver) (vs : List ℕ) (r : Receiver)
        → Trace (LiveSlot sm ss) (slot_step sm ss) (2 * b + 17) (driven_at w (holding ws q vs r) false 0 1) (done_at w (front vs) (holding ws (push (cut b (front vs)) q) (rest vs) (push (cut 8 w) r)) (b - 1) (2 * b + 17))
    word_run w ws q vs r =
        let v = front vs in
        let r' = push (cut 8 w) r in
        let k = holding ws q (rest vs) r' in
        trace_count (omega arith)
        (trace_then (byte_run w (holding ws q vs r))
        (slot_then (quiet_slot w (holding ws q vs r')) refl
        (slot_then (take_slot w ws q vs r') refl
        (slot_then (show_slot w v k m 0 17 (bit_of b v 0) hidden refl l) refl
        (trace_then (data-run w v k m (b - 1) 0 (b - 1) 18 (2 * b + 16) (omega arith) (omega arith) refl (omega arith))
        (slot_then (last_slot_lem w v k m (b - 1) (2 * b + 16) (omega arith) (omega arith)) refl
        (trace_end none (ap (done_at w v (holding ws (push (cut b v) q) (rest vs) r') (b - 1)) (omega arith)))))))))

    -- the last word is through, and no other has followed
    abbrev final_at : ℕ → Receiver → List ℕ → Receiver → Two
    final_at w q vs r = over_at (shifted (b - 1 + 1) false w (cut b (front vs))) (holding [] (push (cut b (front vs)) q) (rest vs) (push (cut 8 w) r)) (2 * b + 19)

    words-run : (w : ℕ) (ws : List ℕ) (q : Receiver) (vs : List ℕ) (r : Receiver)
        → Trace (LiveSlot sm ss) (slot_step sm ss) (suc (length ws) * (2 * b + 18)) (driven_at w (holding ws q vs r) false 0 1) (last_of b 8 final_at w ws q vs r)
    words-run w [] q vs r =
        let v = front vs in
        let k = holding [] (push (cut b v) q) (rest vs) (push (cut 8 w) r) in
        trace_count (omega arith)
        (trace_then (word_run w [] q vs r)
        (slot_then (hold_slot w v (push (cut b v) q) (rest vs) (push (cut 8 w) r) (b - 1) (2 * b + 17) refl) refl
        (trace_end none (ap (over_at (shifted (b - 1 + 1) false w (cut b v)) k) (omega arith)))))
    words-run w (u ∷ ws) q vs r =
        let v = front vs in
        trace_count (omega arith)
        (trace_then (word_run w (u ∷ ws) q vs r)
        (slot_then (chain_slot w v u ws (push (cut b v) q) (rest vs) (push (cut 8 w) r) (b - 1) (2 * b + 17) refl) refl
        (words-run u ws (push (cut b v) q) (rest vs) (push (cut 8 w) r))))

    load-run : (w : ℕ) (ws : List ℕ) (q : Receiver) (vs : List ℕ) (r : Receiver)
        → Trace (LiveSlot sm ss) (slot_step sm ss) (suc (length ws) * (2 * b + 18) + 1) (starts hidden (holding (w ∷ ws) q vs r)) (last_of b 8 final_at w ws q vs r)
    load-run w ws q vs r = trace_count (omega arith) (slot_then (open_slot w ws q vs r) refl (words-run w ws q vs r))

    final_ever : 6 ≤ h → (w : ℕ) (q : Receiver) (vs : List ℕ) (r : Receiver) (i : ℕ) → Holds (push (cut b (front vs)) q) (push (cut 8 w) r) (iterate i (core_cycle sm ss) (rested (final_at w q vs r)))
    unfolding event_of last_slot slave_lines
    final_ever six w q vs r =
        let q' = push (cut b (front vs)) q in
        let r' = push (cut 8 w) r in
        let n = 2 * b + 19 in
        release.ever Microwire phase b h stays_idle_microwire (lawful_microwire phase b h) six q' (rest vs) r' n _ _ _ (microwire_release b n refl) (omega arith) (omega arith) (goes_idle (holding [] q' (rest vs) r'))
        (calm (rest vs) r' 0 false (shifted 0 false 0 0) hidden false false true refl) refl

    pub exchange : 6 ≤ h → Exchange (plain Microwire phase b h false) (plain Microwire phase b h true) hidden (λ n. suc n * (2 * b + 18) + 1)
    unfolding width_of
    exchange k = record { final = final_at; run = load-run; ever = final_ever k }
