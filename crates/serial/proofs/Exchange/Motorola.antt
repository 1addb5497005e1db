-- Motorola: a word from each side, bit by bit, for both phases at once.
use Prim.Native.Nat.{ℕ, zero, suc, ◌+◌, ◌-◌, ◌*◌, ◌≤◌, ◌<◌}
use mathlib.Core.Path.{◌≡◌, refl, ap, ap₂, ◌∙◌}
use mathlib.Core.Bool.{Bool, true, false, not, ◌&&◌}
use mathlib.Core.List.{List}
use native.Mathlib.Omega.{arith}
use borrow.Author.Tests.{le-leb, lt-leb, lt-ltb}
use Rattle.registers.specs.declared.settings.Format.TheVariants.{Motorola}
use Rattle.registers.specs.declared.settings.Settings.{Settings}
use Rattle.frames.specs.Bits.{bit_of, cut}
use Rattle.frames.specs.Engine.{with_shift, no_word, driven, capture_step, cleared, with_frame, with_selected}
use Rattle.frames.specs.Slots.{event_of, last_slot, width_of, motorola_levels, levels_of}
use Rattle.frames.specs.Lines.{master_lines, slave_lines, frame_lines, master_txd}
use Rattle.frames.specs.Master.{data_bit}
use Rattle.serial.specs.Slave.{slave_step, slave_end, motorola_slave, motorola_select, motorola_edges, motorola_clock, capture_edge, drive_edge}
use Rattle.serial.specs.Pair.{wire}
use Rattle.serial.proofs.WithinSlot.{sending, shifted}
use Rattle.serial.proofs.Trace.{Trace, none, trace_count, trace_end, trace_then}
use Rattle.serial.proofs.Top.{top}
use Rattle.serial.proofs.Exchange.Core.{Receiver, Side, plain, push, slave_side}
use Rattle.serial.proofs.Exchange.Settle.{Two, slot_step}
use Rattle.serial.proofs.Events.{motorola_drive, motorola_capture, low_at, levels_drive, levels_capture}
use Rattle.frames.specs.declared.engine.Engine.{Engine}
use Rattle.frames.specs.declared.engine.Shift.{Shift}
use Rattle.frames.specs.declared.slots.Levels.{Levels}
use Rattle.frames.specs.declared.slots.Event.TheVariants.{Drive, Capture}
use Rattle.serial.proofs.Exchange.Moves.{Queues, in_frame, shown, acted_by, next_in, capture_in, completed, capture_last, received, next_bit, last_bit_lem, slave_by, Slot, slot_of, LiveSlot, slot_then}
use Rattle.serial.proofs.Exchange.Quiet.{quiet-low}

-- a slave's engine while it is selected
abbrev pub chosen : Bool → Shift → Engine
chosen f x = with_selected (with_frame cleared f x) true

module _ (phase : Bool) (b h : ℕ) where
  abbrev pub sm : Settings
  sm = plain Motorola phase b h false

  abbrev pub ss : Settings
  ss = plain Motorola phase b h true

  abbrev pub step : Two → Two
  step = slot_step (plain Motorola phase b h false) (plain Motorola phase b h true)

  -- c bits are through, and both have the next one on their lines; the next slot is n
  abbrev pub driven_at : ℕ → ℕ → Queues → ℕ → ℕ → Two
  driven_at w v k c n =
      record {
        m = record { tx = k.mtx; rx = k.mrx; engine = sending n (shifted c (bit_of b w c) w (top b v c)); lines = in_frame phase (bit_of b w c) };
        s = record { tx = k.stx; rx = k.srx; engine = chosen true (shifted c (bit_of b v c) v (top b w c)); lines = shown (bit_of b v c) };
      }

  -- the same after the capture
  abbrev pub captured_at : ℕ → ℕ → Queues → ℕ → ℕ → Two
  captured_at w v k c n =
      record {
        m = record { tx = k.mtx; rx = k.mrx; engine = sending n (shifted (c + 1) (bit_of b w c) w (top b v (c + 1))); lines = in_frame (not phase) (bit_of b w c) };
        s = record { tx = k.stx; rx = k.srx; engine = chosen true (shifted (c + 1) (bit_of b v c) v (top b w (c + 1))); lines = shown (bit_of b v c) };
      }

-- The master's lines in a frame, and the slave's.
pub lines_at_lem : (phase : Bool) (b h n : ℕ) (x : Shift) (c : Bool) → 0 < n → motorola_levels phase b n ≡ low_at c → master_lines (sm phase b h) (sending n x) ≡ in_frame c x.level
unfolding master_lines master_txd levels_of frame_lines
lines_at_lem phase b h n x true p e = ap₂ (λ (v : Levels) (t : Bool). frame_lines (sm phase b h) v (t && x.level)) e (lt-ltb 0 n p)
lines_at_lem phase b h n x false p e = ap₂ (λ (v : Levels) (t : Bool). frame_lines (sm phase b h) v (t && x.level)) e (lt-ltb 0 n p)

-- in slot 0 TXD is LOW
pub lines_first : (phase : Bool) (b h : ℕ) (x : Shift) → motorola_levels phase b 0 ≡ low_at false → master_lines (sm phase b h) (sending 0 x) ≡ in_frame false false
unfolding master_lines master_txd levels_of frame_lines
lines_first phase b h x e = ap (λ (v : Levels). frame_lines (sm phase b h) v false) e

-- At a capture edge a slave in a word captures; at the other edge it drives the next bit.
slave_captures : (phase : Bool) (b h : ℕ) (x : Shift) (d d' : Bool) (n : ℕ) → slave_step (ss phase b h) (chosen true x) (wire (in_frame phase d)) (wire (in_frame (not phase) d')) n ≡ capture_step b (d' && true) (chosen true x)
unfolding slave_step motorola_slave motorola_select motorola_edges capture_edge drive_edge motorola_clock data_bit wire
slave_captures true b h x d d' n = refl
slave_captures false b h x d d' n = refl

slave_drives : (phase : Bool) (b h : ℕ) (x : Shift) (d d' : Bool) (n : ℕ) → slave_step (ss phase b h) (chosen true x) (wire (in_frame (not phase) d)) (wire (in_frame phase d')) n ≡ no_word (with_shift (chosen true x) (driven b x.captured x))
unfolding slave_step motorola_slave motorola_select motorola_edges capture_edge drive_edge motorola_clock data_bit wire
slave_drives true b h x d d' n = refl
slave_drives false b h x d d' n = refl

-- a slave in a word goes on with it
pub in_word : (phase : Bool) (b h : ℕ) (x : Shift) → x.captured < b → slave_end (ss phase b h) (chosen true x) ≡ chosen true x
unfolding slave_end
in_word phase b h x l = rw (lt-leb b x.captured l)

-- a selected slave that sees no edge stays as it is
pub calm : (phase : Bool) (b h : ℕ) (tx : List ℕ) (rx : Receiver) (f : Bool) (x : Shift) (c d d' : Bool) → slave_end (ss phase b h) (chosen f x) ≡ chosen f x
    → slave_side (ss phase b h) (wire (in_frame c d)) (wire (in_frame c d')) (record { tx = tx; rx = rx; engine = chosen f x; lines = shown x.level })
    ≡ record { tx = tx; rx = rx; engine = chosen f x; lines = shown x.level }
unfolding wire slave_lines
calm phase b h tx rx f x c d d' e =
    slave_by (ss phase b h) _ _ (record { tx = tx; rx = rx; engine = chosen f x; lines = shown x.level }) (no_word (chosen f x)) (chosen f x) (shown x.level) (quiet-low phase b h c (d && true) (d' && true) (chosen f x) _) e refl

module _ (phase : Bool) (b h w v : ℕ) (k : Queues) (m : b ≤ 16) where
  abbrev capturing : ℕ → ℕ → Side
  capturing c n = record { tx = k.mtx; rx = k.mrx; engine = sending n (shifted (c + 1) (bit_of b w c) w (top b v (c + 1))); lines = in_frame (not phase) (bit_of b w c) }

  -- a bit is captured on both sides
  capture_slot : (c n : ℕ) → n ≡ 2 * c + 2 → c + 1 < b → Slot (sm phase b h) (ss phase b h) (driven_at phase b h w v k c n) (capturing c n) (captured_at phase b h w v k c (n + 1))
  unfolding event_of data_bit wire last_slot slave_lines
  capture_slot c n e l =
      let x = shifted (c + 1) (bit_of b w c) w (top b v (c + 1)) in
      let x' = shifted (c + 1) (bit_of b v c) v (top b w (c + 1)) in
      slot_of (sm phase b h) (ss phase b h) (driven_at phase b h w v k c n) (capturing c n) (captured_at phase b h w v k c (n + 1)).m (captured_at phase b h w v k c (n + 1)).s (captured_at phase b h w v k c (n + 1)).s
      (acted_by (sm phase b h) n (shifted c (bit_of b w c) w (top b v c)) k.mtx k.mrx _ _ (bit_of b v c && true) Capture (no_word (sending n x)) (motorola_capture phase b n c e (omega arith))
      (capture_in b (bit_of b v c && true) (sending n (shifted c (bit_of b w c) w (top b v c))) l ∙ ap (λ (r : ℕ). no_word (sending n (shifted (c + 1) (bit_of b w c) w r))) (next_bit b v c (omega arith) m))
      (lines_at_lem phase b h n x (not phase) (omega arith) (levels_capture phase b n c e (omega arith))))
      (next_in (sm phase b h) n x k.mtx k.mrx _ (omega arith))
      (slave_by (ss phase b h) _ _ (driven_at phase b h w v k c n).s (no_word (chosen true x')) (chosen true x') (shown (bit_of b v c))
      (slave_captures phase b h (shifted c (bit_of b v c) v (top b w c)) (bit_of b w c) (bit_of b w c) _
      ∙ capture_in b (bit_of b w c && true) (chosen true (shifted c (bit_of b v c) v (top b w c))) l ∙ ap (λ (r : ℕ). no_word (chosen true (shifted (c + 1) (bit_of b v c) v r))) (next_bit b w c (omega arith) m))
      (in_word phase b h x' l) refl)
      (calm phase b h k.stx k.srx true x' (not phase) (bit_of b w c) (bit_of b w c) (in_word phase b h x' l)) refl

  abbrev driving : ℕ → ℕ → Side
  driving c n = record { tx = k.mtx; rx = k.mrx; engine = sending n (shifted (c + 1) (bit_of b w (c + 1)) w (top b v (c + 1))); lines = in_frame phase (bit_of b w (c + 1)) }

  -- the next bit goes on both lines
  drive_slot : (c n : ℕ) → n ≡ 2 * (c + 1) + 1 → c + 1 < b → Slot (sm phase b h) (ss phase b h) (captured_at phase b h w v k c n) (driving c n) (driven_at phase b h w v k (c + 1) (n + 1))
  unfolding event_of data_bit wire last_slot width_of slave_lines driven
  drive_slot c n e l =
      let x = shifted (c + 1) (bit_of b w (c + 1)) w (top b v (c + 1)) in
      let x' = shifted (c + 1) (bit_of b v (c + 1)) v (top b w (c + 1)) in
      slot_of (sm phase b h) (ss phase b h) (captured_at phase b h w v k c n) (driving c n) (driven_at phase b h w v k (c + 1) (n + 1)).m (driven_at phase b h w v k (c + 1) (n + 1)).s (driven_at phase b h w v k (c + 1) (n + 1)).s
      (acted_by (sm phase b h) n (shifted (c + 1) (bit_of b w c) w (top b v (c + 1))) k.mtx k.mrx _ _ (bit_of b v c && true) (Drive (c + 1)) (no_word (sending n x)) (motorola_drive phase b n (c + 1) e l) refl
      (lines_at_lem phase b h n x phase (omega arith) (levels_drive phase b n (c + 1) e l)))
      (next_in (sm phase b h) n x k.mtx k.mrx _ (omega arith))
      (slave_by (ss phase b h) _ _ (captured_at phase b h w v k c n).s (no_word (chosen true x')) (chosen true x') (shown (bit_of b v (c + 1)))
      (slave_drives phase b h (shifted (c + 1) (bit_of b v c) v (top b w (c + 1))) (bit_of b w c) (bit_of b w (c + 1)) _)
      (in_word phase b h x' l) refl)
      (calm phase b h k.stx k.srx true x' phase (bit_of b w (c + 1)) (bit_of b w (c + 1)) (in_word phase b h x' l)) refl

  -- from bit c on the lines to bit d: j more bits
  bits_run : (j c d n o : ℕ) → c + j ≡ d → n + 2 * j ≡ o → n ≡ 2 * c + 2 → d < b
      → Trace (LiveSlot (sm phase b h) (ss phase b h)) (step phase b h) (2 * j) (driven_at phase b h w v k c n) (driven_at phase b h w v k d o)
  bits_run zero c d n o p q e l = trace_end none (ap₂ (driven_at phase b h w v k) (omega arith) (omega arith))
  bits_run (suc j) c d n o p q e l =
      trace_count (omega arith)
      (slot_then (capture_slot c n e (omega arith)) refl
      (slot_then (drive_slot c (n + 1) (omega arith) (omega arith)) refl
      (bits_run j (c + 1) d (n + 1 + 1) o (omega arith) (omega arith) (omega arith) l)))

-- after a word's last capture, of bit c; the clock's level is given
abbrev pub filled_at : ℕ → ℕ → ℕ → Queues → ℕ → Bool → ℕ → Two
filled_at b w v k c clk n =
    record {
      m = record { tx = k.mtx; rx = k.mrx; engine = sending n (shifted (c + 1) (bit_of b w c) w (cut b v)); lines = in_frame clk (bit_of b w c) };
      s = record { tx = k.stx; rx = k.srx; engine = chosen false (shifted (c + 1) (bit_of b v c) v (cut b w)); lines = shown (bit_of b v c) };
    }

pub ended : (phase : Bool) (b h : ℕ) (x : Shift) → slave_end (ss phase b h) (chosen false x) ≡ chosen false x
unfolding slave_end
ended phase b h x = refl

module _ (phase : Bool) (b h w v : ℕ) (k : Queues) (m : b ≤ 16) where
  abbrev full : ℕ → ℕ → Side
  full c n = record { tx = k.mtx; rx = push (cut b v) k.mrx; engine = sending n (shifted (c + 1) (bit_of b w c) w (cut b v)); lines = in_frame (not phase) (bit_of b w c) }

  -- the last bit is captured on both sides
  last_slot_lem : (c n : ℕ) → n ≡ 2 * c + 2 → c + 1 ≡ b → Slot (sm phase b h) (ss phase b h) (driven_at phase b h w v k c n) (full c n) (filled_at b w v (received b b w v k) c (not phase) (n + 1))
  unfolding event_of data_bit wire last_slot slave_lines slave_end
  last_slot_lem c n e l =
      let x = shifted (c + 1) (bit_of b w c) w (cut b v) in
      let x' = shifted (c + 1) (bit_of b v c) v (cut b w) in
      let z = filled_at b w v (received b b w v k) c (not phase) (n + 1) in
      slot_of (sm phase b h) (ss phase b h) (driven_at phase b h w v k c n) (full c n) z.m z.s z.s
      (acted_by (sm phase b h) n (shifted c (bit_of b w c) w (top b v c)) k.mtx k.mrx _ _ (bit_of b v c && true) Capture
      (completed (sending n (shifted c (bit_of b w c) w (top b v c))) (cut b v)) (motorola_capture phase b n c e (omega arith))
      (capture_last b (bit_of b v c && true) (sending n (shifted c (bit_of b w c) w (top b v c))) v l (last_bit_lem b v c l m))
      (lines_at_lem phase b h n x (not phase) (omega arith) (levels_capture phase b n c e (omega arith))))
      (next_in (sm phase b h) n x k.mtx (push (cut b v) k.mrx) _ (omega arith))
      (slave_by (ss phase b h) _ _ (driven_at phase b h w v k c n).s (completed (chosen true (shifted c (bit_of b v c) v (top b w c))) (cut b w)) (chosen false x') (shown (bit_of b v c))
      (slave_captures phase b h (shifted c (bit_of b v c) v (top b w c)) (bit_of b w c) (bit_of b w c) _
      ∙ capture_last b (bit_of b w c && true) (chosen true (shifted c (bit_of b v c) v (top b w c))) w l (last_bit_lem b w c l m))
      (rw (le-leb b (c + 1) (omega arith))) refl)
      (calm phase b h k.stx (push (cut b w) k.srx) false x' (not phase) (bit_of b w c) (bit_of b w c) (ended phase b h x')) refl

  -- a word, from its first bit on the lines to its last capture
  pub word_run : 0 < b → Trace (LiveSlot (sm phase b h) (ss phase b h)) (step phase b h) (2 * b - 1) (driven_at phase b h w v k 0 2) (filled_at b w v (received b b w v k) (b - 1) (not phase) (2 * b + 1))
  word_run l =
      trace_count (omega arith)
      (trace_then (bits_run phase b h w v k m (b - 1) 0 (b - 1) 2 (2 * b) (omega arith) (omega arith) (omega arith) (omega arith))
      (slot_then (last_slot_lem (b - 1) (2 * b) (omega arith) (omega arith)) refl none))
