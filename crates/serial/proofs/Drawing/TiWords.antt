-- A TI master alone draws its load.
use Prim.Native.Nat.{ℕ, suc, ◌+◌, ◌-◌, ◌*◌, ◌<◌}
use mathlib.Core.Path.{◌≡◌, refl, ap, ◌∙◌}
use mathlib.Core.Bool.{Bool, true, false, not, ◌&&◌}
use mathlib.Core.List.{List, [], ◌∷◌}
use native.Mathlib.Omega.{arith}
use lib.Dec.{eqb}
use borrow.Author.Tests.{ne_eqb}
use Rattle.registers.proofs.Picks.{pick_no}
use Rattle.registers.specs.declared.settings.Format.TheVariants.{Ti}
use Rattle.registers.specs.declared.settings.Settings.{Settings}
use Rattle.frames.specs.Bits.{bit_of}
use Rattle.frames.specs.Engine.{clear_shift, started, driven}
use Rattle.frames.specs.Slots.{event_of, ti_event, last_slot, width_of, ti_levels, levels_of}
use Rattle.frames.specs.Lines.{master_lines, frame_lines, master_txd}
use Rattle.frames.specs.Master.{joined_shift, join_step}
use Rattle.serial.proofs.Cycles.{waits_cons}
use Rattle.serial.proofs.WithinSlot.{sending, shifted}
use Rattle.serial.proofs.Events.{low_at, ti_drive, ti_capture, ti_last, ti_levels_even, ti_levels_odd}
use Rattle.serial.specs.Drawing.{low, bit_lines, marked, held, joined, frames_ti}
use Rattle.serial.proofs.Unreceived.{step_without_received}
use Rattle.serial.proofs.Drawing.Solo.{Solo}
use Rattle.serial.proofs.Drawing.Slot.{fixed, solo, on, rest_at, Slot, Draws, slot_on, slot_last, slot_start, capture_move, word_run, Last, last, Until, until_done, until_draw, until_then}
use Rattle.frames.specs.declared.engine.Shift.{Shift}
use Rattle.frames.specs.declared.slots.Levels.{Levels}
use Rattle.frames.specs.declared.slots.Event.TheVariants.{Begin, Drive, First, Capture, JoinDrive, JoinCapture}

module _ (s : Settings) (phase : Bool) where
  abbrev S : Settings
  S = fixed Ti phase s

  abbrev b : ℕ
  b = s.bits

  lines_at_lem : (n c : ℕ) (d : Bool) (w : ℕ) (v : Levels) → ti_levels (not (eqb c 0)) n ≡ v
      → master_lines S (sending n (shifted c d w 0)) ≡ record { clk = v.clk; fss = v.fss; txd = not v.released && d; released = v.released }
  unfolding master_lines master_txd levels_of frame_lines
  lines_at_lem n c d w v e = ap (λ (u : Levels). frame_lines S u (not u.released && d)) e

  -- slots 0 and 1 of a first word
  begin_slot : (x : Shift) (w : ℕ) (tx : List ℕ) → Slot S (solo (w ∷ tx) (rest_at x)) (marked true) (on 1 0 false w tx)
  unfolding event_of ti_event last_slot ti_levels
  begin_slot x w tx = slot_start S x w tx Begin false (marked true) refl refl (lines_at_lem 0 0 false w _ refl) (omega arith)

  mark_slot : (w : ℕ) (tx : List ℕ) → 0 < b → Slot S (on 1 0 false w tx) (marked false) (on 2 0 false w tx)
  unfolding event_of ti_event last_slot ti_levels
  mark_slot w tx l = slot_on S 1 0 false w tx JoinCapture 1 0 false w false (marked false) 2 refl refl (lines_at_lem 1 0 false w _ refl) (omega arith) refl

  -- before bit c, and between its two slots
  abbrev st : ℕ → List ℕ → ℕ → Bool → Solo
  st w tx c d = on (2 * c + 2) c d w tx

  abbrev mid : ℕ → List ℕ → ℕ → Bool → Solo
  mid w tx c d = on (2 * c + 3) c d w tx

  first_slot : (w : ℕ) (tx : List ℕ) (c : ℕ) (d : Bool) → 1 < b → Slot S (on 2 c d w tx) (low S true (bit_of b w 0)) (mid w tx 0 (bit_of b w 0))
  unfolding event_of ti_event last_slot width_of started ti_levels
  first_slot w tx c d l = slot_on S 2 c d w tx First 2 0 (bit_of b w 0) w false (low S true (bit_of b w 0)) 3 refl refl (lines_at_lem 2 0 (bit_of b w 0) w _ refl) (omega arith) refl

  drive_slot : (w : ℕ) (tx : List ℕ) (c : ℕ) (d : Bool) → 0 < c → suc c < b → Slot S (st w tx c d) (low S true (bit_of b w c)) (mid w tx c (bit_of b w c))
  unfolding event_of last_slot width_of driven
  drive_slot w tx c d l m =
      slot_on S (2 * c + 2) c d w tx (Drive c) (2 * c + 2) c (bit_of b w c) w false (low S true (bit_of b w c)) (2 * c + 3)
      (ti_drive b (2 * c + 2) c refl l m) refl
      (lines_at_lem (2 * c + 2) c (bit_of b w c) w (low_at true) (ti_levels_even _ (2 * c + 2) c refl)) (omega arith) (omega arith)

  capture_slot : (w : ℕ) (tx : List ℕ) (c : ℕ) (d : Bool) → suc c < b → Slot S (mid w tx c d) (low S false d) (st w tx (c + 1) d)
  unfolding event_of last_slot
  capture_slot w tx c d l =
      slot_on S (2 * c + 3) c d w tx Capture (2 * c + 3) (c + 1) d w false (low S false d) (2 * (c + 1) + 2)
      (ti_capture b (2 * c + 3) c refl) (capture_move S b _ (2 * c + 3) c d w (omega arith))
      (lines_at_lem (2 * c + 3) (c + 1) d w (low_at false) (ti_levels_odd _ (2 * c + 3) c refl)) (omega arith) (omega arith)

  -- all bits but the last
  word_draws : 2 < b → (w : ℕ) (tx : List ℕ) (c : ℕ) (d : Bool)
      → Draws S (bit_lines (low S true) (low S false) b w 0 (b - 1)) (on 2 c d w tx) (st w tx (b - 1) (bit_of b w (b - 1 - 1)))
  word_draws l w tx c d =
      word_run S (low S true) (low S false) b w (b - 1) (st w tx) (mid w tx) (λ i y k m. drive_slot w tx i y k (omega arith)) (λ i m. capture_slot w tx i (bit_of b w i) (omega arith))
      (on 2 c d w tx) (b - 1) (omega arith) (omega arith) (first_slot w tx c d (omega arith))

  -- the last bit with no word waiting: the frame is over at the end of its second slot
  last_drive : 1 < b → (w : ℕ) (d : Bool) → Slot S (st w [] (b - 1) d) (low S true (bit_of b w (b - 1))) (mid w [] (b - 1) (bit_of b w (b - 1)))
  unfolding event_of last_slot width_of driven
  last_drive l w d =
      let n = 2 * (b - 1) + 2 in
      let y = bit_of b w (b - 1) in
      slot_on S n (b - 1) d w [] (JoinDrive (b - 1)) n (b - 1) y w false (low S true y) (2 * (b - 1) + 3)
      (ti_last b n (omega arith) l) refl
      (lines_at_lem n (b - 1) y w (low_at true) (ti_levels_even _ n (b - 1) refl)) (omega arith) (omega arith)

  last_capture : 1 < b → (w : ℕ) (d : Bool) → Slot S (mid w [] (b - 1) d) (low S false d) (solo [] (rest_at clear_shift))
  unfolding event_of last_slot
  last_capture l w d =
      let n = 2 * (b - 1) + 3 in
      slot_last S n (b - 1) d w [] Capture (b - 1 + 1) d w (low S false d)
      (ti_capture b n (b - 1) refl) (capture_move S b _ n (b - 1) d w (omega arith))
      (lines_at_lem n (b - 1 + 1) d w (low_at false) (ti_levels_odd _ n (b - 1) refl)) (omega arith)

  -- with a word waiting: these are its slots 0 and 1
  join_drive : 1 < b → (w : ℕ) (d : Bool) (u : ℕ) (tx : List ℕ)
      → Slot S (st w (u ∷ tx) (b - 1) d) (held true (bit_of b w (b - 1))) (on 1 (b - 1) (bit_of b w (b - 1)) u tx)
  unfolding event_of last_slot width_of joined_shift ti_levels
  join_drive l w d u tx =
      let n = 2 * (b - 1) + 2 in
      let y = bit_of b w (b - 1) in
      slot_on S n (b - 1) d w (u ∷ tx) (JoinDrive (b - 1)) 0 (b - 1) y u true (held true y) 1
      (ti_last b n (omega arith) l)
      (ap (λ (t : Bool). step_without_received (join_step S (sending n (shifted (b - 1) d w 0)) t u (b - 1))) (waits_cons u tx))
      (lines_at_lem 0 (b - 1) y u (record { clk = true; fss = true; released = false }) (ap (λ (t : Bool). ti_levels (not t) 0) (ne_eqb (b - 1) 0 (omega arith)))) (omega arith) refl

  join_capture_lem : 1 < b → (d : Bool) (u : ℕ) (tx : List ℕ) → Slot S (on 1 (b - 1) d u tx) (held false d) (on 2 (b - 1 + 1) d u tx)
  unfolding event_of ti_event last_slot ti_levels
  join_capture_lem l d u tx =
      slot_on S 1 (b - 1) d u tx JoinCapture 1 (b - 1 + 1) d u false (held false d) 2
      refl
      (ap step_without_received (pick_no _ _ (ne_eqb (b - 1) 0 (omega arith))) ∙ capture_move S b _ 1 (b - 1) d u (omega arith))
      (lines_at_lem 1 (b - 1 + 1) d u (record { clk = false; fss = true; released = false }) (ap (λ (t : Bool). ti_levels (not t) 1) (ne_eqb (b - 1 + 1) 0 (omega arith)))) (omega arith) refl

  joined_until : 2 < b → (w : ℕ) (ws : List ℕ) (c : ℕ) (d : Bool) → Until S (Last S) (joined S w ws) (on 2 c d w ws)
  joined_until l w [] c d =
      until_then (word_draws l w [] c d)
      (until_draw (last_drive (omega arith) w (bit_of b w (b - 1 - 1)))
      (until_done (last (2 * (b - 1) + 3) (b - 1) (bit_of b w (b - 1)) w refl (last_capture (omega arith) w (bit_of b w (b - 1))))))
  joined_until l w (u ∷ ws) c d =
      until_then (word_draws l w (u ∷ ws) c d)
      (until_draw (join_drive (omega arith) w (bit_of b w (b - 1 - 1)) u ws)
      (until_draw (join_capture_lem (omega arith) (bit_of b w (b - 1)) u ws)
      (joined_until l u ws (b - 1 + 1) (bit_of b w (b - 1)))))

  pub frames_ti_until : 2 < b → (x : Shift) (w : ℕ) (ws : List ℕ) → Until S (Last S) (frames_ti S (w ∷ ws)) (solo (w ∷ ws) (rest_at x))
  frames_ti_until l x w ws = until_draw (begin_slot x w ws) (until_draw (mark_slot w ws (omega arith)) (joined_until l w ws 0 false))
