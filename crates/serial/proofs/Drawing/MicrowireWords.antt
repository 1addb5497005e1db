-- A Microwire master alone draws its load.
use Prim.Native.Nat.{ℕ, zero, suc, ◌+◌, ◌*◌, ◌<◌}
use mathlib.Core.Path.{◌≡◌, refl, sym, ap}
use mathlib.Core.Bool.{Bool, true, false, not, ◌&&◌}
use mathlib.Core.List.{List, [], ◌∷◌}
use native.Mathlib.Omega.{arith}
use native.Mathlib.Numerals.{add-one}
use Rattle.registers.specs.Time.{slots}
use Rattle.registers.specs.declared.settings.Format.TheVariants.{Microwire}
use Rattle.registers.specs.declared.settings.Settings.{Settings}
use Rattle.frames.specs.Bits.{bit_of}
use Rattle.frames.specs.Engine.{started, driven}
use Rattle.frames.specs.Slots.{event_of, microwire_event, last_slot, width_of, microwire_levels, levels_of}
use Rattle.frames.specs.Lines.{master_lines, frame_lines, master_txd}
use Rattle.frames.specs.Master.{chain_step}
use Rattle.serial.specs.Drawing.{low, idle, bit_lines, quiet, quiets, chain_m, frames_m}
use Rattle.serial.proofs.Cycles.{waits_cons}
use Rattle.serial.proofs.WithinSlot.{sending, shifted}
use Rattle.serial.proofs.Events.{microwire_drive, microwire_hold, microwire_wait, microwire-low, microwire_capture, microwire_chain, microwire_release, low_levels, microwire_levels_even, microwire_levels_odd, microwire_levels_low, microwire_levels_high}
use Rattle.serial.proofs.Unreceived.{step_without_received}
use Rattle.serial.proofs.Drawing.Solo.{Solo}
use Rattle.serial.proofs.Drawing.Slot.{fixed, solo, on, rest_at, Slot, Draws, done, draw, draws_end, draws_same, slot_on, slot_start, capture_move, word_run, Over, over, Until, until_done, until_draw, until_then}
use Rattle.frames.specs.declared.engine.Shift.{Shift}
use Rattle.frames.specs.declared.slots.Levels.{Levels}
use Rattle.frames.specs.declared.slots.Event.TheVariants.{BeginDrive, Drive, Capture, Chain, Quiet, Pause}

-- Slots ------------------------------------------------------------------------------------------------------------------

module _ (s : Settings) (phase : Bool) where
  abbrev S : Settings
  S = fixed Microwire phase s

  abbrev b : ℕ
  b = s.bits

  lines_at_lem : (n c : ℕ) (d : Bool) (w : ℕ) (v : Levels) → microwire_levels n ≡ v
      → master_lines S (sending n (shifted c d w 0)) ≡ record { clk = v.clk; fss = v.fss; txd = not v.released && d; released = v.released }
  unfolding master_lines master_txd levels_of frame_lines
  lines_at_lem n c d w v e = ap (λ (u : Levels). frame_lines S u (not u.released && d)) e

  begin_slot : (x : Shift) (w : ℕ) (tx : List ℕ) → Slot S (solo (w ∷ tx) (rest_at x)) (low S false (bit_of 8 w 0)) (on 1 0 (bit_of 8 w 0) w tx)
  unfolding event_of microwire_event last_slot width_of started microwire_levels
  begin_slot x w tx = slot_start S x w tx BeginDrive (bit_of 8 w 0) (low S false (bit_of 8 w 0)) refl refl (lines_at_lem 0 0 (bit_of 8 w 0) w _ refl) (omega arith)

  -- before control bit c, and between its two slots
  abbrev st : ℕ → List ℕ → ℕ → Bool → Solo
  st w tx c d = on (2 * c) 0 d w tx

  abbrev mid : ℕ → List ℕ → ℕ → Bool → Solo
  mid w tx c d = on (2 * c + 1) 0 d w tx

  drive_slot : (w : ℕ) (tx : List ℕ) (c : ℕ) (d : Bool) → 0 < c → c < 8 → Slot S (st w tx c d) (low S false (bit_of 8 w c)) (mid w tx c (bit_of 8 w c))
  unfolding event_of last_slot width_of driven
  drive_slot w tx c d l m =
      slot_on S (2 * c) 0 d w tx (Drive c) (2 * c) 0 (bit_of 8 w c) w false (low S false (bit_of 8 w c)) (2 * c + 1)
      (microwire_drive b (2 * c) c refl l m) refl
      (lines_at_lem (2 * c) 0 (bit_of 8 w c) w (low_levels false false) (microwire_levels_even (2 * c) c refl m)) (omega arith) refl

  hold_slot : (w : ℕ) (tx : List ℕ) (c : ℕ) (d : Bool) → c < 8 → Slot S (mid w tx c d) (low S true d) (st w tx (c + 1) d)
  unfolding event_of last_slot
  hold_slot w tx c d m =
      slot_on S (2 * c + 1) 0 d w tx Pause (2 * c + 1) 0 d w false (low S true d) (2 * (c + 1))
      (microwire_hold b (2 * c + 1) c refl m) refl
      (lines_at_lem (2 * c + 1) 0 d w (low_levels true false) (microwire_levels_odd (2 * c + 1) c refl m)) (omega arith) (omega arith)

  -- the control bits, however the first comes on TXD
  control_draws : (w : ℕ) (tx : List ℕ) (x : Solo) → Slot S x (low S false (bit_of 8 w 0)) (on 1 0 (bit_of 8 w 0) w tx)
      → Draws S (bit_lines (low S false) (low S true) 8 w 0 8) x (on 16 0 (bit_of 8 w 7) w tx)
  control_draws w tx x k =
      word_run S (low S false) (low S true) 8 w 8 (st w tx) (mid w tx) (λ c d l m. drive_slot w tx c d l m) (λ c m. hold_slot w tx c (bit_of 8 w c) m) x 8 (omega arith) (omega arith) k

  -- the wait
  quiet_slot : (w : ℕ) (tx : List ℕ) (d : Bool) → Slot S (on 16 0 d w tx) (quiet false) (on 17 0 false w tx)
  unfolding event_of microwire_event last_slot microwire_levels
  quiet_slot w tx d = slot_on S 16 0 d w tx Quiet 16 0 false w false (quiet false) 17 refl refl (lines_at_lem 16 0 false w _ refl) (omega arith) refl

  wait_slot : (w : ℕ) (tx : List ℕ) → Slot S (on 17 0 false w tx) (quiet true) (on 18 0 false w tx)
  unfolding event_of last_slot microwire_levels
  wait_slot w tx = slot_on S 17 0 false w tx Pause 17 0 false w false (quiet true) 18 (microwire_wait b 17 refl) refl (lines_at_lem 17 0 false w _ refl) (omega arith) refl

  -- the data bits
  low_slot : (w : ℕ) (tx : List ℕ) (j : ℕ) → j < b → Slot S (on (2 * j + 18) j false w tx) (quiet false) (on (2 * j + 19) j false w tx)
  unfolding event_of last_slot
  low_slot w tx j m =
      slot_on S (2 * j + 18) j false w tx Pause (2 * j + 18) j false w false (quiet false) (2 * j + 19)
      (microwire-low b (2 * j + 18) j refl m) refl
      (lines_at_lem (2 * j + 18) j false w (low_levels false true) (microwire_levels_low (2 * j + 18) (j + 1) (omega arith))) (omega arith) (omega arith)

  capture_slot : (w : ℕ) (tx : List ℕ) (j : ℕ) → j < b → Slot S (on (2 * j + 19) j false w tx) (quiet true) (on (2 * (j + 1) + 18) (j + 1) false w tx)
  unfolding event_of last_slot
  capture_slot w tx j m =
      slot_on S (2 * j + 19) j false w tx Capture (2 * j + 19) (j + 1) false w false (quiet true) (2 * (j + 1) + 18)
      (microwire_capture b (2 * j + 19) j refl m) (capture_move S b _ (2 * j + 19) j false w m)
      (lines_at_lem (2 * j + 19) (j + 1) false w (low_levels true true) (microwire_levels_high (2 * j + 19) (j + 1) (omega arith))) (omega arith) (omega arith)

  data_draws : (w : ℕ) (tx : List ℕ) (i j : ℕ) → j + i ≡ b → Draws S (quiets i) (on (2 * j + 18) j false w tx) (on (2 * b + 18) b false w tx)
  data_draws w tx zero j e =
      let q : j ≡ b = omega arith in
      draws_end S done (ap (λ (k : ℕ). on (2 * k + 18) k false w tx) q)
  data_draws w tx (suc i) j e = draw (low_slot w tx j (omega arith)) (draw (capture_slot w tx j (omega arith)) (data_draws w tx i (j + 1) (omega arith)))

  wait_draws : (w : ℕ) (tx : List ℕ) (d : Bool) → Draws S (quiets (b + 1)) (on 16 0 d w tx) (on (2 * b + 18) b false w tx)
  wait_draws w tx d =
      draws_same S (draw (quiet_slot w tx d) (draw (wait_slot w tx) (data_draws w tx b 0 (omega arith)))) (ap quiets (sym (add-one b)))

  -- no word waiting: CLK LOW once more, then two idle slots
  end_slot : (w : ℕ) → Slot S (on (2 * b + 18) b false w []) (quiet false) (on (2 * b + 19) b false w [])
  unfolding event_of last_slot
  end_slot w =
      slot_on S (2 * b + 18) b false w [] (Chain (slots 0)) (2 * b + 18) b false w false (quiet false) (2 * b + 19)
      (microwire_chain b (2 * b + 18) refl) refl
      (lines_at_lem (2 * b + 18) b false w (low_levels false true) (microwire_levels_low (2 * b + 18) (b + 1) (omega arith))) (omega arith) (omega arith)

  is_over : (w : ℕ) → Over S (idle S ∷ idle S ∷ []) (on (2 * b + 19) b false w [])
  unfolding event_of last_slot
  is_over w = over (2 * b + 19) b false w (microwire_release b (2 * b + 19) refl) (omega arith) (omega arith)

  -- a word waiting: it starts its slot 0
  chain_slot : (w u : ℕ) (tx : List ℕ) → Slot S (on (2 * b + 18) b false w (u ∷ tx)) (low S false (bit_of 8 u 0)) (on 1 0 (bit_of 8 u 0) u tx)
  unfolding event_of last_slot width_of started microwire_levels
  chain_slot w u tx =
      slot_on S (2 * b + 18) b false w (u ∷ tx) (Chain (slots 0)) 0 0 (bit_of 8 u 0) u true (low S false (bit_of 8 u 0)) 1
      (microwire_chain b (2 * b + 18) refl)
      (ap (λ (y : Bool). step_without_received (chain_step S (sending (2 * b + 18) (shifted b false w 0)) y u (slots 0))) (waits_cons u tx))
      (lines_at_lem 0 0 (bit_of 8 u 0) u _ refl) (omega arith) refl

  chain_m_until : (x : Solo) (w : ℕ) (ws : List ℕ) → Slot S x (low S false (bit_of 8 w 0)) (on 1 0 (bit_of 8 w 0) w ws) → Until S (Over S) (chain_m S (w ∷ ws)) x
  chain_m_until x w [] k =
      until_then (control_draws w [] x k) (until_then (wait_draws w [] (bit_of 8 w 7)) (until_draw (end_slot w) (until_done (is_over w))))
  chain_m_until x w (u ∷ ws) k =
      until_then (control_draws w (u ∷ ws) x k)
      (until_then (wait_draws w (u ∷ ws) (bit_of 8 w 7))
      (chain_m_until (on (2 * b + 18) b false w (u ∷ ws)) u ws (chain_slot w u ws)))

  pub frames_m_until : (x : Shift) (w : ℕ) (ws : List ℕ) → Until S (Over S) (frames_m S (w ∷ ws)) (solo (w ∷ ws) (rest_at x))
  frames_m_until x w ws = chain_m_until (solo (w ∷ ws) (rest_at x)) w ws (begin_slot x w ws)
