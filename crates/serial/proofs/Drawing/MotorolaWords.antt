-- A Motorola master alone draws its load, with SPH 0 and with SPH 1.
use Prim.Native.Nat.{ℕ, ◌+◌, ◌-◌, ◌*◌, ◌<◌}
use mathlib.Core.Path.{◌≡◌, refl, sym, ap, subst, ap₂}
use mathlib.Core.Bool.{Bool, true, false, not, ◌&&◌}
use mathlib.Core.List.{List, [], ◌∷◌, ◌++◌, append-nil}
use native.Mathlib.Omega.{arith}
use borrow.Author.Tests.{lt-ltb}
use Rattle.registers.specs.Time.{slots}
use Rattle.registers.specs.declared.settings.Format.TheVariants.{Motorola}
use Rattle.registers.specs.declared.settings.Settings.{Settings}
use Rattle.frames.specs.Bits.{bit_of}
use Rattle.frames.specs.Engine.{clear_shift, started, driven}
use Rattle.frames.specs.Slots.{event_of, motorola_event, last_slot, width_of, motorola_levels, levels_of}
use Rattle.frames.specs.Lines.{master_lines, frame_lines, master_txd}
use Rattle.frames.specs.Master.{chain_step}
use Rattle.serial.proofs.Cycles.{waits_cons}
use Rattle.serial.proofs.WithinSlot.{sending, shifted}
use Rattle.serial.proofs.Events.{motorola_drive, motorola_capture, motorola_last, motorola_release, low_at, levels_drive, levels_capture, levels_last, levels_first}
use Rattle.serial.specs.Drawing.{low, idle, bit_lines, frame0, frames0, chain1, frames1}
use Rattle.serial.proofs.Unreceived.{step_without_received}
use Rattle.serial.proofs.Drawing.Solo.{Solo}
use Rattle.serial.proofs.Drawing.Slot.{fixed, solo, on, rest_at, Slot, Draws, done, draw, slot_on, slot_start, slot_release, slot_pause, capture_move, word_run, Over, over, Until, until_done, until_draw, until_then, until_draws}
use Rattle.frames.specs.declared.engine.Shift.{Shift}
use Rattle.frames.specs.declared.lines.Lines.{Lines}
use Rattle.frames.specs.declared.slots.Levels.{Levels}
use Rattle.frames.specs.declared.slots.Event.TheVariants.{Begin, Drive, Capture, Chain, Pause}

module _ (s : Settings) (phase : Bool) where
  abbrev S : Settings
  S = fixed Motorola phase s

  abbrev b : ℕ
  b = s.bits

  lines_at_lem : (n : ℕ) (x : Shift) (c : Bool) → 0 < n → motorola_levels phase b n ≡ low_at c → master_lines S (sending n x) ≡ low S c x.level
  unfolding master_lines master_txd levels_of frame_lines
  lines_at_lem n x c p e = ap₂ (λ (v : Levels) (t : Bool). frame_lines S v (t && x.level)) e (lt-ltb 0 n p)

  -- in slot 0 TXD is LOW
  lines_first : (x : Shift) → motorola_levels phase b 0 ≡ low_at false → master_lines S (sending 0 x) ≡ low S false false
  unfolding master_lines master_txd levels_of frame_lines
  lines_first x e = ap (λ (v : Levels). frame_lines S v false) e

  -- slot 0
  begin_slot : (x : Shift) (w : ℕ) (tx : List ℕ) → Slot S (solo (w ∷ tx) (rest_at x)) (low S false false) (on 1 0 false w tx)
  unfolding event_of motorola_event last_slot
  begin_slot x w tx = slot_start S x w tx Begin false (low S false false) refl refl (lines_first (shifted 0 false w 0) (levels_first phase b)) (omega arith)

  -- before bit c, and between its two slots
  abbrev st : ℕ → List ℕ → ℕ → Bool → Solo
  st w tx c d = on (2 * c + 1) c d w tx

  abbrev mid : ℕ → List ℕ → ℕ → Bool → Solo
  mid w tx c d = on (2 * c + 2) c d w tx

  drive_slot : (w : ℕ) (tx : List ℕ) (c : ℕ) (d : Bool) → c < b → Slot S (st w tx c d) (low S phase (bit_of b w c)) (mid w tx c (bit_of b w c))
  unfolding event_of last_slot width_of driven
  drive_slot w tx c d l =
      slot_on S (2 * c + 1) c d w tx (Drive c) (2 * c + 1) c (bit_of b w c) w false (low S phase (bit_of b w c)) (2 * c + 2)
      (motorola_drive phase b (2 * c + 1) c refl l) refl
      (lines_at_lem (2 * c + 1) (shifted c (bit_of b w c) w 0) phase (omega arith) (levels_drive phase b (2 * c + 1) c refl l)) (omega arith) (omega arith)

  capture_slot : (w : ℕ) (tx : List ℕ) (c : ℕ) (d : Bool) → c < b → Slot S (mid w tx c d) (low S (not phase) d) (st w tx (c + 1) d)
  unfolding event_of last_slot
  capture_slot w tx c d l =
      slot_on S (2 * c + 2) c d w tx Capture (2 * c + 2) (c + 1) d w false (low S (not phase) d) (2 * (c + 1) + 1)
      (motorola_capture phase b (2 * c + 2) c refl l) (capture_move S b _ (2 * c + 2) c d w l)
      (lines_at_lem (2 * c + 2) (shifted (c + 1) d w 0) (not phase) (omega arith) (levels_capture phase b (2 * c + 2) c refl l)) (omega arith) (omega arith)

  -- a word, however its first bit comes on TXD
  word_draws : (w : ℕ) (tx : List ℕ) → 1 < b → (x : Solo) → Slot S x (low S phase (bit_of b w 0)) (mid w tx 0 (bit_of b w 0))
      → Draws S (bit_lines (low S phase) (low S (not phase)) b w 0 b) x (on (2 * b + 1) b (bit_of b w (b - 1)) w tx)
  word_draws w tx l x k =
      word_run S (low S phase) (low S (not phase)) b w b (st w tx) (mid w tx) (λ c d _ m. drive_slot w tx c d m) (λ c m. capture_slot w tx c (bit_of b w c) m) x b l (omega arith) k

  -- the two idle slots
  end_run : (w : ℕ) (tx : List ℕ) → Draws S (idle S ∷ idle S ∷ []) (on (2 * b + 2) b (bit_of b w (b - 1)) w tx) (solo tx (rest_at clear_shift))
  unfolding event_of last_slot
  end_run w tx =
      draw (slot_release S (2 * b + 2) b (bit_of b w (b - 1)) w tx (2 * b + 3) (motorola_release phase b (2 * b + 2) refl) (omega arith) (omega arith) (omega arith))
      (draw (slot_pause S (2 * b + 3) tx (omega arith) refl) done)

  -- at the end of a load
  is_over : (w : ℕ) → Over S (idle S ∷ idle S ∷ []) (on (2 * b + 2) b (bit_of b w (b - 1)) w [])
  unfolding event_of last_slot
  is_over w = over (2 * b + 2) b (bit_of b w (b - 1)) w (motorola_release phase b (2 * b + 2) refl) (omega arith) (omega arith)

-- SPH 0 ----------------------------------------------------------------------------------------------------------------

module _ (s : Settings) where
  hold_slot0 : (w : ℕ) (tx : List ℕ) (d : Bool)
      → Slot (S s false) (on (2 * s.bits + 1) s.bits d w tx) (low (S s false) false d) (on (2 * s.bits + 2) s.bits d w tx)
  unfolding event_of last_slot
  hold_slot0 w tx d =
      let t = s.bits in
      slot_on (S s false) (2 * t + 1) t d w tx Pause (2 * t + 1) t d w false (low (S s false) false d) (2 * t + 2)
      (motorola_last false t (2 * t + 1) refl) refl
      (lines_at_lem s false (2 * t + 1) (shifted t d w 0) false (omega arith) (levels_last false t (2 * t + 1) refl)) (omega arith) (omega arith)

  -- a frame up to its idle slots
  frame0_until : {End : List Lines → Solo → Type 0} {all : List Lines} → 1 < s.bits → (x : Shift) (w : ℕ) (tx : List ℕ)
      → Until (S s false) End all (on (2 * s.bits + 2) s.bits (bit_of s.bits w (s.bits - 1)) w tx)
      → Until (S s false) End (low (S s false) false false ∷ (bit_lines (low (S s false) false) (low (S s false) true) s.bits w 0 s.bits ++ (low (S s false) false (bit_of s.bits w (s.bits - 1)) ∷ all))) (solo (w ∷ tx) (rest_at x))
  frame0_until l x w tx u =
      until_draw (begin_slot s false x w tx)
      (until_then (word_draws s false w tx l (on 1 0 false w tx) (drive_slot s false w tx 0 false (omega arith)))
      (until_draw (hold_slot0 w tx (bit_of s.bits w (s.bits - 1))) u))

  frame0_draws : 1 < s.bits → (x : Shift) (w : ℕ) (tx : List ℕ) → Draws (S s false) (frame0 (S s false) w) (solo (w ∷ tx) (rest_at x)) (solo tx (rest_at clear_shift))
  frame0_draws l x w tx =
      until_draws (λ ls y d. d) (frame0_until {End = λ (ls : List Lines) (y : Solo). Draws (S s false) ls y (solo tx (rest_at clear_shift))} l x w tx (until_done (end_run s false w tx)))

  pub frames0_until : 1 < s.bits → (x : Shift) (w : ℕ) (ws : List ℕ) → Until (S s false) (Over (S s false)) (frames0 (S s false) (w ∷ ws)) (solo (w ∷ ws) (rest_at x))
  frames0_until l x w [] =
      subst (λ (ls : List Lines). Until (S s false) (Over (S s false)) ls (solo (w ∷ []) (rest_at x))) (sym (append-nil (frame0 (S s false) w)))
      (frame0_until l x w [] (until_done (is_over s false w)))
  frames0_until l x w (u ∷ ws) = until_then (frame0_draws l x w (u ∷ ws)) (frames0_until l clear_shift u ws)

-- SPH 1 ----------------------------------------------------------------------------------------------------------------

module _ (s : Settings) where
  hold_slot1 : (w : ℕ) (d : Bool)
      → Slot (S s true) (on (2 * s.bits + 1) s.bits d w []) (low (S s true) false d) (on (2 * s.bits + 2) s.bits d w [])
  unfolding event_of last_slot
  hold_slot1 w d =
      let t = s.bits in
      slot_on (S s true) (2 * t + 1) t d w [] (Chain (slots 1)) (2 * t + 1) t d w false (low (S s true) false d) (2 * t + 2)
      (motorola_last true t (2 * t + 1) refl) refl
      (lines_at_lem s true (2 * t + 1) (shifted t d w 0) false (omega arith) (levels_last true t (2 * t + 1) refl)) (omega arith) (omega arith)

  -- a waiting word is taken: this is its slot 1
  chain_slot : 0 < s.bits → (w : ℕ) (d : Bool) (u : ℕ) (tx : List ℕ)
      → Slot (S s true) (on (2 * s.bits + 1) s.bits d w (u ∷ tx)) (low (S s true) true (bit_of s.bits u 0)) (on 2 0 (bit_of s.bits u 0) u tx)
  unfolding event_of last_slot width_of started
  chain_slot l w d u tx =
      let t = s.bits in
      slot_on (S s true) (2 * t + 1) t d w (u ∷ tx) (Chain (slots 1)) 1 0 (bit_of t u 0) u true (low (S s true) true (bit_of t u 0)) 2
      (motorola_last true t (2 * t + 1) refl)
      (ap (λ (y : Bool). step_without_received (chain_step (S s true) (sending (2 * t + 1) (shifted t d w 0)) y u (slots 1))) (waits_cons u tx))
      (lines_at_lem s true 1 (shifted 0 (bit_of t u 0) u 0) true (omega arith) (levels_drive true t 1 0 refl l)) (omega arith) refl

  chain1_until : 1 < s.bits → (x : Solo) (w : ℕ) (ws : List ℕ) → Slot (S s true) x (low (S s true) true (bit_of s.bits w 0)) (on 2 0 (bit_of s.bits w 0) w ws)
      → Until (S s true) (Over (S s true)) (chain1 (S s true) w ws) x
  chain1_until l x w [] k =
      until_then (word_draws s true w [] l x k) (until_draw (hold_slot1 w (bit_of s.bits w (s.bits - 1))) (until_done (is_over s true w)))
  chain1_until l x w (u ∷ ws) k =
      let t = s.bits in
      until_then (word_draws s true w (u ∷ ws) l x k)
      (chain1_until l (on (2 * t + 1) t (bit_of t w (t - 1)) w (u ∷ ws)) u ws (chain_slot (omega arith) w (bit_of t w (t - 1)) u ws))

  pub frames1_until : 1 < s.bits → (x : Shift) (w : ℕ) (ws : List ℕ) → Until (S s true) (Over (S s true)) (frames1 (S s true) (w ∷ ws)) (solo (w ∷ ws) (rest_at x))
  frames1_until l x w ws =
      until_draw (begin_slot s true x w ws) (chain1_until l (on 1 0 false w ws) w ws (drive_slot s true w ws 0 false (omega arith)))
