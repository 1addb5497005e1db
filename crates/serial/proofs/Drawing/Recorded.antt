-- The recording of a master alone is the drawing of its load, whatever its pins carry; so equal recordings come from loads
-- that are equal after cutting.
use Prim.Native.Nat.{ℕ, zero, suc, ◌+◌, ◌-◌, ◌*◌, ◌≤◌, ◌<◌}
use mathlib.Core.Path.{◌≡◌, refl, sym, ap, ap₂, ◌∙◌, subst}
use mathlib.Core.Bool.{Bool, true, false}
use mathlib.Core.List.{List, [], ◌∷◌, ◌++◌, map}
use native.Mathlib.Omega.{arith}
use lib.ListN.{length, length-append, replicate, length-replicate}
use Rattle.registers.specs.Settings.{settings_of, settings_by}
use Rattle.registers.specs.Time.{cycles, slots, cycles_of}
use Rattle.registers.specs.declared.settings.Format.{Format}
use Rattle.registers.specs.declared.settings.Format.TheVariants.{Motorola, Ti, Microwire, Reserved}
use Rattle.registers.specs.declared.settings.Settings.{Settings}
use Rattle.frames.specs.Bits.{bit_of, cut}
use Rattle.registers.specs.Choose.{pick}
use Rattle.registers.specs.declared.time.Slots.{Slots}
use Rattle.frames.specs.Engine.{clear_shift, cleared, with_frame, with_elapsed, with_slot}
use Rattle.frames.specs.Slots.{width_of}
use Rattle.frames.specs.Lines.{byte_of, master_lines, master_txd}
use Rattle.frames.specs.Master.{resting, acting, master_step, master_end}
use Rattle.serial.specs.Cycle.{DeviceModel, recording}
use Rattle.serial.specs.Drawing.{slot_total, low, idle, bit_lines, frame0, frames0, chain1, frames1, marked, held, joined, frames_ti, quiets, chain_m, frames_m, drawing_on, drawing, stretch}
use Rattle.serial.specs.Demand3.{in_edition}
use Rattle.serial.proofs.Drawing.Injective.{Serves, bytes_injective, length-stretch, length-drawing}
use Rattle.serial.proofs.Unreceived.{without_received, shift_without_received}
use Rattle.serial.proofs.Drawing.Solo.{moves, acted, cycle, Goes, none, more, recording_goes}
use Rattle.serial.proofs.Drawing.Slot.{fixed, solo, rest_at, Draws, goes_then, draws_goes, over_draws, last_draws, until_draws}
use Rattle.serial.proofs.Drawing.Window.{window_injective}
use Rattle.serial.proofs.Drawing.MotorolaWords.{frames0_until, frames1_until}
use Rattle.serial.proofs.Drawing.TiWords.{frames_ti_until}
use Rattle.serial.proofs.Drawing.MicrowireWords.{frames_m_until}
use Rattle.frames.specs.declared.engine.Shift.{Shift}
use Rattle.frames.specs.declared.lines.Lines.{Lines}
use Rattle.frames.specs.declared.lines.Pins.{Pins}

-- An enabled master with permitted settings s, no frame in progress and no idle slot.
pub record Fresh (s : Settings) (d : DeviceModel) : Type 0 where
  pub set : settings_of d.registers.control ≡ s
  pub enabled : s.enabled ≡ true
  pub master : s.slave ≡ false
  pub serves : Serves s.format
  pub least : 4 ≤ s.bits
  pub most : s.bits ≤ 16
  pub divisor : 0 < s.divisor.0
  pub frame : d.engine.frame ≡ false
  pub slot : d.engine.slot.0 ≡ 0
  pub elapsed : d.engine.elapsed.0 ≡ 0

-- A drawing is the same in both editions --------------------------------------------------------------------------------

pub total_edition : (e : Bool) (s : Settings) (n : ℕ) → slot_total (in_edition e s) n ≡ slot_total s n
unfolding slot_total
total_edition e s zero = refl
total_edition e s (suc n) = refl

frames0_edition : (e : Bool) (s : Settings) (ws : List ℕ) → frames0 (in_edition e s) ws ≡ frames0 s ws
frames0_edition e s [] = refl
frames0_edition e s (w ∷ ws) = ap (λ (ls : List Lines). frame0 s w ++ ls) (frames0_edition e s ws)

chain1_edition : (e : Bool) (s : Settings) (w : ℕ) (ws : List ℕ) → chain1 (in_edition e s) w ws ≡ chain1 s w ws
chain1_edition e s w [] = refl
chain1_edition e s w (u ∷ ws) = ap (λ (ls : List Lines). bit_lines (low s true) (low s false) s.bits w 0 s.bits ++ ls) (chain1_edition e s u ws)

frames1_edition : (e : Bool) (s : Settings) (ws : List ℕ) → frames1 (in_edition e s) ws ≡ frames1 s ws
frames1_edition e s [] = refl
frames1_edition e s (w ∷ ws) = ap (λ (ls : List Lines). low s false false ∷ ls) (chain1_edition e s w ws)

joined_edition : (e : Bool) (s : Settings) (w : ℕ) (ws : List ℕ) → joined (in_edition e s) w ws ≡ joined s w ws
joined_edition e s w [] = refl
joined_edition e s w (u ∷ ws) =
    ap (λ (ls : List Lines). bit_lines (low s true) (low s false) s.bits w 0 (s.bits - 1) ++ (held true (bit_of s.bits w (s.bits - 1)) ∷ held false (bit_of s.bits w (s.bits - 1)) ∷ ls)) (joined_edition e s u ws)

frames_ti_edition : (e : Bool) (s : Settings) (ws : List ℕ) → frames_ti (in_edition e s) ws ≡ frames_ti s ws
frames_ti_edition e s [] = refl
frames_ti_edition e s (w ∷ ws) = ap (λ (ls : List Lines). marked true ∷ marked false ∷ ls) (joined_edition e s w ws)

chain_m_edition : (e : Bool) (s : Settings) (ws : List ℕ) → chain_m (in_edition e s) ws ≡ chain_m s ws
chain_m_edition e s [] = refl
chain_m_edition e s (w ∷ ws) = ap (λ (ls : List Lines). bit_lines (low s false) (low s true) 8 w 0 8 ++ (quiets (s.bits + 1) ++ ls)) (chain_m_edition e s ws)

frames_m_edition : (e : Bool) (s : Settings) (ws : List ℕ) → frames_m (in_edition e s) ws ≡ frames_m s ws
frames_m_edition e s [] = refl
frames_m_edition e s (w ∷ ws) = chain_m_edition e s (w ∷ ws)

pub drawing_edition : (e : Bool) (s : Settings) (ws : List ℕ) → drawing (in_edition e s) ws ≡ drawing s ws
unfolding drawing
drawing_edition e s ws = go s.format
  where
    go : (f : Format) → drawing_on f s.phase (in_edition e s) ws ≡ drawing_on f s.phase s ws
    go Motorola = ap₂ (pick s.phase) (frames1_edition e s ws) (frames0_edition e s ws)
    go Ti = frames_ti_edition e s ws
    go Microwire = frames_m_edition e s ws
    go Reserved = refl

-- The recording of a load ------------------------------------------------------------------------------------------------

-- every format draws its load
draws_on : (s : Settings) (f : Format) (phase : Bool) → Serves f → 2 < s.bits → (x : Shift) (w : ℕ) (ws : List ℕ)
    → Draws (fixed f phase s) (drawing (fixed f phase s) (w ∷ ws)) (solo (w ∷ ws) (rest_at x)) (solo [] (rest_at clear_shift))
unfolding drawing
draws_on s Motorola true r l x w ws = until_draws (over_draws _) (frames1_until s (omega arith) x w ws)
draws_on s Motorola false r l x w ws = until_draws (over_draws _) (frames0_until s (omega arith) x w ws)
draws_on s Ti phase r l x w ws = until_draws (last_draws _) (frames_ti_until s phase l x w ws)
draws_on s Microwire phase r l x w ws = until_draws (over_draws _) (frames_m_until s phase x w ws)
draws_on s Reserved phase r l x w ws = absurd (r refl)

pub fixed_own : (s : Settings) → s.slave ≡ false → s.enabled ≡ true → fixed s.format s.phase s ≡ s
fixed_own s m e =
    ap₂ (λ (u v : Bool). settings_by s.format s.phase s.polarity s.bits s.divisor u s.sod s.loopback v s.edition2)
    (sym m) (sym e)

none_on : (s : Settings) (f : Format) (phase : Bool) → drawing_on f phase s [] ≡ []
none_on s Motorola true = refl
none_on s Motorola false = refl
none_on s Ti phase = refl
none_on s Microwire phase = refl
none_on s Reserved phase = refl

drawing_none : (s : Settings) → drawing s [] ≡ []
unfolding drawing
drawing_none s = none_on s s.format s.phase

-- the cycles of a load
load_goes : (s : Settings) (d : DeviceModel) → Fresh s d → (x : Shift) (w : ℕ) (ws : List ℕ)
    → Goes s (stretch s.divisor.0 (drawing s (w ∷ ws))) (solo (w ∷ ws) (rest_at x)) (solo [] (rest_at clear_shift))
load_goes s d k x w ws =
    draws_goes s k.divisor
    (subst (λ (u : Settings). Draws u (drawing u (w ∷ ws)) (solo (w ∷ ws) (rest_at x)) (solo [] (rest_at clear_shift)))
    (fixed_own s k.master k.enabled) (draws_on s s.format s.phase k.serves (omega (arith, k.least)) x w ws))

-- a fresh master's engine
pub fresh_engine : (s : Settings) (d : DeviceModel) → Fresh s d → without_received d.engine ≡ rest_at (shift_without_received d.engine.shift)
fresh_engine s d k =
    let x = shift_without_received d.engine.shift in
    ap (λ (n : ℕ). with_frame (with_elapsed (with_slot cleared (slots n)) d.engine.elapsed) d.engine.frame x) k.slot
    ∙ ap (λ (n : ℕ). with_frame (with_elapsed cleared (cycles n)) d.engine.frame x) k.elapsed
    ∙ ap (λ (f : Bool). with_frame cleared f x) k.frame

-- with nothing to send a master stays idle
idle_goes : (s : Settings) (x : Shift) (k : ℕ) → Goes s (replicate k (idle s)) (solo [] (rest_at (shift_without_received x))) (solo [] (rest_at (shift_without_received x)))
unfolding cycle acted moves master_step acting resting master_end master_lines master_txd
idle_goes s x zero = none
idle_goes s x (suc k) = more refl refl (idle_goes s x k)

recorded_of : (s : Settings) (d : DeviceModel) → Fresh s d → (ws : List ℕ) → d.registers.tx ≡ ws → (ps : List Pins) (k : ℕ) → length ps ≡ (cycles_of (slot_total s (length ws)) s.divisor).0 + k
    → recording d ps ≡ stretch s.divisor.0 (drawing s ws) ++ replicate k (idle s)
unfolding slot_total cycles_of
recorded_of s d f [] e ps k l =
    recording_goes s d (record { set = f.set; enabled = f.enabled; master = f.master })
    (ap₂ solo e (fresh_engine s d f))
    (idle_goes s d.engine.shift k)
    ps
    (omega (arith, l, length-replicate k (idle s)))
    ∙ ap (λ (ls : List Lines). stretch s.divisor.0 ls ++ replicate k (idle s)) (sym (drawing_none s))
recorded_of s d f (w ∷ ws) e ps k l =
    let ls = stretch s.divisor.0 (drawing s (w ∷ ws)) in
    recording_goes s d (record { set = f.set; enabled = f.enabled; master = f.master })
    (ap₂ solo e (fresh_engine s d f))
    (goes_then s (load_goes s d f (shift_without_received d.engine.shift) w ws) (idle_goes s clear_shift k))
    ps
    (omega (
      arith,
      l,
      length-append ls (replicate k (idle s)),
      length-replicate k (idle s),
      length-stretch s.divisor.0 (drawing s (w ∷ ws)),
      ap (λ (n : ℕ). n * s.divisor.0) (length-drawing s (omega (arith, f.least)) (w ∷ ws)),
    ))

-- The lines of the first slot total times h cycles are the drawing of the load, every entry h times; idle lines follow.
pub recorded : (s : Settings) (d : DeviceModel) → Fresh s d → (ps : List Pins) (k : ℕ) → length ps ≡ (cycles_of (slot_total s (length d.registers.tx)) s.divisor).0 + k
    → recording d ps ≡ stretch s.divisor.0 (drawing s d.registers.tx) ++ replicate k (idle s)
recorded s d f ps k l = recorded_of s d f d.registers.tx refl ps k l

-- The same of settings in any edition.
recorded_in : (s : Settings) (e : Bool) (d : DeviceModel) → Fresh (in_edition e s) d → (ps : List Pins) (k : ℕ) → length ps ≡ (cycles_of (slot_total s (length d.registers.tx)) s.divisor).0 + k
    → recording d ps ≡ stretch s.divisor.0 (drawing s d.registers.tx) ++ replicate k (idle s)
recorded_in s e d f ps k l =
    recorded (in_edition e s) d f ps k (l ∙ ap (λ (t : Slots). (cycles_of t s.divisor).0 + k) (sym (total_edition e s (length d.registers.tx))))
    ∙ ap (λ (ls : List Lines). stretch s.divisor.0 ls ++ replicate k (idle s)) (drawing_edition e s d.registers.tx)

-- Two loads that give the same lines to their last idle slot and beyond, whatever the pins carry, are equal after cutting to
-- b bits, in Microwire to 8.
pub load_injective : (s : Settings) (m n : Bool) (d d' : DeviceModel) → Fresh (in_edition m s) d → Fresh (in_edition n s) d' → (ps qs : List Pins)
    → (cycles_of (slot_total s (length d.registers.tx)) s.divisor).0 ≤ length ps → (cycles_of (slot_total s (length d'.registers.tx)) s.divisor).0 ≤ length qs
    → recording d ps ≡ recording d' qs → map (cut (width_of s)) d.registers.tx ≡ map (cut (width_of s)) d'.registers.tx
load_injective s m n d d' f f' ps qs l l' e =
    let k = length ps - (cycles_of (slot_total s (length d.registers.tx)) s.divisor).0 in
    let k' = length qs - (cycles_of (slot_total s (length d'.registers.tx)) s.divisor).0 in
    window_injective s f.serves (omega (arith, f.least)) f.divisor f.most d.registers.tx d'.registers.tx k k'
    (sym (recorded_in s m d f ps k (omega (arith, l))) ∙ e ∙ recorded_in s n d' f' qs k' (omega (arith, l')))

-- The same of the output bytes.
pub load_bytes_injective : (s : Settings) (m n : Bool) (d d' : DeviceModel) → Fresh (in_edition m s) d → Fresh (in_edition n s) d' → (ps qs : List Pins)
    → (cycles_of (slot_total s (length d.registers.tx)) s.divisor).0 ≤ length ps → (cycles_of (slot_total s (length d'.registers.tx)) s.divisor).0 ≤ length qs
    → map byte_of (recording d ps) ≡ map byte_of (recording d' qs) → map (cut (width_of s)) d.registers.tx ≡ map (cut (width_of s)) d'.registers.tx
load_bytes_injective s m n d d' f f' ps qs l l' e = load_injective s m n d d' f f' ps qs l l' (bytes_injective (recording d ps) (recording d' qs) e)
