-- A drawing determines its load: equal drawings are of loads that are equal after cutting.
use Prim.Native.Nat.{ℕ, zero, suc, ◌+◌, ◌-◌, ◌*◌, ◌≤◌, ◌<◌}
use mathlib.Core.Path.{◌≡◌, refl, sym, ap, ap₂, ◌∙◌}
use mathlib.Core.Bool.{Bool, true, false}
use mathlib.Core.List.{List, [], ◌∷◌, ◌++◌, map}
use native.Mathlib.Omega.{arith}
use native.Mathlib.Nat.{zero-add}
use native.Mathlib.Numerals.{add-one}
use native.Mathlib.Decide.{dec_lt}
use lib.ListN.{length, length-append, replicate, length-replicate}
use Rattle.registers.specs.Bits.{bit_at}
use Rattle.registers.specs.declared.settings.Format.{Format}
use Rattle.registers.specs.declared.settings.Format.TheVariants.{Motorola, Ti, Microwire, Reserved}
use Rattle.registers.specs.declared.settings.Settings.{Settings}
use Rattle.frames.specs.Bits.{bit_of, shifted_in, cut}
use Rattle.frames.specs.Lines.{byte_of, idle_on}
use Rattle.frames.specs.Slots.{width_on, width_of}
use Rattle.serial.specs.Drawing.{low, idle, bit_lines, frame0, frames0, chain1, frames1, held, joined, frames_ti, quiets, chain_m, frames_m, drawing_on, drawing, stretch, total_on, slot_total}
use Rattle.serial.proofs.Top.{top, top_zero, top_next, top_full}
use Rattle.frames.specs.declared.lines.Lines.{Lines}

-- Lists ----------------------------------------------------------------------------------------------------------------

pub cons_tail : {A : Type 0} {x y : A} {xs ys : List A} → (x ∷ xs) ≡ (y ∷ ys) → xs ≡ ys
cons_tail e = cc

pub cons_head : {A : Type 0} {x y : A} {xs ys : List A} → (x ∷ xs) ≡ (y ∷ ys) → x ≡ y
cons_head e = cc

-- two joined lists with first parts of one length
pub append_left : {A : Type 0} (a a' b b' : List A) → length a ≡ length a' → a ++ b ≡ a' ++ b' → a ≡ a'
append_left [] [] b b' l e = refl
append_left [] (y ∷ ys) b b' l e = absurd (omega arith)
append_left (x ∷ xs) [] b b' l e = absurd (omega arith)
append_left (x ∷ xs) (y ∷ ys) b b' l e = ap₂ ◌∷◌ (cons_head e) (append_left xs ys b b' (omega arith) (cons_tail e))

pub append_right : {A : Type 0} (a a' b b' : List A) → length a ≡ length a' → a ++ b ≡ a' ++ b' → b ≡ b'
append_right [] [] b b' l e = e
append_right [] (y ∷ ys) b b' l e = absurd (omega arith)
append_right (x ∷ xs) [] b b' l e = absurd (omega arith)
append_right (x ∷ xs) (y ∷ ys) b b' l e = append_right xs ys b b' (omega arith) (cons_tail e)

-- Words by their bits --------------------------------------------------------------------------------------------------

-- two words with the same first t bits
abbrev pub SameBits : ℕ → ℕ → ℕ → ℕ → Type 0
SameBits t n w v = (i : ℕ) → i < n → bit_of t w i ≡ bit_of t v i

top_same : (t w v c : ℕ) → c ≤ t → t ≤ 16 → SameBits t c w v → top t w c ≡ top t v c
top_same t w v zero l m f = top_zero t w ∙ sym (top_zero t v)
top_same t w v (suc c) l m f =
    ap (top t w) (sym (add-one c))
    ∙ sym (top_next t w c (omega arith) m)
    ∙ ap₂ shifted_in (top_same t w v c (omega arith) m (λ i k. f i (omega arith))) (f c (omega arith))
    ∙ top_next t v c (omega arith) m
    ∙ ap (top t v) (add-one c)

-- a word cut to t bits is known by these
pub cut-same : (t w v : ℕ) → t ≤ 16 → SameBits t t w v → cut t w ≡ cut t v
cut-same t w v m f = sym (top_full t w) ∙ top_same t w v t (omega arith) m f ∙ top_full t v

-- Idle lines are released.
pub idle_released : (f : Format) (p : Bool) → (idle_on f p).released ≡ true
idle_released Motorola p = refl
idle_released Ti p = refl
idle_released Microwire p = refl
idle_released Reserved p = refl

-- Bits on the lines ----------------------------------------------------------------------------------------------------

pub length_bits : (f g : Bool → Lines) (t w i n : ℕ) → length (bit_lines f g t w i n) ≡ 2 * n
length_bits f g t w i zero = refl
length_bits f g t w i (suc n) = omega (arith, length_bits f g t w (i + 1) n)

-- a slot that shows its bit on TXD
abbrev pub Shows : (Bool → Lines) → Type 0
Shows f = (d : Bool) → (f d).txd ≡ d

first_injective : (f : Bool → Lines) → Shows f → (d d' : Bool) → f d ≡ f d' → d ≡ d'
first_injective f s d d' e = sym (s d) ∙ ap (λ (l : Lines). l.txd) e ∙ s d'

pub bits_injective : (f g : Bool → Lines) → Shows f → (t w v i n : ℕ) → bit_lines f g t w i n ≡ bit_lines f g t v i n → (k : ℕ) → k < n → bit_of t w (i + k) ≡ bit_of t v (i + k)
bits_injective f g s t w v i zero e k m = absurd (omega arith)
bits_injective f g s t w v i (suc n) e zero m =
    let z : i + 0 ≡ i = omega arith in
    ap (bit_of t w) z ∙ first_injective f s (bit_of t w i) (bit_of t v i) (cons_head e) ∙ ap (bit_of t v) (sym z)
bits_injective f g s t w v i (suc n) e (suc k) m =
    let z : i + suc k ≡ i + 1 + k = omega arith in
    ap (bit_of t w) z ∙ bits_injective f g s t w v (i + 1) n (cons_tail (cons_tail e)) k (omega arith) ∙ ap (bit_of t v) (sym z)

-- all bits of a word
pub word_injective : (f g : Bool → Lines) → Shows f → (t w v : ℕ) → t ≤ 16 → bit_lines f g t w 0 t ≡ bit_lines f g t v 0 t → cut t w ≡ cut t v
word_injective f g s t w v m e =
    cut-same t w v m (λ i l. ap (bit_of t w) (sym (zero-add i)) ∙ bits_injective f g s t w v 0 t e i l ∙ ap (bit_of t v) (zero-add i))

-- the first bits of a word, and its last one
pub joined_injective : (f g : Bool → Lines) → Shows f → (t w v : ℕ) → t ≤ 16 → 0 < t → bit_lines f g t w 0 (t - 1) ≡ bit_lines f g t v 0 (t - 1)
    → bit_of t w (t - 1) ≡ bit_of t v (t - 1) → cut t w ≡ cut t v
joined_injective f g s t w v m l e z =
    cut-same t w v m (λ i k. go i (dec_lt i (t - 1)) k)
  where
    go : (i : ℕ) → Dec (i < t - 1) → i < t → bit_of t w i ≡ bit_of t v i
    go i (yes k) _ = ap (bit_of t w) (sym (zero-add i)) ∙ bits_injective f g s t w v 0 (t - 1) e i k ∙ ap (bit_of t v) (zero-add i)
    go i (no n) k =
        let q : i ≡ t - 1 = omega arith in
        ap (bit_of t w) q ∙ z ∙ ap (bit_of t v) (sym q)

-- Motorola, SPH 0 ------------------------------------------------------------------------------------------------------

low_shows : (s : Settings) (clk : Bool) → Shows (low s clk)
low_shows s clk d = refl

pub frame0-length : (s : Settings) (w : ℕ) → length (frame0 s w) ≡ 2 * s.bits + 4
frame0-length s w =
    let x = bit_lines (low s false) (low s true) s.bits w 0 s.bits in
    let y = low s false (bit_of s.bits w (s.bits - 1)) ∷ idle s ∷ idle s ∷ [] in
    omega (arith, length-append x y, length_bits (low s false) (low s true) s.bits w 0 s.bits)

frame0_injective : (s : Settings) (w v : ℕ) → s.bits ≤ 16 → frame0 s w ≡ frame0 s v → cut s.bits w ≡ cut s.bits v
frame0_injective s w v m e =
    let t = s.bits in
    word_injective (low s false) (low s true) (low_shows s false) t w v m
    (append_left (bit_lines (low s false) (low s true) t w 0 t) (bit_lines (low s false) (low s true) t v 0 t) _ _
    (length_bits (low s false) (low s true) t w 0 t ∙ sym (length_bits (low s false) (low s true) t v 0 t)) (cons_tail e))

pub nil_cons : {A B : Type 0} {x : A} {xs : List A} → [] ≡ (x ∷ xs) → B
nil_cons {A} {B} {x} {xs} e = let z : 0 ≡ suc (length xs) = ap length e in absurd (omega arith)

pub frames0_injective : (s : Settings) → s.bits ≤ 16 → (ws vs : List ℕ) → frames0 s ws ≡ frames0 s vs → map (cut s.bits) ws ≡ map (cut s.bits) vs
frames0_injective s m [] [] e = refl
frames0_injective s m [] (v ∷ vs) e = nil_cons e
frames0_injective s m (w ∷ ws) [] e = nil_cons (sym e)
frames0_injective s m (w ∷ ws) (v ∷ vs) e =
    let l : length (frame0 s w) ≡ length (frame0 s v) = frame0-length s w ∙ sym (frame0-length s v) in
    ap₂ ◌∷◌ (frame0_injective s w v m (append_left (frame0 s w) (frame0 s v) (frames0 s ws) (frames0 s vs) l e))
    (frames0_injective s m ws vs (append_right (frame0 s w) (frame0 s v) (frames0 s ws) (frames0 s vs) l e))

-- Motorola, SPH 1 ------------------------------------------------------------------------------------------------------

module _ (s : Settings) (m : s.bits ≤ 16) (k : 2 ≤ s.bits) where
  abbrev word1 : ℕ → List Lines
  word1 w = bit_lines (low s true) (low s false) s.bits w 0 s.bits

  abbrev end1 : ℕ → List Lines
  end1 w = low s false (bit_of s.bits w (s.bits - 1)) ∷ idle s ∷ idle s ∷ []

  word1_length : (w : ℕ) → length (word1 w) ≡ 2 * s.bits
  word1_length w = length_bits (low s true) (low s false) s.bits w 0 s.bits

  chain1_long : (w : ℕ) (ws : List ℕ) → 3 < length (chain1 s w ws)
  chain1_long w [] = omega (arith, length-append (word1 w) (end1 w), word1_length w)
  chain1_long w (u ∷ ws) = omega (arith, length-append (word1 w) (chain1 s u ws), word1_length w)

  parts1 : (w v : ℕ) (a b : List Lines) → word1 w ++ a ≡ word1 v ++ b → (cut s.bits w ≡ cut s.bits v) × (a ≡ b)
  parts1 w v a b e =
      let l : length (word1 w) ≡ length (word1 v) = word1_length w ∙ sym (word1_length v) in (
        word_injective (low s true) (low s false) (low_shows s true) s.bits w v m (append_left (word1 w) (word1 v) a b l e),
        append_right (word1 w) (word1 v) a b l e,
      )

  chain1_injective : (w v : ℕ) (ws vs : List ℕ) → chain1 s w ws ≡ chain1 s v vs → map (cut s.bits) (w ∷ ws) ≡ map (cut s.bits) (v ∷ vs)
  chain1_injective w v [] [] e = ap (λ (x : ℕ). x ∷ []) (parts1 w v (end1 w) (end1 v) e).0
  chain1_injective w v [] (u ∷ us) e =
      let z : 3 ≡ length (chain1 s u us) = ap length (parts1 w v (end1 w) (chain1 s u us) e).1 in
      absurd (omega (arith, chain1_long u us))
  chain1_injective w v (u ∷ us) [] e =
      let z : length (chain1 s u us) ≡ 3 = ap length (parts1 w v (chain1 s u us) (end1 v) e).1 in
      absurd (omega (arith, chain1_long u us))
  chain1_injective w v (u ∷ us) (x ∷ xs) e =
      let p = parts1 w v (chain1 s u us) (chain1 s x xs) e in
      ap₂ ◌∷◌ p.0 (chain1_injective u x us xs p.1)

  pub frames1_injective : (ws vs : List ℕ) → frames1 s ws ≡ frames1 s vs → map (cut s.bits) ws ≡ map (cut s.bits) vs
  frames1_injective [] [] e = refl
  frames1_injective [] (v ∷ vs) e = nil_cons e
  frames1_injective (w ∷ ws) [] e = nil_cons (sym e)
  frames1_injective (w ∷ ws) (v ∷ vs) e = chain1_injective w v ws vs (cons_tail e)

-- TI -------------------------------------------------------------------------------------------------------------------

module _ (s : Settings) (m : s.bits ≤ 16) (k : 2 ≤ s.bits) where
  abbrev bits_t : ℕ → List Lines
  bits_t w = bit_lines (low s true) (low s false) s.bits w 0 (s.bits - 1)

  abbrev last_t : ℕ → Bool
  last_t w = bit_of s.bits w (s.bits - 1)

  bits_t_length : (w : ℕ) → length (bits_t w) ≡ 2 * (s.bits - 1)
  bits_t_length w = length_bits (low s true) (low s false) s.bits w 0 (s.bits - 1)

  joined_long_lem : (w : ℕ) (ws : List ℕ) → 0 < length (joined s w ws)
  joined_long_lem w [] = omega (arith, length-append (bits_t w) (low s true (last_t w) ∷ low s false (last_t w) ∷ []))
  joined_long_lem w (u ∷ ws) = omega (arith, length-append (bits_t w) (held true (last_t w) ∷ held false (last_t w) ∷ joined s u ws))

  parts_t : (w v : ℕ) (a a' : Lines) (b b' : List Lines) → a.txd ≡ last_t w → a'.txd ≡ last_t v → bits_t w ++ (a ∷ b) ≡ bits_t v ++ (a' ∷ b') → (cut s.bits w ≡ cut s.bits v) × (b ≡ b')
  parts_t w v a a' b b' p q e =
      let l : length (bits_t w) ≡ length (bits_t v) = bits_t_length w ∙ sym (bits_t_length v) in
      let r = append_right (bits_t w) (bits_t v) (a ∷ b) (a' ∷ b') l e in (
        joined_injective (low s true) (low s false) (low_shows s true) s.bits w v m (omega arith) (append_left (bits_t w) (bits_t v) (a ∷ b) (a' ∷ b') l e)
            (sym p ∙ ap (λ (x : Lines). x.txd) (cons_head r) ∙ q),
        cons_tail r,
      )

  joined_words : (w v : ℕ) (ws vs : List ℕ) → joined s w ws ≡ joined s v vs → map (cut s.bits) (w ∷ ws) ≡ map (cut s.bits) (v ∷ vs)
  joined_words w v [] [] e = ap (λ (x : ℕ). x ∷ []) (parts_t w v _ _ _ _ refl refl e).0
  joined_words w v [] (u ∷ us) e =
      let z : 0 ≡ length (joined s u us) = ap length (cons_tail (parts_t w v _ _ _ _ refl refl e).1) in
      absurd (omega (arith, joined_long_lem u us))
  joined_words w v (u ∷ us) [] e =
      let z : length (joined s u us) ≡ 0 = ap length (cons_tail (parts_t w v _ _ _ _ refl refl e).1) in
      absurd (omega (arith, joined_long_lem u us))
  joined_words w v (u ∷ us) (x ∷ xs) e =
      let p = parts_t w v _ _ _ _ refl refl e in
      ap₂ ◌∷◌ p.0 (joined_words u x us xs (cons_tail p.1))

  pub frames_ti_injective : (ws vs : List ℕ) → frames_ti s ws ≡ frames_ti s vs → map (cut s.bits) ws ≡ map (cut s.bits) vs
  frames_ti_injective [] [] e = refl
  frames_ti_injective [] (v ∷ vs) e = nil_cons e
  frames_ti_injective (w ∷ ws) [] e = nil_cons (sym e)
  frames_ti_injective (w ∷ ws) (v ∷ vs) e = joined_words w v ws vs (cons_tail (cons_tail e))

-- Microwire ------------------------------------------------------------------------------------------------------------

pub length-quiets : (n : ℕ) → length (quiets n) ≡ 2 * n
length-quiets zero = refl
length-quiets (suc n) = omega (arith, length-quiets n)

module _ (s : Settings) where
  abbrev bits_m : ℕ → List Lines
  bits_m w = bit_lines (low s false) (low s true) 8 w 0 8

  bits_m_length : (w : ℕ) → length (bits_m w) ≡ 16
  bits_m_length w = length_bits (low s false) (low s true) 8 w 0 8

  chain_m_long : (w : ℕ) (ws : List ℕ) → 3 < length (chain_m s (w ∷ ws))
  chain_m_long w ws = omega (arith, length-append (bits_m w) (quiets (s.bits + 1) ++ chain_m s ws), bits_m_length w)

  chain_m_injective : (ws vs : List ℕ) → chain_m s ws ≡ chain_m s vs → map (cut 8) ws ≡ map (cut 8) vs
  chain_m_injective [] [] e = refl
  chain_m_injective [] (v ∷ vs) e =
      let z : 3 ≡ length (chain_m s (v ∷ vs)) = ap length e in
      absurd (omega (arith, chain_m_long v vs))
  chain_m_injective (w ∷ ws) [] e =
      let z : length (chain_m s (w ∷ ws)) ≡ 3 = ap length e in
      absurd (omega (arith, chain_m_long w ws))
  chain_m_injective (w ∷ ws) (v ∷ vs) e =
      let q = quiets (s.bits + 1) in
      let l : length (bits_m w) ≡ length (bits_m v) = bits_m_length w ∙ sym (bits_m_length v) in
      ap₂ ◌∷◌
      (word_injective (low s false) (low s true) (low_shows s false) 8 w v (omega arith) (append_left (bits_m w) (bits_m v) (q ++ chain_m s ws) (q ++ chain_m s vs) l e))
      (chain_m_injective ws vs
      (append_right q q (chain_m s ws) (chain_m s vs) refl (append_right (bits_m w) (bits_m v) (q ++ chain_m s ws) (q ++ chain_m s vs) l e)))

  pub frames_m_injective : (ws vs : List ℕ) → frames_m s ws ≡ frames_m s vs → map (cut 8) ws ≡ map (cut 8) vs
  frames_m_injective [] [] e = refl
  frames_m_injective [] (v ∷ vs) e =
      let z : 0 ≡ length (chain_m s (v ∷ vs)) = ap length e in
      absurd (omega (arith, chain_m_long v vs))
  frames_m_injective (w ∷ ws) [] e =
      let z : length (chain_m s (w ∷ ws)) ≡ 0 = ap length e in
      absurd (omega (arith, chain_m_long w ws))
  frames_m_injective (w ∷ ws) (v ∷ vs) e = chain_m_injective (w ∷ ws) (v ∷ vs) e

-- All formats ----------------------------------------------------------------------------------------------------------

motorola_injective : (s : Settings) (phase : Bool) → s.bits ≤ 16 → 2 ≤ s.bits → (ws vs : List ℕ)
    → drawing_on Motorola phase s ws ≡ drawing_on Motorola phase s vs → map (cut s.bits) ws ≡ map (cut s.bits) vs
motorola_injective s true m k ws vs e = frames1_injective s m k ws vs e
motorola_injective s false m k ws vs e = frames0_injective s m ws vs e

-- FRF is not the reserved one.
abbrev pub Serves : Format → Type 0
Serves f = f ≡ Reserved → ⊥

drawing_injective_on : (f : Format) → Serves f → (s : Settings) → s.bits ≤ 16 → 2 ≤ s.bits → (ws vs : List ℕ)
    → drawing_on f s.phase s ws ≡ drawing_on f s.phase s vs → map (cut (width_on f s.bits)) ws ≡ map (cut (width_on f s.bits)) vs
drawing_injective_on Motorola r s m k ws vs e = motorola_injective s s.phase m k ws vs e
drawing_injective_on Ti r s m k ws vs e = frames_ti_injective s m k ws vs e
drawing_injective_on Microwire r s m k ws vs e = frames_m_injective s ws vs e
drawing_injective_on Reserved r s m k ws vs e = absurd (r refl)

-- Two loads with the same drawing are equal after cutting to b bits, Microwire to 8.
pub drawing_injective : (s : Settings) → Serves s.format → s.bits ≤ 16 → 2 ≤ s.bits → (ws vs : List ℕ)
    → drawing s ws ≡ drawing s vs → map (cut (width_of s)) ws ≡ map (cut (width_of s)) vs
unfolding drawing width_of
drawing_injective s r m k ws vs e = drawing_injective_on s.format r s m k ws vs e

-- Bytes ----------------------------------------------------------------------------------------------------------------

abbrev levels : Bool → Bool → Bool → Bool → Lines
levels a b c d = record { clk = a; fss = b; txd = c; released = d }

-- the lines of an output byte
abbrev lines_at : ℕ → Lines
lines_at n = levels (bit_at n 0) (bit_at n 1) (bit_at n 2) (bit_at n 3)

byte_back : (a b c d : Bool) → lines_at (byte_of (levels a b c d)) ≡ levels a b c d
unfolding byte_of
byte_back true true true true = refl
byte_back true true true false = refl
byte_back true true false true = refl
byte_back true true false false = refl
byte_back true false true true = refl
byte_back true false true false = refl
byte_back true false false true = refl
byte_back true false false false = refl
byte_back false true true true = refl
byte_back false true true false = refl
byte_back false true false true = refl
byte_back false true false false = refl
byte_back false false true true = refl
byte_back false false true false = refl
byte_back false false false true = refl
byte_back false false false false = refl

-- An output byte determines its lines.
pub byte_injective : (l k : Lines) → byte_of l ≡ byte_of k → l ≡ k
byte_injective l k e =
    sym (byte_back l.clk l.fss l.txd l.released) ∙ ap lines_at e ∙ byte_back k.clk k.fss k.txd k.released

pub bytes_injective : (ls ks : List Lines) → map byte_of ls ≡ map byte_of ks → ls ≡ ks
bytes_injective [] [] e = refl
bytes_injective [] (k ∷ ks) e = nil_cons e
bytes_injective (l ∷ ls) [] e = nil_cons (sym e)
bytes_injective (l ∷ ls) (k ∷ ks) e = ap₂ ◌∷◌ (byte_injective l k (cons_head e)) (bytes_injective ls ks (cons_tail e))

-- Slots of h cycles tell the slots.
pub stretch_injective : (h : ℕ) → 0 < h → (ls ks : List Lines) → stretch h ls ≡ stretch h ks → ls ≡ ks
stretch_injective zero z ls ks e = absurd (omega arith)
stretch_injective (suc j) z [] [] e = refl
stretch_injective (suc j) z [] (k ∷ ks) e = nil_cons e
stretch_injective (suc j) z (l ∷ ls) [] e = nil_cons (sym e)
stretch_injective (suc j) z (l ∷ ls) (k ∷ ks) e =
    ap₂ ◌∷◌ (cons_head e)
    (stretch_injective (suc j) z ls ks
    (append_right (replicate j l) (replicate j k) (stretch (suc j) ls) (stretch (suc j) ks) (length-replicate j l ∙ sym (length-replicate j k)) (cons_tail e)))

pub length-stretch : (h : ℕ) (ls : List Lines) → length (stretch h ls) ≡ length ls * h
length-stretch h [] = omega arith
length-stretch h (l ∷ ls) = omega (arith, length-append (replicate h l) (stretch h ls), length-replicate h l, length-stretch h ls)

-- A drawing has as many entries as there are slots ---------------------------------------------------------------------

frames0-length : (s : Settings) (ws : List ℕ) → length (frames0 s ws) ≡ length ws * (2 * s.bits + 4)
frames0-length s [] = omega arith
frames0-length s (w ∷ ws) = omega (arith, length-append (frame0 s w) (frames0 s ws), frame0-length s w, frames0-length s ws)

chain1-length : (s : Settings) (w : ℕ) (ws : List ℕ) → length (chain1 s w ws) ≡ 2 * s.bits * suc (length ws) + 3
chain1-length s w [] =
    let x = bit_lines (low s true) (low s false) s.bits w 0 s.bits in
    omega (arith, length-append x (low s false (bit_of s.bits w (s.bits - 1)) ∷ idle s ∷ idle s ∷ []), length_bits (low s true) (low s false) s.bits w 0 s.bits)
chain1-length s w (u ∷ ws) =
    let x = bit_lines (low s true) (low s false) s.bits w 0 s.bits in
    omega (arith, length-append x (chain1 s u ws), length_bits (low s true) (low s false) s.bits w 0 s.bits, chain1-length s u ws)

joined_length : (s : Settings) → 0 < s.bits → (w : ℕ) (ws : List ℕ) → length (joined s w ws) ≡ 2 * s.bits * suc (length ws)
joined_length s k w [] =
    let x = bit_lines (low s true) (low s false) s.bits w 0 (s.bits - 1) in
    let d = bit_of s.bits w (s.bits - 1) in
    omega (arith, length-append x (low s true d ∷ low s false d ∷ []), length_bits (low s true) (low s false) s.bits w 0 (s.bits - 1))
joined_length s k w (u ∷ ws) =
    let x = bit_lines (low s true) (low s false) s.bits w 0 (s.bits - 1) in
    let d = bit_of s.bits w (s.bits - 1) in
    omega (arith, length-append x (held true d ∷ held false d ∷ joined s u ws), length_bits (low s true) (low s false) s.bits w 0 (s.bits - 1), joined_length s k u ws)

chain_m-length : (s : Settings) (ws : List ℕ) → length (chain_m s ws) ≡ length ws * (2 * s.bits + 18) + 3
chain_m-length s [] = omega arith
chain_m-length s (w ∷ ws) =
    let x = bit_lines (low s false) (low s true) 8 w 0 8 in
    let q = quiets (s.bits + 1) in
    omega (arith, length-append x (q ++ chain_m s ws), length-append q (chain_m s ws), length_bits (low s false) (low s true) 8 w 0 8, length-quiets (s.bits + 1), chain_m-length s ws)

length-motorola : (s : Settings) (phase : Bool) (w : ℕ) (ws : List ℕ) → length (drawing_on Motorola phase s (w ∷ ws)) ≡ total_on Motorola phase s.bits (suc (length ws))
length-motorola s true w ws = omega (arith, chain1-length s w ws)
length-motorola s false w ws = frames0-length s (w ∷ ws)

length_some : (s : Settings) → 0 < s.bits → (f : Format) (w : ℕ) (ws : List ℕ) → length (drawing_on f s.phase s (w ∷ ws)) ≡ total_on f s.phase s.bits (suc (length ws))
length_some s k Motorola w ws = length-motorola s s.phase w ws
length_some s k Ti w ws = omega (arith, joined_length s k w ws)
length_some s k Microwire w ws = chain_m-length s (w ∷ ws)
length_some s k Reserved w ws = refl

length_none : (s : Settings) (f : Format) (phase : Bool) → length (drawing_on f phase s []) ≡ 0
length_none s Motorola true = refl
length_none s Motorola false = refl
length_none s Ti phase = refl
length_none s Microwire phase = refl
length_none s Reserved phase = refl

pub length-drawing : (s : Settings) → 0 < s.bits → (ws : List ℕ) → length (drawing s ws) ≡ (slot_total s (length ws)).0
unfolding drawing slot_total
length-drawing s k [] = length_none s s.format s.phase
length-drawing s k (w ∷ ws) = length_some s k s.format w ws
