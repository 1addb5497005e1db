-- After its load a master shows idle lines. A recording that is longer than the load determines the load too.
use Prim.Native.Nat.{ℕ, zero, suc, ◌+◌, ◌-◌, ◌*◌, ◌≤◌, ◌<◌}
use mathlib.Core.Path.{◌≡◌, refl, sym, ap, ◌∙◌, subst}
use mathlib.Core.Bool.{Bool, true, false, true≢false}
use mathlib.Core.List.{List, [], ◌∷◌, ◌++◌, append_assoc, append-nil, map}
use native.Mathlib.Nat.{mul-le-mul_right}
use native.Mathlib.Omega.{arith}
use lib.Dec.{ltb}
use lib.ListN.{length, length-append, replicate}
use borrow.Author.Tests.{ltb-true, ltb-false}
use Rattle.registers.specs.declared.settings.Format.{Format}
use Rattle.registers.specs.declared.settings.Format.TheVariants.{Motorola, Ti, Microwire, Reserved}
use Rattle.registers.specs.declared.settings.Settings.{Settings}
use Rattle.frames.specs.Bits.{bit_of, cut}
use Rattle.frames.specs.Slots.{width_of}
use Rattle.frames.specs.Lines.{idle_on}
use Rattle.serial.specs.Drawing.{slot_total, total_on, low, idle, bit_lines, frame0, frames0, chain1, joined, quiet, quiets, chain_m, drawing_on, drawing, stretch}
use Rattle.serial.proofs.Drawing.Injective.{Serves, cons_tail, cons_head, nil_cons, append_left, idle_released, drawing_injective, stretch_injective, length-stretch, length-drawing}
use Rattle.frames.specs.declared.lines.Lines.{Lines}

-- After the list A all entries are x.
behind : (A : List Lines) (k : ℕ) (x : Lines) (P : List Lines) (l : Lines) (Q : List Lines) → A ++ replicate k x ≡ P ++ (l ∷ Q) → length A ≤ length P → l ≡ x
behind [] zero x [] l Q e n = nil_cons e
behind [] (suc k) x [] l Q e n = sym (cons_head e)
behind [] zero x (p ∷ P) l Q e n = nil_cons e
behind [] (suc k) x (p ∷ P) l Q e n = behind [] k x P l Q (cons_tail e) (omega arith)
behind (a ∷ A) k x [] l Q e n = absurd (omega arith)
behind (a ∷ A) k x (p ∷ P) l Q e n = behind A k x P l Q (cons_tail e) (omega arith)

-- How a drawing ends -----------------------------------------------------------------------------------------------------

-- An entry that is not idle, with at most two after it.
record Closing (s : Settings) (ls : List Lines) : Type 0 where
  front : List Lines
  mark : Lines
  back : List Lines
  whole : front ++ (mark ∷ back) ≡ ls
  short : length back ≤ 2
  shown : mark ≡ idle s → ⊥

module _ {s : Settings} where
  closing_cons : {l : Lines} {ls : List Lines} → Closing s ls → Closing s (l ∷ ls)
  closing_cons {l} c =
      record { front = l ∷ c.front; mark = c.mark; back = c.back; whole = ap (λ (z : List Lines). l ∷ z) c.whole; short = c.short; shown = c.shown }

  closing_behind : (us : List Lines) {ls : List Lines} → Closing s ls → Closing s (us ++ ls)
  closing_behind [] c = c
  closing_behind (u ∷ us) c = closing_cons (closing_behind us c)

module _ (s : Settings) where
  -- lines that are driven are not idle
  driven : {l : Lines} → l.released ≡ false → l ≡ idle s → ⊥
  driven r e = true≢false (sym (idle_released s.format s.polarity) ∙ sym (ap (λ (l : Lines). l.released) e) ∙ r)

  -- the last bit and two idle slots
  closing_low : (d : Bool) → Closing s (low s false d ∷ idle s ∷ idle s ∷ [])
  closing_low d = record { front = []; mark = low s false d; back = idle s ∷ idle s ∷ []; whole = refl; short = omega arith; shown = driven refl }

  closing0 : (w : ℕ) (ws : List ℕ) → Closing s (frames0 s (w ∷ ws))
  closing0 w [] =
      subst (Closing s) (sym (append-nil (frame0 s w)))
      (closing_cons (closing_behind (bit_lines (low s false) (low s true) s.bits w 0 s.bits) (closing_low (bit_of s.bits w (s.bits - 1)))))
  closing0 w (u ∷ ws) = closing_behind (frame0 s w) (closing0 u ws)

  closing1 : (w : ℕ) (ws : List ℕ) → Closing s (chain1 s w ws)
  closing1 w [] = closing_behind (bit_lines (low s true) (low s false) s.bits w 0 s.bits) (closing_low (bit_of s.bits w (s.bits - 1)))
  closing1 w (u ∷ ws) = closing_behind (bit_lines (low s true) (low s false) s.bits w 0 s.bits) (closing1 u ws)

  closing_t : (w : ℕ) (ws : List ℕ) → Closing s (joined s w ws)
  closing_t w [] =
      let d = bit_of s.bits w (s.bits - 1) in
      closing_behind (bit_lines (low s true) (low s false) s.bits w 0 (s.bits - 1))
      (record { front = low s true d ∷ []; mark = low s false d; back = []; whole = refl; short = omega arith; shown = driven refl })
  closing_t w (u ∷ ws) =
      closing_behind (bit_lines (low s true) (low s false) s.bits w 0 (s.bits - 1)) (closing_cons (closing_cons (closing_t u ws)))

  closing_m : s.format ≡ Microwire → (ws : List ℕ) → Closing s (chain_m s ws)
  closing_m e [] =
      record {
        front = [];
        mark = quiet false;
        back = idle s ∷ idle s ∷ [];
        whole = refl;
        short = omega arith;
        shown = λ q. true≢false (ap (λ (f : Format). (idle_on f s.polarity).fss) (sym e) ∙ ap (λ (l : Lines). l.fss) (sym q));
      }
  closing_m e (w ∷ ws) = closing_behind (bit_lines (low s false) (low s true) 8 w 0 8) (closing_behind (quiets (s.bits + 1)) (closing_m e ws))

  closing_motorola : (phase : Bool) (w : ℕ) (ws : List ℕ) → Closing s (drawing_on Motorola phase s (w ∷ ws))
  closing_motorola true w ws = closing_cons (closing1 w ws)
  closing_motorola false w ws = closing0 w ws

  closing_on : (f : Format) → Serves f → s.format ≡ f → (w : ℕ) (ws : List ℕ) → Closing s (drawing_on f s.phase s (w ∷ ws))
  closing_on Motorola r e w ws = closing_motorola s.phase w ws
  closing_on Ti r e w ws = closing_cons (closing_cons (closing_t w ws))
  closing_on Microwire r e w ws = closing_m e (w ∷ ws)
  closing_on Reserved r e w ws = absurd (r refl)

  closing : Serves s.format → (w : ℕ) (ws : List ℕ) → Closing s (drawing s (w ∷ ws))
  unfolding drawing
  closing r w ws = closing_on s.format r refl w ws

-- One word more is three slots more --------------------------------------------------------------------------------------

first_motorola : (phase : Bool) (b : ℕ) → 2 ≤ b → 3 ≤ total_on Motorola phase b 1
first_motorola true b l = omega arith
first_motorola false b l = omega arith

first_on : (f : Format) → Serves f → (phase : Bool) (b : ℕ) → 2 ≤ b → 3 ≤ total_on f phase b 1
first_on Motorola r phase b l = first_motorola phase b l
first_on Ti r phase b l = omega arith
first_on Microwire r phase b l = omega arith
first_on Reserved r phase b l = absurd (r refl)

next_motorola : (phase : Bool) (b n : ℕ) → 2 ≤ b → total_on Motorola phase b (suc n) + 3 ≤ total_on Motorola phase b (suc (suc n))
next_motorola true b n l = omega arith
next_motorola false b n l = omega arith

next_on : (f : Format) → Serves f → (phase : Bool) (b n : ℕ) → 2 ≤ b → total_on f phase b (suc n) + 3 ≤ total_on f phase b (suc (suc n))
next_on Motorola r phase b n l = next_motorola phase b n l
next_on Ti r phase b n l = omega arith
next_on Microwire r phase b n l = omega arith
next_on Reserved r phase b n l = absurd (r refl)

module _ (s : Settings) (r : Serves s.format) (two : 2 ≤ s.bits) where
  grows : (n : ℕ) → (slot_total s n).0 + 3 ≤ (slot_total s (suc n)).0
  unfolding slot_total
  grows zero = omega (arith, first_on s.format r s.phase s.bits two)
  grows (suc n) = next_on s.format r s.phase s.bits n two

  apart : (d n m : ℕ) → m ≡ suc (d + n) → (slot_total s n).0 + 3 ≤ (slot_total s m).0
  apart zero n m e =
      let q : suc n ≡ m = omega (arith, e) in
      subst (λ (z : ℕ). (slot_total s n).0 + 3 ≤ (slot_total s z).0) q (grows n)
  apart (suc d) n m e =
      let q : suc (suc (d + n)) ≡ m = omega (arith, e) in
      subst (λ (z : ℕ). (slot_total s n).0 + 3 ≤ (slot_total s z).0) q (omega (arith, apart d n (suc (d + n)) refl, grows (suc (d + n))))

-- Two windows ------------------------------------------------------------------------------------------------------------

pub stretch-append : (h : ℕ) (ls ks : List Lines) → stretch h (ls ++ ks) ≡ stretch h ls ++ stretch h ks
stretch-append h [] ks = refl
stretch-append h (l ∷ ls) ks = ap (λ (z : List Lines). replicate h l ++ z) (stretch-append h ls ks) ∙ sym (append_assoc (replicate h l) (stretch h ls) (stretch h ks))

module _ (s : Settings) (r : Serves s.format) (two : 2 ≤ s.bits) (h : 0 < s.divisor.0) where
  -- the longer load shows an entry where the shorter one is over
  longer : (ws vs : List ℕ) (j k : ℕ) → length ws < length vs
      → stretch s.divisor.0 (drawing s ws) ++ replicate j (idle s) ≡ stretch s.divisor.0 (drawing s vs) ++ replicate k (idle s) → ⊥
  longer ws [] j k l e = absurd (omega arith)
  longer ws (v ∷ vs) j k l e = c.shown (behind (stretch s.divisor.0 (drawing s ws)) j (idle s) (stretch s.divisor.0 c.front) c.mark _ (e ∙ parted) room)
    where
      c : Closing s (drawing s (v ∷ vs))
      c = closing s r v vs

      i : ℕ
      i = s.divisor.0 - 1

      whole : suc i ≡ s.divisor.0
      whole = omega (arith, h)

      parted : stretch s.divisor.0 (drawing s (v ∷ vs)) ++ replicate k (idle s)
          ≡ stretch s.divisor.0 c.front ++ (c.mark ∷ ((replicate i c.mark ++ stretch s.divisor.0 c.back) ++ replicate k (idle s)))
      parted =
          ap (λ (z : List Lines). stretch s.divisor.0 z ++ replicate k (idle s)) (sym c.whole)
          ∙ ap (λ (z : List Lines). z ++ replicate k (idle s)) (stretch-append s.divisor.0 c.front (c.mark ∷ c.back))
          ∙ append_assoc (stretch s.divisor.0 c.front) (replicate s.divisor.0 c.mark ++ stretch s.divisor.0 c.back) (replicate k (idle s))
          ∙ ap (λ (n : ℕ). stretch s.divisor.0 c.front ++ ((replicate n c.mark ++ stretch s.divisor.0 c.back) ++ replicate k (idle s))) (sym whole)

      slots : length (drawing s ws) ≤ length c.front
      slots =
          let q : length (v ∷ vs) ≡ suc ((length vs - length ws) + length ws) = omega (arith, l) in
          omega (
            arith,
            apart s r two (length vs - length ws) (length ws) (length (v ∷ vs)) q,
            length-drawing s (omega (arith, two)) ws,
            length-drawing s (omega (arith, two)) (v ∷ vs),
            length-append c.front (c.mark ∷ c.back),
            ap length c.whole,
            c.short,
          )

      room : length (stretch s.divisor.0 (drawing s ws)) ≤ length (stretch s.divisor.0 c.front)
      room = omega (arith, length-stretch s.divisor.0 (drawing s ws), length-stretch s.divisor.0 c.front, mul-le-mul_right {m = length (drawing s ws)} {n = length c.front} s.divisor.0 slots)

  -- Two loads that show the same lines, with idle lines after both, are equal after cutting to b bits, in Microwire to 8.
  pub window_injective : s.bits ≤ 16 → (ws vs : List ℕ) (j k : ℕ)
      → stretch s.divisor.0 (drawing s ws) ++ replicate j (idle s) ≡ stretch s.divisor.0 (drawing s vs) ++ replicate k (idle s)
      → map (cut (width_of s)) ws ≡ map (cut (width_of s)) vs
  window_injective m ws vs j k e = go (ltb (length ws) (length vs)) (ltb (length vs) (length ws)) refl refl
    where
      go : (a b : Bool) → ltb (length ws) (length vs) ≡ a → ltb (length vs) (length ws) ≡ b → map (cut (width_of s)) ws ≡ map (cut (width_of s)) vs
      go true b p q = absurd (longer ws vs j k (ltb-true (length ws) (length vs) p) e)
      go false true p q = absurd (longer vs ws k j (ltb-true (length vs) (length ws) q) (sym e))
      go false false p q =
          let n : length ws ≡ length vs = omega (arith, ltb-false (length ws) (length vs) p, ltb-false (length vs) (length ws) q) in
          let l : length (drawing s ws) ≡ length (drawing s vs) =
          length-drawing s (omega (arith, two)) ws ∙ ap (λ (z : ℕ). (slot_total s z).0) n ∙ sym (length-drawing s (omega (arith, two)) vs) in
          drawing_injective s r m two ws vs
          (stretch_injective s.divisor.0 h (drawing s ws) (drawing s vs)
          (append_left (stretch s.divisor.0 (drawing s ws)) (stretch s.divisor.0 (drawing s vs)) (replicate j (idle s)) (replicate k (idle s))
          (length-stretch s.divisor.0 (drawing s ws) ∙ ap (λ (i : ℕ). i * s.divisor.0) l ∙ sym (length-stretch s.divisor.0 (drawing s vs))) e))
