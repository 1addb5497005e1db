-- The tables are those of the drawings: a drawing is what its table shows.
use Prim.Native.Nat.{ℕ, zero, suc, ◌+◌, ◌-◌, ◌*◌, ◌%◌, ◌≤◌, ◌<◌}
use mathlib.Core.Path.{◌≡◌, refl, sym, ap, ap₂, ◌∙◌}
use mathlib.Core.Bool.{Bool, true, false, not, ◌&&◌}
use mathlib.Core.List.{List, [], ◌∷◌, ◌++◌, map, append_assoc}
use native.Mathlib.Omega.{arith}
use lib.Dec.{eqb}
use borrow.Author.Tests.{ne_eqb}
use Rattle.registers.specs.Choose.{pick}
use Rattle.registers.specs.Settings.{settings_by}
use Rattle.registers.specs.declared.settings.Format.{Format}
use Rattle.registers.specs.declared.settings.Format.TheVariants.{Motorola, Ti, Microwire, Reserved}
use Rattle.registers.specs.declared.settings.Settings.{Settings}
use Rattle.frames.specs.Bits.{bit_of}
use Rattle.frames.specs.Lines.{byte_of}
use Rattle.frames.specs.declared.lines.Lines.{Lines}
use Rattle.serial.specs.Drawing.{low, idle, bit_lines, frames0, chain1, marked, held, joined, quiets, chain_m, drawing}
use Rattle.serial.proofs.Drawing.Injective.{Serves}
use Rattle.judge.specs.Place.{motorola_table, ti_table, microwire_table, table_of, lead_byte, bit_byte, end_byte, wait_byte}
use Rattle.judge.specs.declared.place.Table.{Table}
use Rattle.judge.proofs.Rests.{down, some, mark_at, bits_from, last_of, after_word, word_from, whole, Good}

-- settings with these fields; with its own fields they are the settings
abbrev fixed : Format → Bool → Bool → Settings → Settings
fixed f phase polarity s = settings_by f phase polarity s.bits s.divisor s.slave s.sod s.loopback s.enabled s.edition2

-- Bits ----------------------------------------------------------------------------------------------------------------

-- a slot that shows its bit on TXD, FSS LOW
abbrev Plain : (Bool → Lines) → ℕ → Type 0
Plain f base = (d : Bool) → byte_of (f d) ≡ bit_byte base false d

low_plain : (s : Settings) (c : Bool) → Plain (low s c) (byte_of (low s c false))
unfolding byte_of bit_byte
low_plain s c d = omega arith

-- a format whose bits look so in their two slots
record Shows (t : Table) (f g : Bool → Lines) : Type 0 where
  first : Plain f t.first
  second : Plain g t.second

module _ (t : Table) (m : Bool) (f g : Bool → Lines) (shows : Shows t f g) (w : ℕ) where
  -- n bits that have no mark, and `rest`, which begins with the last k
  bits_shown : (k : ℕ) → ((x : ℕ) → k ≤ x → mark_at t m x ≡ false) → (n i e j : ℕ) (rest : List Lines) (r : List ℕ) → i + n ≡ e → n + k ≡ j
      → map byte_of rest ≡ bits_from t m w e k ++ r → map byte_of (bit_lines f g t.width w i n ++ rest) ≡ bits_from t m w i j ++ r
  bits_shown k l zero i e j rest r a b h =
      let x : e ≡ i = omega arith in
      let y : k ≡ j = omega arith in
      h ∙ ap₂ (λ (u v : ℕ). bits_from t m w u v ++ r) x y
  bits_shown k l (suc n) i e zero rest r a b h = absurd (omega arith)
  bits_shown k l (suc n) i e (suc j) rest r a b h =
      let d = bit_of t.width w i in
      let z : false ≡ mark_at t m j = sym (l j (omega arith)) in
      ap₂ ◌∷◌ (shows.first d ∙ ap (λ (u : Bool). bit_byte t.first u d) z)
      (ap₂ ◌∷◌ (shows.second d ∙ ap (λ (u : Bool). bit_byte t.second u d) z)
      (bits_shown k l n (i + 1) e j rest r (omega arith) (omega arith) h))

  -- all bits of a word, where there are no marks
  word_shown : t.marks ≡ false → (rest : List Lines) (r : List ℕ) → map byte_of rest ≡ r
      → map byte_of (bit_lines f g t.width w 0 t.width ++ rest) ≡ bits_from t m w 0 t.width ++ r
  word_shown e rest r h = bits_shown 0 (λ x _. ap (λ (u : Bool). (u && eqb x 0) && m) e) t.width 0 t.width t.width rest r (omega arith) (omega arith) h

-- Motorola ------------------------------------------------------------------------------------------------------------

module _ (phase polarity : Bool) (s : Settings) where
  abbrev SM : Settings
  SM = fixed Motorola phase polarity s

  motorola_shows : Shows (motorola_table SM) (low SM phase) (low SM (not phase))
  unfolding motorola_table
  motorola_shows = record { first = low_plain SM phase; second = low_plain SM (not phase) }

  -- the three slots after a last bit d
  end_shown : (d : Bool) → map byte_of (low SM false d ∷ idle SM ∷ idle SM ∷ []) ≡ down (end_byte (motorola_table SM) d) 3
  unfolding byte_of end_byte motorola_table
  end_shown d = ap (λ (x : ℕ). x ∷ byte_of (idle SM) ∷ byte_of (idle SM) ∷ []) (omega arith)

module _ (polarity : Bool) (s : Settings) where
  abbrev S0 : Settings
  S0 = fixed Motorola false polarity s

  abbrev S1 : Settings
  S1 = fixed Motorola true polarity s

  -- every word has slot 0, its bits and the three slots
  frames0_shown : (d : Bool) (ws : List ℕ) → map byte_of (frames0 S0 ws) ≡ after_word (motorola_table S0) d ws
  unfolding motorola_table lead_byte wait_byte
  frames0_shown d [] = refl
  frames0_shown d (w ∷ ws) =
      let t = motorola_table S0 in
      let last = low S0 false (last_of t w) ∷ idle S0 ∷ idle S0 ∷ [] in
      let bits = bit_lines (low S0 false) (low S0 true) s.bits w 0 s.bits in
      ap (λ (ls : List Lines). byte_of (low S0 false false) ∷ map byte_of ls) (append_assoc bits last (frames0 S0 ws))
      ∙ ap (λ (r : List ℕ). byte_of (low S0 false false) ∷ r)
      (word_shown t (some ws) (low S0 false) (low S0 true) (motorola_shows false polarity s) w refl (last ++ frames0 S0 ws) _
      (ap₂ ◌++◌ (end_shown false polarity s (last_of t w)) (frames0_shown (last_of t w) ws)))

  -- another word's bits follow at once
  chain1_shown : (w : ℕ) (ws : List ℕ) → map byte_of (chain1 S1 w ws) ≡ word_from (motorola_table S1) w ws
  unfolding motorola_table
  chain1_shown w [] =
      word_shown (motorola_table S1) false (low S1 true) (low S1 false) (motorola_shows true polarity s) w refl _ _ (end_shown true polarity s (last_of (motorola_table S1) w))
  chain1_shown w (u ∷ us) =
      word_shown (motorola_table S1) true (low S1 true) (low S1 false) (motorola_shows true polarity s) w refl _ _ (chain1_shown u us)

-- TI ------------------------------------------------------------------------------------------------------------------

module _ (phase polarity : Bool) (s : Settings) (b : 1 ≤ s.bits) where
  abbrev ST : Settings
  ST = fixed Ti phase polarity s

  -- FSS HIGH with the last bit is the mark
  held_shown : (clk d : Bool) → byte_of (held clk d) ≡ bit_byte (byte_of (low ST clk false)) true d
  unfolding byte_of bit_byte
  held_shown clk d = omega arith

  -- the bits before the last have no mark
  early_shown : (m : Bool) (w : ℕ) (rest : List Lines) (r : List ℕ) → map byte_of rest ≡ bits_from (ti_table ST) m w (s.bits - 1) 1 ++ r
      → map byte_of (bit_lines (low ST true) (low ST false) s.bits w 0 (s.bits - 1) ++ rest) ≡ bits_from (ti_table ST) m w 0 s.bits ++ r
  unfolding ti_table
  early_shown m w rest r h =
      bits_shown (ti_table ST) m (low ST true) (low ST false) (record { first = low_plain ST true; second = low_plain ST false }) w
      1 (λ x k. ap (λ (u : Bool). u && m) (ne_eqb x 0 (omega arith))) (s.bits - 1) 0 (s.bits - 1) s.bits rest r (omega arith) (omega arith) h

  joined_shown : (w : ℕ) (ws : List ℕ) → map byte_of (joined ST w ws) ≡ word_from (ti_table ST) w ws
  unfolding ti_table
  joined_shown w [] =
      let d = bit_of s.bits w (s.bits - 1) in
      early_shown false w _ _ (ap₂ (λ (x y : ℕ). x ∷ y ∷ []) (low_plain ST true d) (low_plain ST false d))
  joined_shown w (u ∷ us) =
      let d = bit_of s.bits w (s.bits - 1) in
      early_shown true w _ _ (ap₂ ◌∷◌ (held_shown true d) (ap₂ ◌∷◌ (held_shown false d) (joined_shown u us)))

-- Microwire -----------------------------------------------------------------------------------------------------------

-- the clock runs on in the wait and the data bits
quiets_shown : (f : ℕ → ℕ) → ((x : ℕ) → f x ≡ 8 + x % 2) → (n j : ℕ) (rest : List Lines) (r : List ℕ) → j ≡ 2 * n → map byte_of rest ≡ r
    → map byte_of (quiets n ++ rest) ≡ down f j ++ r
unfolding byte_of
quiets_shown f c zero zero rest r e h = h
quiets_shown f c zero (suc j) rest r e h = absurd (omega arith)
quiets_shown f c (suc n) zero rest r e h = absurd (omega arith)
quiets_shown f c (suc n) (suc zero) rest r e h = absurd (omega arith)
quiets_shown f c (suc n) (suc (suc j)) rest r e h =
    let x : 8 ≡ f (suc (suc j)) = omega (arith, c (suc (suc j))) in
    let y : 9 ≡ f (suc j) = omega (arith, c (suc j)) in
    ap₂ ◌∷◌ x (ap₂ ◌∷◌ y (quiets_shown f c n j rest r (omega arith) h))

module _ (phase polarity : Bool) (s : Settings) where
  abbrev SW : Settings
  SW = fixed Microwire phase polarity s

  microwire_shows : Shows (microwire_table SW) (low SW false) (low SW true)
  unfolding microwire_table
  microwire_shows = record { first = low_plain SW false; second = low_plain SW true }

  chain_m_shown : (d : Bool) (ws : List ℕ) → map byte_of (chain_m SW ws) ≡ after_word (microwire_table SW) d ws
  unfolding microwire_table wait_byte end_byte byte_of
  chain_m_shown d [] = refl
  chain_m_shown d (w ∷ ws) =
      let t = microwire_table SW in
      word_shown t (some ws) (low SW false) (low SW true) microwire_shows w refl (quiets (s.bits + 1) ++ chain_m SW ws) _
      (quiets_shown (wait_byte t (last_of t w)) (λ x. refl) (s.bits + 1) (2 * s.bits + 2) (chain_m SW ws) _ (omega arith) (chain_m_shown (last_of t w) ws))

-- All formats ---------------------------------------------------------------------------------------------------------

drawn_on : (f : Format) (phase polarity : Bool) (s : Settings) → Serves f → 1 ≤ s.bits → (w : ℕ) (ws : List ℕ)
    → map byte_of (drawing (fixed f phase polarity s) (w ∷ ws)) ≡ whole (table_of (fixed f phase polarity s)) w ws
unfolding drawing table_of motorola_table ti_table microwire_table lead_byte
drawn_on Motorola true polarity s r b w ws = ap (λ (x : List ℕ). byte_of (low (fixed Motorola true polarity s) false false) ∷ x) (chain1_shown polarity s w ws)
drawn_on Motorola false polarity s r b w ws = frames0_shown polarity s false (w ∷ ws)
drawn_on Ti phase polarity s r b w ws =
    ap (λ (x : List ℕ). byte_of (marked true) ∷ byte_of (marked false) ∷ x) (joined_shown phase polarity s b w ws)
drawn_on Microwire phase polarity s r b w ws = chain_m_shown phase polarity s false (w ∷ ws)
drawn_on Reserved phase polarity s r b w ws = absurd (r refl)

-- A drawing is what its table shows.
pub drawn : (s : Settings) → Serves s.format → 1 ≤ s.bits → (w : ℕ) (ws : List ℕ) → map byte_of (drawing s (w ∷ ws)) ≡ whole (table_of s) w ws
drawn s r b w ws = drawn_on s.format s.phase s.polarity s r b w ws

-- Facts of the tables -------------------------------------------------------------------------------------------------

-- a slot of a frame with TXD LOW shows the clock alone
low_small : (s : Settings) (clk : Bool) → byte_of (low s clk false) < 2
unfolding byte_of
low_small s clk = small (low s clk false).clk
  where
    small : (c : Bool) → pick c 1 0 + 0 + 0 + 0 < 2
    small true = omega arith
    small false = omega arith

-- with SPH 1 a bit begins with the active clock, and the slot after the last bit has the idle one
apart1 : (polarity c d : Bool) (s : Settings) → eqb (bit_byte (byte_of (low (fixed Motorola true polarity s) true false)) false c) (end_byte (motorola_table (fixed Motorola true polarity s)) d 3) ≡ false
unfolding byte_of bit_byte end_byte motorola_table
apart1 true true true s = refl
apart1 true true false s = refl
apart1 true false true s = refl
apart1 true false false s = refl
apart1 false true true s = refl
apart1 false true false s = refl
apart1 false false true s = refl
apart1 false false false s = refl

motorola_apart : (phase polarity : Bool) (s : Settings) → (n : ℕ) → pick phase 3 0 ≡ suc n → (c d : Bool)
    → eqb (bit_byte (byte_of (low (fixed Motorola phase polarity s) phase false)) false c) (end_byte (motorola_table (fixed Motorola phase polarity s)) d (pick phase 3 0)) ≡ false
motorola_apart true polarity s n e c d = apart1 polarity c d s
motorola_apart false polarity s n e c d = absurd (omega arith)

motorola_again : (phase : Bool) (n : ℕ) → pick phase 3 0 ≡ suc n → ◌≡◌ {A = ℕ} (pick phase 0 1) 0
motorola_again true n e = refl
motorola_again false n e = absurd (omega arith)

-- the slot after Microwire's last data bit is released
apart_m : (phase polarity c d : Bool) (s : Settings) → eqb (bit_byte (byte_of (low (fixed Microwire phase polarity s) false false)) false c) (end_byte (microwire_table (fixed Microwire phase polarity s)) d 3) ≡ false
unfolding byte_of bit_byte end_byte microwire_table
apart_m phase polarity true d s = refl
apart_m phase polarity false d s = refl

good_on : (f : Format) (phase polarity : Bool) (s : Settings) → Serves f → 2 ≤ s.bits → s.bits ≤ 16 → Good (table_of (fixed f phase polarity s))
unfolding table_of motorola_table ti_table microwire_table
good_on Motorola phase polarity s r b c =
    let S = fixed Motorola phase polarity s in
    record {
      least = b;
      most = c;
      first = low_small S phase;
      second = low_small S (not phase);
      marked_waits = λ e. cc;
      marked_closes = λ e. cc;
      marked_again = λ e. cc;
      closing_again = λ n e. motorola_again phase n e;
      closing_apart = λ n e x d. motorola_apart phase polarity s n e x d;
    }
good_on Ti phase polarity s r b c =
    let S = fixed Ti phase polarity s in
    record {
      least = b;
      most = c;
      first = low_small S true;
      second = low_small S false;
      marked_waits = λ e. refl;
      marked_closes = λ e. refl;
      marked_again = λ e. refl;
      closing_again = λ n e. refl;
      closing_apart = λ n e x d. absurd (omega arith);
    }
good_on Microwire phase polarity s r b c =
    let S = fixed Microwire phase polarity s in
    record {
      least = omega arith;
      most = omega arith;
      first = low_small S false;
      second = low_small S true;
      marked_waits = λ e. cc;
      marked_closes = λ e. cc;
      marked_again = λ e. refl;
      closing_again = λ n e. refl;
      closing_apart = λ n e x d. apart_m phase polarity x d s;
    }
good_on Reserved phase polarity s r b c = absurd (r refl)

-- Every table is as the way through a recording asks.
pub good : (s : Settings) → Serves s.format → 2 ≤ s.bits → s.bits ≤ 16 → Good (table_of s)
good s r b c = good_on s.format s.phase s.polarity s r b c
