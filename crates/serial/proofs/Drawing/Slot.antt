-- Slots of a master alone: one event, then the same lines for h cycles; and the events' laws that all formats share.
use Prim.Native.Nat.{ℕ, zero, suc, ◌+◌, ◌-◌, ◌≤◌, ◌<◌}
use mathlib.Core.Path.{◌≡◌, refl, sym, ap, ◌∙◌, subst}
use mathlib.Core.Bool.{Bool, true, false}
use mathlib.Core.List.{List, [], ◌∷◌, ◌++◌}
use native.Mathlib.Omega.{arith}
use lib.ListN.{get_or, replicate}
use borrow.Author.Tests.{lt-ltb, ne_eqb}
use Rattle.registers.specs.Settings.{settings_by}
use Rattle.std.specs.Prelude.{None}
use Rattle.registers.specs.Choose.{pick}
use Rattle.registers.specs.Time.{slots}
use Rattle.registers.specs.Transfer.{rest}
use Rattle.registers.specs.declared.settings.Format.{Format}
use Rattle.registers.specs.declared.settings.Settings.{Settings}
use Rattle.frames.specs.Bits.{bit_of}
use Rattle.frames.specs.Engine.{clear_shift, no_word, captured_of, capture_step, cleared, with_shift}
use Rattle.frames.specs.Slots.{event_of, last_slot}
use Rattle.frames.specs.Lines.{master_lines, master_txd}
use Rattle.frames.specs.Master.{act, resting, acting, data_bit, master_step, master_end}
use Rattle.serial.specs.Drawing.{idle, bit_lines, stretch}
use Rattle.serial.proofs.Cycles.{waits, waits_cons}
use Rattle.serial.proofs.Unreceived.{without_received, step_without_received}
use Rattle.serial.proofs.WithinSlot.{step_within, elapsed_at, Live, next_slot, after_cycles, end_elapsed, after_within, after_last, next_within, next_last, sending, shifted, parked}
use Rattle.serial.proofs.Drawing.Solo.{Solo, moves, acted, cycle, shows, Goes, none, more}
use Rattle.frames.specs.declared.engine.Shift.{Shift}
use Rattle.frames.specs.declared.engine.Engine.{Engine}
use Rattle.frames.specs.declared.engine.Step.{Step}
use Rattle.frames.specs.declared.lines.Lines.{Lines}
use Rattle.frames.specs.declared.slots.Event.{Event}
use Rattle.frames.specs.declared.slots.Event.TheVariants.{Release}

-- the settings of an enabled master, with its format and phase
abbrev pub fixed : Format → Bool → Settings → Settings
fixed f phase s =
    settings_by f phase s.polarity s.bits s.divisor false s.sod s.loopback true s.edition2

abbrev pub solo : List ℕ → Engine → Solo
solo tx e = record { tx = tx; engine = e }

-- A slot is h cycles ---------------------------------------------------------------------------------------------------

module _ (s : Settings) where
  acted_within : (tx : List ℕ) (c : ℕ) (e : Engine) → acted s (solo tx (elapsed_at (c + 1) (without_received e))) ≡ solo tx (elapsed_at (c + 1) (without_received e))
  unfolding acted moves
  acted_within tx c e =
      ap (λ (r : Step). solo (pick r.takes (rest tx) tx) (without_received r.engine))
      (step_within s (elapsed_at (c + 1) (without_received e)) (waits tx) (get_or tx 0 0) false (omega arith))

  pub cycle_within : (tx : List ℕ) (c : ℕ) (e : Engine) → Live e → cycle s (solo tx (elapsed_at (c + 1) (without_received e))) ≡ solo tx (after_cycles s (c + 1 + 1) (without_received e))
  unfolding cycle
  cycle_within tx c e live =
      ap (λ (z : Solo). solo z.tx (master_end s z.engine)) (acted_within tx c e) ∙ ap (solo tx) (end_elapsed s (c + 1) (without_received e) live)

  shows_within : (tx : List ℕ) (c : ℕ) (e : Engine) → shows s (solo tx (elapsed_at (c + 1) (without_received e))) ≡ master_lines s (without_received e)
  unfolding master_lines master_txd
  shows_within tx c e = ap (λ (z : Solo). master_lines s z.engine) (acted_within tx c e)

  goes_from : {ls : List Lines} {x y z : Solo} → x ≡ y → Goes s ls y z → Goes s ls x z
  goes_from {ls} {z = z} e g = subst (λ (u : Solo). Goes s ls u z) (sym e) g

  pub goes_then : {us vs : List Lines} {x y z : Solo} → Goes s us x y → Goes s vs y z → Goes s (us ++ vs) x z
  goes_then none h = h
  goes_then (more a b g) h = more a b (goes_then g h)

  -- the slot's other cycles
  rest_goes : (j c : ℕ) (tx : List ℕ) (e : Engine) → Live e → c + 1 + j ≡ s.divisor.0
      → Goes s (replicate j (master_lines s (without_received e))) (solo tx (after_cycles s (c + 1) (without_received e))) (solo tx (next_slot s (without_received e)))
  rest_goes zero c tx e live q = goes_from (ap (solo tx) (after_last s (c + 1) (without_received e) (omega arith))) none
  rest_goes (suc j) c tx e live q =
      goes_from (ap (solo tx) (after_within s (c + 1) (without_received e) (omega arith)))
      (more (shows_within tx c e) (cycle_within tx c e live) (rest_goes j (c + 1) tx e live (omega arith)))

  -- A slot: the state after its event, the lines that it shows, the state at the next slot's beginning.
  pub record Slot (x : Solo) (l : Lines) (y : Solo) : Type 0 where
    pub state : Solo
    pub acts : acted s x ≡ state
    pub begins : state.engine ≡ elapsed_at 0 (without_received state.engine)
    pub lines : master_lines s state.engine ≡ l
    pub live : Live state.engine
    pub ends : solo state.tx (next_slot s (without_received state.engine)) ≡ y

  -- slots in a row
  pub data Draws : List Lines → Solo → Solo → Type 0 where
    done : {x : Solo} → Draws [] x x
    draw : {l : Lines} {ls : List Lines} {x y z : Solo} → Slot x l y → Draws ls y z → Draws (l ∷ ls) x z

  pub draws_then : {us vs : List Lines} {x y z : Solo} → Draws us x y → Draws vs y z → Draws (us ++ vs) x z
  draws_then done h = h
  draws_then (draw a g) h = draw a (draws_then g h)

  pub draws_end : {ls : List Lines} {x y z : Solo} → Draws ls x y → y ≡ z → Draws ls x z
  draws_end {ls} {x} d e = subst (λ (u : Solo). Draws ls x u) e d

  pub draws_same : {ls ks : List Lines} {x y : Solo} → Draws ls x y → ls ≡ ks → Draws ks x y
  draws_same {x = x} {y = y} d e = subst (λ (u : List Lines). Draws u x y) e d

  pub first_cycle : {x y : Solo} {l : Lines} → (k : Slot x l y) → cycle s x ≡ solo k.state.tx (after_cycles s (0 + 1) (without_received k.state.engine))
  unfolding cycle
  first_cycle k =
      let z = k.state in
      ap (λ (u : Solo). solo u.tx (master_end s u.engine)) k.acts
      ∙ ap (λ (e : Engine). solo z.tx (master_end s e)) k.begins
      ∙ ap (solo z.tx) (end_elapsed s 0 (without_received z.engine) k.live)

  state_lines : {x y : Solo} {l : Lines} → (k : Slot x l y) → master_lines s (without_received k.state.engine) ≡ l
  unfolding master_lines master_txd
  state_lines k = k.lines

  pub slot_goes : {x y : Solo} {l : Lines} → 0 < s.divisor.0 → Slot x l y → Goes s (replicate s.divisor.0 l) x y
  slot_goes {x} {y} {l} h k =
      let z = k.state in
      let j = s.divisor.0 - 1 in
      let q : suc j ≡ s.divisor.0 = omega arith in
      subst (λ (n : ℕ). Goes s (replicate n l) x y) q
      (more (ap (λ (u : Solo). master_lines s u.engine) k.acts ∙ k.lines) (first_cycle k)
      (subst (λ (m : Lines). Goes s (replicate j m) (solo z.tx (after_cycles s (0 + 1) (without_received z.engine))) y) (state_lines k)
      (subst (λ (u : Solo). Goes s (replicate j (master_lines s (without_received z.engine))) (solo z.tx (after_cycles s (0 + 1) (without_received z.engine))) u) k.ends
      (rest_goes j 0 z.tx z.engine k.live (omega arith)))))

  -- slots drawn are cycles shown
  pub draws_goes : {ls : List Lines} {x y : Solo} → 0 < s.divisor.0 → Draws ls x y → Goes s (stretch s.divisor.0 ls) x y
  draws_goes h done = none
  draws_goes h (draw k d) = goes_then (slot_goes h k) (draws_goes h d)

-- Slots of a frame -----------------------------------------------------------------------------------------------------

-- slot n of a frame, c bits captured, d on TXD, w being sent
abbrev pub on : ℕ → ℕ → Bool → ℕ → List ℕ → Solo
on n c d w tx = solo tx (sending n (shifted c d w 0))

-- what an event leaves in a frame: the slot, the shift registers, and whether a word is taken
abbrev pub move : ℕ → ℕ → Bool → ℕ → Bool → Step
move n c d w t = record { engine = sending n (shifted c d w 0); takes = t; completed = None }

-- no frame and no idle slot
abbrev pub rest_at : Shift → Engine
rest_at x = with_shift cleared x

module _ (s : Settings) where
  next_on : (n k c : ℕ) (d : Bool) (w : ℕ) (tx : List ℕ) → n + 1 ≡ k → n < (last_slot s).0 → solo tx (next_slot s (sending n (shifted c d w 0))) ≡ on k c d w tx
  next_on n k c d w tx e l = ap (solo tx) (next_within s (sending n (shifted c d w 0)) l) ∙ ap (λ (i : ℕ). on i c d w tx) e

  -- an event in a frame after which the frame goes on
  pub slot_on : (n c : ℕ) (d : Bool) (w : ℕ) (tx : List ℕ) (v : Event) (m c' : ℕ) (d' : Bool) (w' : ℕ) (t : Bool) (l : Lines) (k : ℕ)
      → event_of s (slots n) ≡ v → step_without_received (act s (sending n (shifted c d w 0)) (waits tx) (get_or tx 0 0) (data_bit s (master_txd s (sending n (shifted c d w 0))) false) v) ≡ move m c' d' w' t
      → master_lines s (sending m (shifted c' d' w' 0)) ≡ l → m < (last_slot s).0 → m + 1 ≡ k → Slot s (on n c d w tx) l (on k c' d' w' (pick t (rest tx) tx))
  unfolding acted moves master_step acting
  slot_on n c d w tx v m c' d' w' t l k e a q b z =
      let x = sending n (shifted c d w 0) in
      record {
        state = on m c' d' w' (pick t (rest tx) tx);
        acts = ap (λ (r : Step). record { tx = pick r.takes (rest tx) tx; engine = r.engine })
            (ap (λ (u : Event). step_without_received (act s x (waits tx) (get_or tx 0 0) (data_bit s (master_txd s x) false) u)) e ∙ a);
        begins = refl;
        lines = q;
        live = refl;
        ends = next_on m k c' d' w' (pick t (rest tx) tx) z b;
      }

  -- an event in the last slot of a frame that has no idle slot
  pub slot_last : (n c : ℕ) (d : Bool) (w : ℕ) (tx : List ℕ) (v : Event) (c' : ℕ) (d' : Bool) (w' : ℕ) (l : Lines)
      → event_of s (slots n) ≡ v → step_without_received (act s (sending n (shifted c d w 0)) (waits tx) (get_or tx 0 0) (data_bit s (master_txd s (sending n (shifted c d w 0))) false) v) ≡ move n c' d' w' false
      → master_lines s (sending n (shifted c' d' w' 0)) ≡ l → n ≡ (last_slot s).0 → Slot s (on n c d w tx) l (solo tx (rest_at clear_shift))
  unfolding acted moves master_step acting
  slot_last n c d w tx v c' d' w' l e a q b =
      let x = sending n (shifted c d w 0) in
      record {
        state = on n c' d' w' tx;
        acts = ap (λ (r : Step). record { tx = pick r.takes (rest tx) tx; engine = r.engine })
            (ap (λ (u : Event). step_without_received (act s x (waits tx) (get_or tx 0 0) (data_bit s (master_txd s x) false) u)) e ∙ a);
        begins = refl;
        lines = q;
        live = refl;
        ends = ap (solo tx) (next_last s (sending n (shifted c' d' w' 0)) (omega arith));
      }

  -- an idle master with a waiting word starts slot 0
  pub slot_start : (x : Shift) (w : ℕ) (tx : List ℕ) (v : Event) (d' : Bool) (l : Lines)
      → event_of s (slots 0) ≡ v → step_without_received (act s (rest_at x) true w (data_bit s (master_txd s (rest_at x)) false) v) ≡ move 0 0 d' w true
      → master_lines s (sending 0 (shifted 0 d' w 0)) ≡ l → 0 < (last_slot s).0 → Slot s (solo (w ∷ tx) (rest_at x)) l (on 1 0 d' w tx)
  unfolding acted moves master_step acting resting
  slot_start x w tx v d' l e a q b =
      record {
        state = on 0 0 d' w tx;
        acts = ap (λ (t : Bool). record { tx = pick (step_without_received (pick t (act s (rest_at x) t w (data_bit s (master_txd s (rest_at x)) false) (event_of s (slots 0))) (no_word (rest_at x)))).takes tx (w ∷ tx); engine = (step_without_received (pick t (act s (rest_at x) t w (data_bit s (master_txd s (rest_at x)) false) (event_of s (slots 0))) (no_word (rest_at x)))).engine }) (waits_cons w tx)
            ∙ ap (λ (r : Step). record { tx = pick r.takes tx (w ∷ tx); engine = r.engine })
            (ap (λ (u : Event). step_without_received (act s (rest_at x) true w (data_bit s (master_txd s (rest_at x)) false) u)) e ∙ a);
        begins = refl;
        lines = q;
        live = refl;
        ends = next_on 0 1 0 d' w tx refl b;
      }

  -- the frame is over
  pub slot_release : (n c : ℕ) (d : Bool) (w : ℕ) (tx : List ℕ) (k : ℕ) → event_of s (slots n) ≡ Release → 0 < n → n < (last_slot s).0 → n + 1 ≡ k → Slot s (on n c d w tx) (idle s) (solo tx (parked k))
  unfolding acted moves master_step acting master_lines master_txd
  slot_release n c d w tx k e p b z =
      let x = sending n (shifted c d w 0) in
      record {
        state = solo tx (parked n);
        acts = ap (λ (r : Step). record { tx = pick r.takes (rest tx) tx; engine = r.engine })
            (ap (λ (u : Event). step_without_received (act s x (waits tx) (get_or tx 0 0) (data_bit s (master_txd s x) false) u)) e);
        begins = refl;
        lines = refl;
        live = ne_eqb n 0 (omega arith);
        ends = ap (solo tx) (next_within s (parked n) b) ∙ ap (λ (i : ℕ). solo tx (parked i)) z;
      }

  -- the last idle slot
  pub slot_pause : (n : ℕ) (tx : List ℕ) → 0 < n → n ≡ (last_slot s).0 → Slot s (solo tx (parked n)) (idle s) (solo tx (rest_at clear_shift))
  unfolding acted moves master_step acting resting master_lines master_txd
  slot_pause n tx p e =
      record {
        state = solo tx (parked n);
        acts = rw (ne_eqb n 0 (omega arith));
        begins = refl;
        lines = refl;
        live = ne_eqb n 0 (omega arith);
        ends = ap (solo tx) (next_last s (parked n) (omega arith));
      }

  -- a capture
  pub capture_move : (b : ℕ) (bit : Bool) (n c : ℕ) (d : Bool) (w : ℕ) → c < b → step_without_received (capture_step b bit (sending n (shifted c d w 0))) ≡ move n (c + 1) d w false
  unfolding capture_step captured_of
  capture_move b bit n c d w l = rw (lt-ltb c b l)

  -- bits of a word, two slots each
  module _ (f g : Bool → Lines) (t w hi : ℕ) (st mid : ℕ → Bool → Solo) where
    abbrev Firsts : Type 0
    Firsts = (c : ℕ) (d : Bool) → 0 < c → c < hi → Slot s (st c d) (f (bit_of t w c)) (mid c (bit_of t w c))

    abbrev Seconds : Type 0
    Seconds = (c : ℕ) → c < hi → Slot s (mid c (bit_of t w c)) (g (bit_of t w c)) (st (c + 1) (bit_of t w c))

    -- from bit c to bit e
    bits_run : Firsts → Seconds → (j c e : ℕ) (d : Bool) → c + j ≡ e → 0 < c → e < hi → Draws s (bit_lines f g t w c (suc j)) (st c d) (st (e + 1) (bit_of t w e))
    bits_run p q zero c e d z l m =
        let r : c ≡ e = omega arith in
        draws_end s (draw (p c d l (omega arith)) (draw (q c (omega arith)) done)) (ap (λ (i : ℕ). st (i + 1) (bit_of t w i)) r)
    bits_run p q (suc j) c e d z l m =
        draw (p c d l (omega arith)) (draw (q c (omega arith)) (bits_run p q j (c + 1) e (bit_of t w c) (omega arith) (omega arith) m))

    -- the first n bits, however the first comes on TXD
    pub word_run : Firsts → Seconds → (x : Solo) (n : ℕ) → 1 < n → n ≤ hi → Slot s x (f (bit_of t w 0)) (mid 0 (bit_of t w 0)) → Draws s (bit_lines f g t w 0 n) x (st n (bit_of t w (n - 1)))
    word_run p q x n l m k =
        let a : suc (suc (n - 2)) ≡ n = omega arith in
        let r : n - 1 + 1 ≡ n = omega arith in
        draws_end s
        (draws_same s
        (draw k (draw (q 0 (omega arith)) (bits_run p q (n - 2) 1 (n - 1) (bit_of t w 0) (omega arith) (omega arith) (omega arith))))
        (ap (bit_lines f g t w 0) a))
        (ap (λ (i : ℕ). st i (bit_of t w (n - 1))) r)

-- The end of a load --------------------------------------------------------------------------------------------------------

module _ (s : Settings) where
  -- the slot in which the last frame is over, the first of two idle ones
  pub data Over : List Lines → Solo → Type 0 where
    over : (n c : ℕ) (d : Bool) (w : ℕ) → event_of s (slots n) ≡ Release → 0 < n → n + 1 ≡ (last_slot s).0 → Over (idle s ∷ idle s ∷ []) (on n c d w [])

  -- a last slot that is in the frame to its end
  pub data Last : List Lines → Solo → Type 0 where
    last : {l : Lines} (n c : ℕ) (d : Bool) (w : ℕ) → l.released ≡ false → Slot s (on n c d w []) l (solo [] (rest_at clear_shift)) → Last (l ∷ []) (on n c d w [])

  pub over_draws : (ls : List Lines) (x : Solo) → Over ls x → Draws s ls x (solo [] (rest_at clear_shift))
  over_draws ls x (over n c d w e p q) = draw (slot_release s n c d w [] (n + 1) e p (omega (arith, q)) refl) (draw (slot_pause s (n + 1) [] (omega arith) q) done)

  pub last_draws : (ls : List Lines) (x : Solo) → Last ls x → Draws s ls x (solo [] (rest_at clear_shift))
  last_draws ls x (last n c d w r k) = draw k done

  -- slots from x to an end: all of a drawing but what is left there
  pub record Until (End : List Lines → Solo → Type 0) (all : List Lines) (x : Solo) : Type 0 where
    pub drawn : List Lines
    pub left : List Lines
    pub there : Solo
    pub whole : drawn ++ left ≡ all
    pub draws : Draws s drawn x there
    pub ends : End left there

module _ {s : Settings} {End : List Lines → Solo → Type 0} where
  pub until_done : {all : List Lines} {x : Solo} → End all x → Until s End all x
  until_done {all} {x} e = record { drawn = []; left = all; there = x; whole = refl; draws = done; ends = e }

  pub until_draw : {l : Lines} {all : List Lines} {x y : Solo} → Slot s x l y → Until s End all y → Until s End (l ∷ all) x
  until_draw {l} k u =
      record { drawn = l ∷ u.drawn; left = u.left; there = u.there; whole = ap (λ (ls : List Lines). l ∷ ls) u.whole; draws = draw k u.draws; ends = u.ends }

  pub until_then : {ls all : List Lines} {x y : Solo} → Draws s ls x y → Until s End all y → Until s End (ls ++ all) x
  until_then done u = u
  until_then (draw k d) u = until_draw k (until_then d u)

  pub until_draws : {all : List Lines} {x z : Solo} → ((ls : List Lines) (y : Solo) → End ls y → Draws s ls y z) → Until s End all x → Draws s all x z
  until_draws f u = draws_same s (draws_then s u.draws (f u.left u.there u.ends)) u.whole
