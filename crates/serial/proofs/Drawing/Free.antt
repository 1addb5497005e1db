-- When a master alone stops being busy: the first BSY 0 of each format, whatever its input pins carry.
use Prim.Native.Nat.{ℕ, zero, suc, ◌+◌, ◌-◌, ◌*◌, ◌≤◌, ◌<◌}
use mathlib.Core.Path.{◌≡◌, refl, sym, ap, ◌∙◌, subst}
use mathlib.Core.Bool.{Bool, true, false, not, ◌&&◌, ◌||◌, true≢false}
use mathlib.Core.List.{List, [], ◌∷◌, ◌++◌}
use native.Mathlib.Omega.{arith}
use native.Mathlib.Nat.{add-mul, le_refl}
use lib.Dec.{ltb, eqb}
use lib.ListN.{length, length-append, replicate, length-replicate}
use Rattle.registers.specs.Choose.{pick}
use Rattle.registers.proofs.Picks.{pick_both}
use Rattle.registers.specs.Flags.{busy_of}
use Rattle.registers.specs.Time.{slots, cycles_of}
use Rattle.registers.specs.declared.time.Cycles.{Cycles}
use Rattle.registers.specs.Transfer.{rest}
use Rattle.registers.specs.declared.settings.Format.{Format}
use Rattle.registers.specs.declared.settings.Format.TheVariants.{Motorola, Ti, Microwire, Reserved}
use Rattle.registers.specs.declared.settings.Settings.{Settings}
use Rattle.frames.specs.Engine.{clear_shift, no_word}
use Rattle.frames.specs.Slots.{event_of, last_slot, levels_of}
use Rattle.frames.specs.Lines.{master_lines, idle_on, frame_lines, master_txd, joined_to}
use Rattle.frames.specs.Master.{act, resting, acting, data_bit, master_step, ticked, master_end}
use Rattle.serial.specs.Cycle.{DeviceModel, cycle_of, after}
use Rattle.serial.specs.Busy.{busy_device}
use Rattle.serial.proofs.Cycles.{waits_cons}
use Rattle.serial.proofs.Trace.{iterate, iterate_add}
use Rattle.serial.specs.Drawing.{slot_total, drawing, stretch}
use Rattle.serial.proofs.Drawing.Injective.{Serves, idle_released, length-stretch, length-drawing}
use Rattle.serial.proofs.Unreceived.{without_received, shift_without_received, step_without_received}
use Rattle.serial.proofs.WithinSlot.{elapsed_at, Live, after_cycles, after_within, sending, shifted}
use Rattle.serial.proofs.Drawing.Solo.{Solo, moves, acted, cycle, solo_of, Runs, solo_cycle, runs_cycle, Goes, none, more}
use Rattle.serial.proofs.Drawing.Slot.{fixed, solo, on, rest_at, Slot, cycle_within, first_cycle, slot_goes, draws_goes, Draws, Over, over, Last, last, Until}
use Rattle.serial.proofs.Drawing.MotorolaWords.{frames0_until, frames1_until}
use Rattle.serial.proofs.Drawing.TiWords.{frames_ti_until}
use Rattle.serial.proofs.Drawing.MicrowireWords.{frames_m_until}
use Rattle.serial.proofs.Drawing.Recorded.{Fresh, fixed_own, fresh_engine}
use Rattle.serial.specs.Demand3.{busy_for}
use Rattle.frames.specs.declared.engine.Shift.{Shift}
use Rattle.frames.specs.declared.engine.Engine.{Engine}
use Rattle.frames.specs.declared.lines.Lines.{Lines}
use Rattle.frames.specs.declared.lines.Pins.{Pins}
use Rattle.frames.specs.declared.slots.Event.{Event}
use Rattle.frames.specs.declared.slots.Event.TheVariants.{Release}

-- BSY of a master alone.
abbrev busy : Solo → Bool
busy x = x.engine.frame || not (eqb (length x.tx) 0)

module _ (s : Settings) where
  -- after n cycles
  abbrev run : ℕ → Solo → Solo
  run n x = iterate n (cycle s) x

  run_goes : (ls : List Lines) {x y : Solo} → Goes s ls x y → run (length ls) x ≡ y
  run_goes [] none = refl
  run_goes (l ∷ ls) (more a e g) = ap (run (length ls)) e ∙ run_goes ls g

  -- the end of a cycle begins no frame
  end_free : (e : Engine) → e.frame ≡ false → (master_end s e).frame ≡ false
  unfolding master_end ticked
  end_free e f =
      pick_both (λ (x : Engine). x.frame ≡ false) (resting e) _ _ (λ _. f)
      (λ _. pick_both (λ (x : Engine). x.frame ≡ false) (ltb (e.elapsed.0 + 1) s.divisor.0) _ _ (λ _. f)
      (λ _. pick_both (λ (x : Engine). x.frame ≡ false) (ltb e.slot.0 (last_slot s).0) _ _ (λ _. f) (λ _. refl)))

  -- without a frame and a word nothing happens
  acted_free : (e : Engine) → e.frame ≡ false → acted s (solo [] e) ≡ solo [] (without_received e)
  unfolding acted moves master_step acting
  acted_free e f = go e.frame (resting e) f
    where
      go : (t r : Bool) → t ≡ false
          → ◌≡◌ {A = Solo} (record { tx = pick (step_without_received (pick ((t && eqb e.elapsed.0 0) || (r && false)) (act s e false 0 (data_bit s (master_txd s e) false) (event_of s e.slot)) (no_word e))).takes (rest []) []; engine = (step_without_received (pick ((t && eqb e.elapsed.0 0) || (r && false)) (act s e false 0 (data_bit s (master_txd s e) false) (event_of s e.slot)) (no_word e))).engine }) (solo [] (without_received e))
      go true r k = absurd (true≢false k)
      go false true k = refl
      go false false k = refl

  rest_free : (e : Engine) → e.frame ≡ false → busy (cycle s (solo [] e)) ≡ false
  unfolding cycle
  rest_free e f =
      ap (λ (z : Solo). busy (solo z.tx (master_end s z.engine))) (acted_free e f) ∙ ap (λ (t : Bool). t || false) (end_free (without_received e) f)

  cycle_free : (x : Solo) → busy x ≡ false → busy (cycle s x) ≡ false
  cycle_free x = go x.tx x.engine
    where
      off : (t : Bool) → (t || false) ≡ false → t ≡ false
      off true k = k
      off false k = k

      waiting : (t : Bool) → (t || true) ≡ false → ⊥
      waiting true k = true≢false k
      waiting false k = true≢false k

      go : (ws : List ℕ) (e : Engine) → busy (solo ws e) ≡ false → busy (cycle s (solo ws e)) ≡ false
      go [] e b = rest_free e (off e.frame b)
      go (w ∷ ws) e b = absurd (waiting e.frame (ap (λ (t : Bool). e.frame || t) (sym (waits_cons w ws)) ∙ b))

  -- once free, free for good
  run_free : (n : ℕ) (x : Solo) → busy x ≡ false → busy (run n x) ≡ false
  run_free zero x b = b
  run_free (suc n) x b = run_free n (cycle s x) (cycle_free x b)

  -- so a master that is busy has been busy all along
  busy_before : (k i : ℕ) (x : Solo) → busy (run k x) ≡ true → i ≤ k → busy (run i x) ≡ true
  busy_before k i x b l = go (busy (run i x)) refl
    where
      go : (t : Bool) → busy (run i x) ≡ t → busy (run i x) ≡ true
      go true e = e
      go false e =
          let q : i + (k - i) ≡ k = omega arith in
          absurd (true≢false (sym b ∙ ap (λ (n : ℕ). busy (run n x)) (sym q) ∙ ap busy (iterate_add (cycle s) i (k - i) x) ∙ run_free (k - i) (run i x) e))

  -- the slot in which the frame is over
  acted_over : (n c : ℕ) (d : Bool) (w : ℕ) → event_of s (slots n) ≡ Release → (acted s (on n c d w [])).engine.frame ≡ false
  unfolding acted moves master_step acting
  acted_over n c d w e = ap (λ (v : Event). (act s (sending n (shifted c d w 0)) false 0 (data_bit s (master_txd s (sending n (shifted c d w 0))) false) v).engine.frame) e

  acted_words : (n c : ℕ) (d : Bool) (w : ℕ) → event_of s (slots n) ≡ Release → (acted s (on n c d w [])).tx ≡ []
  unfolding acted moves master_step acting
  acted_words n c d w e = ap (λ (v : Event). pick (act s (sending n (shifted c d w 0)) false 0 (data_bit s (master_txd s (sending n (shifted c d w 0))) false) v).takes (rest []) []) e

  over_free : (n c : ℕ) (d : Bool) (w : ℕ) → event_of s (slots n) ≡ Release → busy (cycle s (on n c d w [])) ≡ false
  unfolding cycle
  over_free n c d w e =
      ap (λ (ws : List ℕ). (master_end s (acted s (on n c d w [])).engine).frame || not (eqb (length ws) 0)) (acted_words n c d w e)
      ∙ ap (λ (t : Bool). t || false) (end_free (acted s (on n c d w [])).engine (acted_over n c d w e))

  -- a slot whose lines are driven is in a frame
  driven_frame : (e : Engine) → (master_lines s e).released ≡ false → e.frame ≡ true
  unfolding master_lines
  driven_frame e k = go e.frame refl
    where
      go : (t : Bool) → e.frame ≡ t → e.frame ≡ true
      go true q = q
      go false q = absurd (true≢false (sym (idle_released s.format s.polarity) ∙ ap (λ (t : Bool). (pick t (frame_lines s (levels_of s (joined_to e) e.slot) (master_txd s e)) (idle_on s.format s.polarity)).released) (sym q) ∙ k))

  run_within : (j c : ℕ) (tx : List ℕ) (e : Engine) → Live e → c + 1 + j < s.divisor.0 → run j (solo tx (after_cycles s (c + 1) (without_received e))) ≡ solo tx (elapsed_at (c + 1 + j) (without_received e))
  run_within zero c tx e live l = ap (solo tx) (after_within s (c + 1) (without_received e) (omega arith) ∙ ap (λ (i : ℕ). elapsed_at i (without_received e)) (omega arith))
  run_within (suc j) c tx e live l =
      let q : c + 1 + 1 + j ≡ c + 1 + suc j = omega arith in
      ap (run j) (ap (cycle s) (ap (solo tx) (after_within s (c + 1) (without_received e) (omega arith))) ∙ cycle_within s tx c e live)
      ∙ run_within j (c + 1) tx e live (omega arith)
      ∙ ap (λ (i : ℕ). solo tx (elapsed_at i (without_received e))) q

  -- the last cycle of a driven slot begins in the frame
  busy_in : {x y : Solo} {l : Lines} → (k : Slot s x l y) → l.released ≡ false → (j : ℕ) → suc j < s.divisor.0 → busy (run (suc j) x) ≡ true
  busy_in k r j l =
      let z = k.state in
      let f = driven_frame z.engine (ap (λ (v : Lines). v.released) k.lines ∙ r) in
      ap busy (ap (run j) (first_cycle s k) ∙ run_within j 0 z.tx z.engine k.live (omega arith))
      ∙ ap (λ (t : Bool). t || not (eqb (length z.tx) 0)) f

-- The first BSY 0 of a load ----------------------------------------------------------------------------------------------

-- Busy with `last` cycles elapsed, free one cycle later.
record Frees (s : Settings) (x : Solo) (at : ℕ) : Type 0 where
  last : ℕ
  next : suc last ≡ at
  before : busy (run s last x) ≡ true
  free : busy (run s (suc last) x) ≡ false

run_next : (s : Settings) (n : ℕ) (x : Solo) → run s (suc n) x ≡ cycle s (run s n x)
run_next s zero x = refl
run_next s (suc n) x = run_next s n (cycle s x)

-- a number of slots and the first cycle of the next
over_frees : (s : Settings) (all : List Lines) (x : Solo) → 0 < s.divisor.0 → Until s (Over s) all x → (k : ℕ) → length all ≡ k + 2 → Frees s x (k * s.divisor.0 + 1)
over_frees s all x h u k e = go u.left u.there u.whole u.draws u.ends
  where
    go : (left : List Lines) (y : Solo) → u.drawn ++ left ≡ all → Draws s u.drawn x y → Over s left y → Frees s x (k * s.divisor.0 + 1)
    go left y whole draws (over i c d w release p q) =
        let n = length (stretch s.divisor.0 u.drawn) in
        let slots : length u.drawn ≡ k = omega (arith, length-append u.drawn left, ap length whole, e) in
        let there = run_goes s (stretch s.divisor.0 u.drawn) (draws_goes s h draws) in
        record {
          last = n;
          next = omega (arith, length-stretch s.divisor.0 u.drawn ∙ ap (λ (j : ℕ). j * s.divisor.0) slots);
          before = ap busy there;
          free = ap busy (run_next s n x ∙ ap (cycle s) there) ∙ over_free s i c d w release;
        }

-- a number of slots, the last to its end
last_frees : (s : Settings) (all : List Lines) (x : Solo) → 0 < s.divisor.0 → Until s (Last s) all x → (k : ℕ) → length all ≡ k → Frees s x (k * s.divisor.0)
last_frees s all x h u k e = go u.left u.there u.whole u.draws u.ends
  where
    n : ℕ
    n = length (stretch s.divisor.0 u.drawn)

    go : (left : List Lines) (y : Solo) → u.drawn ++ left ≡ all → Draws s u.drawn x y → Last s left y → Frees s x (k * s.divisor.0)
    go left y whole draws (last {l} i c d w driven end) =
        record {
          last = n + (s.divisor.0 - 1);
          next = q ∙ total;
          before = ap busy (iterate_add (cycle s) n (s.divisor.0 - 1) x ∙ ap (run s (s.divisor.0 - 1)) there) ∙ inside (s.divisor.0 - 1) (omega (arith, h));
          free = ap (λ (m : ℕ). busy (run s m x)) q ∙ ap busy ended;
        }
      where
        q : suc (n + (s.divisor.0 - 1)) ≡ n + s.divisor.0
        q = omega (arith, h)

        slots : length u.drawn + 1 ≡ k
        slots = omega (arith, length-append u.drawn (l ∷ []), ap length whole, e)

        total : n + s.divisor.0 ≡ k * s.divisor.0
        total = omega (arith, length-stretch s.divisor.0 u.drawn, ap (λ (m : ℕ). m * s.divisor.0) slots)

        there : run s n x ≡ y
        there = run_goes s (stretch s.divisor.0 u.drawn) (draws_goes s h draws)

        ended : run s (n + s.divisor.0) x ≡ solo [] (rest_at clear_shift)
        ended =
            iterate_add (cycle s) n s.divisor.0 x ∙ ap (run s s.divisor.0) there ∙ ap (λ (i : ℕ). run s i y) (sym (length-replicate s.divisor.0 l))
            ∙ run_goes s (replicate s.divisor.0 l) (slot_goes s h end)

        inside : (j : ℕ) → j < s.divisor.0 → busy (run s j y) ≡ true
        inside zero m = refl
        inside (suc j) m = busy_in s end driven j m

-- every format
frees_on : (s : Settings) (f : Format) (phase : Bool) → Serves f → 2 < s.bits → 0 < s.divisor.0 → (x : Shift) (w : ℕ) (ws : List ℕ)
    → length (drawing (fixed f phase s) (w ∷ ws)) ≡ (slot_total (fixed f phase s) (suc (length ws))).0
    → Frees (fixed f phase s) (solo (w ∷ ws) (rest_at x)) (busy_for f phase s.bits s.divisor (suc (length ws))).0
unfolding drawing slot_total cycles_of
frees_on s Motorola true r l h x w ws e = over_frees (fixed Motorola true s) _ _ h (frames1_until s (omega arith) x w ws) _ (omega (arith, e))
frees_on s Motorola false r l h x w ws e = over_frees (fixed Motorola false s) _ _ h (frames0_until s (omega arith) x w ws) _ (omega (arith, e))
frees_on s Ti phase r l h x w ws e = last_frees (fixed Ti phase s) _ _ h (frames_ti_until s phase l x w ws) _ e
frees_on s Microwire phase r l h x w ws e = over_frees (fixed Microwire phase s) _ _ h (frames_m_until s phase x w ws) _ (omega (arith, e))
frees_on s Reserved phase r l h x w ws e = absurd (r refl)

after_solo : (s : Settings) (d : DeviceModel) → Runs s d → (ps : List Pins) → solo_of (after d ps) ≡ run s (length ps) (solo_of d)
after_solo s d k [] = refl
after_solo s d k (p ∷ ps) = after_solo s (cycle_of d p) (runs_cycle s d p k) ps ∙ ap (run s (length ps)) (solo_cycle s d p k)

-- The cycles to the first BSY 0 of a load of n words, by a master's settings.
abbrev pub busy_cycles : Settings → ℕ → Cycles
busy_cycles s n = busy_for s.format s.phase s.bits s.divisor n

more_slots : (a b h : ℕ) → a + 2 ≡ b → 0 < h → a * h + 1 ≤ b * h
more_slots a b h e k = let q : (a + 2) * h ≡ a * h + 2 * h = add-mul a 2 h in subst (λ (c : ℕ). a * h + 1 ≤ c * h) e (omega arith)

bound_on : (s : Settings) → 0 < s.divisor.0 → (f : Format) (phase : Bool) (n : ℕ) → (busy_for f phase s.bits s.divisor n).0 ≤ (cycles_of (slot_total (fixed f phase s) n) s.divisor).0
unfolding slot_total cycles_of
bound_on s h f phase zero = omega arith
bound_on s h Motorola true (suc n) = more_slots _ _ s.divisor.0 (omega arith) h
bound_on s h Motorola false (suc n) = more_slots _ _ s.divisor.0 (omega arith) h
bound_on s h Ti phase (suc n) = le_refl _
bound_on s h Microwire phase (suc n) = more_slots _ _ s.divisor.0 (omega arith) h
bound_on s h Reserved phase (suc n) = omega arith

-- BSY after a cycle for each input: 1 before that many cycles, 0 from then on.
abbrev pub busy_after : DeviceModel → List Pins → Bool
busy_after d ps = busy_device (after d ps)

module _ (s : Settings) (d : DeviceModel) (k : Fresh s d) where
  begins : solo_of d ≡ solo d.registers.tx (rest_at (shift_without_received d.engine.shift))
  begins = ap (solo d.registers.tx) (fresh_engine s d k)

  busy_is : (ps : List Pins) (ws : List ℕ) → d.registers.tx ≡ ws → busy_after d ps ≡ busy (run s (length ps) (solo ws (rest_at (shift_without_received d.engine.shift))))
  unfolding busy_of busy_device
  busy_is ps ws e =
      ap busy (after_solo s d (record { set = k.set; enabled = k.enabled; master = k.master }) ps ∙ ap (run s (length ps)) (begins ∙ ap (λ (v : List ℕ). solo v (rest_at (shift_without_received d.engine.shift))) e))

  frees : (w : ℕ) (ws : List ℕ) → Frees s (solo (w ∷ ws) (rest_at (shift_without_received d.engine.shift))) (busy_cycles s (suc (length ws))).0
  frees w ws =
      subst (λ (u : Settings). Frees u (solo (w ∷ ws) (rest_at (shift_without_received d.engine.shift))) (busy_cycles s (suc (length ws))).0)
      (fixed_own s k.master k.enabled)
      (frees_on s s.format s.phase k.serves (omega (arith, k.least)) k.divisor (shift_without_received d.engine.shift) w ws
      (length-drawing (fixed s.format s.phase s) (omega (arith, k.least)) (w ∷ ws)))

  pub stays_busy : (ps : List Pins) → length ps < (busy_cycles s (length d.registers.tx)).0 → busy_after d ps ≡ true
  stays_busy ps = go d.registers.tx refl
    where
      go : (ws : List ℕ) → d.registers.tx ≡ ws → length ps < (busy_cycles s (length ws)).0 → busy_after d ps ≡ true
      go [] e l = absurd (omega arith)
      go (w ∷ ws) e l =
          let r = frees w ws in
          busy_is ps (w ∷ ws) e ∙ busy_before s r.last (length ps) (solo (w ∷ ws) (rest_at (shift_without_received d.engine.shift))) r.before (omega (arith, r.next, l))

  pub gets_free : (ps : List Pins) → (busy_cycles s (length d.registers.tx)).0 ≤ length ps → busy_after d ps ≡ false
  gets_free ps = go d.registers.tx refl
    where
      go : (ws : List ℕ) → d.registers.tx ≡ ws → (busy_cycles s (length ws)).0 ≤ length ps → busy_after d ps ≡ false
      go [] e l = busy_is ps [] e ∙ run_free s (length ps) (solo [] (rest_at (shift_without_received d.engine.shift))) refl
      go (w ∷ ws) e l =
          let r = frees w ws in
          let x = solo (w ∷ ws) (rest_at (shift_without_received d.engine.shift)) in
          let q : length ps ≡ suc r.last + (length ps - suc r.last) = omega (arith, r.next, l) in
          busy_is ps (w ∷ ws) e ∙ ap (λ (n : ℕ). busy (run s n x)) q ∙ ap busy (iterate_add (cycle s) (suc r.last) (length ps - suc r.last) x)
          ∙ run_free s (length ps - suc r.last) (run s (suc r.last) x) r.free

  -- no later than the load's last slot
  pub busy_bound : (n : ℕ) → (busy_cycles s n).0 ≤ (cycles_of (slot_total s n) s.divisor).0
  busy_bound n =
      subst (λ (u : Settings). (busy_cycles s n).0 ≤ (cycles_of (slot_total u n) s.divisor).0) (fixed_own s k.master k.enabled) (bound_on s k.divisor s.format s.phase n)
