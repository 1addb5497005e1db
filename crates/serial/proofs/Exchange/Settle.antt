-- From a settled slot boundary h cycles of the pair are one slot: the master acts in the first, the slave sees it in the
-- fourth, and nothing else happens.
use Prim.Native.Nat.{ℕ, zero, suc, ◌+◌, ◌-◌, ◌*◌, ◌≤◌, ◌<◌}
use mathlib.Core.Path.{◌≡◌, refl, sym, ap, ◌∙◌, subst}
use mathlib.Core.Bool.{Bool}
use native.Mathlib.Omega.{arith}
use lib.ListN.{get_or}
use Rattle.registers.specs.declared.settings.Settings.{Settings}
use Rattle.frames.specs.Engine.{no_word}
use Rattle.frames.specs.Lines.{master_lines, master_txd}
use Rattle.frames.specs.Master.{master_end}
use Rattle.serial.specs.Pair.{wire}
use Rattle.serial.proofs.Cycles.{waits}
use Rattle.serial.proofs.WithinSlot.{step_within, elapsed_at, step_elapsed, Live, next_slot, after_cycles, end_elapsed, after_within, after_last, next_elapsed}
use Rattle.serial.proofs.Trace.{Trace, none, more, trace_count, trace_end, trace_then}
use Rattle.serial.proofs.Exchange.Core.{Side, Pair, with_engine, moved, acted, master_side, slave_side, core_cycle}
use Rattle.frames.specs.declared.engine.Step.{Step}
use Rattle.frames.specs.declared.lines.Pins.{Pins}

-- The master within a slot ---------------------------------------------------------------------------------------------

-- with c cycles of the slot elapsed
abbrev pub elapsed_side : ℕ → Side → Side
elapsed_side c x = with_engine x (elapsed_at c x.engine)

-- at the next slot's beginning
abbrev pub next_side : Settings → Side → Side
next_side s x = with_engine x (next_slot s x.engine)

module _ (s : Settings) where
  acted_within : (x : Side) (c : ℕ) (d : Bool) → x.lines ≡ master_lines s x.engine → acted s (elapsed_side (c + 1) x) d ≡ elapsed_side (c + 1) x
  unfolding acted master_lines master_txd
  acted_within x c d k =
      let y = elapsed_side (c + 1) x in
      ap (λ (r : Step). moved r y (master_lines s r.engine)) (step_within s y.engine (waits x.tx) (get_or x.tx 0 0) d (omega arith))
      ∙ ap (moved (no_word y.engine) y) (sym k)

  acted_elapsed : (x : Side) (d : Bool) → acted s (elapsed_side 0 x) d ≡ elapsed_side 0 (acted s (elapsed_side 0 x) d)
  unfolding acted
  acted_elapsed x d = ap (with_engine (acted s (elapsed_side 0 x) d)) (step_elapsed s 0 x.engine (waits x.tx) (get_or x.tx 0 0) d)

  side_first : (x : Side) (d : Bool) → Live (acted s (elapsed_side 0 x) d).engine → 1 < s.divisor.0 → master_side s (elapsed_side 0 x) d ≡ elapsed_side 1 (acted s (elapsed_side 0 x) d)
  unfolding master_side
  side_first x d live l =
      let y = acted s (elapsed_side 0 x) d in
      ap (λ (z : Side). with_engine z (master_end s z.engine)) (acted_elapsed x d) ∙ ap (with_engine y) (end_elapsed s 0 y.engine live ∙ after_within s 1 y.engine l)

  side_within : (x : Side) (c : ℕ) (d : Bool) → x.lines ≡ master_lines s x.engine → Live x.engine → master_side s (elapsed_side (c + 1) x) d ≡ with_engine x (after_cycles s (c + 1 + 1) x.engine)
  unfolding master_side
  side_within x c d k live =
      ap (λ (z : Side). with_engine z (master_end s z.engine)) (acted_within x c d k) ∙ ap (with_engine x) (end_elapsed s (c + 1) x.engine live)

-- The pair within a slot -----------------------------------------------------------------------------------------------

pub record Two : Type 0 where
  pub m : Side
  pub s : Side

abbrev pub mk : Side → Side → Pins → Pins → Pins → Pair
mk m s p q r = record { m = m; s = s; h = record { newest = p; middle = q; oldest = r } }

-- a slot boundary: the slave has seen the master's lines for three cycles
abbrev pub rested : Two → Pair
rested t = mk (elapsed_side 0 t.m) t.s (wire t.m.lines) (wire t.m.lines) (wire t.m.lines)

-- what a slave puts on the wire
abbrev pub line : Side → Bool
line x = (wire x.lines).rxd

-- A slave that sees no edge comes to rest: a cycle after what it last did nothing changes any more.
abbrev pub Lawful : Settings → Type 0
Lawful ss = (p q r : Pins) (x : Side) → slave_side ss p p (slave_side ss p p (slave_side ss q r x)) ≡ slave_side ss p p (slave_side ss q r x)

module _ (sm ss : Settings) where
  -- the master in the slot that begins
  abbrev pub next : Two → Side
  next t = acted sm (elapsed_side 0 t.m) (line t.s)

  -- one slot of the pair
  unfoldable pub slot_step : Two → Two
  slot_step t =
      let o = wire t.m.lines in
      let n = wire (next t).lines in
      record { m = next_side sm (next t); s = slave_side ss n n (slave_side ss o n t.s) }

  abbrev pub Settled : Two → Type 0
  Settled t = slave_side ss (wire t.m.lines) (wire t.m.lines) t.s ≡ t.s

  pub settled_next : Lawful ss → (t : Two) → Settled (slot_step t)
  unfolding slot_step
  settled_next L t = L (wire (next t).lines) (wire t.m.lines) (wire (next t).lines) t.s

  cycle_first : (x y : Side) (p q r : Pins) → Live (acted sm (elapsed_side 0 x) (line y)).engine → 1 < sm.divisor.0
      → core_cycle sm ss (mk (elapsed_side 0 x) y p q r) ≡ mk (elapsed_side 1 (acted sm (elapsed_side 0 x) (line y))) (slave_side ss r q y) (wire x.lines) p q
  unfolding core_cycle
  cycle_first x y p q r live l = ap (λ (z : Side). mk z (slave_side ss r q y) (wire x.lines) p q) (side_first sm x (line y) live l)

  cycle_within : (x : Side) (c : ℕ) (y : Side) (p q r : Pins) → x.lines ≡ master_lines sm x.engine → Live x.engine → c + 1 + 1 < sm.divisor.0
      → core_cycle sm ss (mk (elapsed_side (c + 1) x) y p q r) ≡ mk (elapsed_side (c + 1 + 1) x) (slave_side ss r q y) (wire x.lines) p q
  unfolding core_cycle
  cycle_within x c y p q r k live l =
      ap (λ (z : Side). mk z (slave_side ss r q y) (wire x.lines) p q) (side_within sm x c (line y) k live ∙ ap (with_engine x) (after_within sm (c + 1 + 1) x.engine l))

  cycle_last : (x : Side) (c : ℕ) (y : Side) (p q r : Pins) → x.lines ≡ master_lines sm x.engine → Live x.engine → c + 1 + 1 ≡ sm.divisor.0
      → core_cycle sm ss (mk (elapsed_side (c + 1) x) y p q r) ≡ mk (elapsed_side 0 (next_side sm x)) (slave_side ss r q y) (wire x.lines) p q
  unfolding core_cycle
  cycle_last x c y p q r k live l =
      ap (λ (z : Side). mk z (slave_side ss r q y) (wire x.lines) p q)
      (side_within sm x c (line y) k live ∙ ap (with_engine x) (after_last sm (c + 1 + 1) x.engine (omega arith) ∙ next_elapsed sm x.engine))

  -- the event's lines are those of its slot
  next_lines : (t : Two) → (next t).lines ≡ master_lines sm (next t).engine
  unfolding acted
  next_lines t = refl

  module _ (QM QS : Side → Type 0) where
    abbrev pub Both : Pair → Type 0
    Both p = QM p.m × QS p.s

    rest_trace : (j c : ℕ) (x y : Side) → x.lines ≡ master_lines sm x.engine → Live x.engine → slave_side ss (wire x.lines) (wire x.lines) y ≡ y
        → ((i : ℕ) → QM (elapsed_side i x)) → QS y → c + 1 + (j + 1) ≡ sm.divisor.0
        → Trace Both (core_cycle sm ss) (suc j) (mk (elapsed_side (c + 1) x) y (wire x.lines) (wire x.lines) (wire x.lines)) (rested (record { m = next_side sm x; s = y }))
    rest_trace zero c x y k live z qm qs e =
        let o = wire x.lines in
        more (qm (c + 1), qs)
        (cycle_last x c y o o o k live (omega arith) ∙ ap (λ (u : Side). mk (elapsed_side 0 (next_side sm x)) u o o o) z) none
    rest_trace (suc j) c x y k live z qm qs e =
        let o = wire x.lines in
        more (qm (c + 1), qs)
        (cycle_within x c y o o o k live (omega arith) ∙ ap (λ (u : Side). mk (elapsed_side (c + 1 + 1) x) u o o o) z)
        (rest_trace j (c + 1) x y k live z qm qs (omega arith))

    -- the settle lemma
    pub slot_trace : Lawful ss → (t : Two) → 6 ≤ sm.divisor.0 → Settled t → Live (next t).engine → QM (elapsed_side 0 t.m) → ((i : ℕ) → QM (elapsed_side i (next t))) → QS t.s
        → QS (slave_side ss (wire t.m.lines) (wire (next t).lines) t.s) → QS (slot_step t).s
        → Trace Both (core_cycle sm ss) sm.divisor.0 (rested t) (rested (slot_step t))
    unfolding slot_step
    slot_trace L t l z live qm qm' qs qs' qs'' =
        let o = wire t.m.lines in
        let y = next t in
        let n = wire y.lines in
        let s = t.s in
        let s' = slave_side ss o n s in
        let k = next_lines t in
        trace_count (omega arith)
        (more (qm, qs) (cycle_first t.m s o o o live (omega arith) ∙ ap (λ (u : Side). mk (elapsed_side 1 y) u o o o) z)
        (more (qm' 1, qs) (cycle_within y 0 s o o o k live (omega arith) ∙ ap (λ (u : Side). mk (elapsed_side 2 y) u n o o) z)
        (more (qm' 2, qs) (cycle_within y 1 s n o o k live (omega arith) ∙ ap (λ (u : Side). mk (elapsed_side 3 y) u n n o) z)
        (more (qm' 3, qs) (cycle_within y 2 s n n o k live (omega arith))
        (more (qm' 4, qs') (cycle_within y 3 s' n n n k live (omega arith))
        (rest_trace (sm.divisor.0 - 6) 4 y (slave_side ss n n s') k live (L n o n s) qm' qs'' (omega arith)))))))

-- Slots in a row -------------------------------------------------------------------------------------------------------

module _ (sm ss : Settings) (QM QS : Side → Type 0) where
  -- what a slot's states have to meet
  pub record Meets (t : Two) : Type 0 where
    pub live : Live (next sm ss t).engine
    pub before : QM (elapsed_side 0 t.m)
    pub during : (i : ℕ) → QM (elapsed_side i (next sm ss t))
    pub slave : QS t.s
    pub sees : QS (slave_side ss (wire t.m.lines) (wire (next sm ss t).lines) t.s)
    pub rests : QS (slot_step sm ss t).s

  -- a trace in slots is a trace in cycles
  pub slots_trace : Lawful ss → 6 ≤ sm.divisor.0 → {n : ℕ} {x y : Two} → Settled sm ss x → Trace Meets (slot_step sm ss) n x y
      → Trace (Both sm ss QM QS) (core_cycle sm ss) (n * sm.divisor.0) (rested x) (rested y)
  slots_trace L l z none = trace_count (omega arith) none
  slots_trace L l {x = x} z (more p e t) =
      trace_count (omega arith)
      (trace_then (trace_end (slot_trace sm ss QM QS L x l z p.live p.before p.during p.slave p.sees p.rests) (ap rested e))
      (slots_trace L l (subst (Settled sm ss) e (settled_next sm ss L x)) t))
