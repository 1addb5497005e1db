-- A slave that sees no edge: it stays as it is, and a cycle later nothing changes any more.
use Prim.Native.Nat.{ℕ}
use mathlib.Core.Path.{◌≡◌, refl, sym, ap, ◌∙◌}
use mathlib.Core.Bool.{Bool, true, false, ◌&&◌, and-false}
use lib.Dec.{leb}
use lib.ListN.{get_or}
use Rattle.registers.specs.Choose.{pick}
use Rattle.registers.proofs.Picks.{pick_both}
use Rattle.registers.specs.declared.settings.Format.{Format}
use Rattle.registers.specs.declared.settings.Format.TheVariants.{Motorola, Ti, Microwire, Reserved}
use Rattle.registers.specs.declared.settings.Settings.{Settings}
use Rattle.frames.specs.Engine.{cleared, no_word}
use Rattle.frames.specs.Lines.{slave_lines}
use Rattle.frames.specs.Slots.{capture_width}
use Rattle.serial.specs.Slave.{slave_step, slave_end, ended_on, word_over, after_taking, motorola_slave, motorola_select, motorola_edges, motorola_clock, capture_edge, drive_edge, ti_slave, microwire_slave, microwire_edges}
use Rattle.serial.proofs.Exchange.Core.{Side, with_engine, moved, plain, slave_side}
use Rattle.serial.proofs.Exchange.Settle.{Lawful}
use Rattle.frames.specs.declared.engine.Engine.{Engine}
use Rattle.frames.specs.declared.engine.Step.{Step}
use Rattle.frames.specs.declared.lines.Pins.{Pins}

ended_on_twice : (f : Format) (w : ℕ) (e : Engine) → pick ((ended_on f e).frame && leb w (ended_on f e).shift.captured) (ended_on f (ended_on f e)) (ended_on f e) ≡ ended_on f e
ended_on_twice Motorola w e = refl
ended_on_twice Ti w e = refl
ended_on_twice Microwire w e = pick_both (λ (x : Engine). x ≡ e) (e.frame && leb w e.shift.captured) _ _ (λ _. refl) (λ _. refl)
ended_on_twice Reserved w e = refl

-- what has ended stays ended
ended_twice : (s : Settings) (e : Engine) → slave_end s (slave_end s e) ≡ slave_end s e
unfolding slave_end
ended_twice s e = go (word_over s e) refl
  where
    go : (t : Bool) → word_over s e ≡ t
        → pick (word_over s (pick t (ended_on s.format e) e)) (ended_on s.format (pick t (ended_on s.format e) e)) (pick t (ended_on s.format e) e) ≡ pick t (ended_on s.format e) e
    go true h = ended_on_twice s.format (capture_width s) e
    go false h = ap (λ (u : Bool). pick u (ended_on s.format e) e) h

-- a cycle without an edge
abbrev calm : Settings → Side → Side
calm s x = record { tx = x.tx; rx = x.rx; engine = slave_end s x.engine; lines = slave_lines s x.engine }

abbrev pub after : Settings → Side → Step → Side
after s x r = with_engine (moved r x (slave_lines s r.engine)) (slave_end s r.engine)

pub side_after : (s : Settings) (p q : Pins) (x : Side) (r : Step) → slave_step s x.engine p q (get_or x.tx 0 0) ≡ r → slave_side s p q x ≡ after s x r
unfolding slave_side
side_after s p q x r h = ap (after s x) h

-- a slave that stays as it is whenever it sees p twice comes to rest
quiet_rests : (s : Settings) (p : Pins) → ((e : Engine) (n : ℕ) → slave_step s e p p n ≡ no_word e)
    → (q r : Pins) (x : Side) → slave_side s p p (slave_side s p p (slave_side s q r x)) ≡ slave_side s p p (slave_side s q r x)
unfolding slave_side
quiet_rests s p h q r x =
    let y = slave_side s q r x in
    let fixed : slave_end s y.engine ≡ y.engine = ended_twice s (slave_step s x.engine q r (get_or x.tx 0 0)).engine in
    let once : slave_side s p p y ≡ with_engine (calm s y) y.engine = side_after s p p y (no_word y.engine) (h y.engine _) ∙ ap (with_engine (calm s y)) fixed in
    ap (slave_side s p p) once ∙ side_after s p p (with_engine (calm s y) y.engine) (no_word y.engine) (h y.engine _) ∙ ap (with_engine (calm s y)) fixed ∙ sym once

clock_quiet : (s : Settings) (e : Engine) (n : ℕ) (d : Bool) → motorola_clock s e false false n d ≡ no_word e
unfolding motorola_clock
clock_quiet s e n d = rw (and-false e.frame)

-- Motorola with FSS LOW
pub quiet-low : (phase : Bool) (b h : ℕ) (c d d' : Bool) (e : Engine) (n : ℕ) → slave_step (plain Motorola phase b h true) e (record { clk = c; fss = false; rxd = d }) (record { clk = c; fss = false; rxd = d' }) n ≡ no_word e
unfolding slave_step motorola_slave motorola_select motorola_edges capture_edge drive_edge
quiet-low true b h true d d' e n = pick_both (λ (r : Step). r ≡ no_word e) e.selected _ _ (λ _. ap (after_taking false) (clock_quiet (plain Motorola true b h true) e n _)) (λ _. refl)
quiet-low true b h false d d' e n = pick_both (λ (r : Step). r ≡ no_word e) e.selected _ _ (λ _. ap (after_taking false) (clock_quiet (plain Motorola true b h true) e n _)) (λ _. refl)
quiet-low false b h true d d' e n = pick_both (λ (r : Step). r ≡ no_word e) e.selected _ _ (λ _. ap (after_taking false) (clock_quiet (plain Motorola false b h true) e n _)) (λ _. refl)
quiet-low false b h false d d' e n = pick_both (λ (r : Step). r ≡ no_word e) e.selected _ _ (λ _. ap (after_taking false) (clock_quiet (plain Motorola false b h true) e n _)) (λ _. refl)

-- Microwire with FSS LOW
pub quiet-microwire : (phase : Bool) (b h : ℕ) (c d d' : Bool) (e : Engine) (n : ℕ) → slave_step (plain Microwire phase b h true) e (record { clk = c; fss = false; rxd = d }) (record { clk = c; fss = false; rxd = d' }) n ≡ no_word e
unfolding slave_step microwire_slave microwire_edges
quiet-microwire phase b h true d d' e n = rw (and-false e.selected)
quiet-microwire phase b h false d d' e n = rw (and-false e.selected)

-- a slave that is clear with FSS HIGH, and stays as it is when it sees no edge with FSS LOW
selected_rests : (s : Settings) → ((c d : Bool) (x : Side) → slave_side s (record { clk = c; fss = true; rxd = d }) (record { clk = c; fss = true; rxd = d }) x ≡ calm s (with_engine x cleared))
    → ((c d : Bool) (e : Engine) (n : ℕ) → slave_step s e (record { clk = c; fss = false; rxd = d }) (record { clk = c; fss = false; rxd = d }) n ≡ no_word e) → Lawful s
selected_rests s high low p q r x = go p.fss
  where
    go : (f : Bool)
        → (let p' : Pins = record { clk = p.clk; fss = f; rxd = p.rxd } in
        slave_side s p' p' (slave_side s p' p' (slave_side s q r x)) ≡ slave_side s p' p' (slave_side s q r x))
    go true = high p.clk p.rxd (slave_side s (record { clk = p.clk; fss = true; rxd = p.rxd }) (record { clk = p.clk; fss = true; rxd = p.rxd }) (slave_side s q r x))
        ∙ ap (λ (y : Side). calm s (with_engine y cleared)) (high p.clk p.rxd (slave_side s q r x)) ∙ sym (high p.clk p.rxd (slave_side s q r x))
    go false = quiet_rests s (record { clk = p.clk; fss = false; rxd = p.rxd }) (low p.clk p.rxd) q r x

pub lawful_motorola : (phase : Bool) (b h : ℕ) → Lawful (plain Motorola phase b h true)
unfolding slave_side slave_step motorola_slave
lawful_motorola phase b h = selected_rests (plain Motorola phase b h true) (λ c d x. refl) (λ c d. quiet-low phase b h c d d)

pub lawful_microwire : (phase : Bool) (b h : ℕ) → Lawful (plain Microwire phase b h true)
unfolding slave_side slave_step microwire_slave
lawful_microwire phase b h = selected_rests (plain Microwire phase b h true) (λ c d x. refl) (λ c d. quiet-microwire phase b h c d d)

-- TI
pub quiet_ti : (phase : Bool) (b h : ℕ) (c f d f' d' : Bool) (e : Engine) (n : ℕ) → slave_step (plain Ti phase b h true) e (record { clk = c; fss = f; rxd = d }) (record { clk = c; fss = f'; rxd = d' }) n ≡ no_word e
unfolding slave_step ti_slave
quiet_ti phase b h true f d f' d' e n = refl
quiet_ti phase b h false f d f' d' e n = refl

pub lawful_ti : (phase : Bool) (b h : ℕ) → Lawful (plain Ti phase b h true)
lawful_ti phase b h p = quiet_rests (plain Ti phase b h true) p (quiet_ti phase b h p.clk p.fss p.rxd p.fss p.rxd)
