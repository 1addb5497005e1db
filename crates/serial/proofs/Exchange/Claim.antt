-- The proof of demand 3's first part, put together.
use Prim.Native.Nat.{ℕ, zero, suc, ◌+◌, ◌≤◌}
use mathlib.Core.Path.{◌≡◌, refl, sym, ap, ap₂, ◌∙◌, subst}
use mathlib.Core.Bool.{Bool, true, false, ◌||◌}
use mathlib.Core.List.{List, [], ◌∷◌, ◌++◌, map, append_assoc, append-nil}
use native.Mathlib.Omega.{arith}
use native.Mathlib.Nat.{le_refl}
use lib.Dec.{ltb}
use lib.ListN.{length, take, replicate}
use Rattle.registers.specs.Time.{divisor}
use Rattle.registers.specs.Settings.{settings_of, enabled_of, permitted_of, settings_by}
use Rattle.registers.proofs.Picks.{pick_yes, pick_no}
use Rattle.registers.proofs.Soundness.{sound_elim, bits_least, bits_most}
use Rattle.registers.specs.Access.{write_model}
use Rattle.registers.specs.Transfer.{waiting_of, next_word}
use Rattle.registers.specs.declared.Control.{Control}
use Rattle.registers.specs.declared.settings.Format.{Format}
use Rattle.registers.specs.declared.settings.Settings.{Settings}
use Rattle.frames.specs.Engine.{cleared, no_word}
use Rattle.frames.specs.Lines.{idle_on, lines_of, master_lines, master_txd}
use Rattle.serial.specs.Slave.{slave_step}
use Rattle.serial.specs.Cycle.{DeviceModel, device_step, step_of, active_device}
use Rattle.serial.proofs.Cycles.{control_cycle, active_idle}
use Rattle.serial.specs.Access.{write_device}
use Rattle.serial.proofs.Soundness.{sound_registers_lem}
use Rattle.serial.proofs.Accesses.{engine_enabling}
use Rattle.serial.specs.Pair.{wire, PairModel, pair_cycle, pair_run}
use Rattle.serial.proofs.Trace.{iterate}
use Rattle.frames.specs.Bits.{cut}
use Rattle.frames.specs.Slots.{width_of, capture_width}
use Rattle.serial.proofs.Drawing.Recorded.{Fresh}
use Rattle.serial.proofs.Drawing.Enabled.{fresh_sound}
use Rattle.serial.proofs.Drawing.Free.{busy_cycles, busy_bound}
use Rattle.serial.proofs.Exchange.Core.{Receiver, Pair, plain, core_cycle}
use Rattle.serial.proofs.Exchange.Settle.{rested}
use Rattle.serial.proofs.Exchange.Moves.{hidden}
use Rattle.serial.proofs.Exchange.Turn.{given, turns, turn_pins, turn_lines, idle_plain, wire_plain}
use Rattle.serial.proofs.Exchange.Wiring.{holding, starts, Wiring, slave_hidden, stays_idle_given}
use Rattle.serial.proofs.Exchange.Formats.{wiring_of}
use Rattle.serial.proofs.Exchange.Busy.{pair_busy, pair_free}
use Rattle.serial.proofs.Exchange.Finish.{answers, load_cycles, has_received}
use Rattle.serial.proofs.Exchange.Project.{core_of, rx_of, Paired, commutes}
use Rattle.serial.proofs.Exchange.Lead.{Lead, step_off, lead_steps, lead-write₁, lead-write₂}
use Rattle.serial.proofs.Exchange.Enable.{settings_on, control_on}
use Rattle.serial.specs.Editions.{switched_on}
use Rattle.serial.specs.Demand3.{Step, plays, cycles_in, control_of, Stays, Agree, Start, completed, received, load, held, busy_for, Received, Exchanged, slave_enabled, master_enabled, Demand3}
use Rattle.serial.specs.Demand3.Which.{master, slave}
use Rattle.frames.specs.declared.engine.Engine.{Engine}
use Rattle.frames.specs.declared.lines.Lines.{Lines}
use Rattle.frames.specs.declared.lines.Pins.{Pins}

-- Many cycles, projected -----------------------------------------------------------------------------------------------

paired_next : {f : Format} {phase p : Bool} {b h k : ℕ} {o : Bool} (g : PairModel) → Paired f phase p b h k o g → Paired f phase p b h k o (pair_cycle g)
unfolding pair_cycle
paired_next g P =
    record {
      wiring = P.wiring;
      master = ap settings_of (control_cycle g.first (wire g.second.lines)) ∙ P.master;
      edition = P.edition;
      its_phase = P.its_phase;
      its_polarity = P.its_polarity;
      its_edition = P.its_edition;
      phases = P.phases;
      polarities = P.polarities;
      slave = ap settings_of (control_cycle g.second (wire g.first.lines)) ∙ P.slave;
    }

projected : {f : Format} {phase p : Bool} {b h k : ℕ} {o : Bool} (n : ℕ) (g : PairModel) (l j : List ℕ) → Paired f phase p b h k o g
    → core_of (turns f p) (l ++ received master n g) (j ++ received slave n g) (pair_run n g) ≡ iterate n (core_cycle (plain f phase b h false) (plain f phase b h true)) (core_of (turns f p) l j g)
projected {f = f} {p = p} zero g l j P = ap₂ (λ (x y : List ℕ). core_of (turns f p) x y g) (append-nil l) (append-nil j)
projected {f = f} {phase = phase} {p = p} {b = b} {h = h} (suc n) g l j P =
    ap₂ (λ (x y : List ℕ). core_of (turns f p) x y (pair_run n (pair_cycle g))) (sym (append_assoc l (completed master g) (received master n (pair_cycle g)))) (sym (append_assoc j (completed slave g) (received slave n (pair_cycle g))))
    ∙ projected n (pair_cycle g) (l ++ completed master g) (j ++ completed slave g) (paired_next g P)
    ∙ ap (iterate n (core_cycle (plain f phase b h false) (plain f phase b h true))) (commutes g P l j)

-- The state at the master's enabling -----------------------------------------------------------------------------------

-- as many words as the master sends, zeros where the slave has none
answers_due : (ws vs : List ℕ) → answers ws vs ≡ take (length ws) (vs ++ replicate (length ws) 0)
answers_due ws vs = go ws (length ws) vs (omega arith)
  where
    go : (ws : List ℕ) (k : ℕ) (vs : List ℕ) → length ws ≤ k → answers ws vs ≡ take (length ws) (vs ++ replicate k 0)
    go [] k vs l = refl
    go (w ∷ ws) zero vs l = absurd (omega arith)
    go (w ∷ ws) (suc k) [] l = ap (λ (t : List ℕ). 0 ∷ t) (go ws k [] (omega arith))
    go (w ∷ ws) (suc k) (v ∷ vs) l = ap (λ (t : List ℕ). v ∷ t) (go ws (suc k) vs (omega arith))

-- a load is received before the master's first BSY 0
received-busy : {f : Format} {phase : Bool} {b h : ℕ} (W : Wiring f phase b h) (k : 6 ≤ h) (ws : List ℕ) → load_cycles W k ws ≤ (busy_for f phase b (divisor h) (length ws)).0
received-busy W k [] = omega arith
received-busy W k (w ∷ ws) = W.in_time (length ws)

module _ (f : Format) (phase p : Bool) (b h k : ℕ) (o : Bool) (c₁ c₂ : Control) (n : ℕ) (g : PairModel) (P : Paired f phase p b h k o g)
    (L : Lead (idle_on f p) hidden c₁ c₂ n g) (four : 4 ≤ n) (slow : 6 ≤ h) where
  abbrev q₁ : Receiver
  q₁ = rx_of g.first.registers []

  abbrev q₂ : Receiver
  q₂ = rx_of g.second.registers []

  core_start : core_of (turns f p) [] [] g ≡ rested (starts (idle_on f false) (holding (load master g) (rx_of g.first.registers []) (load slave g) (rx_of g.second.registers [])))
  core_start =
      let e₁ = L.first.engine (omega arith) in
      let e₂ = L.second.engine (omega arith) in
      let l₁ = ap (turn_lines (turns f p)) (L.first.lines (omega arith)) ∙ idle_plain f p in
      let l₂ = ap (turn_lines false) (L.second.lines (omega arith)) in
      let x = ap (turn_pins (turns f p)) (L.newest (omega arith)) ∙ wire_plain f p in
      let y = ap (turn_pins (turns f p)) (L.middle (omega arith)) ∙ wire_plain f p in
      let z = ap (turn_pins (turns f p)) (L.oldest (omega arith)) ∙ wire_plain f p in
      λ t. record {
        m = record { tx = load master g; rx = rx_of g.first.registers []; engine = e₁ t; lines = l₁ t };
        s = record { tx = load slave g; rx = rx_of g.second.registers []; engine = e₂ t; lines = l₂ t };
        h = record { newest = x t; middle = y t; oldest = z t };
      }

  abbrev start : Pair
  start = rested (starts (idle_on f false) (holding (load master g) (rx_of g.first.registers []) (load slave g) (rx_of g.second.registers [])))

  run_of : (i : ℕ) → core_of (turns f p) (received master i g) (received slave i g) (pair_run i g) ≡ iterate i (core_cycle (plain f phase b h false) (plain f phase b h true)) start
  run_of i = projected i g [] [] P ∙ ap (iterate i (core_cycle (plain f phase b h false) (plain f phase b h true))) core_start

  abbrev until : ℕ
  until = (busy_for f phase b (divisor h) (length (load master g))).0

  fresh : Fresh (settings_of (control_of master g)) g.first
  unfolding settings_of
  fresh =
      let e = L.first.engine (omega arith) in
      fresh_sound g.first L.first.sound (ap (λ (s : Settings). s.enabled) P.master) (ap (λ (s : Settings). s.slave) P.master)
      (record { frame = ap (λ (x : Engine). x.frame) e; slot = ap (λ (x : Engine). x.slot.0) e; elapsed = ap (λ (x : Engine). x.elapsed.0) e; captured = ap (λ (x : Engine). x.shift.captured) e })

  held-small₁ : length (held master g) ≤ 8
  held-small₁ = (sound_elim g.first.registers _ (sound_registers_lem g.first L.first.sound)).rx

  held-small₂ : length (held slave g) ≤ 8
  held-small₂ = (sound_elim g.second.registers _ (sound_registers_lem g.second L.second.sound)).rx

  in_time : (j : ℕ) → load_cycles P.wiring slow (load master g) ≤ until + j
  in_time j = omega (arith, received-busy P.wiring slow (load master g))

  master_gets : (j : ℕ) → Received (given f phase p b h false o P.edition) (until + j) master g
  master_gets j =
      let r = ap (λ (c : Pair). c.m.rx) (run_of (until + j)) ∙ (has_received P.wiring slow (load master g) q₁ (load slave g) q₂ (until + j) (in_time j) held-small₁ held-small₂).0 in
      let d = ap (map (cut (capture_width (plain f phase b h false)))) (answers_due (load master g) (load slave g)) in
      record {
        words = ap (λ (x : Receiver). x.log) r ∙ d;
        queue = ap (λ (x : Receiver). x.held) r ∙ ap (λ (x : List ℕ). take 8 (held master g ++ x)) d;
        overrun = ap (λ (x : Receiver). x.ror) r ∙ ap₂ (λ (t : Bool) (x : List ℕ). t || ltb 8 (length (held master g ++ x))) L.first.ror d;
      }

  slave_gets : (j : ℕ) → Received (given f phase p b h false o P.edition) (until + j) slave g
  unfolding width_of
  slave_gets j =
      let r = ap (λ (c : Pair). c.s.rx) (run_of (until + j)) ∙ (has_received P.wiring slow (load master g) q₁ (load slave g) q₂ (until + j) (in_time j) held-small₁ held-small₂).1 in
      record {
        words = ap (λ (x : Receiver). x.log) r;
        queue = ap (λ (x : Receiver). x.held) r;
        overrun = ap (λ (x : Receiver). x.ror) r ∙ ap (λ (t : Bool). t || ltb 8 (length (held slave g ++ map (cut (width_of (given f phase p b h false o P.edition))) (load master g)))) L.second.ror;
      }

  pub exchanged_at : Exchanged g
  exchanged_at =
      let s = settings_of (control_of master g) in
      let n = length (load master g) in
      record {
        at = busy_cycles s n;
        figure = refl;
        bound = busy_bound s g.first fresh n;
        busy_before = pair_busy s g fresh;
        free = pair_free s g fresh (busy_cycles s n).0 (le_refl _);
        master_received = λ j. subst (λ (u : Settings). Received u ((busy_cycles u n).0 + j) master g) (sym P.master) (master_gets j);
        slave_received = λ j. subst (λ (u : Settings). Received u ((busy_cycles u n).0 + j) slave g) (sym P.master) (slave_gets j);
      }

-- The way there --------------------------------------------------------------------------------------------------------

-- idle lines
idle_master : (s : Settings) → s.slave ≡ false → lines_of s cleared ≡ idle_on s.format s.polarity
unfolding lines_of master_lines master_txd
idle_master s k = pick_no _ _ k

idle_slave : (s : Settings) → s.slave ≡ true → lines_of s cleared ≡ hidden
unfolding lines_of
idle_slave s k = pick_yes _ _ k ∙ slave_hidden s

enabled_is : (c : Control) → (settings_of c).enabled ≡ enabled_of c
unfolding settings_of
enabled_is c = refl

control_written : (d : DeviceModel) (o v : ℕ) → (write_device d o v).registers.control ≡ (write_model d.registers (active_device d) o v).control
unfolding write_device
control_written d o v = refl

-- a slave that is on, idle, and sees the master's idle lines
slave_stays_idle : {f : Format} {phase : Bool} {b h : ℕ} → Wiring f phase b h → (phase' p p' ed : Bool) (k : ℕ) → Agree f phase' phase → Agree f p' p → (d : DeviceModel) (x : Pins)
    → settings_of d.registers.control ≡ given f phase' p' b k true false ed → d.engine ≡ cleared
    → d.pins.oldest ≡ wire (idle_on f p) → d.pins.middle ≡ wire (idle_on f p) → device_step d x ≡ no_word cleared
unfolding device_step step_of
slave_stays_idle {f = f} {b = b} W phase' p p' ed k a a' d x s e u v =
    ap₂ (λ (s : Settings) (e : Engine). step_of s e d.pins x (waiting_of d.registers) (next_word d.registers)) s e
    ∙ ap₂ (λ (u v : Pins). slave_step (given f phase' p' b k true false ed) cleared u v (next_word d.registers)) u v
    ∙ stays_idle_given W phase' p p' ed k (next_word d.registers) a a'

-- the control registers after a device's enabling
control_after : (d : DeviceModel) (c : Control) → d.registers.control ≡ c → d.engine.frame ≡ false → c.cr1 ≤ 15 → enabled_of c ≡ false → permitted_of c.cr0 ≡ true → (c.cpsr ≡ 0 → ⊥)
    → (write_device d 0x04 (d.registers.control.cr1 + 2)).registers.control ≡ switched_on c
control_after d c e idle small off good divided =
    control_written d 0x04 (d.registers.control.cr1 + 2)
    ∙ control_on d.registers (active_device d) (active_idle d.registers.control d.engine idle ∙ ap enabled_of e ∙ off) (subst (λ (z : Control). z.cr1 ≤ 15) (sym e) small) (ap enabled_of e ∙ off) (ap (λ (z : Control). permitted_of z.cr0) e ∙ good) (λ w. divided (sym (ap (λ (z : Control). z.cpsr) e) ∙ w))
    ∙ ap switched_on e

module _ (p : PairModel) (st : Start p) where
  abbrev c₁ : Control
  c₁ = control_of master p

  abbrev c₂ : Control
  c₂ = control_of slave p

  abbrev s₁ : Settings
  s₁ = settings_of (control_of master p)

  abbrev s₂ : Settings
  s₂ = settings_of (control_of slave p)

  wired : Wiring s₁.format s₁.phase s₁.bits s₁.divisor.0
  unfolding settings_of
  wired = wiring_of s₁.bits s₁.divisor.0 (bits_least _ st.permitted_master) (bits_most _) st.divisor s₁.format st.serial s₁.phase

  off₁ : enabled_of (control_of master p) ≡ false
  off₁ = sym (enabled_is (control_of master p)) ∙ st.off_master

  off₂ : enabled_of (control_of slave p) ≡ false
  off₂ = sym (enabled_is (control_of slave p)) ∙ st.off_slave

  small₁ : (control_of master p).cr1 ≤ 15
  small₁ = (sound_elim p.first.registers _ (sound_registers_lem p.first st.sound_master)).control.cr1

  small₂ : (control_of slave p).cr1 ≤ 15
  small₂ = (sound_elim p.second.registers _ (sound_registers_lem p.second st.sound_slave)).control.cr1

  -- the settings of both once they are on
  on₁ : settings_of (switched_on (control_of master p)) ≡ given s₁.format s₁.phase s₁.polarity s₁.bits s₁.divisor.0 false s₁.sod s₁.edition2
  on₁ = settings_on (control_of master p) small₁ off₁
      ∙ (λ t. settings_by s₁.format s₁.phase s₁.polarity s₁.bits s₁.divisor (st.is_master t) s₁.sod (st.straight_master t) true s₁.edition2)

  on₂ : settings_of (switched_on (control_of slave p)) ≡ given s₁.format s₂.phase s₂.polarity s₁.bits s₂.divisor.0 true false s₂.edition2
  on₂ = settings_on (control_of slave p) small₂ off₂
      ∙ (λ t. settings_by (st.format t) s₂.phase s₂.polarity (st.size t) s₂.divisor (st.is_slave t) (st.output t) (st.straight_slave t) true s₂.edition2)

  abbrev i : Lines
  i = idle_on (settings_of (control_of master p)).format (settings_of (control_of master p)).polarity

  idle₁ : lines_of (settings_of (control_of master p)) cleared ≡ i
  idle₁ = idle_master _ st.is_master

  idle₂ : lines_of (settings_of (control_of slave p)) cleared ≡ hidden
  idle₂ = idle_slave _ st.is_slave

  idle-on₂ : lines_of (settings_of (switched_on (control_of slave p))) cleared ≡ hidden
  idle-on₂ = idle_slave _ (ap (λ (s : Settings). s.slave) on₂)

  lead_start : Lead i hidden (control_of master p) (control_of slave p) 0 p
  lead_start =
      record {
        first = record { control = refl; sound = st.sound_master; ror = st.clear_master; frame = st.idle_master; engine = λ l. absurd (omega arith); lines = λ l. absurd (omega arith) };
        second = record { control = refl; sound = st.sound_slave; ror = st.clear_slave; frame = st.idle_slave; engine = λ l. absurd (omega arith); lines = λ l. absurd (omega arith) };
        newest = λ l. absurd (omega arith);
        middle = λ l. absurd (omega arith);
        oldest = λ l. absurd (omega arith);
      }

  -- both off
  lead_pre : (pre : List Step) → Stays pre p → Lead i hidden (control_of master p) (control_of slave p) (cycles_in pre) (plays pre p)
  lead_pre pre z =
      lead_steps idle₁ idle₂ off₁ 0 (λ n g l c. step_off c.second (wire g.first.lines) off₂) pre 0 (cycles_in pre) p (omega arith) (omega arith) z lead_start

  -- the slave on
  lead_slave : (pre : List Step) → Stays pre p → Lead i hidden (control_of master p) (switched_on (control_of slave p)) (cycles_in pre) (slave_enabled pre p)
  lead_slave pre z =
      let l = lead_pre pre z in
      let g = plays pre p in
      lead-write₂ g l (switched_on (control_of slave p)) 0x04 (g.second.registers.control.cr1 + 2)
      (control_after g.second (control_of slave p) l.second.control l.second.frame small₂ off₂ st.permitted_slave st.divided_slave)
      (engine_enabling g.second 0x04 _ (ap enabled_of l.second.control ∙ off₂))

  lead_mid : (pre mid : List Step) → 4 ≤ cycles_in pre → Stays pre p → Stays mid (slave_enabled pre p) → Lead i hidden (control_of master p) (switched_on (control_of slave p)) (cycles_in pre + cycles_in mid) (plays mid (slave_enabled pre p))
  lead_mid pre mid four z z' =
      lead_steps idle₁ idle-on₂ off₁ 4
      (λ n g l c. slave_stays_idle wired s₂.phase s₁.polarity s₂.polarity s₂.edition2 s₂.divisor.0 st.phase st.polarity g.second (wire g.first.lines) (ap settings_of c.second.control ∙ on₂) (c.second.engine (omega arith)) (c.oldest l) (c.middle (omega arith)))
      mid (cycles_in pre) (cycles_in pre + cycles_in mid) (slave_enabled pre p) refl four z' (lead_slave pre z)

  -- the master on
  lead_master : (pre mid : List Step) → 4 ≤ cycles_in pre → Stays pre p → Stays mid (slave_enabled pre p)
      → Lead i hidden (switched_on (control_of master p)) (switched_on (control_of slave p)) (cycles_in pre + cycles_in mid) (master_enabled pre mid p)
  lead_master pre mid four z z' =
      let l = lead_mid pre mid four z z' in
      let g = plays mid (slave_enabled pre p) in
      lead-write₁ g l (switched_on (control_of master p)) 0x04 (g.first.registers.control.cr1 + 2)
      (control_after g.first (control_of master p) l.first.control l.first.frame small₁ off₁ st.permitted_master st.divided_master)
      (engine_enabling g.first 0x04 _ (ap enabled_of l.first.control ∙ off₁))

-- Demand 3, its first part.
pub demand3 : Demand3
demand3 p pre mid st four z z' =
    let l = lead_master p st pre mid four z z' in
    let s = settings_of (control_of master p) in
    exchanged_at s.format s.phase s.polarity s.bits s.divisor.0 (settings_of (control_of slave p)).divisor.0 s.sod _ _ _ (master_enabled pre mid p)
    (record {
      wiring = wired p st;
      master = ap settings_of l.first.control ∙ on₁ p st;
      edition = s.edition2;
      its_phase = (settings_of (control_of slave p)).phase;
      its_polarity = (settings_of (control_of slave p)).polarity;
      its_edition = (settings_of (control_of slave p)).edition2;
      phases = st.phase;
      polarities = st.polarity;
      slave = ap settings_of l.second.control ∙ on₂ p st;
    })
    l (omega arith) st.divisor
