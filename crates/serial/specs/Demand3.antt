-- Demand 3 as a statement: what is compared, from which starts, over which lists of steps. The proofs are named beside the
-- statements; the crate device_record carries these to records and output bytes.
use Rattle.std.specs.Prelude.{ℕ, zero, suc, ◌+◌, ◌-◌, ◌*◌, ◌≤◌, ◌<◌, ◌≡◌, Bool, true, false, ◌⊎◌, List, [], ◌∷◌, ◌++◌, map, ltb, length, take, drop, replicate}
use Rattle.registers.specs.Time.{cycles, slots, cycles_of}
use Rattle.registers.specs.Settings.{settings_of, settings_by, enabled_of, permitted_of}
use Rattle.registers.specs.declared.time.Cycles.{Cycles}
use Rattle.registers.specs.declared.time.Divisor.{Divisor}
use Rattle.registers.specs.declared.Control.{Control}
use Rattle.registers.specs.declared.settings.Format.{Format}
use Rattle.registers.specs.declared.settings.Format.TheVariants.{Motorola, Ti, Microwire, Reserved}
use Rattle.registers.specs.declared.settings.Settings.{Settings}
use Rattle.serial.specs.Cycle.{DeviceModel, completed_of, recording}
use Rattle.serial.specs.Access.{read_device, write_device}
use Rattle.serial.specs.Busy.{busy_device}
use Rattle.serial.specs.Sound.{sound_device}
use Rattle.serial.specs.Drawing.{idle, drawing, slot_total, stretch}
use Rattle.frames.specs.Bits.{cut}
use Rattle.frames.specs.Lines.{byte_of}
use Rattle.frames.specs.Slots.{width_of, capture_width}
use Rattle.frames.specs.declared.lines.Pins.{Pins}
use Rattle.serial.specs.Pair.{wire, PairModel, pair_cycle, pair_run, swapped, pair_lost}

-- Steps ----------------------------------------------------------------------------------------------------------------

-- The master is the first device, the slave the second.
pub data Which : Type 0 where
  master : Which
  slave : Which

-- A step: a pair cycle, or an access to either device, done or refused.
pub data Step : Type 0 where
  cycle : Step
  read : Which → ℕ → Step
  write : Which → ℕ → ℕ → Step

-- The pair after a step; an access leaves the other device as it was.
abbrev pub play : Step → PairModel → PairModel
play cycle p = pair_cycle p
play (read master o) p = record { first = read_device p.first o; second = p.second }
play (read slave o) p = record { first = p.first; second = read_device p.second o }
play (write master o v) p = record { first = write_device p.first o v; second = p.second }
play (write slave o v) p = record { first = p.first; second = write_device p.second o v }

-- The pair after a list of steps.
abbrev pub plays : List Step → PairModel → PairModel
plays [] p = p
plays (x ∷ xs) p = plays xs (play x p)

-- How many of the steps are pair cycles.
abbrev pub cycles_in : List Step → ℕ
cycles_in [] = 0
cycles_in (cycle ∷ xs) = suc (cycles_in xs)
cycles_in (read d o ∷ xs) = cycles_in xs
cycles_in (write d o v ∷ xs) = cycles_in xs

-- CR0, CR1 and CPSR of a device, with its edition, which no step changes.
abbrev pub control_of : Which → PairModel → Control
control_of master p = p.first.registers.control
control_of slave p = p.second.registers.control

-- CR0, CR1 and CPSR of both devices stay the same in every step.
abbrev pub Stays : List Step → PairModel → Type 0
Stays [] p = Unit {0}
Stays (x ∷ xs) p = (control_of master (play x p) ≡ control_of master p) × (control_of slave (play x p) ≡ control_of slave p) × Stays xs (play x p)

-- The CR1 write that enables a device that is off and changes only SSE.
abbrev pub enables : Which → PairModel → Step
enables d p = write d 0x04 ((control_of d p).cr1 + 2)

-- The start ------------------------------------------------------------------------------------------------------------

-- Polarity and phase must be the same in both devices; in Microwire they need not.
abbrev pub Agree : Format → Bool → Bool → Type 0
Agree Motorola x y = x ≡ y
Agree Ti x y = x ≡ y
Agree Microwire x y = Unit {0}
Agree Reserved x y = x ≡ y

-- The start: any two sound devices, set up and off, each of either edition.
pub record Start (p : PairModel) : Type 0 where
  pub sound_master : sound_device p.first ≡ true
  pub sound_slave : sound_device p.second ≡ true
  pub permitted_master : permitted_of (control_of master p).cr0 ≡ true
  pub permitted_slave : permitted_of (control_of slave p).cr0 ≡ true
  pub divided_master : (control_of master p).cpsr ≡ 0 → ⊥
  pub divided_slave : (control_of slave p).cpsr ≡ 0 → ⊥
  -- both Motorola, both TI or both Microwire, same word size; in Motorola and TI also same polarity and phase
  pub serial : ((settings_of (control_of master p)).format ≡ Motorola) ⊎ (((settings_of (control_of master p)).format ≡ Ti) ⊎ ((settings_of (control_of master p)).format ≡ Microwire))
  pub format : (settings_of (control_of slave p)).format ≡ (settings_of (control_of master p)).format
  pub size : (settings_of (control_of slave p)).bits ≡ (settings_of (control_of master p)).bits
  pub polarity : Agree (settings_of (control_of master p)).format (settings_of (control_of slave p)).polarity (settings_of (control_of master p)).polarity
  pub phase : Agree (settings_of (control_of master p)).format (settings_of (control_of slave p)).phase (settings_of (control_of master p)).phase
  -- a bit of the master is at least 12 cycles long
  pub divisor : 6 ≤ (settings_of (control_of master p)).divisor.0
  pub is_master : (settings_of (control_of master p)).slave ≡ false
  pub is_slave : (settings_of (control_of slave p)).slave ≡ true
  -- loopback off, slave output on
  pub straight_master : (settings_of (control_of master p)).loopback ≡ false
  pub straight_slave : (settings_of (control_of slave p)).loopback ≡ false
  pub output : (settings_of (control_of slave p)).sod ≡ false
  -- off, no frame in progress, overrun flags clear
  pub off_master : (settings_of (control_of master p)).enabled ≡ false
  pub off_slave : (settings_of (control_of slave p)).enabled ≡ false
  pub idle_master : p.first.engine.frame ≡ false
  pub idle_slave : p.second.engine.frame ≡ false
  pub clear_master : p.first.registers.ror ≡ false
  pub clear_slave : p.second.registers.ror ≡ false

-- What is compared -----------------------------------------------------------------------------------------------------

-- The master or the slave of a pair.
abbrev pub side : Which → PairModel → DeviceModel
side master p = p.first
side slave p = p.second

-- BSY of a device.
abbrev pub busy : Which → PairModel → Bool
busy d p = busy_device (side d p)

-- The words that a device completes in a pair cycle: none or one.
abbrev pub completed : Which → PairModel → List ℕ
completed master p = completed_of p.first (wire p.second.lines)
completed slave p = completed_of p.second (wire p.first.lines)

-- The words that a device completes in n pair cycles, whether its queue keeps them or not.
abbrev pub received : Which → ℕ → PairModel → List ℕ
received d zero p = []
received d (suc n) p = completed d p ++ received d n (pair_cycle p)

-- A device's load: the words in its transmit queue when the master is enabled, oldest first.
abbrev pub load : Which → PairModel → List ℕ
load d g = (side d g).registers.tx

-- The words held: those in its receive queue at that moment, oldest first.
abbrev pub held : Which → PairModel → List ℕ
held d g = (side d g).registers.rx

-- The words due, with the master's settings s. To the slave: the master's load, cut to the width that the master sends.
-- To the master: as many words of the slave's load, zeros if these run out, cut to the width that the master captures.
abbrev pub due : Settings → Which → PairModel → List ℕ
due s master g = map (cut (capture_width s)) (take (length (load master g)) (load slave g ++ replicate (length (load master g)) 0))
due s slave g = map (cut (width_of s)) (load master g)

-- One cycle more.
abbrev pub one_more : Cycles → Cycles
one_more n = cycles (n.0 + 1)

-- The cycles from a master's enabling to its first BSY 0: all slots before the one that ends the frame, and that slot's first
-- cycle; in TI all slots. proofs/Drawing/Free.antt proves it for a master alone in each format.
abbrev pub busy_for : Format → Bool → ℕ → Divisor → ℕ → Cycles
busy_for f phase b h zero = cycles 0
busy_for Motorola false b h (suc n) = one_more (cycles_of (slots (n * (2 * b + 4) + (2 * b + 2))) h)
busy_for Motorola true b h (suc n) = one_more (cycles_of (slots (2 * b * suc n + 2)) h)
busy_for Ti phase b h (suc n) = cycles_of (slots (2 * b * suc n + 2)) h
busy_for Microwire phase b h (suc n) = one_more (cycles_of (slots (suc n * (2 * b + 18) + 1)) h)
busy_for Reserved phase b h (suc n) = cycles 0

-- What a device has received n cycles after a master with settings s was enabled: exactly the words due. Its receive queue is
-- the first eight of the words held and the words due; ROR is set exactly if these are more than eight.
pub record Received (s : Settings) (n : ℕ) (d : Which) (g : PairModel) : Type 0 where
  pub words : received d n g ≡ due s d g
  pub queue : held d (pair_run n g) ≡ take 8 (held d g ++ due s d g)
  pub overrun : (side d (pair_run n g)).registers.ror ≡ ltb 8 (length (held d g ++ due s d g))

-- The words that a device loses in n pair cycles.
abbrev pub lost : Which → ℕ → PairModel → List ℕ
lost master n p = pair_lost n p
lost slave n p = pair_lost n (swapped p)

-- If a device has received the words due, it has lost those of them that found no place, in order.
-- Proof: `lost_of_due` in proofs/PairRuns.antt.
abbrev pub LostOfDue : Type 0
LostOfDue = (s : Settings) (n : ℕ) (d : Which) (g : PairModel) → Received s n d g → lost d n g ≡ drop (8 - length (held d g)) (due s d g)

-- What follows the master's enabling, g: the first BSY 0, at most the slot total times h cycles later, and what both devices
-- have received from then on.
pub record Exchanged (g : PairModel) : Type 0 where
  pub at : Cycles
  pub figure : at ≡ busy_for (settings_of (control_of master g)).format (settings_of (control_of master g)).phase (settings_of (control_of master g)).bits (settings_of (control_of master g)).divisor (length (load master g))
  pub bound : at.0 ≤ (cycles_of (slot_total (settings_of (control_of master g)) (length (load master g))) (settings_of (control_of master g)).divisor).0
  pub busy_before : (i : ℕ) → i < at.0 → busy master (pair_run i g) ≡ true
  pub free : busy master (pair_run at.0 g) ≡ false
  pub master_received : (j : ℕ) → Received (settings_of (control_of master g)) (at.0 + j) master g
  pub slave_received : (j : ℕ) → Received (settings_of (control_of master g)) (at.0 + j) slave g

-- The pair after the slave is enabled; `pre` are the cycles and accesses before that.
abbrev pub slave_enabled : List Step → PairModel → PairModel
slave_enabled pre p = play (enables slave (plays pre p)) (plays pre p)

-- The pair after the master is enabled, which is the last access; `mid` are the cycles and accesses between the two.
abbrev pub master_enabled : List Step → List Step → PairModel → PairModel
master_enabled pre mid p = play (enables master (plays mid (slave_enabled pre p))) (plays mid (slave_enabled pre p))

-- The first part: a wired pair exchanges exactly its words. Proof: `demand3` in proofs/Exchange/Claim.antt.
abbrev pub Demand3 : Type 0
Demand3 =
    (p : PairModel) (pre mid : List Step) → Start p → 4 ≤ cycles_in pre → Stays pre p → Stays mid (slave_enabled pre p) → Exchanged (master_enabled pre mid p)

-- The last sentence ----------------------------------------------------------------------------------------------------

-- The same settings in the second edition if true, otherwise in the first.
abbrev pub in_edition : Bool → Settings → Settings
in_edition edition2 s = settings_by s.format s.phase s.polarity s.bits s.divisor s.slave s.sod s.loopback s.enabled edition2

-- The write that enables a master with no frame in progress. The load is the words in the transmit queue after this write.
pub record Enabling (s : Settings) (d : DeviceModel) (o v : ℕ) : Type 0 where
  pub sound : sound_device d ≡ true
  pub clear : enabled_of d.registers.control ≡ false
  pub idle : d.engine.frame ≡ false
  pub set : settings_of (write_device d o v).registers.control ≡ s
  pub enabled : s.enabled ≡ true
  pub master : s.slave ≡ false

-- At least as many cycles as a load needs from enabling to its last idle slot: the slot total times h.
abbrev pub WholeLoad : Settings → DeviceModel → List Pins → Type 0
WholeLoad s d ps = (cycles_of (slot_total s (length d.registers.tx)) s.divisor).0 ≤ length ps

-- Two masters with the same settings, each in either edition, are enabled with no frame in progress, and no access follows. If
-- they give the same output bytes from enabling to the last idle slot or longer, whatever their pins carry, then their loads
-- are equal after cutting to b bits, in Microwire to 8. Proof: `enabling_injective` in proofs/Drawing/Enabled.antt.
abbrev pub LastSentence : Type 0
LastSentence =
    (s : Settings) (e e' : Bool) (d d' : DeviceModel) (o v o' v' : ℕ) → Enabling (in_edition e s) d o v → Enabling (in_edition e' s) d' o' v' → (ps qs : List Pins)
    → WholeLoad s (write_device d o v) ps → WholeLoad s (write_device d' o' v') qs
    → map byte_of (recording (write_device d o v) ps) ≡ map byte_of (recording (write_device d' o' v') qs)
    → map (cut (width_of s)) (write_device d o v).registers.tx ≡ map (cut (width_of s)) (write_device d' o' v').registers.tx

-- The recording of a load ------------------------------------------------------------------------------------------------

-- From the write that enables a master on, its lines are the drawing of its load, each entry for h cycles, and idle lines
-- after it, whatever its pins carry. Proof: `enabling_recorded` in proofs/Drawing/Enabled.antt.
abbrev pub Recorded : Type 0
Recorded =
    (s : Settings) (d : DeviceModel) (o v : ℕ) → Enabling s d o v → (ps : List Pins) (k : ℕ)
    → length ps ≡ (cycles_of (slot_total s (length (write_device d o v).registers.tx)) s.divisor).0 + k
    → recording (write_device d o v) ps ≡ stretch s.divisor.0 (drawing s (write_device d o v).registers.tx) ++ replicate k (idle s)
