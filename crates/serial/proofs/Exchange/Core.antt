-- The part of a device that matters to the exchange of words: queues, engine and lines. The rest of the register file does not.
use Prim.Native.Nat.{ℕ}
use mathlib.Core.Bool.{Bool, true, false, not, ◌||◌}
use mathlib.Core.List.{List, [], ◌∷◌, ◌++◌}
use lib.Dec.{ltb}
use lib.ListN.{length, get_or}
use Rattle.registers.specs.Settings.{settings_by}
use Rattle.registers.specs.Transfer.{added, rest}
use Rattle.registers.specs.Choose.{pick}
use Rattle.registers.specs.Time.{divisor}
use Rattle.registers.specs.declared.settings.Format.{Format}
use Rattle.registers.specs.declared.settings.Settings.{Settings}
use Rattle.frames.specs.Lines.{master_lines, slave_lines}
use Rattle.frames.specs.Master.{master_step, master_end}
use Rattle.serial.specs.Slave.{slave_step, slave_end}
use Rattle.serial.specs.Cycle.{follow}
use Rattle.serial.specs.Pair.{wire}
use Rattle.serial.proofs.Cycles.{on_word, waits}
use Rattle.serial.specs.declared.History.{History}
use Rattle.frames.specs.declared.engine.Engine.{Engine}
use Rattle.frames.specs.declared.engine.Step.{Step}
use Rattle.frames.specs.declared.lines.Lines.{Lines}
use Rattle.frames.specs.declared.lines.Pins.{Pins}

-- words held, the overrun flag, and the words completed since the watch began
pub record Receiver : Type 0 where
  pub held : List ℕ
  pub ror : Bool
  pub log : List ℕ

unfoldable pub push : ℕ → Receiver → Receiver
push w q = record { held = added q.held w; ror = q.ror || not (ltb (length q.held) 8); log = q.log ++ (w ∷ []) }

pub record Side : Type 0 where
  pub tx : List ℕ
  pub rx : Receiver
  pub engine : Engine
  pub lines : Lines

-- settings with SPO 0, enabled, loopback off, output on; enabled, so that the edition makes no difference
abbrev pub plain : Format → Bool → ℕ → ℕ → Bool → Settings
plain f phase b h slave =
    settings_by f phase false b (divisor h) slave false false true false

-- a step with its words moved
abbrev pub moved : Step → Side → Lines → Side
moved r x l = record { tx = pick r.takes (rest x.tx) x.tx; rx = on_word r.completed (λ (w : ℕ). push w x.rx) x.rx; engine = r.engine; lines = l }

abbrev pub master_moves : Settings → Side → Bool → Step
master_moves s x rxd = master_step s x.engine (waits x.tx) (get_or x.tx 0 0) rxd

-- the master after the cycle's event
unfoldable pub acted : Settings → Side → Bool → Side
acted s x rxd = moved (master_moves s x rxd) x (master_lines s (master_moves s x rxd).engine)

abbrev pub with_engine : Side → Engine → Side
with_engine x e = record { tx = x.tx; rx = x.rx; engine = e; lines = x.lines }

-- a master's cycle
unfoldable pub master_side : Settings → Side → Bool → Side
master_side s x rxd = with_engine (acted s x rxd) (master_end s (acted s x rxd).engine)

abbrev pub slave_moves : Settings → Side → Pins → Pins → Step
slave_moves s x before seen = slave_step s x.engine before seen (get_or x.tx 0 0)

-- a slave's cycle
unfoldable pub slave_side : Settings → Pins → Pins → Side → Side
slave_side s before seen x =
    let y = moved (slave_moves s x before seen) x (slave_lines s (slave_moves s x before seen).engine) in
    with_engine y (slave_end s y.engine)

pub record Pair : Type 0 where
  pub m : Side
  pub s : Side
  pub h : History

-- a cycle of the wired pair
unfoldable pub core_cycle : Settings → Settings → Pair → Pair
core_cycle sm ss p =
    record { m = master_side sm p.m (wire p.s.lines).rxd; s = slave_side ss p.h.oldest p.h.middle p.s; h = follow p.h (wire p.m.lines) }
