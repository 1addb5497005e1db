-- Two devices wired together.
use Rattle.std.specs.Prelude.{ℕ, zero, suc, ◌+◌, ◌≡◌, not, ◌&&◌, List, [], ◌∷◌, ◌++◌}
use Rattle.serial.specs.Cycle.{DeviceModel, device_of, cycle_of, after, lost_in}
use Rattle.serial.specs.Lost.{losses_of}
use Rattle.serial.specs.declared.pair.Wired.{Wired}
use Rattle.serial.specs.declared.pair.PairLosses.{PairLosses}
use Rattle.frames.specs.declared.lines.Lines.{Lines}
use Rattle.frames.specs.declared.lines.Pins.{Pins}

-- What the other device's pins read: CLK and FSS as driven, and TXD as RXD; a released TXD reads LOW.
unfoldable pub wire : Lines → Pins
wire l = record { clk = l.clk; fss = l.fss; rxd = l.txd && not l.released }

-- Two devices, each wired to the other.
pub record PairModel : Type 0 where
  pub first : DeviceModel
  pub second : DeviceModel

-- A pair cycle: the pins of each device are the lines of the other in the cycle before.
unfoldable pub pair_cycle : PairModel → PairModel
pair_cycle p =
    record { first = cycle_of p.first (wire p.second.lines); second = cycle_of p.second (wire p.first.lines) }

-- The pair after n cycles.
abbrev pub pair_run : ℕ → PairModel → PairModel
pair_run zero p = p
pair_run (suc n) p = pair_run n (pair_cycle p)

-- The two devices in the other order.
abbrev pub swapped : PairModel → PairModel
swapped p = record { first = p.second; second = p.first }

-- The pins that the first device reads in n cycles; for the second device, swap the pair.
abbrev pub pins_read : ℕ → PairModel → List Pins
pins_read zero p = []
pins_read (suc n) p = wire p.second.lines ∷ pins_read n (pair_cycle p)

-- The words that the first device loses in n cycles.
abbrev pub pair_lost : ℕ → PairModel → List ℕ
pair_lost n p = lost_in p.first (pins_read n p)

-- The model of two devices of the code.
unfoldable pub pair_of : Wired → PairModel
pair_of w = record { first = device_of w.first; second = device_of w.second }

-- A pair run: the pair after n cycles, and what each device lost in them.
pub record PairRun (n : ℕ) (p : PairModel) (r : PairLosses) (p' : PairModel) : Type 0 where
  pub pair : p' ≡ pair_run n p
  pub first : r.first ≡ losses_of (pair_lost n p)
  pub second : r.second ≡ losses_of (pair_lost n (swapped p))

-- In a pair run each device goes through a run with the pins that it reads, so the rules about words lost in a run hold.
pub record PairRunIsRun : Type 0 where
  pub first : (n : ℕ) (p : PairModel) → (pair_run n p).first ≡ after p.first (pins_read n p)
  pub second : (n : ℕ) (p : PairModel) → (pair_run n p).second ≡ after p.second (pins_read n (swapped p))
  -- a pair run in two parts loses what the parts lose
  pub joined : (m n : ℕ) (p : PairModel) → pair_lost (m + n) p ≡ pair_lost m p ++ pair_lost n (pair_run m p)
