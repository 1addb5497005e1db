-- The status register and the interrupts.
use Rattle.std.specs.Prelude.{ℕ, ◌+◌, Bool, not, ◌&&◌, ◌||◌, length, ltb, leb, eqb}
use Rattle.registers.specs.Choose.{pick}
use Rattle.registers.specs.Bits.{bit_at}
use Rattle.registers.specs.Model.{Model}
use Rattle.registers.specs.declared.flags.Interrupts.{Interrupts}

-- BSY: a frame is in progress, or the transmit queue is not empty.
unfoldable pub busy_of : Model → Bool → Bool
busy_of m frame = frame || not (eqb (length m.tx) 0)

-- SR: BSY is bit 4, RFF 3, RNE 2, TNF 1, TFE 0.
unfoldable pub status_of : Model → Bool → ℕ
status_of m frame =
    pick (busy_of m frame) 16 0
    + pick (leb 8 (length m.rx)) 8 0
    + pick (not (eqb (length m.rx) 0)) 4 0
    + pick (ltb (length m.tx) 8) 2 0
    + pick (eqb (length m.tx) 0) 1 0

-- RIS. TX: the transmit queue has four words or fewer. RX: the receive queue has four or more. RT and ROR are flags.
unfoldable pub raw_of : Model → Interrupts
raw_of m = record { tx = leb (length m.tx) 4; rx = leb 4 (length m.rx); rt = m.timeout.rt; ror = m.ror }

-- MIS: RIS AND IMSC, bit by bit.
unfoldable pub masked_of : Model → Interrupts
masked_of m =
    record {
      tx = (raw_of m).tx && bit_at m.masks.imsc 3;
      rx = (raw_of m).rx && bit_at m.masks.imsc 2;
      rt = (raw_of m).rt && bit_at m.masks.imsc 1;
      ror = (raw_of m).ror && bit_at m.masks.imsc 0;
    }

-- RIS or MIS as a word: TX is bit 3, RX 2, RT 1, ROR 0.
unfoldable pub interrupt_word : Interrupts → ℕ
interrupt_word i = pick i.tx 8 0 + pick i.rx 4 0 + pick i.rt 2 0 + pick i.ror 1 0
