-- What the serial engine does to the register file: it takes words to send, delivers received words and ends each cycle.
use Rattle.std.specs.Prelude.{ℕ, ◌+◌, ◌≤◌, ◌≡◌, Bool, true, false, not, ◌&&◌, ◌||◌, List, length, get_or, ltb, leb, eqb}
unfoldable pub use Rattle.queue.specs.Fifo.{added, dropped}
pub use Rattle.queue.specs.Fifo.{rest}
use Rattle.registers.specs.Choose.{pick}
use Rattle.registers.specs.Time.{cycles, slots, cycles_of}
use Rattle.registers.specs.Model.{Model, with_timeout, with_ror, with_tx, with_rx}
use Rattle.registers.specs.Settings.{enabled_of, divisor_of}
use Rattle.registers.specs.declared.Timeout.{Timeout}
use Rattle.registers.specs.declared.time.Cycles.{Cycles}

-- A word waits to be sent: SSE is 1 and the transmit queue is not empty.
unfoldable pub waiting_of : Model → Bool
waiting_of m = enabled_of m.control && not (eqb (length m.tx) 0)

-- The oldest word in the transmit queue; zero if there is none.
unfoldable pub next_word : Model → ℕ
next_word m = get_or m.tx 0 0

-- The oldest word leaves the transmit queue.
unfoldable pub take_word : Model → Model
take_word m = with_tx m (rest m.tx)

-- A completed word enters the receive queue. With eight held it is dropped instead: the eight stay, and ROR is set.
-- Either way RT is cleared, and the RT count stays.
unfoldable pub receive_word : Model → ℕ → Model
receive_word m w =
    with_timeout (with_ror (with_rx m (added m.rx w)) (m.ror || not (ltb (length m.rx) 8)))
    (record { rt = false; count = m.timeout.count })

-- The words lost when a word arrives: that word if eight are held, otherwise none.
unfoldable pub lost_word : Model → ℕ → List ℕ
lost_word m w = dropped m.rx w

-- The arrival of a completed word: the register file after it, and the word if it was lost.
pub record ReceiveWord (m : Model) (w : ℕ) (r : List ℕ) (after : Model) : Type 0 where
  pub registers : after ≡ receive_word m w
  pub lost : r ≡ lost_word m w

-- Whether a cycle counts for RT: it ends with a word held, SSE set and no frame in progress.
unfoldable pub idles_of : Model → Bool → Bool
idles_of m frame = (not (eqb (length m.rx) 0) && enabled_of m.control) && not frame

-- RT is set after 32 bit times, which are 64 slots.
unfoldable pub limit_of : Model → Cycles
limit_of m = cycles_of (slots 64) (divisor_of m.control)

-- This limit is at most 64 × 32,512.
pub record LimitOf (m : Model) (r : Cycles) : Type 0 where
  pub limit : r ≡ limit_of m
  pub most : r.0 ≤ 2080768

-- The timeout at the end of a cycle. A cycle that counts adds one to the RT count; at the limit RT is set, and the count
-- returns to zero. In any other cycle RT stays, and the count becomes zero.
unfoldable pub timeout_of : Model → Bool → Timeout
timeout_of m frame =
    pick (idles_of m frame)
    (pick (leb (limit_of m).0 (m.timeout.count.0 + 1))
    (record { rt = true; count = cycles 0 })
    (record { rt = m.timeout.rt; count = cycles (m.timeout.count.0 + 1) }))
    (record { rt = m.timeout.rt; count = cycles 0 })

-- The end of a cycle changes only the timeout.
unfoldable pub end_cycle : Model → Bool → Model
end_cycle m frame = with_timeout m (timeout_of m frame)
