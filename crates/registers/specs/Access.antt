-- What a read or a write of a register answers, and the register file after it.
use Rattle.std.specs.Prelude.{ℕ, ◌*◌, ◌/◌, ◌%◌, ◌≡◌, Bool, not, ◌&&◌, ◌||◌, length, get_or, leb, eqb}
use Rattle.queue.specs.Fifo.{added, rest}
use Rattle.registers.specs.Choose.{pick}
use Rattle.registers.specs.Bits.{bit_at, bits_differ}
use Rattle.registers.specs.Time.{cycles}
use Rattle.registers.specs.Refusals.{done, bad_offset, reserved_offset, wrong_access, extra_bits, engine_active, not_permitted, queue_full, queue_empty, first_of, Answer, Word, Refused, refusal_of, word_of}
use Rattle.registers.specs.Model.{Model, with_cr0, with_cr1, with_cpsr, with_control, with_masks, with_timeout, with_ror, with_tx, with_rx}
use Rattle.registers.specs.Offsets.{register_of, identity_of}
use Rattle.registers.specs.Settings.{permitted_of}
use Rattle.registers.specs.Flags.{status_of, raw_of, masked_of, interrupt_word}
use Rattle.registers.specs.declared.time.Cycles.{Cycles}
use Rattle.registers.specs.declared.offsets.Register.{Register}
use Rattle.registers.specs.declared.offsets.Register.TheVariants.{Cr0, Cr1, Dr, Sr, Cpsr, Imsc, Ris, Mis, Icr, Dmacr, Identity, Reserved, Outside}

-- Reading ------------------------------------------------------------------------------------------------------------

-- The refusal number of a read. 1, 2 and 3 depend on the register alone; 8 is a read of DR with no word held.
abbrev pub read_refusal : Model → Register → ℕ
read_refusal m Cr0 = done
read_refusal m Cr1 = done
read_refusal m Dr = pick (eqb (length m.rx) 0) queue_empty done
read_refusal m Sr = done
read_refusal m Cpsr = done
read_refusal m Imsc = done
read_refusal m Ris = done
read_refusal m Mis = done
read_refusal m Icr = wrong_access
read_refusal m Dmacr = done
read_refusal m (Identity i) = done
read_refusal m Reserved = reserved_offset
read_refusal m Outside = bad_offset

-- The word that a register reads as, 0 where the read is refused; `frame` says whether a frame is in progress.
abbrev pub read_word : Model → Bool → Register → ℕ
read_word m frame Cr0 = m.control.cr0
read_word m frame Cr1 = m.control.cr1
read_word m frame Dr = get_or m.rx 0 0
read_word m frame Sr = status_of m frame
read_word m frame Cpsr = m.control.cpsr
read_word m frame Imsc = m.masks.imsc
read_word m frame Ris = interrupt_word (raw_of m)
read_word m frame Mis = interrupt_word (masked_of m)
read_word m frame Icr = 0
read_word m frame Dmacr = m.masks.dmacr
read_word m frame (Identity i) = identity_of i
read_word m frame Reserved = 0
read_word m frame Outside = 0

-- A DR read takes the oldest received word and makes the RT count zero; if this empties the queue, RT is cleared.
unfoldable pub data_taken : Model → Model
data_taken m =
    with_timeout (with_rx m (rest m.rx))
    (record { rt = m.timeout.rt && not (eqb (length (rest m.rx)) 0); count = cycles 0 })

-- What a read that is done leaves: a DR read takes a word, any other read changes nothing.
abbrev pub read_done : Model → Register → Model
read_done m Cr0 = m
read_done m Cr1 = m
read_done m Dr = data_taken m
read_done m Sr = m
read_done m Cpsr = m
read_done m Imsc = m
read_done m Ris = m
read_done m Mis = m
read_done m Icr = m
read_done m Dmacr = m
read_done m (Identity i) = m
read_done m Reserved = m
read_done m Outside = m

-- A read answers with a word or with a refusal number.
unfoldable pub read_answer : Model → Bool → ℕ → Answer
read_answer m frame o = pick (eqb (read_refusal m (register_of o)) done) (Word (read_word m frame (register_of o))) (Refused (read_refusal m (register_of o)))

-- The register file after a read; a refused read changes nothing.
unfoldable pub read_model : Model → ℕ → Model
read_model m o = pick (eqb (read_refusal m (register_of o)) done) (read_done m (register_of o)) m

-- A read: its answer, and the register file after it.
pub record Read (m : Model) (frame : Bool) (o : ℕ) (r : Answer) (after : Model) : Type 0 where
  pub answer : r ≡ read_answer m frame o
  pub refusal : refusal_of r ≡ read_refusal m (register_of o)
  pub word : word_of r ≡ pick (eqb (read_refusal m (register_of o)) done) (read_word m frame (register_of o)) 0
  pub model : after ≡ read_model m o

-- Writing ------------------------------------------------------------------------------------------------------------

-- Refusal 4. The bits that may be written are the lowest ones, so another bit is set exactly if the value is at least `limit`.
abbrev pub bits_beyond : ℕ → ℕ → ℕ
bits_beyond limit v = pick (leb limit v) extra_bits done

-- Refusals 1 to 4 depend on the register and the value alone.
abbrev pub write_access : Register → ℕ → ℕ
write_access Cr0 v = bits_beyond 0x10000 v
write_access Cr1 v = bits_beyond 0x10 v
write_access Dr v = bits_beyond 0x10000 v
write_access Sr v = wrong_access
write_access Cpsr v = bits_beyond 0x100 v
write_access Imsc v = bits_beyond 0x10 v
write_access Ris v = wrong_access
write_access Mis v = wrong_access
write_access Icr v = bits_beyond 0x4 v
write_access Dmacr v = bits_beyond 0x4 v
write_access (Identity i) v = wrong_access
write_access Reserved v = reserved_offset
write_access Outside v = bad_offset

-- Refusal 5 depends on `active`: whether the engine is active. The layer above passes it in.

-- CR0: 5 while active; 6 if the value is not permitted.
unfoldable pub cr0_rule : Bool → ℕ → ℕ
cr0_rule active v = pick active engine_active (pick (permitted_of v) done not_permitted)

-- CR1: 5 if MS or LBM changes while active; 6 if the value has SSE set while CR0 is not permitted or CPSR is 0.
unfoldable pub cr1_rule : Model → Bool → ℕ → ℕ
cr1_rule m active v =
    pick (active && (bits_differ m.control.cr1 v 2 || bits_differ m.control.cr1 v 0)) engine_active
    (pick (bit_at v 1 && (not (permitted_of m.control.cr0) || eqb m.control.cpsr 0)) not_permitted
    done)

-- CPSR: 5 while active.
unfoldable pub cpsr_rule : Bool → ℕ
cpsr_rule active = pick active engine_active done

-- DR: 7 with eight words in the transmit queue.
unfoldable pub dr_rule : Model → ℕ
dr_rule m = pick (leb 8 (length m.tx)) queue_full done

-- Refusals 5 to 7 depend on the state too; the other registers have no such rule.
abbrev pub write_rule : Model → Bool → Register → ℕ → ℕ
write_rule m active Cr0 v = cr0_rule active v
write_rule m active Cr1 v = cr1_rule m active v
write_rule m active Dr v = dr_rule m
write_rule m active Sr v = done
write_rule m active Cpsr v = cpsr_rule active
write_rule m active Imsc v = done
write_rule m active Ris v = done
write_rule m active Mis v = done
write_rule m active Icr v = done
write_rule m active Dmacr v = done
write_rule m active (Identity i) v = done
write_rule m active Reserved v = done
write_rule m active Outside v = done

-- The refusal number of a write, the first of 1 to 7 that applies; 0 if it is done.
unfoldable pub write_refusal : Model → Bool → Register → ℕ → ℕ
write_refusal m active p v = first_of (write_access p v) (write_rule m active p v)

-- The RT count, kept or made zero.
abbrev pub kept_count : Bool → Cycles → Cycles
kept_count keep n = pick keep n (cycles 0)

-- CR0 is written.
unfoldable pub cr0_written : Model → ℕ → Model
cr0_written m v = with_control m (with_cr0 m.control (v % 0x10000))

-- CR1 is written; if SSE is then clear, the RT count is zero. Both queues keep their words.
unfoldable pub cr1_written : Model → ℕ → Model
cr1_written m v =
    with_timeout (with_control m (with_cr1 m.control (v % 0x10)))
    (record { rt = m.timeout.rt; count = kept_count (bit_at v 1) m.timeout.count })

-- CPSR is written without its bit 0.
unfoldable pub cpsr_written : Model → ℕ → Model
cpsr_written m v = with_control m (with_cpsr m.control (v % 0x100 / 2 * 2))

-- ICR is written: bit 0 clears ROR; bit 1 clears RT and makes the RT count zero.
unfoldable pub icr_written : Model → ℕ → Model
icr_written m v =
    with_timeout (with_ror m (m.ror && not (bit_at v 0)))
    (record { rt = m.timeout.rt && not (bit_at v 1); count = kept_count (not (bit_at v 1)) m.timeout.count })

-- DR is written: the value becomes the newest word in the transmit queue.
unfoldable pub dr_written : Model → ℕ → Model
dr_written m v = with_tx m (added m.tx (v % 0x10000))

-- IMSC is written: the masks of TX, RX, RT and ROR.
unfoldable pub imsc_written : Model → ℕ → Model
imsc_written m v = with_masks m (record { imsc = v % 0x10; dmacr = m.masks.dmacr })

-- DMACR is written: its two bits are stored and have no effect.
unfoldable pub dmacr_written : Model → ℕ → Model
dmacr_written m v = with_masks m (record { imsc = m.masks.imsc; dmacr = v % 0x4 })

-- What a write that is done leaves. The registers that give m here refuse every write.
abbrev pub write_done : Model → Register → ℕ → Model
write_done m Cr0 v = cr0_written m v
write_done m Cr1 v = cr1_written m v
write_done m Dr v = dr_written m v
write_done m Sr v = m
write_done m Cpsr v = cpsr_written m v
write_done m Imsc v = imsc_written m v
write_done m Ris v = m
write_done m Mis v = m
write_done m Icr v = icr_written m v
write_done m Dmacr v = dmacr_written m v
write_done m (Identity i) v = m
write_done m Reserved v = m
write_done m Outside v = m

-- The register file after a write; a refused write changes nothing.
unfoldable pub write_model : Model → Bool → ℕ → ℕ → Model
write_model m active o v = pick (eqb (write_refusal m active (register_of o) v) done) (write_done m (register_of o) v) m

-- A write: its refusal number, and the register file after it.
pub record Write (m : Model) (active : Bool) (o v r : ℕ) (after : Model) : Type 0 where
  pub refusal : r ≡ write_refusal m active (register_of o) v
  pub model : after ≡ write_model m active o v
