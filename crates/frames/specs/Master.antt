-- What a master does in a cycle.
use Rattle.std.specs.Prelude.{ℕ, ◌+◌, Bool, false, not, ◌&&◌, ◌||◌, ltb, eqb}
use Rattle.registers.specs.Choose.{pick}
use Rattle.registers.specs.Time.{cycles, slots}
use Rattle.registers.specs.declared.time.Slots.{Slots}
use Rattle.registers.specs.declared.settings.Settings.{Settings}
use Rattle.frames.specs.Bits.{bit_of}
use Rattle.frames.specs.Engine.{clear_shift, cleared, with_shift, with_frame, with_slot, offered, loaded, started, driven, quieted, no_word, begun_if, begun, capture_step, with_elapsed, with_next_slot}
use Rattle.frames.specs.Lines.{master_txd}
use Rattle.frames.specs.Slots.{event_of, last_slot, width_of, capture_width}
use Rattle.frames.specs.declared.engine.Shift.{Shift}
use Rattle.frames.specs.declared.engine.Engine.{Engine}
use Rattle.frames.specs.declared.engine.Step.{Step}
use Rattle.frames.specs.declared.slots.Event.{Event}
use Rattle.frames.specs.declared.slots.Event.TheVariants.{Begin, BeginDrive, Drive, First, Capture, Chain, JoinDrive, JoinCapture, Quiet, Release, Pause}

-- TI's joined word: the old word's last bit goes on TXD and stays, its last capture is still to come, the new word is taken.
unfoldable pub joined_shift : ℕ → ℕ → ℕ → Shift → Shift
joined_shift width i next x =
    record { captured = x.captured; level = bit_of width x.sending i; sending = next; receiving = x.receiving }

-- Bit i goes on TXD.
abbrev pub drive_step : Settings → Engine → ℕ → Step
drive_step s e i = no_word (with_shift e (driven (width_of s) i e.shift))

-- If a word waits, it is taken, its first bit goes on TXD, and this is its slot n.
abbrev pub chain_step : Settings → Engine → Bool → ℕ → Slots → Step
chain_step s e waiting next n = pick waiting (begun (with_slot e n) (started (width_of s) next)) (no_word e)

-- Bit i goes on TXD. If a word waits, it is taken, and this is its slot 0.
abbrev pub join_step : Settings → Engine → Bool → ℕ → ℕ → Step
join_step s e waiting next i = pick waiting (begun (with_slot e (slots 0)) (joined_shift (width_of s) i next e.shift)) (drive_step s e i)

-- The last capture of the word that this one is joined to. Without captured bits there is no such word.
abbrev pub join_capture : Settings → Engine → Bool → Step
join_capture s e bit = pick (eqb e.shift.captured 0) (no_word e) (capture_step (capture_width s) bit e)

-- What an event does. `waiting`: a word waits to be sent, and the oldest is `next`. `bit`: the level that a capture takes.
-- With SSE set slot 0 takes a word; with SSE clear it takes none and sends zeros.
abbrev pub act : Settings → Engine → Bool → ℕ → Bool → Event → Step
act s e waiting next bit Begin = begun_if s.enabled e (loaded (offered s.enabled next))
act s e waiting next bit BeginDrive = begun_if s.enabled e (started (width_of s) (offered s.enabled next))
act s e waiting next bit (Drive i) = drive_step s e i
act s e waiting next bit First = no_word (with_shift e (started (width_of s) e.shift.sending))
act s e waiting next bit Capture = capture_step (capture_width s) bit e
act s e waiting next bit (Chain n) = chain_step s e waiting next n
act s e waiting next bit (JoinDrive i) = join_step s e waiting next i
act s e waiting next bit JoinCapture = join_capture s e bit
act s e waiting next bit Quiet = no_word (with_shift e (quieted e.shift))
act s e waiting next bit Release = no_word (with_frame e false clear_shift)
act s e waiting next bit Pause = no_word e

-- At rest: not in a frame and not in an idle slot.
unfoldable pub resting : Engine → Bool
resting e = (not e.frame && eqb e.slot.0 0) && eqb e.elapsed.0 0

-- Events happen in the first cycle of a slot. A master at rest starts slot 0 in the cycle in which a word waits.
unfoldable pub acting : Engine → Bool → Bool
acting e waiting = (e.frame && eqb e.elapsed.0 0) || (resting e && waiting)

-- The level that a capture takes: RXD, in loopback the device's own TXD in that cycle.
unfoldable pub data_bit : Settings → Bool → Bool → Bool
data_bit s txd rxd = pick s.loopback txd rxd

-- A master's step: the event of this cycle, if there is one. The lines show the engine after it.
unfoldable pub master_step : Settings → Engine → Bool → ℕ → Bool → Step
master_step s e waiting next rxd =
    pick (acting e waiting) (act s e waiting next (data_bit s (master_txd s e) rxd) (event_of s e.slot)) (no_word e)

-- A cycle of the slot is over. After h cycles the next slot begins; after the last slot the engine is clear, so TI's frame ends.
unfoldable pub ticked : Settings → Engine → Engine
ticked s e =
    pick (ltb (e.elapsed.0 + 1) s.divisor.0)
    (with_elapsed e (cycles (e.elapsed.0 + 1)))
    (pick (ltb e.slot.0 (last_slot s).0)
    (with_next_slot e)
    cleared)

-- The end of a master's cycle. At rest nothing is counted.
unfoldable pub master_end : Settings → Engine → Engine
master_end s e = pick (resting e) e (ticked s e)
