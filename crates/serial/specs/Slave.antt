-- What a slave does in a cycle. It sees each pin as it was two cycles ago; an edge is a difference from the cycle before that.
use Rattle.std.specs.Prelude.{ℕ, ◌+◌, ◌-◌, ◌*◌, ◌/◌, ◌%◌, Bool, true, false, not, ◌&&◌, ◌||◌, ltb, leb, eqb}
use Rattle.registers.specs.Choose.{pick}
use Rattle.registers.specs.Time.{slots}
use Rattle.registers.specs.declared.settings.Format.{Format}
use Rattle.registers.specs.declared.settings.Format.TheVariants.{Motorola, Ti, Microwire, Reserved}
use Rattle.registers.specs.declared.settings.Settings.{Settings}
use Rattle.frames.specs.Engine.{clear_shift, cleared, with_shift, with_frame, with_slot, offered, started, driven, no_word, begun_if, capture_step, with_selected}
use Rattle.frames.specs.Slots.{capture_width}
use Rattle.frames.specs.Lines.{differ}
use Rattle.frames.specs.Master.{data_bit}
use Rattle.frames.specs.declared.engine.Engine.{Engine}
use Rattle.frames.specs.declared.engine.Step.{Step}
use Rattle.frames.specs.declared.lines.Pins.{Pins}

-- How a slave takes a word, in every format. Its first bit becomes the held level: Motorola and TI show it at once, Microwire
-- from the next fall of CLK on. With SSE clear no word is taken. Then, and if no word waits, the slave sends zeros.
abbrev pub slave_take : Settings → Engine → Bool → ℕ → Step
slave_take s e may next = begun_if may e (started s.bits (offered may next))

-- Motorola and TI: with c bits captured the slave drives bit c.
abbrev pub slave_drive : Settings → Engine → Step
slave_drive s e = no_word (with_shift e (driven s.bits e.shift.captured e.shift))

-- Motorola -------------------------------------------------------------------------------------------------------------

-- The engine after a fall of FSS has selected it.
abbrev pub selected_of : Engine → Engine
selected_of e = with_selected (with_frame e false clear_shift) true

-- A fall of FSS selects the slave. With SPH 0 it takes a word at once, by `slave_take`, and drives its first bit.
unfoldable pub motorola_select : Settings → Engine → Bool → ℕ → Step
motorola_select s e fell next =
    pick fell (pick s.phase (no_word (selected_of e)) (slave_take s (selected_of e) s.enabled next)) (no_word e)

-- CLK leaves a level.
abbrev pub clock_leaves : Bool → Pins → Pins → Bool
clock_leaves level before seen = not (differ before.clk level) && differ seen.clk level

-- The clock edge from the idle level, SPO, to the active one.
abbrev pub to_active : Settings → Pins → Pins → Bool
to_active s before seen = not (differ before.clk s.polarity) && differ seen.clk s.polarity

-- The clock edge back to the idle level.
abbrev pub to_idle : Settings → Pins → Pins → Bool
to_idle s before seen = differ before.clk s.polarity && not (differ seen.clk s.polarity)

-- SPH 0 captures at edges to active, SPH 1 at edges to idle.
unfoldable pub capture_edge : Settings → Pins → Pins → Bool
capture_edge s before seen = pick s.phase (to_idle s before seen) (to_active s before seen)

-- SPH 0 drives at edges to idle, SPH 1 at edges to active.
unfoldable pub drive_edge : Settings → Pins → Pins → Bool
drive_edge s before seen = pick s.phase (to_active s before seen) (to_idle s before seen)

-- In a word: capture edges capture RXD, the others drive bit c.
-- Not in a word: with SPH 1 an edge to active takes a word, by `slave_take`.
unfoldable pub motorola_clock : Settings → Engine → Bool → Bool → ℕ → Bool → Step
motorola_clock s e captures drives next bit =
    pick (e.frame && captures) (capture_step (capture_width s) bit e)
    (pick (e.frame && drives) (slave_drive s e)
    (pick (drives && s.phase) (slave_take s e s.enabled next)
    (no_word e)))

-- Two steps in one cycle; the first completes no word.
abbrev pub after_taking : Bool → Step → Step
after_taking took r = record { engine = r.engine; takes = took || r.takes; completed = r.completed }

-- Edges of CLK count only while selected.
unfoldable pub motorola_edges : Settings → Step → Pins → Pins → ℕ → Step
motorola_edges s r before seen next =
    pick r.engine.selected
    (after_taking r.takes (motorola_clock s r.engine (capture_edge s before seen) (drive_edge s before seen) next (data_bit s r.engine.shift.level seen.rxd)))
    r

-- FSS HIGH deselects the slave and drops a part word. FSS comes before CLK.
unfoldable pub motorola_slave : Settings → Engine → Pins → Pins → ℕ → Step
motorola_slave s e before seen next =
    pick seen.fss (no_word cleared)
    (motorola_edges s (motorola_select s e before.fss next) before seen next)

-- TI -------------------------------------------------------------------------------------------------------------------

-- The engine with its TI mark replaced. The mark says that a start was seen.
abbrev pub with_mark : Engine → Bool → Engine
with_mark e m = record { slot = e.slot; elapsed = e.elapsed; frame = e.frame; selected = e.selected; mark = m; shift = e.shift }

-- In a word a fall of CLK captures a bit. With FSS HIGH it marks a start; before the last bit this drops the part word.
unfoldable pub ti_falls : Settings → Engine → Bool → Bool → Step
ti_falls s e fss bit =
    pick e.frame
    (pick (fss && ltb (e.shift.captured + 1) (capture_width s))
    (no_word (with_mark (with_frame e false clear_shift) true))
    (capture_step (capture_width s) bit (with_mark e (e.mark || fss))))
    (no_word (with_mark e (e.mark || fss)))

-- A rise of CLK takes the next word after a mark, by `slave_take`, and drives its first bit. Otherwise in a word it drives bit c.
unfoldable pub ti_rises : Settings → Engine → ℕ → Step
ti_rises s e next =
    pick e.mark (slave_take s (with_mark e false) s.enabled next)
    (pick e.frame (slave_drive s e)
    (no_word e))

-- CLK falls.
abbrev pub clock_falls : Pins → Pins → Bool
clock_falls before seen = before.clk && not seen.clk

-- CLK rises.
abbrev pub clock_rises : Pins → Pins → Bool
clock_rises before seen = not before.clk && seen.clk

-- Falls of CLK capture bits and mark starts; rises take words and drive bits.
unfoldable pub ti_slave : Settings → Engine → Pins → Pins → ℕ → Step
ti_slave s e before seen next =
    pick (clock_falls before seen) (ti_falls s e seen.fss (data_bit s e.shift.level seen.rxd))
    (pick (clock_rises before seen) (ti_rises s e next)
    (no_word e))

-- Microwire ------------------------------------------------------------------------------------------------------------

-- While control bits arrive the slot is 0, and the captured bits count them. Then the slot follows the master's: 17 from the
-- rise in the wait on, 18 + 2j from the fall that drives data bit j, 19 + 2j from the rise in that bit.

-- Selected, with nothing of a frame seen yet.
abbrev pub ready : Engine
ready = with_selected cleared true

-- A fall of FSS selects the slave.
abbrev pub microwire_select : Engine → Bool → Engine
microwire_select e fell = pick fell ready e

-- Slot n begins with the last data bit's rise, or later.
abbrev pub data_over : Settings → ℕ → Bool
data_over s n = leb (17 + 2 * s.bits) n

-- A rise after the wait is in a data bit, whose slot is even since its fall. The rise in the last data bit ends the frame.
unfoldable pub data_rises : Settings → Engine → Engine
data_rises s e =
    pick (eqb (e.slot.0 % 2) 0 && not (data_over s e.slot.0))
    (with_frame (with_slot e (slots (e.slot.0 + 1))) (e.frame && not (data_over s (e.slot.0 + 1))) e.shift)
    e

-- Not all control bits are latched yet.
abbrev pub control_left : Settings → Engine → Bool
control_left s e = ltb e.shift.captured (capture_width s)

-- A rise latches a control bit; the first begins the frame. With eight latched the next rise takes a word, by `slave_take`.
unfoldable pub microwire_rises : Settings → Engine → ℕ → Bool → Step
microwire_rises s e next bit =
    pick (leb 17 e.slot.0) (no_word (data_rises s e))
    (pick (control_left s e) (capture_step (capture_width s) bit (with_frame e true e.shift))
    (slave_take s (with_slot e (slots 17)) s.enabled next))

-- A fall after the wait drives the next data bit. The fall after the last data bit ends it, and the next rise latches a first
-- control bit again.
unfoldable pub microwire_falls : Settings → Engine → Engine
microwire_falls s e =
    pick (data_over s e.slot.0) ready
    (pick (leb 17 e.slot.0 && eqb (e.slot.0 % 2) 1)
    (with_shift (with_slot e (slots (e.slot.0 + 1))) (driven s.bits (e.slot.0 / 2 - 8) e.shift))
    e)

-- Edges of CLK count only while selected. TXD is LOW while control bits are latched, so in loopback they are 0.
unfoldable pub microwire_edges : Settings → Engine → Pins → Pins → ℕ → Step
microwire_edges s e before seen next =
    pick (e.selected && clock_rises before seen) (microwire_rises s e next (data_bit s false seen.rxd))
    (pick (e.selected && clock_falls before seen) (no_word (microwire_falls s e))
    (no_word e))

-- FSS HIGH deselects the slave and drops a part frame. FSS comes before CLK.
unfoldable pub microwire_slave : Settings → Engine → Pins → Pins → ℕ → Step
microwire_slave s e before seen next =
    pick seen.fss (no_word cleared)
    (microwire_edges s (microwire_select e before.fss) before seen next)

-- All ------------------------------------------------------------------------------------------------------------------

-- What a slave does, by format.
abbrev pub slave_on : Format → Settings → Engine → Pins → Pins → ℕ → Step
slave_on Motorola s e before seen next = motorola_slave s e before seen next
slave_on Ti s e before seen next = ti_slave s e before seen next
slave_on Microwire s e before seen next = microwire_slave s e before seen next
slave_on Reserved s e before seen next = no_word cleared

-- A slave's step: it acts on the edges that it sees. The lines show the engine after it.
unfoldable pub slave_step : Settings → Engine → Pins → Pins → ℕ → Step
slave_step s e before seen next = slave_on s.format s e before seen next

-- The last capture ends the frame: in Motorola TXD holds, in TI the lines are idle from the next cycle on. In Microwire the
-- frame goes on with the data bits.
abbrev pub ended_on : Format → Engine → Engine
ended_on Motorola e = with_frame e false e.shift
ended_on Ti e = with_frame e false clear_shift
ended_on Microwire e = e
ended_on Reserved e = with_frame e false clear_shift

-- All bits of the word are captured.
abbrev pub word_over : Settings → Engine → Bool
word_over s e = e.frame && leb (capture_width s) e.shift.captured

-- The end of a slave's cycle: the frame ends if this was the last capture.
unfoldable pub slave_end : Settings → Engine → Engine
slave_end s e = pick (word_over s e) (ended_on s.format e) e
