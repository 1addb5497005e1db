-- The engine's state, and the steps of its shift registers.
use Rattle.std.specs.Prelude.{ℕ, ◌+◌, Bool, true, false, ◌&&◌, ◌||◌, None, ltb, eqb}
use Rattle.std.specs.Bool.{then_some}
use Rattle.registers.specs.Choose.{pick}
use Rattle.registers.specs.Time.{cycles, slots}
use Rattle.registers.specs.declared.settings.Settings.{Settings}
use Rattle.registers.specs.declared.time.Cycles.{Cycles}
use Rattle.registers.specs.declared.time.Slots.{Slots}
use Rattle.frames.specs.Bits.{bit_of, cut, shifted_in}
use Rattle.frames.specs.declared.engine.Shift.{Shift}
use Rattle.frames.specs.declared.engine.Engine.{Engine}
use Rattle.frames.specs.declared.engine.Step.{Step}

-- The engine is active: SSE is 1, or in edition 2 a frame is in progress. The engine's step, refusal 5 and soundness depend
-- on this; only the RT count depends on SSE itself.
abbrev pub active_of : Settings → Engine → Bool
active_of s e = s.enabled || (e.frame && s.edition2)

-- Empty shift registers.
abbrev pub clear_shift : Shift
clear_shift = record { captured = 0; level = false; sending = 0; receiving = 0 }

-- A clear engine: no frame, no selection, no TI mark; its counts, its shift registers and the held level are zero.
abbrev pub cleared : Engine
cleared = record { slot = slots 0; elapsed = cycles 0; frame = false; selected = false; mark = false; shift = clear_shift }

-- The engine while it is active, otherwise a clear one. So with SSE clear a frame is over at once in edition 1 and runs to its
-- end in edition 2; no idle slot, selection or mark is left after it.
abbrev pub while_active : Settings → Engine → Engine
while_active s e = pick (active_of s e) e cleared

-- The engine with some parts replaced.

abbrev pub with_shift : Engine → Shift → Engine
with_shift e x = record { slot = e.slot; elapsed = e.elapsed; frame = e.frame; selected = e.selected; mark = e.mark; shift = x }

abbrev pub with_frame : Engine → Bool → Shift → Engine
with_frame e f x = record { slot = e.slot; elapsed = e.elapsed; frame = f; selected = e.selected; mark = e.mark; shift = x }

abbrev pub with_slot : Engine → Slots → Engine
with_slot e n = record { slot = n; elapsed = e.elapsed; frame = e.frame; selected = e.selected; mark = e.mark; shift = e.shift }

abbrev pub with_elapsed : Engine → Cycles → Engine
with_elapsed e n = record { slot = e.slot; elapsed = n; frame = e.frame; selected = e.selected; mark = e.mark; shift = e.shift }

abbrev pub with_selected : Engine → Bool → Engine
with_selected e t = record { slot = e.slot; elapsed = e.elapsed; frame = e.frame; selected = t; mark = e.mark; shift = e.shift }

-- The next slot begins.
abbrev pub with_next_slot : Engine → Engine
with_next_slot e = with_elapsed (with_slot e (slots (e.slot.0 + 1))) (cycles 0)

-- The word to send: the next one if it may be taken, otherwise zeros. It may be taken while SSE is 1.
abbrev pub offered : Bool → ℕ → ℕ
offered may next = pick may next 0

-- A word is taken into the shift register; nothing of it is on TXD yet.
abbrev pub loaded : ℕ → Shift
loaded w = record { captured = 0; level = false; sending = w; receiving = 0 }

-- A word's first bit becomes the level held for TXD; nothing is captured yet.
unfoldable pub started : ℕ → ℕ → Shift
started width w = record { captured = 0; level = bit_of width w 0; sending = w; receiving = 0 }

-- Bit i of the word being sent goes on TXD.
unfoldable pub driven : ℕ → ℕ → Shift → Shift
driven width i x = record { captured = x.captured; level = bit_of width x.sending i; sending = x.sending; receiving = x.receiving }

-- TXD goes LOW.
abbrev pub quieted : Shift → Shift
quieted x = record { captured = x.captured; level = false; sending = x.sending; receiving = x.receiving }

-- A bit is captured, unless the word has all its bits already.
unfoldable pub captured_of : ℕ → Bool → Shift → Shift
captured_of width bit x =
    pick (ltb x.captured width)
    (record { captured = x.captured + 1; level = x.level; sending = x.sending; receiving = shifted_in x.receiving bit })
    x

-- The next capture completes the word.
unfoldable pub completes : ℕ → Shift → Bool
completes width x = eqb (x.captured + 1) width

-- A step gives the engine, whether it took the next word to send, and the word that it completed, if any.

-- No word is taken, and none is completed.
abbrev pub no_word : Engine → Step
no_word e = record { engine = e; takes = false; completed = None }

-- A frame is in progress now; the next word to send is taken if it may be.
abbrev pub begun_if : Bool → Engine → Shift → Step
begun_if may e x = record { engine = with_frame e true x; takes = may; completed = None }

-- A frame is in progress now; the next word to send is taken.
abbrev pub begun : Engine → Shift → Step
begun e x = begun_if true e x

-- A capture. The word that it completes is cut to its width.
unfoldable pub capture_step : ℕ → Bool → Engine → Step
capture_step width bit e =
    record {
      engine = with_shift e (captured_of width bit e.shift);
      takes = false;
      completed = then_some (completes width e.shift) (cut width (shifted_in e.shift.receiving bit));
    }
