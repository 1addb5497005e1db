-- When a register file is sound: the soundness rules about registers and queues.
use Rattle.std.specs.Prelude.{ℕ, ◌%◌, List, [], ◌∷◌, Bool, true, not, ◌&&◌, ◌||◌, length, ltb, leb, eqb}
use Rattle.registers.specs.Choose.{pick}
use Rattle.registers.specs.Model.{Model}
use Rattle.registers.specs.Settings.{permitted_of, enabled_of}
use Rattle.registers.specs.Transfer.{limit_of}
use Rattle.registers.specs.declared.Control.{Control}
use Rattle.registers.specs.declared.Masks.{Masks}

-- CR0 is 0 or permitted, CPSR is even, CR1 is at most 15; while the engine is active, CR0 is permitted and CPSR is not 0.
unfoldable pub control_sound : Control → Bool → Bool
control_sound c active =
    ((eqb c.cr0 0 || permitted_of c.cr0) && eqb (c.cpsr % 2) 0)
    && (leb c.cr1 15 && (not active || (permitted_of c.cr0 && not (eqb c.cpsr 0))))

-- IMSC is at most 15, DMACR at most 3.
unfoldable pub masks_sound : Masks → Bool
masks_sound k = leb k.imsc 15 && leb k.dmacr 3

-- Each queue has at most eight words.
unfoldable pub queues_sound : Model → Bool
queues_sound m = leb (length m.tx) 8 && leb (length m.rx) 8

-- The RT count is below 64h with SSE set, and 0 with SSE clear.
unfoldable pub count_sound : Model → Bool
count_sound m = pick (enabled_of m.control) (ltb m.timeout.count.0 (limit_of m).0) (eqb m.timeout.count.0 0)

-- A sound register file: control registers, masks, queue counts and RT count are sound.
unfoldable pub sound_registers : Model → Bool → Bool
sound_registers m active = (control_sound m.control active && masks_sound m.masks) && (queues_sound m && count_sound m)

-- What fits into the bytes of a record. Every register file that the code makes does.

-- Every word in the queue fits into 16 bits.
unfoldable pub words_fit : List ℕ → Bool
words_fit [] = true
words_fit (w ∷ ws) = ltb w 0x10000 && words_fit ws

-- CR0 and the words in both queues fit into 16 bits, CPSR into 8, the RT count into 32.
unfoldable pub registers_fit : Model → Bool
registers_fit m =
    ((ltb m.control.cr0 0x10000 && ltb m.control.cpsr 0x100) && ltb m.timeout.count.0 0x100000000)
    && (words_fit m.tx && words_fit m.rx)
