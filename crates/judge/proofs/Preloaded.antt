-- A list gives the drawing of its words, each slot for h cycles.
use Prim.Native.Nat.{ℕ, ◌≤◌}
use mathlib.Core.Path.{◌≡◌, sym, ap, ◌∙◌}
use mathlib.Core.Bool.{Bool, true, false}
use mathlib.Core.List.{List, [], map}
use native.Mathlib.Omega.{arith}
use lib.ListN.{length, replicate, length-replicate}
use Rattle.registers.specs.declared.settings.Settings.{Settings}
use Rattle.frames.specs.Bits.{cut}
use Rattle.frames.specs.Lines.{byte_of}
use Rattle.frames.specs.Slots.{width_of}
use Rattle.frames.specs.declared.lines.Pins.{Pins}
use Rattle.serial.specs.Cycle.{low_pins, recording}
use Rattle.serial.specs.Drawing.{drawing, stretch}
use Rattle.serial.specs.Preloaded.{Sixteen, enabled_with}
use Rattle.serial.proofs.Drawing.Injective.{drawing_injective, bytes_injective, stretch_injective}
use Rattle.serial.proofs.Preloaded.{fresh_enabled, shown, enabled_shown}
use Rattle.judge.specs.Judge.{can_enable, settings, cycles_for, cut_words, Gives, EveryList, OnlyWords, AnyMaster}
use Rattle.judge.specs.Follow.{Permitted}

-- the bytes of a drawing, each slot for h cycles
abbrev pub bytes_of : Settings → List ℕ → List ℕ
bytes_of s ws = map byte_of (stretch s.divisor.0 (drawing s ws))

-- What a list gives -------------------------------------------------------------------------------------------------------

pub permitted : (cr0 cpsr : ℕ) → can_enable cr0 cpsr ≡ true → Permitted (settings cr0 cpsr)
unfolding can_enable settings
permitted cr0 cpsr h =
    let f = fresh_enabled false cr0 cpsr [] h in
    record { serves = f.serves; least = f.least; most = f.most; divisor = f.divisor }

shows : (e : Bool) (cr0 cpsr : ℕ) → can_enable cr0 cpsr ≡ true → (ws : List ℕ) → length ws ≤ 8 → Sixteen ws
    → (ps : List Pins) → length ps ≡ cycles_for cr0 cpsr (length ws) → map byte_of (recording (enabled_with e cr0 cpsr ws) ps) ≡ bytes_of (settings cr0 cpsr) ws
unfolding can_enable settings cycles_for
shows e cr0 cpsr h ws n s ps l = ap (map byte_of) (enabled_shown e cr0 cpsr h ws n s ps l)

pub gives_drawing : (cr0 cpsr : ℕ) (ws r : List ℕ) → Gives cr0 cpsr ws r → r ≡ bytes_of (settings cr0 cpsr) ws
gives_drawing cr0 cpsr ws r g =
    let n = cycles_for cr0 cpsr (length ws) in
    let l = length-replicate n low_pins in
    sym (g.shows false (replicate n low_pins) l) ∙ shows false cr0 cpsr g.can ws g.eight g.words (replicate n low_pins) l

pub drawing_gives : (cr0 cpsr : ℕ) → can_enable cr0 cpsr ≡ true → (ws : List ℕ) → 1 ≤ length ws → length ws ≤ 8 → Sixteen ws → Gives cr0 cpsr ws (bytes_of (settings cr0 cpsr) ws)
drawing_gives cr0 cpsr h ws one eight s = record {
  can = h;
  one = one;
  eight = eight;
  words = s;
  shows = λ e. shows e cr0 cpsr h ws eight s;
}

pub every_list : EveryList
every_list cr0 cpsr ws h one eight s = drawing_gives cr0 cpsr h ws one eight s

-- What follows ---------------------------------------------------------------------------------------------------------------

-- the bytes tell the words, cut to size
bytes_words : (s : Settings) → Permitted s → (ws vs : List ℕ) → bytes_of s ws ≡ bytes_of s vs → map (cut (width_of s)) ws ≡ map (cut (width_of s)) vs
bytes_words s p ws vs e =
    let h = s.divisor.0 in
    drawing_injective s p.serves p.most (omega (arith, p.least)) ws vs
    (stretch_injective h p.divisor (drawing s ws) (drawing s vs) (bytes_injective (stretch h (drawing s ws)) (stretch h (drawing s vs)) e))

gives_words : (cr0 cpsr : ℕ) (r ws vs : List ℕ) → Gives cr0 cpsr ws r → Gives cr0 cpsr vs r → cut_words cr0 cpsr ws ≡ cut_words cr0 cpsr vs
unfolding cut_words
gives_words cr0 cpsr r ws vs g k = bytes_words (settings cr0 cpsr) (permitted cr0 cpsr g.can) ws vs (sym (gives_drawing cr0 cpsr ws r g) ∙ gives_drawing cr0 cpsr vs r k)

pub only_words : OnlyWords
only_words cr0 cpsr r us vs a b = a.words ∙ gives_words cr0 cpsr r a.list b.list a.gives b.gives ∙ sym b.words

pub any_master : AnyMaster
unfolding cycles_for
any_master cr0 cpsr ws r g d o v e k t ps l = ap (map byte_of) (shown (settings cr0 cpsr) e d o v k ws t ps l) ∙ sym (gives_drawing cr0 cpsr ws r g)
