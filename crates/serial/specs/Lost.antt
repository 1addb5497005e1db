-- The words lost to overrun, as a run hands them up: how many, and the last one.
use Rattle.std.specs.Prelude.{ℕ, ◌+◌, ◌-◌, ◌≤◌, ◌<◌, ◌≡◌, Bool, true, false, not, ◌||◌, List, [], ◌∷◌, ◌++◌, ltb, eqb, length, take, drop, Option, None, Some}
use Rattle.registers.specs.Choose.{pick, words_of}
use Rattle.serial.specs.Cycle.{DeviceModel, completed_of, kept_of, lost_of, cycle_of, after, completed_in, kept_in, lost_in}
use Rattle.serial.specs.declared.lost.Losses.{Losses}
use Rattle.frames.specs.declared.lines.Pins.{Pins}

-- The last of these words; w if there is none.
abbrev pub last_from : ℕ → List ℕ → ℕ
last_from w [] = w
last_from w (x ∷ xs) = last_from x xs

-- How many words were lost, and the last of them, 0 if none.
abbrev pub losses_of : List ℕ → Losses
losses_of ws = record { count = length ws; last = last_from 0 ws }

-- No word was lost.
abbrev pub none_lost : Losses
none_lost = losses_of []

-- The highest count that fits into 64 bits. No run goes past it: a cycle loses one word at most.
abbrev pub highest : ℕ
highest = 0xFFFFFFFFFFFFFFFF

-- The losses so far with those of one more cycle. The highest count stays.
abbrev pub noted : Losses → Option ℕ → Losses
noted l None = l
noted l (Some w) = record { count = pick (ltb l.count highest) (l.count + 1) l.count; last = w }

-- What holds for them ------------------------------------------------------------------------------------------------------

-- There is a word.
abbrev pub some : List ℕ → Bool
some [] = false
some (w ∷ ws) = true

-- A cycle keeps or loses each word that it completes; a word kept goes after the words held. ROR is set after it exactly if it
-- was set before or a word was lost.
pub record LostInCycle : Type 0 where
  pub completed : (d : DeviceModel) (pins : Pins) → completed_of d pins ≡ kept_of d pins ++ lost_of d pins
  pub held : (d : DeviceModel) (pins : Pins) → (cycle_of d pins).registers.rx ≡ d.registers.rx ++ kept_of d pins
  pub overrun : (d : DeviceModel) (pins : Pins) → (cycle_of d pins).registers.ror ≡ (d.registers.ror || some (lost_of d pins))

-- A run, in which nobody reads, keeps the first of the words that it completes, as many as the receive queue has free places,
-- and loses the others, in order. ROR is set after it exactly if it was set before or a word was lost.
pub record LostInRun : Type 0 where
  pub completed : (d : DeviceModel) (ps : List Pins) → completed_in d ps ≡ kept_in d ps ++ lost_in d ps
  pub kept : (d : DeviceModel) (ps : List Pins) → kept_in d ps ≡ take (8 - length d.registers.rx) (completed_in d ps)
  pub lost : (d : DeviceModel) (ps : List Pins) → lost_in d ps ≡ drop (8 - length d.registers.rx) (completed_in d ps)
  pub held : (d : DeviceModel) (ps : List Pins) → (after d ps).registers.rx ≡ d.registers.rx ++ kept_in d ps
  pub overrun : (d : DeviceModel) (ps : List Pins) → (after d ps).registers.ror ≡ (d.registers.ror || some (lost_in d ps))
  -- a run in two parts loses what the parts lose
  pub joined : (d : DeviceModel) (ps qs : List Pins) → lost_in d (ps ++ qs) ≡ lost_in d ps ++ lost_in (after d ps) qs
  -- at most one per cycle
  pub most : (d : DeviceModel) (ps : List Pins) → length (lost_in d ps) ≤ length ps

-- The two numbers. No words: both are 0. One more word: it is the last, and the count goes up by one. The count is 0 only for
-- no words. `noted` follows these rules.
pub record Numbers : Type 0 where
  pub none : losses_of [] ≡ record { count = 0; last = 0 }
  pub more : (ws : List ℕ) (w : ℕ) → losses_of (ws ++ (w ∷ [])) ≡ record { count = length ws + 1; last = w }
  pub counted : (ws : List ℕ) → some ws ≡ not (eqb (losses_of ws).count 0)
  pub noting : (ws : List ℕ) (x : Option ℕ) → length ws < highest → noted (losses_of ws) x ≡ losses_of (ws ++ words_of x)
