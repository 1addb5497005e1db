-- Which recordings a PL022 master gives: what the words in its transmit queue show, what is accepted, and how many leading
-- cycles of a recording could come from some words.
use Rattle.std.specs.Prelude.{ℕ, ◌-◌, ◌≤◌, ◌≡◌, Bool, true, false, List, [], ◌++◌, map, ltb, length, replicate, Result, Ok, Err}
use Rattle.registers.specs.Choose.{pick}
use Rattle.registers.specs.Time.{cycles_of}
use Rattle.registers.specs.Refusals.{not_permitted}
use Rattle.registers.specs.Settings.{settings_of, enabled_of}
use Rattle.registers.specs.declared.settings.Settings.{Settings}
use Rattle.frames.specs.Bits.{cut}
use Rattle.frames.specs.Lines.{byte_of}
use Rattle.frames.specs.Slots.{width_of}
use Rattle.frames.specs.declared.lines.Pins.{Pins}
use Rattle.serial.specs.Cycle.{DeviceModel, recording}
use Rattle.serial.specs.Access.{write_device}
use Rattle.serial.specs.Drawing.{slot_total, drawing, stretch}
use Rattle.serial.specs.Demand3.{in_edition, Enabling}
use Rattle.serial.specs.Preloaded.{Sixteen, enabled_with}
use Rattle.judge.specs.Shared.{shared}
use Rattle.judge.specs.declared.judge.Rejection.{Rejection}
use Rattle.judge.specs.declared.judge.Rejection.TheVariants.{NotPermitted, NoList, TooLong}

-- Settings ----------------------------------------------------------------------------------------------------------------

-- The settings can be enabled as a master: the write of CR1 sets SSE.
unfoldable pub can_enable : ℕ → ℕ → Bool
can_enable cr0 cpsr = enabled_of (enabled_with false cr0 cpsr []).registers.control

-- The settings of a master enabled with this CR0 and CPSR.
unfoldable pub settings : ℕ → ℕ → Settings
settings cr0 cpsr = settings_of (enabled_with false cr0 cpsr []).registers.control

-- What a list gives -------------------------------------------------------------------------------------------------------

-- How many cycles n words in the transmit queue take from enabling to the last idle slot: the slot total times h.
unfoldable pub cycles_for : ℕ → ℕ → ℕ → ℕ
cycles_for cr0 cpsr n = (cycles_of (slot_total (settings cr0 cpsr) n) (settings cr0 cpsr).divisor).0

-- A list of one to eight words gives a recording: a device of either edition with these words in its transmit queue, enabled,
-- shows it from enabling to the last idle slot, whatever its pins carry.
pub record Gives (cr0 cpsr : ℕ) (ws r : List ℕ) : Type 0 where
  pub can : can_enable cr0 cpsr ≡ true
  pub one : 1 ≤ length ws
  pub eight : length ws ≤ 8
  pub words : Sixteen ws
  pub shows : (edition2 : Bool) (ps : List Pins) → length ps ≡ cycles_for cr0 cpsr (length ws) → map byte_of (recording (enabled_with edition2 cr0 cpsr ws) ps) ≡ r

-- The words of a list, cut to the bits sent: b, in Microwire 8.
unfoldable pub cut_words : ℕ → ℕ → List ℕ → List ℕ
cut_words cr0 cpsr ws = map (cut (width_of (settings cr0 cpsr))) ws

-- Words in eight places, the rest 0.
unfoldable pub in_eight : List ℕ → List ℕ
in_eight ws = ws ++ replicate (8 - length ws) 0

-- Accepted: some list gives the recording; `us` are its words, cut to the bits sent.
pub record Accepted (cr0 cpsr : ℕ) (r us : List ℕ) : Type 0 where
  pub list : List ℕ
  pub gives : Gives cr0 cpsr list r
  pub words : us ≡ cut_words cr0 cpsr list

-- What some list gives shares exactly n leading cycles with the recording.
pub record Shares (cr0 cpsr : ℕ) (r : List ℕ) (n : ℕ) : Type 0 where
  pub list : List ℕ
  pub given : List ℕ
  pub gives : Gives cr0 cpsr list given
  pub cycles : shared given r ≡ n

-- The leading cycles of a recording: some list shares n of them with it, and no list shares more.
pub record Furthest (cr0 cpsr : ℕ) (r : List ℕ) (n : ℕ) : Type 0 where
  pub reached : Shares cr0 cpsr r n
  pub most : (m : ℕ) → Shares cr0 cpsr r m → m ≤ n

-- The judge ---------------------------------------------------------------------------------------------------------------

-- 21: no list of one to eight words gives the recording.
abbrev pub no_list : ℕ
no_list = 21

-- 22: the recording is longer than 65,536 cycles.
abbrev pub too_long : ℕ
too_long = 22

-- The longest recording that is judged.
abbrev pub most_cycles : ℕ
most_cycles = 65536

-- What the judge says about a recording.
pub data Verdict : Type 0 where
  -- accepted: the number of words
  Words : ℕ → Verdict
  -- no list of words gives it: the number of leading cycles
  Leading : ℕ → Verdict
  -- refused before it is judged: the number of the refusal
  Refused : ℕ → Verdict

-- The verdict that a rejection is.
abbrev pub rejected : Rejection → Verdict
rejected NotPermitted = Refused not_permitted
rejected (NoList n) = Leading n
rejected TooLong = Refused too_long

-- The verdict that the code's answer is.
abbrev pub verdict_of : Result ℕ Rejection → Verdict
verdict_of (Ok n) = Words n
verdict_of (Err r) = rejected r

-- A verdict as numbers.
pub record VerdictNumbers : Type 0 where
  pub refusal : ℕ
  pub count : ℕ

-- Accepted: 0, and how many words. Not given by any list: 21, and the leading cycles. Refused before that: 6 or 22, and 0.
abbrev pub verdict_numbers : Verdict → VerdictNumbers
verdict_numbers (Words n) = record { refusal = 0; count = n }
verdict_numbers (Leading n) = record { refusal = no_list; count = n }
verdict_numbers (Refused q) = record { refusal = q; count = 0 }

-- What is refused before the recording is judged: 6, then 22; 0 if nothing is.
unfoldable pub refusal_before : ℕ → ℕ → List ℕ → ℕ
refusal_before cr0 cpsr r = pick (can_enable cr0 cpsr) (pick (ltb most_cycles (length r)) too_long 0) not_permitted

-- Some list gives the recording: how many words it has, and the eight places with the words in them.
pub record Given (cr0 cpsr : ℕ) (r : List ℕ) (n : ℕ) (places : List ℕ) : Type 0 where
  pub words : List ℕ
  pub accepted : Accepted cr0 cpsr r words
  pub count : n ≡ length words
  pub eight : places ≡ in_eight words

-- No list gives the recording; n are its leading cycles.
pub record NotGiven (cr0 cpsr : ℕ) (r : List ℕ) (n : ℕ) : Type 0 where
  pub none : (us : List ℕ) → Accepted cr0 cpsr r us → ⊥
  pub furthest : Furthest cr0 cpsr r n

-- A verdict on a recording, with the eight places before and after it: filled if it is accepted, otherwise as they were.
abbrev pub Judged : ℕ → ℕ → List ℕ → List ℕ → Verdict → List ℕ → Type 0
Judged cr0 cpsr r places (Words n) places' = (refusal_before cr0 cpsr r ≡ 0) × Given cr0 cpsr r n places'
Judged cr0 cpsr r places (Leading n) places' = (refusal_before cr0 cpsr r ≡ 0) × NotGiven cr0 cpsr r n × (places' ≡ places)
Judged cr0 cpsr r places (Refused q) places' = (refusal_before cr0 cpsr r ≡ q) × (q ≡ 0 → ⊥) × (places' ≡ places)

-- What follows, proved in proofs/Preloaded.antt and proofs/OneVerdict.antt ---------------------------------------------------

-- If the settings can be enabled, every list of one to eight words gives a recording: its drawing, each slot for h cycles.
abbrev pub EveryList : Type 0
EveryList =
    (cr0 cpsr : ℕ) (ws : List ℕ) → can_enable cr0 cpsr ≡ true → 1 ≤ length ws → length ws ≤ 8 → Sixteen ws
    → Gives cr0 cpsr ws (map byte_of (stretch (settings cr0 cpsr).divisor.0 (drawing (settings cr0 cpsr) ws)))

-- The words of a recording are the only ones. It follows from demand 3's last sentence.
abbrev pub OnlyWords : Type 0
OnlyWords = (cr0 cpsr : ℕ) (r us vs : List ℕ) → Accepted cr0 cpsr r us → Accepted cr0 cpsr r vs → us ≡ vs

-- Any sound master that a write enables with these settings (MS, LBM and SOD 0) and these words in its transmit queue shows
-- what the list gives, whatever else is in it.
abbrev pub AnyMaster : Type 0
AnyMaster =
    (cr0 cpsr : ℕ) (ws r : List ℕ) → Gives cr0 cpsr ws r → (d : DeviceModel) (o v : ℕ) (edition2 : Bool) → Enabling (in_edition edition2 (settings cr0 cpsr)) d o v
    → (write_device d o v).registers.tx ≡ ws → (ps : List Pins) → length ps ≡ cycles_for cr0 cpsr (length ws) → map byte_of (recording (write_device d o v) ps) ≡ r

-- There is only one verdict on a recording, and only one content of the eight places after it.
abbrev pub OneVerdict : Type 0
OneVerdict =
    (cr0 cpsr : ℕ) (r places : List ℕ) (v u : Verdict) (after after' : List ℕ) → Judged cr0 cpsr r places v after → Judged cr0 cpsr r places u after' → (v ≡ u) × (after ≡ after')
