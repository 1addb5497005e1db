-- How the judge's code follows a recording: what it needs, and what it tells. What is accepted does not depend on this file.
use Rattle.std.specs.Prelude.{ℕ, ◌≤◌, ◌<◌, ◌≡◌, true, List, replicate}
use Rattle.registers.specs.declared.settings.Format.TheVariants.{Reserved}
use Rattle.registers.specs.declared.settings.Settings.{Settings}
use Rattle.judge.specs.Judge.{can_enable, settings, Verdict, Words, Leading, Refused, Given, NotGiven}

-- What the settings of an enabled master always have.
pub record Permitted (s : Settings) : Type 0 where
  pub serves : s.format ≡ Reserved → ⊥
  pub least : 4 ≤ s.bits
  pub most : s.bits ≤ 16
  pub divisor : 0 < s.divisor.0

-- Following a recording needs such settings, and eight places with 0 in each.
pub record Followable (s : Settings) (places : List ℕ) : Type 0 where
  pub permitted : Permitted s
  pub empty : places ≡ replicate 8 0

-- The verdict for this CR0 and CPSR; if the recording is accepted, its words are in the places.
abbrev pub FollowedBy : ℕ → ℕ → List ℕ → Verdict → List ℕ → Type 0
FollowedBy cr0 cpsr r (Words n) places' = Given cr0 cpsr r n places'
FollowedBy cr0 cpsr r (Leading n) places' = NotGiven cr0 cpsr r n
FollowedBy cr0 cpsr r (Refused q) places' = ⊥

-- The code looks at the settings alone, so the verdict is that for every CR0 and CPSR with these settings that can be enabled.
abbrev pub Followed : Settings → List ℕ → Verdict → List ℕ → Type 0
Followed s r v places' = (cr0 cpsr : ℕ) → can_enable cr0 cpsr ≡ true → settings cr0 cpsr ≡ s → FollowedBy cr0 cpsr r v places'
