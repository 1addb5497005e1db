-- Demand 3 for records, as a statement: the steps are calls on bytes. Proofs: proofs/Demand3.antt for both parts,
-- proofs/Swap.antt for records in the other order, proofs/Polling.antt for a host that polls.
use Rattle.std.specs.Prelude.{ℕ, ◌≤◌, ◌≡◌, Bool, true, List, [], ◌∷◌, ◌++◌, map}
use Rattle.registers.specs.Offsets.{register_of}
use Rattle.registers.specs.declared.offsets.Register.TheVariants.{Dr}
use Rattle.registers.specs.declared.settings.Settings.{Settings}
use Rattle.frames.specs.Bits.{cut}
use Rattle.frames.specs.Lines.{pins_of}
use Rattle.frames.specs.Slots.{width_of}
use Rattle.serial.specs.Pair.{PairModel, pair_run, swapped}
use Rattle.serial.specs.Demand3.{Step, plays, cycles_in, Stays, Start, lost, Exchanged, slave_enabled, enables, in_edition, Enabling, WholeLoad}
use Rattle.serial.specs.Demand3.Which.{master, slave}
use Rattle.serial.specs.Demand3.Step.{cycle, read, write}
use Rattle.device_record.specs.Record.{decode, sound_bytes}
use Rattle.device_record.specs.Run.{outputs}
use Rattle.device_record.specs.Calls.{Records, pair_of_records, read_left, write_left, pair_left, pair_call_lost}

-- The devices that two records encode.
abbrev pub devices_of : Records → PairModel
devices_of r = pair_of_records r.one r.two

-- The records after a pair run of n cycles.
abbrev pub run_bytes : ℕ → Records → Records
run_bytes n r = pair_left r.one r.two n

-- The records after a step; a pair cycle is a pair run of one cycle.
abbrev pub play_bytes : Step → Records → Records
play_bytes cycle r = run_bytes 1 r
play_bytes (read master o) r = record { one = read_left r.one o; two = r.two }
play_bytes (read slave o) r = record { one = r.one; two = read_left r.two o }
play_bytes (write master o v) r = record { one = write_left r.one o v; two = r.two }
play_bytes (write slave o v) r = record { one = r.one; two = write_left r.two o v }

-- The records after a list of steps.
abbrev pub plays_bytes : List Step → Records → Records
plays_bytes [] r = r
plays_bytes (x ∷ xs) r = plays_bytes xs (play_bytes x r)

-- Both records are sound.
pub record SoundRecords (r : Records) : Type 0 where
  pub one : sound_bytes r.one ≡ true
  pub two : sound_bytes r.two ≡ true

-- All steps up to the master's enabling, with the two CR1 writes in their places.
abbrev pub steps : List Step → List Step → PairModel → List Step
steps pre mid p = pre ++ (enables slave (plays pre p) ∷ (mid ++ (enables master (plays mid (slave_enabled pre p)) ∷ [])))

-- Two sound records whose devices exchange their words as demand 3 says. A pair run of n cycles on the records is n pair
-- cycles of the devices.
pub record ExchangedRecords (r : Records) : Type 0 where
  pub sound : SoundRecords r
  pub exchanged : Exchanged (devices_of r)
  pub after : (n : ℕ) → devices_of (run_bytes n r) ≡ pair_run n (devices_of r)

-- The first part: from any two sound records, set up as demand 3 says, the steps lead to such records.
abbrev pub Demand3Records : Type 0
Demand3Records =
    (r : Records) (pre mid : List Step) → SoundRecords r → Start (devices_of r) → 4 ≤ cycles_in pre → Stays pre (devices_of r) → Stays mid (slave_enabled pre (devices_of r))
    → ExchangedRecords (plays_bytes (steps pre mid (devices_of r)) r)

-- A pair run on sound records hands up what their devices lose. In demand 3 these are the words due that found no place: see
-- `LostOfDue` in the crate serial.
pub record LostRecords : Type 0 where
  pub master_lost : (r : Records) (n : ℕ) → SoundRecords r → pair_call_lost r.one r.two n ≡ lost master n (devices_of r)
  pub slave_lost : (r : Records) (n : ℕ) → SoundRecords r → pair_call_lost r.two r.one n ≡ lost slave n (devices_of r)

-- The last sentence: the bytes that a run gives after the write that enabled a master, of either edition, determine its load,
-- cut to the bits sent.
abbrev pub LastSentenceRecords : Type 0
LastSentenceRecords =
    (s : Settings) (e e' : Bool) (b b' : List ℕ) (o v o' v' : ℕ) → sound_bytes b ≡ true → sound_bytes b' ≡ true
    → Enabling (in_edition e s) (decode b) o v → Enabling (in_edition e' s) (decode b') o' v' → (ins ins' : List ℕ)
    → WholeLoad s (decode (write_left b o v)) (map pins_of ins) → WholeLoad s (decode (write_left b' o' v')) (map pins_of ins')
    → outputs (decode (write_left b o v)) ins ≡ outputs (decode (write_left b' o' v')) ins'
    → map (cut (width_of s)) (decode (write_left b o v)).registers.tx ≡ map (cut (width_of s)) (decode (write_left b' o' v')).registers.tx

-- The other order ------------------------------------------------------------------------------------------------------

-- The records after a step, with the slave's record first and the master's second, in a pair run too.
abbrev pub play_swapped : Step → Records → Records
play_swapped cycle r = run_bytes 1 r
play_swapped (read master o) r = record { one = r.one; two = read_left r.two o }
play_swapped (read slave o) r = record { one = read_left r.one o; two = r.two }
play_swapped (write master o v) r = record { one = r.one; two = write_left r.two o v }
play_swapped (write slave o v) r = record { one = write_left r.one o v; two = r.two }

-- The records after a list of such steps.
abbrev pub plays_swapped : List Step → Records → Records
plays_swapped [] r = r
plays_swapped (x ∷ xs) r = plays_swapped xs (play_swapped x r)

-- The same as ExchangedRecords, with the slave's record first.
pub record ExchangedSwapped (r : Records) : Type 0 where
  pub sound : SoundRecords r
  pub exchanged : Exchanged (swapped (devices_of r))
  pub after : (n : ℕ) → swapped (devices_of (run_bytes n r)) ≡ pair_run n (swapped (devices_of r))

-- The first part with the slave's record first: the master of the steps and of the premises is the second record's device.
abbrev pub Demand3Swapped : Type 0
Demand3Swapped =
    (r : Records) (pre mid : List Step) → SoundRecords r → Start (swapped (devices_of r)) → 4 ≤ cycles_in pre
    → Stays pre (swapped (devices_of r)) → Stays mid (slave_enabled pre (swapped (devices_of r)))
    → ExchangedSwapped (plays_swapped (steps pre mid (swapped (devices_of r))) r)

-- Polling --------------------------------------------------------------------------------------------------------------

-- Steps of a host that polls: pair cycles, and reads of registers other than DR.
abbrev pub Polls : List Step → Type 0
Polls [] = Unit {0}
Polls (cycle ∷ xs) = Polls xs
Polls (read d o ∷ xs) = (register_of o ≡ Dr → ⊥) × Polls xs
Polls (write d o v ∷ xs) = ⊥

-- After the master's enabling polling changes nothing: the devices are those after the pair cycles among the steps.
abbrev pub PollsExchanged : Type 0
PollsExchanged =
    (xs : List Step) (r : Records) → ExchangedRecords r → Polls xs → devices_of (plays_bytes xs r) ≡ pair_run (cycles_in xs) (devices_of r)
