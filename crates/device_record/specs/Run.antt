-- Runs: one cycle for each input byte, up to a stopping rule.
use Rattle.std.specs.Prelude.{ℕ, ◌+◌, ◌≡◌, Bool, true, false, not, ◌&&◌, List, [], ◌∷◌, ◌++◌, map, length, take, drop, leb, eqb}
use Rattle.registers.specs.Choose.{pick}
use Rattle.registers.specs.Refusals.{done}
use Rattle.frames.specs.Lines.{pins_of, byte_of}
use Rattle.serial.specs.Cycle.{DeviceModel, cycle_of, after, recording, lost_in}
pub use Rattle.serial.specs.Lost.{losses_of}
pub use Rattle.serial.specs.declared.lost.Losses.{Losses}
use Rattle.serial.specs.Busy.{busy_device}
use Rattle.device_record.specs.Record.{record_length, sound_bytes}
pub use Rattle.device_record.specs.Refusals.{unsound, wrong_length, lines_differ, bad_input}
use Rattle.device_record.specs.declared.run.Stop.{Stop}
use Rattle.device_record.specs.declared.run.Stop.TheVariants.{Never, NotBusy}
use Rattle.device_record.specs.declared.run.Ran.{Ran}

-- The device after one cycle for each input byte.
unfoldable pub after_bytes : DeviceModel → List ℕ → DeviceModel
after_bytes d ins = after d (map pins_of ins)

-- The output bytes: the lines of each of these cycles.
unfoldable pub outputs : DeviceModel → List ℕ → List ℕ
outputs d ins = map byte_of (recording d (map pins_of ins))

-- The words lost in these cycles.
unfoldable pub lost_with : DeviceModel → List ℕ → List ℕ
lost_with d ins = lost_in d (map pins_of ins)

-- An input byte has three levels, so it is at most 7.
unfoldable pub inputs_fit : List ℕ → Bool
inputs_fit [] = true
inputs_fit (p ∷ ps) = leb p 7 && inputs_fit ps

-- When a run stops before its input ends. A run: never. A run to idle: when BSY is 0.
abbrev pub stops_on : Stop → DeviceModel → Bool
stops_on Never d = false
stops_on NotBusy d = not (busy_device d)

-- The number of cycles: none if the stopping rule holds at once; otherwise up to the first cycle at whose end it holds, that
-- cycle included; at most one for each input byte.
unfoldable pub count_until : (DeviceModel → Bool) → DeviceModel → List ℕ → ℕ
count_until stops d [] = 0
count_until stops d (p ∷ ps) = elim (stops d) [ true ↦ 0 | false ↦ 1 + count_until stops (cycle_of d (pins_of p)) ps ]

-- An output buffer after n cycles: the lines of each in its place, the bytes after them as they were.
unfoldable pub written : DeviceModel → ℕ → List ℕ → List ℕ → List ℕ
written d n ins outs = outputs d (take n ins) ++ drop n outs

-- The input bytes that are used: all, or none if the output has another length.
unfoldable pub served : List ℕ → List ℕ → List ℕ
served ins outs = pick (eqb (length ins) (length outs)) ins []

-- A run with a stopping rule: its count, the device after it, the losses and the output.
pub record RunUntil (stops : DeviceModel → Bool) (d : DeviceModel) (ins outs : List ℕ) (r : Ran) (d' : DeviceModel) (outs' : List ℕ) : Type 0 where
  pub count : r.count ≡ count_until stops d (served ins outs)
  pub device : d' ≡ after_bytes d (take (count_until stops d (served ins outs)) ins)
  pub lost : r.lost ≡ losses_of (lost_with d (take (count_until stops d (served ins outs)) ins))
  pub output : outs' ≡ written d (count_until stops d (served ins outs)) ins outs

-- Refusals -------------------------------------------------------------------------------------------------------------

-- The refusal number of a run or of a run to idle, 0 if it is done. All input bytes are checked, even those that a run to idle
-- would not reach.
unfoldable pub run_refusal : List ℕ → List ℕ → List ℕ → ℕ
run_refusal bytes ins outs =
    pick (not (eqb (length bytes) record_length)) wrong_length
    (pick (not (eqb (length ins) (length outs))) lines_differ
    (pick (not (inputs_fit ins)) bad_input
    (pick (not (sound_bytes bytes)) unsound
    done)))
