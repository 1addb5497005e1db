-- No record that a call left is refused with 9: each call keeps a record sound, and so does every list of calls from reset on.
use Prim.Native.Nat.{ℕ, zero, suc}
use mathlib.Core.Path.{◌≡◌, refl}
use mathlib.Core.Bool.{Bool, true, false, not, ◌||◌}
use mathlib.Core.List.{List, [], ◌∷◌}
use native.Mathlib.Omega.{arith}
use lib.ListN.{length, take}
use lib.Dec.{eqb}
use Rattle.frames.specs.declared.lines.Pins.{Pins}
use Rattle.registers.specs.Choose.{pick}
use Rattle.registers.specs.Refusals.{done, refusal_of}
use Rattle.serial.specs.Cycle.{DeviceModel, reset_device, cycle_of}
use Rattle.serial.specs.Access.{read_device, write_device}
use Rattle.frames.specs.Lines.{pins_of}
use Rattle.serial.specs.Sound.{sound_device, device_fits}
use Rattle.serial.proofs.Soundness.{sound_reset, sound_read, sound_write, sound_cycle, fits_reset, fits_read, fits_write, fits_cycle}
use Rattle.device_record.specs.Record.{encoded, decode, sound_bytes}
use Rattle.device_record.proofs.RoundTrip.{sound_encode, sound_decode, fits_decode}
use Rattle.serial.proofs.Accesses.{read_most, write_most}
use Rattle.device_record.specs.Run.{after_bytes, inputs_fit, run_refusal}
use Rattle.device_record.specs.Calls.{left_by, reset_refusal, reset_left, record_refusal, read_call, read_left, write_call, write_left, run_count, run_left, pair_refusal, pair_after, pair_left, Reached, NeverUnsound}
use Rattle.device_record.specs.declared.run.Stop.{Stop}
use Rattle.serial.specs.Pair.{wire, PairModel, pair_cycle, pair_run}

-- What every device keeps: it is sound, and its fields fit their bytes.
pub record Good (d : DeviceModel) : Type 0 where
  pub sound : sound_device d ≡ true
  pub fits : device_fits d ≡ true

good_encode : (d : DeviceModel) → Good d → sound_bytes (encoded d) ≡ true
good_encode d g = sound_encode d g.sound g.fits

pub good_decode : (b : List ℕ) → sound_bytes b ≡ true → Good (decode b)
good_decode b s = record { sound = sound_decode b s; fits = fits_decode b s }

good_cycle : (d : DeviceModel) (x : Pins) → Good d → Good (cycle_of d x)
good_cycle d x g = record { sound = sound_cycle d x g.sound; fits = fits_cycle d x g.sound g.fits }

pub good_after : (d : DeviceModel) (ins : List ℕ) → Good d → Good (after_bytes d ins)
unfolding after_bytes
good_after d [] g = g
good_after d (p ∷ ps) g = good_after (cycle_of d (pins_of p)) ps (good_cycle d (pins_of p) g)

pub good_pair_run : (n : ℕ) (p : PairModel) → Good p.first → Good p.second → Good (pair_run n p).first × Good (pair_run n p).second
unfolding pair_cycle
good_pair_run zero p g k = (g, k)
good_pair_run (suc n) p g k = good_pair_run n (pair_cycle p) (good_cycle p.first (wire p.second.lines) g) (good_cycle p.second (wire p.first.lines) k)

good_read : (d : DeviceModel) (o : ℕ) → Good d → Good (read_device d o)
good_read d o g = record { sound = sound_read d o g.sound; fits = fits_read d o g.fits }

good_write : (d : DeviceModel) (o v : ℕ) → Good d → Good (write_device d o v)
good_write d o v g = record { sound = sound_write d o v g.sound; fits = fits_write d o v g.fits }

-- Whatever number a call answers with, it leaves a sound record sound.
left_sound : (refusal : ℕ) (d : DeviceModel) (b : List ℕ) → Good d → sound_bytes b ≡ true → sound_bytes (left_by refusal d b) ≡ true
left_sound refusal d b g s = go (eqb refusal done)
  where
    go : (t : Bool) → sound_bytes (pick t (encoded d) b) ≡ true
    go true = good_encode d g
    go false = s

reset_good : (edition2 : Bool) → Good (reset_device edition2)
reset_good edition2 = record { sound = sound_reset edition2; fits = fits_reset edition2 }

-- Reset makes a sound record of any 128 bytes.
pub reset_makes_sound : (bytes : List ℕ) (edition : ℕ) → reset_refusal bytes edition ≡ done → sound_bytes (reset_left bytes edition) ≡ true
reset_makes_sound bytes edition e = rw e (good_encode (reset_device (eqb edition 2)) (reset_good (eqb edition 2)))

pub reset_keeps_sound : (bytes : List ℕ) (edition : ℕ) → sound_bytes bytes ≡ true → sound_bytes (reset_left bytes edition) ≡ true
reset_keeps_sound bytes edition s = left_sound (reset_refusal bytes edition) (reset_device (eqb edition 2)) bytes (reset_good (eqb edition 2)) s

pub read_keeps_sound : (bytes : List ℕ) (o : ℕ) → sound_bytes bytes ≡ true → sound_bytes (read_left bytes o) ≡ true
read_keeps_sound bytes o s =
    left_sound (refusal_of (read_call bytes o)) (read_device (decode bytes) o) bytes (good_read (decode bytes) o (good_decode bytes s)) s

pub write_keeps_sound : (bytes : List ℕ) (o v : ℕ) → sound_bytes bytes ≡ true → sound_bytes (write_left bytes o v) ≡ true
write_keeps_sound bytes o v s =
    left_sound (write_call bytes o v) (write_device (decode bytes) o v) bytes (good_write (decode bytes) o v (good_decode bytes s)) s

pub run_keeps_sound : (stop : Stop) (bytes ins outs : List ℕ) → sound_bytes bytes ≡ true → sound_bytes (run_left stop bytes ins outs) ≡ true
run_keeps_sound stop bytes ins outs s =
    let n = take (run_count stop bytes ins outs) ins in
    left_sound (run_refusal bytes ins outs) (after_bytes (decode bytes) n) bytes (good_after (decode bytes) n (good_decode bytes s)) s

-- A pair run is refused where either record is not sound.
pair_refused : (one two : List ℕ) → (not (sound_bytes one) || not (sound_bytes two)) ≡ true → eqb (pair_refusal one two) done ≡ false
unfolding pair_refusal
pair_refused one two u = rw u (go (not (eqb (length one) 128) || not (eqb (length two) 128)))
  where
    go : (t : Bool) → eqb (pick t 10 9) 0 ≡ false
    go true = refl
    go false = refl

-- So it keeps a sound record sound, whatever the other one holds.
module _ (one two : List ℕ) (n : ℕ) where
  both_good : sound_bytes one ≡ true → sound_bytes two ≡ true → Good (pair_after one two n).first × Good (pair_after one two n).second
  unfolding pair_after
  both_good s t = good_pair_run n (record { first = decode one; second = decode two }) (good_decode one s) (good_decode two t)

  pub pair_keeps_first : sound_bytes one ≡ true → sound_bytes (pair_left one two n).one ≡ true
  pair_keeps_first s = go (sound_bytes two) refl
    where
      go : (u : Bool) → sound_bytes two ≡ u → sound_bytes (left_by (pair_refusal one two) (pair_after one two n).first one) ≡ true
      go true t = left_sound (pair_refusal one two) (pair_after one two n).first one (both_good s t).0 s
      go false t = rw (pair_refused one two (rw (s, t))) s

  pub pair_keeps_second : sound_bytes two ≡ true → sound_bytes (pair_left one two n).two ≡ true
  pair_keeps_second t = go (sound_bytes one) refl
    where
      go : (u : Bool) → sound_bytes one ≡ u → sound_bytes (left_by (pair_refusal one two) (pair_after one two n).second two) ≡ true
      go true s = left_sound (pair_refusal one two) (pair_after one two n).second two (both_good s t).1 t
      go false s = rw (pair_refused one two (rw s)) t

reached_sound : {bytes : List ℕ} → Reached bytes → sound_bytes bytes ≡ true
reached_sound (Reached.reset b n e) = reset_makes_sound b n e
reached_sound (Reached.again b n h) = reset_keeps_sound b n (reached_sound h)
reached_sound (Reached.read b o h) = read_keeps_sound b o (reached_sound h)
reached_sound (Reached.write b o v h) = write_keeps_sound b o v (reached_sound h)
reached_sound (Reached.run stop b i o h) = run_keeps_sound stop b i o (reached_sound h)
reached_sound (Reached.first a b n h) = pair_keeps_first a b n (reached_sound h)
reached_sound (Reached.second a b n h) = pair_keeps_second a b n (reached_sound h)

-- So no call refuses it with 9.

module _ (bytes : List ℕ) (h : Reached bytes) where
  -- 10 is the only refusal that can come before an access's own
  reached_record : (t : Bool) → eqb (length bytes) 128 ≡ t → record_refusal bytes ≡ pick t 0 10
  unfolding record_refusal
  reached_record true e = rw (e, reached_sound h)
  reached_record false e = rw e

  reached_read : (o : ℕ) → refusal_of (read_call bytes o) ≡ 9 → ⊥
  unfolding read_call
  reached_read o e = go (eqb (length bytes) 128) refl
    where
      go : (t : Bool) → eqb (length bytes) 128 ≡ t → ⊥
      go true k = omega (arith, read_most (decode bytes) o, rw (reached_record true k) at e)
      go false k = omega (arith, rw (reached_record false k) at e)

  reached_write : (o v : ℕ) → write_call bytes o v ≡ 9 → ⊥
  unfolding write_call
  reached_write o v e = go (eqb (length bytes) 128) refl
    where
      go : (t : Bool) → eqb (length bytes) 128 ≡ t → ⊥
      go true k = omega (arith, write_most (decode bytes) o v, rw (reached_record true k) at e)
      go false k = omega (arith, rw (reached_record false k) at e)

  reached_run : (ins outs : List ℕ) → run_refusal bytes ins outs ≡ 9 → ⊥
  unfolding run_refusal
  reached_run ins outs e = go (eqb (length bytes) 128) (eqb (length ins) (length outs)) (inputs_fit ins) (rw (reached_sound h) at e)
    where
      go : (t u v : Bool) → ◌≡◌ {A = ℕ} (pick (not t) 10 (pick (not u) 11 (pick (not v) 12 0))) 9 → ⊥
      go true true true z = omega arith
      go true true false z = omega arith
      go true false v z = omega arith
      go false u v z = omega arith

-- Nor does a pair run of two such records.
reached_pair : (one two : List ℕ) → Reached one → Reached two → pair_refusal one two ≡ 9 → ⊥
unfolding pair_refusal
reached_pair one two h k e = go (eqb (length one) 128) (eqb (length two) 128) (rw (reached_sound h, reached_sound k) at e)
  where
    go : (t u : Bool) → ◌≡◌ {A = ℕ} (pick (not t || not u) 10 0) 9 → ⊥
    go true true z = omega arith
    go true false z = omega arith
    go false u z = omega arith

pub never_unsound : NeverUnsound
never_unsound =
    record {
      sound = λ bytes h. reached_sound h;
      reads = λ bytes o h. reached_read bytes h o;
      writes = λ bytes o v h. reached_write bytes h o v;
      runs = λ bytes ins outs h. reached_run bytes h ins outs;
      pairs = reached_pair;
    }
