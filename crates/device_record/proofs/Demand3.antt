-- Demand 3 for records: steps played by calls on two records do the same as steps played on the devices that these encode.
use Prim.Native.Nat.{ℕ, zero, suc}
use mathlib.Core.Path.{◌≡◌, refl, sym, ap, ap₂, ◌∙◌, subst}
use mathlib.Core.Bool.{Bool, true, false, true≢false}
use mathlib.Core.List.{List, [], ◌∷◌, ◌++◌, map}
use lib.Dec.{eqb}
use lib.ListN.{length, replicate}
use borrow.Author.Tests.{eq-eqb}
use Rattle.registers.specs.Choose.{pick}
use Rattle.registers.specs.Refusals.{refusal_of, first_of, Refused}
use Rattle.serial.specs.Cycle.{DeviceModel}
use Rattle.serial.specs.Access.{read_answer_of, read_device, write_refusal_of, write_device}
use Rattle.serial.proofs.Accesses.{read_same, write_same}
use Rattle.serial.specs.Sound.{sound_device, device_fits}
use Rattle.serial.proofs.Soundness.{sound_read, fits_read, sound_write, fits_write}
use Rattle.device_record.specs.Record.{encoded, decode, sound_bytes}
use Rattle.device_record.proofs.RoundTrip.{length_sound, decode-encode, decode_injective, sound_encode, sound_decode, fits_decode}
use Rattle.serial.specs.Pair.{PairModel, pair_cycle, pair_run}
use Rattle.serial.proofs.Exchange.Claim.{demand3}
use Rattle.serial.proofs.Drawing.Enabled.{enabling_injective}
use Rattle.frames.specs.Slots.{width_of}
use Rattle.frames.specs.Lines.{pins_of}
use Rattle.device_record.specs.Run.{outputs}
use Rattle.device_record.proofs.Histories.{good_decode, good_pair_run}
use Rattle.device_record.specs.Calls.{left_by, record_refusal, read_call, read_left, write_call, write_left, pair_refusal, pair_after, Records}
use Rattle.device_record.specs.Demand3.{devices_of, run_bytes, play_bytes, plays_bytes, SoundRecords, steps, Demand3Records, LastSentenceRecords}
use Rattle.frames.specs.Bits.{cut}
use Rattle.serial.specs.Demand3.{Step, play, plays, Exchanged, slave_enabled, master_enabled, WholeLoad}
use Rattle.serial.specs.Demand3.Which.{master, slave}
use Rattle.serial.specs.Demand3.Step.{read, write}

-- One call -------------------------------------------------------------------------------------------------------------

-- what a call leaves is sound, and encodes the device that the call means
record Left (b : List ℕ) (d : DeviceModel) : Type 0 where
  sound : sound_bytes b ≡ true
  is : decode b ≡ d

left_is : (n : ℕ) (d : DeviceModel) (b : List ℕ) → sound_bytes b ≡ true → sound_device d ≡ true → device_fits d ≡ true → (eqb n 0 ≡ false → d ≡ decode b) → Left (left_by n d b) d
left_is n d b s sd fd same = go (eqb n 0) refl
  where
    go : (t : Bool) → eqb n 0 ≡ t → Left (pick t (encoded d) b) d
    go true e = record { sound = sound_encode d sd fd; is = decode-encode d sd fd }
    go false e = record { sound = s; is = sym (same e) }

-- a sound record is not refused by its bytes
record-done : (b : List ℕ) → sound_bytes b ≡ true → record_refusal b ≡ 0
unfolding record_refusal
record-done b s = rw (eq-eqb (length b) 128 (length_sound b s), s)

pub pair_done : (b c : List ℕ) → sound_bytes b ≡ true → sound_bytes c ≡ true → pair_refusal b c ≡ 0
unfolding pair_refusal
pair_done b c s t = rw (eq-eqb (length b) 128 (length_sound b s), eq-eqb (length c) 128 (length_sound c t), s, t)

read_left_lem : (b : List ℕ) (o : ℕ) → sound_bytes b ≡ true → Left (read_left b o) (read_device (decode b) o)
unfolding read_call
read_left_lem b o s =
    let d = decode b in
    left_is (refusal_of (read_call b o)) (read_device d o) b s (sound_read d o (sound_decode b s)) (fits_read d o (fits_decode b s))
    (λ k. read_same d o (ap (λ (r : ℕ). eqb (refusal_of (pick (eqb r 0) (read_answer_of d o) (Refused r))) 0) (sym (record-done b s)) ∙ k))

write_left_lem : (b : List ℕ) (o v : ℕ) → sound_bytes b ≡ true → Left (write_left b o v) (write_device (decode b) o v)
unfolding write_call
write_left_lem b o v s =
    let d = decode b in
    left_is (write_call b o v) (write_device d o v) b s (sound_write d o v (sound_decode b s)) (fits_write d o v (fits_decode b s))
    (λ k. write_same d o v (ap (λ (r : ℕ). eqb (first_of r (write_refusal_of d o v)) 0) (sym (record-done b s)) ∙ k))

-- A list of steps ------------------------------------------------------------------------------------------------------

record Played (r : Records) (p : PairModel) : Type 0 where
  sound : SoundRecords r
  is : devices_of r ≡ p

run_played : (n : ℕ) (r : Records) → SoundRecords r → Played (run_bytes n r) (pair_run n (devices_of r))
unfolding pair_after
run_played n r s =
    let p = devices_of r in
    let g = good_pair_run n p (good_decode r.one s.one) (good_decode r.two s.two) in
    let z = pair_done r.one r.two s.one s.two in
    let l = left_is (pair_refusal r.one r.two) (pair_run n p).first r.one s.one g.0.sound g.0.fits (λ k. absurd (true≢false (ap (λ (i : ℕ). eqb i 0) (sym z) ∙ k))) in
    let m = left_is (pair_refusal r.one r.two) (pair_run n p).second r.two s.two g.1.sound g.1.fits (λ k. absurd (true≢false (ap (λ (i : ℕ). eqb i 0) (sym z) ∙ k))) in
    record { sound = record { one = l.sound; two = m.sound }; is = ap₂ (λ (a b : DeviceModel). record { first = a; second = b }) l.is m.is }

step_played : (x : Step) (r : Records) → SoundRecords r → Played (play_bytes x r) (play x (devices_of r))
step_played Step.cycle r s = run_played 1 r s
step_played (read master o) r s =
    let l = read_left_lem r.one o s.one in
    record { sound = record { one = l.sound; two = s.two }; is = ap (λ (a : DeviceModel). record { first = a; second = decode r.two }) l.is }
step_played (read slave o) r s =
    let l = read_left_lem r.two o s.two in
    record { sound = record { one = s.one; two = l.sound }; is = ap (λ (a : DeviceModel). record { first = decode r.one; second = a }) l.is }
step_played (write master o v) r s =
    let l = write_left_lem r.one o v s.one in
    record { sound = record { one = l.sound; two = s.two }; is = ap (λ (a : DeviceModel). record { first = a; second = decode r.two }) l.is }
step_played (write slave o v) r s =
    let l = write_left_lem r.two o v s.two in
    record { sound = record { one = s.one; two = l.sound }; is = ap (λ (a : DeviceModel). record { first = decode r.one; second = a }) l.is }

-- Playing on the bytes is playing on the devices, and no record on the way is unsound.
pub plays_sound : (xs : List Step) (r : Records) → SoundRecords r → SoundRecords (plays_bytes xs r)
plays_sound [] r s = s
plays_sound (x ∷ xs) r s = plays_sound xs (play_bytes x r) (step_played x r s).sound

pub plays_devices : (xs : List Step) (r : Records) → SoundRecords r → devices_of (plays_bytes xs r) ≡ plays xs (devices_of r)
plays_devices [] r s = refl
plays_devices (x ∷ xs) r s = plays_devices xs (play_bytes x r) (step_played x r s).sound ∙ ap (plays xs) (step_played x r s).is

-- Demand 3 over records --------------------------------------------------------------------------------------------------

plays-append : (xs ys : List Step) (p : PairModel) → plays (xs ++ ys) p ≡ plays ys (plays xs p)
plays-append [] ys p = refl
plays-append (x ∷ xs) ys p = plays-append xs ys (play x p)

steps_lead : (pre mid : List Step) (p : PairModel) → plays (steps pre mid p) p ≡ master_enabled pre mid p
steps_lead pre mid p = plays-append pre _ p ∙ plays-append mid _ (slave_enabled pre p)

-- A pair run of n cycles leaves the bytes that n runs of one cycle leave.
plays_pair_run : (n : ℕ) (p : PairModel) → plays (replicate n Step.cycle) p ≡ pair_run n p
plays_pair_run zero p = refl
plays_pair_run (suc n) p = plays_pair_run n (pair_cycle p)

pub run_is_cycles : (n : ℕ) (r : Records) → SoundRecords r → run_bytes n r ≡ plays_bytes (replicate n Step.cycle) r
run_is_cycles n r s =
    let one-run = run_played n r s in
    let many = plays_sound (replicate n Step.cycle) r s in
    let same = one-run.is ∙ sym (plays_devices (replicate n Step.cycle) r s ∙ plays_pair_run n (devices_of r)) in
    ap₂ (λ (a b : List ℕ). record { one = a; two = b })
    (decode_injective _ _ one-run.sound.one many.one (ap (λ (q : PairModel). q.first) same))
    (decode_injective _ _ one-run.sound.two many.two (ap (λ (q : PairModel). q.second) same))

-- The first part.
pub demand3_records : Demand3Records
demand3_records r pre mid s st four z z' =
    let left = plays_sound (steps pre mid (devices_of r)) r s in
    record {
      sound = left;
      exchanged = subst Exchanged (sym (plays_devices (steps pre mid (devices_of r)) r s ∙ steps_lead pre mid (devices_of r))) (demand3 (devices_of r) pre mid st four z z');
      after = λ n. (run_played n (plays_bytes (steps pre mid (devices_of r)) r) left).is;
    }

-- The last sentence.
pub last_sentence_records : LastSentenceRecords
unfolding outputs
last_sentence_records s m n b b' o v o' v' sb sb' e e' ins ins' w w' same =
    let d = (write_left_lem b o v sb).is in
    let d' = (write_left_lem b' o' v' sb').is in
    let tell = enabling_injective s m n (decode b) (decode b') o v o' v' e e' (map pins_of ins) (map pins_of ins') in
    let whole = subst (λ (x : DeviceModel). WholeLoad s x (map pins_of ins)) d w in
    let whole' = subst (λ (x : DeviceModel). WholeLoad s x (map pins_of ins')) d' w' in
    let bytes = sym (ap (λ (x : DeviceModel). outputs x ins) d) in
    let bytes' = ap (λ (x : DeviceModel). outputs x ins') d' in
    let load : DeviceModel → List ℕ = λ (x : DeviceModel). map (cut (width_of s)) x.registers.tx in
    ap load d ∙ (tell whole whole' (bytes ∙ (same ∙ bytes')) ∙ sym (ap load d'))
