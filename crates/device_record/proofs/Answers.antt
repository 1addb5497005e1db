-- Each way out of a call on records, as its contract states it.
use Prim.Native.Nat.{ℕ, ◌<◌}
use mathlib.Core.Path.{◌≡◌, refl, sym, ◌∙◌, ap, ap₂}
use mathlib.Core.List.{List, []}
use mathlib.Core.Bool.{Bool, true, false, not, ◌||◌}
use native.Mathlib.Omega.{arith}
use lib.Dec.{eqb}
use lib.ListN.{length, take}
use lib.Seq.{take-length}
use borrow.Author.Tests.{eq-eqb, ne_eqb, eqb-true}
use denote.Enum.Bare.{sameb}
use Rattle.std.specs.Prelude.{◌≢◌, Result, Ok, Err, Option, Some, None, is_some, IfSome, IsErrAnd}
use Rattle.std.specs.Option.{ok_or}
use Rattle.std.proofs.Math.Bool.{or_comm}
use Rattle.std.proofs.lemmas.Result.{err_from_is_err_and}
use Rattle.registers.specs.Choose.{pick}
use Rattle.registers.specs.Refusals.{first_of, Answer, Word, Refused}
use Rattle.serial.specs.Lost.{none_lost}
use Rattle.serial.specs.Cycle.{DeviceModel, device_of, reset_device}
use Rattle.serial.specs.Access.{read_device, write_device, Read, Write}
use Rattle.serial.proofs.Accesses.{refused_read}
use Rattle.device_record.specs.Record.{encoded, encode, decode, sound_bytes}
use Rattle.device_record.specs.Run.{losses_of, after_bytes, outputs, lost_with, inputs_fit, stops_on, count_until, written, RunUntil, run_refusal}
use Rattle.device_record.specs.Calls.{edition_of, pair_of_records, left_by, reset_refusal, record_refusal, read_call, write_call, run_count, run_lost, run_left, run_output, ResetCall, ReadCall, WriteCall, RunCall, RunsAll, pair_refusal, pair_after, pair_call_lost, PairCall}
use Rattle.serial.specs.Pair.{PairModel, pair_run, pair_lost, swapped, PairRun}
use Rattle.serial.specs.declared.pair.PairLosses.{PairLosses}
use Rattle.serial.specs.declared.Device.{Device}
use Rattle.device_record.specs.Refusals.{number, refusal_number, Checks}
use Rattle.device_record.specs.declared.refusals.Refusal.{Refusal}
use Rattle.device_record.specs.declared.refusals.Refusal.TheVariants.{Unsound, NoEdition}
use Rattle.device_record.specs.declared.calls.Edition.{Edition}
use Rattle.device_record.specs.declared.calls.Edition.TheVariants.{First, Second}
use Rattle.device_record.specs.contracts.calls.Edition.{the_type}
use Rattle.device_record.specs.declared.run.Ran.{Ran}
use Rattle.device_record.specs.declared.run.Stop.{Stop}
use Rattle.device_record.specs.declared.run.Stop.TheVariants.{Never}
use Rattle.device_record.proofs.Runs.{count_never, served_all, written_all}

-- Of a list of refusals none is given: the first test passed, and none of the others refuses.
passes : (t : Bool) (k r : ℕ) → 0 < k → pick (not t) k r ≡ 0 → (t ≡ true) × (r ≡ 0)
passes true k r h e = (refl, e)
passes false k r h e = absurd (omega arith)

-- The bytes that `encode` leaves in a record of the right length.
stored : (b b' : List ℕ) (d m : DeviceModel) → eqb (length b) 128 ≡ true → b' ≡ encode d b → d ≡ m → b' ≡ encoded m
unfolding encode
stored b b' d m l e h = e ∙ rw (l, h)

-- Either order is refused with the same number.
pub pair_refusal_swap : (one two : List ℕ) → pair_refusal two one ≡ pair_refusal one two
unfolding pair_refusal
pair_refusal_swap one two =
    ap₂ (λ (s t : Bool). pick s 10 (pick t 9 0))
    (or_comm (not (eqb (length two) 128)) (not (eqb (length one) 128)))
    (or_comm (not (sound_bytes two)) (not (sound_bytes one)))

-- Refusals -------------------------------------------------------------------------------------------------------------

-- What the exit of a `?` hands on.
pub handed_on : {A : Type 0} (r : Result A Refusal) (e : Refusal) → IsErrAnd r (λ y. y ≡ e) → r ≡ Err e
handed_on r e h = let p = err_from_is_err_and r h in p.1 ∙ ap Err p.2

-- A number that is not 0 refuses.
refuses : (n m : ℕ) → 0 < n → n ≡ m → (n ≡ m) × (m ≢ 0)
refuses n m h e = (e, λ z. absurd (omega arith))

-- Records of the wrong length.
module _ (b : List ℕ) (h : length b ≢ 128) where
  pub short_record : (10 ≡ record_refusal b) × (record_refusal b ≢ 0)
  unfolding record_refusal
  short_record = refuses 10 (record_refusal b) (omega arith) (rw (ne_eqb (length b) 128 h))

  pub short_run : (i o : List ℕ) → (10 ≡ run_refusal b i o) × (run_refusal b i o ≢ 0)
  unfolding run_refusal
  short_run i o = refuses 10 (run_refusal b i o) (omega arith) (rw (ne_eqb (length b) 128 h))

  pub short_first : (c : List ℕ) → (10 ≡ pair_refusal b c) × (pair_refusal b c ≢ 0)
  unfolding pair_refusal
  short_first c = refuses 10 (pair_refusal b c) (omega arith) (rw (ne_eqb (length b) 128 h))

  pub short_second : (c : List ℕ) → (10 ≡ pair_refusal c b) × (pair_refusal c b ≢ 0)
  short_second c = rw (pair_refusal_swap b c) (short_first c)

-- The device of a record of the right length.
pub sound_or_not : (b : List ℕ) → length b ≡ 128 → (o : Option Device) → is_some o ≡ sound_bytes b → IfSome o (λ d. device_of d ≡ decode b) → Checks (record_refusal b) (λ d. device_of d ≡ decode b) (ok_or o Unsound)
unfolding record_refusal
sound_or_not b l (Some d) s e = (rw (eq-eqb (length b) 128 l, ← s), e)
sound_or_not b l None s e = refuses 9 (record_refusal b) (omega arith) (rw (eq-eqb (length b) 128 l, ← s))

-- Reset ----------------------------------------------------------------------------------------------------------------

-- An edition or none, by the two tests of its number.
known : (s t : Bool) (k : Edition) → (s ≡ true → t ≡ false) → Ok k ≡ pick s (Ok First) (pick t (Ok Second) (Err NoEdition)) → ((s || t) ≡ true) × (sameb the_type k Second ≡ t)
known true t First n h = (refl, sym (n refl))
known true t Second n h = cc
known false true First n h = cc
known false true Second n h = (refl, refl)
known false false k n h = cc

unknown : (s t : Bool) (e : Refusal) → Err e ≡ pick s (Ok First) (pick t (Ok Second) (Err NoEdition)) → ((s || t) ≡ false) × (number e ≡ 20)
unknown true t e h = cc
unknown false true e h = cc
unknown false false e h = (refl, ap refusal_number h)

module _ (b : List ℕ) (edition : ℕ) where
  pub reset_refused : (n : ℕ) → n ≡ reset_refusal b edition → n ≢ 0 → ResetCall b edition n b
  reset_refused n e f = record { refusal = e; left = rw (← e, ne_eqb n 0 f) }

  pub reset_short : length b ≢ 128 → ResetCall b edition 10 b
  unfolding reset_refusal
  reset_short h = reset_refused 10 (rw (ne_eqb (length b) 128 h)) (λ z. absurd (omega arith))

  module _ (l : length b ≡ 128) where
    pub reset_no_edition : (e : Refusal) → Err e ≡ edition_of edition → ResetCall b edition (number e) b
    unfolding reset_refusal
    reset_no_edition e h =
        let u = unknown (eqb edition 1) (eqb edition 2) e h in
        reset_refused (number e) (rw (eq-eqb (length b) 128 l, u.0) u.1) (λ z. let w = u.1 in absurd (omega arith))

    pub reset_done : (k : Edition) (b' : List ℕ) (d : DeviceModel) → Ok k ≡ edition_of edition → d ≡ reset_device (sameb the_type k Second) → b' ≡ encode d b → ResetCall b edition 0 b'
    unfolding reset_refusal
    reset_done k b' d h e m =
        let u = known (eqb edition 1) (eqb edition 2) k (λ q. let one = eqb-true edition 1 q in ne_eqb edition 2 (λ z. absurd (omega arith))) h in
        let z : reset_refusal b edition ≡ 0 = rw (eq-eqb (length b) 128 l, u.0) in
        record { refusal = sym z; left = rw z (stored b b' d (reset_device (eqb edition 2)) (eq-eqb (length b) 128 l) m (rw u.1 at e)) }

-- Accesses -------------------------------------------------------------------------------------------------------------

record_passes : (b : List ℕ) → record_refusal b ≡ 0 → eqb (length b) 128 ≡ true
unfolding record_refusal
record_passes b z = (passes (eqb (length b) 128) 10 (pick (not (sound_bytes b)) 9 0) (omega arith) z).0

module _ (b : List ℕ) (o : ℕ) where
  pub read_unserved : (n : ℕ) → (n ≡ record_refusal b) × (record_refusal b ≢ 0) → ReadCall b o (Refused n) b
  unfolding read_call
  read_unserved n e = let k = ne_eqb (record_refusal b) 0 e.1 in record { answer = rw (e.0, k); left = rw (k, k) }

  module _ (z : record_refusal b ≡ 0) (s d' : DeviceModel) (a : Answer) (h : s ≡ decode b) (g : Read s o a d') where
    read_answer_lem : read_call b o ≡ a
    unfolding read_call
    read_answer_lem = rw z (rw (← h) (sym g.answer))

    pub read_done_lem : (b' : List ℕ) (w : ℕ) → a ≡ Word w → b' ≡ encode d' b → ReadCall b o (Word w) b'
    read_done_lem b' w q k =
        let e = read_answer_lem ∙ q in
        record { answer = sym e; left = rw e (stored b b' d' (read_device (decode b) o) (record_passes b z) k (rw (← h) g.device)) }

    pub read_refused : (k : ℕ) → a ≡ Refused k → ReadCall b o (Refused k) b
    read_refused k q =
        let e = read_answer_lem ∙ q in
        record { answer = sym e; left = rw (e, refused_read (decode b) o k (rw (← h) (sym g.answer ∙ q))) }

module _ (b : List ℕ) (o v : ℕ) where
  pub write_unserved : (n : ℕ) → (n ≡ record_refusal b) × (record_refusal b ≢ 0) → WriteCall b o v n b
  unfolding write_call
  write_unserved n e = let k = ne_eqb (record_refusal b) 0 e.1 in record { refusal = rw (e.0, k); left = rw (k, k) }

  module _ (z : record_refusal b ≡ 0) (s d' : DeviceModel) (n : ℕ) (h : s ≡ decode b) (g : Write s o v n d') where
    write_refusal_lem : n ≡ write_call b o v
    unfolding write_call
    write_refusal_lem = rw z (rw h at g.refusal)

    pub write_done_lem : (b' : List ℕ) → n ≡ 0 → b' ≡ encode d' b → WriteCall b o v 0 b'
    write_done_lem b' q k =
        let y : write_call b o v ≡ 0 = sym write_refusal_lem ∙ q in
        record { refusal = sym y; left = rw y (stored b b' d' (write_device (decode b) o v) (record_passes b z) k (rw (← h) g.device)) }

    pub write_refused : eqb n 0 ≡ false → WriteCall b o v n b
    write_refused q = record { refusal = write_refusal_lem; left = rw (← write_refusal_lem, q) }

-- Runs -----------------------------------------------------------------------------------------------------------------

pub run_passes : (b i o : List ℕ) → run_refusal b i o ≡ 0 → (eqb (length b) 128 ≡ true) × (length i ≡ length o) × (sound_bytes b ≡ true)
unfolding run_refusal
run_passes b i o z =
    let p = passes (eqb (length b) 128) 10 (pick (not (eqb (length i) (length o))) 11 (pick (not (inputs_fit i)) 12 (pick (not (sound_bytes b)) 9 0))) (omega arith) z in
    let q = passes (eqb (length i) (length o)) 11 (pick (not (inputs_fit i)) 12 (pick (not (sound_bytes b)) 9 0)) (omega arith) p.1 in
    let r = passes (inputs_fit i) 12 (pick (not (sound_bytes b)) 9 0) (omega arith) q.1 in
    (p.0, eqb-true (length i) (length o) q.0, (passes (sound_bytes b) 9 0 (omega arith) r.1).0)

-- The tests of a run in their order.
module _ (b i o : List ℕ) (l : length b ≡ 128) where
  pub run_lines : length i ≢ length o → (11 ≡ run_refusal b i o) × (run_refusal b i o ≢ 0)
  unfolding run_refusal
  run_lines h = refuses 11 (run_refusal b i o) (omega arith) (rw (eq-eqb (length b) 128 l, ne_eqb (length i) (length o) h))

  module _ (m : length i ≡ length o) where
    pub run_input : inputs_fit i ≡ false → (12 ≡ run_refusal b i o) × (run_refusal b i o ≢ 0)
    unfolding run_refusal
    run_input h = refuses 12 (run_refusal b i o) (omega arith) (rw (eq-eqb (length b) 128 l, eq-eqb (length i) (length o) m, h))

    pub run_record : inputs_fit i ≡ true → record_refusal b ≡ run_refusal b i o
    unfolding run_refusal record_refusal
    run_record h = rw (eq-eqb (length b) 128 l, eq-eqb (length i) (length o) m, h)

module _ (stop : Stop) (b i o : List ℕ) where
  pub run-done : run_refusal b i o ≡ 0 → (s : Device) (r : Ran) (d' : DeviceModel) → device_of s ≡ decode b → (b' o' : List ℕ) → b' ≡ encode d' b
      → RunUntil (stops_on stop) (device_of s) i o r d' o' → RunCall stop b i o (record { refusal = 0; count = r.count; lost = r.lost }) b' o'
  unfolding run_count run_lost
  run-done z s r d' h b' o' k g =
      let p = run_passes b i o z in
      let a = served_all i o p.1 in
      record {
        refusal = sym z;
        count = rw z (g.count ∙ rw (a, h));
        lost = rw z (g.lost ∙ rw (a, h));
        left = rw z (stored b b' d' (after_bytes (decode b) (take (count_until (stops_on stop) (decode b) i) i)) p.0 k (g.device ∙ rw (a, h)));
        output = rw z (g.output ∙ rw (a, h));
      }

  pub run_unserved : (n : ℕ) → (n ≡ run_refusal b i o) × (run_refusal b i o ≢ 0) → RunCall stop b i o (record { refusal = n; count = 0; lost = none_lost }) b o
  unfolding run_count run_lost
  run_unserved n e = let k = ne_eqb (run_refusal b i o) 0 e.1 in record { refusal = e.0; count = rw k; lost = rw k; left = rw k; output = rw k }

-- A run without a stopping rule runs a cycle for each input byte.
module _ (b i o : List ℕ) where
  count_all : (n : ℕ) → run_refusal b i o ≡ n → eqb n 0 ≡ true → run_count Never b i o ≡ length i
  unfolding run_count
  count_all n e t = rw (e, t) (count_never (decode b) i)

  run_all : run_left Never b i o ≡ left_by (run_refusal b i o) (after_bytes (decode b) i) b
  run_all = go (eqb (run_refusal b i o) 0) refl
    where
      go : (t : Bool) → eqb (run_refusal b i o) 0 ≡ t → pick t (encoded (after_bytes (decode b) (take (run_count Never b i o) i))) b ≡ pick t (encoded (after_bytes (decode b) i)) b
      go true k = rw (count_all (run_refusal b i o) refl k, take-length i)
      go false k = refl

  output_all : run_output Never b i o ≡ pick (eqb (run_refusal b i o) 0) (outputs (decode b) i) o
  output_all = go (eqb (run_refusal b i o) 0) refl
    where
      go : (t : Bool) → eqb (run_refusal b i o) 0 ≡ t → pick t (written (decode b) (run_count Never b i o) i o) o ≡ pick t (outputs (decode b) i) o
      go true k = rw (count_all (run_refusal b i o) refl k) (written_all (decode b) i o (run_passes b i o (eqb-true (run_refusal b i o) 0 k)).1)
      go false k = refl

  lost_all : run_lost Never b i o ≡ pick (eqb (run_refusal b i o) 0) (lost_with (decode b) i) []
  unfolding run_lost
  lost_all = go (eqb (run_refusal b i o) 0) refl
    where
      go : (t : Bool) → eqb (run_refusal b i o) 0 ≡ t → pick t (lost_with (decode b) (take (run_count Never b i o) i)) [] ≡ pick t (lost_with (decode b) i) []
      go true k = rw (count_all (run_refusal b i o) refl k, take-length i)
      go false k = refl

pub runs_all : RunsAll
unfolding run_count
runs_all =
    record {
      lost = lost_all;
      count = λ b i o. ap (λ (n : ℕ). pick (eqb (run_refusal b i o) 0) n 0) (count_never (decode b) i);
      left = run_all;
      output = output_all;
    }

-- Pairs ----------------------------------------------------------------------------------------------------------------

either : (s t : Bool) (k r : ℕ) → 0 < k → pick (not s || not t) k r ≡ 0 → (s ≡ true) × (t ≡ true) × (r ≡ 0)
either true true k r h e = (refl, refl, e)
either true false k r h e = absurd (omega arith)
either false t k r h e = absurd (omega arith)

-- What a pair run that is done has passed: both lengths, both records sound.
pub pair_passes : (one two : List ℕ) → pair_refusal one two ≡ 0
    → (eqb (length one) 128 ≡ true) × (eqb (length two) 128 ≡ true) × (sound_bytes one ≡ true) × (sound_bytes two ≡ true)
unfolding pair_refusal
pair_passes one two z =
    let l = either (eqb (length one) 128) (eqb (length two) 128) 10 (pick (not (sound_bytes one) || not (sound_bytes two)) 9 0) (omega arith) z in
    let s = either (sound_bytes one) (sound_bytes two) 9 0 (omega arith) l.2 in
    (l.0, l.1, s.0, s.1)

-- The tests of a pair run in their order.
module _ (one two : List ℕ) (l : length one ≡ 128) (m : length two ≡ 128) where
  pair_number : pair_refusal one two ≡ first_of (record_refusal one) (record_refusal two)
  unfolding pair_refusal record_refusal
  pair_number = rw (eq-eqb (length one) 128 l, eq-eqb (length two) 128 m) (go (sound_bytes one) (sound_bytes two))
    where
      go : (s t : Bool) → pick (not s || not t) 9 0 ≡ first_of (pick (not s) 9 0) (pick (not t) 9 0)
      go true t = refl
      go false t = refl

  pub first_unsound : (n : ℕ) → (n ≡ record_refusal one) × (record_refusal one ≢ 0) → (n ≡ pair_refusal one two) × (pair_refusal one two ≢ 0)
  first_unsound n e = rw (pair_number, ne_eqb (record_refusal one) 0 e.1) e

  pub second_unsound : record_refusal one ≡ 0 → (n : ℕ) → (n ≡ record_refusal two) × (record_refusal two ≢ 0) → (n ≡ pair_refusal one two) × (pair_refusal one two ≢ 0)
  second_unsound z n e = rw (pair_number, z) e

  pub both_sound : record_refusal one ≡ 0 → record_refusal two ≡ 0 → pair_refusal one two ≡ 0
  both_sound z y = rw (pair_number, z, y)

module _ (one two : List ℕ) where
  pub pair_done : pair_refusal one two ≡ 0 → (cycles : ℕ) (one' two' : List ℕ) (p q : PairModel) (l : PairLosses) → PairRun cycles p l q → p ≡ pair_of_records one two
      → one' ≡ encode q.first one → two' ≡ encode q.second two → PairCall one two cycles (record { refusal = 0; first = l.first; second = l.second }) one' two'
  unfolding pair_after pair_call_lost
  pair_done z cycles one' two' p q r h s j k =
      let z' : pair_refusal two one ≡ 0 = pair_refusal_swap one two ∙ z in
      let l = pair_passes one two z in
      let g : q ≡ pair_after one two cycles = h.pair ∙ ap (pair_run cycles) s in
      record {
        refusal = sym z;
        first_lost = h.first ∙ ap (λ (q : PairModel). losses_of (pair_lost cycles q)) s ∙ sym (ap (λ (x : ℕ). losses_of (pick (eqb x 0) (pair_lost cycles (record { first = decode one; second = decode two })) [])) z);
        second_lost = h.second ∙ ap (λ (q : PairModel). losses_of (pair_lost cycles (swapped q))) s ∙ sym (ap (λ (x : ℕ). losses_of (pick (eqb x 0) (pair_lost cycles (record { first = decode two; second = decode one })) [])) z');
        first_left = stored one one' q.first (pair_after one two cycles).first l.0 j (ap (λ (x : PairModel). x.first) g) ∙ sym (ap (λ (x : ℕ). pick (eqb x 0) (encoded (pair_after one two cycles).first) one) z);
        second_left = stored two two' q.second (pair_after one two cycles).second l.1 k (ap (λ (x : PairModel). x.second) g) ∙ sym (ap (λ (x : ℕ). pick (eqb x 0) (encoded (pair_after one two cycles).second) two) z);
      }

  pub pair_unserved : (cycles n : ℕ) → (n ≡ pair_refusal one two) × (pair_refusal one two ≢ 0) → PairCall one two cycles (record { refusal = n; first = none_lost; second = none_lost }) one two
  unfolding pair_call_lost
  pair_unserved cycles n e =
      let k = ne_eqb (pair_refusal one two) 0 e.1 in
      record { refusal = e.0; first_lost = rw k; second_lost = rw (pair_refusal_swap one two, k); first_left = rw k; second_left = rw k }
