-- A read of a register other than DR leaves a record as it was, so a host that polls SR stays inside demand 3.
use Prim.Native.Nat.{ℕ}
use mathlib.Core.Path.{◌≡◌, refl, sym, ap, ◌∙◌}
use mathlib.Core.Bool.{Bool, true, false, not}
use mathlib.Core.List.{List, [], ◌∷◌}
use lib.Dec.{eqb}
use lib.ListN.{length, replicate}
use Rattle.registers.specs.Choose.{pick}
use Rattle.registers.specs.Refusals.{refusal_of, Refused}
use Rattle.registers.specs.Offsets.{register_of}
use Rattle.registers.specs.declared.offsets.Register.TheVariants.{Dr}
use Rattle.registers.proofs.Picks.{pick_both}
use Rattle.serial.specs.Access.{read_answer_of, read_device}
use Rattle.serial.specs.Demand3.{Step, cycles_in}
use Rattle.serial.specs.Demand3.Which.{master, slave}
use Rattle.serial.specs.Demand3.Step.{read, write}
use Rattle.serial.proofs.Accesses.{read_other_same}
use Rattle.device_record.specs.Record.{encoded, decode, sound_bytes}
use Rattle.device_record.specs.Calls.{record_refusal, read_call, read_left, Records}
use Rattle.device_record.specs.Demand3.{devices_of, run_bytes, play_bytes, plays_bytes, SoundRecords, Polls, PollsExchanged}
use Rattle.device_record.proofs.RoundTrip.{encode-decode}
use Rattle.device_record.proofs.Demand3.{run_is_cycles}

-- Sound bytes or not.
pub read_other_left : (bytes : List ℕ) (o : ℕ) → (register_of o ≡ Dr → ⊥) → read_left bytes o ≡ bytes
unfolding read_call record_refusal
read_other_left bytes o h = go (eqb (length bytes) 128) (sound_bytes bytes) refl
  where
    go : (t u : Bool) → sound_bytes bytes ≡ u
        → pick (eqb (refusal_of (pick (eqb (pick (not t) 10 (pick (not u) 9 0)) 0) (read_answer_of (decode bytes) o) (Refused (pick (not t) 10 (pick (not u) 9 0))))) 0) (encoded (read_device (decode bytes) o)) bytes ≡ bytes
    go true true e =
        pick_both (λ (x : List ℕ). x ≡ bytes) (eqb (refusal_of (read_answer_of (decode bytes) o)) 0) (encoded (read_device (decode bytes) o)) bytes
        (λ _. ap encoded (read_other_same (decode bytes) o h) ∙ encode-decode bytes e) (λ _. refl)
    go true false e = refl
    go false u e = refl

-- The reads may be left out.
pub polls_cycles : (xs : List Step) (r : Records) → Polls xs → plays_bytes xs r ≡ plays_bytes (replicate (cycles_in xs) Step.cycle) r
polls_cycles [] r k = refl
polls_cycles (Step.cycle ∷ xs) r k = polls_cycles xs (play_bytes Step.cycle r) k
polls_cycles (read master o ∷ xs) r k =
    ap (λ (b : List ℕ). plays_bytes xs (record { one = b; two = r.two })) (read_other_left r.one o k.0) ∙ polls_cycles xs r k.1
polls_cycles (read slave o ∷ xs) r k =
    ap (λ (b : List ℕ). plays_bytes xs (record { one = r.one; two = b })) (read_other_left r.two o k.0) ∙ polls_cycles xs r k.1
polls_cycles (write d o v ∷ xs) r k = absurd k

-- What a host that polls leaves is what one pair run of as many cycles leaves.
pub polls_run : (xs : List Step) (r : Records) → SoundRecords r → Polls xs → plays_bytes xs r ≡ run_bytes (cycles_in xs) r
polls_run xs r s k = polls_cycles xs r k ∙ sym (run_is_cycles (cycles_in xs) r s)

-- So the claim of demand 3 is about such a host too.
pub polls_exchanged : PollsExchanged
polls_exchanged xs r e k = ap devices_of (polls_run xs r e.sound k) ∙ e.after (cycles_in xs)
