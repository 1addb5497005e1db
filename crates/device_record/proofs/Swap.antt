-- The order of two records: a pair run on swapped records gives the same, swapped; demand 3's first part holds in either order.
use Prim.Native.Nat.{ℕ}
use mathlib.Core.Path.{◌≡◌, refl, sym, ap, ap₂, ◌∙◌, subst}
use mathlib.Core.List.{List, [], ◌∷◌}
use Rattle.serial.specs.Pair.{PairModel, swapped}
use Rattle.serial.specs.Demand3.{Step}
use Rattle.serial.specs.Demand3.Which.{master, slave}
use Rattle.serial.specs.Demand3.Step.{read, write}
use Rattle.serial.proofs.Swap.{swap_run}
use Rattle.device_record.specs.Record.{decode}
use Rattle.device_record.specs.Calls.{left_by, pair_after, pair_left, Records}
use Rattle.device_record.specs.Demand3.{devices_of, play_bytes, plays_bytes, steps, play_swapped, plays_swapped, ExchangedSwapped, Demand3Swapped}
use Rattle.device_record.proofs.Answers.{pair_refusal_swap}
use Rattle.device_record.proofs.Demand3.{demand3_records}

-- Two records in the other order.
abbrev swapped_records : Records → Records
swapped_records r = record { one = r.two; two = r.one }

pair_after_swap : (one two : List ℕ) (n : ℕ) → pair_after two one n ≡ swapped (pair_after one two n)
unfolding pair_after
pair_after_swap one two n = swap_run n (record { first = decode one; second = decode two })

-- A pair run on swapped records leaves the swapped records, done or refused.
pub pair_left_swap : (one two : List ℕ) (n : ℕ) → pair_left two one n ≡ swapped_records (pair_left one two n)
pair_left_swap one two n =
    ap₂ (λ (k : ℕ) (p : PairModel). record { one = left_by k p.first two; two = left_by k p.second one })
    (pair_refusal_swap one two) (pair_after_swap one two n)

-- So does each step, and a list of them.
pub play_swap : (x : Step) (r : Records) → play_swapped x r ≡ swapped_records (play_bytes x (swapped_records r))
play_swap Step.cycle r = pair_left_swap r.two r.one 1
play_swap (read master o) r = refl
play_swap (read slave o) r = refl
play_swap (write master o v) r = refl
play_swap (write slave o v) r = refl

pub plays_swap : (xs : List Step) (r : Records) → plays_swapped xs r ≡ swapped_records (plays_bytes xs (swapped_records r))
plays_swap [] r = refl
plays_swap (x ∷ xs) r = ap (plays_swapped xs) (play_swap x r) ∙ plays_swap xs (swapped_records (play_bytes x (swapped_records r)))

-- The first part of demand 3 with the slave's record first.
pub demand3_swapped : Demand3Swapped
demand3_swapped r pre mid s st four z z' =
    let q = swapped_records r in
    let e = demand3_records q pre mid (record { one = s.two; two = s.one }) st four z z' in
    let left = plays_bytes (steps pre mid (devices_of q)) q in
    subst ExchangedSwapped (sym (plays_swap (steps pre mid (devices_of q)) r))
    (record {
      sound = record { one = e.sound.two; two = e.sound.one };
      exchanged = e.exchanged;
      after = λ n. ap (λ (x : Records). swapped (devices_of x)) (pair_left_swap left.one left.two n) ∙ e.after n;
    })
