-- Two wired devices: the lines of one, one cycle more, and the run of each with the pins that it reads.
use Rattle.std.specs.Prelude.{Option}
use Prim.Native.Nat.{ℕ, zero, suc, ◌+◌, ◌-◌, ◌<◌}
use mathlib.Core.Path.{◌≡◌, refl, sym, ap, ap₂, ◌∙◌}
use mathlib.Core.List.{List, ◌∷◌, ◌++◌, append-nil}
use native.Mathlib.Nat.{zero-add, suc-add}
use native.Mathlib.Numerals.{add-one}
use lib.ListN.{length, drop}
use Rattle.registers.specs.Choose.{words_of}
use Rattle.serial.specs.Cycle.{DeviceModel, device_of, completed_of, lost_of, cycle_of, CycleOf, after, completed_in, lost_in}
use Rattle.serial.specs.Lost.{highest, noted}
use Rattle.serial.specs.Pair.{wire, PairModel, pair_cycle, pair_run, swapped, pins_read, pair_lost, pair_of, PairRunIsRun}
use Rattle.serial.specs.Demand3.{received, LostOfDue}
use Rattle.serial.specs.Demand3.Which.{master, slave}
use Rattle.serial.proofs.Losses.{lost_in_run, Noting, noting_turn, words_join}
use Rattle.serial.proofs.Swap.{swap_run}
use Rattle.serial.specs.declared.Device.{Device}
use Rattle.serial.specs.declared.lost.Losses.{Losses}
use Rattle.serial.specs.declared.pair.Wired.{Wired}
use Rattle.frames.specs.declared.lines.Pins.{Pins}

device_lines : (d : Device) → (device_of d).lines ≡ d.lines
unfolding device_of
device_lines d = refl

-- The first device does what a run with the pins that it reads does; so does the second.

pub first_is_run : (n : ℕ) (p : PairModel) → (pair_run n p).first ≡ after p.first (pins_read n p)
unfolding pair_cycle
first_is_run zero p = refl
first_is_run (suc n) p = first_is_run n (pair_cycle p)

pins_join : (m n : ℕ) (p : PairModel) → pins_read (m + n) p ≡ pins_read m p ++ pins_read n (pair_run m p)
pins_join zero n p = rw zero-add
pins_join (suc m) n p = rw suc-add (ap (λ (l : List Pins). wire p.second.lines ∷ l) (pins_join m n (pair_cycle p)))

lost_join : (m n : ℕ) (p : PairModel) → pair_lost (m + n) p ≡ pair_lost m p ++ pair_lost n (pair_run m p)
lost_join m n p =
    ap (lost_in p.first) (pins_join m n p) ∙ words_join lost_of p.first (pins_read m p) (pins_read n (pair_run m p))
    ∙ ap (λ (d : DeviceModel). pair_lost m p ++ lost_in d (pins_read n (pair_run m p))) (sym (first_is_run m p))

pub pair_run_is_run : PairRunIsRun
pair_run_is_run =
    record {
      joined = lost_join;
      first = first_is_run;
      second = λ n p. sym (ap (λ (q : PairModel). q.first) (swap_run n p)) ∙ first_is_run n (swapped p);
    }

-- The words that each completes, by the definition of demand 3; those due that find no place.

master_completed : (n : ℕ) (p : PairModel) → received master n p ≡ completed_in p.first (pins_read n p)
unfolding pair_cycle
master_completed zero p = refl
master_completed (suc n) p = ap (λ (ws : List ℕ). completed_of p.first (wire p.second.lines) ++ ws) (master_completed n (pair_cycle p))

slave_completed : (n : ℕ) (p : PairModel) → received slave n p ≡ completed_in p.second (pins_read n (swapped p))
unfolding pair_cycle
slave_completed zero p = refl
slave_completed (suc n) p = ap (λ (ws : List ℕ). completed_of p.second (wire p.first.lines) ++ ws) (slave_completed n (pair_cycle p))

pub lost_of_due : LostOfDue
lost_of_due s n master g r = lost_in_run.lost g.first (pins_read n g) ∙ ap (drop (8 - length g.first.registers.rx)) (sym (master_completed n g) ∙ r.words)
lost_of_due s n slave g r = lost_in_run.lost g.second (pins_read n (swapped g)) ∙ ap (drop (8 - length g.second.registers.rx)) (sym (slave_completed n g) ∙ r.words)

-- One cycle more.

run_more : (n : ℕ) (p : PairModel) → pair_run (suc n) p ≡ pair_cycle (pair_run n p)
run_more zero p = refl
run_more (suc n) p = run_more n (pair_cycle p)

lost_more : (n : ℕ) (p : PairModel) → pair_lost (suc n) p ≡ pair_lost n p ++ lost_of (pair_run n p).first (wire (pair_run n p).second.lines)
lost_more n p =
    ap (λ (m : ℕ). pair_lost m p) (sym (add-one n)) ∙ lost_join n 1 p ∙ ap (λ (ws : List ℕ). pair_lost n p ++ ws) (append-nil (lost_of (pair_run n p).first (wire (pair_run n p).second.lines)))

-- After i cycles from p: the pair, and what each device lost in them.
pub record Pairing (p q : PairModel) (l m : Losses) (i : ℕ) : Type 0 where
  pub pair : q ≡ pair_run i p
  pub first : Noting (pair_lost i p) l i
  pub second : Noting (pair_lost i (swapped p)) m i

turn : (p q q' : PairModel) (l m l' m' : Losses) (i : ℕ) (x y : Option ℕ) → Pairing p q l m i → i < highest → q' ≡ pair_cycle q
    → words_of x ≡ lost_of q.first (wire q.second.lines) → words_of y ≡ lost_of q.second (wire q.first.lines) → l' ≡ noted l x → m' ≡ noted m y
    → Pairing p q' l' m' (i + 1)
turn p q q' l m l' m' i x y r h e f g j k =
    let s : swapped q ≡ pair_run i (swapped p) = ap swapped r.pair ∙ sym (swap_run i p) in
    rw (add-one i)
    (record {
      pair = e ∙ ap pair_cycle r.pair ∙ sym (run_more i p);
      first = rw (add-one i) at (noting_turn (pair_lost i p) (pair_lost (suc i) p) _ l l' i x r.first h j (f ∙ ap (λ (z : PairModel). lost_of z.first (wire z.second.lines)) r.pair) (lost_more i p));
      second = rw (add-one i) at (noting_turn (pair_lost i (swapped p)) (pair_lost (suc i) (swapped p)) _ m m' i y r.second h k (g ∙ ap (λ (z : PairModel). lost_of z.first (wire z.second.lines)) s) (lost_more i (swapped p)));
    })

-- One turn: a cycle of each device, and what it lost noted.
pub pairing_turn : (p : PairModel) (w w' : Wired) (l m l' m' : Losses) (i : ℕ) (x y : Pins) (a b : Option ℕ) → Pairing p (pair_of w) l m i → i < highest
    → x ≡ wire w.second.lines → y ≡ wire w.first.lines → CycleOf (device_of w.first) x a (device_of w'.first) → CycleOf (device_of w.second) y b (device_of w'.second)
    → l' ≡ noted l a → m' ≡ noted m b → Pairing p (pair_of w') l' m' (i + 1)
unfolding pair_cycle pair_of
pairing_turn p w w' l m l' m' i x y a b g h e f c k =
    let e' : x ≡ wire (device_of w.second).lines = e ∙ ap wire (sym (device_lines w.second)) in
    let f' : y ≡ wire (device_of w.first).lines = f ∙ ap wire (sym (device_lines w.first)) in
    turn p (pair_of w) (pair_of w') l m l' m' i a b g h
    (ap₂ (λ (t u : DeviceModel). record { first = t; second = u }) (c.device ∙ ap (cycle_of (device_of w.first)) e') (k.device ∙ ap (cycle_of (device_of w.second)) f'))
    (c.lost ∙ ap (lost_of (device_of w.first)) e') (k.lost ∙ ap (lost_of (device_of w.second)) f')
