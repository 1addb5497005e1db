-- The slot tables read at the slots of a bit: the event, and the levels shown.
use Prim.Native.Nat.{ℕ, suc, ◌+◌, ◌-◌, ◌*◌, ◌/◌, ◌%◌, ◌<◌}
use mathlib.Core.Path.{◌≡◌, refl}
use mathlib.Core.Bool.{Bool, true, false, not, and-false}
use native.Mathlib.Omega.{arith}
use lib.Dec.{leb, eqb}
use borrow.Author.Tests.{eq-eqb, ne_eqb, lt-ltb, le-ltb, le-leb, lt-leb}
use Rattle.registers.specs.Time.{slots}
use Rattle.registers.specs.Choose.{pick}
use Rattle.frames.specs.Slots.{motorola_event, ti_event, microwire_event, motorola_levels, ti_levels, microwire_levels}
use Rattle.frames.specs.declared.slots.Event.TheVariants.{Drive, Capture, Chain, JoinDrive, Release, Pause}
use Rattle.frames.specs.declared.slots.Levels.{Levels}

-- Motorola -------------------------------------------------------------------------------------------------------------

module _ (phase : Bool) (b n : ℕ) where
  pub motorola_drive : (i : ℕ) → n ≡ 2 * i + 1 → i < b → motorola_event phase b n ≡ Drive i
  unfolding motorola_event
  motorola_drive i e l =
      let q : n / 2 ≡ i = omega arith in
      rw (ne_eqb n 0 (omega arith), le-leb n (2 * b) (omega arith), eq-eqb (n % 2) 1 (omega arith), q)

  pub motorola_capture : (i : ℕ) → n ≡ 2 * i + 2 → i < b → motorola_event phase b n ≡ Capture
  unfolding motorola_event
  motorola_capture i e l = rw (ne_eqb n 0 (omega arith), le-leb n (2 * b) (omega arith), ne_eqb (n % 2) 1 (omega arith))

  pub motorola_last : n ≡ 2 * b + 1 → motorola_event phase b n ≡ pick phase (Chain (slots 1)) Pause
  unfolding motorola_event
  motorola_last e = rw (ne_eqb n 0 (omega arith), lt-leb n (2 * b) (omega arith), eq-eqb n (2 * b + 1) e)

  pub motorola_release : n ≡ 2 * b + 2 → motorola_event phase b n ≡ Release
  unfolding motorola_event
  motorola_release e = rw (ne_eqb n 0 (omega arith), lt-leb n (2 * b) (omega arith), ne_eqb n (2 * b + 1) (omega arith), eq-eqb n (2 * b + 2) e)

abbrev pub low_at : Bool → Levels
low_at c = record { clk = c; fss = false; released = false }

-- the clock is active in the bit's second slot with SPH 0, in its first with SPH 1
pub levels_drive : (phase : Bool) (b n i : ℕ) → n ≡ 2 * i + 1 → i < b → motorola_levels phase b n ≡ low_at phase
unfolding motorola_levels
levels_drive true b n i e l = rw (eq-eqb (n % 2) 1 (omega arith), le-leb n (2 * b) (omega arith))
levels_drive false b n i e l = rw (ne_eqb (n % 2) 0 (omega arith))

pub levels_capture : (phase : Bool) (b n i : ℕ) → n ≡ 2 * i + 2 → i < b → motorola_levels phase b n ≡ low_at (not phase)
unfolding motorola_levels
levels_capture true b n i e l = rw (ne_eqb (n % 2) 1 (omega arith))
levels_capture false b n i e l = rw (eq-eqb (n % 2) 0 (omega arith), lt-ltb 0 n (omega arith), le-leb n (2 * b) (omega arith))

pub levels_last : (phase : Bool) (b n : ℕ) → n ≡ 2 * b + 1 → motorola_levels phase b n ≡ low_at false
unfolding motorola_levels
levels_last true b n e = rw (lt-leb n (2 * b) (omega arith), and-false (eqb (n % 2) 1))
levels_last false b n e = rw (ne_eqb (n % 2) 0 (omega arith))

pub levels_first : (phase : Bool) (b : ℕ) → motorola_levels phase b 0 ≡ low_at false
unfolding motorola_levels
levels_first true b = refl
levels_first false b = refl

-- TI -------------------------------------------------------------------------------------------------------------------

module _ (b n : ℕ) where
  pub ti_drive : (i : ℕ) → n ≡ 2 * i + 2 → 0 < i → suc i < b → ti_event b n ≡ Drive i
  unfolding ti_event
  ti_drive i e l k =
      let q : n / 2 - 1 ≡ i = omega arith in
      rw (ne_eqb n 0 (omega arith), ne_eqb n 1 (omega arith), ne_eqb n 2 (omega arith), ne_eqb n (2 * b) (omega arith), eq-eqb (n % 2) 0 (omega arith), q)

  pub ti_capture : (i : ℕ) → n ≡ 2 * i + 3 → ti_event b n ≡ Capture
  unfolding ti_event
  ti_capture i e =
      rw (ne_eqb n 0 (omega arith), ne_eqb n 1 (omega arith), ne_eqb n 2 (omega arith), ne_eqb n (2 * b) (omega arith), ne_eqb (n % 2) 0 (omega arith))

  pub ti_last : n ≡ 2 * b → 1 < b → ti_event b n ≡ JoinDrive (b - 1)
  unfolding ti_event
  ti_last e l = rw (ne_eqb n 0 (omega arith), ne_eqb n 1 (omega arith), ne_eqb n 2 (omega arith), eq-eqb n (2 * b) e)

pub ti_levels_even : (joined : Bool) (n i : ℕ) → n ≡ 2 * i + 2 → ti_levels joined n ≡ low_at true
unfolding ti_levels
ti_levels_even joined n i e = rw (eq-eqb (n % 2) 0 (omega arith), le-ltb n 2 (omega arith))

pub ti_levels_odd : (joined : Bool) (n i : ℕ) → n ≡ 2 * i + 3 → ti_levels joined n ≡ low_at false
unfolding ti_levels
ti_levels_odd joined n i e = rw (ne_eqb (n % 2) 0 (omega arith), le-ltb n 2 (omega arith))

-- Microwire -----------------------------------------------------------------------------------------------------------

module _ (b n : ℕ) where
  pub microwire_drive : (i : ℕ) → n ≡ 2 * i → 0 < i → i < 8 → microwire_event b n ≡ Drive i
  unfolding microwire_event
  microwire_drive i e l m =
      let q : n / 2 ≡ i = omega arith in
      rw (ne_eqb n 0 (omega arith), lt-ltb n 16 (omega arith), eq-eqb (n % 2) 0 (omega arith), q)

  pub microwire_hold : (i : ℕ) → n ≡ 2 * i + 1 → i < 8 → microwire_event b n ≡ Pause
  unfolding microwire_event
  microwire_hold i e m = rw (ne_eqb n 0 (omega arith), lt-ltb n 16 (omega arith), ne_eqb (n % 2) 0 (omega arith))

  pub microwire_wait : n ≡ 17 → microwire_event b n ≡ Pause
  unfolding microwire_event
  microwire_wait e =
      rw (ne_eqb n 0 (omega arith), le-ltb n 16 (omega arith), ne_eqb n 16 (omega arith), lt-ltb n (18 + 2 * b) (omega arith), lt-leb 19 n (omega arith))

  pub microwire-low : (j : ℕ) → n ≡ 2 * j + 18 → j < b → microwire_event b n ≡ Pause
  unfolding microwire_event
  microwire-low j e m =
      rw (ne_eqb n 0 (omega arith), le-ltb n 16 (omega arith), ne_eqb n 16 (omega arith), lt-ltb n (18 + 2 * b) (omega arith), ne_eqb (n % 2) 1 (omega arith), and-false (leb 19 n))

  pub microwire_capture : (j : ℕ) → n ≡ 2 * j + 19 → j < b → microwire_event b n ≡ Capture
  unfolding microwire_event
  microwire_capture j e m =
      rw (ne_eqb n 0 (omega arith), le-ltb n 16 (omega arith), ne_eqb n 16 (omega arith), lt-ltb n (18 + 2 * b) (omega arith), le-leb 19 n (omega arith), eq-eqb (n % 2) 1 (omega arith))

  pub microwire_chain : n ≡ 2 * b + 18 → microwire_event b n ≡ Chain (slots 0)
  unfolding microwire_event
  microwire_chain e =
      rw (ne_eqb n 0 (omega arith), le-ltb n 16 (omega arith), ne_eqb n 16 (omega arith), le-ltb n (18 + 2 * b) (omega arith), eq-eqb n (18 + 2 * b) (omega arith))

  pub microwire_release : n ≡ 2 * b + 19 → microwire_event b n ≡ Release
  unfolding microwire_event
  microwire_release e =
      rw (ne_eqb n 0 (omega arith), le-ltb n 16 (omega arith), ne_eqb n 16 (omega arith), le-ltb n (18 + 2 * b) (omega arith), ne_eqb n (18 + 2 * b) (omega arith), eq-eqb n (19 + 2 * b) (omega arith))

abbrev pub low_levels : Bool → Bool → Levels
low_levels c r = record { clk = c; fss = false; released = r }

pub microwire_levels_even : (n i : ℕ) → n ≡ 2 * i → i < 8 → microwire_levels n ≡ low_levels false false
unfolding microwire_levels
microwire_levels_even n i e l = rw (ne_eqb (n % 2) 1 (omega arith), lt-leb 16 n (omega arith))

pub microwire_levels_odd : (n i : ℕ) → n ≡ 2 * i + 1 → i < 8 → microwire_levels n ≡ low_levels true false
unfolding microwire_levels
microwire_levels_odd n i e l = rw (eq-eqb (n % 2) 1 (omega arith), lt-leb 16 n (omega arith))

pub microwire_levels_low : (n i : ℕ) → n ≡ 2 * i + 16 → microwire_levels n ≡ low_levels false true
unfolding microwire_levels
microwire_levels_low n i e = rw (ne_eqb (n % 2) 1 (omega arith), le-leb 16 n (omega arith))

pub microwire_levels_high : (n i : ℕ) → n ≡ 2 * i + 17 → microwire_levels n ≡ low_levels true true
unfolding microwire_levels
microwire_levels_high n i e = rw (eq-eqb (n % 2) 1 (omega arith), le-leb 16 n (omega arith))
