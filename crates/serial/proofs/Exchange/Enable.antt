-- The CR1 write that sets SSE and nothing else.
use Prim.Native.Nat.{ℕ, ◌+◌, ◌*◌, ◌/◌, ◌%◌, ◌≤◌, ◌<◌}
use mathlib.Core.Path.{◌≡◌, sym, ap, ◌∙◌}
use mathlib.Core.Bool.{Bool, true, false, and-false}
use native.Mathlib.Omega.{arith}
use native.Mathlib.Nat.{mod-eq_of_lt, mod-lt, zero-lt-suc, div-eq_of_lt-le}
use borrow.Author.Tests.{ne_eqb, lt-leb, eqb-false}
use Rattle.registers.specs.Bits.{bit_at}
use Rattle.registers.specs.Model.{Model}
use Rattle.registers.specs.Offsets.{register_of}
use Rattle.registers.specs.Settings.{settings_of, enabled_of, permitted_of, divisor_of, settings_by}
use Rattle.registers.specs.Access.{write_model, write_refusal, cr1_written, cr1_rule}
use Rattle.registers.specs.declared.Control.{Control}
use Rattle.serial.specs.Editions.{switched_on}

quarter_twice : (x : ℕ) → x / 4 ≡ x / 2 / 2
quarter_twice x = omega arith

eighth : (x : ℕ) → x / 8 ≡ x / 4 / 2
eighth x = omega arith

quarter : (x a r : ℕ) → x ≡ 4 * a + r → r < 2 → (x + 2) / 4 ≡ a
quarter x a r e l = div-eq_of_lt-le 4 (omega arith) (omega arith)

split_below : (x : ℕ) → x ≤ 15 → (x / 2 % 2 ≡ 1 → ⊥) → x ≡ 4 * (x / 4) + x % 2
split_below x l n =
    let a : x / 2 ≡ 2 * (x / 2 / 2) = omega arith in
    let b : x / 2 / 2 ≡ x / 4 = sym (quarter_twice x) in
    omega arith

module _ (c : Control) (small : c.cr1 ≤ 15) (off : enabled_of c ≡ false) where
  bit_off : c.cr1 / 2 % 2 ≡ 1 → ⊥
  unfolding enabled_of
  bit_off = eqb-false (c.cr1 / 2 % 2) 1 off

  fits_four : c.cr1 + 2 < 16
  fits_four = let b = bit_off in omega arith

  pub same-loopback : (c.cr1 + 2) / 1 % 2 ≡ c.cr1 / 1 % 2
  same-loopback = omega arith

  -- CR1 is four times its upper half, and its low bit
  split : c.cr1 ≡ 4 * (c.cr1 / 4) + c.cr1 % 2
  split = split_below c.cr1 small bit_off

  same_upper : (c.cr1 + 2) / 4 ≡ c.cr1 / 4
  same_upper = quarter c.cr1 (c.cr1 / 4) (c.cr1 % 2) split (mod-lt c.cr1 (zero-lt-suc 1))

  pub same_role : (c.cr1 + 2) / 4 % 2 ≡ c.cr1 / 4 % 2
  same_role = ap (λ (x : ℕ). x % 2) same_upper

  same_output : (c.cr1 + 2) / 8 % 2 ≡ c.cr1 / 8 % 2
  same_output = ap (λ (x : ℕ). x % 2) (eighth (c.cr1 + 2) ∙ ap (λ (x : ℕ). x / 2) same_upper ∙ sym (eighth c.cr1))

  now_on : (c.cr1 + 2) / 2 % 2 ≡ 1
  now_on = let b = bit_off in omega arith

  pub settings_on : settings_of (switched_on c)
      ≡ settings_by (settings_of c).format (settings_of c).phase (settings_of c).polarity (settings_of c).bits (settings_of c).divisor (settings_of c).slave (settings_of c).sod (settings_of c).loopback true (settings_of c).edition2
  unfolding settings_of divisor_of enabled_of
  settings_on = rw (same-loopback, same_role, same_output, now_on)

pub control_on : (m : Model) (active : Bool) → active ≡ false → m.control.cr1 ≤ 15 → enabled_of m.control ≡ false → permitted_of m.control.cr0 ≡ true → (m.control.cpsr ≡ 0 → ⊥)
    → (write_model m active 0x04 (m.control.cr1 + 2)).control ≡ switched_on m.control
unfolding write_model write_refusal register_of cr1_rule cr1_written
control_on m active idle small off good divided =
    let c = m.control in
    let f = fits_four c small off in
    let low : (c.cr1 + 2) % 16 ≡ c.cr1 + 2 = mod-eq_of_lt f in
    rw (lt-leb 16 (c.cr1 + 2) f, idle, good, ne_eqb c.cpsr 0 divided, and-false (bit_at (c.cr1 + 2) 1), low)
