-- A word that is shifted in, most significant of b bits first: after c bits the register holds the top c of its b bits.
use mathlib.Core.Path.{◌≡◌, refl, ap, ◌∙◌}
use Prim.Native.Nat.{ℕ, zero, suc, ◌+◌, ◌-◌, ◌*◌, ◌/◌, ◌%◌, ◌^◌, ◌≤◌, ◌<◌}
use native.Mathlib.Nat.{mod-one, mod-lt, div-one, sub_self, zero-lt-suc, not-suc-le-zero, le_of_suc-le-suc, mod-eq_of_lt, lt_of_lt_of_le}
use native.Mathlib.Omega.{arith}
use lib.Dec.{eqb}
use lib.Pow.{mod-pow-add, shr-shr, pow_mono, pow_pos}
use Rattle.registers.specs.Choose.{pick}
use Rattle.frames.specs.Bits.{bit_of, cut, shifted_in}

-- the top c of the b bits of w
unfoldable pub top : ℕ → ℕ → ℕ → ℕ
top b w c = w / 2 ^ (b - c) % 2 ^ c

pub top_zero : (b w : ℕ) → top b w 0 ≡ 0
unfolding top
top_zero b w = mod-one (w / 2 ^ (b - 0))

pub top_full : (b w : ℕ) → top b w b ≡ cut b w
unfolding top
top_full b w = rw (sub_self b, div-one w)

one_or_none : (n : ℕ) → n < 2 → pick (eqb n 1) 1 0 ≡ n
one_or_none zero h = refl
one_or_none (suc zero) h = refl
one_or_none (suc (suc n)) h = absurd (not-suc-le-zero (le_of_suc-le-suc (le_of_suc-le-suc h)))

top_suc : (b w c : ℕ) → c < b → top b w (c + 1) ≡ 2 * top b w c + pick (bit_of b w c) 1 0
unfolding top bit_of
top_suc b w c h =
    let r = b - 1 - c in
    let x = w / 2 ^ r in
    let e : b - c ≡ r + 1 = omega arith in
    let f : b - (c + 1) ≡ r = omega arith in
    let low : pick (eqb (x % 2) 1) 1 0 ≡ x % 2 = one_or_none (x % 2) (mod-lt x (zero-lt-suc 1)) in
    let split : x % 2 ^ (c + 1) ≡ (x / 2 ^ 1 % 2 ^ c) * 2 ^ 1 + x % 2 ^ 1 = mod-pow-add x c 1 in
    rw (e, f, ← shr-shr w r 1, low) (split ∙ omega arith)

top_small : (b w c : ℕ) → c ≤ 16 → top b w c < 65536
unfolding top
top_small b w c h = lt_of_lt_of_le (mod-lt (w / 2 ^ (b - c)) (pow_pos c)) (pow_mono {j = 16} h)

-- the next bit shifted in
pub top_next : (b w c : ℕ) → c < b → b ≤ 16 → shifted_in (top b w c) (bit_of b w c) ≡ top b w (c + 1)
unfolding shifted_in
top_next b w c h k = rw (← top_suc b w c h) (mod-eq_of_lt (top_small b w (c + 1) (omega arith)))

-- the last bit shifted in
pub top_last : (b w c : ℕ) → c + 1 ≡ b → b ≤ 16 → shifted_in (top b w c) (bit_of b w c) ≡ cut b w
top_last b w c e k = top_next b w c (omega arith) k ∙ ap (top b w) e ∙ top_full b w
