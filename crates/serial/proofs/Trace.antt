-- Repeated steps, and traces: n steps of f lead from x to y, and every state on the way meets P.
use mathlib.Core.Path.{◌≡◌, refl, sym, ap, ◌∙◌, subst}
use Prim.Native.Nat.{ℕ, zero, suc, ◌+◌}
use native.Mathlib.Nat.{zero-add, suc-add}

abbrev pub iterate : {A : Type 0} → ℕ → (A → A) → A → A
iterate zero f x = x
iterate (suc n) f x = iterate n f (f x)

pub iterate_add : {A : Type 0} (f : A → A) (n k : ℕ) (x : A) → iterate (n + k) f x ≡ iterate k f (iterate n f x)
iterate_add f zero k x = rw zero-add
iterate_add f (suc n) k x = rw suc-add (iterate_add f n k (f x))

pub iterate_fixed : {A : Type 0} (f : A → A) (x : A) → f x ≡ x → (n : ℕ) → iterate n f x ≡ x
iterate_fixed f x e zero = refl
iterate_fixed f x e (suc n) = ap (iterate n f) e ∙ iterate_fixed f x e n

module _ {A : Type 0} (P : A → Type 0) (f : A → A) where
  pub data Trace : ℕ → A → A → Type 0 where
    none : {x : A} → Trace 0 x x
    more : {n : ℕ} {x y z : A} → P x → f x ≡ y → Trace n y z → Trace (suc n) x z

module _ {A : Type 0} {P : A → Type 0} {f : A → A} where
  pub trace_count : {n m : ℕ} {x y : A} → n ≡ m → Trace P f n x y → Trace P f m x y
  trace_count e t = rw e at t

  pub trace_end : {n : ℕ} {x y z : A} → Trace P f n x y → y ≡ z → Trace P f n x z
  trace_end t e = rw e at t

  pub trace_then : {n k : ℕ} {x y z : A} → Trace P f n x y → Trace P f k y z → Trace P f (n + k) x z
  trace_then {k = k} none u = trace_count (sym (zero-add k)) u
  trace_then {k = k} (more {n = n} p e t) u = trace_count (sym (suc-add n k)) (more p e (trace_then t u))

  pub trace_map : {Q : A → Type 0} {n : ℕ} {x y : A} → ((t : A) → P t → Q t) → Trace P f n x y → Trace Q f n x y
  trace_map w none = none
  trace_map w (more {x = x} p e t) = more (w x p) e (trace_map w t)

  -- where it leads
  pub trace_run : {n : ℕ} {x y : A} → Trace P f n x y → iterate n f x ≡ y
  trace_run none = refl
  trace_run (more {n = n} p e t) = ap (iterate n f) e ∙ trace_run t

  -- a trace to a state that stays says it of all states
  pub trace_ever : {n : ℕ} {x y : A} → Trace P f n x y → P y → f y ≡ y → (i : ℕ) → P (iterate i f x)
  trace_ever {y = y} none q e i = subst P (sym (iterate_fixed f y e i)) q
  trace_ever (more p r t) q e zero = p
  trace_ever (more p r t) q e (suc i) = subst (λ (z : A). P (iterate i f z)) (sym r) (trace_ever t q e i)
