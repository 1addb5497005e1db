-- The loops over a record's bytes, each with a law for its start, a turn and its end, and the parts that make up a record.
use Prim.Native.Nat.{ℕ, zero, suc, ◌+◌, ◌*◌, ◌/◌, ◌%◌, ◌≤◌, ◌<◌}
use mathlib.Core.Path.{◌≡◌, refl, sym, ◌∙◌, ap, subst}
use mathlib.Core.List.{List, [], ◌∷◌, ◌++◌, map, append_assoc, append-nil}
use mathlib.Core.Bool.{Bool, true, false, ◌&&◌}
use native.Mathlib.Omega.{arith}
use native.Mathlib.Numerals.{add-one}
use lib.Dec.{eqb}
use mir.Val.{bool_byte}
use lib.ListN.{length, get_or, take, drop, set, replicate, length-set, length-append, drop_of_length-le}
use lib.Seq.{drop-drop, take_all, take_at, length-take-le, drop-append-add, paste, paste-zero, paste-suc, length-paste}
use denote.Param.Members.{Mut, Called}
use Rattle.std.specs.Array.{IsFromFnResultFrom, IsFromFnResult}
use Rattle.std.specs.List.{range_with_len}
use Rattle.std.specs.Option.{is_some}
use Rattle.std.specs.Bool.{then_some}
use Rattle.std.specs.Str.{bytes_eq}
use Rattle.std.proofs.lemmas.List.FromFn.{fill_by_all}
use Rattle.registers.specs.Fields.{fields_of}
use Rattle.registers.specs.Model.{Model}
use Rattle.registers.specs.declared.fields.Fields.{Fields}
use Rattle.device_record.specs.Record.{low, high, WordOf, pin_byte, register_bytes, engine_bytes, level_bytes, count_bytes, eq_list, PutAt, word_at, words_at, word_bytes, state_bytes, queue_bytes}
use Rattle.device_record.proofs.RoundTrip.{length_state, length_parts}
use Rattle.frames.specs.Lines.{byte_of}
use Rattle.serial.specs.declared.History.{History}
use Rattle.frames.specs.declared.engine.Engine.{Engine}
use Rattle.frames.specs.declared.lines.Lines.{Lines}

-- tests joined one by one

pub and-true : (a : Bool) → (a && true) ≡ a
and-true true = refl
and-true false = refl

-- what is a byte of a word is not cut

low_fits : (w x : ℕ) → low w ≡ x → x % 256 ≡ x
low_fits w x e = omega arith

high_fits : (w x : ℕ) → high w ≡ x → x % 256 ≡ x
high_fits w x e = omega arith

-- two low bytes of a number are those of its low word
low_word : (n : ℕ) → low (n % 0x10000) ≡ low n
low_word n = omega arith

high_word : (n : ℕ) → high (n % 0x10000) ≡ high n
high_word n = omega arith

-- the words of a state, as its bytes
pub state_law : (f : Fields) (e : Engine) (h : History) (l : Lines) (w₁ w₂ w₃ w₄ w₅ w₆ w₇ w₈ w₉ w₁₀ newest middle oldest lines : ℕ)
    → newest ≡ pin_byte h.newest → middle ≡ pin_byte h.middle → oldest ≡ pin_byte h.oldest → lines ≡ byte_of l
    → WordOf (f.control.cr1 % 256) f.control.cpsr w₁ → WordOf f.masks.imsc f.masks.dmacr w₂ → WordOf (bool_byte f.ror) (bool_byte f.timeout.rt) w₃
    → WordOf (bool_byte e.frame) (bool_byte e.selected) w₄ → WordOf (bool_byte e.mark) e.shift.captured w₅ → WordOf (e.slot.0 % 256) (bool_byte e.shift.level) w₆
    → WordOf newest middle w₇ → WordOf oldest lines w₈ → WordOf f.waiting f.held w₉ → WordOf (bool_byte f.control.edition2) 0 w₁₀
    → word_bytes (f.control.cr0 ∷ w₁ ∷ w₂ ∷ w₃ ∷ f.timeout.count.0 % 0x10000 ∷ f.timeout.count.0 / 0x10000 ∷ w₄ ∷ w₅ ∷ w₆ ∷ e.elapsed.0 % 0x10000 ∷ e.shift.sending ∷ e.shift.receiving ∷ w₇ ∷ w₈ ∷ w₉ ∷ w₁₀ ∷ []) ≡ state_bytes f e h l
unfolding word_bytes state_bytes register_bytes engine_bytes level_bytes count_bytes
state_law f e h l w₁ w₂ w₃ w₄ w₅ w₆ w₇ w₈ w₉ w₁₀ newest middle oldest lines n m o j k₁ k₂ k₃ k₄ k₅ k₆ k₇ k₈ k₉ k₁₀ =
    rw (k₁.first, k₁.second, k₂.first, k₂.second, k₃.first, k₃.second, k₄.first, k₄.second, k₅.first, k₅.second, k₆.first, k₆.second, k₇.first, k₇.second, k₈.first, k₈.second, k₉.first, k₉.second, k₁₀.first, k₁₀.second, n, m, o, j, low_word f.timeout.count.0, high_word f.timeout.count.0, low_word e.elapsed.0, high_word e.elapsed.0, high_fits w₁ f.control.cpsr k₁.second, low_fits w₂ f.masks.imsc k₂.first, high_fits w₂ f.masks.dmacr k₂.second, high_fits w₅ e.shift.captured k₅.second)

-- `to` is `from` with the first i bytes of `part` from `at` on
pub record Putting (from : List ℕ) (at : ℕ) (part to : List ℕ) (i : ℕ) : Type 0 where
  pub within : i ≤ length part
  pub room : at + length part ≤ length from
  pub same : length to ≡ length from
  pub front : to ≡ paste from at part i

pub put_start : (from : List ℕ) (at : ℕ) (part : List ℕ) → at + length part ≤ length from → Putting from at part from 0
put_start from at part h = record { within = omega arith; room = h; same = refl; front = paste-zero from at part }

module _ (from : List ℕ) (at : ℕ) (part to : List ℕ) (i : ℕ) (k : Putting from at part to i) where
  put_turn : i < length part → Putting from at part (set to (at + i) (get_or part i 0)) (i + 1)
  put_turn h =
      record {
        within = omega arith;
        room = k.room;
        same = length-set to (at + i) (get_or part i 0) ∙ k.same;
        front =
            ap (λ (l : List ℕ). set l (at + i) (get_or part i 0)) k.front
            ∙ (paste-suc from at part i 0 (let r = k.room in omega arith) h
            ∙ ap (λ (n : ℕ). paste from at part n) (sym (add-one i)));
      }

  pub put_end : length part ≤ i → PutAt from at part to
  put_end h =
      let w = k.within in
      let e : i ≡ length part = omega arith in
      record { put = k.front ∙ ap (λ (n : ℕ). paste from at part n) e }

-- the bytes of words

pub length-words : (ws : List ℕ) → length (word_bytes ws) ≡ 2 * length ws
unfolding word_bytes
length-words [] = refl
length-words (w ∷ ws) = let h = length-words ws in omega arith

byte_low : (ws : List ℕ) (i : ℕ) → i < length ws → get_or (word_bytes ws) (2 * i) 0 ≡ low (get_or ws i 0)
unfolding word_bytes
byte_low [] i h = absurd (omega arith)
byte_low (w ∷ ws) zero h = refl
byte_low (w ∷ ws) (suc i) h = let e : 2 * suc i ≡ suc (suc (2 * i)) = omega arith in rw e (byte_low ws i (omega arith))

byte_high : (ws : List ℕ) (i : ℕ) → i < length ws → get_or (word_bytes ws) (2 * i + 1) 0 ≡ high (get_or ws i 0)
unfolding word_bytes
byte_high [] i h = absurd (omega arith)
byte_high (w ∷ ws) zero h = refl
byte_high (w ∷ ws) (suc i) h = let e : 2 * suc i + 1 ≡ suc (suc (2 * i + 1)) = omega arith in rw e (byte_high ws i (omega arith))

-- a turn puts the two bytes of a word
pub words_turn : (from : List ℕ) (at : ℕ) (ws to : List ℕ) (i : ℕ) → Putting from at (word_bytes ws) to (2 * i) → i < length ws → Putting from at (word_bytes ws) (set (set to (at + 2 * i) (low (get_or ws i 0))) (at + 2 * i + 1) (high (get_or ws i 0))) (2 * (i + 1))
words_turn from at ws to i k h =
    let l = length-words ws in
    let first = rw (byte_low ws i h) at (put_turn from at (word_bytes ws) to (2 * i) k (omega arith)) in
    let second = rw (byte_high ws i h) at (put_turn from at (word_bytes ws) (set to (at + 2 * i) (low (get_or ws i 0))) (2 * i + 1) first (omega arith)) in
    let e : at + (2 * i + 1) ≡ at + 2 * i + 1 = omega arith in
    let n : 2 * i + 1 + 1 ≡ 2 * (i + 1) = omega arith in
    rw (e, n) at second

-- what `array::from_fn` makes with a closure that answers h x at x and stays as it is
module _ {F : Type 0} {g : Mut F (ℕ × Unit {0}) ℕ} (h : ℕ → ℕ) where
  made_at : (f : F) (ys : List ℕ) (i n : ℕ) → ((x y : ℕ) (q : F) → Called g f (x, tt) y q → (q ≡ f) × (y ≡ h x)) → IsFromFnResultFrom g f ys i n
      → (k j : ℕ) → k < n → i + k ≡ j → get_or ys j 0 ≡ h j
  made_at f ys i zero step r k j l e = absurd (omega arith)
  made_at f ys i (suc n) step (q, y, place, called, rest) zero j l e =
      let at : i ≡ j = omega arith in
      rw (← at) (place.1 0 ∙ (step i y q called).1)
  made_at f ys i (suc n) step (q, y, place, called, rest) (suc k) j l e =
      let same = subst (λ (s : F). IsFromFnResultFrom g s ys (i + 1) n) (step i y q called).0 rest in
      made_at f ys (i + 1) n step same k j (omega arith) (omega arith)

  pub made : {f : F} {ys : List ℕ} {n : ℕ} → IsFromFnResult g f ys n → ((x y : ℕ) (q : F) → Called g f (x, tt) y q → (q ≡ f) × (y ≡ h x)) → ys ≡ map h (range_with_len 0 n)
  made {f} {ys} {n} r step = fill_by_all h ys n 0 r.long (λ k l. made_at f ys 0 n step r.each k k l (omega arith))

-- eight words, each read at its place

module _ (b : List ℕ) (i : ℕ) where
  word_there : (k : ℕ) → k < 8 → get_or (words_at b i) k 0 ≡ word_at b (i + 2 * k)
  unfolding words_at
  word_there zero h = let e : i ≡ i + 0 = omega arith in ap (word_at b) e
  word_there (suc zero) h = refl
  word_there (suc (suc zero)) h = refl
  word_there (suc (suc (suc zero))) h = refl
  word_there (suc (suc (suc (suc zero)))) h = refl
  word_there (suc (suc (suc (suc (suc zero))))) h = refl
  word_there (suc (suc (suc (suc (suc (suc zero)))))) h = refl
  word_there (suc (suc (suc (suc (suc (suc (suc zero))))))) h = refl
  word_there (suc (suc (suc (suc (suc (suc (suc (suc k)))))))) h = absurd (omega arith)

  length_eight : length (words_at b i) ≡ 8
  unfolding words_at
  length_eight = refl

  pub words_read : words_at b i ≡ map (λ k. word_at b (i + 2 * k)) (range_with_len 0 8)
  words_read = fill_by_all (λ k. word_at b (i + 2 * k)) (words_at b i) 8 0 length_eight word_there

-- a value behind a test
pub is_some_lem : {A : Type 0} (t : Bool) (x : A) → is_some (then_some t x) ≡ t
is_some_lem true x = refl
is_some_lem false x = refl

-- two lists are compared

pub eq_list_lem : (xs ys : List ℕ) → bytes_eq xs ys ≡ eq_list xs ys
unfolding eq_list
eq_list_lem [] [] = refl
eq_list_lem [] (y ∷ ys) = refl
eq_list_lem (x ∷ xs) [] = refl
eq_list_lem (x ∷ xs) (y ∷ ys) = ap (λ (t : Bool). eqb x y && t) (eq_list_lem xs ys)

-- parts put one after the other

put_length : {o a e : List ℕ} {at : ℕ} → PutAt o at a e → at + length a ≤ length o → length e ≡ length o
put_length {o} {a} {e} {at} p h = ap length p.put ∙ length-paste o at a (length a) h (omega arith)

put_is : {o a e : List ℕ} {at : ℕ} → PutAt o at a e → e ≡ (take at o ++ a) ++ drop (at + length a) o
put_is {o} {a} {e} {at} p = p.put ∙ rw (take_all (length a) a (omega arith))

put_join : {o a b e₁ e₂ : List ℕ} {at next : ℕ} → PutAt o at a e₁ → PutAt e₁ next b e₂ → next ≡ at + length a → next ≤ length o → PutAt o at (a ++ b) e₂
put_join {o} {a} {b} {e₁} {e₂} {at} {next} p q k h =
    let front : List ℕ = take at o ++ a in
    let long : length front ≡ next = length-append (take at o) a ∙ (rw (length-take-le at o (omega arith)) (sym k)) in
    let was : e₁ ≡ front ++ drop next o = rw k (put_is p) in
    let joined : e₂ ≡ (front ++ b) ++ drop (next + length b) o = put_is q ∙ rw (was, take_at front (drop next o) next long, drop_past front o next (length b) long) in
    let after : next + length b ≡ at + (length a + length b) = omega arith in
    record {
      put =
          joined
          ∙ (rw (append_assoc (take at o) a b, take_all (length (a ++ b)) (a ++ b) (omega arith), length-append a b)
          (ap (λ (n : ℕ). (take at o ++ (a ++ b)) ++ drop n o) after));
    }
  where
    drop_past : (xs ys : List ℕ) (n m : ℕ) → length xs ≡ n → drop (n + m) (xs ++ drop n ys) ≡ drop (n + m) ys
    drop_past xs ys n m l = rw (← l) (drop-append-add xs (drop (length xs) ys) m ∙ drop-drop m (length xs) ys)

-- a part as long as the record is the record
put_whole : {o a e : List ℕ} → PutAt o 0 a e → length a ≡ length o → e ≡ a
put_whole {o} {a} {e} p l = put_is p ∙ (ap (λ (r : List ℕ). a ++ r) (drop_of_length-le o {i = 0 + length a} (omega arith)) ∙ append-nil a)

module _ {o e₁ e₂ e₃ e₄ : List ℕ} {f : Fields} (ws : List ℕ) (m : Model) (e : Engine) (h : History) (l : Lines) (state : word_bytes ws ≡ state_bytes f e h l) (k : f ≡ fields_of m) where
  pub put_record : PutAt o 0 (word_bytes ws) e₁ → PutAt e₁ 32 (word_bytes f.tx) e₂ → PutAt e₂ 48 (word_bytes f.rx) e₃ → PutAt e₃ 64 (word_bytes (replicate 32 0)) e₄ → length o ≡ 128 → length f.tx ≡ 8 → length f.rx ≡ 8
      → e₄ ≡ state_bytes (fields_of m) e h l ++ queue_bytes (fields_of m)
  unfolding queue_bytes word_bytes
  put_record p q r s lo lt lr =
      let long : length (word_bytes ws) ≡ 32 = ap length state ∙ length_state f e h l in
      let tx = length-words f.tx in
      let rx = length-words f.rx in
      let l1 = put_length p (omega arith) in
      let l2 = put_length q (omega arith) in
      let all = put_join p (put_join q (put_join r s (omega arith) (omega arith)) (omega arith) (omega arith)) (omega arith) (omega arith) in
      put_whole (rw (state, k) at all) (length_parts m e h l ∙ sym lo)
