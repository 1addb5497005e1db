-- The laws of a queue's contents, on the values that the code makes. `long` says that the array has its eight places.
use Prim.Native.Nat.{ℕ, zero, suc, ◌+◌, ◌-◌, ◌≤◌, ◌<◌, min}
use mathlib.Core.Path.{◌≡◌, refl, sym, ap, ◌∙◌}
use mathlib.Core.List.{List, [], ◌∷◌, ◌++◌}
use native.Mathlib.Omega.{arith}
use native.Mathlib.Numerals.{add-one}
use native.Mathlib.Decide.{dec_lt}
use lib.ListN.{length, get_or, take, drop, set, length-take, length-drop, drop_of_length-le, get_or-eq_default, replicate}
use lib.Seq.{length-take-le, take_all, take-suc-set, get_or-set_other, get_or-take, drop-cons, take-append-le, get_or-drop}
use Rattle.std.specs.List.{copy_within}
use Rattle.std.proofs.lemmas.List.{set_at}
use borrow.Author.Tests.{lt-ltb}
use Rattle.queue.specs.declared.Queue.{Queue}
use Rattle.std.specs.Prelude.{Some, None}
use Rattle.queue.specs.Fifo.Inside.{contents_of, clean_intro, clean_elim}
use Rattle.queue.specs.Fifo.{contents, added, dropped, Empty, Count, Add, TakeOldest, Restored}

-- the count

pub count_below : (q : Queue) → length q.words ≡ 8 → q.count < 8 → length (contents q) ≡ q.count
count_below q long h = rw (contents_of q) (length-take-le q.count q.words (omega arith))

pub count_full : (q : Queue) → length q.words ≡ 8 → 8 ≤ q.count → length (contents q) ≡ 8
count_full q long h = rw (contents_of q, take_all q.count q.words (omega arith)) long

pub count_holds : (q : Queue) (n : ℕ) → length q.words ≡ 8 → n ≡ min q.count 8 → Count q n
count_holds q n long e = record { count = e ∙ rw (contents_of q, length-take, long); most = omega arith }

-- an empty queue

zeros : (n i : ℕ) → ◌≡◌ {A = ℕ} (get_or (replicate n 0) i 0) 0
zeros zero zero = refl
zeros zero (suc i) = refl
zeros (suc n) zero = refl
zeros (suc n) (suc i) = zeros n i

pub empty_holds : Empty (record { words = replicate 8 0; count = 0 })
empty_holds = record { holds = contents_of _; clean = clean_intro _ (λ i h. zeros 8 i) }

-- adding a word

pub added_full : (q : Queue) (w : ℕ) → length q.words ≡ 8 → 8 ≤ q.count → Add q w (Some w) q
unfolding added dropped
added_full q w long h =
    record {
      dropped = rw (count_full q long h);
      holds = rw (count_full q long h);
      clean = λ c. c;
    }

pub added_room : (q : Queue) (w : ℕ) → length q.words ≡ 8 → q.count < 8 → Add q w None (record { words = set q.words q.count w; count = q.count + 1 })
unfolding added dropped
added_room q w long h =
    record {
      dropped = rw (count_below q long h, lt-ltb q.count 8 h);
      holds = contents_of _ ∙ rw (count_below q long h, lt-ltb q.count 8 h, contents_of q, add-one, take-suc-set q.words q.count w (omega arith));
      clean = λ c. clean_intro _ (λ i p. get_or-set_other q.words q.count i w 0 (omega arith) ∙ clean_elim q c i (omega arith));
    }

-- taking the oldest word

-- the eight places after the oldest word went
pub shifted : (l m : List ℕ) → length l ≡ 8 → m ≡ copy_within l 1 8 0 → set m 7 0 ≡ drop 1 l ++ (0 ∷ [])
shifted [] m long h = absurd (omega arith)
shifted (x ∷ l) m long h =
    rw (h, take_all 7 l (omega arith), drop-cons (x ∷ l) 7 0 (omega arith), drop_of_length-le (x ∷ l) {i = 8} (omega arith)) (set_at l _ [] 0 7 (omega arith))

pad : (l : List ℕ) (i : ℕ) → get_or (l ++ (0 ∷ [])) i 0 ≡ get_or l i 0
pad [] zero = refl
pad [] (suc i) = refl
pad (x ∷ xs) zero = refl
pad (x ∷ xs) (suc i) = pad xs i

take_cons : (l : List ℕ) (n m : ℕ) → n ≡ m + 1 → 0 < length l → take n l ≡ get_or l 0 0 ∷ take m (drop 1 l)
take_cons [] n m p q = absurd (omega arith)
take_cons (x ∷ xs) n m p q = rw (p, add-one)

take-length : (l : List ℕ) (n : ℕ) → take (length (take n l)) l ≡ take n l
take-length [] zero = refl
take-length [] (suc n) = refl
take-length (x ∷ xs) zero = refl
take-length (x ∷ xs) (suc n) = ap (λ (t : List ℕ). x ∷ t) (take-length xs n)

contents_shifted : (l : List ℕ) (k n : ℕ) → length l ≡ 8 → n ≡ length (take k l) → (n ≡ 0 → ⊥) → take k l ≡ get_or l 0 0 ∷ take (n - 1) (drop 1 l)
contents_shifted l k n long e z = sym (take-length l k) ∙ (rw (← e) (take_cons l n (n - 1) (omega arith) (omega arith)))

past_end : (l : List ℕ) (k n i : ℕ) → length l ≡ 8 → n ≡ length (take k l) → n ≤ i → ((j : ℕ) → k ≤ j → get_or l j 0 ≡ 0) → get_or l i 0 ≡ 0
past_end l k n i long e h c = go (dec_lt i k)
  where
    go : Dec (i < k) → get_or l i 0 ≡ 0
    go (yes p) = get_or-eq_default l 0 {n = i} (let m = length-take k l in omega arith)
    go (no p) = c i (omega arith)

pub taken_some : (q : Queue) (ws : List ℕ) (n : ℕ) → length q.words ≡ 8 → n ≡ length (contents q) → (n ≡ 0 → ⊥) → ws ≡ drop 1 q.words ++ (0 ∷ []) → TakeOldest q (Some (get_or q.words 0 0)) (record { words = ws; count = n - 1 })
taken_some q ws n long e z s =
    let k : n ≡ length (take q.count q.words) = e ∙ ap length (contents_of q) in
    let m : n ≤ 8 = rw (k, length-take) (omega arith) in
    let h = contents_shifted q.words q.count n long k z in
    record {
      word = rw (contents_of q, h);
      holds = contents_of _ ∙ rw (contents_of q, s, take-append-le (n - 1) (drop 1 q.words) (0 ∷ []) (rw length-drop (omega arith)), h);
      clean = λ c. clean_intro _ (λ i p. rw (s, pad, get_or-drop) (past_end q.words q.count n (1 + i) long k (omega arith) (clean_elim q c)));
    }

-- the word at a place

pub word_held : (q : Queue) (i : ℕ) → i < length (contents q) → get_or q.words i 0 ≡ get_or (contents q) i 0
word_held q i h =
    let k = rw (contents_of q) at h in
    rw (contents_of q) (sym (get_or-take q.count q.words i 0 (let m = length-take q.count q.words in omega arith)))

-- restoring a queue from its eight places

pub restored_from : (words clean : List ℕ) (n : ℕ) → length clean ≡ 8 → take n clean ≡ take n words → ((i : ℕ) → n ≤ i → i < 8 → get_or clean i 0 ≡ 0) → Restored words n (record { words = clean; count = n })
restored_from words clean n long same past =
    record {
      holds = contents_of _ ∙ same;
      clean = clean_intro _ (λ i h. go i h (dec_lt i 8));
    }
  where
    go : (i : ℕ) → n ≤ i → Dec (i < 8) → get_or clean i 0 ≡ 0
    go i h (yes p) = past i h p
    go i h (no p) = get_or-eq_default clean 0 {n = i} (omega arith)
