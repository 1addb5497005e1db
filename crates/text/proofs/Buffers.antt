-- Lent buffers: what is written part by part, from the start on.
use Prim.Native.Nat.{ℕ, suc, ◌+◌, ◌≤◌, ◌<◌}
use mathlib.Core.Path.{◌≡◌, refl, sym, ap, ◌∙◌}
use mathlib.Core.List.{List, [], ◌∷◌, ◌++◌, map, append_assoc, append-nil}
use native.Mathlib.Omega.{arith}
use native.Mathlib.Numerals.{add-one}
use lib.ListN.{length, get_or, take, drop, set, length-set, length-append, length-map, take-append-drop}
use lib.Seq.{paste, paste-zero, paste-suc, length-paste, take-paste, drop-paste, take-length, length-take-le, drop-drop, set_split, append_snoc}
use Rattle.std.proofs.lemmas.List.{get_or-map}
use Rattle.text.specs.Text.{over, Put}

pub put_none : (before : List ℕ) (at : ℕ) → Put before at [] at before
put_none before at = record { next = omega arith; put = paste-zero before at [] }

pub put_one : (before : List ℕ) (at x : ℕ) → at < length before → Put before at (x ∷ []) (at + 1) (set before at x)
put_one before at x h = record { next = refl; put = rw (add-one at) (set_split before at x h ∙ sym (append_snoc (take at before) x (drop (suc at) before))) }

-- The first n places of a buffer are written; `rest` is still to come.
pub record Filled (all before now : List ℕ) (n : ℕ) (rest : List ℕ) : Type 0 where
  pub room : length all ≤ length before
  pub same : length now ≡ length before
  pub count : n + length rest ≡ length all
  pub parts : take n now ++ rest ≡ all
  pub past : drop n now ≡ drop n before

-- What is before `at` counts as written.
pub fill_begin : (before : List ℕ) (at : ℕ) (part : List ℕ) → at + length part ≤ length before → Filled (take at before ++ part) before before at part
fill_begin before at part h =
    let l = length-append (take at before) part in
    let t = length-take-le at before (omega arith) in
    record { room = omega arith; same = refl; count = omega arith; parts = refl; past = refl }

module _ (all before now : List ℕ) (n : ℕ) where
  pub fill_more : (part rest : List ℕ) → Filled all before now n (part ++ rest) → (next : ℕ) (after : List ℕ) → Put now n part next after → Filled all before after next rest
  fill_more part rest f next after p =
      let k : n + (length part + length rest) ≡ length all = rw (← length-append part rest) f.count in
      let w : n + length part ≤ length now = let r = f.room in let s = f.same in omega arith in
      record {
        room = f.room;
        same = ap length p.put ∙ length-paste now n part (length part) w (omega arith) ∙ f.same;
        count = let e = p.next in omega arith;
        parts =
            rw (p.next, p.put)
            (ap (λ (z : List ℕ). z ++ rest) (take-paste now n part (length part) (omega arith) (omega arith) ∙ ap (λ (z : List ℕ). take n now ++ z) (take-length part))
            ∙ append_assoc (take n now) part rest
            ∙ f.parts);
        past =
            rw (p.next, p.put)
            (drop-paste now n part (length part) (omega arith) (omega arith)
            ∙ sym (drop-drop (length part) n now)
            ∙ ap (drop (length part)) f.past
            ∙ drop-drop (length part) n before);
      }

  pub fill_end : Filled all before now n [] → now ≡ over all before
  unfolding over
  fill_end f =
      let e : n ≡ length all = let k = f.count in omega arith in
      let t : take n now ≡ all = sym (append-nil (take n now)) ∙ f.parts in
      sym (take-append-drop n now) ∙ rw (t, f.past, e)

pub fill_put : (before : List ℕ) (at : ℕ) (part now : List ℕ) (n : ℕ) → at ≤ length before → Filled (take at before ++ part) before now n [] → Put before at part n now
unfolding over
fill_put before at part now n h f =
    let l : length (take at before ++ part) ≡ at + length part = length-append (take at before) part ∙ ap (λ (k : ℕ). k + length part) (length-take-le at before h) in
    record { next = let c = f.count in omega arith; put = fill_end (take at before ++ part) before now n f ∙ rw (l, take-length part) }

-- One part after another.
pub put_put : (before : List ℕ) (at : ℕ) (one two : List ℕ) (n m : ℕ) (mid after : List ℕ) → at + length (one ++ two) ≤ length before → Put before at one n mid → Put mid n two m after → Put before at (one ++ two) m after
put_put before at one two n m mid after h p q =
    let f = fill_more (take at before ++ (one ++ two)) before before at one two (fill_begin before at (one ++ two) h) n mid p in
    let g = fill_more (take at before ++ (one ++ two)) before mid n two [] (rw append-nil f) m after q in
    fill_put before at (one ++ two) after m (omega arith) g

-- A buffer with a part at its start.
pub put_over : (before part now : List ℕ) (n : ℕ) → Put before 0 part n now → now ≡ over part before
unfolding over
put_over before part now n p = let z : 0 + length part ≡ length part = omega arith in p.put ∙ rw (z, take-length part)

-- The first i places of a part are written, from `at` on.
pub record Putting (before : List ℕ) (at : ℕ) (part now : List ℕ) (i : ℕ) : Type 0 where
  pub within : i ≤ length part
  pub room : at + length part ≤ length before
  pub same : length now ≡ length before
  pub front : now ≡ paste before at part i

pub putting_begin : (before : List ℕ) (at : ℕ) (part : List ℕ) → at + length part ≤ length before → Putting before at part before 0
putting_begin before at part h = record { within = omega arith; room = h; same = refl; front = paste-zero before at part }

module _ (before : List ℕ) (at : ℕ) (part now : List ℕ) (i : ℕ) (l : Putting before at part now i) where
  pub putting_turn : (x : ℕ) → i < length part → x ≡ get_or part i 0 → Putting before at part (set now (at + i) x) (i + 1)
  putting_turn x h e =
      let r = l.room in
      record {
        within = omega arith;
        room = l.room;
        same = length-set now (at + i) x ∙ l.same;
        front = rw (l.front, e, add-one i) (paste-suc before at part i 0 (omega arith) h);
      }

  pub putting_end : length part ≤ i → Put before at part (at + i) now
  putting_end h =
      let w = l.within in
      let e : i ≡ length part = omega arith in
      record { next = rw e; put = l.front ∙ ap (paste before at part) e }

-- A list is written element by element, by f.
module _ (f : ℕ → ℕ) (before : List ℕ) (at : ℕ) (list : List ℕ) where
  pub mapping_begin : at + length list ≤ length before → Putting before at (map f list) before 0
  mapping_begin h = putting_begin before at (map f list) (rw length-map h)

  module _ (now : List ℕ) (i : ℕ) (p : Putting before at (map f list) now i) where
    pub mapping_turn : (x : ℕ) → i < length list → x ≡ f (get_or list i 0) → Putting before at (map f list) (set now (at + i) x) (i + 1)
    mapping_turn x h e = putting_turn before at (map f list) now i p x (rw length-map h) (e ∙ sym (get_or-map f list i 0 0 h))

    pub mapping_end : length list ≤ i → Put before at (map f list) (at + length list) now
    mapping_end h =
        let l = length-map list f in
        let w = p.within in
        let e : i ≡ length list = omega arith in
        rw e at (putting_end before at (map f list) now i p (omega arith))
