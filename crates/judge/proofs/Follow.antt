-- A recording followed slot by slot: at each place the lists that it could still be are those that the place admits.
use Prim.Native.Nat.{ℕ, zero, suc, ◌+◌, ◌≤◌, ◌<◌}
use mathlib.Core.Path.{◌≡◌, refl, sym, ap, ◌∙◌, subst}
use mathlib.Core.Bool.{Bool, true, false}
use mathlib.Core.Logic.{◌⊎◌, inl, inr}
use mathlib.Core.List.{List, [], ◌∷◌, ◌++◌, append_assoc, append-nil}
use native.Mathlib.Omega.{arith}
use lib.Dec.{eqb}
use lib.ListN.{length, take, drop, replicate, length-append, length-replicate, length-drop, take-append-drop}
use lib.Seq.{length-take-le, take-add, take_at, take-length, drop-length}
use borrow.Author.Tests.{eqb-true, eqb-false}
use Rattle.judge.specs.Shared.{shared}
use Rattle.judge.specs.Place.{word_start, over}
use Rattle.judge.specs.declared.place.Table.{Table}
use Rattle.judge.specs.declared.place.Place.{Place}
use Rattle.judge.proofs.Rests.{Good}
use Rattle.judge.proofs.Sharing.{shared_most, shared_self, shared_apart, shared_none, shared-append, shared_full, shared_part}
use Rattle.judge.proofs.Way.{next_of, Fine, Could, done_after, Way, way, start_fine, false_true}
use Rattle.judge.proofs.Ends.{Somehow, somehow, over_could, could_over}

-- Each slot for h cycles ------------------------------------------------------------------------------------------------------

-- each byte for h cycles
abbrev pub spread : ℕ → List ℕ → List ℕ
spread h [] = []
spread h (x ∷ xs) = replicate h x ++ spread h xs

-- Lists of words and their recordings -------------------------------------------------------------------------------------------

-- A recording that the table gives, each slot for h cycles, with its words cut to size.
pub record Recorded (t : Table) (h : ℕ) (r us : List ℕ) : Type 0 where
  pub lines : List ℕ
  pub could : Could t (word_start t t.leads 0) [] lines us
  pub bytes : r ≡ spread h lines

-- a recording that shares at most n cycles with r, and is not r
record Missed (r : List ℕ) (n : ℕ) (s : List ℕ) : Type 0 where
  early : shared s r ≤ n
  other : s ≡ r → ⊥

-- what a recording shows from cycle n on, at a place
record Goes (t : Table) (h : ℕ) (r : List ℕ) (n : ℕ) (p : Place) (done s us : List ℕ) : Type 0 where
  lines : List ℕ
  could : Could t p done lines us
  bytes : s ≡ take n r ++ spread h lines

-- After n cycles of r: the recordings that share them are those that the place admits.
pub record Follows (t : Table) (h : ℕ) (r : List ℕ) (n : ℕ) (p : Place) (done : List ℕ) : Type 0 where
  pub within : n ≤ length r
  pub fine : Fine t p
  sound : (ls us : List ℕ) → Could t p done ls us → Recorded t h (take n r ++ spread h ls) us
  complete : (s us : List ℕ) → Recorded t h s us → Goes t h r n p done s us ⊎ Missed r n s

-- A recording of the table's that shares n cycles with r.
pub record Reaches (t : Table) (h : ℕ) (r : List ℕ) (n : ℕ) : Type 0 where
  pub given : List ℕ
  pub words : List ℕ
  pub recorded : Recorded t h given words
  pub cycles : shared given r ≡ n

-- r is none of the table's recordings; one shares n cycles with it, and none more.
pub record Stops (t : Table) (h : ℕ) (r : List ℕ) (n : ℕ) : Type 0 where
  pub reached : Reaches t h r n
  pub most : (s us : List ℕ) → Recorded t h s us → shared s r ≤ n
  pub none : (us : List ℕ) → Recorded t h r us → ⊥

module _ (t : Table) (g : Good t) (h : ℕ) (z : 0 < h) where
  pub follows_start : (r : List ℕ) → Follows t h r 0 (word_start t t.leads 0) []
  follows_start r = record {
    within = omega arith;
    fine = start_fine t g 0 t.leads (omega arith);
    sound = λ ls us k. record { lines = ls; could = k; bytes = refl };
    complete = λ s us k. inl (record { lines = k.lines; could = k.could; bytes = k.bytes });
  }

  -- The rest of r, split off -----------------------------------------------------------------------------------------------------

  rest_of : (r : List ℕ) (n : ℕ) → r ≡ take n r ++ drop n r
  rest_of r n = sym (take-append-drop n r)

  -- how far a recording that shares n cycles goes on sharing
  shared_from : (r : List ℕ) (n : ℕ) → n ≤ length r → (ls : List ℕ) → shared (take n r ++ ls) r ≡ n + shared ls (drop n r)
  shared_from r n l ls =
      ap (shared (take n r ++ ls)) (rest_of r n)
      ∙ shared-append (take n r) ls (drop n r)
      ∙ ap (λ (k : ℕ). k + shared ls (drop n r)) (length-take-le n r l)

  -- a recording that shares too few cycles is not r
  missed_by : (r : List ℕ) (n : ℕ) (s : List ℕ) → shared s r ≤ n → n < length r → Missed r n s
  missed_by r n s l k = record { early = l; other = λ e. let q : shared r r ≤ n = subst (λ (x : List ℕ). shared x r ≤ n) e l in absurd (omega (arith, shared_self r, q)) }

  -- another byte than the next one of r
  spread_apart : (r : List ℕ) (n x y : ℕ) (ls more : List ℕ) → n ≤ length r → drop n r ≡ x ∷ more → (y ≡ x → ⊥) → shared (take n r ++ spread h (y ∷ ls)) r ≡ n
  spread_apart r n x y ls more l e a =
      shared_from r n l (spread h (y ∷ ls))
      ∙ ap (λ (q : List ℕ). n + shared (spread h (y ∷ ls)) q) e
      ∙ go h z
    where
      go : (k : ℕ) → 0 < k → n + shared (replicate k y ++ spread h ls) (x ∷ more) ≡ n
      go zero b = absurd (omega arith)
      go (suc k) b = omega (arith, shared_apart y x (replicate k y ++ spread h ls) more a)

  -- no more bytes
  spread_none : (r : List ℕ) (n : ℕ) → n ≤ length r → shared (take n r ++ []) r ≡ n
  unfolding shared
  spread_none r n l = shared_from r n l [] ∙ omega arith

  -- A slot of h cycles ------------------------------------------------------------------------------------------------------------

  -- how many of the next h cycles are x
  abbrev pub run_of : List ℕ → ℕ → ℕ → ℕ
  run_of r n x = shared (replicate h x) (drop n r)

  -- the next cycle of r
  abbrev pub Next : List ℕ → ℕ → ℕ → Type 0
  Next r n x = drop n r ≡ x ∷ drop (n + 1) r

  next_within : (r : List ℕ) (n x : ℕ) → Next r n x → n < length r
  next_within r n x e = let q : length (drop n r) ≡ suc (length (drop (n + 1) r)) = ap length e in omega (arith, q, length-drop n r)

  run_full : (r : List ℕ) (n x : ℕ) → run_of r n x ≡ h → drop n r ≡ replicate h x ++ drop h (drop n r)
  run_full r n x e =
      let l = length-replicate h x in
      shared_full (replicate h x) (drop n r) (e ∙ sym l) ∙ ap (λ (k : ℕ). replicate h x ++ drop k (drop n r)) l

  take-run : (r : List ℕ) (n x : ℕ) → run_of r n x ≡ h → take (n + h) r ≡ take n r ++ replicate h x
  take-run r n x e =
      take-add n h r
      ∙ ap (λ (q : List ℕ). take n r ++ take h q) (run_full r n x e)
      ∙ ap (λ (q : List ℕ). take n r ++ q) (take_at (replicate h x) (drop h (drop n r)) h (length-replicate h x))

  run_within : (r : List ℕ) (n x : ℕ) → n ≤ length r → run_of r n x ≡ h → n + h ≤ length r
  run_within r n x l e =
      let q : length (drop n r) ≡ length (replicate h x) + length (drop h (drop n r)) = ap length (run_full r n x e) ∙ length-append (replicate h x) (drop h (drop n r)) in
      omega (arith, l, q, length-drop n r, length-replicate h x)

  -- a recording with h cycles of x from n on
  spread_run : (r : List ℕ) (n x : ℕ) (ls : List ℕ) → run_of r n x ≡ h → take n r ++ spread h (x ∷ ls) ≡ take (n + h) r ++ spread h ls
  spread_run r n x ls e = sym (append_assoc (take n r) (replicate h x) (spread h ls)) ∙ ap (λ (q : List ℕ). q ++ spread h ls) (sym (take-run r n x e))

  module _ (r : List ℕ) (n x : ℕ) (p : Place) (done : List ℕ) (f : Follows t h r n p done) (e : Next r n x) where
    abbrev after : Place
    after = (next_of t p x).place

    abbrev done_then : List ℕ
    done_then = done_after p after done

    way_on : Way t p
    way_on = way t g p f.fine

    -- a recording that shares n cycles and then shows x
    record Same (s us : List ℕ) : Type 0 where
      lines : List ℕ
      could : Could t p done (x ∷ lines) us
      bytes : s ≡ take n r ++ spread h (x ∷ lines)

    -- or another byte, or none
    same_or : (s us ls : List ℕ) → Could t p done ls us → s ≡ take n r ++ spread h ls → Same s us ⊎ (shared s r ≡ n)
    same_or s us [] c b = inr (ap (λ (q : List ℕ). shared q r) b ∙ spread_none r n f.within)
    same_or s us (y ∷ ls) c b = go (eqb y x) refl
      where
        go : (a : Bool) → eqb y x ≡ a → Same s us ⊎ (shared s r ≡ n)
        go true q =
            let same = eqb-true y x q in
            inl (record { lines = ls; could = subst (λ (k : ℕ). Could t p done (k ∷ ls) us) same c; bytes = b ∙ ap (λ (k : ℕ). take n r ++ spread h (k ∷ ls)) same })
        go false q = inr (ap (λ (k : List ℕ). shared k r) b ∙ spread_apart r n x y ls (drop (n + 1) r) f.within e (eqb-false y x q))

    -- every recording: with x next, or parted by then
    same_or_missed : (s us : List ℕ) → Recorded t h s us → Same s us ⊎ Missed r n s
    same_or_missed s us k = go (f.complete s us k)
      where
        then : Same s us ⊎ (shared s r ≡ n) → Same s us ⊎ Missed r n s
        then (inl q) = inl q
        then (inr q) = inr (missed_by r n s (omega (arith, q)) (next_within r n x e))

        go : Goes t h r n p done s us ⊎ Missed r n s → Same s us ⊎ Missed r n s
        go (inl q) = then (same_or s us q.lines q.could q.bytes)
        go (inr m) = inr m

    pub follows_on : (next_of t p x).fits ≡ true → run_of r n x ≡ h → Follows t h r (n + h) after done_then
    follows_on b q = record {
      within = run_within r n x f.within q;
      fine = way_on.fine x b;
      sound = λ ls us k. subst (λ (s : List ℕ). Recorded t h s us) (spread_run r n x ls q) (f.sound (x ∷ ls) us (way_on.back done x ls us b k));
      complete = λ s us k. go s us (same_or_missed s us k);
    }
      where
        go : (s us : List ℕ) → Same s us ⊎ Missed r n s → Goes t h r (n + h) after done_then s us ⊎ Missed r (n + h) s
        go s us (inl k) = inl (record { lines = k.lines; could = (way_on.on done x k.lines us k.could).could; bytes = k.bytes ∙ spread_run r n x k.lines q })
        go s us (inr m) = inr (record { early = omega (arith, m.early); other = m.other })

    -- The recording goes no further: x does not fit ---------------------------------------------------------------------------------

    -- x is not what a list shows next
    never : (next_of t p x).fits ≡ false → (s us : List ℕ) → Same s us → ⊥
    never b s us k = false_true (sym b ∙ (way_on.on done x k.lines us k.could).fits)

    pub stops_at : (next_of t p x).fits ≡ false → Stops t h r n
    stops_at b = record {
      reached = some (somehow t g p f.fine done);
      most = λ s us k. (go s us (same_or_missed s us k)).early;
      none = λ us k. (go r us (same_or_missed r us k)).other refl;
    }
      where
        go : (s us : List ℕ) → Same s us ⊎ Missed r n s → Missed r n s
        go s us (inl k) = absurd (never b s us k)
        go s us (inr m) = m

        at : (us ls : List ℕ) → Same (take n r ++ spread h ls) us ⊎ (shared (take n r ++ spread h ls) r ≡ n) → shared (take n r ++ spread h ls) r ≡ n
        at us ls (inl k) = absurd (never b (take n r ++ spread h ls) us k)
        at us ls (inr q) = q

        some : Somehow t p done → Reaches t h r n
        some k = record {
          given = take n r ++ spread h k.lines;
          words = k.words;
          recorded = f.sound k.lines k.words k.could;
          cycles = at k.words k.lines (same_or (take n r ++ spread h k.lines) k.words k.lines k.could refl);
        }

    -- or x does not last -------------------------------------------------------------------------------------------------------------

    shared-run : (ls : List ℕ) → run_of r n x < h → shared (take n r ++ spread h (x ∷ ls)) r ≡ n + run_of r n x
    shared-run ls l =
        shared_from r n f.within (spread h (x ∷ ls))
        ∙ ap (λ (k : ℕ). n + k) (shared_part (replicate h x) (spread h ls) (drop n r) (subst (λ (k : ℕ). run_of r n x < k) (sym (length-replicate h x)) l))

    -- it is longer than what is shared
    long_run : (s us : List ℕ) → Same s us → n + h ≤ length s
    long_run s us k =
        let q = length-append (take n r) (spread h (x ∷ k.lines)) in
        let q' = length-append (replicate h x) (spread h k.lines) in
        omega (arith, ap length k.bytes, q, q', length-replicate h x, length-take-le n r f.within)

    pub stops_within : (next_of t p x).fits ≡ true → run_of r n x < h → Stops t h r (n + run_of r n x)
    stops_within b l = record {
      reached = some (somehow t g after (way_on.fine x b) done_then);
      most = λ s us k. most s us (same_or_missed s us k);
      none = λ us k. none us (same_or_missed r us k);
    }
      where
        most : (s us : List ℕ) → Same s us ⊎ Missed r n s → shared s r ≤ n + run_of r n x
        most s us (inl k) = let q = ap (λ (y : List ℕ). shared y r) k.bytes ∙ shared-run k.lines l in omega (arith, q)
        most s us (inr m) = omega (arith, m.early)

        none : (us : List ℕ) → Same r us ⊎ Missed r n r → ⊥
        none us (inl k) =
            let q = ap (λ (y : List ℕ). shared y r) k.bytes ∙ shared-run k.lines l in
            absurd (omega (arith, q, shared_self r, long_run r us k, l))
        none us (inr m) = m.other refl

        some : Somehow t after done_then → Reaches t h r (n + run_of r n x)
        some k = record {
          given = take n r ++ spread h (x ∷ k.lines);
          words = k.words;
          recorded = f.sound (x ∷ k.lines) k.words (way_on.back done x k.lines k.words b k.could);
          cycles = shared-run k.lines l;
        }

  -- The recording ends ----------------------------------------------------------------------------------------------------------------

  pub ends_over : (r : List ℕ) (p : Place) (done : List ℕ) → Follows t h r (length r) p done → over t p ≡ true → Recorded t h r (done ++ (p.word ∷ []))
  ends_over r p done f o =
      subst (λ (s : List ℕ). Recorded t h s (done ++ (p.word ∷ []))) (append-nil (take (length r) r) ∙ take-length r)
      (f.sound [] (done ++ (p.word ∷ [])) (over_could t g p f.fine o done))

  spread_nil : (ls r : List ℕ) → r ≡ r ++ spread h ls → ls ≡ []
  spread_nil [] r e = refl
  spread_nil (x ∷ ls) r e =
      let q = ap length e ∙ length-append r (spread h (x ∷ ls)) in
      let q' = length-append (replicate h x) (spread h ls) in
      absurd (omega (arith, q, q', length-replicate h x, z))

  pub ends_early : (r : List ℕ) (p : Place) (done : List ℕ) → Follows t h r (length r) p done → over t p ≡ false → Stops t h r (length r)
  ends_early r p done f o = record {
    reached = some (somehow t g p f.fine done);
    most = λ s us k. shared_most s r;
    none = λ us k. none us (f.complete r us k);
  }
    where
      whole : (ls : List ℕ) → take (length r) r ++ spread h ls ≡ r ++ spread h ls
      whole ls = ap (λ (q : List ℕ). q ++ spread h ls) (take-length r)

      some : Somehow t p done → Reaches t h r (length r)
      some k = record {
        given = take (length r) r ++ spread h k.lines;
        words = k.words;
        recorded = f.sound k.lines k.words k.could;
        cycles = shared_from r (length r) f.within (spread h k.lines) ∙ ap (λ (q : List ℕ). length r + shared (spread h k.lines) q) (drop-length r) ∙ omega (arith, shared_none (spread h k.lines));
      }

      none : (us : List ℕ) → Goes t h r (length r) p done r us ⊎ Missed r (length r) r → ⊥
      none us (inl k) =
          let q = spread_nil k.lines r (k.bytes ∙ whole k.lines) in
          false_true (sym o ∙ (could_over t g p f.fine done us (subst (λ (ls : List ℕ). Could t p done ls us) q k.could)).over)
      none us (inr m) = m.other refl
