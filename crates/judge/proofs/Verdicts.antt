-- What following a recording tells is what lists of words give.
use Prim.Native.Nat.{ℕ, zero, suc, ◌≤◌}
use mathlib.Core.Path.{◌≡◌, refl, sym, ap, ◌∙◌, subst}
use mathlib.Core.Bool.{true}
use mathlib.Core.List.{List, [], ◌∷◌, ◌++◌, map}
use native.Mathlib.Omega.{arith}
use lib.ListN.{length, replicate}
use Rattle.registers.specs.declared.settings.Format.{Format}
use Rattle.registers.specs.declared.settings.Format.TheVariants.{Motorola, Ti, Microwire, Reserved}
use Rattle.registers.specs.declared.settings.Settings.{Settings}
use Rattle.frames.specs.Bits.{cut}
use Rattle.frames.specs.Lines.{byte_of}
use Rattle.frames.specs.Slots.{width_on, width_of}
use Rattle.frames.specs.declared.lines.Lines.{Lines}
use Rattle.serial.specs.Drawing.{drawing, stretch}
use Rattle.judge.specs.Judge.{can_enable, settings, cut_words, in_eight, Gives, Accepted, Given, NotGiven}
use Rattle.judge.specs.Follow.{Permitted}
use Rattle.judge.specs.Place.{motorola_table, ti_table, microwire_table, table_on, table_of}
use Rattle.judge.specs.declared.place.Table.{Table}
use Rattle.judge.proofs.Preloaded.{bytes_of, permitted, gives_drawing, drawing_gives}
use Rattle.judge.proofs.Rests.{whole, Good}
use Rattle.judge.proofs.Tables.{drawn, good}
use Rattle.judge.proofs.Way.{start_could, start_told}
use Rattle.judge.proofs.Follow.{spread, Recorded, Stops}

-- A drawing's bytes, each for h cycles ----------------------------------------------------------------------------------------

map-replicate : (n : ℕ) (l : Lines) (ks : List Lines) → map byte_of (replicate n l ++ ks) ≡ replicate n (byte_of l) ++ map byte_of ks
map-replicate zero l ks = refl
map-replicate (suc n) l ks = ap (λ (r : List ℕ). byte_of l ∷ r) (map-replicate n l ks)

stretch_bytes : (h : ℕ) (ls : List Lines) → map byte_of (stretch h ls) ≡ spread h (map byte_of ls)
stretch_bytes h [] = refl
stretch_bytes h (l ∷ ls) = map-replicate h l (stretch h ls) ∙ ap (λ (r : List ℕ). replicate h (byte_of l) ++ r) (stretch_bytes h ls)

width_on_lem : (f : Format) (s : Settings) → (f ≡ Reserved → ⊥) → (table_on f s).width ≡ width_on f s.bits
unfolding motorola_table ti_table microwire_table
width_on_lem Motorola s n = refl
width_on_lem Ti s n = refl
width_on_lem Microwire s n = refl
width_on_lem Reserved s n = absurd (n refl)

width_same : (s : Settings) → Permitted s → (table_of s).width ≡ width_of s
unfolding table_of width_of
width_same s p = width_on_lem s.format s p.serves

good_table : (s : Settings) → Permitted s → Good (table_of s)
good_table s p = good s p.serves (let l = p.least in omega arith) p.most

pub good_settings : (t : Table) (s : Settings) → t ≡ table_of s → Permitted s → Good t
good_settings t s e p = subst Good (sym e) (good_table s p)

-- what a list gives, by the table
bytes_whole : (s : Settings) → Permitted s → (w : ℕ) (ws : List ℕ) → bytes_of s (w ∷ ws) ≡ spread s.divisor.0 (whole (table_of s) w ws)
bytes_whole s p w ws = stretch_bytes s.divisor.0 (drawing s (w ∷ ws)) ∙ ap (spread s.divisor.0) (drawn s p.serves (let l = p.least in omega arith) w ws)

-- Lists and recordings of the table ----------------------------------------------------------------------------------------------

module _ (cr0 cpsr : ℕ) (can : can_enable cr0 cpsr ≡ true) where
  abbrev S : Settings
  S = settings cr0 cpsr

  abbrev T : Table
  T = table_of S

  abbrev H : ℕ
  H = S.divisor.0

  perm : Permitted S
  perm = permitted cr0 cpsr can

  cut-same : (ws : List ℕ) → map (cut T.width) ws ≡ cut_words cr0 cpsr ws
  unfolding cut_words
  cut-same ws = ap (λ (n : ℕ). map (cut n) ws) (width_same S perm)

  -- what a list gives is a recording of the table
  gives_recorded : (ws r : List ℕ) → Gives cr0 cpsr ws r → Recorded T H r (cut_words cr0 cpsr ws)
  gives_recorded [] r g = let l = g.one in absurd (omega arith)
  gives_recorded (w ∷ ws) r g = record {
    lines = whole T w ws;
    could = start_could T (good_table S perm) 0 T.leads [] (whole T w ws) (cut_words cr0 cpsr (w ∷ ws)) w ws g.words.0 g.words.1 (let l = g.eight in omega arith) refl (sym (cut-same (w ∷ ws)));
    bytes = gives_drawing cr0 cpsr (w ∷ ws) r g ∙ bytes_whole S perm w ws;
  }

  -- and each of these is given by a list
  recorded_gives : (r us : List ℕ) → Recorded T H r us → Accepted cr0 cpsr r us
  recorded_gives r us k =
      let q = start_told T (good_table S perm) 0 T.leads [] k.lines us k.could in
      let ws = q.head ∷ q.others in
      record {
        list = ws;
        gives = subst (λ (x : List ℕ). Gives cr0 cpsr ws x)
            (bytes_whole S perm q.head q.others ∙ ap (spread H) (sym q.shows) ∙ sym k.bytes)
            (drawing_gives cr0 cpsr can ws (let l = q.room in omega arith) (let l = q.room in omega arith) (q.small, q.smalls));
        words = q.all ∙ cut-same ws;
      }

  pub stops_none : (r : List ℕ) (n : ℕ) → Stops T H r n → NotGiven cr0 cpsr r n
  stops_none r n k = record {
    none = λ us a. k.none (cut_words cr0 cpsr a.list) (gives_recorded a.list r a.gives);
    furthest = record {
      reached = (let q = k.reached in let a = recorded_gives q.given q.words q.recorded in record { list = a.list; given = q.given; gives = a.gives; cycles = q.cycles });
      most = λ m a. subst (λ (j : ℕ). j ≤ n) a.cycles (k.most a.given (cut_words cr0 cpsr a.list) (gives_recorded a.list a.given a.gives));
    };
  }

  -- a recording of the table's, with its words in eight places
  pub recorded_given : (r us places : List ℕ) (n : ℕ) → Recorded T H r us → n ≡ length us → places ≡ in_eight us → Given cr0 cpsr r n places
  recorded_given r us places n k c e = record { words = us; accepted = recorded_gives r us k; count = c; eight = e }
