-- What follows for every format: what both sides have received from the load's last slot on.
use Prim.Native.Nat.{ℕ, ◌+◌, ◌-◌, ◌*◌, ◌≤◌, ◌<◌}
use mathlib.Core.Path.{◌≡◌, sym, ap, ◌∙◌}
use mathlib.Core.Bool.{Bool, true, false, ◌||◌, or-true, or-false}
use mathlib.Core.List.{List, [], ◌∷◌, ◌++◌, map, append_assoc, append-nil}
use native.Mathlib.Omega.{arith}
use native.Mathlib.Decide.{dec_lt}
use lib.Dec.{ltb}
use lib.ListN.{length, take, length-append}
use lib.Seq.{take_all, take-append-le}
use borrow.Author.Tests.{lt-ltb, le-ltb}
use Rattle.registers.specs.Transfer.{rest, added}
use Rattle.registers.specs.declared.settings.Format.{Format}
use Rattle.registers.specs.declared.settings.Settings.{Settings}
use Rattle.serial.proofs.Trace.{iterate, iterate_add, iterate_fixed, trace_map, trace_run}
use Rattle.frames.specs.Bits.{cut}
use Rattle.frames.specs.Slots.{width_of, capture_width}
use Rattle.frames.specs.Lines.{idle_on}
use Rattle.serial.proofs.Exchange.Core.{Receiver, Pair, plain, push, core_cycle}
use Rattle.serial.proofs.Exchange.Settle.{Two, rested, Meets, slots_trace}
use Rattle.serial.proofs.Exchange.Moves.{LiveSlot}
use Rattle.serial.proofs.Exchange.Wiring.{front, holding, starts, last_of, Holds, Wiring, idle_settled, idle_stays}

-- The receive queue ----------------------------------------------------------------------------------------------------

-- the first eight of those held and those that came; the flag if there were more
abbrev pub kept : List ℕ → Receiver → Receiver
kept ws q = record { held = take 8 (q.held ++ ws); ror = q.ror || ltb 8 (length (q.held ++ ws)); log = q.log ++ ws }

push_room : (w : ℕ) (q : Receiver) → length q.held < 8 → push w q ≡ record { held = q.held ++ (w ∷ []); ror = q.ror; log = q.log ++ (w ∷ []) }
unfolding push added
push_room w q l = rw (lt-ltb (length q.held) 8 l, or-false q.ror)

push_full : (w : ℕ) (q : Receiver) → 8 ≤ length q.held → push w q ≡ record { held = q.held; ror = true; log = q.log ++ (w ∷ []) }
unfolding push added
push_full w q l = rw (le-ltb (length q.held) 8 l, or-true q.ror)

kept_nil : (q : Receiver) → length q.held ≤ 8 → kept [] q ≡ q
kept_nil q l = rw (append-nil q.held, append-nil q.log, take_all 8 q.held l, le-ltb 8 (length q.held) l, or-false q.ror)

-- the words of ws one after the other, oldest first
abbrev push_all : List ℕ → Receiver → Receiver
push_all [] q = q
push_all (w ∷ ws) q = push_all ws (push w q)

pushed_kept : (ws : List ℕ) (q : Receiver) → length q.held ≤ 8 → push_all ws q ≡ kept ws q
pushed_kept [] q l = sym (kept_nil q l)
pushed_kept (w ∷ ws) q l = go (λ q' l'. pushed_kept ws q' l') (dec_lt (length q.held) 8)
  where
    go : ((q' : Receiver) → length q'.held ≤ 8 → push_all ws q' ≡ kept ws q') → Dec (length q.held < 8) → push_all ws (push w q) ≡ kept (w ∷ ws) q
    go ih (yes r) =
        rw (push_room w q r) (ih _ (rw (length-append q.held (w ∷ [])) (omega arith)) ∙ rw (append_assoc q.held (w ∷ []) ws, append_assoc q.log (w ∷ []) ws))
    go ih (no r) =
        let n : 8 < length (q.held ++ (w ∷ ws)) = rw (length-append q.held (w ∷ ws)) (omega arith) in
        let e : 8 ≤ length q.held = omega arith in
        rw (push_full w q e)
        (ih _ l ∙ rw (take-append-le 8 q.held ws e, take-append-le 8 q.held (w ∷ ws) e, lt-ltb 8 (length (q.held ++ (w ∷ ws))) n, or-true q.ror, append_assoc q.log (w ∷ []) ws))

-- as many words of vs as ws has, then zeros
abbrev pub answers : List ℕ → List ℕ → List ℕ
answers [] vs = []
answers (w ∷ ws) vs = front vs ∷ answers ws (rest vs)

-- The end of a load ----------------------------------------------------------------------------------------------------

module _ {f : Format} {phase : Bool} {b h : ℕ} (W : Wiring f phase b h) (l : 6 ≤ h) where
  abbrev sm : Settings
  sm = plain f phase b h false

  abbrev ss : Settings
  ss = plain f phase b h true

  abbrev cycle : Pair → Pair
  cycle = core_cycle sm ss

  abbrev begins : List ℕ → Receiver → List ℕ → Receiver → Pair
  begins ws q vs r = rested (starts (idle_on f false) (holding ws q vs r))

  -- the cycles in which a load is received
  abbrev pub load_cycles : List ℕ → ℕ
  load_cycles [] = 0
  load_cycles (w ∷ ws) = W.slots (length ws) * h

  abbrev load_end : ℕ → List ℕ → Receiver → List ℕ → Receiver → Two
  load_end = last_of (capture_width sm) (width_of sm) W.exchange.final

  meets : (t : Two) → LiveSlot sm ss t → Meets sm ss (λ x. Unit {0}) (λ x. Unit {0}) t
  meets t live = record { live = live; before = tt; during = λ i. tt; slave = tt; sees = tt; rests = tt }

  load-run : (w : ℕ) (ws : List ℕ) (q : Receiver) (vs : List ℕ) (r : Receiver) → iterate (load_cycles (w ∷ ws)) cycle (begins (w ∷ ws) q vs r) ≡ rested (load_end w ws q vs r)
  load-run w ws q vs r = trace_run (slots_trace sm ss (λ x. Unit {0}) (λ x. Unit {0}) W.lawful l (idle_settled f phase b h W.stays_idle (holding (w ∷ ws) q vs r)) (trace_map meets (W.exchange.run w ws q vs r)))

  load_ever : (w : ℕ) (ws : List ℕ) (q : Receiver) (vs : List ℕ) (r : Receiver) (n : ℕ)
      → Holds (push_all (map (cut (capture_width sm)) (answers (w ∷ ws) vs)) q) (push_all (map (cut (width_of sm)) (w ∷ ws)) r) (iterate n cycle (rested (load_end w ws q vs r)))
  load_ever w [] q vs r n = W.exchange.ever w q vs r n
  load_ever w (u ∷ ws) q vs r n = load_ever u ws _ (rest vs) _ n

  pub has_received : (ws : List ℕ) (q : Receiver) (vs : List ℕ) (r : Receiver) (n : ℕ) → load_cycles ws ≤ n → length q.held ≤ 8 → length r.held ≤ 8
      → Holds (kept (map (cut (capture_width sm)) (answers ws vs)) q) (kept (map (cut (width_of sm)) ws) r) (iterate n cycle (begins ws q vs r))
  has_received [] q vs r n k p p' =
      let e = iterate_fixed cycle (begins [] q vs r) (idle_stays f phase b h W.stays_idle q vs r) n in
      (ap (λ (x : Pair). x.m.rx) e ∙ sym (kept_nil q p), ap (λ (x : Pair). x.s.rx) e ∙ sym (kept_nil r p'))
  has_received (w ∷ ws) q vs r n k p p' =
      let j = n - load_cycles (w ∷ ws) in
      let total : n ≡ load_cycles (w ∷ ws) + j = omega arith in
      let e : iterate n cycle (begins (w ∷ ws) q vs r) ≡ iterate j cycle (rested (load_end w ws q vs r)) =
      ap (λ (x : ℕ). iterate x cycle (begins (w ∷ ws) q vs r)) total ∙ iterate_add cycle (load_cycles (w ∷ ws)) j (begins (w ∷ ws) q vs r) ∙ ap (iterate j cycle) (load-run w ws q vs r) in
      let h = load_ever w ws q vs r j in
      (ap (λ (x : Pair). x.m.rx) e ∙ h.0 ∙ pushed_kept (map (cut (capture_width sm)) (answers (w ∷ ws) vs)) q p, ap (λ (x : Pair). x.s.rx) e ∙ h.1 ∙ pushed_kept (map (cut (width_of sm)) (w ∷ ws)) r p')
