use Rattle.std.proofs.Common.{rules}
use Rattle.std.proofs.lemmas.Fn.{always_returns_same}
use Rattle.text.specs.Read.{value_of}
use Rattle.text.proofs.Reading.{filling_begin, cut_made, start_place, cycles_room, filling_turn, filling_end}
use Rattle.text.proofs.read.fill.Goals as goal

pub loop-m-init : goal.loop-m-init
loop-m-init c = filling_begin _ _ _ c.requires _ _ (search rules) (search rules)

pub bounds-starts-m : goal.bounds-starts-m
bounds-starts-m c =
    let s = c.in-Some.ensures.steps in
    start_place _ _ _ _ _ _ _ _ c.loop-m.invariant _ _ (cut_made _ (always_returns_same _ _ _ (λ a r f k. search rules)) s.0) _ s.1

pub put_mapped-n-requires-clause-room : goal.put_mapped-n-requires-clause-room
put_mapped-n-requires-clause-room c =
    cycles_room _ _ _ _ _ _ _ _ c.loop-m.invariant _ _ (cut_made _ (always_returns_same _ _ _ (λ a r f k. search rules)) c.in-Some.ensures.steps.0)

pub loop-m-preserved : goal.loop-m-preserved
loop-m-preserved c =
    let s = c.in-Some.ensures.steps in
    filling_turn _ _ _ _ _ _ _ _ c.loop-m.invariant _ _ (cut_made _ (always_returns_same _ _ _ (λ a r f k. search rules)) s.0)
    _ _ _ _ s.1 s.2 (c.put_mapped-n.ensures value_of (λ x y h e. e))

pub returns : goal.returns
returns c = filling_end _ _ _ _ _ _ _ _ c.loop-m.invariant c.in-None.ensures.steps.0.0
