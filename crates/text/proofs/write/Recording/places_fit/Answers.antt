use Rattle.text.proofs.Writing.{places_turn, places_low, places_high, places_end}
use Rattle.text.proofs.write.Recording.places_fit.Goals as goal
use Rattle.text.proofs.write.Recording.places_fit.Goals.{then-place-low-via-then-place-low, then-place-low-via-else-place-low+then-self-place}

pub returns-then-place-low : goal.returns-then-place-low
returns-then-place-low c =
    elim c.then-place-low.branch [
      | then-place-low-via-then-place-low w ↦ places_low _ _ _ _ c.loop-place.invariant c.loop-place-test.true w.if-place-low.true
      | then-place-low-via-else-place-low+then-self-place w ↦ places_high _ _ _ _ c.loop-place.invariant c.loop-place-test.true w.if-place-low.false w.if-self-place.true
    ]

pub loop-place-preserved : goal.loop-place-preserved
loop-place-preserved c = places_turn _ _ _ _ c.loop-place.invariant c.loop-place-test.true c.if-place-low.false c.if-self-place.false

pub returns : goal.returns
returns c = places_end _ _ _ _ c.loop-place.invariant c.loop-place-test.false
