use Rattle.std.proofs.Common.{◌≡◌, length, drop}
use Rattle.text.specs.Text.{places_fit}
use Rattle.text.proofs.write.Recording.places_fit.Given as goal

abbrev pub invariant-loop-place : goal.invariant-loop-place
invariant-loop-place l = places_fit 0 (length l.self.cycles.now) l.self.places.now ≡ places_fit l.low (length l.self.cycles.now) (drop l.place-index l.self.places.now)
