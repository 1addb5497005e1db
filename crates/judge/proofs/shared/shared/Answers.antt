use mathlib.Core.Path.{ap, ◌∙◌}
use lib.Dec.{eqb}
use lib.ListN.{take}
use Rattle.std.specs.Iterator.Adapters.{zip_first, zip_second}
use Rattle.std.specs.Slice.Iter.{iter_rest}
use Rattle.std.proofs.Common.{rules, tests}
use Rattle.std.proofs.lemmas.Iterator.{YieldsList-from_slice, YieldsList-from_zip}
use Rattle.std.proofs.lemmas.Iterator.Consumers.{count_from_yields_List}
use Rattle.std.proofs.lemmas.Iterator.Search.{YieldsList-from_take_while}
use Rattle.judge.proofs.Sharing.{shared_zip}
use Rattle.judge.proofs.shared.shared.Goals as goal

pub returns : goal.returns
returns c =
    let n = c.min-n.result in
    let s = c.take_while.ensures.source in
    let xs = YieldsList-from_slice (take n c.args.first.now) (ap (λ z. iter_rest (zip_first z)) s ∙ ap iter_rest c.zip.ensures.first ∙ c.iter.ensures.rest) in
    let ys = YieldsList-from_slice (take n c.args.second.now) (ap (λ z. iter_rest (zip_second z)) s ∙ c.zip.ensures.second.0) in
    count_from_yields_List c.take_while.result _ c.count.ensures.ran
    (YieldsList-from_take_while _ (λ p. eqb p.0 p.1) (YieldsList-from_zip xs ys) c.take_while.ensures.closure c.take_while.ensures.done (λ x b q k. search (rules, tests)))
    ∙ shared_zip c.args.first.now c.args.second.now n c.min-n.ensures
