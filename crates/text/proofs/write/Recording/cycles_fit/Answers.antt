use Rattle.std.proofs.Common.{true, ◌&&◌, leb, ◌∙◌, rules, tests}
use Rattle.std.proofs.lemmas.Iterator.{YieldsList-from_slice}
use Rattle.std.proofs.lemmas.Iterator.Consumers.{fold_from_yields_List}
use Rattle.text.proofs.Writing.{fit_fold}
use Rattle.text.proofs.write.Recording.cycles_fit.Goals as goal

pub returns : goal.returns
returns c =
    let cycles = c.args.self.now.cycles.now in
    fold_from_yields_List _ (λ all x. all && leb x 15) true c.fold.result c.fold.ensures.ran (YieldsList-from_slice cycles cc) (λ a x b q k. search (rules, tests)) ∙ fit_fold true cycles
