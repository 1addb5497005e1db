use mathlib.Core.Path.{◌∙◌}
use mathlib.Core.Bool.{◌&&◌}
use lib.Dec.{leb}
use Rattle.std.proofs.Common.{rules, tests, true}
use Rattle.std.proofs.lemmas.Iterator.{YieldsList-from_slice}
use Rattle.std.proofs.lemmas.Iterator.Consumers.{fold_from_yields_List}
use Rattle.device_record.proofs.Runs.{fits_lem}
use Rattle.device_record.proofs.run.inputs_fit.Goals as goal

pub returns : goal.returns
returns c =
    fold_from_yields_List _ (λ all byte. all && leb byte 7) true _ c.fold.ensures.ran (YieldsList-from_slice c.args.input.now cc) (λ all byte r q k. search (rules, tests))
    ∙ fits_lem true c.args.input.now
